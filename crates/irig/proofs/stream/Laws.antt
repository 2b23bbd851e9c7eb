-- What the code of the stream rests on: a search, and then elements that are held behind those that are, are what comes of a row element by element.
-- Assumes nothing.
use Prim.Native.Nat.{ℕ, zero, suc, ◌+◌, ◌-◌, ◌≤◌, ◌<◌}
use mathlib.Core.Path.{◌≡◌, refl, sym, ◌∙◌, ap, ap₂, subst}
use mathlib.Core.Bool.{Bool, true, false, ◌&&◌, not}
use mathlib.Core.List.{List, [], ◌∷◌, ◌++◌, append_assoc, append-nil}
use native.Mathlib.Nat.{add-zero}
use native.Mathlib.Omega.{arith}
use lib.Dec.{ltb, eqb}
use lib.ListN.{length, get_or, take, drop, set, replicate, length-set, length-drop}
use lib.Seq.{drop-cons, take-suc-set, drop-set-lt, get_or-set_same, get_or-take, get_or-drop, paste, paste-zero, length-take-le, take_all}
use borrow.Author.Tests.{eqb-true, ltb-true, eq-eqb, ne_eqb, not-true}
use Rattle.wire.specs.Digits.{pick, below}
use Rattle.wire.proofs.digits.Laws.{zeros, and_right, and_both}
use Rattle.std.specs.Prelude.{sum_by, Result, Some, None, Err}
use Rattle.std.specs.List.{list_all}
use Rattle.std.proofs.lemmas.List.Folds.{sum_by-zero}
use Rattle.wire.specs.declared.numbers.Refusal.{Refusal}
use Rattle.wire.specs.declared.numbers.Answer.{Answer}
use Rattle.wire.specs.declared.words.Moment.{Moment}
use Rattle.wire.proofs.numbers.Names.{unlawful_named}
use Rattle.irig.specs.declared.stream.Stream.{Stream}
use Rattle.irig.specs.declared.stream.RowTaken.{RowTaken}
use Rattle.irig.specs.declared.search.Searched.{Searched}
use Rattle.irig.specs.Reading.{read_frame}
use Rattle.irig.specs.Streams.{searching, lawful, holding, next, Taking, row_taken, frame_ends, behind, one_by_one, take_row, first_held, done, further, searched}
use Rattle.irig.proofs.search.Laws.{searched_more, searched_second, searched_none, Second, second_is}
use Rattle.irig.proofs.reading.Hundred.{only_hundred}
use Rattle.irig.proofs.reading.Laws.{below_one}

-- ZEROS

-- they add up to 0 exactly if all of them are 0
all_zeros : (es : List ℕ) → list_all (λ (e : ℕ). eqb e 0) es ≡ below 1 es
unfolding below
all_zeros [] = refl
all_zeros (e ∷ es) = simp (below_one e, all_zeros es)

pub no_sum : (es : List ℕ) → eqb (sum_by (λ (e : ℕ). e) es) 0 ≡ below 1 es
no_sum es = sum_by-zero (λ (e : ℕ). e) es ∙ all_zeros es

-- A FRAME HAS BEGUN

abbrev pub begun : List ℕ → ℕ → Stream
begun xs h = record { elements = xs; held = h; marked = false }

pub next_held : (xs : List ℕ) (h e : ℕ) → (h ≡ 0 → ⊥) → next (begun xs h) e ≡ begun (set xs h e) (h + 1)
unfolding next
next_held xs h e n = simp (ne_eqb h 0 n)

step_held : (xs : List ℕ) (h e : ℕ) (es : List ℕ) → (h ≡ 0 → ⊥)
    → one_by_one (begun xs h) (e ∷ es) ≡ pick (eqb (h + 1) 100) (frame_ends (begun (set xs h e) (h + 1)) e) (behind 1 (one_by_one (begun (set xs h e) (h + 1)) es))
unfolding one_by_one
step_held xs h e es n = ap (λ (s : Stream). pick (eqb s.held 100) (frame_ends s e) (behind 1 (one_by_one s es))) (next_held xs h e n)

-- one element, stored in front of others
paste_cons : (xs : List ℕ) (h e : ℕ) (es : List ℕ) (n : ℕ) → h < length xs → paste (set xs h e) (suc h) es n ≡ paste xs h (e ∷ es) (suc n)
paste_cons xs h e es n l =
    ap₂ (λ (a b : List ℕ). a ++ take n es ++ b) (take-suc-set xs h e l) (drop-set-lt (suc h + n) xs h e (omega arith))
    ∙ ap₂ (λ (a : List ℕ) (j : ℕ). a ++ drop j xs) (append_assoc (take h xs) (e ∷ []) (take n es)) (let q : suc h + n ≡ h + suc n = omega arith in q)

one_held : (xs : List ℕ) (h e : ℕ) (es : List ℕ) → h < length xs → paste xs h (e ∷ es) 1 ≡ set xs h e
one_held xs h e es l = sym (paste-zero (set xs h e) (suc h) es ∙ paste_cons xs h e es 0 l)

none_held : (xs : List ℕ) (h : ℕ) → begun xs h ≡ begun (paste xs h [] 0) (h + 0)
none_held xs h = ap₂ begun (paste-zero xs h []) (sym (add-zero h))

-- the same row, the first of its elements being held

abbrev short_answer : List ℕ → ℕ → ℕ → Taking
short_answer xs h n = row_taken (begun xs h) n None

short_more : (xs : List ℕ) (h e : ℕ) (es : List ℕ) → h < length xs
    → behind 1 (short_answer (paste (set xs h e) (h + 1) es (length es)) (h + 1 + length es) (length es)) ≡ short_answer (paste xs h (e ∷ es) (suc (length es))) (h + suc (length es)) (suc (length es))
short_more xs h e es l =
    let o : h + 1 ≡ suc h = omega arith in
    let a : h + 1 + length es ≡ h + suc (length es) = omega arith in
    let b : 1 + length es ≡ suc (length es) = omega arith in
    ap (λ (j : ℕ). behind 1 (short_answer (paste (set xs h e) j es (length es)) (h + 1 + length es) (length es))) o
    ∙ ap (λ (ys : List ℕ). behind 1 (short_answer ys (h + 1 + length es) (length es))) (paste_cons xs h e es (length es) l)
    ∙ ap₂ (short_answer (paste xs h (e ∷ es) (suc (length es)))) a b

abbrev whole_answer : List ℕ → ℕ → Taking
whole_answer ys n = row_taken (searching (eqb (get_or ys 99 0) 2)) n (Some (read_frame ys))

whole_more : (xs : List ℕ) (h e : ℕ) (es : List ℕ) (k : ℕ) → h < length xs
    → behind 1 (whole_answer (paste (set xs h e) (h + 1) es (suc k)) (suc k)) ≡ whole_answer (paste xs h (e ∷ es) (suc (suc k))) (suc (suc k))
whole_more xs h e es k l =
    let o : h + 1 ≡ suc h = omega arith in
    let b : 1 + suc k ≡ suc (suc k) = omega arith in
    ap (λ (j : ℕ). behind 1 (whole_answer (paste (set xs h e) j es (suc k)) (suc k))) o
    ∙ ap (λ (ys : List ℕ). behind 1 (whole_answer ys (suc k))) (paste_cons xs h e es (suc k) l)
    ∙ ap (whole_answer (paste xs h (e ∷ es) (suc (suc k)))) b

whole_last : (xs : List ℕ) (h e : ℕ) (es : List ℕ) → length xs ≡ 100 → h ≡ 99
    → pick (eqb (h + 1) 100) (frame_ends (begun (set xs h e) (h + 1)) e) (behind 1 (one_by_one (begun (set xs h e) (h + 1)) es)) ≡ whole_answer (paste xs h (e ∷ es) 1) 1
whole_last xs h e es l q =
    let i : h < length xs = rw l (let r : h < 100 = omega arith in r) in
    let g : get_or (set xs h e) 99 0 ≡ e = ap (λ (j : ℕ). get_or (set xs h e) j 0) (sym q) ∙ get_or-set_same xs h e 0 i in
    ap (λ (t : Bool). pick t (frame_ends (begun (set xs h e) (h + 1)) e) (behind 1 (one_by_one (begun (set xs h e) (h + 1)) es))) (eq-eqb (h + 1) 100 (omega arith))
    ∙ ap (λ (x : ℕ). row_taken (searching (eqb x 2)) 1 (Some (read_frame (set xs h e)))) (sym g)
    ∙ ap (λ (ys : List ℕ). whole_answer ys 1) (sym (one_held xs h e es i))

-- a row that does not finish the frame
pub held_short : (es xs : List ℕ) (h : ℕ) → length xs ≡ 100 → (h ≡ 0 → ⊥) → h + length es < 100
    → one_by_one (begun xs h) es ≡ row_taken (begun (paste xs h es (length es)) (h + length es)) (length es) None
unfolding one_by_one
held_short [] xs h l z k = ap (λ (s : Stream). row_taken s 0 None) (none_held xs h)
held_short (e ∷ es) xs h l z k =
    step_held xs h e es z
    ∙ ap (λ (t : Bool). pick t (frame_ends (begun (set xs h e) (h + 1)) e) (behind 1 (one_by_one (begun (set xs h e) (h + 1)) es))) (ne_eqb (h + 1) 100 (λ q. omega arith))
    ∙ ap (behind 1) (held_short es (set xs h e) (h + 1) (length-set xs h e ∙ l) (λ q. omega arith) (omega arith))
    ∙ short_more xs h e es (rw l (let q : h < 100 = omega arith in q))

-- a row that finishes it
pub held_whole : (k : ℕ) (es xs : List ℕ) (h : ℕ) → length xs ≡ 100 → (h ≡ 0 → ⊥) → h + suc k ≡ 100 → suc k ≤ length es
    → one_by_one (begun xs h) es ≡ row_taken (searching (eqb (get_or (paste xs h es (suc k)) 99 0) 2)) (suc k) (Some (read_frame (paste xs h es (suc k))))
held_whole k [] xs h l z q m = absurd (omega arith)
held_whole zero (e ∷ es) xs h l z q m = step_held xs h e es z ∙ whole_last xs h e es l (omega arith)
held_whole (suc k) (e ∷ es) xs h l z q m =
    step_held xs h e es z
    ∙ ap (λ (t : Bool). pick t (frame_ends (begun (set xs h e) (h + 1)) e) (behind 1 (one_by_one (begun (set xs h e) (h + 1)) es))) (ne_eqb (h + 1) 100 (λ r. omega arith))
    ∙ ap (behind 1) (held_whole k es (set xs h e) (h + 1) (length-set xs h e ∙ l) (λ r. omega arith) (omega arith) (omega arith))
    ∙ whole_more xs h e es k (rw l (let r : h < 100 = omega arith in r))

-- the hundred that are held when a frame ends
hundred_held : (es : List ℕ) → paste (set (replicate 100 0) 0 2) 1 es 99 ≡ 2 ∷ take 99 es
hundred_held es = append-nil (2 ∷ take 99 es)

module _ (es : List ℕ) (l : 99 ≤ length es) where
  same_read : read_frame (2 ∷ take 99 es) ≡ read_frame (2 ∷ es)
  same_read = only_hundred (2 ∷ es) (omega arith)

  last_is : get_or (2 ∷ take 99 es) 99 0 ≡ get_or es 98 0
  last_is = get_or-take 99 es 98 0 (omega arith)

  pub rest_is : drop 98 es ≡ get_or es 98 0 ∷ drop 99 es
  rest_is = drop-cons es 98 0 (omega arith)

  -- a frame that has begun ends, and the search goes on from its last element
  pub ends_whole : one_by_one first_held es ≡ row_taken (searching (eqb (get_or es 98 0) 2)) 99 (Some (read_frame (2 ∷ es)))
  ends_whole =
      held_whole 98 es (set (replicate 100 0) 0 2) 1 refl (λ q. omega arith) refl l
      ∙ ap (λ (ys : List ℕ). row_taken (searching (eqb (get_or ys 99 0) 2)) 99 (Some (read_frame ys))) (hundred_held es)
      ∙ ap₂ (λ (x : ℕ) (r : Result Moment Refusal). row_taken (searching (eqb x 2)) 99 (Some r)) last_is same_read

-- A SEARCH

pub next_search : (m : Bool) (e : ℕ) → (m && eqb e 2) ≡ false → next (searching m) e ≡ searching (eqb e 2)
unfolding next
next_search m e h = simp h

pub next_second : (m : Bool) (e : ℕ) → (m && eqb e 2) ≡ true → next (searching m) e ≡ first_held
unfolding next
next_second m e h =
    ap (λ (t : Bool). pick (not t) (searching (eqb e 2)) (holding (searching m) e)) h
    ∙ ap (λ (x : ℕ). begun (set (replicate 100 0) 0 x) 1) (eqb-true e 2 (and_right m (eqb e 2) h))

pub step_search : (m : Bool) (e : ℕ) (es : List ℕ) → (m && eqb e 2) ≡ false → one_by_one (searching m) (e ∷ es) ≡ behind 1 (one_by_one (searching (eqb e 2)) es)
unfolding one_by_one
step_search m e es h = ap (λ (s : Stream). pick (eqb s.held 100) (frame_ends s e) (behind 1 (one_by_one s es))) (next_search m e h)

pub step_second : (m : Bool) (e : ℕ) (es : List ℕ) → (m && eqb e 2) ≡ true → one_by_one (searching m) (e ∷ es) ≡ behind 1 (one_by_one first_held es)
unfolding one_by_one
step_second m e es h = ap (λ (s : Stream). pick (eqb s.held 100) (frame_ends s e) (behind 1 (one_by_one s es))) (next_second m e h)

behind_behind : (n : ℕ) (t : Taking) → behind 1 (behind n t) ≡ behind (1 + n) t
behind_behind n t = ap (λ (k : ℕ). row_taken t.stream k t.finished) (let q : 1 + (n + t.taken) ≡ 1 + n + t.taken = omega arith in q)

-- what comes of a row by a search in it: the second of two markers is held, and others behind it; or the search goes on
abbrev pub by_search : List ℕ → Searched → Taking
by_search es (Searched.Found k) = behind k (one_by_one first_held (drop k es))
by_search es (Searched.Over m) = row_taken (searching m) (length es) None

by_more : (e : ℕ) (es : List ℕ) (s : Searched) → behind 1 (by_search es s) ≡ by_search (e ∷ es) (further 1 s)
by_more e es (Searched.Found k) =
    behind_behind k (one_by_one first_held (drop k es))
    ∙ ap (λ (j : ℕ). behind (1 + k) (one_by_one first_held (drop j (e ∷ es)))) (let o : suc k ≡ 1 + k = omega arith in o)
by_more e es (Searched.Over m) = ap (λ (j : ℕ). row_taken (searching m) j None) (let o : 1 + length es ≡ suc (length es) = omega arith in o)

search_step : (e : ℕ) (es : List ℕ) (m t : Bool) → (m && eqb e 2) ≡ t → one_by_one (searching (eqb e 2)) es ≡ by_search es (searched (eqb e 2) es)
    → one_by_one (searching m) (e ∷ es) ≡ by_search (e ∷ es) (searched m (e ∷ es))
search_step e es m true q r = step_second m e es q ∙ ap (by_search (e ∷ es)) (sym (searched_second m e es q))
search_step e es m false q r =
    step_search m e es q ∙ ap (behind 1) r ∙ by_more e es (searched (eqb e 2) es) ∙ ap (by_search (e ∷ es)) (sym (searched_more m e es q))

pub search_is : (es : List ℕ) (m : Bool) → one_by_one (searching m) es ≡ by_search es (searched m es)
unfolding one_by_one
search_is [] m = ap (by_search []) (sym (searched_none m))
search_is (e ∷ es) m = search_step e es m (m && eqb e 2) refl (search_is es (eqb e 2))

-- THE CALL

-- what a lawful record holds of a frame that has begun
pub record Begun (xs : List ℕ) (h : ℕ) : Type 0 where
  pub some : h ≡ 0 → ⊥
  pub few : h < 100
  pub first : get_or xs 0 0 ≡ 2
  pub zeros : below 1 (drop h xs) ≡ true

module _ (s : Stream) (row : List ℕ) where
  pub take_18 : lawful s ≡ false → record { after = s; outcome = Err Refusal.Unlawful } ≡ take_row s row
  unfolding take_row
  take_18 h = simp (h, unlawful_named)

  pub take_lawful : lawful s ≡ true → done (one_by_one s row) ≡ take_row s row
  unfolding take_row
  take_lawful h = simp h

  pub lawful_begun : lawful s ≡ true → (s.held ≡ 0 → ⊥) → (s ≡ begun s.elements s.held) × Begun s.elements s.held
  unfolding lawful
  lawful_begun h z =
      let p : (ltb s.held 100 && (not s.marked && (eqb (get_or s.elements 0 0) 2 && below 1 (drop s.held s.elements)))) ≡ true
      = sym (ap (λ (t : Bool). pick t (below 1 s.elements) (ltb s.held 100 && (not s.marked && (eqb (get_or s.elements 0 0) 2 && below 1 (drop s.held s.elements))))) (ne_eqb s.held 0 z)) ∙ h in
      let q = and_both _ _ p in
      let r = and_both _ _ q.1 in
      let t = and_both _ _ r.1 in (
        ap (λ (m : Bool). record { elements = s.elements; held = s.held; marked = m }) (not-true s.marked r.0),
        record { some = z; few = ltb-true s.held 100 q.0; first = eqb-true (get_or s.elements 0 0) 2 t.0; zeros = t.1 },
      )

  pub lawful_searching : lawful s ≡ true → s.held ≡ 0 → length s.elements ≡ 100 → s ≡ searching s.marked
  unfolding lawful
  lawful_searching h z l =
      let b : below 1 s.elements ≡ true
      = sym (ap (λ (t : Bool). pick t (below 1 s.elements) (ltb s.held 100 && (not s.marked && (eqb (get_or s.elements 0 0) 2 && below 1 (drop s.held s.elements))))) (eq-eqb s.held 0 z)) ∙ h in
      ap₂ (λ (xs : List ℕ) (n : ℕ). record { elements = xs; held = n; marked = s.marked }) (zeros s.elements b ∙ ap (λ (n : ℕ). replicate n 0) l) z

-- EACH RETURN OF THE CODE

pub positive : (n : ℕ) → (n ≡ 0 → ⊥) → 0 < n
positive zero z = absurd (z refl)
positive (suc n) z = omega arith

-- a part of a row, stored
pub part_stored : (xs : List ℕ) (h : ℕ) (es : List ℕ) (k : ℕ) → k ≤ length es → paste xs h (take k es) (length (take k es)) ≡ paste xs h es k
part_stored xs h es k l =
    let n : length (take k es) ≡ k = length-take-le k es l in
    ap (paste xs h (take k es)) n ∙ ap (λ (ys : List ℕ). take h xs ++ ys ++ drop (h + k) xs) (take_all k (take k es) (omega arith))

-- the rest of a row, as the code cuts it
pub rest_of : (row : List ℕ) (from : ℕ) → take (length row - from) (drop from row) ≡ drop from row
rest_of row from = let n : length (drop from row) ≡ length row - from = length-drop from row in take_all (length row - from) (drop from row) (omega arith)

module _ (xs row rest : List ℕ) (h from : ℕ) (r : rest ≡ drop from row) (l : length xs ≡ 100) (z : 0 < h) (b : h < 100) (w : from ≤ length row) where
  left_length : length rest ≡ length row - from
  left_length = ap length r ∙ length-drop from row

  abbrev goes_on : List ℕ → Answer Stream RowTaken
  goes_on es = done (behind from (one_by_one (begun xs h) es))

  pub hold_some : length rest < 100 - h → (ys : List ℕ) → ys ≡ paste xs h rest (length rest) → done (row_taken (begun ys (h + length rest)) (length row) None) ≡ goes_on (drop from row)
  hold_some m ys e =
      let n = left_length in
      ap₂ (λ (zs : List ℕ) (k : ℕ). done (row_taken (begun zs (h + length rest)) k None)) e (let q : length row ≡ from + length rest = omega arith in q)
      ∙ ap (λ (t : Taking). done (behind from t)) (sym (held_short rest xs h l (λ q. omega arith) (omega arith)))
      ∙ ap goes_on r

  pub hold_frame : 100 - h ≤ length rest → (ys : List ℕ) → ys ≡ paste xs h rest (100 - h) → (time : Result Moment Refusal) → time ≡ read_frame ys
      → (s : Stream) → s ≡ searching (eqb (get_or ys 99 0) 2) → done (row_taken s (from + (100 - h)) (Some time)) ≡ goes_on (drop from row)
  hold_frame m ys e time t s u =
      let k : 100 - h ≡ suc (99 - h) = omega arith in
      ap₂ (λ (r : Stream) (x : Result Moment Refusal). done (row_taken r (from + (100 - h)) (Some x))) u t
      ∙ ap (λ (zs : List ℕ). done (behind from (whole_answer zs (100 - h)))) e
      ∙ ap (λ (j : ℕ). done (behind from (whole_answer (paste xs h rest j) j))) k
      ∙ ap (λ (t : Taking). done (behind from t)) (sym (held_whole (99 - h) rest xs h l (λ q. omega arith) (omega arith) (omega arith)))
      ∙ ap goes_on r

-- a frame that is whole in the row
pub begin_whole : (row : List ℕ) (from : ℕ) → 0 < from → get_or row (from - 1) 0 ≡ 2 → from ≤ length row → 99 ≤ length row - from
    → (time : Result Moment Refusal) → time ≡ read_frame (take (from + 99 - (from - 1)) (drop (from - 1) row)) → (s : Stream) → s ≡ searching (eqb (get_or row (from + 98) 0) 2)
    → done (row_taken s (from + 99) (Some time)) ≡ done (behind from (one_by_one first_held (drop from row)))
begin_whole row from z e w l time t s u =
    let n : length (drop from row) ≡ length row - from = length-drop from row in
    let m : length (drop (from - 1) row) ≡ length row - (from - 1) = length-drop (from - 1) row in
    let a : drop (from - 1) row ≡ 2 ∷ drop from row
    = drop-cons row (from - 1) 0 (omega arith) ∙ ap₂ (λ (x k : ℕ). x ∷ drop k row) e (let q : suc (from - 1) ≡ from = omega arith in q) in
    ap₂ (λ (r : Stream) (x : Result Moment Refusal). done (row_taken r (from + 99) (Some x)))
    (u ∙ ap (λ (x : ℕ). searching (eqb x 2)) (sym (get_or-drop from row 98 0)))
    (t
    ∙ ap (λ (k : ℕ). read_frame (take k (drop (from - 1) row))) (let q : from + 99 - (from - 1) ≡ 100 = omega arith in q)
    ∙ only_hundred (drop (from - 1) row) (omega arith)
    ∙ ap read_frame a)
    ∙ ap (λ (t : Taking). done (behind from t)) (sym (ends_whole (drop from row) (omega arith)))

behind_none : (t : Taking) → behind 0 t ≡ t
behind_none t = ap (λ (k : ℕ). row_taken t.stream k t.finished) (let q : 0 + t.taken ≡ t.taken = omega arith in q)

module _ (s : Stream) (row : List ℕ) (h : lawful s ≡ true) where
  pub take_held : (s.held ≡ 0 → ⊥) → (a : Answer Stream RowTaken) → a ≡ done (behind 0 (one_by_one (begun s.elements s.held) (drop 0 row))) → a ≡ take_row s row
  take_held z a e =
      e
      ∙ ap (λ (r : Stream). done (behind 0 (one_by_one r row))) (sym (lawful_begun s row h z).0)
      ∙ ap done (behind_none (one_by_one s row))
      ∙ take_lawful s row h

  -- by a search
  pub take_searched : s.held ≡ 0 → length s.elements ≡ 100 → (f : Searched) → f ≡ searched s.marked row → (a : Answer Stream RowTaken) → a ≡ done (by_search row f) → a ≡ take_row s row
  take_searched z l f e a g =
      g
      ∙ ap (λ (r : Searched). done (by_search row r)) e
      ∙ ap done (sym (search_is row s.marked))
      ∙ ap (λ (u : Stream). done (one_by_one u row)) (sym (lawful_searching s row h z l))
      ∙ take_lawful s row h

-- a frame that has begun holds some elements and not all
module _ (s : Stream) (h : lawful s ≡ true) (z : s.held ≡ 0 → ⊥) where
  pub held_some : 0 < s.held
  held_some = positive s.held z

  pub held_few : s.held < 100
  held_few = (lawful_begun s [] h z).1.few

-- the search stays within the row, and ends behind a marker
module _ (m : Bool) (row : List ℕ) (f : Searched) (k : ℕ) (e : f ≡ searched m row) (q : f ≡ Searched.Found k) where
  second : Second row (Searched.Found k)
  second = subst (Second row) (sym e ∙ q) (second_is row m)

  pub found_some : 0 < k
  found_some = second.0

  pub found_within : k ≤ length row
  found_within = second.1

  pub found_marker : get_or row (k - 1) 0 ≡ 2
  found_marker = second.2

pub ruleset holds = (hold_frame, part_stored, rest_of)

pub ruleset takes = (take_18, take_held, take_searched, held_some, held_few, found_some, found_within, found_marker)
