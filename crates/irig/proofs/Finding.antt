-- Any run of calls finds just the frames of the elements that it took, in their order and at their places, and leaves the record that these elements leave: so nothing depends on
-- the cuts. By what comes of the elements one by one. Assumes nothing.
use Prim.Native.Nat.{ℕ, zero, suc, ◌+◌, ◌-◌, ◌≤◌, ◌<◌}
use mathlib.Core.Path.{◌≡◌, refl, sym, ◌∙◌, ap, ap₂, subst}
use mathlib.Core.Bool.{Bool, true, false, ◌&&◌}
use mathlib.Core.List.{List, [], ◌∷◌, ◌++◌, append_assoc, append-nil}
use mathlib.Core.Logic.{⊎_elim}
use native.Mathlib.Nat.{le_refl}
use native.Mathlib.Omega.{arith}
use lib.Dec.{ltb, eqb}
use lib.ListN.{length, get_or, take, drop, set, replicate, length-drop, take-append-drop}
use lib.Seq.{length-take-le, drop-length, drop-drop}
use borrow.Author.Tests.{lt-ltb, le-ltb, eqb-true}
use Rattle.wire.specs.Digits.{pick}
use Rattle.wire.proofs.digits.Laws.{lt_or_le, and_right}
use Rattle.irig.specs.declared.stream.Stream.{Stream}
use Rattle.std.specs.Prelude.{Some, None}
use Rattle.wire.specs.declared.numbers.Answer.{Answer}
use Rattle.irig.specs.declared.stream.RowTaken.{RowTaken}
use Rattle.irig.specs.declared.search.Searched.{Searched}
use Rattle.irig.specs.Reading.{read_frame}
use Rattle.irig.specs.Streams.{searching, fresh_stream, lawful, next, Taking, row_taken, frame_ends, behind, one_by_one, take_row, taking, first_held, further, searched}
use Rattle.irig.specs.Finding.{Found, before_second, frames_from, frames, later_by, after_all, taken_all, found_by, found_all}
use Rattle.irig.proofs.search.Laws.{searched_more, searched_second, searched_none, Second, second_is}
use Rattle.irig.proofs.stream.Laws.{take_18, take_lawful, held_short, rest_is, ends_whole, by_search, search_is, next_search}

-- ELEMENTS ONE BY ONE

-- the record after one more element
abbrev pub step : Stream → ℕ → Stream
step s e = pick (eqb (next s e).held 100) (searching (eqb e 2)) (next s e)

-- the frame that it finishes, o elements having come before
abbrev finishes : ℕ → Stream → ℕ → List Found
finishes o s e = pick (eqb (next s e).held 100) (record { first = o + 1 - 100; read = read_frame (next s e).elements } ∷ []) []

abbrev pub after_each : Stream → List ℕ → Stream
after_each s [] = s
after_each s (e ∷ es) = after_each (step s e) es

abbrev found_each : ℕ → Stream → List ℕ → List Found
found_each o s [] = []
found_each o s (e ∷ es) = finishes o s e ++ found_each (o + 1) (step s e) es

after_both : (xs ys : List ℕ) (s : Stream) → after_each s (xs ++ ys) ≡ after_each (after_each s xs) ys
after_both [] ys s = refl
after_both (x ∷ xs) ys s = after_both xs ys (step s x)

found_both : (xs ys : List ℕ) (o : ℕ) (s : Stream) → found_each o s (xs ++ ys) ≡ found_each o s xs ++ found_each (o + length xs) (after_each s xs) ys
found_both [] ys o s = ap (λ (k : ℕ). found_each k s ys) (let q : o ≡ o + 0 = omega arith in q)
found_both (x ∷ xs) ys o s =
    ap (λ (l : List Found). finishes o s x ++ l) (found_both xs ys (o + 1) (step s x))
    ∙ sym (append_assoc (finishes o s x) (found_each (o + 1) (step s x) xs) (found_each (o + 1 + length xs) (after_each (step s x) xs) ys))
    ∙ ap (λ (k : ℕ). found_each o s (x ∷ xs) ++ found_each k (after_each (step s x) xs) ys) (let q : o + 1 + length xs ≡ o + suc (length xs) = omega arith in q)

-- WHAT A CALL TAKES, ONE BY ONE

record Agrees (o : ℕ) (s : Stream) (row : List ℕ) (t : Taking) : Type 0 where
  within : t.taken ≤ length row
  stream : t.stream ≡ after_each s (take t.taken row)
  found : found_by (o + t.taken) t.finished ≡ found_each o s (take t.taken row)

module _ (o : ℕ) (s : Stream) (e : ℕ) (es : List ℕ) where
  ends : eqb (next s e).held 100 ≡ true → Agrees o s (e ∷ es) (frame_ends (next s e) e)
  ends h =
      record {
        within = omega arith;
        stream = sym (ap (λ (t : Bool). pick t (searching (eqb e 2)) (next s e)) h);
        found = sym (append-nil (finishes o s e) ∙ ap (λ (t : Bool). pick t (record { first = o + 1 - 100; read = read_frame (next s e).elements } ∷ []) []) h);
      }

  goes_on_lem : eqb (next s e).held 100 ≡ false → (t : Taking) → Agrees (o + 1) (next s e) es t → Agrees o s (e ∷ es) (behind 1 t)
  goes_on_lem h t a =
      let n : 1 + t.taken ≡ suc t.taken = omega arith in
      let p : step s e ≡ next s e = ap (λ (b : Bool). pick b (searching (eqb e 2)) (next s e)) h in
      let f : finishes o s e ≡ [] = ap (λ (b : Bool). pick b (record { first = o + 1 - 100; read = read_frame (next s e).elements } ∷ []) []) h in
      record {
        within = let w = a.within in omega arith;
        stream = a.stream ∙ ap (λ (d : Stream). after_each d (take t.taken es)) (sym p) ∙ ap (λ (k : ℕ). after_each s (take k (e ∷ es))) (sym n);
        found =
            ap (λ (k : ℕ). found_by k t.finished) (let q : o + (1 + t.taken) ≡ o + 1 + t.taken = omega arith in q)
            ∙ a.found
            ∙ ap (λ (d : Stream). found_each (o + 1) d (take t.taken es)) (sym p)
            ∙ ap (λ (l : List Found). l ++ found_each (o + 1) (step s e) (take t.taken es)) (sym f)
            ∙ ap (λ (k : ℕ). found_each o s (take k (e ∷ es))) (sym n);
      }

one_agrees : (row : List ℕ) (o : ℕ) (s : Stream) → Agrees o s row (one_by_one s row)
unfolding one_by_one
one_agrees [] o s = record { within = omega arith; stream = refl; found = refl }
one_agrees (e ∷ es) o s = by (eqb (next s e).held 100) refl (one_agrees es (o + 1) (next s e))
  where
    by : (t : Bool) → eqb (next s e).held 100 ≡ t → Agrees (o + 1) (next s e) es (one_by_one (next s e) es)
        → Agrees o s (e ∷ es) (pick t (frame_ends (next s e) e) (behind 1 (one_by_one (next s e) es)))
    by true h a = ends o s e es h
    by false h a = goes_on_lem o s e es h (one_by_one (next s e) es) a

-- a record that is not lawful takes nothing
none_agrees : (o : ℕ) (s : Stream) (row : List ℕ) → Agrees o s row (row_taken s 0 None)
none_agrees o s row = record { within = omega arith; stream = refl; found = refl }

take_agrees : (o : ℕ) (s : Stream) (row : List ℕ) → Agrees o s row (taking (take_row s row))
take_agrees o s row = go (lawful s) refl
  where
    go : (t : Bool) → lawful s ≡ t → Agrees o s row (taking (take_row s row))
    go true h = rw (sym (take_lawful s row h)) (one_agrees row o s)
    go false h = rw (sym (take_18 s row h)) (none_agrees o s row)

-- a call takes no more than its row has
pub taken_within : (s : Stream) (row : List ℕ) (a : Answer Stream RowTaken) → a ≡ take_row s row → (taking a).taken ≤ length row
taken_within s row a e = rw e (take_agrees 0 s row).within

-- A RUN OF CALLS

pub run_after : (rows : List (List ℕ)) (s : Stream) → after_all rows s ≡ after_each s (taken_all rows s)
run_after [] s = refl
run_after (row ∷ rows) s =
    let t : Taking = taking (take_row s row) in
    run_after rows t.stream
    ∙ ap (λ (d : Stream). after_each d (taken_all rows t.stream)) (take_agrees 0 s row).stream
    ∙ sym (after_both (take t.taken row) (taken_all rows t.stream) s)

run_found : (rows : List (List ℕ)) (o : ℕ) (s : Stream) → found_all o rows s ≡ found_each o s (taken_all rows s)
run_found [] o s = refl
run_found (row ∷ rows) o s =
    let t : Taking = taking (take_row s row) in
    let a = take_agrees o s row in
    let l : length (take t.taken row) ≡ t.taken = length-take-le t.taken row a.within in
    ap₂ ◌++◌ a.found (run_found rows (o + t.taken) t.stream)
    ∙ ap (λ (d : Stream). found_each o s (take t.taken row) ++ found_each (o + t.taken) d (taken_all rows t.stream)) a.stream
    ∙ ap (λ (k : ℕ). found_each o s (take t.taken row) ++ found_each (o + k) (after_each s (take t.taken row)) (taken_all rows t.stream)) (sym l)
    ∙ sym (found_both (take t.taken row) (taken_all rows t.stream) o s)

-- FIND: THE SEARCH, AND THE ELEMENTS BEFORE THE SECOND MARKER

before_more : (a c : ℕ) (es : List ℕ) → (eqb a 2 && eqb c 2) ≡ false → before_second (a ∷ (c ∷ es)) ≡ suc (before_second (c ∷ es))
unfolding before_second
before_more a c es h = ap (λ (t : Bool). pick t 1 (suc (before_second (c ∷ es)))) h

before_second_lem : (a c : ℕ) (es : List ℕ) → (eqb a 2 && eqb c 2) ≡ true → before_second (a ∷ (c ∷ es)) ≡ 1
unfolding before_second
before_second_lem a c es h = ap (λ (t : Bool). pick t 1 (suc (before_second (c ∷ es)))) h

before_one : (a : ℕ) → before_second (a ∷ []) ≡ 1
unfolding before_second
before_one a = refl

-- where a search ends, behind an element a
abbrev Ends : ℕ → List ℕ → Searched → Type 0
Ends a es (Searched.Found k) = (before_second (a ∷ es) ≡ k) × (drop k (a ∷ es) ≡ 2 ∷ drop k es)
Ends a es (Searched.Over m) = before_second (a ∷ es) ≡ suc (length es)

module _ (a c : ℕ) (es : List ℕ) where
  ends_second : (eqb a 2 && eqb c 2) ≡ true → Ends a (c ∷ es) (Searched.Found 1)
  ends_second h = (before_second_lem a c es h, ap (λ (x : ℕ). x ∷ es) (eqb-true c 2 (and_right (eqb a 2) (eqb c 2) h)))

  ends_more : (eqb a 2 && eqb c 2) ≡ false → (s : Searched) → Ends c es s → Ends a (c ∷ es) (further 1 s)
  ends_more h (Searched.Found k) e =
      let n : suc k ≡ 1 + k = omega arith in
      (before_more a c es h ∙ ap suc e.0 ∙ n, ap (λ (j : ℕ). drop j (a ∷ (c ∷ es))) (sym n) ∙ e.1 ∙ ap (λ (j : ℕ). 2 ∷ drop j (c ∷ es)) n)
  ends_more h (Searched.Over m) e = before_more a c es h ∙ ap suc e

search_ends : (es : List ℕ) (a : ℕ) → Ends a es (searched (eqb a 2) es)
search_ends [] a = rw (searched_none (eqb a 2)) (before_one a)
search_ends (c ∷ es) a = by (eqb a 2 && eqb c 2) refl (search_ends es c)
  where
    by : (t : Bool) → (eqb a 2 && eqb c 2) ≡ t → Ends c es (searched (eqb c 2) es) → Ends a (c ∷ es) (searched (eqb a 2) (c ∷ es))
    by true h e = rw (searched_second (eqb a 2) c es h) (ends_second a c es h)
    by false h e = rw (searched_more (eqb a 2) c es h) (ends_more a c es h (searched (eqb c 2) es) e)

-- CUT, AND GO ON FROM ELEMENT 99

frames_none : (n o : ℕ) (es : List ℕ) → length es < before_second es + 100 → frames_from (suc n) o es ≡ []
unfolding frames_from
frames_none n o es l = simp (lt-ltb (length es) (before_second es + 100) l)

frames_one : (n o k : ℕ) (es : List ℕ) → before_second es ≡ k → k + 100 ≤ length es
    → frames_from (suc n) o es ≡ record { first = o + k; read = read_frame (drop k es) } ∷ frames_from n (o + (k + 99)) (drop (k + 99) es)
unfolding frames_from
frames_one n o k es e l = simp (e, le-ltb (length es) (k + 100) l)

-- what a call takes, and the rest
after_call : (o : ℕ) (s : Stream) (es : List ℕ) (t : Taking) → one_by_one s es ≡ t
    → found_each o s es ≡ found_by (o + t.taken) t.finished ++ found_each (o + t.taken) t.stream (drop t.taken es)
after_call o s es t e =
    let a : Agrees o s es t = rw (sym e) (one_agrees es o s) in
    ap (found_each o s) (sym (take-append-drop t.taken es))
    ∙ found_both (take t.taken es) (drop t.taken es) o s
    ∙ ap₂ (λ (l : List Found) (k : ℕ). l ++ found_each (o + k) (after_each s (take t.taken es)) (drop t.taken es)) (sym a.found) (length-take-le t.taken es a.within)
    ∙ ap (λ (d : Stream). found_by (o + t.taken) t.finished ++ found_each (o + t.taken) d (drop t.taken es)) (sym a.stream)

-- a call that takes all and finishes nothing
all_taken : (o : ℕ) (s : Stream) (es : List ℕ) (d : Stream) (n : ℕ) → one_by_one s es ≡ row_taken d n None → n ≡ length es → found_each o s es ≡ []
all_taken o s es d n e l =
    after_call o s es (row_taken d n None) e ∙ ap (found_each (o + n) d) (ap (λ (k : ℕ). drop k es) l ∙ drop-length es)

-- THE FRAMES THAT ARE FOUND BEHIND AN ELEMENT

module _ (n : ℕ) (rec : (o a : ℕ) (es : List ℕ) → length es < n → found_each (o + 1) (searching (eqb a 2)) es ≡ frames_from n o (a ∷ es)) (o a : ℕ) (es : List ℕ) (l : length es < suc n) where
  -- the search goes on behind them
  none_found : (m : Bool) → searched (eqb a 2) es ≡ Searched.Over m → found_each (o + 1) (searching (eqb a 2)) es ≡ frames_from (suc n) o (a ∷ es)
  none_found m f =
      let q : before_second (a ∷ es) ≡ suc (length es) = subst (Ends a es) f (search_ends es a) in
      all_taken (o + 1) (searching (eqb a 2)) es (searching m) (length es) (search_is es (eqb a 2) ∙ ap (by_search es) f) refl
      ∙ sym (frames_none n o (a ∷ es) (rw q (omega arith)))

  module _ (k : ℕ) (f : searched (eqb a 2) es ≡ Searched.Found k) where
    abbrev rest : List ℕ
    rest = drop k es

    ends_here : Ends a es (Searched.Found k)
    ends_here = subst (Ends a es) f (search_ends es a)

    place : before_second (a ∷ es) ≡ k
    place = ends_here.0

    element_0 : drop k (a ∷ es) ≡ 2 ∷ rest
    element_0 = ends_here.1

    within : k ≤ length es
    within = let d : Second es (Searched.Found k) = subst (Second es) f (second_is es (eqb a 2)) in d.1

    left : length rest ≡ length es - k
    left = length-drop k es

    begins : one_by_one (searching (eqb a 2)) es ≡ behind k (one_by_one first_held rest)
    begins = search_is es (eqb a 2) ∙ ap (by_search es) f

    too_short : length rest < 99 → found_each (o + 1) (searching (eqb a 2)) es ≡ frames_from (suc n) o (a ∷ es)
    too_short m =
        let w = within in
        let q = left in
        all_taken (o + 1) (searching (eqb a 2)) es _ (k + length rest) (begins ∙ ap (behind k) (held_short rest (set (replicate 100 0) 0 2) 1 refl (λ z. omega arith) (omega arith))) (omega arith)
        ∙ sym (frames_none n o (a ∷ es) (rw place (omega arith)))

    whole_frame : 99 ≤ length rest → found_each (o + 1) (searching (eqb a 2)) es ≡ frames_from (suc n) o (a ∷ es)
    whole_frame m =
        let w = within in
        let q = left in
        let x : ℕ = get_or rest 98 0 in
        let y : length (drop 99 rest) ≡ length rest - 99 = length-drop 99 rest in
        after_call (o + 1) (searching (eqb a 2)) es (row_taken (searching (eqb x 2)) (k + 99) (Some (read_frame (2 ∷ rest)))) (begins ∙ ap (behind k) (ends_whole rest m))
        ∙ ap (λ (j : ℕ). record { first = j; read = read_frame (2 ∷ rest) } ∷ found_each (o + 1 + (k + 99)) (searching (eqb x 2)) (drop (k + 99) es)) (let z : o + 1 + (k + 99) - 100 ≡ o + k = omega arith in z)
        ∙ ap₂ (λ (j : ℕ) (xs : List ℕ). record { first = o + k; read = read_frame (2 ∷ rest) } ∷ found_each j (searching (eqb x 2)) xs) (let z : o + 1 + (k + 99) ≡ o + (k + 99) + 1 = omega arith in z) (sym (drop-drop 99 k es))
        ∙ ap (λ (fs : List Found). record { first = o + k; read = read_frame (2 ∷ rest) } ∷ fs) (rec (o + (k + 99)) x (drop 99 rest) (omega arith))
        ∙ ap₂ (λ (ys zs : List ℕ). record { first = o + k; read = read_frame ys } ∷ frames_from n (o + (k + 99)) zs) (sym element_0) (sym (rest_is rest m) ∙ ap (drop 99) (sym element_0) ∙ drop-drop 99 k (a ∷ es))
        ∙ sym (frames_one n o k (a ∷ es) place (omega arith))

  found_step : found_each (o + 1) (searching (eqb a 2)) es ≡ frames_from (suc n) o (a ∷ es)
  found_step = by (searched (eqb a 2) es) refl
    where
      by : (s : Searched) → searched (eqb a 2) es ≡ s → found_each (o + 1) (searching (eqb a 2)) es ≡ frames_from (suc n) o (a ∷ es)
      by (Searched.Found k) f = ⊎_elim (too_short k f) (whole_frame k f) (lt_or_le (length (drop k es)) 99)
      by (Searched.Over m) f = none_found m f

found_behind : (n o a : ℕ) (es : List ℕ) → length es < n → found_each (o + 1) (searching (eqb a 2)) es ≡ frames_from n o (a ∷ es)
found_behind zero o a es l = absurd (omega arith)
found_behind (suc n) o a es l = found_step n (found_behind n) o a es l

first_step : (a : ℕ) (es : List ℕ) → found_each 0 fresh_stream (a ∷ es) ≡ found_each (0 + 1) (searching (eqb a 2)) es
first_step a es = ap (λ (d : Stream). pick (eqb d.held 100) (record { first = 0 + 1 - 100; read = read_frame d.elements } ∷ []) [] ++ found_each (0 + 1) (pick (eqb d.held 100) (searching (eqb a 2)) d) es) (next_search false a refl)

-- the frames of a whole list are those that its elements finish, one by one
each_finds : (es : List ℕ) → found_each 0 fresh_stream es ≡ frames es
unfolding frames frames_from
each_finds [] = refl
each_finds (a ∷ es) = first_step a es ∙ found_behind (suc (length es)) 0 a es (omega arith)

-- THE FRAMES OF A LIST, ONE BY ONE: as many turns as there are elements are always enough

no_frames : (n o : ℕ) → frames_from n o [] ≡ []
unfolding frames_from before_second
no_frames zero o = refl
no_frames (suc n) o = refl

enough : (n m o : ℕ) (es : List ℕ) → length es ≤ n → length es ≤ m → frames_from n o es ≡ frames_from m o es
enough n m o [] l h = no_frames n o ∙ sym (no_frames m o)
enough n m o (a ∷ es) l h = sym (found_behind n o a es l) ∙ found_behind m o a es h

later_frames : (d n o : ℕ) (es : List ℕ) → frames_from n (d + o) es ≡ later_by d (frames_from n o es)
unfolding frames_from
later_frames d zero o es = refl
later_frames d (suc n) o es = by (ltb (length es) (before_second es + 100)) (later_frames d n (o + (before_second es + 99)) (drop (before_second es + 99) es))
  where
    by : (t : Bool) → frames_from n (d + (o + (before_second es + 99))) (drop (before_second es + 99) es) ≡ later_by d (frames_from n (o + (before_second es + 99)) (drop (before_second es + 99) es))
        → pick t [] (record { first = d + o + before_second es; read = read_frame (drop (before_second es) es) } ∷ frames_from n (d + o + (before_second es + 99)) (drop (before_second es + 99) es))
        ≡ later_by d (pick t [] (record { first = o + before_second es; read = read_frame (drop (before_second es) es) } ∷ frames_from n (o + (before_second es + 99)) (drop (before_second es + 99) es)))
    by true r = refl
    by false r =
        ap₂ (λ (i j : ℕ). record { first = i; read = read_frame (drop (before_second es) es) } ∷ frames_from n j (drop (before_second es + 99) es))
        (let q : d + o + before_second es ≡ d + (o + before_second es) = omega arith in q)
        (let q : d + o + (before_second es + 99) ≡ d + (o + (before_second es + 99)) = omega arith in q)
        ∙ ap (λ (fs : List Found). record { first = d + (o + before_second es); read = read_frame (drop (before_second es) es) } ∷ fs) r

-- find and cut: the first frame begins with the second of two markers; and go on: the others are the frames of the list from its element 99 on
pub frames_next : (es : List ℕ) → before_second es + 100 ≤ length es
    → frames es ≡ record { first = before_second es; read = read_frame (drop (before_second es) es) } ∷ later_by (before_second es + 99) (frames (drop (before_second es + 99) es))
unfolding frames
frames_next [] l = absurd (omega arith)
frames_next (a ∷ es) l =
    let p : ℕ = before_second (a ∷ es) in
    let rest : List ℕ = drop (p + 99) (a ∷ es) in
    let q : length rest ≡ suc (length es) - (p + 99) = length-drop (p + 99) (a ∷ es) in
    frames_one (length es) 0 p (a ∷ es) refl l
    ∙ ap₂ (λ (i j : ℕ). record { first = i; read = read_frame (drop p (a ∷ es)) } ∷ frames_from (length es) j rest) (let z : 0 + p ≡ p = omega arith in z) (let z : 0 + (p + 99) ≡ p + 99 + 0 = omega arith in z)
    ∙ ap (λ (fs : List Found). record { first = p; read = read_frame (drop p (a ∷ es)) } ∷ fs)
    (later_frames (p + 99) (length es) 0 rest ∙ ap (later_by (p + 99)) (enough (length es) (length rest) 0 rest (omega arith) (le_refl (length rest))))

-- and a list too short for one has none
pub frames_over : (es : List ℕ) → length es < before_second es + 100 → frames es ≡ []
unfolding frames frames_from
frames_over [] l = refl
frames_over (a ∷ es) l = frames_none (length es) 0 (a ∷ es) l

-- THE LAWS

-- any run of calls, with any rows and whatever it took of each, finds just the frames of what it took
pub run_finds : (rows : List (List ℕ)) → found_all 0 rows fresh_stream ≡ frames (taken_all rows fresh_stream)
run_finds rows = run_found rows 0 fresh_stream ∙ each_finds (taken_all rows fresh_stream)

-- so two runs that took the same elements, however cut, found the same frames and left the same record
pub cuts_alike : (rows rows' : List (List ℕ)) → taken_all rows fresh_stream ≡ taken_all rows' fresh_stream
    → (found_all 0 rows fresh_stream ≡ found_all 0 rows' fresh_stream) × (after_all rows fresh_stream ≡ after_all rows' fresh_stream)
cuts_alike rows rows' e =
    (run_finds rows ∙ ap frames e ∙ sym (run_finds rows'), run_after rows fresh_stream ∙ ap (after_each fresh_stream) e ∙ sym (run_after rows' fresh_stream))
