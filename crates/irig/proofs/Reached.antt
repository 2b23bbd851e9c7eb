-- 18 is reachability: a record is lawful exactly if some calls leave it. Every call leaves a lawful record lawful; and `way` of specs/Finding has the calls that leave each.
-- Assumes nothing.
use Prim.Native.Nat.{ℕ, zero, suc, ◌+◌, ◌-◌, ◌<◌}
use mathlib.Core.Path.{◌≡◌, refl, sym, ◌∙◌, ap, ap₂}
use mathlib.Core.Bool.{Bool, true, false, ◌&&◌}
use mathlib.Core.List.{List, [], ◌∷◌, ◌++◌}
use mathlib.Core.Logic.{◌↔◌, ⊎_elim}
use native.Mathlib.Omega.{arith}
use lib.Dec.{eqb}
use lib.ListN.{length, get_or, take, drop, set, replicate, length-set, length-drop, take-append-drop}
use lib.Seq.{drop-set-lt, drop-drop, get_or-set_other, length-take-le, take-length, paste}
use borrow.Author.Tests.{lt-ltb, eqb-true, eqb-false, eq-eqb, ne_eqb}
use Rattle.wire.specs.Digits.{pick, below}
use Rattle.wire.proofs.digits.Laws.{below_take, below_drop, zeros, zeros_below, lt_or_le}
use Rattle.irig.specs.declared.stream.Stream.{Stream}
use Rattle.wire.specs.declared.numbers.Answer.{Answer}
use Rattle.irig.specs.declared.stream.RowTaken.{RowTaken}
use Rattle.irig.specs.Streams.{searching, fresh_stream, lawful, Taking, behind, one_by_one, take_row}
use Rattle.irig.specs.Finding.{after_all, taken_all, of_bytes, Left, way}
use Rattle.irig.proofs.stream.Laws.{begun, next_held, next_search, next_second, step_search, step_second, held_short, take_lawful, Begun, lawful_begun, lawful_searching}
use Rattle.irig.proofs.Finding.{step, after_each, run_after}

-- WHAT A LAWFUL RECORD IS

begun_lawful : (xs : List ℕ) (h : ℕ) → Begun xs h → lawful (begun xs h) ≡ true
unfolding lawful
begun_lawful xs h b = simp (ne_eqb h 0 b.some, lt-ltb h 100 b.few, eq-eqb (get_or xs 0 0) 2 b.first, b.zeros)

searching_lawful : (m : Bool) → lawful (searching m) ≡ true
unfolding lawful
searching_lawful m = zeros_below 100

-- EVERY ELEMENT LEAVES A LAWFUL RECORD LAWFUL

-- lawful, with a hundred places
pub record Sound (s : Stream) : Type 0 where
  pub is_lawful : lawful s ≡ true
  pub places : length s.elements ≡ 100

sound_searching : (m : Bool) → Sound (searching m)
sound_searching m = record { is_lawful = searching_lawful m; places = refl }

begun_more : (xs : List ℕ) (h e : ℕ) → Begun xs h → h + 1 < 100 → Begun (set xs h e) (h + 1)
begun_more xs h e b l =
    let z = b.some in
    record {
      some = λ q. omega arith;
      few = l;
      first = get_or-set_other xs h 0 e 0 (λ q. z (sym q)) ∙ b.first;
      zeros = ap (below 1) (drop-set-lt (h + 1) xs h e (omega arith) ∙ sym (drop-drop 1 h xs)) ∙ below_drop 1 1 (drop h xs) b.zeros;
    }

below_hundred : (h : ℕ) → h < 100 → (h + 1 ≡ 100 → ⊥) → h + 1 < 100
below_hundred h f n = ⊎_elim (λ p. p) (λ q. absurd (n (omega arith))) (lt_or_le (h + 1) 100)

held_sound : (xs : List ℕ) (h e : ℕ) → length xs ≡ 100 → Begun xs h → Sound (step (begun xs h) e)
held_sound xs h e l b =
    rw (next_held xs h e b.some) (by (eqb (h + 1) 100) refl)
  where
    by : (t : Bool) → eqb (h + 1) 100 ≡ t → Sound (pick t (searching (eqb e 2)) (begun (set xs h e) (h + 1)))
    by true q = sound_searching (eqb e 2)
    by false q =
        record {
          is_lawful = begun_lawful (set xs h e) (h + 1) (begun_more xs h e b (let f = b.few in let n = eqb-false (h + 1) 100 q in below_hundred h f n));
          places = length-set xs h e ∙ l;
        }

first_begun : Begun (set (replicate 100 0) 0 2) 1
unfolding below
first_begun = record { some = λ q. omega arith; few = omega arith; first = refl; zeros = zeros_below 99 }

search_sound : (m : Bool) (e : ℕ) → Sound (step (searching m) e)
search_sound m e = by (m && eqb e 2) refl
  where
    by : (t : Bool) → (m && eqb e 2) ≡ t → Sound (step (searching m) e)
    by true h = rw (next_second m e h) record { is_lawful = begun_lawful (set (replicate 100 0) 0 2) 1 first_begun; places = refl }
    by false h = rw (next_search m e h) (sound_searching (eqb e 2))

step_sound : (s : Stream) (e : ℕ) → Sound s → Sound (step s e)
step_sound s e k = by (eqb s.held 0) refl
  where
    by : (t : Bool) → eqb s.held 0 ≡ t → Sound (step s e)
    by true h = rw (lawful_searching s [] k.is_lawful (eqb-true s.held 0 h) k.places) (search_sound s.marked e)
    by false h =
        let b = lawful_begun s [] k.is_lawful (eqb-false s.held 0 h) in
        rw b.0 (held_sound s.elements s.held e k.places b.1)

each_sound : (es : List ℕ) (s : Stream) → Sound s → Sound (after_each s es)
each_sound [] s k = k
each_sound (e ∷ es) s k = each_sound es (step s e) (step_sound s e k)

-- and so does every run of calls
pub keeps_all : (rows : List (List ℕ)) (s : Stream) → Sound s → Sound (after_all rows s)
keeps_all rows s k = rw (run_after rows s) (each_sound (taken_all rows s) s k)

pub fresh_sound : Sound fresh_stream
fresh_sound = sound_searching false

-- EVERY LAWFUL RECORD IS LEFT BY SOME CALLS

after_lawful : (s : Stream) (row : List ℕ) → lawful s ≡ true → (take_row s row).after ≡ (one_by_one s row).stream
after_lawful s row h = ap (λ (a : Answer Stream RowTaken). a.after) (sym (take_lawful s row h))

-- a marker leaves the mark
marker_leaves : (take_row fresh_stream (2 ∷ [])).after ≡ searching true
unfolding one_by_one
marker_leaves = after_lawful fresh_stream (2 ∷ []) (searching_lawful false) ∙ ap (λ (t : Taking). t.stream) (step_search false 2 [] refl)

drop_zeros : (n m : ℕ) → drop {A = ℕ} n (replicate m 0) ≡ replicate (m - n) 0
drop_zeros zero m = ap (λ (k : ℕ). replicate k 0) (let q : m ≡ m - 0 = omega arith in q)
drop_zeros (suc n) zero = ap (λ (k : ℕ). replicate k 0) (let q : 0 ≡ 0 - suc n = omega arith in q)
drop_zeros (suc n) (suc m) = drop_zeros n m ∙ ap (λ (k : ℕ). replicate k 0) (let q : m - n ≡ suc m - suc n = omega arith in q)

-- a marker and what is held leave just this
module _ (x : ℕ) (xs : List ℕ) (h : ℕ) (l : length (x ∷ xs) ≡ 100) (b : Begun (x ∷ xs) (suc h)) where
  abbrev ys : List ℕ
  ys = take h xs

  few : length ys ≡ h
  few = length-take-le h xs (let f = b.few in omega arith)

  -- zeros stand behind them
  tail_zeros : drop h xs ≡ replicate (99 - h) 0
  tail_zeros = zeros (drop h xs) b.zeros ∙ ap (λ (n : ℕ). replicate n 0) (length-drop h xs ∙ (let q : length xs - h ≡ 99 - h = omega arith in q))

  count_is : 1 + length ys ≡ suc h
  count_is = let f = few in omega arith

  held_is : paste (set (replicate 100 0) 0 2) 1 ys (length ys) ≡ x ∷ xs
  held_is =
      ap₂ (λ (us ws : List ℕ). (2 ∷ us) ++ ws) (take-length ys) (ap (λ (n : ℕ). drop {A = ℕ} n (set (replicate 100 0) 0 2)) count_is ∙ drop_zeros h 99 ∙ sym tail_zeros)
      ∙ ap₂ (λ (y : ℕ) (zs : List ℕ). y ∷ zs) (sym b.first) (take-append-drop h xs)

  begun_left : (take_row fresh_stream (2 ∷ take (suc h) (x ∷ xs))).after ≡ begun (x ∷ xs) (suc h)
  begun_left =
      after_lawful fresh_stream (2 ∷ x ∷ ys) (searching_lawful false)
      ∙ ap (λ (t : Taking). t.stream)
      (step_search false 2 (x ∷ ys) refl
      ∙ ap (behind 1) (step_second true x ys (eq-eqb x 2 b.first))
      ∙ ap (λ (t : Taking). behind 1 (behind 1 t)) (held_short ys (set (replicate 100 0) 0 2) 1 refl (λ q. omega arith) (let f = few in let g = b.few in omega arith)))
      ∙ ap₂ begun held_is count_is

begun_way : (xs : List ℕ) (h : ℕ) → length xs ≡ 100 → Begun xs h → (take_row fresh_stream (2 ∷ take h xs)).after ≡ begun xs h
begun_way [] h l b = absurd (omega arith)
begun_way (x ∷ xs) zero l b = absurd (b.some refl)
begun_way (x ∷ xs) (suc h) l b = begun_left x xs h l b

searching_way : (m : Bool) → after_all (pick m ((2 ∷ []) ∷ []) []) fresh_stream ≡ searching m
searching_way true = marker_leaves
searching_way false = refl

pub way_leaves : (s : Stream) → Sound s → after_all (way s) fresh_stream ≡ s
unfolding way
way_leaves s k = by (eqb s.held 0) refl
  where
    by : (t : Bool) → eqb s.held 0 ≡ t → after_all (pick t (pick s.marked ((2 ∷ []) ∷ []) []) ((2 ∷ take s.held s.elements) ∷ [])) fresh_stream ≡ s
    by true h = searching_way s.marked ∙ sym (lawful_searching s [] k.is_lawful (eqb-true s.held 0 h) k.places)
    by false h =
        let b = lawful_begun s [] k.is_lawful (eqb-false s.held 0 h) in
        begun_way s.elements s.held k.places b.1 ∙ sym b.0

-- with rows of bytes

marker_before : (row : List ℕ) → below 256 row ≡ true → of_bytes ((2 ∷ row) ∷ []) ≡ true
unfolding below
marker_before row b = simp b

pub way_bytes : (s : Stream) → below 256 s.elements ≡ true → of_bytes (way s) ≡ true
unfolding way
way_bytes s b = by (eqb s.held 0) s.marked
  where
    by : (t m : Bool) → of_bytes (pick t (pick m ((2 ∷ []) ∷ []) []) ((2 ∷ take s.held s.elements) ∷ [])) ≡ true
    by true true = marker_before [] (below_take 256 0 s.elements b)
    by true false = refl
    by false m = marker_before (take s.held s.elements) (below_take 256 s.held s.elements b)

-- a record of a hundred bytes, as every one handed in is by its type, is lawful exactly if some calls leave it
pub lawful_exactly_if : (s : Stream) → length s.elements ≡ 100 → below 256 s.elements ≡ true → lawful s ≡ true ↔ Left s
lawful_exactly_if s l b = (
  λ h. record { rows = way s; rows_of_bytes = way_bytes s b; leave = way_leaves s (record { is_lawful = h; places = l }) },
  λ w. rw (sym w.leave) (keeps_all w.rows fresh_stream fresh_sound).is_lawful,
)

-- and every call leaves a lawful one lawful
pub keeps : (s : Stream) (row : List ℕ) → lawful s ≡ true → length s.elements ≡ 100 → (lawful (take_row s row).after ≡ true) × (length (take_row s row).after.elements ≡ 100)
keeps s row h l = let k = keeps_all (row ∷ []) s (record { is_lawful = h; places = l }) in (k.is_lawful, k.places)
