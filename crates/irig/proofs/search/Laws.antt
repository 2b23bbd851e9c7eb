-- The search, element by element. Assumes nothing.
use Prim.Native.Nat.{ℕ, suc, ◌+◌, ◌-◌, ◌≤◌, ◌<◌}
use mathlib.Core.Path.{◌≡◌, refl, sym, ◌∙◌, ap}
use mathlib.Core.Bool.{Bool, true, false, ◌&&◌}
use mathlib.Core.List.{List, [], ◌∷◌}
use native.Mathlib.Omega.{arith}
use lib.Dec.{eqb}
use lib.ListN.{length, get_or, drop}
use lib.Seq.{drop-cons, drop-length}
use borrow.Author.Tests.{eqb-true}
use Rattle.wire.specs.Digits.{pick}
use Rattle.wire.proofs.digits.Laws.{and_right}
use Rattle.irig.specs.declared.search.Searched.{Searched}
use Rattle.irig.specs.Streams.{further, searched}

-- the next element

pub searched_more : (m : Bool) (e : ℕ) (es : List ℕ) → (m && eqb e 2) ≡ false → searched m (e ∷ es) ≡ further 1 (searched (eqb e 2) es)
unfolding searched
searched_more m e es h = ap (λ (t : Bool). pick t (Searched.Found 1) (further 1 (searched (eqb e 2) es))) h

pub searched_second : (m : Bool) (e : ℕ) (es : List ℕ) → (m && eqb e 2) ≡ true → searched m (e ∷ es) ≡ Searched.Found 1
unfolding searched
searched_second m e es h = ap (λ (t : Bool). pick t (Searched.Found 1) (further 1 (searched (eqb e 2) es))) h

pub searched_none : (m : Bool) → searched m [] ≡ Searched.Over m
unfolding searched
searched_none m = refl

-- elements in front

further_none : (s : Searched) → s ≡ further 0 s
further_none (Searched.Found k) = ap Searched.Found (let q : k ≡ 0 + k = omega arith in q)
further_none (Searched.Over m) = refl

further_one : (n : ℕ) (s : Searched) → further n (further 1 s) ≡ further (n + 1) s
further_one n (Searched.Found k) = ap Searched.Found (let q : n + (1 + k) ≡ n + 1 + k = omega arith in q)
further_one n (Searched.Over m) = refl

module _ (marked : Bool) (row : List ℕ) where
  -- the search before place i has come to m
  pub record Searching (m : Bool) (i : ℕ) : Type 0 where
    pub within : i ≤ length row
    pub rest : searched marked row ≡ further i (searched m (drop i row))

  pub search_start : Searching marked 0
  search_start = record { within = omega arith; rest = further_none (searched marked row) }

  module _ (m : Bool) (i : ℕ) (s : Searching m i) where
    abbrev e : ℕ
    e = get_or row i 0

    pub search_more : i < length row → (m && eqb e 2) ≡ false → Searching (eqb e 2) (i + 1)
    search_more l h =
        let o : suc i ≡ i + 1 = omega arith in
        record {
          within = omega arith;
          rest =
              s.rest
              ∙ ap (λ (es : List ℕ). further i (searched m es)) (drop-cons row i 0 l)
              ∙ ap (further i) (searched_more m e (drop (suc i) row) h)
              ∙ further_one i (searched (eqb e 2) (drop (suc i) row))
              ∙ ap (λ (j : ℕ). further (i + 1) (searched (eqb e 2) (drop j row))) o;
        }

    pub search_found : i < length row → (m && eqb e 2) ≡ true → Searched.Found (i + 1) ≡ searched marked row
    search_found l h =
        sym
        (s.rest
        ∙ ap (λ (es : List ℕ). further i (searched m es)) (drop-cons row i 0 l)
        ∙ ap (further i) (searched_second m e (drop (suc i) row) h))

    pub search_over : length row ≤ i → Searched.Over m ≡ searched marked row
    search_over l =
        let w = s.within in
        let q : i ≡ length row = omega arith in
        sym
        (s.rest
        ∙ ap (λ (es : List ℕ). further i (searched m es)) (ap (λ (j : ℕ). drop j row) q ∙ drop-length row)
        ∙ ap (further i) (searched_none m))

pub ruleset searches = (search_start, search_more, search_found, search_over)

-- where it finds, it stays within the row and ends with a marker

abbrev pub Second : List ℕ → Searched → Type 0
Second es (Searched.Found k) = (0 < k) × (k ≤ length es) × (get_or es (k - 1) 0 ≡ 2)
Second es (Searched.Over m) = Unit

second_more : (e : ℕ) (es : List ℕ) (s : Searched) → Second es s → Second (e ∷ es) (further 1 s)
second_more e es (Searched.Found k) d =
    let p = d.0 in
    let l = d.1 in
    (omega arith, omega arith, ap (λ (j : ℕ). get_or (e ∷ es) j 0) (let z : 1 + k - 1 ≡ suc (k - 1) = omega arith in z) ∙ d.2)
second_more e es (Searched.Over m) d = tt

second_step : (e : ℕ) (es : List ℕ) (m t : Bool) → (m && eqb e 2) ≡ t → Second es (searched (eqb e 2) es) → Second (e ∷ es) (searched m (e ∷ es))
second_step e es m true q d = rw (searched_second m e es q) (omega arith, omega arith, eqb-true e 2 (and_right m (eqb e 2) q))
second_step e es m false q d = rw (searched_more m e es q) (second_more e es (searched (eqb e 2) es) d)

pub second_is : (es : List ℕ) (m : Bool) → Second es (searched m es)
second_is [] m = rw (searched_none m) tt
second_is (e ∷ es) m = second_step e es m (m && eqb e 2) refl (second_is es (eqb e 2))
