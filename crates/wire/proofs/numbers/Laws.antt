-- A table of refusals gives a number exactly if that line holds and no line above it does, and 0 exactly if none holds. One law for every table, by going
-- down its lines. Assumes nothing.
use Prim.Native.Nat.{ℕ}
use mathlib.Core.Path.{◌≡◌, refl, sym, ap, ◌∙◌}
use mathlib.Core.Bool.{Bool, true, false, ◌&&◌, not}
use mathlib.Core.List.{List, [], ◌∷◌, ◌++◌}
use mathlib.Core.Logic.{◌↔◌}
use lib.Dec.{eqb}
use borrow.Author.Tests.{eqb-false, not-true}
use Rattle.wire.specs.Digits.{pick}
use Rattle.wire.specs.Numbers.{Line, ◌if◌, given, quiet, absent}
use Rattle.wire.proofs.digits.Laws.{and_left, and_right, and_both, clash}

-- the number of no line is not given
absent_step : (t : Bool) (m n g : ℕ) → not (eqb m n) ≡ true → (g ≡ n → ⊥) → pick t m g ≡ n → ⊥
absent_step true m n g a f e = eqb-false m n (not-true (eqb m n) a) e
absent_step false m n g a f e = f e

pub given_absent : (n : ℕ) (ls : List Line) → eqb n 0 ≡ false → absent n ls ≡ true → given ls ≡ n → ⊥
given_absent n [] z a e = eqb-false n 0 z (sym e)
given_absent n (l ∷ ls) z a e =
    absent_step l.holds l.number n (given ls) (and_left (not (eqb l.number n)) (absent n ls) a)
    (given_absent n ls z (and_right (not (eqb l.number n)) (absent n ls) a)) e

-- given, so it holds and no line above it does
given_step : (h t q : Bool) (m n g : ℕ) → not (eqb m n) ≡ true → (g ≡ n → (t ≡ true) × (q ≡ true)) → pick h m g ≡ n → (t ≡ true) × ((not h && q) ≡ true)
given_step true t q m n g a f e = absurd (eqb-false m n (not-true (eqb m n) a) e)
given_step false t q m n g a f e = f e

given_here : (t : Bool) (n g : ℕ) → (g ≡ n → ⊥) → pick t n g ≡ n → t ≡ true
given_here true n g f e = refl
given_here false n g f e = absurd (f e)

module _ (n : ℕ) (z : eqb n 0 ≡ false) (after : List Line) (b : absent n after ≡ true) (t : Bool) where
  pub given_only_if : (before : List Line) → absent n before ≡ true → given (before ++ (n if t ∷ after)) ≡ n → (t ≡ true) × (quiet before ≡ true)
  given_only_if [] a e = (given_here t n (given after) (given_absent n after z b) e, refl)
  given_only_if (l ∷ before) a e =
      given_step l.holds t (quiet before) l.number n (given (before ++ (n if t ∷ after))) (and_left (not (eqb l.number n)) (absent n before) a)
      (given_only_if before (and_right (not (eqb l.number n)) (absent n before) a)) e

-- it holds and no line above it does, so it is given
quiet_step : (h : Bool) (m g n : ℕ) → not h ≡ true → g ≡ n → pick h m g ≡ n
quiet_step true m g n q e = clash (sym q)
quiet_step false m g n q e = e

pub given_if : (n : ℕ) (before after : List Line) → quiet before ≡ true → given (before ++ (n if true ∷ after)) ≡ n
given_if n [] after q = refl
given_if n (l ∷ before) after q =
    quiet_step l.holds l.number (given (before ++ (n if true ∷ after))) n (and_left (not l.holds) (quiet before) q) (given_if n before after (and_right (not l.holds) (quiet before) q))

-- so a number is given exactly if its line holds and no line above it does, where no other line has that number
pub given_exactly : (n : ℕ) (above below : List Line) (t : Bool) → eqb n 0 ≡ false → absent n above ≡ true → absent n below ≡ true
    → given (above ++ (n if t ∷ below)) ≡ n ↔ ((t ≡ true) × (quiet above ≡ true))
given_exactly n above below t z a b =
    (given_only_if n z below b t above a, λ h. ap (λ (s : Bool). given (above ++ (n if s ∷ below))) h.0 ∙ given_if n above below h.1)

-- 0 is given exactly if no line holds, by a table none of whose lines has the number 0
none_step : (h q : Bool) (m g : ℕ) → not (eqb m 0) ≡ true → (g ≡ 0 → q ≡ true) → pick h m g ≡ 0 → not h && q ≡ true
none_step true q m g a f e = absurd (eqb-false m 0 (not-true (eqb m 0) a) e)
none_step false q m g a f e = f e

none_holds : (ls : List Line) → absent 0 ls ≡ true → given ls ≡ 0 → quiet ls ≡ true
none_holds [] a e = refl
none_holds (l ∷ ls) a e =
    let b = and_both (not (eqb l.number 0)) (absent 0 ls) a in
    none_step l.holds (quiet ls) l.number (given ls) b.0 (none_holds ls b.1) e

none_given : (ls : List Line) → quiet ls ≡ true → given ls ≡ 0
none_given [] q = refl
none_given (l ∷ ls) q =
    let b = and_both (not l.holds) (quiet ls) q in
    quiet_step l.holds l.number (given ls) 0 b.0 (none_given ls b.1)

pub given_zero : (ls : List Line) → absent 0 ls ≡ true → given ls ≡ 0 ↔ quiet ls ≡ true
given_zero ls a = (none_holds ls a, none_given ls)

-- and then the first line does not hold, and none below it
pub quiet_first : (t q : Bool) → not t && q ≡ true → (t ≡ false) × (q ≡ true)
quiet_first true q e = clash (sym e)
quiet_first false q e = (refl, e)

-- a number that neither part of a table has
pub absent_append : (n : ℕ) (ls ms : List Line) → absent n ls ≡ true → absent n ms ≡ true → absent n (ls ++ ms) ≡ true
absent_append n [] ms a b = b
absent_append n (l ∷ ls) ms a b =
    let h = and_both (not (eqb l.number n)) (absent n ls) a in
    simp (h.0, absent_append n ls ms h.1 b)

-- lines behind others are asked when none of those holds
pub given_append : (ls ms : List Line) → absent 0 ls ≡ true → given (ls ++ ms) ≡ pick (eqb (given ls) 0) (given ms) (given ls)
given_append [] ms a = refl
given_append (l ∷ ls) ms a =
    let b = and_both (not (eqb l.number 0)) (absent 0 ls) a in
    go l.holds (not-true (eqb l.number 0) b.0) (given_append ls ms b.1)
  where
    go : (h : Bool) → eqb l.number 0 ≡ false → given (ls ++ ms) ≡ pick (eqb (given ls) 0) (given ms) (given ls)
        → pick h l.number (given (ls ++ ms)) ≡ pick (eqb (pick h l.number (given ls)) 0) (given ms) (pick h l.number (given ls))
    go true e f = simp e
    go false e f = f
