-- The leap rule by its three questions, whether 4, 100 and 400 divide the year: four kinds of years. Assumes nothing.
use Prim.Native.Nat.{ℕ, ◌%◌}
use mathlib.Core.Path.{◌≡◌}
use mathlib.Core.Logic.{⊎_elim}
use native.Mathlib.Omega.{arith}
use borrow.Author.Tests.{eq-eqb, ne_eqb}
use Rattle.wire.proofs.digits.Laws.{lt_or_le}
use Rattle.clock.specs.Time.{days_in}

-- the four kinds, each with its days
pub data Rule (year : ℕ) : ℕ → Type 0 where
  common : (year % 4 ≡ 0 → ⊥) → Rule year 365
  fourth : year % 4 ≡ 0 → (year % 100 ≡ 0 → ⊥) → Rule year 366
  century : year % 100 ≡ 0 → (year % 400 ≡ 0 → ⊥) → Rule year 365
  four_hundredth : year % 400 ≡ 0 → Rule year 366

-- a year has the days of its kind
pub rule_days : (year : ℕ) {d : ℕ} → Rule year d → days_in year ≡ d
unfolding days_in
rule_days year (Rule.common a) = simp (ne_eqb (year % 4) 0 a, ne_eqb (year % 400) 0 (λ e. a (omega arith)))
rule_days year (Rule.fourth a b) = simp (eq-eqb (year % 4) 0 a, ne_eqb (year % 100) 0 b)
rule_days year (Rule.century a b) = simp (eq-eqb (year % 4) 0 (omega arith), eq-eqb (year % 100) 0 a, ne_eqb (year % 400) 0 b)
rule_days year (Rule.four_hundredth a) = simp (eq-eqb (year % 4) 0 (omega arith), eq-eqb (year % 100) 0 (omega arith), eq-eqb (year % 400) 0 a)

-- every year is of one of them
pub by_rule : (year : ℕ) → Rule year (days_in year)
by_rule year = asked 4 (λ a. of (Rule.common a)) (λ a. asked 100 (λ b. of (Rule.fourth a b)) (λ b. asked 400 (λ c. of (Rule.century b c)) (λ c. of (Rule.four_hundredth c))))
  where
    of : {d : ℕ} → Rule year d → Rule year (days_in year)
    of k = rw (rule_days year k) k

    asked : (d : ℕ) → ((year % d ≡ 0 → ⊥) → Rule year (days_in year)) → (year % d ≡ 0 → Rule year (days_in year)) → Rule year (days_in year)
    asked d f g = ⊎_elim (λ l. f (λ e. absurd (omega arith))) (λ l. g (omega arith)) (lt_or_le 0 (year % d))
