-- Years in a row: how many days they have. Any 400 have 146,097, since the rule comes round in them; the days before a year have a closed form; and they are the days that pass on
-- the card's own clock. Assumes nothing.
use Prim.Native.Nat.{ℕ, zero, suc, ◌+◌, ◌-◌, ◌*◌, ◌/◌, ◌%◌, ◌≤◌, ◌<◌}
use mathlib.Core.Path.{◌≡◌, refl, sym, ◌∙◌, ap}
use mathlib.Core.Bool.{true}
use mathlib.Core.Logic.{⊎_elim}
use native.Mathlib.Nat.{add-zero, add-suc, mod-lt, mod_self, mod-eq_of_lt, div-div-eq-div-mul, div-add-mod', div_self, div-eq_of_lt, mul-add-div_right, mul-add-mod_self_right}
use native.Mathlib.Omega.{arith}
use borrow.Author.Tests.{eq-eqb, ne_eqb}
use lib.Dec.{eqb, lit<, lit≤}
use Rattle.wire.proofs.digits.Laws.{lt_or_le}
use Rattle.wire.specs.Digits.{pick}
use Rattle.wire.specs.Time.{ticks_of_day}
use Rattle.clock.specs.declared.time.Time.{Time}
use Rattle.clock.specs.Time.{days_in, days_over, days_before, instant, later, time_lawful}
use Rattle.clock.proofs.time.Rule.{Rule, by_rule}
use Rattle.clock.proofs.time.Laws.{Proper, in_range_lem, days_in_year, later_add, from_midnight, next_in_year, new_year}

-- ---- years add up

-- the first m of them, and then the others
pub over_add : (first m n : ℕ) → days_over first (m + n) ≡ days_over first m + days_over (first + m) n
unfolding days_over
over_add first m zero = ap (days_over first) (add-zero m) ∙ sym (add-zero (days_over first m))
over_add first m (suc n) =
    let e : days_over first (m + n) ≡ days_over first m + days_over (first + m) n = over_add first m n in
    let f : days_in (first + (m + n)) ≡ days_in (first + m + n) = ap days_in {x = first + (m + n)} {y = first + m + n} (omega arith) in
    ap (days_over first) (add-suc m n) ∙ omega arith

-- ---- 400 years

-- the rule comes round in 400 years
pub comes_round : (year : ℕ) → days_in (year + 400) ≡ days_in year
unfolding days_in
comes_round year =
    let four : (year + 400) % 4 ≡ year % 4 = omega arith in
    let hundred : (year + 400) % 100 ≡ year % 100 = omega arith in
    let all : (year + 400) % 400 ≡ year % 400 = omega arith in
    simp (four, hundred, all)

from_0 : days_over 0 400 ≡ 146097
unfolding days_over days_in
from_0 = refl

one_year : (year : ℕ) → days_over year 1 ≡ days_in year
unfolding days_over
one_year year = omega (arith, ap days_in (add-zero year))

-- any 400 years in a row have 146,097 days: those from the next year on lose the first one and have one like it behind
pub four_hundred : (first : ℕ) → days_over first 400 ≡ 146097
four_hundred zero = from_0
four_hundred (suc first) =
    let e : days_over first 400 ≡ 146097 = four_hundred first in
    let f : days_over first 401 ≡ days_over first 1 + days_over (first + 1) 400 = over_add first 1 400 in
    let g : days_over first 401 ≡ days_over first 400 + days_over (first + 400) 1 = over_add first 400 1 in
    let h : days_over (first + 1) 400 ≡ days_over (suc first) 400 = ap (λ (y : ℕ). days_over y 400) {x = first + 1} {y = suc first} (omega arith) in
    omega (arith, one_year first, one_year (first + 400), comes_round first)

-- ---- the days before a year

-- 1 for a number that d divides
abbrev one_if : ℕ → ℕ → ℕ
one_if d n = pick (eqb (n % d) 0) 1 0

-- the rule as a sum: a day more if 4 divides the year, one less if 100 does, and again one more if 400 does
rule_sum : (year : ℕ) → days_in year + one_if 100 year ≡ 365 + one_if 4 year + one_if 400 year
rule_sum year = sum (by_rule year)
  where
    sum : {d : ℕ} → Rule year d → d + one_if 100 year ≡ 365 + one_if 4 year + one_if 400 year
    sum (Rule.common a) = simp (ne_eqb (year % 4) 0 a, ne_eqb (year % 100) 0 (λ e. a (omega arith)), ne_eqb (year % 400) 0 (λ e. a (omega arith)))
    sum (Rule.fourth a b) = simp (eq-eqb (year % 4) 0 a, ne_eqb (year % 100) 0 b, ne_eqb (year % 400) 0 (λ e. b (omega arith)))
    sum (Rule.century a b) = simp (eq-eqb (year % 4) 0 (omega arith), eq-eqb (year % 100) 0 a, ne_eqb (year % 400) 0 b)
    sum (Rule.four_hundredth a) = simp (eq-eqb (year % 4) 0 (omega arith), eq-eqb (year % 100) 0 (omega arith), eq-eqb (year % 400) 0 a)

-- the quotient of a number up to the divisor
quotient_within : (d x : ℕ) → 0 < x → x ≤ d → x / d ≡ one_if d x
quotient_within d x z h =
    ⊎_elim
    (λ l. simp (div-eq_of_lt {n = x} {m = d} l, mod-eq_of_lt {n = x} {m = d} l, ne_eqb x 0 (λ e. absurd (omega arith))))
    (λ l. let e : x ≡ d = omega arith in rw e (simp (div_self {n = d} (omega arith), mod_self d)))
    (lt_or_le x d)

-- a quotient goes up by one on each number that its divisor divides
quotient_on : (d n : ℕ) → 0 < d → suc n / d ≡ n / d + one_if d (suc n)
quotient_on d n h =
    let split : suc n ≡ n / d * d + suc (n % d) = omega (arith, div-add-mod' n d) in
    let q : suc n / d ≡ n / d + suc (n % d) / d = ap (λ (x : ℕ). x / d) split ∙ mul-add-div_right h (n / d) (suc (n % d)) in
    let r : suc n % d ≡ suc (n % d) % d = ap (λ (x : ℕ). x % d) split ∙ mul-add-mod_self_right (n / d) d (suc (n % d)) in
    q ∙ ap (λ (x : ℕ). n / d + x) (rw r (quotient_within d (suc (n % d)) (omega arith) (mod-lt n h)))

-- the closed form, without a difference
from_1 : (n : ℕ) → days_over 1 n + n / 100 ≡ 365 * n + n / 4 + n / 400
unfolding days_over
from_1 zero = refl
from_1 (suc n) =
    let e = from_1 n in
    let r = rule_sum (suc n) in
    let f : days_in (1 + n) ≡ days_in (suc n) = ap days_in {x = 1 + n} {y = suc n} (omega arith) in
    rw (quotient_on 4 n (lit< tt), quotient_on 100 n (lit< tt), quotient_on 400 n (lit< tt)) (omega arith)

-- the closed form
pub before_is : (year : ℕ) → days_before year ≡ 365 * (year - 1) + (year - 1) / 4 - (year - 1) / 100 + (year - 1) / 400
before_is year = omega (arith, from_1 (year - 1))

-- and with a fourth of the centuries for the years by 400
pub before_by_centuries : (years year : ℕ) → years ≡ year - 1 → 365 * years + years / 4 - years / 100 + years / 100 / 4 ≡ days_before year
before_by_centuries years year e =
    rw (div-div-eq-div-mul years 100 4, e) (sym (before_is year))

-- ---- on the card's own clock

-- p ticks later, and then the other q
and_then : (k p q : ℕ) (t u : Time) → k ≡ p + q → later p t ≡ u → later k t ≡ later q u
and_then k p q t u e f = ap (λ (j : ℕ). later j t) e ∙ later_add p q t ∙ ap (later q) f

-- k days on within a year
days_later : (year k : ℕ) → k < days_in year → later (k * ticks_of_day) (instant year 1 0) ≡ instant year (1 + k) 0
unfolding later
days_later year zero h = refl
days_later year (suc k) h =
    and_then (suc k * ticks_of_day) (k * ticks_of_day) ticks_of_day _ _ (omega arith) (days_later year k (omega arith))
    ∙ next_in_year (instant year (1 + k) 0) ticks_of_day (lit< tt) (lit≤ tt) (lit≤ tt) (omega arith)
    ∙ ap (λ (d : ℕ). instant year d 0) (omega arith)

-- all of its days on
year_later : (year : ℕ) → later (days_in year * ticks_of_day) (instant year 1 0) ≡ instant (year + 1) 1 0
year_later year =
    let d : 365 ≤ days_in year = (days_in_year year).0 in
    and_then _ ((days_in year - 1) * ticks_of_day) ticks_of_day _ _ (omega arith) (days_later year (days_in year - 1) (omega arith))
    ∙ new_year (instant year (1 + (days_in year - 1)) 0) ticks_of_day (lit< tt) (lit≤ tt) (lit≤ tt) (omega arith)

-- from the first tick of a year, the days of n years lead to the first tick of the n-th year after it
pub years_later : (first n : ℕ) → later (days_over first n * ticks_of_day) (instant first 1 0) ≡ instant (first + n) 1 0
unfolding later days_over
years_later first zero = ap (λ (y : ℕ). instant y 1 0) (sym (add-zero first))
years_later first (suc n) =
    and_then ((days_over first n + days_in (first + n)) * ticks_of_day) (days_over first n * ticks_of_day) (days_in (first + n) * ticks_of_day) _ _ (omega arith) (years_later first n)
    ∙ year_later (first + n)
    ∙ ap (λ (y : ℕ). instant y 1 0) (omega arith)

-- every lawful time comes after the first tick of year 1 by the days before its year, the days before its day, and its tick of day
pub counted : (t : Time) → time_lawful t ≡ true → later ((days_before t.year + (t.day - 1)) * ticks_of_day + t.tick.ticks) (instant 1 1 0) ≡ t
counted t l =
    let p : Proper t = (in_range_lem t l).proper in
    let y : 1 + (t.year - 1) ≡ t.year = omega (arith, p.year) in
    let d : 1 + (t.day - 1) ≡ t.day = omega (arith, p.day_low) in
    let k : ℕ = (t.day - 1) * ticks_of_day in
    and_then _ (days_before t.year * ticks_of_day) (k + t.tick.ticks) _ _ (omega arith) (years_later 1 (t.year - 1) ∙ ap (λ (x : ℕ). instant x 1 0) y)
    ∙ and_then _ k t.tick.ticks _ _ refl (days_later t.year (t.day - 1) (omega (arith, p.day_high)) ∙ ap (λ (x : ℕ). instant t.year x 0) d)
    ∙ from_midnight t.year t.day t.tick.ticks p.tick
