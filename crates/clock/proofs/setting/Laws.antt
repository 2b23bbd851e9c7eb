-- Setting: the ranges of what is asked for and kept. Assumes nothing.
use Prim.Native.Nat.{ℕ, ◌≤◌}
use mathlib.Core.Path.{◌≡◌, sym, ap, ◌∙◌}
use mathlib.Core.Bool.{true, ◌&&◌}
use mathlib.Core.Logic.{◌↔◌}
use lib.Dec.{leb}
use borrow.Author.Tests.{le-leb, leb-true}
use Rattle.wire.proofs.digits.Laws.{and_true, and_both}
use Rattle.clock.specs.declared.setting.Dividers.{Dividers}
use Rattle.clock.specs.Time.{days_in}
use Rattle.clock.specs.Setting.{time_of_day, date_fits, dividers_fit}

-- of a year and a time of day within their ranges, the day decides
pub day_fits : (year day hour minute second : ℕ) → 1 ≤ year → year ≤ 9999 → time_of_day hour minute second ≡ true → date_fits year day hour minute second ≡ (leb 1 day && leb day (days_in year))
unfolding date_fits
day_fits year day hour minute second a b t = simp (le-leb 1 year a, le-leb year 9999 b, t, and_true)

-- dividers fit exactly if each is 2 to 65,535
pub pair_fits : (n1 n2 : ℕ) → dividers_fit (Dividers.By n1 n2) ≡ true ↔ ((2 ≤ n1) × ((n1 ≤ 65535) × ((2 ≤ n2) × (n2 ≤ 65535))))
unfolding dividers_fit
pair_fits n1 n2 = (within, λ h. simp (le-leb 2 n1 h.0, le-leb n1 65535 h.1.0, le-leb 2 n2 h.1.1.0, le-leb n2 65535 h.1.1.1))
  where
    within : (leb 2 n1 && (leb n1 65535 && (leb 2 n2 && leb n2 65535))) ≡ true → (2 ≤ n1) × ((n1 ≤ 65535) × ((2 ≤ n2) × (n2 ≤ 65535)))
    within g =
        let a = and_both (leb 2 n1) (leb n1 65535 && (leb 2 n2 && leb n2 65535)) g in
        let b = and_both (leb n1 65535) (leb 2 n2 && leb n2 65535) a.1 in
        let d = and_both (leb 2 n2) (leb n2 65535) b.1 in
        (leb-true 2 n1 a.0, (leb-true n1 65535 b.0, (leb-true 2 n2 d.0, leb-true n2 65535 d.1)))

-- so dividers that fit are kept in 16 bits each
pub dividers_within : (d : Dividers) (n1 n2 : ℕ) → dividers_fit d ≡ true → d ≡ Dividers.By n1 n2 → (n1 ≤ 65535) × (n2 ≤ 65535)
dividers_within d n1 n2 h e = let w = (pair_fits n1 n2).0 (ap dividers_fit (sym e) ∙ h) in (w.1.0, w.1.1.1)
