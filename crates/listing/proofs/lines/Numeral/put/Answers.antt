-- `lines::Numeral::put` meets its contract: the digits gone through are put.
-- Assumes nothing.
use mathlib.Core.Path.{sym, ap, ◌∙◌}
use native.Mathlib.Omega.{arith}
use Rattle.listing.specs.Listing.{in_decimal}
use Rattle.listing.proofs.lines.Laws.{copied_none, copied_place, copied_length, copied_more, copied_all}
use Rattle.listing.proofs.lines.Counting.{written_count, written_decimal, written_below}
use Rattle.listing.proofs.lines.Numeral.put.Goals as goal

pub loop-digit-init : goal.loop-digit-init
loop-digit-init c = copied_none _ _ _ (omega (arith, written_count _ _ _ c.self.invariant))

pub overflow_add-row : goal.overflow_add-row
overflow_add-row c = omega (arith, written_below _ _ _ c.self.invariant c.loop-digit.digit-index c.loop-digit-test.true)

pub bounds-row-to : goal.bounds-row-to
bounds-row-to c =
    omega (arith, c.loop-digit.invariant.fits, copied_place _ _ _ _ _ _ c.loop-digit.invariant c.loop-digit.auto.digit-index-end, copied_length _ _ _ _ _ _ c.loop-digit.invariant c.loop-digit.auto.digit-index-end)

pub overflow_add-to : goal.overflow_add-to
overflow_add-to c = omega (arith, c.loop-digit.invariant.fits, copied_place _ _ _ _ _ _ c.loop-digit.invariant c.loop-digit.auto.digit-index-end)

pub loop-digit-preserved : goal.loop-digit-preserved
loop-digit-preserved c = copied_more _ _ _ _ _ _ c.loop-digit.invariant c.loop-digit.auto.digit-index-end c.loop-digit-test.true

pub returns : goal.returns
returns c =
    rw (ap in_decimal (sym c.self.view_is) ∙ written_decimal _ _ _ c.self.invariant)
    (copied_all _ _ _ _ _ _ c.loop-digit.invariant c.loop-digit.auto.digit-index-end c.loop-digit-test.false)
