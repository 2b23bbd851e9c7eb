-- `lines::Numeral::count_up` meets its contract: the nines behind place i are zeros. The measure is i: not all digits are nines, so it stays a place.
-- Assumes nothing.
use Prim.Native.Nat.{ℕ, suc, min}
use mathlib.Core.Path.{refl, ap, ◌∙◌}
use native.Mathlib.Omega.{arith}
use Rattle.listing.specs.Listing.{Spelled}
use Rattle.listing.proofs.lines.Counting.{carried_none, carried_inside, carried_more, carried_small, counted, own}
use Rattle.listing.proofs.lines.Numeral.count_up.Goals as goal

pub loop-self-init : goal.loop-self-init
loop-self-init c = (carried_none _ c.self.invariant.count, refl)

pub overflow_sub-i : goal.overflow_sub-i
overflow_sub-i c = carried_inside _ _ _ c.loop-self.invariant.0 (omega (arith, c.self.view_is)) c.loop-self-test.true

pub loop-self-smaller : goal.loop-self-smaller
loop-self-smaller c = omega (arith, carried_inside _ _ _ c.loop-self.invariant.0 (omega (arith, c.self.view_is)) c.loop-self-test.true)

pub loop-self-preserved : goal.loop-self-preserved
loop-self-preserved c =
    (carried_more _ _ _ c.loop-self.invariant.0 (carried_inside _ _ _ c.loop-self.invariant.0 (omega (arith, c.self.view_is)) c.loop-self-test.true) c.loop-self-test.true, c.loop-self.invariant.1)

pub overflow_add-self : goal.overflow_add-self
overflow_add-self c = omega (arith, carried_small _ _ _ _ _ c.self.invariant c.loop-self.invariant.0 c.loop-self-test.false)

pub invariant_of-self : goal.invariant_of-self
invariant_of-self c =
    own _ _ _
    (counted _ _ _ _ _ c.self.invariant c.loop-self.invariant.0 c.loop-self-test.false _
    (c.min-self-inside.ensures ∙ ap (λ (x : ℕ). min x c.loop-self.i) c.loop-self.invariant.1))

pub returns : goal.returns
returns c =
    let next : Spelled (suc _) _ _ = counted _ _ _ _ _ c.self.invariant c.loop-self.invariant.0 c.loop-self-test.false _ refl in
    next.number ∙ ap suc c.self.view_is
