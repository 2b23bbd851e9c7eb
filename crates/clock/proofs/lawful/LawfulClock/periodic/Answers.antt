-- `LawfulClock::periodic` meets its contract: the output falls on the multiples of n1 × n2.
-- Assumes nothing.
use Prim.Native.Nat.{◌≤◌}
use mathlib.Core.Path.{◌∙◌}
use native.Mathlib.Omega.{arith}
use Rattle.clock.proofs.lawful.Laws.{parts}
use Rattle.clock.proofs.falling.Laws.{divides, periodic_off, periodic_every}
use Rattle.clock.proofs.lawful.LawfulClock.periodic.Goals as goal

pub above-requires : goal.above-requires
above-requires c = (rw c.period_of.ensures.0 (divides _ _ _ _ c.in-Every.is (parts _ c.args.self.lawful).periodic).low, omega (arith, c.period_of.ensures.1))

pub returns-in-Off : goal.returns-in-Off
returns-in-Off c = periodic_off _ c.in-Off.is

pub returns-in-Every : goal.returns-in-Every
returns-in-Every c =
    let e = c.in-Every.is in
    let d = divides _ _ _ _ e (parts _ c.args.self.lawful).periodic in
    let p = c.period_of.ensures in
    let h : c.period_of.result ≤ 864000000000 = omega (arith, p.1) in
    periodic_every _ _ _ _ _ e d.low (rw p.0 at h) (rw (p.0, c.from.ensures) at c.above.ensures.0) (c.above.ensures.1 ∙ p.0)
