-- `LawfulClock::count_later` meets its contract: a remainder by n1 × n2 fits 32 bits.
-- Assumes nothing.
use Prim.Native.Nat.{◌+◌, ◌<◌}
use native.Mathlib.Nat.{mod-lt}
use native.Mathlib.Omega.{arith}
use Rattle.clock.specs.Waiting.{count_later}
use Rattle.clock.proofs.lawful.Laws.{parts}
use Rattle.clock.proofs.falling.Laws.{divides}
use Rattle.clock.proofs.lawful.LawfulClock.count_later.Goals as goal

pub nonzero_rem-gone : goal.nonzero_rem-gone
nonzero_rem-gone c = rw c.period_of.ensures.0 (divides _ _ _ _ c.in-Every.is (parts _ c.args.self.lawful).periodic).low

pub overflow_cast-result : goal.overflow_cast-result
overflow_cast-result c =
    let l : 0 < c.period_of.result = rw c.period_of.ensures.0 (divides _ _ _ _ c.in-Every.is (parts _ c.args.self.lawful).periodic).low in
    omega (arith, c.period_of.ensures.1, mod-lt (c.from.result + c.args.span.ticks) l)

pub returns-in-Off : goal.returns-in-Off
unfolding count_later
returns-in-Off c = rw c.in-Off.is

pub returns-in-Every : goal.returns-in-Every
unfolding count_later
returns-in-Every c = rw (c.in-Every.is, c.period_of.ensures.0, c.from.ensures)
