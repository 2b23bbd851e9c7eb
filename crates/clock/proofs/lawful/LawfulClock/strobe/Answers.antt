-- `LawfulClock::strobe` meets its contract, by the strobe's kind.
-- Assumes nothing.
use native.Mathlib.Omega.{arith}
use Rattle.clock.proofs.lawful.Laws.{parts}
use Rattle.clock.proofs.time.Laws.{in_range_lem}
use Rattle.clock.proofs.falling.Laws.{strobe_off, strobe_daily, strobe_each, daily_range, each_range}
use Rattle.clock.proofs.lawful.LawfulClock.strobe.Goals as goal

pub above-requires : goal.above-requires
above-requires c = rw c.from.ensures (omega (arith, daily_range _ _ c.in-Daily.is (parts _ c.args.self.lawful).strobe))

pub above-requires-in-EachSecond : goal.above-requires-in-EachSecond
above-requires-in-EachSecond c = rw c.from-in-EachSecond.ensures (omega (arith, each_range _ _ c.in-EachSecond.is (parts _ c.args.self.lawful).strobe))

pub returns-in-Off : goal.returns-in-Off
returns-in-Off c = strobe_off _ (in_range_lem _ (parts _ c.args.self.lawful).time).proper _ c.in-Off.is

pub returns-in-Daily : goal.returns-in-Daily
returns-in-Daily c =
    let p = parts _ c.args.self.lawful in
    let e = c.in-Daily.is in
    strobe_daily _ (in_range_lem _ p.time).proper _ _ _ e (daily_range _ _ e p.strobe) (rw c.from.ensures at c.above.ensures.0) c.above.ensures.1

pub returns-in-EachSecond : goal.returns-in-EachSecond
returns-in-EachSecond c =
    let p = parts _ c.args.self.lawful in
    let e = c.in-EachSecond.is in
    strobe_each _ (in_range_lem _ p.time).proper _ _ _ e (each_range _ _ e p.strobe) (rw c.from-in-EachSecond.ensures at c.above-in-EachSecond.ensures.0) c.above-in-EachSecond.ensures.1
