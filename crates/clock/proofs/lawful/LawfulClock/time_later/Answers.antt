-- `LawfulClock::time_later` meets its contract: within the day, into the next day, into the next year.
-- Assumes nothing.
use native.Mathlib.Omega.{arith}
use mathlib.Core.Path.{sym}
use Rattle.clock.proofs.lawful.Laws.{parts}
use Rattle.clock.proofs.time.Laws.{in_range_lem, within_day, next_in_year, new_year}
use Rattle.clock.proofs.lawful.LawfulClock.time_later.Goals as goal

pub overflow_add-ticks : goal.overflow_add-ticks
overflow_add-ticks c = omega (arith, in_range_lem _ (parts _ c.args.self.lawful).time, c.args.span.within)

pub returns-then-ticks-lt-TICKS_OF_DAY : goal.returns-then-ticks-lt-TICKS_OF_DAY
returns-then-ticks-lt-TICKS_OF_DAY c = sym (within_day _ _ c.if-ticks-lt-TICKS_OF_DAY.true)

pub overflow_add-result-else-time-days_in : goal.overflow_add-result-else-time-days_in
overflow_add-result-else-time-days_in c = omega (arith, in_range_lem _ (parts _ c.args.self.lawful).time)

pub returns-then-time-days_in : goal.returns-then-time-days_in
returns-then-time-days_in c =
    let d = rw c.days_in.ensures at c.if-time-days_in.true in
    sym (next_in_year _ _ (in_range_lem _ (parts _ c.args.self.lawful).time).proper.tick c.args.span.within c.if-ticks-lt-TICKS_OF_DAY.false d)

pub returns-else-time-days_in : goal.returns-else-time-days_in
returns-else-time-days_in c =
    let d = rw c.days_in.ensures at c.if-time-days_in.false in
    sym (new_year _ _ (in_range_lem _ (parts _ c.args.self.lawful).time).proper.tick c.args.span.within c.if-ticks-lt-TICKS_OF_DAY.false d)
