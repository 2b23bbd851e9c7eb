-- `LawfulClock::list` meets its contract. The invariant: the records up to the last one stand in the row.
-- Assumes nothing.
use Rattle.clock.proofs.waiting.Window.{Held}
use Rattle.clock.proofs.lawful.LawfulClock.list.Given as goal

abbrev pub invariant-loop-i : goal.invariant-loop-i
invariant-loop-i l = Held l.fn.self.clock l.fn.span.ticks l.fn.row l.row l.next l.last l.i
