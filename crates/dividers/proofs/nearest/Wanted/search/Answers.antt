-- `nearest::Wanted::search` meets its contract: what a turn comes to that met no exact pair.
-- Assumes nothing.
use native.Mathlib.Omega.{arith}
use Rattle.dividers.proofs.nearest.Going.{turn_most, turn_stops}
use Rattle.dividers.proofs.nearest.Wanted.search.Goals as goal

pub overflow_add-self : goal.overflow_add-self
overflow_add-self c =
    let l = c.loop-self in
    omega (arith, turn_most _ c.args.self.fits l.n1 l.best l.invariant.0 l.invariant.1 _ _ c.with_n1-next.ensures (omega arith) c.nearer-best.ensures)

pub returns-then-self-best : goal.returns-then-self-best
returns-then-self-best c =
    let l = c.loop-self in
    turn_stops _ c.args.self.fits l.n1 l.best l.invariant.0 l.invariant.1 _ _ c.with_n1-next.ensures (omega arith) c.nearer-best.ensures (rw (c.from.ensures, c.from-in-loop-self.ensures) at c.if-self-best.true)
