-- `search::search` meets its contract. The invariant: what is searched is the rest of the row, behind a marker or not.
-- Assumes nothing.
use Rattle.irig.proofs.search.Laws.{Searching}
use Rattle.irig.proofs.search.search.Given as goal

abbrev pub invariant-loop-i : goal.invariant-loop-i
invariant-loop-i l = Searching l.marked l.row l.before l.i
