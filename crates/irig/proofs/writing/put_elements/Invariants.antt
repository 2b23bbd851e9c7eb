-- `writing::put_elements` meets its contract. The invariant: the elements before place i are put.
-- Assumes nothing.
use Rattle.irig.proofs.writing.Laws.{Put}
use Rattle.irig.proofs.writing.put_elements.Given as goal

abbrev pub invariant-loop-i : goal.invariant-loop-i
invariant-loop-i l = Put l.number l.initial.row l.row l.i
