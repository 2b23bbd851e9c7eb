-- `packets::read_number` meets its contract: the digits passed are decimal and write `n`, which stays below a power of ten.
-- Assumes nothing.
use Rattle.wire.proofs.packets.Laws.{Read}
use Rattle.wire.proofs.packets.read_number.Given as goal

abbrev pub invariant-loop-b : goal.invariant-loop-b
invariant-loop-b l = Read l.digits l.n l.b-index
