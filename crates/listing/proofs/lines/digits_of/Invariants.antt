-- `lines::digits_of` meets its contract: the digits are found from the last one on.
-- Assumes nothing.
use Rattle.listing.proofs.lines.Counting.{Divided}
use Rattle.listing.proofs.lines.digits_of.Given as goal

abbrev pub invariant-loop-i : goal.invariant-loop-i
invariant-loop-i l = Divided l.n l.digits l.i l.left
