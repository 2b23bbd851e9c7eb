-- `reading::scan` meets its contract. The invariant: the elements that came fit, and their number is added up.
-- Assumes nothing.
use lib.ListN.{length}
use Rattle.irig.proofs.reading.Laws.{Scanning}
use Rattle.irig.proofs.reading.scan.Given as goal

abbrev pub invariant-loop-shift : goal.invariant-loop-shift
invariant-loop-shift l = Scanning l.row l.number (length l.yielded)
