-- `lines::Numeral::put` meets its contract: the digits gone through are put.
-- Assumes nothing.
use Rattle.listing.proofs.lines.Laws.{Copied}
use Rattle.listing.proofs.lines.Numeral.put.Given as goal

abbrev pub invariant-loop-digit : goal.invariant-loop-digit
invariant-loop-digit l = Copied l.digit-items l.initial.row l.at l.row l.digit-index l.to
