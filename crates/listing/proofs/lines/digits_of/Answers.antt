-- `lines::digits_of` meets its contract: the digits are found from the last one on.
-- Assumes nothing.
use Rattle.listing.proofs.lines.Counting.{divided_none}
use Rattle.listing.proofs.lines.digits_of.Goals as goal

pub loop-i-init : goal.loop-i-init
loop-i-init c = divided_none _
