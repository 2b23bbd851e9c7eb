-- The measure is what is left of the part.
use Rattle.std.proofs.Common.{length}
use Rattle.shell.proofs.feed_part.Given as goal

abbrev pub decreases-loop-left : goal.decreases-loop-left
decreases-loop-left g l = length l.left
