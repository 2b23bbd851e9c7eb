-- What is left of the part gets shorter, and there is room for a line.
use Rattle.std.proofs.Common.{length, ◌+◌, ◌≤◌}
use Rattle.frames.proofs.take_part.Given as goal

abbrev pub invariant-loop-rest : goal.invariant-loop-rest
invariant-loop-rest g l = l.lines.fill + 84 ≤ 65536

abbrev pub decreases-loop-rest : goal.decreases-loop-rest
decreases-loop-rest g l = length l.rest
