-- There is room for a line.
use Rattle.std.proofs.Common.{◌+◌, ◌≤◌}
use Rattle.frames.proofs.run.Given as goal

abbrev pub invariant-loop : goal.invariant-loop
invariant-loop g l = l.lines.fill + 84 ≤ 65536
