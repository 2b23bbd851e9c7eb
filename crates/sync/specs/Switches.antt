-- Setting the switches starts the board as before its first pulse, nothing waiting.
use Rattle.std.specs.Prelude.{ℕ, not, List, [], ◌∷◌}
use Rattle.wire.specs.declared.numbers.Answer.{Answer}
use Rattle.wire.specs.Numbers.{Line, ◌if◌, granted}
use Rattle.sync.specs.declared.board.Board.{Board}
use Rattle.sync.specs.Boards.{switches_fit, started}
use Rattle.sync.specs.Lawful.{lawful}

-- 20: a switch setting outside 0 to 3, or a base that is not a multiple of 16 below 256
abbrev pub switch_lines : Board → ℕ → ℕ → List Line
switch_lines b rc1 base = 18 if not (lawful b) ∷ 20 if not (switches_fit rc1 base) ∷ []

abbrev pub set_switches : Board → ℕ → ℕ → Answer Board Unit
set_switches b rc1 base = granted (switch_lines b rc1 base) b (started rc1 base) tt
