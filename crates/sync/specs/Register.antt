-- The board's one register: the count in the low bits, bit 15 for ERR. Reading it takes nothing and clears nothing.
use Rattle.std.specs.Prelude.{ℕ, ◌+◌, not, List, [], ◌∷◌, Result}
use Rattle.wire.specs.Digits.{pick}
use Rattle.wire.specs.declared.numbers.Refusal.{Refusal}
use Rattle.wire.specs.Numbers.{Line, ◌if◌, given, answered}
use Rattle.sync.specs.declared.board.Board.{Board}
use Rattle.sync.specs.Counting.{frequency, count}
use Rattle.sync.specs.Lawful.{lawful}

-- what it shows
unfoldable pub shown : Board → ℕ
shown b = pick b.bit 0x8000 0 + count (frequency b.rc1) b.elapsed

abbrev pub read_lines : Board → List Line
read_lines b = 18 if not (lawful b) ∷ []

abbrev pub read_register : Board → Result ℕ Refusal
read_register b = answered (given (read_lines b)) (shown b)
