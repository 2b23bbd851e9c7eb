-- The three interrupts: vectors are base plus 2, 1, 0 for ERR, SLO, FAST, in that priority, taken one by one.
use Rattle.std.specs.Prelude.{ℕ, ◌+◌, false, not, List, [], ◌∷◌, Option, Some, None, Ok}
use Rattle.wire.specs.Digits.{pick}
use Rattle.wire.specs.declared.numbers.Answer.{Answer}
use Rattle.wire.specs.Numbers.{Line, ◌if◌, granted}
use Rattle.sync.specs.declared.board.Board.{Board}
use Rattle.sync.specs.Boards.{with_waiting}
use Rattle.sync.specs.Lawful.{lawful}

-- a board with one flag taken

abbrev pub err_taken : Board → Board
err_taken b = with_waiting b false b.slo b.fast

abbrev pub slo_taken : Board → Board
slo_taken b = with_waiting b b.err false b.fast

abbrev pub fast_taken : Board → Board
fast_taken b = with_waiting b b.err b.slo false

-- the next one's vector; with none waiting the answer says so, for 0 is a vector too
unfoldable pub next : Board → Option ℕ
next b =
    pick b.err (Some (b.base + 2))
    (pick b.slo (Some (b.base + 1))
    (pick b.fast (Some b.base)
    None))

-- and the board when it is taken
unfoldable pub next_taken : Board → Board
next_taken b = pick b.err (err_taken b) (pick b.slo (slo_taken b) (pick b.fast (fast_taken b) b))

abbrev pub take_lines : Board → List Line
take_lines b = 18 if not (lawful b) ∷ []

abbrev pub take_interrupt : Board → Answer Board (Option ℕ)
take_interrupt b = granted (take_lines b) b (next_taken b) (next b)

-- WITHIN THE CRATE

-- what a lawful board answers
abbrev pub taken : Board → Option ℕ → Answer Board (Option ℕ)
taken b i = record { after = b; outcome = Ok i }
