-- The board: what its switches may be, and how it starts.
use Rattle.std.specs.Prelude.{ℕ, ◌%◌, Bool, true, false, ◌&&◌, leb, eqb}
use Rattle.sync.specs.declared.board.Board.{Board}

-- RC1 is 0 to 3, the base a multiple of 16 below 256
unfoldable pub switches_fit : ℕ → ℕ → Bool
switches_fit rc1 base = leb rc1 3 && (leb base 255 && eqb (base % 16) 0)

-- before its first pulse: nothing has passed and nothing waits, and the bit is set
abbrev pub started : ℕ → ℕ → Board
started rc1 base = record { rc1 = rc1; base = base; seen = false; elapsed = 0; bit = true; err = false; slo = false; fast = false }

-- a fresh board has RC1 1, base 0
abbrev pub fresh_board : Board
fresh_board = started 1 0

-- the board with just these waiting
abbrev pub with_waiting : Board → Bool → Bool → Bool → Board
with_waiting b err slo fast = record { rc1 = b.rc1; base = b.base; seen = b.seen; elapsed = b.elapsed; bit = b.bit; err = err; slo = slo; fast = fast }
