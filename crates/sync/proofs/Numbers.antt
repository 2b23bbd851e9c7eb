-- Every number of every call is that of its table of lines, and so it is given exactly if its line holds and no line above it does, and 0 exactly if none holds.
-- Assumes nothing.
use Prim.Native.Nat.{ℕ}
use mathlib.Core.Path.{◌≡◌, refl, ap, ◌∙◌}
use mathlib.Core.Bool.{Bool, true, false, not}
use mathlib.Core.List.{List, [], ◌∷◌, ◌++◌}
use mathlib.Core.Logic.{◌↔◌}
use lib.Dec.{eqb}
use borrow.Author.Tests.{not-true}
use Rattle.wire.specs.Numbers.{Line, ◌if◌, given, quiet, absent}
use Rattle.wire.proofs.numbers.Laws.{given_exactly, given_zero}
use Rattle.wire.proofs.numbers.Names.{given_number}
use Rattle.sync.specs.declared.board.Board.{Board}
use Rattle.sync.specs.Lawful.{lawful}
use Rattle.sync.specs.Boards.{switches_fit}
use Rattle.sync.specs.Register.{shown}
use Rattle.sync.specs.Interrupts.{next}
use Rattle.sync.specs.Calls.{Call, number, lines}

pub number_given : (k : Call) (b : Board) → number k b ≡ given (lines k b)
number_given (Call.set_switches rc1 base) b = given_number (lines (Call.set_switches rc1 base) b) tt refl
number_given (Call.step pulse) b = given_number (lines (Call.step pulse) b) tt refl
number_given (Call.run n) b = given_number (lines (Call.run n) b) tt refl
number_given Call.read b = given_number (lines Call.read b) (shown b) refl
number_given Call.take b = given_number (lines Call.take b) (next b) refl

-- no line has the number 0
numbered : (k : Call) (b : Board) → absent 0 (lines k b) ≡ true
numbered (Call.set_switches rc1 base) b = refl
numbered (Call.step pulse) b = refl
numbered (Call.run n) b = refl
numbered Call.read b = refl
numbered Call.take b = refl

-- 0 is given exactly if no line holds
pub done_exactly_if : (k : Call) (b : Board) → number k b ≡ 0 ↔ quiet (lines k b) ≡ true
done_exactly_if k b = rw (number_given k b) (given_zero (lines k b) (numbered k b))

-- and any other number exactly if its line holds and no line above it does
pub given_exactly_if : (k : Call) (b : Board) (n : ℕ) (above below : List Line) (t : Bool) → lines k b ≡ above ++ (n if t ∷ below)
    → eqb n 0 ≡ false → absent n above ≡ true → absent n below ≡ true → number k b ≡ n ↔ ((t ≡ true) × (quiet above ≡ true))
given_exactly_if k b n above below t l z x y = rw (number_given k b ∙ ap given l) (given_exactly n above below t z x y)

-- 18 is the first line of every call, and of no other
abbrev rest : Call → List Line
rest (Call.set_switches rc1 base) = 20 if not (switches_fit rc1 base) ∷ []
rest (Call.step pulse) = []
rest (Call.run n) = []
rest Call.read = []
rest Call.take = []

first : (k : Call) (b : Board) → lines k b ≡ 18 if not (lawful b) ∷ rest k
first (Call.set_switches rc1 base) b = refl
first (Call.step pulse) b = refl
first (Call.run n) b = refl
first Call.read b = refl
first Call.take b = refl

once : (k : Call) → absent 18 (rest k) ≡ true
once (Call.set_switches rc1 base) = refl
once (Call.step pulse) = refl
once (Call.run n) = refl
once Call.read = refl
once Call.take = refl

-- so it is given exactly if the board is not lawful, whatever the call
pub eighteen : (k : Call) (b : Board) → number k b ≡ 18 ↔ lawful b ≡ false
eighteen k b =
    let x = given_exactly_if k b 18 [] (rest k) (not (lawful b)) (first k b) refl refl (once k) in
    (λ e. not-true (lawful b) (x.0 e).0, λ u. x.1 (ap not u, refl))
