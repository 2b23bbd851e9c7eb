-- A refused call changes nothing and gives nothing. Assumes nothing.
use mathlib.Core.Path.{◌≡◌, refl, ◌∙◌}
use mathlib.Core.Bool.{false}
use lib.Dec.{eqb}
use borrow.Author.Tests.{ne_eqb}
use Rattle.wire.specs.Numbers.{given}
use Rattle.sync.specs.declared.board.Board.{Board}
use Rattle.sync.specs.Calls.{Call, after, number, values, beside, lines}
use Rattle.sync.proofs.Numbers.{number_given}

module _ (k : Call) (b : Board) (h : number k b ≡ 0 → ⊥) where
  -- its table gives a number
  some : eqb (given (lines k b)) 0 ≡ false
  some = ne_eqb _ _ (λ e. h (number_given k b ∙ e))

pub refused : (k : Call) (b : Board) → (number k b ≡ 0 → ⊥) → after k b ≡ b
refused (Call.set_switches rc1 base) b h = simp (some (Call.set_switches rc1 base) b h)
refused (Call.step pulse) b h = simp (some (Call.step pulse) b h)
refused (Call.run n) b h = simp (some (Call.run n) b h)
refused Call.read b h = refl
refused Call.take b h = simp (some Call.take b h)

pub values_beside : (k : Call) (b : Board) → (number k b ≡ 0 → ⊥) → values k b ≡ beside k
values_beside (Call.set_switches rc1 base) b h = refl
values_beside (Call.step pulse) b h = refl
values_beside (Call.run n) b h = refl
values_beside Call.read b h = simp (some Call.read b h)
values_beside Call.take b h = simp (some Call.take b h)
