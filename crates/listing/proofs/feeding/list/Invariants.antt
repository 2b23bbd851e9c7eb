-- `feeding::list` meets its contract. The invariant: the lines of the pieces before the bytes taken stand in the row, `next` says how many bytes the next one has, and the
-- numeral is its number. The measure is what is left of the input. Assumes nothing.
use Prim.Native.Nat.{◌-◌}
use mathlib.Core.Path.{◌≡◌}
use lib.ListN.{length}
use Rattle.listing.proofs.feeding.Going.{Turn}
use Rattle.listing.proofs.feeding.list.Given as goal

abbrev pub invariant-loop-next : goal.invariant-loop-next
invariant-loop-next l = Turn l.input l.fn.front l.fn.number l.initial.row l.at l.row l.number l.written l.taken l.next × (l.numeral ≡ l.number)

abbrev pub decreases-loop-next : goal.decreases-loop-next
decreases-loop-next l = length l.input - l.taken
