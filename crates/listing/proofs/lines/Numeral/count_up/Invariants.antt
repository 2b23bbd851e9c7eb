-- `lines::Numeral::count_up` meets its contract: the nines behind place i are zeros. The measure is i: not all digits are nines, so it stays a place.
-- Assumes nothing.
use mathlib.Core.Path.{◌≡◌}
use Rattle.listing.proofs.lines.Counting.{Carried}
use Rattle.listing.proofs.lines.Numeral.count_up.Given as goal

abbrev pub invariant-loop-self : goal.invariant-loop-self
invariant-loop-self l = Carried l.initial.self-inside.digits l.self-inside.digits l.i × (l.self-inside.first ≡ l.initial.self-inside.first)

abbrev pub decreases-loop-self : goal.decreases-loop-self
decreases-loop-self l = l.i
