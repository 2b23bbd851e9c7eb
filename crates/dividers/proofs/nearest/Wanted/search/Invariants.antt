-- `nearest::Wanted::search`: every n1 before this one is met, and this one is 65,535 at most; the measure is what is left of them.
use Prim.Native.Nat.{◌-◌, ◌≤◌}
use Rattle.dividers.proofs.nearest.Going.{Best}
use Rattle.dividers.proofs.nearest.Wanted.search.Given as goal

abbrev pub invariant-loop-self : goal.invariant-loop-self
invariant-loop-self l = Best l.self.ns l.n1 l.best × (l.n1 ≤ 65535)

abbrev pub decreases-loop-self : goal.decreases-loop-self
decreases-loop-self l = 65536 - l.n1
