-- `writing::put_elements` meets its contract. The invariant: the elements before place i are put.
-- Assumes nothing.
use mathlib.Core.Path.{ap, ◌∙◌}
use mathlib.Core.List.{List}
use Prim.Native.Nat.{ℕ}
use lib.ListN.{get_or}
use native.Mathlib.Omega.{arith}
use Rattle.irig.specs.Writing.{element_at}
use Rattle.irig.proofs.writing.Laws.{put_more}
use Rattle.irig.proofs.writing.put_elements.Goals as goal

pub loop-i-preserved : goal.loop-i-preserved
loop-i-preserved c =
    put_more _ _ _ _ _ c.loop-i.invariant c.requires (omega arith)
    (c.element.ensures ∙ ap (λ (ss : List ℕ). element_at c.args.number (get_or ss c.loop-i.i 0)) c.shifts-shift-items.ensures)
