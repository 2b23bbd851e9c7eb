-- `feeding::list_held` meets its contract: what stands in the queue is listed as one piece.
-- Assumes nothing.
use mathlib.Core.Path.{◌≡◌}
use native.Mathlib.Omega.{arith}
use lib.ListN.{length}
use lib.Seq.{length-take-le}
use Rattle.listing.proofs.feeding.Whole.{held_listed}
use borrow.Author.Rules.{rules}
use Rattle.std.proofs.lemmas.Grind.{common_steps}
use Rattle.listing.proofs.feeding.list_held.Goals as goal

pub returns : goal.returns
returns c =
    let q = c.args.queue in
    let l : length q.bytes ≡ 64 = search rules in
    held_listed q _ _ _ _ (length-take-le q.fill q.bytes (omega (arith, l, c.requires.0))) _ (λ z. grind (arith, common_steps)) (λ z. grind (arith, common_steps)) c.list.ensures
