-- `feeding::refill` meets its contract: the lent part is what stands in the queue.
-- Assumes nothing.
use mathlib.Core.Path.{◌≡◌, ap, ◌∙◌}
use native.Mathlib.Omega.{arith}
use lib.ListN.{length, take}
use lib.Seq.{length-take-le}
use Rattle.card.specs.declared.card.Card.{Card}
use Rattle.laws.specs.Calls.{fed}
use borrow.Author.Rules.{rules}
use Rattle.listing.proofs.feeding.refill.Goals as goal

pub returns : goal.returns
returns c =
    let q = c.args.queue in
    let l : length q.bytes ≡ 64 = search rules in
    record {
      held = record {
        card = c.hold.ensures.card ∙ ap (λ (k : Card). fed k (take q.fill q.bytes)) c.fresh_card.ensures;
        bytes = c.hold.ensures.bytes;
      };
      count = length-take-le q.fill q.bytes (omega (arith, l, c.requires));
    }
