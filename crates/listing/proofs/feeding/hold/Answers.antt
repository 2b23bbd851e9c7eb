-- `feeding::hold` meets its contract: a block leaves the card that its bytes leave one by one.
-- Assumes nothing.
use mathlib.Core.Path.{ap, ◌∙◌}
use native.Mathlib.Omega.{arith}
use Rattle.wire.proofs.digits.Laws.{below_each}
use Rattle.card.specs.declared.blocks.BlockAnswer.{BlockAnswer}
use Rattle.laws.proofs.Blocks.{block_fed}
use Rattle.listing.proofs.feeding.hold.Goals as goal

pub returns : goal.returns
returns c =
    record {
      card = ap (λ (r : BlockAnswer). r.card) c.write_block.ensures ∙ block_fed _ _;
      bytes = below_each 256 c.args.bytes.now (λ i. omega (arith, c.type_inv.bytes i));
    }
