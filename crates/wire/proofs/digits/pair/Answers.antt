-- `digits::pair` meets its contract: one computed test over the whole table.
-- Assumes nothing.
use mathlib.Core.Path.{refl, ◌∙◌}
use Rattle.wire.specs.Digits.{digits, num}
use Rattle.wire.proofs.digits.Table.{pairs_right, pair_small}
use Rattle.wire.specs.declared.digits.TheConstants.{PAIRS}
use Rattle.wire.proofs.digits.pair.Goals as goal

pub returns : goal.returns
unfolding digits num
returns c = let e = c.from.ensures ∙ (pairs_right PAIRS refl refl).rule c.args.n c.requires in (e, rw e (pair_small c.args.n))
