-- `feeding::feed` meets its contract: nothing, or as `feed_held` has it.
-- Assumes nothing.
use Rattle.listing.proofs.feeding.Whole.{feed_none, feed_some}
use Rattle.listing.proofs.feeding.feed.Goals as goal

pub returns-then-bench-gt40 : goal.returns-then-bench-gt40
returns-then-bench-gt40 c = feed_none _ _ _ c.if-bench-gt40.true

pub returns : goal.returns
returns c = feed_some _ _ _ _ _ c.if-bench-gt40.false c.feed_held.ensures
