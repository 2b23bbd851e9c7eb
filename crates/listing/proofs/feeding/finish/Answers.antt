-- `feeding::finish` meets its contract: no line, or that of the bytes held.
-- Assumes nothing.
use mathlib.Core.Path.{sym, ◌∙◌}
use Rattle.listing.proofs.feeding.Whole.{last_held}
use Rattle.listing.proofs.feeding.finish.Goals as goal

pub returns : goal.returns
returns c = last_held _ _ _ _ c.if-bench-gt40.false (sym c.goes_on.ensures ∙ c.if-not-goes_on.false) c.list_held.ensures
