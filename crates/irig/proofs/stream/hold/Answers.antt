-- `stream::hold` meets its contract: what the row has is less than what the frame misses; the other case the check finds.
-- Assumes nothing.
use mathlib.Core.Path.{◌≡◌, ◌∙◌}
use lib.ListN.{length}
use borrow.Author.Rules.{rules}
use Rattle.irig.proofs.stream.Laws.{hold_some, rest_of}
use Rattle.irig.proofs.stream.hold.Goals as goal

pub returns-then-rest-missing : goal.returns-then-rest-missing
returns-then-rest-missing c =
    let l : length c.args.begun ≡ 100 = search rules in
    c.took.ensures ∙ hold_some _ _ _ _ _ (rest_of c.args.row.now c.args.from) l c.requires.0 c.requires.1 c.requires.2 c.if-rest-missing.true _ c.store.ensures
