-- `packets::put` meets its contract: stores from the front on, or none.
-- Assumes nothing.
use mathlib.Core.Path.{◌≡◌}
use native.Mathlib.Omega.{arith}
use lib.ListN.{length}
use borrow.Author.Rules.{rules}
use Rattle.wire.proofs.packets.Laws.{put_short, put_done}
use Rattle.wire.proofs.packets.put.Goals as goal

pub returns-then-row : goal.returns-then-row
returns-then-row g c =
    let n : length c.args.bytes ≡ g.row.N = search rules in
    put_short c.args.id _ c.args.bytes c.args.row.now n c.if-row.true

pub returns : goal.returns
returns g c =
    let n : length c.args.bytes ≡ g.row.N = search rules in
    put_done c.args.id _ c.args.bytes c.args.row.now n _ _ c.copy_from_slice.ensures.after (omega arith) c.if-row.false
