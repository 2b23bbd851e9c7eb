-- `packets::write_mode` meets its contract: 9 and 10 by the tests, and the bytes by `put`.
-- Assumes nothing.
use mathlib.Core.Path.{refl, sym, ◌∙◌}
use borrow.Author.Tests.{le-leb, lt-leb}
use Rattle.wire.specs.declared.packets.Packet.TheVariants as Packet
use Rattle.wire.specs.Packets.{data_of}
use Rattle.wire.proofs.packets.Laws.{write_9, write_10, write_put}
use Rattle.wire.proofs.packets.write_mode.Goals as goal

pub returns-then-mode-gt7 : goal.returns-then-mode-gt7
returns-then-mode-gt7 c = write_9 _ _ (lt-leb _ _ c.if-mode-gt7.true)

pub returns-then-not-mode_means : goal.returns-then-not-mode_means
returns-then-not-mode_means c = write_10 _ _ (le-leb _ _ c.if-mode-gt7.false) (sym c.mode_means.ensures ∙ c.if-not-mode_means.true)

pub returns : goal.returns
unfolding data_of
returns c =
    write_put (Packet.A _) _ _ refl (le-leb _ _ c.if-mode-gt7.false) (sym c.mode_means.ensures ∙ c.if-not-mode_means.false) _ _ c.put.ensures
