-- `packets::write_format` meets its contract: 10 by the test, and the bytes by `put`.
-- Assumes nothing.
use Prim.Native.Nat.{ℕ}
use mathlib.Core.Path.{refl, sym, ◌∙◌, ap₂}
use mathlib.Core.List.{[], ◌∷◌}
use Rattle.wire.specs.declared.packets.Packet.TheVariants as Packet
use Rattle.wire.specs.Packets.{data_of, framed}
use Rattle.wire.proofs.packets.Laws.{write_10, write_put}
use Rattle.wire.proofs.packets.write_format.Goals as goal

pub returns-then-not-pair_means : goal.returns-then-not-pair_means
returns-then-not-pair_means c = write_10 (Packet.H _ _) _ refl (sym c.pair_means.ensures ∙ c.if-not-pair_means.true)

pub returns : goal.returns
unfolding data_of
returns c =
    write_put (Packet.H _ _) _ _ (ap₂ (λ (f m : ℕ). framed 0x48 (f ∷ m ∷ [])) c.letter.ensures c.letter-2.ensures)
    refl (sym c.pair_means.ensures ∙ c.if-not-pair_means.false) _ _ c.put.ensures
