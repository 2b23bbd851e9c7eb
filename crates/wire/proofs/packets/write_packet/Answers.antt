-- `packets::write_packet` meets its contract: each case has its own bytes.
-- Assumes nothing.
use Prim.Native.Nat.{ℕ}
use mathlib.Core.Path.{refl, ap}
use mathlib.Core.List.{[], ◌∷◌}
use Rattle.wire.specs.declared.packets.Packet.TheVariants as Packet
use Rattle.wire.specs.Packets.{data_of, framed}
use Rattle.wire.proofs.packets.Laws.{write_put, write_case}
use Rattle.wire.proofs.packets.write_packet.Goals as goal

pub returns-in-I : goal.returns-in-I
unfolding data_of
returns-in-I c =
    write_case _ _ _ c.in-I.is _ _
    (write_put (Packet.I _) _ _ (ap (λ (b : ℕ). framed 0x49 (b ∷ [])) c.letter.ensures) refl refl _ _ c.put.ensures)

pub returns-in-K : goal.returns-in-K
unfolding data_of
returns-in-K c =
    write_case _ _ _ c.in-K.is _ _
    (write_put (Packet.K _) _ _ (ap (λ (b : ℕ). framed 0x4B (b ∷ [])) c.letter-in-K.ensures) refl refl _ _ c.put-in-K.ensures)
