-- The answer that a piece gets through the registers of its fresh card is the number that the table of ACK gives it with the jam on: no piece is too long for the
-- queue. By the card's law of bytes put in one by one. Assumes nothing.
use Prim.Native.Nat.{ℕ, ◌≤◌}
use mathlib.Core.Path.{◌≡◌, ap, ◌∙◌}
use mathlib.Core.Bool.{Bool, true}
use mathlib.Core.List.{List}
use lib.Dec.{eqb}
use lib.ListN.{length}
use Rattle.wire.specs.Digits.{pick, below}
use Rattle.wire.specs.Packets.{read_packet, number_read, jam_off_read}
use Rattle.card.specs.Packets.{ack_refusal}
use Rattle.card.specs.Reset.{fresh_card}
use Rattle.card.proofs.Ack.{ack_reads}
use Rattle.laws.proofs.Fed.{fed_number}
use Rattle.laws.proofs.Keeps.{fresh_lawful, fresh_queue, fresh_jam}
use Rattle.listing.specs.Listing.{answer_of}

pub answer_table : (piece : List ℕ) → length piece ≤ 64 → below 256 piece ≡ true → answer_of piece ≡ ack_refusal true piece
unfolding answer_of
answer_table piece h s = fed_number piece fresh_card fresh_lawful fresh_queue h s ∙ ap (λ (jam : Bool). ack_refusal jam piece) fresh_jam

-- so it is the number that the piece reads as on its own, and 25 where that is 0 and the packet needs the jam off
pub answer_reads : (piece : List ℕ) → length piece ≤ 64 → below 256 piece ≡ true
    → answer_of piece ≡ pick (eqb (number_read (read_packet piece)) 0) (pick (jam_off_read (read_packet piece)) 25 0) (number_read (read_packet piece))
answer_reads piece h s = answer_table piece h s ∙ ack_reads true piece
