-- Packets: the queue read as one packet.
use Rattle.std.specs.Prelude.{ℕ, Bool, false, ◌&&◌, List, [], ◌∷◌, ◌++◌, ⊤, eqb}
use Rattle.wire.specs.Digits.{pick}
use Rattle.wire.specs.Numbers.{Line, ◌if◌, given}
use Rattle.wire.specs.declared.numbers.Answer.{Answer}
use Rattle.wire.specs.Packets.{packet_lines, packet_in, needs_jam_off}
use Rattle.parts.specs.declared.settings.Settings.{Settings}
use Rattle.parts.specs.Pending.{bit}
use Rattle.parts.specs.Queues.{empty_queue, queued}
use Rattle.parts.specs.Settings.{applied}
use Rattle.card.specs.declared.card.Card.{Card}
use Rattle.card.specs.Cards.{answer, with_done, with_queue, with_settings}

-- the refusals of ACK, as one table, of the jam and of the bytes in the queue: 4 to 10, and 25 for a packet that needs the jam off while it is on
abbrev pub ack_lines : Bool → List ℕ → List Line
ack_lines jam row = packet_lines row ++ (25 if (jam && needs_jam_off (packet_in row)) ∷ [])

unfoldable pub ack_refusal : Bool → List ℕ → ℕ
ack_refusal jam row = given (ack_lines jam row)

-- the same, of a card's jam and queue
abbrev pub ack_number : Card → ℕ
ack_number c = ack_refusal c.jam (queued c.queue)

-- the settings when the queue was read as one packet: what it says is set, and nothing if it is refused
unfoldable pub settings_taken : Bool → List ℕ → Settings → Settings
settings_taken jam row s = pick (eqb (ack_refusal jam row) 0) (applied (packet_in row) s) s

-- and the card: the queue is empty, and the done bit set after acceptance and clear after refusal
abbrev pub taken : Card → Card
taken c = with_done (with_settings (with_queue c empty_queue) (settings_taken c.jam (queued c.queue) c.settings)) (eqb (ack_number c) 0)

-- bit 0 clears the done bit
abbrev pub done_cleared : ℕ → Card → Card
done_cleared v c = pick (bit 1 v) (with_done c false) c

-- writing ACK: bit 0 clears the done bit; bit 7 then has the queue read as one packet
unfoldable pub acknowledged : Card → ℕ → Answer Card ⊤
acknowledged c v = pick (bit 128 v) (answer (taken (done_cleared v c)) (ack_number c)) (answer (done_cleared v c) 0)
