-- ACK: the jam and what the queue reads as decide settings, done bit and number. By the law of what a row reads as. Assumes nothing.
use Prim.Native.Nat.{ℕ, ◌/◌, ◌%◌}
use mathlib.Core.Path.{◌≡◌, refl, sym, ap, ◌∙◌}
use mathlib.Core.Bool.{Bool, true, false, ◌&&◌}
use native.Mathlib.Nat.{div-one}
use lib.Dec.{eqb}
use borrow.Author.Tests.{eq-eqb, ne_eqb}
use Rattle.std.specs.Prelude.{Result, Ok, Err}
use Rattle.wire.specs.Digits.{pick}
use Rattle.wire.specs.Numbers.{answered}
use Rattle.wire.specs.Packets.{packet_in, read_packet}
use Rattle.wire.specs.declared.numbers.Refusal.{Refusal}
use Rattle.wire.specs.declared.packets.Packet.{Packet}
use Rattle.wire.specs.declared.packets.PacketRead.{PacketRead}
use Rattle.wire.proofs.numbers.Names.{answered_refused, jam_on_named, done_by, refused_by}
use Rattle.wire.proofs.packets.Read.{read_is, read_refused}
use Rattle.parts.specs.declared.queue.Queue.{Queue}
use Rattle.parts.specs.declared.settings.Settings.{Settings}
use Rattle.card.specs.declared.card.Card.{Card}
use Rattle.card.specs.Cards.{answer, with_done, with_queue, with_settings}
use Rattle.parts.specs.Pending.{bit}
use Rattle.parts.specs.Queues.{empty_queue, queued}
use Rattle.parts.specs.Settings.{applied}
use Rattle.card.specs.Packets.{ack_refusal, ack_number, settings_taken, taken, acknowledged}
use Rattle.card.proofs.Ack.{ack_decided, ack_refused}

-- what a queue comes to
abbrev pub told : Bool → Queue → Settings → Result Settings Refusal
told jam q s = answered (ack_refusal jam (queued q)) (applied (packet_in (queued q)) s)

module _ (jam : Bool) (q : Queue) (s : Settings) where
  module _ (r : PacketRead) (e : read_packet (queued q) ≡ Ok r) where
    pub taken_is : (jam && r.needs_jam_off) ≡ false → (t : Settings) → t ≡ applied r.packet s → Ok t ≡ told jam q s
    taken_is j t h =
        let i = read_is (queued q) r.packet r.needs_jam_off e in
        let z = ack_decided jam (queued q) i.0 false (ap (λ (x : Bool). jam && x) i.2 ∙ j) in
        ap Ok (h ∙ ap (λ (k : Packet). applied k s) (sym i.1)) ∙ simp z

    pub taken_25 : (jam && r.needs_jam_off) ≡ true → Err Refusal.JamOn ≡ told jam q s
    taken_25 j =
        let i = read_is (queued q) r.packet r.needs_jam_off e in
        let z = ack_decided jam (queued q) i.0 true (ap (λ (x : Bool). jam && x) i.2 ∙ j) in
        simp (z, jam_on_named)

  pub taken_refused : (r : Refusal) → read_packet (queued q) ≡ Err r → Err r ≡ told jam q s
  taken_refused r e =
      let i = read_refused (queued q) r e in
      let z = ack_refused jam (queued q) i.1 ∙ i.0 in
      sym (ap (λ (n : ℕ). answered n (applied (packet_in (queued q)) s)) z ∙ answered_refused r (applied (packet_in (queued q)) s))

-- with bit 7, bit 0 decides nothing: the done bit is set or cleared afterwards
cleared_first : (c : Card) (t : Bool) → taken (pick t (with_done c false) c) ≡ taken c
cleared_first c true = refl
cleared_first c false = refl

-- bit 0 alone
module _ (c : Card) (v : ℕ) (e : v / 128 % 2 ≡ 1 → ⊥) where
  pub clears_done : v % 2 ≡ 1 → record { after = with_done c false; outcome = Ok tt } ≡ acknowledged c v
  unfolding acknowledged
  clears_done h = simp (ne_eqb (v / 128 % 2) 1 e, div-one, eq-eqb (v % 2) 1 h)

  pub keeps_done : (v % 2 ≡ 1 → ⊥) → record { after = c; outcome = Ok tt } ≡ acknowledged c v
  unfolding acknowledged
  keeps_done h = simp (ne_eqb (v / 128 % 2) 1 e, div-one, ne_eqb (v % 2) 1 h)

-- the whole of it
pub takes_all : (c : Card) (v : ℕ) → bit 128 v ≡ true
    → answer (with_done (with_settings (with_queue c empty_queue) (settings_taken c.jam (queued c.queue) c.settings)) (eqb (ack_number c) 0)) (ack_number c) ≡ acknowledged c v
unfolding acknowledged
takes_all c v b = simp b (ap (λ (k : Card). answer k (ack_number c)) (sym (cleared_first c (bit 1 v))))

-- the card when its queue was taken
module _ (c : Card) (v : ℕ) (b : bit 128 v ≡ true) where
  pub takes_packet : (s : Settings) → Ok s ≡ told c.jam c.queue c.settings
      → record { after = with_done (with_settings (with_queue c empty_queue) s) true; outcome = Ok tt } ≡ acknowledged c v
  unfolding settings_taken
  takes_packet s e =
      let d = done_by (ack_number c) (applied (packet_in (queued c.queue)) c.settings) s (sym e) in
      sym (simp (d.0, d.1)) ∙ takes_all c v b

  pub takes_refusal : (r : Refusal) → Err r ≡ told c.jam c.queue c.settings
      → record { after = with_done (with_queue c empty_queue) false; outcome = Err r } ≡ acknowledged c v
  unfolding settings_taken
  takes_refusal r e =
      let d = refused_by (ack_number c) (applied (packet_in (queued c.queue)) c.settings) r (sym e) in
      sym (simp (d.0, d.1)) ∙ takes_all c v b
