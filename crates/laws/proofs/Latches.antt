-- The two latches. A time request leaves the words of the card's time in the time latch, a captured edge in the event latch, a reset zeros in both;
-- no other call touches either. By the frame. Assumes nothing.
use Prim.Native.Nat.{ℕ}
use mathlib.Core.Path.{◌≡◌, refl, sym, ap, subst, ◌∙◌}
use mathlib.Core.Bool.{Bool, true, false}
use mathlib.Core.Logic.{◌⊎◌, inl, inr}
use lib.Dec.{eqb}
use borrow.Author.Tests.{eqb-true}
use Rattle.std.specs.Prelude.{Ok, ⊤}
use Rattle.wire.specs.Digits.{pick}
use Rattle.wire.specs.Numbers.{number_of}
use Rattle.wire.specs.declared.numbers.Answer.{Answer}
use Rattle.wire.specs.Words.{zero_words}
use Rattle.wire.proofs.digits.Laws.{clash}
use Rattle.wire.specs.declared.packets.Packet.{Packet}
use Rattle.parts.specs.declared.event.Event.{Event}
use Rattle.parts.specs.Events.{matching}
use Rattle.parts.proofs.event.Laws.{edge_captures}
use Rattle.card.specs.declared.card.Card.{Card}
use Rattle.card.specs.Cards.{answer, with_time_latch}
use Rattle.card.specs.Lawful.{lawful}
use Rattle.card.specs.Registers
use Rattle.card.specs.Registers.{words_now, read_register, shown, write_refusal, write_register, written, matched}
use Rattle.card.specs.Reset
use Rattle.card.specs.Reset.{reset_card}
use Rattle.laws.specs.Calls.{Call, after, number, Field, among, Same, packet_touches, read_touches, write_touches, touches, LatchesTime, LatchesEvent}
use Rattle.laws.proofs.Refused.{accepted_lawful}
use Rattle.laws.proofs.Frame.{frame, Without, read_without, edge_without, write_without}

-- WHICH CALLS TOUCH THEM

-- a call that may not touch a latch leaves it
module _ (k : Call) (c : Card) where
  time_same : among (touches k c) Field.time_latch ≡ false → (after k c).time_latch ≡ c.time_latch
  unfolding Same
  time_same e = ap (λ (d : Card). d.time_latch) (frame k c) ∙ simp e

  event_same : among (touches k c) Field.event_latch ≡ false → (after k c).event.latch ≡ c.event.latch
  unfolding Same
  event_same e = ap (λ (d : Card). d.event.latch) (frame k c) ∙ simp e

-- no packet sets one
packet_no_latch : (p : Packet) → Without Field.time_latch (packet_touches p) × Without Field.event_latch (packet_touches p)
unfolding among
packet_no_latch (Packet.A mode) = (refl, refl)
packet_no_latch (Packet.G offset) = (refl, refl)
packet_no_latch (Packet.H f m) = (refl, refl)
packet_no_latch (Packet.I s) = (refl, refl)
packet_no_latch (Packet.K g) = (refl, refl)

-- only register 0 touches the time latch, and none the event latch
read_no_time : (reg : ℕ) → eqb reg 0 ≡ false → Without Field.time_latch (read_touches reg)
unfolding read_touches among
read_no_time reg e = simp e

write_no_time : (reg v : ℕ) (c : Card) → eqb reg 0 ≡ false → Without Field.time_latch (write_touches reg v c)
unfolding among
write_no_time reg v c z = write_without Field.time_latch refl refl (λ p. (packet_no_latch p).0) refl refl refl refl refl refl refl refl reg v c (λ e. clash (sym e ∙ z))

read_no_event : (reg : ℕ) → Without Field.event_latch (read_touches reg)
unfolding among
read_no_event = read_without Field.event_latch refl

write_no_event : (reg v : ℕ) (c : Card) → Without Field.event_latch (write_touches reg v c)
unfolding among
write_no_event reg v c = write_without Field.event_latch refl refl (λ p. (packet_no_latch p).1) refl refl refl refl refl refl refl refl reg v c (λ e. refl)

pub time_latching : (k : Call) (c : Card) → ((after k c).time_latch ≡ c.time_latch) ⊎ LatchesTime k
unfolding touches among
time_latching (Call.set_time year day hour minute second) c = inl (time_same (Call.set_time year day hour minute second) c refl)
time_latching (Call.read reg) c = go (eqb reg 0) refl
  where
    go : (t : Bool) → eqb reg 0 ≡ t → ((after (Call.read reg) c).time_latch ≡ c.time_latch) ⊎ LatchesTime (Call.read reg)
    go true e = inr (subst (λ (r : ℕ). LatchesTime (Call.read r)) (sym (eqb-true reg 0 e)) LatchesTime.reads)
    go false e = inl (time_same (Call.read reg) c (read_no_time reg e))
time_latching (Call.write reg v) c = go (eqb reg 0) refl
  where
    go : (t : Bool) → eqb reg 0 ≡ t → ((after (Call.write reg v) c).time_latch ≡ c.time_latch) ⊎ LatchesTime (Call.write reg v)
    go true e = inr (subst (λ (r : ℕ). LatchesTime (Call.write r v)) (sym (eqb-true reg 0 e)) (LatchesTime.writes v))
    go false e = inl (time_same (Call.write reg v) c (write_no_time reg v c e))
time_latching (Call.block row) c = inl (time_same (Call.block row) c refl)
time_latching (Call.edge falling) c = inl (time_same (Call.edge falling) c (edge_without Field.time_latch refl refl refl falling c.event))
time_latching Call.line c = inl (time_same Call.line c refl)
time_latching (Call.set_strobe s) c = inl (time_same (Call.set_strobe s) c refl)
time_latching (Call.set_periodic d) c = inl (time_same (Call.set_periodic d) c refl)
time_latching (Call.wait n row) c = inl (time_same (Call.wait n row) c refl)
time_latching Call.reset c = inr LatchesTime.resets
time_latching (Call.save row) c = inl (time_same (Call.save row) c refl)
time_latching (Call.load bytes) c = inl (time_same (Call.load bytes) c refl)
time_latching (Call.write_frame row) c = inl (time_same (Call.write_frame row) c refl)
time_latching (Call.switch_jam on) c = inl (time_same (Call.switch_jam on) c refl)

pub event_latching : (k : Call) (c : Card) → ((after k c).event.latch ≡ c.event.latch) ⊎ LatchesEvent k
unfolding touches among
event_latching (Call.set_time year day hour minute second) c = inl (event_same (Call.set_time year day hour minute second) c refl)
event_latching (Call.read reg) c = inl (event_same (Call.read reg) c (read_no_event reg))
event_latching (Call.write reg v) c = inl (event_same (Call.write reg v) c (write_no_event reg v c))
event_latching (Call.block row) c = inl (event_same (Call.block row) c refl)
event_latching (Call.edge falling) c = inr (LatchesEvent.edges falling)
event_latching Call.line c = inl (event_same Call.line c refl)
event_latching (Call.set_strobe s) c = inl (event_same (Call.set_strobe s) c refl)
event_latching (Call.set_periodic d) c = inl (event_same (Call.set_periodic d) c refl)
event_latching (Call.wait n row) c = inl (event_same (Call.wait n row) c refl)
event_latching Call.reset c = inr LatchesEvent.resets
event_latching (Call.save row) c = inl (event_same (Call.save row) c refl)
event_latching (Call.load bytes) c = inl (event_same (Call.load bytes) c refl)
event_latching (Call.write_frame row) c = inl (event_same (Call.write_frame row) c refl)
event_latching (Call.switch_jam on) c = inl (event_same (Call.switch_jam on) c refl)

-- WHAT THEY ARE LEFT AT

-- what they answer of a lawful card
module _ (c : Card) (l : lawful c ≡ true) where
  read_answers : read_register c 0 ≡ record { after = with_time_latch c (words_now c); outcome = Ok (shown c 0) }
  unfolding read_register
  read_answers = simp l

  write_answers : (v : ℕ) → write_register c 0 v ≡ answer (with_time_latch c (words_now c)) 0
  unfolding write_register write_refusal written
  write_answers v = simp l

  edge_answers : (falling t : Bool) → matching c.event.control falling ≡ t
      → Registers.edge c falling ≡ answer (pick t (matched c) c) 0
  unfolding Registers.edge
  edge_answers falling t e = simp (l, e)

  pub reset_answers : Reset.reset c ≡ answer (reset_card c.clock.time c.settings) 0
  unfolding Reset.reset
  reset_answers = simp l

-- an accepted reading or writing of register 0: the words of the card's time, all of one instant
pub time_request : (c : Card) → number (Call.read 0) c ≡ 0 → (after (Call.read 0) c).time_latch ≡ words_now c
unfolding after
time_request c e = ap (λ (a : Answer Card ℕ). a.after.time_latch) (read_answers c (accepted_lawful (Call.read 0) c e))

pub time_written : (v : ℕ) (c : Card) → number (Call.write 0 v) c ≡ 0 → (after (Call.write 0 v) c).time_latch ≡ words_now c
unfolding after
time_written v c e = ap (λ (a : Answer Card ⊤). a.after.time_latch) (write_answers c (accepted_lawful (Call.write 0 v) c e) v)

-- an edge is refused by 18 alone
pub edge_accepted : (falling : Bool) (c : Card) → lawful c ≡ true → number (Call.edge falling) c ≡ 0
unfolding number
edge_accepted falling c l = ap (λ (a : Answer Card ⊤). number_of a.outcome) (edge_answers c l falling (matching c.event.control falling) refl)

-- an accepted edge: what a matching one leaves; on an open latch the words of the card's time; one that does not match leaves the card as it is
pub edge_matched : (falling : Bool) (c : Card) → number (Call.edge falling) c ≡ 0 → matching c.event.control falling ≡ true → after (Call.edge falling) c ≡ matched c
unfolding after
edge_matched falling c e t = ap (λ (a : Answer Card ⊤). a.after) (edge_answers c (accepted_lawful (Call.edge falling) c e) falling true t)

pub edge_captured : (falling : Bool) (c : Card) → number (Call.edge falling) c ≡ 0 → matching c.event.control falling ≡ true → c.event.closed ≡ false → (after (Call.edge falling) c).event.latch ≡ words_now c
edge_captured falling c e t o = ap (λ (d : Card). d.event.latch) (edge_matched falling c e t) ∙ ap (λ (x : Event). x.latch) (edge_captures c.event (words_now c) o)

pub edge_passed : (falling : Bool) (c : Card) → number (Call.edge falling) c ≡ 0 → matching c.event.control falling ≡ false → after (Call.edge falling) c ≡ c
unfolding after
edge_passed falling c e t = ap (λ (a : Answer Card ⊤). a.after) (edge_answers c (accepted_lawful (Call.edge falling) c e) falling false t)

-- an accepted reset: zeros in both
pub reset_latches : (c : Card) → number Call.reset c ≡ 0 → ((after Call.reset c).time_latch ≡ zero_words) × ((after Call.reset c).event.latch ≡ zero_words)
unfolding after
reset_latches c e =
    let q = reset_answers c (accepted_lawful Call.reset c e) in
    (ap (λ (a : Answer Card ⊤). a.after.time_latch) q, ap (λ (a : Answer Card ⊤). a.after.event.latch) q)
