-- No call touches a field that it is not said to touch: of all calls, `touches` names the fields, and the others stay. By the cases of Outcomes.
-- Assumes nothing.
use Prim.Native.Nat.{ℕ, ◌%◌}
use mathlib.Core.Path.{◌≡◌, refl, sym, ap, subst, ◌∙◌}
use mathlib.Core.Bool.{Bool, true, false, ◌&&◌}
use mathlib.Core.List.{List, [], ◌∷◌}
use lib.Dec.{eqb}
use lib.ListN.{length}
use borrow.Author.Tests.{eq-eqb, ne_eqb}
use Rattle.wire.specs.Digits.{pick}
use Rattle.wire.specs.Packets.{packet_in}
use Rattle.wire.proofs.digits.Laws.{and_true}
use Rattle.wire.specs.declared.packets.Packet.{Packet}
use Rattle.clock.specs.Waiting.{passed}
use Rattle.clock.proofs.waiting.Resume.{strobe_later}
use Rattle.parts.specs.declared.event.Event.{Event}
use Rattle.parts.specs.Events.{keeps_first, control_written, matching, captured, counted, edge_taken}
use Rattle.parts.specs.Interrupts.{event_raised}
use Rattle.parts.specs.Pending.{bit}
use Rattle.parts.specs.Queues.{empty_queue, queued}
use Rattle.parts.specs.Settings.{applied}
use Rattle.parts.proofs.event.Laws.{edge_counts, edge_captures}
use Rattle.card.specs.declared.card.Card.{Card}
use Rattle.card.specs.Cards.{with_event, with_interrupts, with_queue, with_settings, with_done}
use Rattle.card.specs.Packets.{ack_number, done_cleared}
use Rattle.card.specs.Registers.{words_now, matched}
use Rattle.card.specs.Waiting.{card_after}
use Rattle.laws.specs.Calls.{Call, after, Field, among, Same, packet_touches, ack_touches, control_touches, matching_touches, edge_touches, read_touches, write_touches, touches}
use Rattle.laws.specs.Refusals.{Excepted}
use Rattle.laws.proofs.Outcomes.{Effect, Outcome, by, found_effect, outcome}

-- a card that stays is the same in every field
pick_same : {A : Type 0} (t : Bool) (a : A) → pick t a a ≡ a
pick_same true a = refl
pick_same false a = refl

pub unchanged : (fs : List Field) (c : Card) → Same fs c c
unfolding Same
unchanged fs c = simp pick_same

-- ACK, by its bits and by the packet in the queue
packet_touched : (p : Packet) (c : Card) → Same (Field.done ∷ Field.queue ∷ packet_touches p) c (with_done (with_settings (with_queue c empty_queue) (applied p c.settings)) true)
unfolding Same among
packet_touched (Packet.A mode) c = refl
packet_touched (Packet.G offset) c = refl
packet_touched (Packet.H f m) c = refl
packet_touched (Packet.I s) c = refl
packet_touched (Packet.K g) c = refl

-- CONTROL, by bit 2 of the value, and a matching edge, by the latch
control_touched : (c : Card) (v : ℕ) → Same (control_touches v) c (with_event c (control_written c.event v))
unfolding Same among
control_touched c v = go (keeps_first v) refl
  where
    go : (t : Bool) → keeps_first v ≡ t → Same (Field.control ∷ pick t [] (Field.closed ∷ [])) c (with_event c (control_written c.event v))
    go true e = ap (λ (x : Bool). with_event c (record { control = v % 8; closed = x; missed = c.event.missed; latch = c.event.latch })) (ap (λ (x : Bool). c.event.closed && x) e ∙ and_true c.event.closed)
    go false e = refl

-- what is touched, where that is what a matching edge leaves of the event input
event_touched : (fs : List Field) (c : Card) (e : Event) → edge_taken c.event (words_now c) ≡ e → Same fs c (with_interrupts (with_event c e) (event_raised c.interrupts)) → Same fs c (matched c)
event_touched fs c e q = subst (λ (x : Event). Same fs c (with_interrupts (with_event c x) (event_raised c.interrupts))) (sym q)

matched_touched : (c : Card) → Same (matching_touches c.event) c (matched c)
unfolding Same among
matched_touched c = go c.event.closed (keeps_first c.event.control) refl refl
  where
    go : (t k : Bool) → c.event.closed ≡ t → keeps_first c.event.control ≡ k
        → Same (Field.pending ∷ pick t (Field.missed ∷ []) (Field.event_latch ∷ pick k (Field.closed ∷ []) [])) c (matched c)
    go true k e f = event_touched (Field.pending ∷ Field.missed ∷ []) c (counted c.event) (edge_counts c.event (words_now c) e) refl
    go false true e f = event_touched (Field.pending ∷ Field.event_latch ∷ Field.closed ∷ []) c (captured c.event (words_now c)) (edge_captures c.event (words_now c) e) refl
    go false false e f =
        event_touched (Field.pending ∷ Field.event_latch ∷ []) c (captured c.event (words_now c)) (edge_captures c.event (words_now c) e)
        (ap (λ (x : Bool). with_interrupts (with_event c (record { control = c.event.control; closed = x; missed = c.event.missed; latch = words_now c })) (event_raised c.interrupts)) (f ∙ sym e))

-- an edge, by whether it matches
edge_touched : (falling t : Bool) (c d : Card) → matching c.event.control falling ≡ t → Same (pick t (matching_touches c.event) []) c d → Same (edge_touches falling c.event) c d
edge_touched falling t c d e = subst (λ (x : Bool). Same (pick x (matching_touches c.event) []) c d) (sym e)

done_touched : (c : Card) (t : Bool) → Same (pick t (Field.done ∷ []) []) c (pick t (with_done c false) c)
unfolding Same among
done_touched c true = refl
done_touched c false = refl

refused_touched : (c : Card) → Same (Field.done ∷ Field.queue ∷ []) c (with_done (with_queue c empty_queue) false)
unfolding Same among
refused_touched c = refl

module _ (v : ℕ) (c : Card) where
  ack_clears : bit 128 v ≡ false → Same (ack_touches v c) c (done_cleared v c)
  unfolding ack_touches
  ack_clears b = rw b (done_touched c (bit 1 v))

  ack_takes : bit 128 v ≡ true → ack_number c ≡ 0 → ack_touches v c ≡ Field.done ∷ Field.queue ∷ packet_touches (packet_in (queued c.queue))
  unfolding ack_touches
  ack_takes b e = simp (b, eq-eqb (ack_number c) 0 e)

  ack_refuses : bit 128 v ≡ true → (ack_number c ≡ 0 → ⊥) → ack_touches v c ≡ Field.done ∷ Field.queue ∷ []
  unfolding ack_touches
  ack_refuses b e = simp (b, ne_eqb (ack_number c) 0 e)

touched : (k : Call) (c d : Card) → Effect c k d → Same (touches k c) c d
unfolding Same among touches read_touches write_touches card_after
touched k c d (Effect.sets_time year day hour minute second e) = refl
touched k c d Effect.reads_time = refl
touched k c d (Effect.reads_other reg e) = unchanged (read_touches reg) c
touched k c d (Effect.requests_time v) = refl
touched k c d (Effect.writes_control v) = control_touched c v
touched k c d (Effect.clears_done v e) = ack_clears v c e
touched k c d (Effect.takes_packet v b e) = subst (λ (fs : List Field). Same fs c d) (sym (ack_takes v c b e)) (packet_touched (packet_in (queued c.queue)) c)
touched k c d (Effect.joins_queue v e) = refl
touched k c d (Effect.joins_block row e) = refl
touched k c d (Effect.writes_mask v) = refl
touched k c d (Effect.clears_pending v) = refl
touched k c d (Effect.writes_level v) = refl
touched k c d (Effect.writes_vector v) = refl
touched k c d (Effect.opens_latch v) = refl
touched k c d (Effect.matches_edge falling e) = edge_touched falling true c d e (matched_touched c)
touched k c d (Effect.passes_edge falling e) = unchanged (edge_touches falling c.event) c
touched k c d Effect.tells_line = refl
touched k c d (Effect.sets_strobe s e) = refl
touched k c d (Effect.sets_periodic s e) = refl
touched k c d (Effect.waits n row e) = rw (strobe_later (passed c.clock n (length row)) c.clock)
touched k c d Effect.resets = refl
touched k c d (Effect.saves row) = refl
touched k c d (Effect.loads bytes e j) = refl
touched k c d (Effect.writes_frame row) = refl
touched k c d (Effect.switches_jam on j) = refl

excepted : (k : Call) (c d : Card) {n : ℕ} → Excepted k c d n → Same (touches k c) c d
unfolding touches write_touches
excepted k c d (Excepted.packet v l b z) = subst (λ (fs : List Field). Same fs c d) (sym (ack_refuses v c b z)) (refused_touched c)
excepted k c d (Excepted.block row l r f) = touched _ c d (found_effect c row l)

by_outcome : {n : ℕ} (k : Call) (c d : Card) → Outcome k c d n → Same (touches k c) c d
by_outcome k c d (Outcome.unlawful l) = unchanged (touches k c) c
by_outcome k c d (Outcome.refused l e f) = unchanged (touches k c) c
by_outcome k c d (Outcome.accepted l o) = touched k c d o
by_outcome k c d (Outcome.excepted l x e f) = excepted k c d x

pub frame : (k : Call) (c : Card) → Same (touches k c) c (after k c)
frame k c = by_outcome k c (after k c) (outcome k c)

-- ---- for single fields: one that no packet sets, and that is no register's, is touched by no reading and no writing; and one that a matching edge touches on
-- no latch, open or closed, is touched by no edge

abbrev pub Without : Field → List Field → Type 0
Without f fs = among fs f ≡ false

without_none : (f : Field) → Without f []
unfolding among
without_none f = refl

module _ (f : Field) where
  pub read_without : Without f (Field.time_latch ∷ []) → (reg : ℕ) → Without f (read_touches reg)
  unfolding read_touches
  read_without t reg = by (Without f) (eqb reg 0) (λ e. t) (λ e. without_none f)

  pub edge_without : Without f (Field.pending ∷ Field.missed ∷ []) → Without f (Field.pending ∷ Field.event_latch ∷ []) → Without f (Field.pending ∷ Field.event_latch ∷ Field.closed ∷ [])
      → (falling : Bool) (e : Event) → Without f (edge_touches falling e)
  edge_without m l k falling e =
      by (Without f) (matching e.control falling)
      (λ h. by (λ (fs : List Field). Without f (Field.pending ∷ fs)) e.closed (λ h. m)
      (λ h. by (λ (fs : List Field). Without f (Field.pending ∷ Field.event_latch ∷ fs)) (keeps_first e.control) (λ h. k) (λ h. l)))
      (λ h. without_none f)

  module _ (d : Without f (Field.done ∷ [])) (q : Without f (Field.done ∷ Field.queue ∷ [])) (h : (p : Packet) → Without f (Field.done ∷ Field.queue ∷ packet_touches p)) where
    pub ack_without : (v : ℕ) (c : Card) → Without f (ack_touches v c)
    unfolding ack_touches
    ack_without v c =
        by (Without f) (bit 128 v)
        (λ e. by (λ (fs : List Field). Without f (Field.done ∷ Field.queue ∷ fs)) (eqb (ack_number c) 0) (λ e. h (packet_in (queued c.queue))) (λ e. q))
        (λ e. by (Without f) (bit 1 v) (λ e. d) (λ e. without_none f))

    -- but for register 0, which latches the time
    pub write_without : Without f (Field.control ∷ []) → Without f (Field.control ∷ Field.closed ∷ []) → Without f (Field.queue ∷ []) → Without f (Field.mask ∷ []) → Without f (Field.pending ∷ []) → Without f (Field.level ∷ [])
        → Without f (Field.vector ∷ []) → Without f (Field.closed ∷ Field.missed ∷ []) → (reg v : ℕ) (c : Card) → (eqb reg 0 ≡ true → Without f (Field.time_latch ∷ [])) → Without f (write_touches reg v c)
    unfolding write_touches
    write_without n k b m i l w o reg v c t =
        by (Without f) (eqb reg 0) t
        (λ e. by (Without f) (eqb reg 11) (λ e. by (λ (fs : List Field). Without f (Field.control ∷ fs)) (keeps_first v) (λ e. n) (λ e. k))
        (λ e. by (Without f) (eqb reg 12) (λ e. ack_without v c)
        (λ e. by (Without f) (eqb reg 13) (λ e. b)
        (λ e. by (Without f) (eqb reg 14) (λ e. m)
        (λ e. by (Without f) (eqb reg 15) (λ e. i)
        (λ e. by (Without f) (eqb reg 16) (λ e. l)
        (λ e. by (Without f) (eqb reg 17) (λ e. w)
        (λ e. by (Without f) (eqb reg 18) (λ e. o) (λ e. without_none f)))))))))
