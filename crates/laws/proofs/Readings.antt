-- What registers read as afterwards: CONTROL, MASK, LEVEL and VECTOR read back what was written, but for bits not named; TIME0 to TIME4 after a time request and
-- EVENT0 to EVENT4 after a captured edge read as the card's time, and register 18 as the count of missed edges; after a reset every register reads 0. And what ACK does with its bits. Assumes nothing.
use Prim.Native.Nat.{ℕ, zero, suc, ◌-◌, ◌%◌}
use mathlib.Core.Path.{◌≡◌, refl, sym, ap, ◌∙◌}
use mathlib.Core.Bool.{Bool, true, false}
use mathlib.Core.List.{List, [], ◌∷◌}
use lib.Dec.{eqb, leb}
use lib.ListN.{length, get_or}
use Rattle.std.specs.Prelude.{Ok, Err, ⊤}
use Rattle.wire.specs.Digits.{pick}
use Rattle.wire.specs.Numbers.{given, refusal, number_of, given_or}
use Rattle.wire.specs.declared.numbers.Answer.{Answer}
use Rattle.wire.specs.Packets.{packet_in}
use Rattle.wire.specs.Words.{zero_words, moment, read_words}
use Rattle.wire.proofs.words.Laws.{five_of, words_five}
use Rattle.parts.specs.Events.{control_written, opened, matching}
use Rattle.parts.specs.Interrupts.{with_mask, with_level, with_vector}
use Rattle.parts.specs.Pending.{bit}
use Rattle.parts.specs.Queues.{empty_queue, queued}
use Rattle.parts.specs.Settings.{applied}
use Rattle.parts.proofs.interrupts.Laws.{writes_mask, writes_level, writes_vector}
use Rattle.card.specs.declared.card.Card.{Card}
use Rattle.card.specs.Cards.{answer, with_event, with_interrupts, with_done}
use Rattle.card.specs.Lawful.{lawful}
use Rattle.card.specs.Packets.{ack_number, settings_taken, acknowledged}
use Rattle.card.specs.Registers.{words_now, read_lines, read_register, shown, write_refusal, write_register, written}
use Rattle.card.specs.Reset.{reset_card}
use Rattle.card.proofs.Ack.{ack_told}
use Rattle.card.proofs.registers.Laws.{time_lawful_lem, words_read}
use Rattle.laws.specs.Calls.{Call, after, number}
use Rattle.laws.specs.Readings.{Keeps, five_read}
use Rattle.laws.proofs.Keeps.{keeps}
use Rattle.laws.proofs.Latches.{time_request, edge_captured, reset_answers}
use Rattle.laws.proofs.Outcomes.{by}
use Rattle.laws.proofs.Refused.{accepted_lawful}

-- ---- reading a lawful card

reads : (d : Card) (reg : ℕ) → lawful d ≡ true → given (read_lines true reg) ≡ 0 → eqb reg 0 ≡ false → read_register d reg ≡ record { after = d; outcome = Ok (shown d reg) }
unfolding read_register
reads d reg l e z = rw (l, e, z) refl

-- ---- what was written

module _ (c : Card) (v : ℕ) (l : lawful c ≡ true) where
  back : (d : Card) (reg x : ℕ) → write_register c reg v ≡ answer d 0 → given (read_lines true reg) ≡ 0 → eqb reg 0 ≡ false → shown d reg ≡ x
      → read_register (after (Call.write reg v) c) reg ≡ record { after = after (Call.write reg v) c; outcome = Ok x }
  unfolding after
  back d reg x w e z s =
      let k : (write_register c reg v).after ≡ d = ap (λ (a : Answer Card ⊤). a.after) w in
      let m : lawful d ≡ true = sym (ap lawful k) ∙ keeps (Call.write reg v) c l in
      rw k (reads d reg m e z ∙ ap (λ (n : ℕ). record { after = d; outcome = Ok n }) s)

  pub control_written_lem : write_register c 11 v ≡ answer (with_event c (control_written c.event v)) 0
  unfolding write_register write_refusal written
  control_written_lem = simp l

  pub count_written : write_register c 18 v ≡ answer (with_event c (opened c.event)) 0
  unfolding write_register write_refusal written
  count_written = simp l

  mask_written : write_register c 14 v ≡ answer (with_interrupts c (with_mask c.interrupts (v % 32))) 0
  unfolding write_register write_refusal written
  mask_written = simp (l, writes_mask c.interrupts v)

  level_written : write_register c 16 v ≡ answer (with_interrupts c (with_level c.interrupts (v % 8))) 0
  unfolding write_register write_refusal written
  level_written = simp (l, writes_level c.interrupts v)

  vector_written : write_register c 17 v ≡ answer (with_interrupts c (with_vector c.interrupts (v % 256))) 0
  unfolding write_register write_refusal written
  vector_written = simp (l, writes_vector c.interrupts v)

  kept : {reg m : ℕ} → Keeps reg m → read_register (after (Call.write reg v) c) reg ≡ record { after = after (Call.write reg v) c; outcome = Ok (v % m) }
  unfolding shown
  kept Keeps.control = back _ 11 (v % 8) control_written_lem refl refl refl
  kept Keeps.mask = back _ 14 (v % 32) mask_written refl refl refl
  kept Keeps.level = back _ 16 (v % 8) level_written refl refl refl
  kept Keeps.vector = back _ 17 (v % 256) vector_written refl refl refl

-- what was written to a register that keeps it reads back, but for bits not named, and reading it changes nothing
pub register_back : (c : Card) (reg m v : ℕ) → Keeps reg m → number (Call.write reg v) c ≡ 0
    → read_register (after (Call.write reg v) c) reg ≡ record { after = after (Call.write reg v) c; outcome = Ok (v % m) }
register_back c reg m v k e = kept c v (accepted_lawful (Call.write reg v) c e) k

-- ---- the count of missed edges

-- register 18 reads as it, of every lawful card, and reading it changes nothing
pub count_reads : (c : Card) → lawful c ≡ true → read_register c 18 ≡ record { after = c; outcome = Ok c.event.missed }
unfolding shown
count_reads c l = reads c 18 l refl refl

-- ---- latched times

-- five registers of a latch read as its words
module _ (d : Card) (l : lawful d ≡ true) where
  time_five : five_read d 1 ≡ get_or d.time_latch 0 0 ∷ get_or d.time_latch 1 0 ∷ get_or d.time_latch 2 0 ∷ get_or d.time_latch 3 0 ∷ get_or d.time_latch 4 0 ∷ []
  unfolding read_register shown
  time_five = simp l

  pub event_five : five_read d 6 ≡ get_or d.event.latch 0 0 ∷ get_or d.event.latch 1 0 ∷ get_or d.event.latch 2 0 ∷ get_or d.event.latch 3 0 ∷ get_or d.event.latch 4 0 ∷ []
  unfolding read_register shown
  event_five = simp l

-- the words of the card's time, wherever they are kept, are read as that time
pub time_in : (c : Card) (ws : List ℕ) → lawful c ≡ true → ws ≡ words_now c
    → read_words (get_or ws 0 0 ∷ get_or ws 1 0 ∷ get_or ws 2 0 ∷ get_or ws 3 0 ∷ get_or ws 4 0 ∷ []) ≡ Ok (moment c.clock.time.day c.clock.time.tick.ticks)
time_in c ws l e =
    ap read_words (sym (five_of ws (ap length e ∙ words_five c.clock.time.day c.clock.time.tick.ticks)) ∙ e) ∙ words_read c.clock.time (time_lawful_lem c l)

-- TIME0 to TIME4 after a time request
pub time_reads : (c : Card) → number (Call.read 0) c ≡ 0 → read_words (five_read (after (Call.read 0) c) 1) ≡ Ok (moment c.clock.time.day c.clock.time.tick.ticks)
time_reads c e =
    let l = accepted_lawful (Call.read 0) c e in
    let d : Card = after (Call.read 0) c in
    ap read_words (time_five d (keeps (Call.read 0) c l)) ∙ time_in c d.time_latch l (time_request c e)

-- EVENT0 to EVENT4 after a captured edge
pub event_reads : (c : Card) (falling : Bool) → number (Call.edge falling) c ≡ 0 → matching c.event.control falling ≡ true → c.event.closed ≡ false
    → read_words (five_read (after (Call.edge falling) c) 6) ≡ Ok (moment c.clock.time.day c.clock.time.tick.ticks)
event_reads c falling e t o =
    let l = accepted_lawful (Call.edge falling) c e in
    let d : Card = after (Call.edge falling) c in
    ap read_words (event_five d (keeps (Call.edge falling) c l)) ∙ time_in c d.event.latch l (edge_captured falling c e t o)

-- ---- after a reset

zeros_at : (i : ℕ) → get_or zero_words i 0 ≡ 0
zeros_at zero = refl
zeros_at (suc zero) = refl
zeros_at (suc (suc zero)) = refl
zeros_at (suc (suc (suc zero))) = refl
zeros_at (suc (suc (suc (suc zero)))) = refl
zeros_at (suc (suc (suc (suc (suc i))))) = refl

module _ (c : Card) (reg : ℕ) where
  abbrev d : Card
  d = reset_card c.clock.time c.settings

  Zero : ℕ → Type 0
  Zero n = n ≡ 0

  shows_zero : shown d reg ≡ 0
  unfolding shown Zero
  shows_zero =
      by Zero (eqb reg 0) (λ e. refl)
      (λ e. by Zero (leb reg 5) (λ e. zeros_at (reg - 1))
      (λ e. by Zero (leb reg 10) (λ e. zeros_at (reg - 6))
      (λ e. by Zero (eqb reg 11) (λ e. refl)
      (λ e. by Zero (eqb reg 12) (λ e. refl)
      (λ e. by Zero (eqb reg 14) (λ e. refl)
      (λ e. by Zero (eqb reg 15) (λ e. refl)
      (λ e. by Zero (eqb reg 16) (λ e. refl)
      (λ e. by Zero (eqb reg 17) (λ e. refl) (λ e. refl)))))))))

  read_zero : given_or 0 (read_register d reg).outcome ≡ 0
  unfolding read_register
  read_zero = go (eqb n 0)
    where
      n : ℕ
      n = given (read_lines (lawful d) reg)

      go : (t : Bool) → given_or 0 (pick t (Ok (shown d reg)) (Err (refusal n))) ≡ 0
      go true = shows_zero
      go false = refl

-- every register reads 0
pub reset_reads : (c : Card) (reg : ℕ) → number Call.reset c ≡ 0 → given_or 0 (read_register (after Call.reset c) reg).outcome ≡ 0
unfolding after
reset_reads c reg e = ap (λ (a : Answer Card ⊤). given_or 0 (read_register a.after reg).outcome) (reset_answers c (accepted_lawful Call.reset c e)) ∙ read_zero c reg

-- ---- ACK

module _ (c : Card) (v : ℕ) where
  acks : lawful c ≡ true → write_register c 12 v ≡ acknowledged c v
  unfolding write_register write_refusal written
  acks l = simp l

  -- without bit 7: bit 0 clears the done bit, and without either nothing changes
  pub ack_clears : number (Call.write 12 v) c ≡ 0 → bit 128 v ≡ false → after (Call.write 12 v) c ≡ pick (bit 1 v) (with_done c false) c
  unfolding after acknowledged
  ack_clears e b = ap (λ (a : Answer Card ⊤). a.after) (acks (accepted_lawful (Call.write 12 v) c e)) ∙ rw b

  -- with it, an accepted packet sets what it says, the queue is empty and the done bit set; what is refused, `Refusals.Excepted` says
  pub ack_takes : number (Call.write 12 v) c ≡ 0 → bit 128 v ≡ true
      → ((after (Call.write 12 v) c).settings ≡ applied (packet_in (queued c.queue)) c.settings) × ((after (Call.write 12 v) c).queue ≡ empty_queue) × ((after (Call.write 12 v) c).done ≡ true)
  unfolding number after acknowledged settings_taken
  ack_takes e b =
      let w = acks (accepted_lawful (Call.write 12 v) c e) in
      let z : ack_number c ≡ 0 = sym (ap (λ (a : Answer Card ⊤). number_of a.outcome) w ∙ rw b (ack_told c.jam (queued c.queue) (tt {0}))) ∙ e in
      go w z (bit 1 v) refl
    where
      go : write_register c 12 v ≡ acknowledged c v → ack_number c ≡ 0 → (t : Bool) → bit 1 v ≡ t
          → ((write_register c 12 v).after.settings ≡ applied (packet_in (queued c.queue)) c.settings) × ((write_register c 12 v).after.queue ≡ empty_queue) × ((write_register c 12 v).after.done ≡ true)
      go w z true f = rw w (rw (b, f) (rw z (refl, refl, refl)))
      go w z false f = rw w (rw (b, f) (rw z (refl, refl, refl)))
