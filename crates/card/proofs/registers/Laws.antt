-- Registers: what a refusal of 0 tells, and the words of a lawful card's time. Assumes nothing.
use Prim.Native.Nat.{ℕ, ◌%◌, ◌≤◌, ◌<◌}
use lib.Arith.{lt_of_le-ne}
use mathlib.Core.Path.{◌≡◌, refl, sym, ap, ◌∙◌}
use mathlib.Core.Bool.{Bool, true, false}
use native.Mathlib.Omega.{arith}
use borrow.Author.Tests.{eq-eqb, ne_eqb}
use Rattle.wire.specs.Words.{words_or_zero, moment, read_words}
use Rattle.clock.specs.declared.time.Time.{Time}
use Rattle.clock.specs.Time.{time_lawful}
use Rattle.clock.proofs.time.Laws.{in_range_lem, days_in_year}
use Rattle.clock.proofs.lawful.Laws as clock
use Rattle.card.specs.declared.card.Card.{Card}
use Rattle.parts.specs.Events.{matching}
use Rattle.parts.specs.Interrupts.{interrupts_written, line_up}
use Rattle.card.specs.Cards.{answer, with_interrupts, with_queue}
use Rattle.parts.specs.Pending.{raised, cleared}
use Rattle.parts.specs.Queues.{enqueued}
use Rattle.std.specs.Prelude.{Some, Result, Ok, Err, ⊤}
use Rattle.wire.specs.Numbers.{answered}
use Rattle.wire.specs.declared.numbers.Answer.{Answer}
use Rattle.wire.specs.declared.numbers.Refusal.{Refusal}
use Rattle.wire.proofs.numbers.Names.{done_by, refused_by}
use Rattle.parts.proofs.interrupts.Laws.{writes_intstat}
use Rattle.card.specs.Lawful.{lawful}
use Rattle.card.specs.Registers.{read_refusal, read_register, words_at, write_refusal, write_register, written, matched, edge, request, line_refusal, line}
use Rattle.wire.proofs.words.Laws.{words_within, in_ranges}
use Rattle.wire.proofs.words.RoundTrip.{read_written}
use Rattle.parts.proofs.queue.Laws.{fill_within}
use Rattle.card.proofs.lawful.Laws.{parts}

-- a lawful card has a lawful time
pub time_lawful_lem : (c : Card) → lawful c ≡ true → time_lawful c.clock.time ≡ true
time_lawful_lem c h = (clock.parts c.clock (parts c h).clock).time

pub words_now_lem : (t : Time) → time_lawful t ≡ true → words_or_zero t.day t.tick.ticks ≡ words_at t
words_now_lem t h =
    let r = in_range_lem t h in
    words_within t.day t.tick.ticks r.proper.day_low (omega (arith, r.proper.day_high, days_in_year t.year)) r.proper.tick

-- and they read back
pub words_read : (t : Time) → time_lawful t ≡ true → read_words (words_at t) ≡ Ok (moment t.day t.tick.ticks)
words_read t h =
    let r = in_range_lem t h in
    read_written t.day t.tick.ticks (in_ranges t.day t.tick.ticks r.proper.day_low (omega (arith, r.proper.day_high, days_in_year t.year)) r.proper.tick)

-- a call that is not refused has a lawful card
pub read_known : (known : Bool) (reg : ℕ) → read_refusal known reg ≡ 0 → known ≡ true
unfolding read_refusal
read_known true reg e = refl
read_known false reg e = absurd (omega arith)

pub write_known : (known : Bool) (reg fill : ℕ) → write_refusal known reg fill ≡ 0 → known ≡ true
unfolding write_refusal
write_known true reg fill e = refl
write_known false reg fill e = absurd (omega arith)

-- a register that may be read, and one that may not
module _ (c : Card) (reg : ℕ) where
  pub read_passed : (u : ⊤) → Ok u ≡ answered (read_refusal (lawful c) reg) u → (lawful c ≡ true) × (read_refusal (lawful c) reg ≡ 0)
  read_passed u e = let z = (done_by (read_refusal (lawful c) reg) u u (sym e)).0 in (read_known (lawful c) reg z, z)

  pub read_stops : (u : ⊤) (r : Refusal) → Err r ≡ answered (read_refusal (lawful c) reg) u → record { after = c; outcome = Err r } ≡ read_register c reg
  unfolding read_register read_refusal
  read_stops u r e = let z = refused_by (read_refusal (lawful c) reg) u r (sym e) in simp (z.0, z.1)

-- room in a lawful card's queue
pub queue_within : (c : Card) → lawful c ≡ true → c.queue.fill ≤ 64
queue_within c h = fill_within c.queue (parts c h).queue

pub queue_room : (c : Card) → lawful c ≡ true → (c.queue.fill ≡ 64 → ⊥) → c.queue.fill < 64
queue_room c h e = lt_of_le-ne (queue_within c h) e

-- a register that may be written, and one that may not
module _ (c : Card) (reg v : ℕ) (k : Bool) (r : Result ⊤ Refusal) (ek : k ≡ lawful c) (er : r ≡ answered (write_refusal k reg c.queue.fill) tt) where
  by_card : r ≡ answered (write_refusal (lawful c) reg c.queue.fill) tt
  by_card = er ∙ ap (λ (t : Bool). answered (write_refusal t reg c.queue.fill) tt) ek

  pub write_passed : (u : ⊤) → r ≡ Ok u → (lawful c ≡ true) × (write_refusal (lawful c) reg c.queue.fill ≡ 0)
  write_passed u e =
      let z = (done_by (write_refusal (lawful c) reg c.queue.fill) tt u (sym by_card ∙ e)).0 in
      (write_known (lawful c) reg c.queue.fill z, z)

  -- one that may is written by its number
  pub write_done : (u : ⊤) → r ≡ Ok u → (k : ℕ) → reg ≡ k → (a : Answer Card ⊤) → a ≡ written c k v → a ≡ write_register c reg v
  unfolding write_register
  write_done u e k n a w = w ∙ ap (λ (i : ℕ). written c i v) (sym n) ∙ simp ((write_passed u e).1)

  pub write_stops : (e : Refusal) → r ≡ Err e → record { after = c; outcome = Err e } ≡ write_register c reg v
  unfolding write_register
  write_stops e h = let z = refused_by (write_refusal (lawful c) reg c.queue.fill) tt e (sym by_card ∙ h) in simp (z.0, z.1)

-- FIFO may be written, so it has room
pub fifo_room : (c : Card) (reg : ℕ) → (lawful c ≡ true) × (write_refusal (lawful c) reg c.queue.fill ≡ 0) → reg ≡ 13 → c.queue.fill < 64
unfolding write_refusal
fifo_room c reg h r = queue_room c h.0 (λ e. absurd (let t : ◌≡◌ {A = ℕ} 3 0 = sym (simp (h.0, r, eq-eqb c.queue.fill 64 e)) ∙ h.1 in omega arith))

-- the interrupt registers
pub writes_interrupts : (c : Card) (reg v : ℕ) → (reg ≡ 0 → ⊥) → (reg ≡ 11 → ⊥) → (reg ≡ 12 → ⊥) → (reg ≡ 13 → ⊥) → (reg ≡ 18 → ⊥)
    → answer (with_interrupts c (interrupts_written c.interrupts reg v)) 0 ≡ written c reg v
unfolding written
writes_interrupts c reg v a b d e f = simp (ne_eqb reg 0 a, ne_eqb reg 11 b, ne_eqb reg 12 d, ne_eqb reg 13 e, ne_eqb reg 18 f)

-- writing FIFO of a lawful card: 3, or the byte joins the queue
module _ (c : Card) (v : ℕ) (l : lawful c ≡ true) where
  pub fifo_3 : c.queue.fill ≡ 64 → write_register c 13 v ≡ answer c 3
  unfolding write_register write_refusal
  fifo_3 e = simp (l, eq-eqb c.queue.fill 64 e)

  pub fifo_joins : (c.queue.fill ≡ 64 → ⊥) → write_register c 13 v ≡ answer (with_queue c (enqueued c.queue (v % 256))) 0
  unfolding write_register write_refusal written
  fifo_joins e = simp (l, ne_eqb c.queue.fill 64 e)

-- a line that is up requests its level and vector
pub line_up_lem : (c : Card) → lawful c ≡ true → line_up c.interrupts ≡ true → Ok (Some (request c.interrupts.level c.interrupts.vector)) ≡ line c
unfolding line line_refusal
line_up_lem c l u = simp (l, u)

-- a full queue is refused by 3
pub write_3 : (k : Bool) (reg fill : ℕ) → k ≡ true → reg ≡ 13 → fill ≡ 64 → 3 ≡ write_refusal k reg fill
unfolding write_refusal
write_3 k reg fill l r e = simp (l, r, e)

-- a matching edge of a lawful card
pub edge_matched : (c : Card) (falling : Bool) → lawful c ≡ true → matching c.event.control falling ≡ true → answer (matched c) 0 ≡ edge c falling
unfolding edge
edge_matched c falling l t = simp (l, t)

-- ---- for the laws above: the pending bits that an accepted edge and INTSTAT leave

pub edge_takes : (c : Card) (falling : Bool) → lawful c ≡ true → matching c.event.control falling ≡ true
    → (edge c falling).after.interrupts.pending ≡ raised 1 true c.interrupts.pending
unfolding edge
edge_takes c falling l t = simp (l, t)

pub intstat_takes : (c : Card) (v : ℕ) → lawful c ≡ true → (write_register c 15 v).after.interrupts.pending ≡ cleared v c.interrupts.pending
unfolding write_register write_refusal written
intstat_takes c v l = simp (l, writes_intstat c.interrupts v)
