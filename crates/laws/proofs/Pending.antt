-- Pending bits and the interrupt line, of the calls: an occurrence raises its own bit and no other, INTSTAT clears exactly the bits of the value, bit 4 is never
-- raised, and the line is up exactly if LEVEL is not 0 and some bit is set in both. Assumes nothing.
use Prim.Native.Nat.{ℕ, ◌^◌, ◌<◌}
use mathlib.Core.Path.{◌≡◌, refl, sym, ◌∙◌, ap}
use mathlib.Core.Bool.{Bool, true, false, ◌&&◌, ◌||◌, not, or-false}
use mathlib.Core.List.{List}
use mathlib.Core.Logic.{◌↔◌}
use native.Mathlib.Omega.{arith}
use lib.Dec.{eqb, lit<}
use lib.ListN.{length}
use Rattle.std.specs.Prelude.{Ok, Some}
use Rattle.wire.specs.declared.numbers.Answer.{Answer}
use Rattle.wire.proofs.digits.Laws.{and_left, and_both}
use Rattle.clock.specs.declared.waiting.Fell.{Fell}
use Rattle.clock.specs.Waiting.{listed, passed, fell}
use Rattle.parts.specs.Events.{matching}
use Rattle.parts.specs.Interrupts.{source_of, line_up}
use Rattle.parts.specs.Pending.{bit, Shared}
use Rattle.parts.proofs.interrupts.Laws.{ranges}
use Rattle.parts.proofs.interrupts.Bits.{event_raises, sources_raise, clears, line_up_lem}
use Rattle.card.specs.declared.card.Card.{Card}
use Rattle.card.specs.declared.waiting.Waited.{Waited}
use Rattle.card.specs.Lawful.{lawful}
use Rattle.card.specs.Registers
use Rattle.card.proofs.lawful.Laws.{parts}
use Rattle.card.proofs.registers.Laws.{edge_takes, intstat_takes}
use Rattle.card.proofs.waiting.Laws.{wait_is, pending_after_lem}
use Rattle.laws.specs.Calls.{Call, after, number, pending_bit}
use Rattle.laws.specs.Refusals.{Excepted}
use Rattle.laws.specs.Demand.{Asked, front}
use Rattle.laws.proofs.Demand.{accepts, front_listed, accepted_exactly_if}
use Rattle.laws.proofs.Outcomes.{Effect, Outcome, by, found_effect, outcome}
use Rattle.laws.proofs.Refused.{accepted_lawful}

pending_small : (c : Card) → lawful c ≡ true → c.interrupts.pending < 32
pending_small c l = (ranges c.interrupts (parts c l).interrupts).pending

-- ---- the three calls that change them

-- a matching edge raises bit 0, captured or missed
pub edge_raises : (c : Card) (falling : Bool) (i : ℕ) → i < 5 → number (Call.edge falling) c ≡ 0 → matching c.event.control falling ≡ true
    → pending_bit i (after (Call.edge falling) c) ≡ (pending_bit i c || eqb i 0)
unfolding after
edge_raises c falling i l e t =
    let k = accepted_lawful (Call.edge falling) c e in
    ap (λ (x : ℕ). bit (2 ^ i) x) (edge_takes c falling k t) ∙ event_raises i c.interrupts.pending l (pending_small c k)

-- a wait raises the bits of the sources that it lists: 1 periodic, 2 strobe, 3 second
pub wait_raises : (c : Card) (n : ℕ) (row : List ℕ) (i : ℕ) → i < 5 → number (Call.wait n row) c ≡ 0
    → pending_bit i (after (Call.wait n row) c) ≡ (pending_bit i c || source_of i (fell (front c n row)).periodic (fell (front c n row)).strobe (fell (front c n row)).second)
unfolding after
wait_raises c n row i l e =
    let h : Asked c n (length row) = (accepted_exactly_if c n row).0 e in
    let f : Fell = fell (listed c.clock n (length row)) in
    ap (λ (x : ℕ). bit (2 ^ i) x)
    (ap (λ (a : Answer Card Waited). a.after.interrupts.pending) (wait_is c n (length row) (accepts c n (length row) h)) ∙ pending_after_lem c (passed c.clock n (length row)) f)
    ∙ sources_raise f.periodic f.strobe f.second c.interrupts.pending (pending_small c h.known) i l
    ∙ ap (λ (rs : List ℕ). pending_bit i c || source_of i (fell rs).periodic (fell rs).strobe (fell rs).second) (sym (front_listed c n row h))

-- each 1 bit written to INTSTAT clears that pending bit, and no other is changed
pub intstat_clears : (c : Card) (v i : ℕ) → i < 5 → number (Call.write 15 v) c ≡ 0 → pending_bit i (after (Call.write 15 v) c) ≡ (pending_bit i c && not (bit (2 ^ i) v))
unfolding after
intstat_clears c v i l e =
    let k = accepted_lawful (Call.write 15 v) c e in
    ap (λ (x : ℕ). bit (2 ^ i) x) (intstat_takes c v k) ∙ clears i v c.interrupts.pending l (pending_small c k)

-- ---- bit 4, for all calls

four : (c : Card) (d : Card) (k : Call) → lawful c ≡ true → Effect c k d → pending_bit 4 d ≡ true → pending_bit 4 c ≡ true
four c d k l (Effect.sets_time year day hour minute second e) h = h
four c d k l Effect.reads_time h = h
four c d k l (Effect.reads_other reg e) h = h
four c d k l (Effect.requests_time v) h = h
four c d k l (Effect.writes_control v) h = h
four c d k l (Effect.clears_done v e) h = by (λ (x : Card). pending_bit 4 x ≡ true → pending_bit 4 c ≡ true) (bit 1 v) (λ f g. g) (λ f g. g) h
four c d k l (Effect.takes_packet v b e) h = h
four c d k l (Effect.joins_queue v e) h = h
four c d k l (Effect.joins_block row e) h = h
four c d k l (Effect.writes_mask v) h = h
four c d k l (Effect.clears_pending v) h = and_left (pending_bit 4 c) (not (bit 16 v)) (sym (clears 4 v c.interrupts.pending (lit< tt) (pending_small c l)) ∙ h)
four c d k l (Effect.writes_level v) h = h
four c d k l (Effect.writes_vector v) h = h
four c d k l (Effect.opens_latch v) h = h
four c d k l (Effect.matches_edge falling e) h = sym (event_raises 4 c.interrupts.pending (lit< tt) (pending_small c l) ∙ or-false (pending_bit 4 c)) ∙ h
four c d k l (Effect.passes_edge falling e) h = h
four c d k l Effect.tells_line h = h
four c d k l (Effect.sets_strobe s e) h = h
four c d k l (Effect.sets_periodic s e) h = h
four c d k l (Effect.waits n row e) h =
    let f : Fell = fell (listed c.clock n (length row)) in
    sym (ap (λ (x : ℕ). bit 16 x) (pending_after_lem c (passed c.clock n (length row)) f)
    ∙ sources_raise f.periodic f.strobe f.second c.interrupts.pending (pending_small c l) 4 (lit< tt) ∙ or-false (pending_bit 4 c))
    ∙ h
four c d k l Effect.resets h = absurd (let z : ◌≡◌ {A = ℕ} 0 1 = cc in omega arith)
four c d k l (Effect.saves row) h = h
four c d k l (Effect.loads bytes e j) h = h
four c d k l (Effect.writes_frame row) h = h
four c d k l (Effect.switches_jam on j) h = h

four_excepted : (k : Call) (c d : Card) {n : ℕ} → Excepted k c d n → pending_bit 4 d ≡ true → pending_bit 4 c ≡ true
four_excepted k c d (Excepted.packet v l b z) h = h
four_excepted k c d (Excepted.block row l r f) h = four c d _ l (found_effect c row l) h

four_by : {n : ℕ} (k : Call) (c d : Card) → Outcome k c d n → pending_bit 4 d ≡ true → pending_bit 4 c ≡ true
four_by k c d (Outcome.unlawful l) h = h
four_by k c d (Outcome.refused l e f) h = h
four_by k c d (Outcome.accepted l o) h = four c d k l o h
four_by k c d (Outcome.excepted l x e f) h = four_excepted k c d x h

-- no call raises bit 4: where it is set, it was set before
pub never_four : (k : Call) (c : Card) → pending_bit 4 (after k c) ≡ true → pending_bit 4 c ≡ true
never_four k c = four_by k c (after k c) (outcome k c)

-- ---- the line

answers : (c : Card) (k t : Bool) → lawful c ≡ k → line_up c.interrupts ≡ t → Registers.up (Registers.told (Registers.line c)) ≡ (k && t)
unfolding Registers.line Registers.line_refusal
answers c true true l e = simp (l, e)
answers c true false l e = simp (l, e)
answers c false t l e = simp l

-- up exactly if the card is lawful, LEVEL is not 0, and some pending bit is also set in MASK
pub line_is_up : (c : Card) → Registers.up (Registers.told (Registers.line c)) ≡ true ↔ ((lawful c ≡ true) × (c.interrupts.level ≡ 0 → ⊥) × Shared c.interrupts.pending c.interrupts.mask)
line_is_up c =
    let t : Registers.up (Registers.told (Registers.line c)) ≡ (lawful c && line_up c.interrupts) = answers c (lawful c) (line_up c.interrupts) refl refl in (
      λ u. let a = and_both (lawful c) (line_up c.interrupts) (sym t ∙ u) in let w = (line_up_lem c.interrupts).0 a.1 in (a.0, w.0, w.1),
      λ u. t ∙ both u.0 ((line_up_lem c.interrupts).1 (u.1, u.2)),
    )
  where
    both : {s t : Bool} → s ≡ true → t ≡ true → (s && t) ≡ true
    both e f = simp (e, f)

-- and then it gives LEVEL and VECTOR
pub line_gives : (c : Card) → Registers.up (Registers.told (Registers.line c)) ≡ true → Registers.line c ≡ Ok (Some (Registers.request c.interrupts.level c.interrupts.vector))
unfolding Registers.line Registers.line_refusal
line_gives c u =
    let a = and_both (lawful c) (line_up c.interrupts) (sym (answers c (lawful c) (line_up c.interrupts) refl refl) ∙ u) in
    simp (a.0, a.1)
