-- A refused call changes nothing, but in the cases that `specs/Refusals` names; the values and the row beside a refusal are what it names. 18 is given exactly
-- if the card is not lawful. By the cases of Outcomes. Assumes nothing.
use Prim.Native.Nat.{ℕ, ◌≤◌, ◌<◌}
use mathlib.Core.Path.{◌≡◌, refl, sym, ap, ◌∙◌}
use mathlib.Core.Bool.{Bool, true, false}
use mathlib.Core.List.{List, [], ◌∷◌}
use mathlib.Core.Logic.{◌⊎◌, inl, inr, ⊎_elim, ◌↔◌}
use native.Mathlib.Nat.{min-eq_left, le_of_lt}
use native.Mathlib.Omega.{arith}
use lib.Dec.{eqb}
use lib.ListN.{length}
use borrow.Author.Tests.{eqb-false, eqb-true}
use Rattle.std.specs.Prelude.{None, Result, Ok, Err}
use Rattle.wire.specs.Digits.{pick}
use Rattle.wire.specs.Numbers.{number_of, given_or}
use Rattle.wire.specs.declared.numbers.Refusal.{Refusal}
use Rattle.wire.proofs.digits.Laws.{clash, lt_or_le}
use Rattle.wire.proofs.numbers.Names.{given_number}
use Rattle.card.specs.declared.card.Card.{Card}
use Rattle.card.specs.declared.blocks.BlockAnswer.{BlockAnswer}
use Rattle.card.specs.Blocks.{write_block, free}
use Rattle.card.specs.Lawful.{lawful}
use Rattle.parts.specs.Queues.{queued}
use Rattle.card.specs.Registers
use Rattle.card.specs.Waiting
use Rattle.card.specs.Waiting.{card_lines, wait_refusal, waited, row_waited}
use Rattle.card.specs.Saved.{save_refusal, row_saved}
use Rattle.irig.specs.Writing
use Rattle.card.proofs.blocks.Laws.{block_18, block_is, block_accepts}
use Rattle.card.proofs.Ack.{ack_numbers}
use Rattle.laws.specs.Calls.{Call, after, number, values, lent, left}
use Rattle.laws.specs.Refusals.{Excepted, beside}
use Rattle.laws.proofs.Outcomes.{Outcome, outcome}

-- ---- the card

by_outcome : {d : Card} {n : ℕ} (k : Call) (c : Card) → Outcome k c d n → (n ≡ 0 → ⊥) → (d ≡ c) ⊎ Excepted k c d n
by_outcome k c (Outcome.unlawful l) h = inl refl
by_outcome k c (Outcome.refused l e f) h = inl refl
by_outcome k c (Outcome.accepted l o) h = absurd (h refl)
by_outcome k c (Outcome.excepted l x e f) h = inr x

pub refused : (k : Call) (c : Card) → (number k c ≡ 0 → ⊥) → (after k c ≡ c) ⊎ Excepted k c (after k c) (number k c)
refused k c = by_outcome k c (outcome k c)

-- a packet is refused by 4 to 10 or 25, a block by 3
pub excepted_number : {d : Card} {n : ℕ} (k : Call) (c : Card) → Excepted k c d n → (((4 ≤ n) × (n ≤ 10)) ⊎ (n ≡ 25)) ⊎ ((n ≡ 3) × (k ≡ Call.block (lent k)))
unfolding lent
excepted_number k c x = by_case k c x
  where
    by_case : (k : Call) (c : Card) {d : Card} {n : ℕ} → Excepted k c d n → (((4 ≤ n) × (n ≤ 10)) ⊎ (n ≡ 25)) ⊎ ((n ≡ 3) × (k ≡ Call.block (lent k)))
    by_case k c (Excepted.packet v l b z) = inl (ack_numbers c.jam (queued c.queue) z)
    by_case k c (Excepted.block row l r f) = inr (refl, refl)

-- ---- 18

eighteen_by : {d : Card} {n : ℕ} (k : Call) (c : Card) → Outcome k c d n → n ≡ 18 ↔ lawful c ≡ false
eighteen_by k c (Outcome.unlawful l) = (λ e. l, λ e. refl)
eighteen_by k c (Outcome.refused {n} l e f) = (λ q. absurd (eqb-false n 18 f q), λ u. clash (sym l ∙ u))
eighteen_by k c (Outcome.accepted l o) = (λ q. absurd (omega arith), λ u. clash (sym l ∙ u))
eighteen_by k c (Outcome.excepted {d} {n} l x e f) = (λ q. absurd (eqb-false n 18 f q), λ u. clash (sym l ∙ u))

pub eighteen : (k : Call) (c : Card) → number k c ≡ 18 ↔ lawful c ≡ false
eighteen k c = eighteen_by k c (outcome k c)

-- so a call that gives 0 was given a lawful card
pub accepted_lawful : (k : Call) (c : Card) → number k c ≡ 0 → lawful c ≡ true
accepted_lawful k c e = go (lawful c) refl
  where
    go : (t : Bool) → lawful c ≡ t → lawful c ≡ true
    go true l = l
    go false l = absurd (omega (arith, (eighteen k c).1 l))

-- and one that gives 18 changes nothing
unlawful_by : {d : Card} {n : ℕ} (k : Call) (c : Card) → Outcome k c d n → lawful c ≡ false → d ≡ c
unlawful_by k c (Outcome.unlawful l) u = refl
unlawful_by k c (Outcome.refused l e f) u = refl
unlawful_by k c (Outcome.accepted l o) u = clash (sym l ∙ u)
unlawful_by k c (Outcome.excepted l x e f) u = clash (sym l ∙ u)

pub unlawful_stays : (k : Call) (c : Card) → lawful c ≡ false → after k c ≡ c
unlawful_stays k c = unlawful_by k c (outcome k c)

-- ---- values and rows

-- an outcome that is not 0 gives what stands beside a refusal
gives_beside : {A : Type 0} (z : A) (r : Result A Refusal) → (number_of r ≡ 0 → ⊥) → given_or z r ≡ z
gives_beside z (Ok a) h = absurd (h refl)
gives_beside z (Err r) h = refl

block_beside : (row : List ℕ) (c : Card) (t : Bool) → lawful c ≡ t → (number_of (write_block c row).outcome ≡ 0 → ⊥) → (write_block c row).taken ≡ pick (lawful c) (free c.queue) 0
block_beside row c true l h =
    let s : free c.queue < length row = ⊎_elim (λ w. w) (λ w. absurd (h (block_accepts c row l w))) (lt_or_le (free c.queue) (length row)) in
    ap (λ (r : BlockAnswer). r.taken) (block_is c row l) ∙ min-eq_left (le_of_lt s) ∙ simp l
block_beside row c false l h = ap (λ (r : BlockAnswer). r.taken) (sym (block_18 c row l)) ∙ simp l

row_beside : (n : ℕ) (put row : List ℕ) (t : Bool) → eqb n 0 ≡ t → (n ≡ 0 → ⊥) → pick t put row ≡ row
row_beside n put row true e h = absurd (h (eqb-true n 0 e))
row_beside n put row false e h = refl

-- a wait by its table
wait_beside : (n : ℕ) (row : List ℕ) (c : Card) → (number_of (Waiting.wait c n (length row)).outcome ≡ 0 → ⊥) → row_waited c n row ≡ row
unfolding Waiting.wait wait_refusal row_waited
wait_beside n row c h = row_beside (wait_refusal c n (length row)) _ row _ refl (λ e. h (given_number (card_lines c n (length row)) _ refl ∙ e))

-- every value beside a refusal
pub values_beside : (k : Call) (c : Card) → (number k c ≡ 0 → ⊥) → values k c ≡ beside k c
unfolding number values beside
values_beside (Call.set_time year day hour minute second) c h = refl
values_beside (Call.read reg) c h = rw (gives_beside 0 (Registers.read_register c reg).outcome h) refl
values_beside (Call.write reg v) c h = refl
values_beside (Call.block row) c h = ap (λ (n : ℕ). n ∷ []) (block_beside row c (lawful c) refl h)
values_beside (Call.edge falling) c h = refl
values_beside Call.line c h = rw (gives_beside None (Registers.line c) h) refl
values_beside (Call.set_strobe s) c h = refl
values_beside (Call.set_periodic d) c h = refl
values_beside (Call.wait n row) c h = rw (gives_beside (waited 0 0) (Waiting.wait c n (length row)).outcome h) refl
values_beside Call.reset c h = refl
values_beside (Call.save row) c h = refl
values_beside (Call.load bytes) c h = refl
values_beside (Call.write_frame row) c h = refl
values_beside (Call.switch_jam on) c h = refl

-- every lent row beside a refusal
pub row_stays : (k : Call) (c : Card) → (number k c ≡ 0 → ⊥) → left k c ≡ lent k
unfolding number left lent row_saved Writing.row_written
row_stays (Call.set_time year day hour minute second) c h = refl
row_stays (Call.read reg) c h = refl
row_stays (Call.write reg v) c h = refl
row_stays (Call.block row) c h = refl
row_stays (Call.edge falling) c h = refl
row_stays Call.line c h = refl
row_stays (Call.set_strobe s) c h = refl
row_stays (Call.set_periodic d) c h = refl
row_stays (Call.wait n row) c h = wait_beside n row c h
row_stays Call.reset c h = refl
row_stays (Call.save row) c h = row_beside (save_refusal c (length row)) _ row _ refl h
row_stays (Call.load bytes) c h = refl
row_stays (Call.write_frame row) c h = row_beside (Writing.write_refusal c (length row)) _ row _ refl h
row_stays (Call.switch_jam on) c h = refl
