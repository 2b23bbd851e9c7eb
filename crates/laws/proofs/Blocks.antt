-- A block into the queue, of every card and every row: it leaves the card that the bytes leave one by one; a row may be cut anywhere; what is taken and what is
-- left are the row; and 3 is given exactly if something is left. Assumes nothing.
use Prim.Native.Nat.{ℕ, zero, suc, ◌+◌, ◌%◌, ◌≤◌, ◌<◌}
use mathlib.Core.Path.{◌≡◌, refl, sym, ap, ◌∙◌}
use mathlib.Core.Bool.{Bool, true, false}
use mathlib.Core.List.{List, [], ◌∷◌, ◌++◌}
use mathlib.Core.Logic.{⊎_elim, ◌↔◌}
use native.Mathlib.Nat.{min-le_right, min-eq_left, min-eq_right, le_of_lt}
use native.Mathlib.Omega.{arith}
use lib.Dec.{eqb}
use lib.ListN.{length, take, drop, length-drop}
use borrow.Author.Tests.{lt-ltb}
use Rattle.std.specs.Prelude.{Err, ⊤}
use Rattle.wire.specs.Numbers.{number_of}
use Rattle.wire.specs.declared.numbers.Answer.{Answer}
use Rattle.wire.specs.declared.numbers.Refusal.{Refusal}
use Rattle.wire.proofs.digits.Laws.{lt_or_le}
use Rattle.card.specs.declared.card.Card.{Card}
use Rattle.card.specs.declared.blocks.BlockAnswer.{BlockAnswer}
use Rattle.card.specs.Blocks.{behind, one_by_one, write_block, free, finding}
use Rattle.card.specs.Cards.{with_queue}
use Rattle.card.specs.Lawful.{lawful}
use Rattle.card.specs.Registers.{write_register}
use Rattle.parts.specs.Queues.{enqueued}
use Rattle.card.proofs.blocks.Laws.{filled, joins_lawful, free_places, block_18, block_is, block_number, block_accepts}
use Rattle.card.proofs.registers.Laws.{queue_within, fifo_3, fifo_joins}
use Rattle.laws.specs.Calls.{Call, after, fed}
use Rattle.laws.proofs.Keeps.{keeps}
use Rattle.laws.proofs.Refused.{unlawful_stays}

-- ---- the bytes one by one, refused ones included

-- of a lawful card, with k free places
fed_filled : (row : List ℕ) (c : Card) (k : ℕ) → lawful c ≡ true → c.queue.fill + k ≡ 64 → fed c row ≡ with_queue c (filled c.queue (take k row))
fed_filled [] c zero l h = refl
fed_filled [] c (suc k) l h = refl
fed_filled (b ∷ bs) c zero l h =
    ap (λ (a : Answer Card ⊤). fed a.after bs) (fifo_3 c b l (omega arith)) ∙ fed_filled bs c zero l h
fed_filled (b ∷ bs) c (suc k) l h =
    ap (λ (a : Answer Card ⊤). fed a.after bs) (fifo_joins c b l (λ e. omega arith))
    ∙ fed_filled bs (with_queue c (enqueued c.queue (b % 256))) k (joins_lawful c (b % 256) l (omega arith)) (omega arith)

fed_unlawful : (row : List ℕ) (c : Card) → lawful c ≡ false → fed c row ≡ c
unfolding after
fed_unlawful [] c l = refl
fed_unlawful (b ∷ bs) c l = ap (λ (d : Card). fed d bs) (unlawful_stays (Call.write 13 b) c l) ∙ fed_unlawful bs c l

pub block_fed : (c : Card) (row : List ℕ) → (write_block c row).card ≡ fed c row
block_fed c row = go (lawful c) refl
  where
    go : (t : Bool) → lawful c ≡ t → (write_block c row).card ≡ fed c row
    go true l = ap (λ (r : BlockAnswer). r.card) (block_is c row l) ∙ sym (fed_filled row c (free c.queue) l (free_places c.queue (queue_within c l)))
    go false l = ap (λ (r : BlockAnswer). r.card) (sym (block_18 c row l)) ∙ sym (fed_unlawful row c l)

-- bytes may be parted anywhere
pub fed_append : (c : Card) (xs ys : List ℕ) → fed c (xs ++ ys) ≡ fed (fed c xs) ys
fed_append c [] ys = refl
fed_append c (x ∷ xs) ys = fed_append (write_register c 13 x).after xs ys

-- ---- what is taken, and what is left

taken_finding : (c : Card) (row : List ℕ) → lawful c ≡ true → (write_block c row).taken ≡ finding c.queue row
taken_finding c row l = ap (λ (r : BlockAnswer). r.taken) (block_is c row l)

pub taken_within : (c : Card) (row : List ℕ) → (write_block c row).taken ≤ length row
taken_within c row = go (lawful c) refl
  where
    go : (t : Bool) → lawful c ≡ t → (write_block c row).taken ≤ length row
    go true l = rw (taken_finding c row l) (min-le_right (free c.queue) (length row))
    go false l = rw (← block_18 c row l) (omega arith)

pub taken_and_left : (c : Card) (row : List ℕ) → (write_block c row).taken + length (drop (write_block c row).taken row) ≡ length row
taken_and_left c row = omega (arith, length-drop (write_block c row).taken row, taken_within c row)

-- of a lawful card, 3 exactly if something is left
pub three_exactly_if : (c : Card) (row : List ℕ) → lawful c ≡ true → number_of (write_block c row).outcome ≡ 3 ↔ (write_block c row).taken < length row
three_exactly_if c row l =
    ⊎_elim
    (λ (h : free c.queue < length row). (
      λ e. rw (taken_finding c row l ∙ min-eq_left (le_of_lt h)) h,
      λ e. block_number c row ∙ simp (l, lt-ltb (free c.queue) (length row) h),
    ))
    (λ (h : length row ≤ free c.queue). (
      λ e. absurd (omega (arith, e, block_accepts c row l h)),
      λ e. absurd (omega (arith, e, taken_finding c row l ∙ min-eq_right h)),
    ))
    (lt_or_le (free c.queue) (length row))

-- ---- a row cut into two calls

-- an answer with another count
abbrev counted : BlockAnswer → ℕ → BlockAnswer
counted r n = record { card = r.card; taken = n; outcome = r.outcome }

cuts : (first : List ℕ) (c : Card) (second : List ℕ) → (one_by_one c first).taken ≡ length first
    → one_by_one c (first ++ second) ≡ behind (length first) (one_by_one (one_by_one c first).card second)
unfolding one_by_one
cuts [] c second h = ap (counted (one_by_one c second)) (let e : (one_by_one c second).taken ≡ 0 + (one_by_one c second).taken = omega arith in e)
cuts (b ∷ bs) c second h = go (cuts bs d second) (eqb (number_of (write_register c 13 b).outcome) 0) refl
  where
    d : Card
    d = (write_register c 13 b).after

    go : ((one_by_one d bs).taken ≡ length bs → one_by_one d (bs ++ second) ≡ behind (length bs) (one_by_one (one_by_one d bs).card second))
        → (t : Bool) → eqb (number_of (write_register c 13 b).outcome) 0 ≡ t → one_by_one c ((b ∷ bs) ++ second) ≡ behind (suc (length bs)) (one_by_one (one_by_one c (b ∷ bs)).card second)
    go more true e =
        let t : 1 + (one_by_one d bs).taken ≡ suc (length bs) = rw e at h in
        let r : BlockAnswer = one_by_one (one_by_one d bs).card second in
        rw e
        (ap (behind 1) (more (omega (arith, t)))
        ∙ ap (counted r) (let n : 1 + (length bs + r.taken) ≡ suc (length bs) + r.taken = omega arith in n))
    go more false e = absurd (let t : 0 ≡ suc (length bs) = rw e at h in omega (arith, t))

goes : (c : Card) (row : List ℕ) → lawful c ≡ true → write_block c row ≡ one_by_one c row
unfolding write_block
goes c row l = simp l

-- the card is the same in every case
pub cut_card : (c : Card) (first second : List ℕ) → (write_block c (first ++ second)).card ≡ (write_block (write_block c first).card second).card
cut_card c first second =
    block_fed c (first ++ second) ∙ fed_append c first second ∙ ap (λ (d : Card). fed d second) (sym (block_fed c first)) ∙ sym (block_fed (write_block c first).card second)

-- and if the first took all of its part, so are number and count
pub block_cut : (c : Card) (first second : List ℕ) → (write_block c first).taken ≡ length first
    → write_block c (first ++ second) ≡ behind (length first) (write_block (write_block c first).card second)
unfolding after
block_cut c first second h = go (lawful c) refl
  where
    refused_at : ℕ → BlockAnswer
    refused_at n = record { card = c; taken = n; outcome = Err Refusal.Unlawful }

    go : (t : Bool) → lawful c ≡ t → write_block c (first ++ second) ≡ behind (length first) (write_block (write_block c first).card second)
    go true l =
        let f : write_block c first ≡ one_by_one c first = goes c first l in
        goes c (first ++ second) l
        ∙ cuts first c second (ap (λ (r : BlockAnswer). r.taken) (sym f) ∙ h)
        ∙ ap (λ (r : BlockAnswer). behind (length first) (one_by_one r.card second)) (sym f)
        ∙ ap (behind (length first)) (sym (goes (write_block c first).card second (keeps (Call.block first) c l)))
    go false l =
        let f : write_block c first ≡ refused_at 0 = sym (block_18 c first l) in
        let n : 0 ≡ length first + 0 = omega (arith, h, ap (λ (r : BlockAnswer). r.taken) f) in
        sym (block_18 c (first ++ second) l)
        ∙ ap refused_at n
        ∙ ap (behind (length first)) (block_18 c second l)
        ∙ ap (λ (r : BlockAnswer). behind (length first) (write_block r.card second)) (sym f)
