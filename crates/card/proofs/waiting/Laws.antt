-- A wait of a card that is lawful elsewhere is its clock's; and for the crates above, what a wait that is not refused answers, and two waits in a row. Assumes
-- nothing.
use Prim.Native.Nat.{ℕ, ◌+◌}
use mathlib.Core.Path.{◌≡◌, refl, ap, ◌∙◌}
use mathlib.Core.Bool.{Bool, true, false, not}
use mathlib.Core.List.{List, [], ◌∷◌, ◌++◌}
use native.Mathlib.Omega.{arith}
use lib.Dec.{eqb}
use lib.ListN.{length}
use borrow.Author.Tests.{eqb-true, eqb-false, eq-eqb}
use Rattle.std.specs.Prelude.{Ok, Err}
use Rattle.wire.specs.Numbers.{◌if◌, given, refusal}
use Rattle.wire.specs.declared.numbers.Answer.{Answer}
use Rattle.wire.specs.declared.numbers.Refusal.{Refusal}
use Rattle.wire.proofs.numbers.Names.{unlawful_named}
use Rattle.clock.specs.declared.clock.Clock.{Clock}
use Rattle.clock.specs.declared.waiting.Passed.{Passed}
use Rattle.clock.specs.Clocks.{clock_lawful}
use Rattle.clock.specs.declared.waiting.Fell.{Fell}
use Rattle.clock.specs.Waiting.{listed, passed, row_listed, moved_on, source_listed, fell, clock_later, wait_lines, listing, pass, row_passed}
use Rattle.clock.proofs.waiting.Heard.{listed_both, none_listed}
use Rattle.clock.proofs.waiting.Resume.{clock_add, clock_stays}
use Rattle.clock.proofs.waiting.Answer.{Accepted, accepts, pass_done, pass_not, row_done, row_not, listing_gives}
use Rattle.parts.proofs.interrupts.Laws.{none_raised}
use Rattle.parts.proofs.interrupts.Raised.{sources_twice}
use Rattle.card.specs.declared.card.Card.{Card}
use Rattle.parts.specs.Interrupts.{with_pending}
use Rattle.card.specs.Cards.{with_clock, with_interrupts}
use Rattle.card.specs.Lawful.{rest_lawful, lawful}
use Rattle.card.specs.Waiting.{pending_after, card_after, card_lines, wait_refusal, waited, wait, row_waited}
use Rattle.card.proofs.lawful.Laws.{rest_lawful_lem, rest_unlawful, parts}

module _ (c : Card) (n : ℕ) (row : List ℕ) where
  pub unlawful : rest_lawful c ≡ false → (record { after = c; outcome = Err Refusal.Unlawful } ≡ wait c n (length row)) × (row ≡ row_waited c n row)
  unfolding wait row_waited wait_refusal
  unlawful e = let l = rest_unlawful c e in (simp (l, unlawful_named), simp l)

  module _ (e : rest_lawful c ≡ true) where
    abbrev table : ℕ
    table = given (18 if not (clock_lawful c.clock) ∷ wait_lines c.clock n (length row))

    same : given (card_lines c n (length row)) ≡ table
    same = ap (λ (t : Bool). given (18 if not t ∷ wait_lines c.clock n (length row))) (rest_lawful_lem c e)

    -- a clock that passes the window: the card with it, and with the pending bits of the sources that it tells
    pub passes : (a : Answer Clock Passed) (after : List ℕ) (p : Passed) → a ≡ pass c.clock n (length row) → after ≡ row_passed c.clock n row → a.outcome ≡ Ok p
        → (record { after = with_interrupts (with_clock c a.after) (with_pending c.interrupts (pending_after p.fell c.interrupts.pending)); outcome = Ok (record { passed = p.passed; written = p.written }) } ≡ wait c n (length row))
        × (after ≡ row_waited c n row)
    unfolding wait row_waited wait_refusal card_after
    passes a after p ea er eo = go (eqb table 0) refl
      where
        go : (t : Bool) → eqb table 0 ≡ t
            → (record { after = with_interrupts (with_clock c a.after) (with_pending c.interrupts (pending_after p.fell c.interrupts.pending)); outcome = Ok (record { passed = p.passed; written = p.written }) } ≡ wait c n (length row))
            × (after ≡ row_waited c n row)
        go true z =
            let g : table ≡ 0 = eqb-true table 0 z in
            let d = ea ∙ pass_done c.clock n (length row) g in
            let q : p ≡ listing c.clock n (length row) = cc in
            (rw (d, q, listing_gives c.clock n (length row)) (simp (same, z)), er ∙ row_done c.clock n row g ∙ simp (same, z))
        go false z =
            let d = ea ∙ pass_not c.clock n (length row) (eqb-false table 0 z) in
            absurd (cc)

    -- and one that refuses: the card as it was
    pub stops : (a : Answer Clock Passed) (after : List ℕ) (r : Refusal) → a ≡ pass c.clock n (length row) → after ≡ row_passed c.clock n row → a.outcome ≡ Err r
        → (record { after = c; outcome = Err r } ≡ wait c n (length row)) × (after ≡ row_waited c n row)
    unfolding wait row_waited wait_refusal
    stops a after r ea er eo = go (eqb table 0) refl
      where
        go : (t : Bool) → eqb table 0 ≡ t → (record { after = c; outcome = Err r } ≡ wait c n (length row)) × (after ≡ row_waited c n row)
        go true z =
            let d = ea ∙ pass_done c.clock n (length row) (eqb-true table 0 z) in
            absurd (cc)
        go false z =
            let g : table ≡ 0 → ⊥ = eqb-false table 0 z in
            let d = ea ∙ pass_not c.clock n (length row) g in
            let q : r ≡ refusal table = cc in
            (rw q (simp (same, z)), er ∙ row_not c.clock n row g ∙ simp (same, z))

-- ---- for the laws above: a wait that is not refused

pub goes : (c : Card) (n room : ℕ) → lawful c ≡ true → Accepted c.clock n room → wait_refusal c n room ≡ 0
unfolding wait_refusal
goes c n room l a = rw l (accepts c.clock n room a)

module _ (c : Card) (n room : ℕ) (e : wait_refusal c n room ≡ 0) where
  pub wait_is : wait c n room
      ≡ record { after = card_after c (passed c.clock n room) (fell (listed c.clock n room)); outcome = Ok (waited (passed c.clock n room) (length (listed c.clock n room))) }
  unfolding wait wait_refusal
  wait_is = simp (eq-eqb (wait_refusal c n room) 0 e)

pub row_is : (c : Card) (n : ℕ) (row : List ℕ) → wait_refusal c n (length row) ≡ 0 → row_waited c n row ≡ row_listed c.clock n row
unfolding row_waited
row_is c n row e = simp (eq-eqb (wait_refusal c n (length row)) 0 e)

-- the clock of a card that a wait leaves, and its pending bits
module _ (c : Card) (p : ℕ) (f : Fell) where
  pub clock_after : (card_after c p f).clock ≡ clock_later p c.clock
  unfolding card_after
  clock_after = refl

  pub pending_after_lem : (card_after c p f).interrupts.pending ≡ pending_after f c.interrupts.pending
  unfolding card_after
  pending_after_lem = refl

-- the card after two waits is the card after one of all their ticks with the records of both
pub card_continues : (c : Card) (p m : ℕ) (rs qs : List ℕ) → card_after (card_after c p (fell rs)) m (fell qs) ≡ card_after c (p + m) (fell (rs ++ moved_on p qs))
unfolding card_after
card_continues c p m rs qs =
    rw (clock_add c.clock p m, listed_both 1 p rs qs (λ r. omega arith), listed_both 2 p rs qs (λ r. omega arith), listed_both 4 p rs qs (λ r. omega arith))
    (ap (λ (b : ℕ). with_interrupts (with_clock c (clock_later (p + m) c.clock)) (with_pending c.interrupts b))
    (sources_twice (source_listed 1 rs) (source_listed 2 rs) (source_listed 4 rs) (source_listed 1 qs) (source_listed 2 qs) (source_listed 4 qs) c.interrupts.pending))

-- and after a wait of 0 it is as it was
pub card_stays : (c : Card) → lawful c ≡ true → card_after c 0 (fell []) ≡ c
unfolding card_after
card_stays c h =
    rw (clock_stays c.clock (parts c h).clock, none_listed 1, none_listed 2, none_listed 4) (ap (with_interrupts c) (none_raised c.interrupts))
