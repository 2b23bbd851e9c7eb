-- Demand 3, of `wait` and of the row that it leaves, as `specs/Demand` has it. `wait_in_place` answers, writes and leaves the same, by its contract, so all of
-- this holds of it too. Assumes nothing.
use Prim.Native.Nat.{ℕ, pred, ◌+◌, ◌-◌, ◌*◌, ◌/◌, ◌≤◌, ◌<◌}
use mathlib.Core.Path.{◌≡◌, refl, sym, ◌∙◌, ap, subst}
use mathlib.Core.Bool.{not}
use mathlib.Core.List.{List, ◌++◌}
use mathlib.Core.Logic.{◌↔◌}
use native.Mathlib.Omega.{arith}
use lib.ListN.{length, take, drop, get_or}
use lib.Seq.{take_at, drop_at}
use borrow.Author.Tests.{not-false}
use Rattle.std.specs.Prelude.{Ok, Result}
use Rattle.wire.specs.Numbers.{number_of}
use Rattle.wire.specs.declared.numbers.Answer.{Answer}
use Rattle.wire.specs.declared.numbers.Refusal.{Refusal}
use Rattle.wire.proofs.numbers.Laws.{given_zero, quiet_first}
use Rattle.clock.specs.declared.clock.Clock.{Clock}
use Rattle.clock.specs.Falling.{falls}
use Rattle.clock.specs.Waiting.{records, listed, passed, fell, moved_on, clock_later, wait_lines, Stands}
use Rattle.clock.proofs.waiting.Laws.{every_fall, exact, rising, once, listed_passed, passes, Stops, stops}
use Rattle.clock.proofs.waiting.Answer.{accepted}
use Rattle.clock.proofs.waiting.Resume.{year_left, lists_on, passes_on, no_ticks}
use Rattle.card.specs.declared.card.Card.{Card}
use Rattle.card.specs.declared.waiting.Waited.{Waited}
use Rattle.card.specs.Lawful.{lawful}
use Rattle.card.specs.Waiting.{card_after, wait_refusal, waited, told, wait, row_waited}
use Rattle.card.proofs.waiting.Laws.{goes, wait_is, row_is, clock_after, card_continues, card_stays}
use Rattle.laws.specs.Calls.{Call, after, number}
use Rattle.laws.specs.Demand.{Asked, ticks_passed, records_written, front, Lists, Leaves, Early, left_card, left_ticks, Continues, Nothing}
use Rattle.laws.proofs.Keeps.{keeps}
use Rattle.laws.proofs.Numbers.{done_exactly_if}

-- ---- what a wait that is asked for answers

module _ (c : Card) (n room : ℕ) (h : Asked c n room) where
  pub accepts : wait_refusal c n room ≡ 0
  accepts = goes c n room h.known (record { ticks = h.day; places = h.place; year = h.year })

  gives : (wait c n room).outcome ≡ Ok (waited (passed c.clock n room) (length (listed c.clock n room)))
  gives = ap (λ (a : Answer Card Waited). a.outcome) (wait_is c n room accepts)

  passed_is : ticks_passed c n room ≡ passed c.clock n room
  passed_is = ap (λ (r : Result Waited Refusal). (told r).passed.ticks) gives

  written_is : records_written c n room ≡ length (listed c.clock n room)
  written_is = ap (λ (r : Result Waited Refusal). (told r).written) gives

  left_is : left_card c n room ≡ card_after c (passed c.clock n room) (fell (listed c.clock n room))
  left_is = ap (λ (a : Answer Card Waited). a.after) (wait_is c n room accepts)

  clock_is : (left_card c n room).clock ≡ clock_later (passed c.clock n room) c.clock
  clock_is = ap (λ (d : Card). d.clock) left_is ∙ clock_after c (passed c.clock n room) (fell (listed c.clock n room))

-- what stands in front of the row are the records of the ticks passed
module _ (c : Card) (n : ℕ) (row : List ℕ) (h : Asked c n (length row)) where
  abbrev xs : List ℕ
  xs = listed c.clock n (length row)

  pub front_listed : front c n row ≡ xs
  front_listed =
      ap (λ (k : ℕ). take k (row_waited c n row)) (written_is c n (length row) h)
      ∙ ap (take (length xs)) (row_is c n row (accepts c n (length row) h))
      ∙ take_at xs (drop (length xs) row) (length xs) refl

  front_records : front c n row ≡ records c.clock (ticks_passed c n (length row))
  front_records = front_listed ∙ listed_passed c.clock n (length row) h.place ∙ ap (records c.clock) (sym (passed_is c n (length row) h))

  pub lists : Lists c n row
  lists =
      let p : ℕ = ticks_passed c n (length row) in
      let k : Clock = c.clock in
      let f = sym front_records in
      record {
        accepted = ap number_of (gives c n (length row) h);
        count = ap length front_listed ∙ sym (written_is c n (length row) h);
        every = λ i l m z. subst (Stands (8 * i + falls k i)) f (every_fall k p i l m z);
        exactly = λ r s. exact k p r (subst (Stands r) front_records s);
        rising = subst (λ (rs : List ℕ). (i j : ℕ) → i < j → j < length rs → get_or rs i 0 / 8 < get_or rs j 0 / 8) f (rising k p);
        once = subst (λ (rs : List ℕ). (i j : ℕ) → i < length rs → j < length rs → get_or rs i 0 / 8 ≡ get_or rs j 0 / 8 → i ≡ j) f (once k p);
      }

  pub leaves : Leaves c n row
  leaves =
      let k = accepts c n (length row) h in
      record {
        places =
            ap (λ (j : ℕ). drop j (row_waited c n row)) (written_is c n (length row) h) ∙ ap (drop (length xs)) (row_is c n row k)
            ∙ drop_at xs (drop (length xs) row) (length xs) refl ∙ ap (λ (j : ℕ). drop j row) (sym (written_is c n (length row) h));
        clock = clock_is c n (length row) h ∙ ap (λ (p : ℕ). clock_later p c.clock) (sym (passed_is c n (length row) h));
      }

  pub early : ticks_passed c n (length row) < n → Early c n row
  early l =
      let e = passed_is c n (length row) h in
      let s : Stops c.clock n (length row) = stops c.clock n (length row) h.place (omega arith) in
      record {
        next = s.next;
        behind = omega (arith, s.behind, e);
        within = s.within;
        falling = s.falling;
        full = written_is c n (length row) h ∙ s.full;
        last = ap (λ (rs : List ℕ). get_or rs (pred (length row)) 0 / 8) front_listed ∙ s.last ∙ sym e;
      }

-- a wait is accepted exactly if it is of this kind
pub accepted_exactly_if : (c : Card) (n : ℕ) (row : List ℕ) → number (Call.wait n row) c ≡ 0 ↔ Asked c n (length row)
unfolding number
accepted_exactly_if c n row = (
  λ e. let q = quiet_first (not (lawful c)) _ ((done_exactly_if (Call.wait n row) c).0 e) in
      let a = accepted c.clock n (length row) ((given_zero (wait_lines c.clock n (length row)) refl).1 q.1) in
      record { known = not-false (lawful c) q.0; day = a.ticks; year = a.year; place = a.places },
  λ h. ap number_of (gives c n (length row) h),
)

-- a wait above 0 passes at least one tick, and none passes more than was asked for
pub some_pass : (c : Card) (n room : ℕ) → Asked c n room → (ticks_passed c n room ≤ n) × (0 < n → 1 ≤ ticks_passed c n room)
some_pass c n room h = rw (passed_is c n room h) (passes c.clock n room h.place)

-- ---- the rest

module _ (c : Card) (n : ℕ) (r s : List ℕ) (h : Asked c n (length r)) (z : 0 < length s) where
  abbrev a : ℕ
  a = length r

  abbrev b : ℕ
  b = length s

  abbrev p : ℕ
  p = passed c.clock n a

  -- the clock of the rest, and its ticks
  abbrev k : Clock
  k = clock_later p c.clock

  asked_rest : Asked (left_card c n a) (left_ticks c n a) b
  unfolding after
  asked_rest =
      record {
        known = keeps (Call.wait n r) c h.known;
        day = omega (arith, h.day);
        year = rw (clock_is c n a h, passed_is c n a h) (year_left c.clock n a h.place h.year);
        place = z;
      }

  asked_both : Asked c n (a + b)
  asked_both = record { known = h.known; day = h.day; year = h.year; place = omega (arith, h.place) }

  -- what is said of the rest's clock and ticks
  of_rest : {A : Type 0} (f : Clock → ℕ → A) → f (left_card c n a).clock (left_ticks c n a) ≡ f k (n - p)
  of_rest f = ap (λ (x : Clock). f x (left_ticks c n a)) (clock_is c n a h) ∙ ap (λ (m : ℕ). f k (n - m)) (passed_is c n a h)

  passes_rest : ticks_passed (left_card c n a) (left_ticks c n a) b ≡ passed k (n - p) b
  passes_rest = passed_is (left_card c n a) (left_ticks c n a) b asked_rest ∙ of_rest (λ d m. passed d m b)

  lists_rest : front (left_card c n a) (left_ticks c n a) s ≡ listed k (n - p) b
  lists_rest = front_listed (left_card c n a) (left_ticks c n a) s asked_rest ∙ of_rest (λ d m. listed d m b)

  passes_as_one : ticks_passed c n (a + b) ≡ ticks_passed c n a + ticks_passed (left_card c n a) (left_ticks c n a) b
  passes_as_one = passed_is c n (a + b) asked_both ∙ passes_on c.clock n a b h.place z ∙ omega (arith, passed_is c n a h, passes_rest)

  leaves_as_one : left_card c n (a + b) ≡ left_card (left_card c n a) (left_ticks c n a) b
  leaves_as_one =
      left_is c n (a + b) asked_both
      ∙ rw (passes_on c.clock n a b h.place z, lists_on c.clock n a b h.place z)
      (sym (card_continues c p (passed k (n - p) b) (listed c.clock n a) (listed k (n - p) b)))
      ∙ ap (λ (x : Card). card_after x (passed k (n - p) b) (fell (listed k (n - p) b))) (sym (left_is c n a h))
      ∙ sym (left_is (left_card c n a) (left_ticks c n a) b asked_rest ∙ of_rest (λ d m. card_after (left_card c n a) (passed d m b) (fell (listed d m b))))

  lists_as_one : (t : List ℕ) → length t ≡ a + b → front c n t ≡ front c n r ++ moved_on (ticks_passed c n a) (front (left_card c n a) (left_ticks c n a) s)
  lists_as_one t l =
      front_listed c n t (subst (Asked c n) (sym l) asked_both) ∙ ap (listed c.clock n) l ∙ lists_on c.clock n a b h.place z
      ∙ sym (rw (front_listed c n r h, lists_rest, passed_is c n a h))

  pub continues : Continues c n r s
  continues = record { asked = asked_rest; passes = passes_as_one; leaves = leaves_as_one; lists = lists_as_one }

-- ---- a wait of 0

pub nothing : (c : Card) (row : List ℕ) → Asked c 0 (length row) → Nothing c row
nothing c row h =
    let e = no_ticks c.clock (length row) in
    record {
      accepted = ap number_of (gives c 0 (length row) h);
      passes = passed_is c 0 (length row) h ∙ e.0;
      writes = written_is c 0 (length row) h ∙ ap length e.1;
      leaves = row_is c 0 row (accepts c 0 (length row) h) ∙ ap (λ (rs : List ℕ). rs ++ drop (length rs) row) e.1;
      keeps = left_is c 0 (length row) h ∙ rw (e.0, e.1) (card_stays c h.known);
    }
