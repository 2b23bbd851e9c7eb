-- What a wait answers: the refusals 18, 15, 14, 16 in that order, and else what it lists and the clock that it leaves. Assumes nothing.
use Prim.Native.Nat.{ℕ, ◌≤◌, ◌<◌}
use mathlib.Core.Path.{◌≡◌, refl}
use mathlib.Core.Bool.{Bool, true, false, not}
use mathlib.Core.List.{List, ◌∷◌}
use native.Mathlib.Nat.{le_trans}
use native.Mathlib.Omega.{arith}
use borrow.Author.Tests.{eq-eqb, ne_eqb, le-ltb, ltb-false, eqb-false}
use lib.Dec.{ltb, eqb}
use lib.ListN.{length}
use Rattle.std.specs.Prelude.{Ok, Err}
use Rattle.wire.specs.declared.numbers.Refusal.{Refusal}
use Rattle.wire.specs.declared.numbers.Answer.{Answer}
use Rattle.wire.specs.Digits.{pick}
use Rattle.wire.specs.Numbers.{◌if◌, given, refusal, number_of, given_or}
use Rattle.wire.specs.Time.{ticks_of_day}
use Rattle.wire.proofs.numbers.Laws.{given_zero, quiet_first}
use Rattle.wire.proofs.numbers.Names.{given_number}
use Rattle.clock.specs.declared.clock.Clock.{Clock}
use Rattle.clock.specs.declared.waiting.Passed.{Passed}
use Rattle.clock.specs.Time.{later}
use Rattle.clock.specs.Clocks.{clock_lawful}
use Rattle.clock.specs.Waiting.{fell, listed, passed, row_listed, clock_later, wait_lines, pass_refusal, listing, nothing, pass, row_passed}
use Rattle.clock.proofs.waiting.Laws.{passes}

-- what holds of a wait that is not refused
pub record Accepted (c : Clock) (n room : ℕ) : Type 0 where
  pub ticks : n ≤ ticks_of_day
  pub places : 0 < room
  pub year : (later n c.time).year ≤ 9999

pub accepted : (c : Clock) (n room : ℕ) → given (wait_lines c n room) ≡ 0 → Accepted c n room
accepted c n room e =
    let a = quiet_first (ltb ticks_of_day n) _ ((given_zero (wait_lines c n room) refl).0 e) in
    let b = quiet_first (eqb room 0) _ a.1 in
    let z : room ≡ 0 → ⊥ = eqb-false room 0 b.0 in
    record { ticks = ltb-false _ _ a.0; places = omega arith; year = ltb-false _ _ (quiet_first (ltb 9999 (later n c.time).year) true b.1).0 }

-- and the other way round
pub accepts : (c : Clock) (n room : ℕ) → Accepted c n room → given (wait_lines c n room) ≡ 0
accepts c n room a = simp (le-ltb ticks_of_day n a.ticks, ne_eqb room 0 (λ e. omega (arith, a.places)), le-ltb 9999 (later n c.time).year a.year)

-- 18 is not given, so the clock is lawful, and the lines below decide
known : (k : Bool) (c : Clock) (n room : ℕ) → given (18 if not k ∷ wait_lines c n room) ≡ 0 → (k ≡ true) × (given (wait_lines c n room) ≡ 0)
known true c n room e = (refl, e)
known false c n room e = absurd (omega arith)

pub lawful_accepted : (c : Clock) (n room : ℕ) → pass_refusal c n room ≡ 0 → (clock_lawful c ≡ true) × (given (wait_lines c n room) ≡ 0)
unfolding pass_refusal
lawful_accepted c n room e = known (clock_lawful c) c n room e

-- what filling a row asks, and moving the clock by the ticks that it passed
pub may_list : (c : Clock) (n room : ℕ) → pass_refusal c n room ≡ 0 → (clock_lawful c ≡ true) × (n ≤ ticks_of_day) × (0 < room)
may_list c n room e =
    let k = lawful_accepted c n room e in
    let a = accepted c n room k.1 in
    (k.0, a.ticks, a.places)

pub may_move : (c : Clock) (n room : ℕ) (w : Passed) → pass_refusal c n room ≡ 0 → w ≡ listing c n room → (clock_lawful c ≡ true) × (w.passed.ticks ≤ ticks_of_day)
unfolding listing
may_move c n room w e l =
    let m = may_list c n room e in
    (m.0, le_trans (rw l (passes c n room m.2).0) m.1)

-- a refusal leaves clock and row
pub refused : (c : Clock) (n : ℕ) (row : List ℕ) (r : Refusal) → (pass_refusal c n (length row) ≡ 0 → ⊥) × (r ≡ refusal (pass_refusal c n (length row)))
    → (◌≡◌ {A = Answer Clock Passed} (record { after = c; outcome = Err r }) (pass c n (length row))) × (row ≡ row_passed c n row)
unfolding pass row_passed pass_refusal
refused c n row r h =
    let x : eqb (pass_refusal c n (length row)) 0 ≡ false = ne_eqb _ _ h.0 in
    (simp x (rw h.1), simp x)

-- and else the row is filled, and the clock moved by the ticks that it passed
pub pass_answers : (c : Clock) (n : ℕ) (row₀ row₁ : List ℕ) (w : Passed) (d : Clock) → pass_refusal c n (length row₀) ≡ 0 → w ≡ listing c n (length row₀) → row₁ ≡ row_listed c n row₀ → d ≡ clock_later w.passed.ticks c
    → (◌≡◌ {A = Answer Clock Passed} (record { after = d; outcome = Ok w }) (pass c n (length row₀))) × (row₁ ≡ row_passed c n row₀)
unfolding pass row_passed listing pass_refusal
pass_answers c n row₀ row₁ w d e l r k =
    let x : eqb (pass_refusal c n (length row₀)) 0 ≡ true = eq-eqb _ _ e in
    (simp x (rw (k, l)), simp x r)

-- ---- for the calls above: what a wait answers, by its table

module _ (c : Clock) (n room : ℕ) where
  abbrev table : ℕ
  table = given (18 if not (clock_lawful c) ∷ wait_lines c n room)

  pub pass_done : table ≡ 0 → pass c n room ≡ record { after = clock_later (passed c n room) c; outcome = Ok (listing c n room) }
  unfolding pass
  pass_done e = simp (eq-eqb table 0 e)

  pub pass_not : (table ≡ 0 → ⊥) → pass c n room ≡ record { after = c; outcome = Err (refusal table) }
  unfolding pass
  pass_not e = simp (ne_eqb table 0 e)

  -- beside a refusal it gives nothing: no ticks, no records, no sources
  pub pass_gives : given_or nothing (pass c n room).outcome ≡ pick (eqb table 0) (listing c n room) nothing
  unfolding pass
  pass_gives = by (eqb table 0)
    where
      by : (t : Bool) → given_or nothing (pick t (Ok (listing c n room)) (Err (refusal table))) ≡ pick t (listing c n room) nothing
      by true = refl
      by false = refl

module _ (c : Clock) (n : ℕ) (row : List ℕ) where
  pub row_done : table c n (length row) ≡ 0 → row_passed c n row ≡ row_listed c n row
  unfolding row_passed pass_refusal
  row_done e = simp (eq-eqb (table c n (length row)) 0 e)

  pub row_not : (table c n (length row) ≡ 0 → ⊥) → row_passed c n row ≡ row
  unfolding row_passed pass_refusal
  row_not e = simp (ne_eqb (table c n (length row)) 0 e)

-- its number is that of its table; a refused wait passes nothing, writes nothing and leaves the clock
pub pass_number : (c : Clock) (n room : ℕ) → number_of (pass c n room).outcome ≡ pass_refusal c n room
unfolding pass pass_refusal
pass_number c n room = given_number (18 if not (clock_lawful c) ∷ wait_lines c n room) (listing c n room) refl

-- what a wait gives, field by field
pub listing_gives : (c : Clock) (n room : ℕ) → listing c n room ≡ record { passed = record { ticks = passed c n room }; written = length (listed c n room); fell = fell (listed c n room) }
unfolding listing
listing_gives c n room = refl
