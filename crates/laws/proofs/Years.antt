-- Every year ends, of the calls, as `specs/Years` has it, after as many days as the leap rule gives it. By the table of each call, and the clock's laws of a day that is carried. Assumes nothing.
use Prim.Native.Nat.{ℕ, ◌+◌, ◌≤◌, ◌<◌}
use mathlib.Core.Path.{◌≡◌, refl, sym, ap, ◌∙◌, subst}
use mathlib.Core.Bool.{Bool, true, false, ◌&&◌, not}
use mathlib.Core.List.{List, [], ◌∷◌}
use native.Mathlib.Nat.{le_trans}
use native.Mathlib.Omega.{arith}
use lib.Dec.{leb, ltb, eqb}
use lib.ListN.{length}
use borrow.Author.Tests.{lt-ltb, le-ltb, le-leb, ne_eqb, eqb-true, leb-true}
use Rattle.wire.specs.Digits.{pick}
use Rattle.wire.specs.Numbers.{◌if◌, given}
use Rattle.wire.specs.Time.{ticks_of_day}
use Rattle.wire.proofs.digits.Laws.{clash, and_both}
use Rattle.clock.specs.declared.time.Time.{Time}
use Rattle.clock.specs.declared.clock.Clock.{Clock}
use Rattle.clock.specs.Time.{days_in, instant, later}
use Rattle.clock.specs.Clocks.{with_time}
use Rattle.clock.proofs.time.Laws.{InRange, in_range_lem, time_lawful_lem, new_year, day_after, past_midnight}
use Rattle.clock.proofs.lawful.Laws as ClockLaws
use Rattle.clock.proofs.setting.Laws.{day_fits}
use Rattle.clock.proofs.waiting.Resume.{time_later}
use Rattle.card.specs.declared.card.Card.{Card}
use Rattle.card.specs.Cards.{with_clock}
use Rattle.card.specs.Lawful.{lawful}
use Rattle.card.proofs.lawful.Laws.{parts}
use Rattle.card.proofs.registers.Laws.{time_lawful_lem as card-time}
use Rattle.laws.specs.Calls.{Call}
use Rattle.laws.specs.Demand.{ticks_passed}
use Rattle.laws.specs.Each.{Each}
use Rattle.laws.specs.Years.{after_midnight, Ends, LastEnd, named}
use Rattle.laws.proofs.Demand.{leaves, some_pass}
use Rattle.laws.proofs.Keeps.{keeps_clock}
use Rattle.laws.proofs.Numbers.{number_given, given_exactly_if}
use Rattle.laws.proofs.Refused.{eighteen}

-- the ranges of a lawful card's time
ranges : (c : Card) → lawful c ≡ true → InRange c.clock.time
ranges c l = in_range_lem c.clock.time (card-time c l)

-- a test that cannot hold
never : (t : Bool) → (t ≡ true → ⊥) → t ≡ false
never true h = absurd (h refl)
never false h = refl

-- a lawful card with another time is lawful if that is
pub with_time_lem : (c : Card) (t : Time) → lawful c ≡ true → InRange t → lawful (with_clock c (with_time c.clock t)) ≡ true
with_time_lem c t l h =
    let k = ClockLaws.parts c.clock (parts c l).clock in
    keeps_clock c l (with_time c.clock t) (ClockLaws.whole (with_time c.clock t) (record { time = time_lawful_lem t h; strobe = k.strobe; periodic = k.periodic }))

-- the number by the one test that is left
either : (t : Bool) → given (18 if false ∷ 11 if not t ∷ []) ≡ pick t 0 11
either true = refl
either false = refl

-- ---- every year

module _ (year : ℕ) (a : 1 ≤ year) (b : year ≤ 9999) where
  -- whether the year has a day
  abbrev has : ℕ → Bool
  has day = leb 1 day && leb day (days_in year)

  -- a card with that day in it
  abbrev at : Card → ℕ → ℕ → Card
  at c day tick = with_clock c (with_time c.clock (instant year day tick))

  held : (c : Card) (day tick : ℕ) → lawful c ≡ true → tick < ticks_of_day → (t : Bool) → has day ≡ t → lawful (at c day tick) ≡ t
  held c day tick l h true e =
      let d = and_both (leb 1 day) (leb day (days_in year)) e in
      with_time_lem c (instant year day tick) l (record { proper = record { year = a; day_low = leb-true 1 day d.0; day_high = leb-true day (days_in year) d.1; tick = h }; year = b })
  held c day tick l h false e =
      never (lawful (at c day tick)) (λ k. let p = (ranges (at c day tick) k).proper in
      clash (sym (simp (le-leb 1 day p.day_low, le-leb day (days_in year) p.day_high)) ∙ e))

  pub ends : Ends year (days_in year)
  ends =
      record {
        sets = λ c day hour minute second l t. number_given (Call.set_time year day hour minute second) c ∙ simp (l, day_fits year day hour minute second a b t) (either (has day));
        holds = λ c day tick l h. held c day tick l h (has day) refl;
        torn = λ k c y d. (eighteen k c).1 (never (lawful c) (λ l. omega (arith, (ranges c l).proper.day_high, ap days_in y)));
        arrives = λ c n row h y m.
            let p : ℕ = ticks_passed c n (length row) in
            ap (λ (k : Clock). k.time) (leaves c n row h).clock
            ∙ time_later p c.clock
            ∙ past_midnight c.clock.time p (ranges c h.known).proper.tick (le_trans (some_pass c n (length row) h).0 h.day) m
            ∙ ap (λ (z : ℕ). day_after z c.clock.time.day (after_midnight c n (length row))) y;
      }

in_9999 : days_in 9999 ≡ 365
unfolding days_in
in_9999 = refl

-- no wait passes the end of 9999
pub last_end : LastEnd
last_end c n row k l z y d m =
    let t : Time = c.clock.time in
    let f : days_in t.year ≤ t.day = omega (arith, ap days_in y, in_9999) in
    let e : (later n t).year ≡ t.year + 1 = ap (λ (u : Time). u.year) (new_year t n (ranges c k).proper.tick l m f) in
    (given_exactly_if (Call.wait n row) c 16 (18 if not (lawful c) ∷ 15 if ltb ticks_of_day n ∷ 14 if eqb (length row) 0 ∷ []) [] (ltb 9999 (later n t).year) refl refl refl refl).1
    (lt-ltb 9999 (later n t).year (omega arith), simp (k, le-ltb ticks_of_day n l, ne_eqb (length row) 0 (λ w. absurd (omega arith))))

-- ---- the table, by one test over it

abbrev right : List (ℕ × ℕ) → Bool
right [] = true
right (r ∷ rs) = (leb 1 r.0 && (leb r.0 9999 && eqb (days_in r.0) r.1)) && right rs

each_ends : (rs : List (ℕ × ℕ)) → right rs ≡ true → Each (λ (r : ℕ × ℕ). Ends r.0 r.1) rs
each_ends [] h = tt
each_ends (r ∷ rs) h =
    let p = and_both (leb 1 r.0 && (leb r.0 9999 && eqb (days_in r.0) r.1)) (right rs) h in
    let a = and_both (leb 1 r.0) (leb r.0 9999 && eqb (days_in r.0) r.1) p.0 in
    let b = and_both (leb r.0 9999) (eqb (days_in r.0) r.1) a.1 in
    (subst (Ends r.0) (eqb-true _ _ b.1) (ends r.0 (leb-true _ _ a.0) (leb-true _ _ b.0)), each_ends rs p.1)

pub named_end : Each (λ (r : ℕ × ℕ). Ends r.0 r.1) named
unfolding days_in
named_end = each_ends named refl
