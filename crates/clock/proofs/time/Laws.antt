-- The card's time, ticks later. Assumes nothing.
use Prim.Native.Nat.{ℕ, zero, suc, ◌+◌, ◌-◌, ◌%◌, ◌≤◌, ◌<◌}
use mathlib.Core.Path.{◌≡◌, sym, ◌∙◌, ap}
use mathlib.Core.Bool.{true}
use mathlib.Core.Logic.{⊎_elim}
use native.Mathlib.Nat.{add-zero, add-suc}
use native.Mathlib.Omega.{arith}
use borrow.Author.Tests.{lt-ltb, le-ltb, le-leb, leb-true, ltb-true}
use lib.Dec.{ltb, lit<, lit≤}
use Rattle.wire.proofs.digits.Laws.{lt_or_le, and_both}
use Rattle.wire.specs.Digits.{pick}
use Rattle.wire.specs.Time.{ticks_of_day}
use Rattle.clock.specs.declared.time.Time.{Time}
use Rattle.clock.specs.Time.{days_in, instant, next, later, time_lawful}
use Rattle.clock.proofs.time.Rule.{Rule, by_rule}

-- ---- lawful times

-- the ranges of a time but for the last year, as inequalities: what a tick keeps
pub record Proper (t : Time) : Type 0 where
  pub year : 1 ≤ t.year
  pub day_low : 1 ≤ t.day
  pub day_high : t.day ≤ days_in t.year
  pub tick : t.tick.ticks < ticks_of_day

pub record InRange (t : Time) : Type 0 where
  pub proper : Proper t
  pub year : t.year ≤ 9999

pub in_range_lem : (t : Time) → time_lawful t ≡ true → InRange t
unfolding time_lawful
in_range_lem t e =
    let a = and_both _ _ e in
    let b = and_both _ _ a.1 in
    let c = and_both _ _ b.1 in
    let d = and_both _ _ c.1 in
    record {
      proper = record { year = leb-true _ _ a.0; day_low = leb-true _ _ c.0; day_high = leb-true _ _ d.0; tick = ltb-true _ _ d.1 };
      year = leb-true _ _ b.0;
    }

pub time_lawful_lem : (t : Time) → InRange t → time_lawful t ≡ true
unfolding time_lawful
time_lawful_lem t h =
    let p : Proper t = h.proper in
    simp (le-leb _ _ p.year, le-leb _ _ h.year, le-leb _ _ p.day_low, le-leb _ _ p.day_high, lt-ltb _ _ p.tick)

-- a year has at least 365 days and at most 366
pub days_in_year : (y : ℕ) → (365 ≤ days_in y) × (days_in y ≤ 366)
days_in_year y = of (by_rule y)
  where
    of : {d : ℕ} → Rule y d → (365 ≤ d) × (d ≤ 366)
    of (Rule.common a) = (lit≤ tt, lit≤ tt)
    of (Rule.fourth a b) = (lit≤ tt, lit≤ tt)
    of (Rule.century a b) = (lit≤ tt, lit≤ tt)
    of (Rule.four_hundredth a) = (lit≤ tt, lit≤ tt)

-- ---- ticks add up

pub later_add : (p q : ℕ) (t : Time) → later (p + q) t ≡ later q (later p t)
unfolding later
later_add p zero t = ap (λ (k : ℕ). later k t) (add-zero p)
later_add p (suc q) t = ap (λ (k : ℕ). later k t) (add-suc p q) ∙ ap next (later_add p q t)

-- ---- the time so many ticks later, carried once

abbrev at_tick : Time → ℕ → Time
at_tick t x = instant t.year t.day x

-- within the day
pub within_day : (t : Time) (k : ℕ) → t.tick.ticks + k < ticks_of_day → later k t ≡ at_tick t (t.tick.ticks + k)
unfolding later next
within_day t zero h = ap (at_tick t) (sym (add-zero t.tick.ticks))
within_day t (suc k) h =
    ap next (within_day t k (omega arith))
    ∙ rw (lt-ltb (t.tick.ticks + k + 1) ticks_of_day (omega arith)) (ap (at_tick t) (omega arith))

-- tick 0 of the day after
abbrev next_day : Time → Time
next_day t = next (at_tick t 863999999999)

to_next_day : (t : Time) → t.tick.ticks < ticks_of_day → later (suc (863999999999 - t.tick.ticks)) t ≡ next_day t
unfolding later
to_next_day t h = ap next (within_day t (863999999999 - t.tick.ticks) (omega arith) ∙ ap (at_tick t) (omega arith))

past_day : (t : Time) (k : ℕ) → t.tick.ticks < ticks_of_day → ticks_of_day ≤ t.tick.ticks + k
    → later k t ≡ later (t.tick.ticks + k - ticks_of_day) (next_day t)
past_day t k h l =
    ap (λ (j : ℕ). later j t) (omega arith)
    ∙ later_add (suc (863999999999 - t.tick.ticks)) (t.tick.ticks + k - ticks_of_day) t
    ∙ ap (later (t.tick.ticks + k - ticks_of_day)) (to_next_day t h)

pub from_midnight : (y d k : ℕ) → k < ticks_of_day → later k (instant y d 0) ≡ instant y d k
from_midnight y d k h = within_day (instant y d 0) k (omega arith) ∙ ap (instant y d) (omega arith)

-- the day after a day of a year, at a tick
abbrev pub day_after : ℕ → ℕ → ℕ → Time
day_after year day tick = pick (ltb day (days_in year)) (instant year (day + 1) tick) (instant (year + 1) 1 tick)

module _ (t : Time) (k : ℕ) (h : t.tick.ticks < ticks_of_day) (l : k ≤ ticks_of_day) (m : ticks_of_day ≤ t.tick.ticks + k) where
  -- into the next day of the year
  pub next_in_year : t.day < days_in t.year → later k t ≡ instant t.year (t.day + 1) (t.tick.ticks + k - ticks_of_day)
  unfolding next
  next_in_year d =
      past_day t k h m ∙ rw (lt-ltb t.day (days_in t.year) d) (from_midnight t.year (t.day + 1) (t.tick.ticks + k - ticks_of_day) (omega arith))

  -- into day 1 of the next year
  pub new_year : days_in t.year ≤ t.day → later k t ≡ instant (t.year + 1) 1 (t.tick.ticks + k - ticks_of_day)
  unfolding next
  new_year d =
      past_day t k h m ∙ rw (le-ltb t.day (days_in t.year) d) (from_midnight (t.year + 1) 1 (t.tick.ticks + k - ticks_of_day) (omega arith))

  -- one of the two
  pub past_midnight : later k t ≡ day_after t.year t.day (t.tick.ticks + k - ticks_of_day)
  past_midnight =
      ⊎_elim
      (λ d. rw (lt-ltb t.day (days_in t.year) d) (next_in_year d))
      (λ d. rw (le-ltb t.day (days_in t.year) d) (new_year d))
      (lt_or_le t.day (days_in t.year))

-- ---- one tick later, by the three ways that it can go

record Way (t u : Time) : Type 0 where
  pub year : t.year ≤ u.year
  pub tick : u.tick.ticks ≡ (t.tick.ticks + 1) % ticks_of_day
  pub proper : Proper u

next_way : (t : Time) → Proper t → Way t (next t)
unfolding next
next_way t h =
    ⊎_elim
    (λ l. rw (lt-ltb (t.tick.ticks + 1) ticks_of_day l)
    (record { year = omega arith; tick = omega arith; proper = record { year = h.year; day_low = h.day_low; day_high = h.day_high; tick = l } }))
    (λ g. rw (le-ltb (t.tick.ticks + 1) ticks_of_day g)
    (⊎_elim
    (λ d. rw (lt-ltb t.day (days_in t.year) d)
    (record { year = omega arith; tick = omega arith; proper = record { year = h.year; day_low = omega arith; day_high = omega arith; tick = lit< tt } }))
    (λ d. let y = days_in_year (t.year + 1) in
    rw (le-ltb t.day (days_in t.year) d)
    (record { year = omega arith; tick = omega arith; proper = record { year = omega arith; day_low = lit≤ tt; day_high = omega (arith, y); tick = lit< tt } }))
    (lt_or_le t.day (days_in t.year))))
    (lt_or_le (t.tick.ticks + 1) ticks_of_day)

pub later_proper : (k : ℕ) (t : Time) → Proper t → Proper (later k t)
unfolding later
later_proper zero t h = h
later_proper (suc k) t h = (next_way (later k t) (later_proper k t h)).proper

pub later_year : (k : ℕ) (t : Time) → Proper t → t.year ≤ (later k t).year
unfolding later
later_year zero t h = omega arith
later_year (suc k) t h = omega (arith, later_year k t h, (next_way (later k t) (later_proper k t h)).year)

-- a lawful time stays lawful while its year is at most 9999
pub later_lawful : (k : ℕ) (t : Time) → time_lawful t ≡ true → (later k t).year ≤ 9999 → time_lawful (later k t) ≡ true
later_lawful k t e y = time_lawful_lem (later k t) (record { proper = later_proper k t (in_range_lem t e).proper; year = y })

-- the tick of day goes round
pub later_tick : (k : ℕ) (t : Time) → Proper t → (later k t).tick.ticks ≡ (t.tick.ticks + k) % ticks_of_day
unfolding later
later_tick zero t h = omega (arith, h.tick)
later_tick (suc k) t h =
    let e : (later k t).tick.ticks ≡ (t.tick.ticks + k) % ticks_of_day = later_tick k t h in
    (next_way (later k t) (later_proper k t h)).tick ∙ omega arith
