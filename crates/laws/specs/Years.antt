-- What the calls make of the end of a year: which days can be set and held, where a wait comes to that passes midnight, and 16 at the end of 9999; and a table of years with their days.
use Rattle.std.specs.Prelude.{ℕ, ◌+◌, ◌-◌, ◌≤◌, ◌<◌, ◌≡◌, true, ◌&&◌, List, [], ◌∷◌, leb, ltb, length}
use Rattle.wire.specs.Digits.{pick}
use Rattle.wire.specs.Time.{ticks_of_day}
use Rattle.clock.specs.Time.{instant}
use Rattle.clock.specs.Clocks.{with_time}
use Rattle.clock.specs.Setting.{time_of_day}
use Rattle.card.specs.declared.card.Card.{Card}
use Rattle.card.specs.Cards.{with_clock}
use Rattle.card.specs.Lawful.{lawful}
use Rattle.laws.specs.Calls.{Call, number}
use Rattle.laws.specs.Demand.{Asked, ticks_passed, left_card}

-- the tick of day to which a wait comes that passes midnight
abbrev pub after_midnight : Card → ℕ → ℕ → ℕ
after_midnight c n room = c.clock.time.tick.ticks + ticks_passed c n room - ticks_of_day

-- a year of so many days
pub record Ends (year days : ℕ) : Type 0 where
  -- they can be set, and any other day is 11
  pub sets : (c : Card) (day hour minute second : ℕ) → lawful c ≡ true → time_of_day hour minute second ≡ true
      → number (Call.set_time year day hour minute second) c ≡ pick (leb 1 day && leb day days) 0 11
  -- a card can hold them and no other, and one that holds a day after the last gets 18 from every call
  pub holds : (c : Card) (day tick : ℕ) → lawful c ≡ true → tick < ticks_of_day → lawful (with_clock c (with_time c.clock (instant year day tick))) ≡ (leb 1 day && leb day days)
  pub torn : (k : Call) (c : Card) → c.clock.time.year ≡ year → days < c.clock.time.day → number k c ≡ 18
  -- a wait that passes midnight comes to the next day, and after the last one to day 1 of the next year
  pub arrives : (c : Card) (n : ℕ) (row : List ℕ) → Asked c n (length row) → c.clock.time.year ≡ year → ticks_of_day ≤ c.clock.time.tick.ticks + ticks_passed c n (length row)
      → (left_card c n (length row)).clock.time
      ≡ pick (ltb c.clock.time.day days) (instant year (c.clock.time.day + 1) (after_midnight c n (length row))) (instant (year + 1) 1 (after_midnight c n (length row)))

-- but no wait passes the end of 9999, which has 365 days: 16
abbrev pub LastEnd : Type 0
LastEnd =
    (c : Card) (n : ℕ) (row : List ℕ) → lawful c ≡ true → n ≤ ticks_of_day → 0 < length row → c.clock.time.year ≡ 9999 → c.clock.time.day ≡ 365
    → ticks_of_day ≤ c.clock.time.tick.ticks + n → number (Call.wait n row) c ≡ 16

-- THE TABLE: the years that the page names, others like them, and their days
abbrev pub named : List (ℕ × ℕ)
named = (1900, 365) ∷ (2000, 366) ∷ (2100, 365) ∷ (2400, 366) ∷ (9900, 365) ∷ (9996, 366) ∷ (9999, 365) ∷ []
