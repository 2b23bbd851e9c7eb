-- The card's time. Its leap rule is that of 02, R-2, in place of 01's.
use Rattle.std.specs.Prelude.{ℕ, zero, suc, ◌+◌, ◌-◌, ◌%◌, Bool, ◌&&◌, ◌||◌, not, leb, ltb, eqb}
use Rattle.wire.specs.Digits.{pick}
use Rattle.wire.specs.Time.{ticks_of_day}
use Rattle.clock.specs.declared.time.Time.{Time}

-- the leap rule: a year has 366 days if 4 divides it and 100 does not, or 400 divides it, else 365
unfoldable pub days_in : ℕ → ℕ
days_in year = pick ((eqb (year % 4) 0 && not (eqb (year % 100) 0)) || eqb (year % 400) 0) 366 365

-- the days of n years in a row, from a first one on
unfoldable pub days_over : ℕ → ℕ → ℕ
days_over first zero = 0
days_over first (suc n) = days_over first n + days_in (first + n)

-- the days before a year: those of the years from 1 on that come before it
abbrev pub days_before : ℕ → ℕ
days_before year = days_over 1 (year - 1)

abbrev pub instant : ℕ → ℕ → ℕ → Time
instant year day tick = record { year = year; day = day; tick = record { ticks = tick } }

-- one tick later: after the last tick of a day comes tick 0 of the next day, after the last day, day 1 of the next year
unfoldable pub next : Time → Time
next t =
    pick (ltb (t.tick.ticks + 1) ticks_of_day) (instant t.year t.day (t.tick.ticks + 1))
    (pick (ltb t.day (days_in t.year)) (instant t.year (t.day + 1) 0)
    (instant (t.year + 1) 1 0))

-- k ticks later
unfoldable pub later : ℕ → Time → Time
later zero t = t
later (suc k) t = next (later k t)

-- the ranges of a time
unfoldable pub time_lawful : Time → Bool
time_lawful t =
    leb 1 t.year && (leb t.year 9999 && (leb 1 t.day && (leb t.day (days_in t.year) && ltb t.tick.ticks ticks_of_day)))
