-- Setting the time, the strobe and the periodic output. Each is refused by a table of lines, 18 first, and beside a refusal the clock is as it was.
use Rattle.std.specs.Prelude.{ℕ, ◌+◌, ◌*◌, Bool, true, ◌&&◌, not, List, [], ◌∷◌, leb}
use Rattle.wire.specs.declared.numbers.Answer.{Answer}
use Rattle.wire.specs.Numbers.{Line, ◌if◌, granted}
use Rattle.wire.specs.Time.{tick_at}
use Rattle.clock.specs.declared.clock.Strobe.{Strobe}
use Rattle.clock.specs.declared.clock.Periodic.{Periodic}
use Rattle.clock.specs.declared.clock.Clock.{Clock}
use Rattle.clock.specs.declared.setting.StrobeAt.{StrobeAt}
use Rattle.clock.specs.declared.setting.Dividers.{Dividers}
use Rattle.clock.specs.Time.{instant, days_in}
use Rattle.clock.specs.Clocks.{clock_lawful, with_time, with_strobe, with_periodic}

-- THE TIME

-- hour 0 to 23, minute and second 0 to 59
abbrev pub time_of_day : ℕ → ℕ → ℕ → Bool
time_of_day hour minute second = leb hour 23 && (leb minute 59 && leb second 59)

-- a year 1 to 9999, a day within it, a time of day
unfoldable pub date_fits : ℕ → ℕ → ℕ → ℕ → ℕ → Bool
date_fits year day hour minute second =
    leb 1 year && (leb year 9999 && (leb 1 day && (leb day (days_in year) && time_of_day hour minute second)))

-- 11 outside these ranges
abbrev pub time_lines : ℕ → ℕ → ℕ → ℕ → ℕ → List Line
time_lines year day hour minute second = 11 if not (date_fits year day hour minute second) ∷ []

-- the fraction becomes zero, and nothing else changes
abbrev pub time_set : Clock → ℕ → ℕ → ℕ → ℕ → ℕ → Clock
time_set c year day hour minute second = with_time c (instant year day (tick_at hour minute second 0))

abbrev pub set_time : Clock → ℕ → ℕ → ℕ → ℕ → ℕ → Answer Clock Unit
set_time c year day hour minute second =
    granted (18 if not (clock_lawful c) ∷ time_lines year day hour minute second) c (time_set c year day hour minute second) tt

-- THE STROBE

-- what may be asked of the strobe
unfoldable pub strobe_fits : StrobeAt → Bool
strobe_fits StrobeAt.Off = true
strobe_fits (StrobeAt.Daily hour minute second ms) = time_of_day hour minute second && leb ms 999
strobe_fits (StrobeAt.EachSecond ms) = leb ms 999

-- how it is kept: milliseconds of the day, or of the second
abbrev pub strobe_kept : StrobeAt → Strobe
strobe_kept StrobeAt.Off = Strobe.Off
strobe_kept (StrobeAt.Daily hour minute second ms) = Strobe.Daily (record { ms = ((hour * 60 + minute) * 60 + second) * 1000 + ms })
strobe_kept (StrobeAt.EachSecond ms) = Strobe.EachSecond (record { ms = ms })

-- 13 outside its ranges
abbrev pub strobe_lines : StrobeAt → List Line
strobe_lines s = 13 if not (strobe_fits s) ∷ []

abbrev pub set_strobe : Clock → StrobeAt → Answer Clock Unit
set_strobe c s = granted (18 if not (clock_lawful c) ∷ strobe_lines s) c (with_strobe c (strobe_kept s)) tt

-- THE PERIODIC OUTPUT

-- each divider 2 to 65,535
unfoldable pub dividers_fit : Dividers → Bool
dividers_fit Dividers.Off = true
dividers_fit (Dividers.By n1 n2) = leb 2 n1 && (leb n1 65535 && (leb 2 n2 && leb n2 65535))

-- setting dividers starts the count at 0
abbrev pub periodic_kept : Dividers → Periodic
periodic_kept Dividers.Off = Periodic.Off
periodic_kept (Dividers.By n1 n2) = Periodic.Every n1 n2 0

-- 12 outside their ranges
abbrev pub divider_lines : Dividers → List Line
divider_lines d = 12 if not (dividers_fit d) ∷ []

abbrev pub set_periodic : Clock → Dividers → Answer Clock Unit
set_periodic c d = granted (18 if not (clock_lawful c) ∷ divider_lines d) c (with_periodic c (periodic_kept d)) tt
