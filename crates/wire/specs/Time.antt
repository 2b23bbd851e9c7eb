-- The card's time, as far as the words need it: ticks, milliseconds, and the parts of a tick of day.
use Rattle.std.specs.Prelude.{ℕ, ◌+◌, ◌*◌, ◌/◌, ◌%◌}
use Rattle.wire.specs.declared.time.Ticks.{Ticks}
use Rattle.wire.specs.declared.time.Milliseconds.{Milliseconds}

-- the ticks of a day: a tick of day is below it
abbrev pub ticks_of_day : ℕ
ticks_of_day = 864000000000

-- the factor between the two units
abbrev pub ticks_of : Milliseconds → Ticks
ticks_of t = record { ticks = t.ms * 10000 }

-- a tick of day as hour, minute, second and the fraction of the second in ticks
unfoldable pub hour_of : ℕ → ℕ
hour_of tick = tick / 36000000000

unfoldable pub minute_of : ℕ → ℕ
minute_of tick = tick / 600000000 % 60

unfoldable pub second_of : ℕ → ℕ
second_of tick = tick / 10000000 % 60

unfoldable pub fraction_of : ℕ → ℕ
fraction_of tick = tick % 10000000

-- and back
unfoldable pub tick_at : ℕ → ℕ → ℕ → ℕ → ℕ
tick_at hour minute second fraction = ((hour * 60 + minute) * 60 + second) * 10000000 + fraction

-- the whole seconds of the day that have passed on a tick of day, and that tick without its fraction
abbrev pub whole_seconds : ℕ → ℕ
whole_seconds tick = tick / 10000000

abbrev pub without_fraction : ℕ → ℕ
without_fraction tick = whole_seconds tick * 10000000
