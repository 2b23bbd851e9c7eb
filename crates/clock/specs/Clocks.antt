-- The clock: the part of a card on which alone it depends what falls when. Its ranges, and the clock with one of its three parts changed.
use Rattle.std.specs.Prelude.{Bool, ◌&&◌}
use Rattle.clock.specs.declared.time.Time.{Time}
use Rattle.clock.specs.declared.clock.Strobe.{Strobe}
use Rattle.clock.specs.declared.clock.Periodic.{Periodic}
use Rattle.clock.specs.declared.clock.Clock.{Clock}
use Rattle.clock.specs.Time.{time_lawful}
use Rattle.clock.specs.Falling.{strobe_lawful, periodic_lawful}

-- 18: a clock that breaks a range
unfoldable pub clock_lawful : Clock → Bool
clock_lawful c = time_lawful c.time && (strobe_lawful c.strobe && periodic_lawful c.periodic)

abbrev pub with_time : Clock → Time → Clock
with_time c t = record { time = t; strobe = c.strobe; periodic = c.periodic }

abbrev pub with_strobe : Clock → Strobe → Clock
with_strobe c s = record { time = c.time; strobe = s; periodic = c.periodic }

abbrev pub with_periodic : Clock → Periodic → Clock
with_periodic c p = record { time = c.time; strobe = c.strobe; periodic = p }
