-- Reset, and a fresh card.
use Rattle.std.specs.Prelude.{true, false, not, [], ◌∷◌, pos, ⊤}
use Rattle.wire.specs.Numbers.{◌if◌, granted}
use Rattle.wire.specs.declared.numbers.Answer.{Answer}
use Rattle.wire.specs.Words.{zero_words}
use Rattle.wire.specs.declared.packets.Format.TheVariants as Format
use Rattle.wire.specs.declared.packets.Modulation.TheVariants as Modulation
use Rattle.wire.specs.declared.packets.ClockSource.TheVariants as ClockSource
use Rattle.wire.specs.declared.packets.Generator.TheVariants as Generator
use Rattle.clock.specs.declared.time.Time.{Time}
use Rattle.clock.specs.declared.clock.Strobe.TheVariants as Strobe
use Rattle.clock.specs.declared.clock.Periodic.TheVariants as Periodic
use Rattle.clock.specs.Time.{instant}
use Rattle.parts.specs.declared.settings.Settings.{Settings}
use Rattle.card.specs.declared.card.Card.{Card}
use Rattle.parts.specs.Events.{clear_event}
use Rattle.parts.specs.Queues.{empty_queue}
use Rattle.card.specs.Lawful.{lawful}

-- a reset card of a time, with these settings: the clock source becomes internal, the offset 0, the jam on, all else is cleared
abbrev pub reset_card : Time → Settings → Card
reset_card t s =
    record {
      queue = empty_queue;
      clock = record { time = t; strobe = Strobe.Off; periodic = Periodic.Off };
      time_latch = zero_words;
      event = clear_event;
      settings = record { mode = s.mode; format = s.format; modulation = s.modulation; clock = ClockSource.Internal; generator = s.generator; offset = pos 0 };
      jam = true;
      interrupts = record { mask = 0; pending = 0; level = 0; vector = 0 };
      done = false;
    }

-- time and year stay; mode, format, modulation and generator code stay
unfoldable pub reset : Card → Answer Card ⊤
reset c = granted (18 if not (lawful c) ∷ []) c (reset_card c.clock.time c.settings) tt

-- a reset card with year 1, day 1, tick 0, mode 0, format B, modulation M, generator B
unfoldable pub fresh_card : Card
fresh_card =
    reset_card (instant 1 1 0)
    (record { mode = 0; format = Format.B; modulation = Modulation.M; clock = ClockSource.Internal; generator = Generator.B; offset = pos 0 })
