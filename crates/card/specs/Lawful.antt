-- 18: what a card must be for any call to take it. A list of ranges, part by part, and one over two of them: the jam is off beside a large offset. How a card came to be
-- is not asked. Ranges that rest on a type hold of every card and are not tested: dividers and missed edges of at most 65,535 (16 bits), a vector of eight bits, words of 16
-- bits and bytes of eight, 64 places in the queue and five words in a latch, a latch closed or open, a done bit, the jam on or off, and the cases of format, modulation,
-- clock source, generator code, strobe and periodic output.
use Rattle.std.specs.Prelude.{Bool, ◌&&◌}
use Rattle.clock.specs.Clocks.{clock_lawful}
use Rattle.parts.specs.Events.{latch_lawful, event_lawful}
use Rattle.parts.specs.Interrupts.{interrupts_lawful}
use Rattle.parts.specs.Queues.{queue_lawful}
use Rattle.parts.specs.Settings.{settings_lawful, jam_fits}
use Rattle.card.specs.declared.card.Card.{Card}

-- all but the clock
unfoldable pub rest_lawful : Card → Bool
rest_lawful c =
    interrupts_lawful c.interrupts
    && (event_lawful c.event
    && (latch_lawful c.time_latch
    && (settings_lawful c.settings
    && (jam_fits c.jam c.settings
    && queue_lawful c.queue))))

unfoldable pub lawful : Card → Bool
lawful c = rest_lawful c && clock_lawful c.clock
