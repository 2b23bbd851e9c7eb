-- Strobe, periodic, second: what falls on which tick.
use Rattle.std.specs.Prelude.{ℕ, ◌+◌, ◌*◌, ◌%◌, Bool, true, false, ◌&&◌, leb, ltb, eqb}
use Rattle.wire.specs.Digits.{pick}
use Rattle.wire.specs.Time.{ticks_of}
use Rattle.clock.specs.declared.clock.Strobe.{Strobe}
use Rattle.clock.specs.declared.clock.Periodic.{Periodic}
use Rattle.clock.specs.declared.clock.Clock.{Clock}
use Rattle.clock.specs.Time.{later}

-- the second falls on ticks of day that 10,000,000 divides
unfoldable pub second_falls : ℕ → Bool
second_falls tick = eqb (tick % 10000000) 0

-- the strobe falls on the first tick of its millisecond, of the day or of the second
unfoldable pub strobe_falls : Strobe → ℕ → Bool
strobe_falls Strobe.Off tick = false
strobe_falls (Strobe.Daily ms) tick = eqb tick (ticks_of ms).ticks
strobe_falls (Strobe.EachSecond ms) tick = eqb (tick % 10000000) (ticks_of ms).ticks

-- the periodic output falls k ticks from now if the count has then come to a multiple of n1 × n2
unfoldable pub periodic_falls : Periodic → ℕ → Bool
periodic_falls Periodic.Off k = false
periodic_falls (Periodic.Every n1 n2 count) k = eqb ((count + k) % (n1 * n2)) 0

-- the ranges of both; that a divider is at most 65,535 and a count below 2 ^ 32 rests on their types, of 16 and 32 bits
unfoldable pub strobe_lawful : Strobe → Bool
strobe_lawful Strobe.Off = true
strobe_lawful (Strobe.Daily ms) = ltb ms.ms 86400000
strobe_lawful (Strobe.EachSecond ms) = ltb ms.ms 1000

unfoldable pub periodic_lawful : Periodic → Bool
periodic_lawful Periodic.Off = true
periodic_lawful (Periodic.Every n1 n2 count) = leb 2 n1 && (leb 2 n2 && ltb count (n1 * n2))

-- what falls on the k-th tick from now: 1 for periodic, 2 for strobe, 4 for second, added up; 0 if nothing does
unfoldable pub falls : Clock → ℕ → ℕ
falls c k =
    pick (periodic_falls c.periodic k) 1 0
    + (pick (strobe_falls c.strobe (later k c.time).tick.ticks) 2 0
    + pick (second_falls (later k c.time).tick.ticks) 4 0)
