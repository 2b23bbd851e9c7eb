-- The card with one part changed. There is no update of a record in this language, so each part has its definition here, which writes out that the others stay;
-- clock and interrupt registers have the same for their own fields, the other parts write out what a call makes of them, and a reset card is written out whole in `Reset`.
use Rattle.std.specs.Prelude.{ℕ, Bool, List, ⊤}
use Rattle.wire.specs.Numbers.{answered}
use Rattle.wire.specs.declared.numbers.Answer.{Answer}
use Rattle.clock.specs.declared.clock.Clock.{Clock}
use Rattle.parts.specs.declared.queue.Queue.{Queue}
use Rattle.parts.specs.declared.event.Event.{Event}
use Rattle.parts.specs.declared.settings.Settings.{Settings}
use Rattle.parts.specs.declared.interrupts.Interrupts.{Interrupts}
use Rattle.card.specs.declared.card.Card.{Card}

abbrev pub with_queue : Card → Queue → Card
with_queue c v = record { queue = v; clock = c.clock; time_latch = c.time_latch; event = c.event; settings = c.settings; jam = c.jam; interrupts = c.interrupts; done = c.done }

abbrev pub with_clock : Card → Clock → Card
with_clock c v = record { queue = c.queue; clock = v; time_latch = c.time_latch; event = c.event; settings = c.settings; jam = c.jam; interrupts = c.interrupts; done = c.done }

abbrev pub with_time_latch : Card → List ℕ → Card
with_time_latch c v = record { queue = c.queue; clock = c.clock; time_latch = v; event = c.event; settings = c.settings; jam = c.jam; interrupts = c.interrupts; done = c.done }

abbrev pub with_event : Card → Event → Card
with_event c v = record { queue = c.queue; clock = c.clock; time_latch = c.time_latch; event = v; settings = c.settings; jam = c.jam; interrupts = c.interrupts; done = c.done }

abbrev pub with_settings : Card → Settings → Card
with_settings c v = record { queue = c.queue; clock = c.clock; time_latch = c.time_latch; event = c.event; settings = v; jam = c.jam; interrupts = c.interrupts; done = c.done }

abbrev pub with_jam : Card → Bool → Card
with_jam c v = record { queue = c.queue; clock = c.clock; time_latch = c.time_latch; event = c.event; settings = c.settings; jam = v; interrupts = c.interrupts; done = c.done }

abbrev pub with_interrupts : Card → Interrupts → Card
with_interrupts c v = record { queue = c.queue; clock = c.clock; time_latch = c.time_latch; event = c.event; settings = c.settings; jam = c.jam; interrupts = v; done = c.done }

abbrev pub with_done : Card → Bool → Card
with_done c v = record { queue = c.queue; clock = c.clock; time_latch = c.time_latch; event = c.event; settings = c.settings; jam = c.jam; interrupts = c.interrupts; done = v }

-- ANSWERS

-- the card afterwards, and by which number the call was done or refused
abbrev pub answer : Card → ℕ → Answer Card ⊤
answer c n = record { after = c; outcome = answered n tt }
