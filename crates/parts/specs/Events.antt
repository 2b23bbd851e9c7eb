-- The event input: CONTROL, the event latch, closed or open, and the count of missed edges; and what the words of a latch must be, of either latch.
use Rattle.std.specs.Prelude.{ℕ, ◌+◌, ◌%◌, min, Bool, false, ◌&&◌, ◌||◌, not, List, ltb, is_ok}
use Rattle.wire.specs.Digits.{below, pick}
use Rattle.wire.specs.Words.{zero_words, read_words}
use Rattle.parts.specs.declared.event.Event.{Event}
use Rattle.parts.specs.Pending.{bit}

-- CONTROL's bit 2, of weight 4: the first trip is kept
abbrev pub keeps_first : ℕ → Bool
keeps_first control = bit 4 control

-- what a reset leaves: CONTROL 0, the latch open and of five zero words, no missed edges
abbrev pub clear_event : Event
clear_event = record { control = 0; closed = false; missed = 0; latch = zero_words }

-- 18: latch words are all zero, or readable
unfoldable pub latch_lawful : List ℕ → Bool
latch_lawful ws = below 1 ws || is_ok (read_words ws)

-- control bits 0 to 2, and a closed latch only with bit 2 set
unfoldable pub control_lawful : ℕ → Bool → Bool
control_lawful control closed = ltb control 8 && (not closed || keeps_first control)

unfoldable pub event_lawful : Event → Bool
event_lawful e = control_lawful e.control e.closed && latch_lawful e.latch

-- WRITING

-- CONTROL, whose bits above 2 are ignored: clearing bit 2 opens the latch and keeps the count
abbrev pub control_written : Event → ℕ → Event
control_written e v = record { control = v % 8; closed = e.closed && keeps_first v; missed = e.missed; latch = e.latch }

-- the count of missed edges, by whatever value: the latch is opened and the count cleared
abbrev pub opened : Event → Event
opened e = record { control = e.control; closed = false; missed = 0; latch = e.latch }

-- EDGES

-- capture is on, and the edge of the chosen kind: bit 1 falling, else rising
unfoldable pub matching : ℕ → Bool → Bool
matching control falling = bit 1 control && pick falling (bit 2 control) (not (bit 2 control))

-- a capture copies these words to the latch, and closes it with bit 2 set
abbrev pub captured : Event → List ℕ → Event
captured e ws = record { control = e.control; closed = keeps_first e.control; missed = e.missed; latch = ws }

-- a missed edge leaves the latch and adds to the count, which holds at 65,535
abbrev pub counted : Event → Event
counted e = record { control = e.control; closed = e.closed; missed = min 65535 (e.missed + 1); latch = e.latch }

-- a matching edge is captured by an open latch, and missed by a closed one
unfoldable pub edge_taken : Event → List ℕ → Event
edge_taken e ws = pick e.closed (counted e) (captured e ws)
