-- Registers, input edges and the interrupt line.
use Rattle.std.specs.Prelude.{ℕ, ◌-◌, ◌%◌, Bool, true, false, ◌&&◌, not, List, [], ◌∷◌, Option, Some, None, Result, ⊤, get_or, leb, ltb, eqb}
use Rattle.wire.specs.Digits.{pick}
use Rattle.wire.specs.Numbers.{Line, ◌if◌, given, given_or, answered, granted}
use Rattle.wire.specs.declared.numbers.Answer.{Answer}
use Rattle.wire.specs.declared.numbers.Refusal.{Refusal}
use Rattle.wire.specs.Words.{words_of}
use Rattle.clock.specs.declared.time.Time.{Time}
use Rattle.parts.specs.Events.{control_written, opened, matching, edge_taken}
use Rattle.parts.specs.Interrupts.{interrupts_written, event_raised, line_up}
use Rattle.parts.specs.Queues.{enqueued}
use Rattle.card.specs.declared.card.Card.{Card}
use Rattle.card.specs.declared.registers.Request.{Request}
use Rattle.card.specs.Cards.{answer, with_time_latch, with_event, with_interrupts, with_queue}
use Rattle.card.specs.Lawful.{lawful}
use Rattle.card.specs.Packets.{acknowledged}

-- the last register's number
abbrev pub last_register : ℕ
last_register = 18

-- the words of a time, and of the card's
abbrev pub words_at : Time → List ℕ
words_at t = words_of t.day t.tick.ticks

abbrev pub words_now : Card → List ℕ
words_now c = words_at c.clock.time

-- READING

-- 18, 1 no such register, 2 FIFO; of a card known to be lawful or not
abbrev pub read_lines : Bool → ℕ → List Line
read_lines known reg =
    18 if not known
    ∷ 1 if ltb last_register reg
    ∷ 2 if eqb reg 13
    ∷ []

unfoldable pub read_refusal : Bool → ℕ → ℕ
read_refusal known reg = given (read_lines known reg)

-- what a register reads as; bits not named read as 0
unfoldable pub shown : Card → ℕ → ℕ
shown c reg =
    pick (eqb reg 0) 0
    (pick (leb reg 5) (get_or c.time_latch (reg - 1) 0)
    (pick (leb reg 10) (get_or c.event.latch (reg - 6) 0)
    (pick (eqb reg 11) c.event.control
    (pick (eqb reg 12) (pick c.done 1 0)
    (pick (eqb reg 14) c.interrupts.mask
    (pick (eqb reg 15) c.interrupts.pending
    (pick (eqb reg 16) c.interrupts.level
    (pick (eqb reg 17) c.interrupts.vector
    c.event.missed))))))))

-- reading TIMEREQ latches the time; no other reading changes anything
unfoldable pub read_register : Card → ℕ → Answer Card ℕ
read_register c reg = granted (read_lines (lawful c) reg) c (pick (eqb reg 0) (with_time_latch c (words_now c)) c) (shown c reg)

-- the value that a reading gives, 0 beside a refusal
abbrev pub value_read : Result ℕ Refusal → ℕ
value_read = given_or 0

-- WRITING

-- 18, 1 no such register, 2 the words of the latches, 3 queue full; of a card known to be lawful or not, and its queue's fill
abbrev pub write_lines : Bool → ℕ → ℕ → List Line
write_lines known reg fill =
    18 if not known
    ∷ 1 if ltb last_register reg
    ∷ 2 if (leb 1 reg && leb reg 10)
    ∷ 3 if (eqb reg 13 && eqb fill 64)
    ∷ []

unfoldable pub write_refusal : Bool → ℕ → ℕ → ℕ
write_refusal known reg fill = given (write_lines known reg fill)

-- what a register does with a value; bits not named are ignored
unfoldable pub written : Card → ℕ → ℕ → Answer Card ⊤
written c reg v =
    pick (eqb reg 0) (answer (with_time_latch c (words_now c)) 0)
    (pick (eqb reg 11) (answer (with_event c (control_written c.event v)) 0)
    (pick (eqb reg 12) (acknowledged c v)
    (pick (eqb reg 13) (answer (with_queue c (enqueued c.queue (v % 256))) 0)
    (pick (eqb reg 18) (answer (with_event c (opened c.event)) 0)
    (answer (with_interrupts c (interrupts_written c.interrupts reg v)) 0)))))

unfoldable pub write_register : Card → ℕ → ℕ → Answer Card ⊤
write_register c reg v =
    pick (eqb (write_refusal (lawful c) reg c.queue.fill) 0) (written c reg v) (answer c (write_refusal (lawful c) reg c.queue.fill))

-- EDGES

-- a matching edge is captured, with the time, or missed, and raises pending bit 0 either way
abbrev pub matched : Card → Card
matched c = with_interrupts (with_event c (edge_taken c.event (words_now c))) (event_raised c.interrupts)

-- any other edge changes nothing
unfoldable pub edge : Card → Bool → Answer Card ⊤
edge c falling = granted (18 if not (lawful c) ∷ []) c (pick (matching c.event.control falling) (matched c) c) tt

-- THE LINE

abbrev pub request : ℕ → ℕ → Request
request level vector = record { level = level; vector = vector }

unfoldable pub line_refusal : Card → ℕ
line_refusal c = given (18 if not (lawful c) ∷ [])

-- up exactly if LEVEL is not 0 and some pending bit is also set in MASK; LEVEL 1 to 7 is IRQ1 to IRQ7; a line that is down requests nothing
unfoldable pub line : Card → Result (Option Request) Refusal
line c = answered (line_refusal c) (pick (line_up c.interrupts) (Some (request c.interrupts.level c.interrupts.vector)) None)

-- what a line requests, nothing where it is down and nothing beside a refusal
abbrev pub told : Result (Option Request) Refusal → Option Request
told = given_or None

-- and what then stands in its place: whether the line is up, and its level and vector, both 0 where it is not
abbrev pub up : Option Request → Bool
up (Some r) = true
up None = false

abbrev pub requested : Option Request → Request
requested (Some r) = r
requested None = request 0 0
