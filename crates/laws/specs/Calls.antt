-- All calls that take a card, in the page's order, and writing a frame and switching the jam behind them (the wait in place is the wait, by its contract; `is_lawful`
-- tells and changes nothing): the card afterwards, the number and the values given back, the lent row afterwards, and, in this one place, the fields that each may touch.
use Rattle.std.specs.Prelude.{ℕ, ◌^◌, ◌≡◌, Bool, false, ◌||◌, List, [], ◌∷◌, Option, length, eqb}
use Rattle.wire.specs.Digits.{pick}
use Rattle.wire.specs.Numbers.{number_of}
use Rattle.wire.specs.Packets.{packet_in}
use Rattle.wire.specs.declared.packets.Packet.{Packet}
use Rattle.clock.specs.declared.setting.StrobeAt.{StrobeAt}
use Rattle.clock.specs.declared.setting.Dividers.{Dividers}
use Rattle.parts.specs.declared.event.Event.{Event}
use Rattle.parts.specs.Events.{keeps_first, matching}
use Rattle.parts.specs.Pending.{bit}
use Rattle.parts.specs.Queues.{queued}
use Rattle.card.specs.declared.card.Card.{Card}
use Rattle.card.specs.Packets.{ack_number}
use Rattle.card.specs.declared.registers.Request.{Request}
use Rattle.card.specs.declared.waiting.Waited.{Waited}
use Rattle.card.specs.Registers
use Rattle.card.specs.Blocks
use Rattle.card.specs.Setting
use Rattle.card.specs.Waiting
use Rattle.card.specs.Reset
use Rattle.card.specs.Saved
use Rattle.irig.specs.Writing

-- a call with its arguments, and the row that it is lent
pub data Call : Type 0 where
  set_time : (year day hour minute second : ℕ) → Call
  read : (reg : ℕ) → Call
  write : (reg v : ℕ) → Call
  block : (row : List ℕ) → Call
  edge : (falling : Bool) → Call
  line : Call
  set_strobe : StrobeAt → Call
  set_periodic : Dividers → Call
  wait : (n : ℕ) (row : List ℕ) → Call
  reset : Call
  save : (row : List ℕ) → Call
  load : (bytes : List ℕ) → Call
  write_frame : (row : List ℕ) → Call
  switch_jam : (on : Bool) → Call

-- the card afterwards; the line, saving and writing a frame take the card and do not give it back
unfoldable pub after : Call → Card → Card
after (Call.set_time year day hour minute second) c = (Setting.set_time c year day hour minute second).after
after (Call.read reg) c = (Registers.read_register c reg).after
after (Call.write reg v) c = (Registers.write_register c reg v).after
after (Call.block row) c = (Blocks.write_block c row).card
after (Call.edge falling) c = (Registers.edge c falling).after
after Call.line c = c
after (Call.set_strobe s) c = (Setting.set_strobe c s).after
after (Call.set_periodic d) c = (Setting.set_periodic c d).after
after (Call.wait n row) c = (Waiting.wait c n (length row)).after
after Call.reset c = (Reset.reset c).after
after (Call.save row) c = c
after (Call.load bytes) c = (Saved.load c bytes).after
after (Call.write_frame row) c = c
after (Call.switch_jam on) c = (Setting.switch_jam c on).after

-- the number given back
unfoldable pub number : Call → Card → ℕ
number (Call.set_time year day hour minute second) c = number_of (Setting.set_time c year day hour minute second).outcome
number (Call.read reg) c = number_of (Registers.read_register c reg).outcome
number (Call.write reg v) c = number_of (Registers.write_register c reg v).outcome
number (Call.block row) c = number_of (Blocks.write_block c row).outcome
number (Call.edge falling) c = number_of (Registers.edge c falling).outcome
number Call.line c = number_of (Registers.line c)
number (Call.set_strobe s) c = number_of (Setting.set_strobe c s).outcome
number (Call.set_periodic d) c = number_of (Setting.set_periodic c d).outcome
number (Call.wait n row) c = number_of (Waiting.wait c n (length row)).outcome
number Call.reset c = number_of (Reset.reset c).outcome
number (Call.save row) c = Saved.save_refusal c (length row)
number (Call.load bytes) c = number_of (Saved.load c bytes).outcome
number (Call.write_frame row) c = Writing.write_refusal c (length row)
number (Call.switch_jam on) c = number_of (Setting.switch_jam c on).outcome

-- the values given back beside card and number
abbrev line_values : Option Request → List ℕ
line_values o = pick (Registers.up o) 1 0 ∷ (Registers.requested o).level ∷ (Registers.requested o).vector ∷ []

abbrev wait_values : Waited → List ℕ
wait_values w = w.passed.ticks ∷ w.written ∷ []

unfoldable pub values : Call → Card → List ℕ
values (Call.set_time year day hour minute second) c = []
values (Call.read reg) c = Registers.value_read (Registers.read_register c reg).outcome ∷ []
values (Call.write reg v) c = []
values (Call.block row) c = (Blocks.write_block c row).taken ∷ []
values (Call.edge falling) c = []
values Call.line c = line_values (Registers.told (Registers.line c))
values (Call.set_strobe s) c = []
values (Call.set_periodic d) c = []
values (Call.wait n row) c = wait_values (Waiting.told (Waiting.wait c n (length row)).outcome)
values Call.reset c = []
values (Call.save row) c = []
values (Call.load bytes) c = []
values (Call.write_frame row) c = []
values (Call.switch_jam on) c = []

-- the row that a call is lent, and what it leaves in it
unfoldable pub lent : Call → List ℕ
lent (Call.set_time year day hour minute second) = []
lent (Call.read reg) = []
lent (Call.write reg v) = []
lent (Call.block row) = row
lent (Call.edge falling) = []
lent Call.line = []
lent (Call.set_strobe s) = []
lent (Call.set_periodic d) = []
lent (Call.wait n row) = row
lent Call.reset = []
lent (Call.save row) = row
lent (Call.load bytes) = bytes
lent (Call.write_frame row) = row
lent (Call.switch_jam on) = []

unfoldable pub left : Call → Card → List ℕ
left (Call.set_time year day hour minute second) c = []
left (Call.read reg) c = []
left (Call.write reg v) c = []
left (Call.block row) c = row
left (Call.edge falling) c = []
left Call.line c = []
left (Call.set_strobe s) c = []
left (Call.set_periodic d) c = []
left (Call.wait n row) c = Waiting.row_waited c n row
left Call.reset c = []
left (Call.save row) c = Saved.row_saved c row
left (Call.load bytes) c = bytes
left (Call.write_frame row) c = Writing.row_written c row
left (Call.switch_jam on) c = []

-- FIELDS

pub data Field : Type 0 where
  queue time strobe periodic time_latch control closed missed event_latch mode format modulation clock_source generator offset jam mask pending level vector done : Field

-- fields are told apart by their place in the card
abbrev place : Field → ℕ
place Field.queue = 0
place Field.time = 1
place Field.strobe = 2
place Field.periodic = 3
place Field.time_latch = 4
place Field.control = 5
place Field.closed = 6
place Field.missed = 7
place Field.event_latch = 8
place Field.mode = 9
place Field.format = 10
place Field.modulation = 11
place Field.clock_source = 12
place Field.generator = 13
place Field.offset = 14
place Field.jam = 15
place Field.mask = 16
place Field.pending = 17
place Field.level = 18
place Field.vector = 19
place Field.done = 20

unfoldable pub among : List Field → Field → Bool
among [] f = false
among (g ∷ gs) f = eqb (place f) (place g) || among gs f

-- d is c in each field but these
unfoldable pub Same : List Field → Card → Card → Type 0
Same fs c d = d ≡ record {
  queue = pick (among fs Field.queue) d.queue c.queue;
  clock = record {
    time = pick (among fs Field.time) d.clock.time c.clock.time;
    strobe = pick (among fs Field.strobe) d.clock.strobe c.clock.strobe;
    periodic = pick (among fs Field.periodic) d.clock.periodic c.clock.periodic;
  };
  time_latch = pick (among fs Field.time_latch) d.time_latch c.time_latch;
  event = record {
    control = pick (among fs Field.control) d.event.control c.event.control;
    closed = pick (among fs Field.closed) d.event.closed c.event.closed;
    missed = pick (among fs Field.missed) d.event.missed c.event.missed;
    latch = pick (among fs Field.event_latch) d.event.latch c.event.latch;
  };
  settings = record {
    mode = pick (among fs Field.mode) d.settings.mode c.settings.mode;
    format = pick (among fs Field.format) d.settings.format c.settings.format;
    modulation = pick (among fs Field.modulation) d.settings.modulation c.settings.modulation;
    clock = pick (among fs Field.clock_source) d.settings.clock c.settings.clock;
    generator = pick (among fs Field.generator) d.settings.generator c.settings.generator;
    offset = pick (among fs Field.offset) d.settings.offset c.settings.offset;
  };
  jam = pick (among fs Field.jam) d.jam c.jam;
  interrupts = record {
    mask = pick (among fs Field.mask) d.interrupts.mask c.interrupts.mask;
    pending = pick (among fs Field.pending) d.interrupts.pending c.interrupts.pending;
    level = pick (among fs Field.level) d.interrupts.level c.interrupts.level;
    vector = pick (among fs Field.vector) d.interrupts.vector c.interrupts.vector;
  };
  done = pick (among fs Field.done) d.done c.done;
}

-- WHAT A CALL MAY TOUCH

-- what a packet sets
abbrev pub packet_touches : Packet → List Field
packet_touches (Packet.A m) = Field.mode ∷ []
packet_touches (Packet.G z) = Field.offset ∷ []
packet_touches (Packet.H f m) = Field.format ∷ Field.modulation ∷ []
packet_touches (Packet.I s) = Field.clock_source ∷ []
packet_touches (Packet.K g) = Field.generator ∷ []

-- ACK: the done bit, by bit 0 or bit 7; by bit 7 the queue, and what an accepted packet sets
unfoldable pub ack_touches : ℕ → Card → List Field
ack_touches v c =
    pick (bit 128 v) (Field.done ∷ Field.queue ∷ pick (eqb (ack_number c) 0) (packet_touches (packet_in (queued c.queue))) [])
    (pick (bit 1 v) (Field.done ∷ [])
    [])

-- CONTROL: itself, and with bit 2 clear whether the latch is closed
abbrev pub control_touches : ℕ → List Field
control_touches v = Field.control ∷ pick (keeps_first v) [] (Field.closed ∷ [])

-- an edge, if it matches: the pending bits, and of a closed latch the count, of an open one the latch, and with bit 2 set whether it is closed
abbrev pub matching_touches : Event → List Field
matching_touches e = Field.pending ∷ pick e.closed (Field.missed ∷ []) (Field.event_latch ∷ pick (keeps_first e.control) (Field.closed ∷ []) [])

abbrev pub edge_touches : Bool → Event → List Field
edge_touches falling e = pick (matching e.control falling) (matching_touches e) []

-- reading and writing a register
unfoldable pub read_touches : ℕ → List Field
read_touches reg = pick (eqb reg 0) (Field.time_latch ∷ []) []

unfoldable pub write_touches : ℕ → ℕ → Card → List Field
write_touches reg v c =
    pick (eqb reg 0) (Field.time_latch ∷ [])
    (pick (eqb reg 11) (control_touches v)
    (pick (eqb reg 12) (ack_touches v c)
    (pick (eqb reg 13) (Field.queue ∷ [])
    (pick (eqb reg 14) (Field.mask ∷ [])
    (pick (eqb reg 15) (Field.pending ∷ [])
    (pick (eqb reg 16) (Field.level ∷ [])
    (pick (eqb reg 17) (Field.vector ∷ [])
    (pick (eqb reg 18) (Field.closed ∷ Field.missed ∷ [])
    []))))))))

-- a call on a card
unfoldable pub touches : Call → Card → List Field
touches (Call.set_time year day hour minute second) c = Field.time ∷ []
touches (Call.read reg) c = read_touches reg
touches (Call.write reg v) c = write_touches reg v c
touches (Call.block row) c = Field.queue ∷ []
touches (Call.edge falling) c = edge_touches falling c.event
touches Call.line c = []
touches (Call.set_strobe s) c = Field.strobe ∷ []
touches (Call.set_periodic d) c = Field.periodic ∷ []
touches (Call.wait n row) c = Field.time ∷ Field.pending ∷ Field.periodic ∷ []
touches Call.reset c =
    Field.clock_source ∷ Field.offset ∷ Field.jam ∷ Field.time_latch ∷ Field.control ∷ Field.closed ∷ Field.missed ∷ Field.event_latch ∷ Field.mask ∷ Field.pending ∷ Field.level ∷ Field.vector ∷ Field.done ∷ Field.queue ∷ Field.strobe ∷ Field.periodic ∷ []
touches (Call.save row) c = []
touches (Call.load bytes) c = Field.mode ∷ Field.format ∷ Field.modulation ∷ Field.clock_source ∷ Field.generator ∷ Field.offset ∷ []
touches (Call.write_frame row) c = []
touches (Call.switch_jam on) c = Field.jam ∷ []

-- THE LATCHES

-- the calls that leave something in the time latch, and in the event latch
pub data LatchesTime : Call → Type 0 where
  reads : LatchesTime (Call.read 0)
  writes : (v : ℕ) → LatchesTime (Call.write 0 v)
  resets : LatchesTime Call.reset

pub data LatchesEvent : Call → Type 0 where
  edges : (falling : Bool) → LatchesEvent (Call.edge falling)
  resets : LatchesEvent Call.reset

-- THE JAM

-- the calls that may leave the jam other than it was
pub data SwitchesJam : Call → Type 0 where
  switches : (on : Bool) → SwitchesJam (Call.switch_jam on)
  resets : SwitchesJam Call.reset

-- PENDING BITS

-- the pending bit of an index
abbrev pub pending_bit : ℕ → Card → Bool
pending_bit i c = bit (2 ^ i) c.interrupts.pending

-- CHAINS

-- the card after a chain of calls
abbrev pub after_all : List Call → Card → Card
after_all [] c = c
after_all (k ∷ ks) c = after_all ks (after k c)

-- a card when bytes were written to FIFO, one by one
abbrev pub fed : Card → List ℕ → Card
fed c [] = c
fed c (b ∷ bs) = fed (Registers.write_register c 13 b).after bs
