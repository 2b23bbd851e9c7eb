-- All calls that take a board (`is_lawful` tells and changes nothing): the board afterwards, the number and the values given back, the table of each, and, in this one
-- place, the fields that each may touch.
use Rattle.std.specs.Prelude.{ℕ, Bool, true, false, ◌||◌, List, [], ◌∷◌, Option, Some, None, eqb}
use Rattle.wire.specs.Digits.{pick}
use Rattle.wire.specs.Numbers.{Line, number_of, given_or}
use Rattle.sync.specs.declared.board.Board.{Board}
use Rattle.sync.specs.Switches
use Rattle.sync.specs.Stepping
use Rattle.sync.specs.Register
use Rattle.sync.specs.Interrupts

-- a call with its arguments
pub data Call : Type 0 where
  set_switches : (rc1 base : ℕ) → Call
  step : (pulse : Bool) → Call
  run : (n : ℕ) → Call
  read : Call
  take : Call

-- the board afterwards; reading does not give it back
abbrev pub after : Call → Board → Board
after (Call.set_switches rc1 base) b = (Switches.set_switches b rc1 base).after
after (Call.step pulse) b = (Stepping.step b pulse).after
after (Call.run n) b = (Stepping.run b n).after
after Call.read b = b
after Call.take b = (Interrupts.take_interrupt b).after

-- the number given back
abbrev pub number : Call → Board → ℕ
number (Call.set_switches rc1 base) b = number_of (Switches.set_switches b rc1 base).outcome
number (Call.step pulse) b = number_of (Stepping.step b pulse).outcome
number (Call.run n) b = number_of (Stepping.run b n).outcome
number Call.read b = number_of (Register.read_register b)
number Call.take b = number_of (Interrupts.take_interrupt b).outcome

-- the answer of a taking as values: the vector, or none
abbrev pub vectors : Option ℕ → List ℕ
vectors (Some v) = v ∷ []
vectors None = []

-- the values given back beside board and number
abbrev pub values : Call → Board → List ℕ
values (Call.set_switches rc1 base) b = []
values (Call.step pulse) b = []
values (Call.run n) b = []
values Call.read b = given_or 0 (Register.read_register b) ∷ []
values Call.take b = vectors (given_or None (Interrupts.take_interrupt b).outcome)

-- REFUSALS

-- the lines of a call, in the page's order: its number is given exactly if that line holds and no line above it does, and 0 if none holds
abbrev pub lines : Call → Board → List Line
lines (Call.set_switches rc1 base) b = Switches.switch_lines b rc1 base
lines (Call.step pulse) b = Stepping.step_lines b
lines (Call.run n) b = Stepping.step_lines b
lines Call.read b = Register.read_lines b
lines Call.take b = Interrupts.take_lines b

-- the values beside a refusal: 0, and no vector
abbrev pub beside : Call → List ℕ
beside (Call.set_switches rc1 base) = []
beside (Call.step pulse) = []
beside (Call.run n) = []
beside Call.read = 0 ∷ []
beside Call.take = []

-- FIELDS

pub data Field : Type 0 where
  rc1 base seen elapsed bit err slo fast : Field

-- what stands in a field; a set one counts 1
abbrev pub at : Field → Board → ℕ
at Field.rc1 b = b.rc1
at Field.base b = b.base
at Field.seen b = pick b.seen 1 0
at Field.elapsed b = b.elapsed
at Field.bit b = pick b.bit 1 0
at Field.err b = pick b.err 1 0
at Field.slo b = pick b.slo 1 0
at Field.fast b = pick b.fast 1 0

-- fields are told apart by their place in the board
abbrev place : Field → ℕ
place Field.rc1 = 0
place Field.base = 1
place Field.seen = 2
place Field.elapsed = 3
place Field.bit = 4
place Field.err = 5
place Field.slo = 6
place Field.fast = 7

abbrev pub among : List Field → Field → Bool
among [] f = false
among (g ∷ gs) f = eqb (place f) (place g) || among gs f

-- what a call may touch
abbrev pub touches : Call → List Field
touches (Call.set_switches r v) = Field.rc1 ∷ Field.base ∷ Field.seen ∷ Field.elapsed ∷ Field.bit ∷ Field.err ∷ Field.slo ∷ Field.fast ∷ []
touches (Call.step true) = Field.seen ∷ Field.elapsed ∷ Field.bit ∷ Field.err ∷ Field.slo ∷ Field.fast ∷ []
touches (Call.step false) = Field.elapsed ∷ Field.bit ∷ Field.err ∷ Field.fast ∷ []
touches (Call.run n) = Field.elapsed ∷ Field.bit ∷ Field.err ∷ Field.fast ∷ []
touches Call.read = []
touches Call.take = Field.err ∷ Field.slo ∷ Field.fast ∷ []

-- CHAINS

-- the board after a chain of calls
abbrev pub after_all : List Call → Board → Board
after_all [] b = b
after_all (k ∷ ks) b = after_all ks (after k b)
