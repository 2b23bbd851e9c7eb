-- Chains of calls: those that leave a board, those after a pulse, those before the first, and takings.
use Rattle.std.specs.Prelude.{ℕ, ◌+◌, ◌≡◌, Bool, true, false, ◌&&◌, ◌||◌, not, List, [], ◌∷◌, ◌++◌, Option, None, leb, ltb, eqb, replicate}
use Rattle.wire.specs.Digits.{pick}
use Rattle.wire.specs.Numbers.{given_or}
use Rattle.sync.specs.declared.board.Board.{Board}
use Rattle.sync.specs.Boards.{switches_fit, fresh_board}
use Rattle.sync.specs.Counting.{frequency, count, count_falls}
use Rattle.sync.specs.Stepping.{in_time}
use Rattle.sync.specs.Register.{read_register}
use Rattle.sync.specs.Interrupts.{take_interrupt}
use Rattle.sync.specs.Calls.{Call, after, after_all}

-- THE CALLS THAT LEAVE A BOARD, FROM A FRESH ONE

-- some calls leave it; those that `way` names have arguments that their types can hold
pub record Left (b : Board) : Type 0 where
  pub calls : List Call
  pub leave : after_all calls fresh_board ≡ b

-- so many takings
abbrev pub takings : ℕ → List Call
takings n = replicate n Call.take

-- those that leave just these of SLO and FAST waiting, where both wait
abbrev pub down_to : Bool → Bool → List Call
down_to slo fast = takings (pick slo 0 (pick fast 1 2))

-- an early pulse sets the bit, and all three wait; one in time clears the bit
abbrev pub pulses_to : Bool → List Call
pulses_to bit = Call.step true ∷ Call.step true ∷ pick bit [] (Call.run 991999 ∷ Call.step true ∷ [])

-- until a pulse is missing: pulses, the microseconds since, and takings, ERR before the others
abbrev pub way_within : Board → List Call
way_within b = pulses_to b.bit ++ (Call.run b.elapsed ∷ pick b.err [] (Call.take ∷ down_to b.slo b.fast))

-- from then on: SLO and FAST are taken before ERR is raised
abbrev pub way_late : Board → List Call
way_late b = Call.step true ∷ Call.run 1008000 ∷ (down_to b.slo b.fast ++ (Call.run 1 ∷ pick b.err [] (Call.take ∷ [])))

unfoldable pub way : Board → List Call
way b = Call.set_switches b.rc1 b.base ∷ pick b.seen (pick (ltb b.elapsed 1008001) (way_within b) (way_late b)) []

-- AFTER A PULSE

-- a call that brings no pulse and does not start the board anew: quiet steps, readings, takings, and a setting of the switches that is refused
abbrev pub quiet_call : Call → Bool
quiet_call (Call.set_switches rc1 base) = not (switches_fit rc1 base)
quiet_call (Call.step pulse) = not pulse
quiet_call (Call.run n) = true
quiet_call Call.read = true
quiet_call Call.take = true

abbrev pub quiet_calls : List Call → Bool
quiet_calls [] = true
quiet_calls (k ∷ ks) = quiet_call k && quiet_calls ks

-- the microseconds that pass in it
abbrev pub lasts : Call → ℕ
lasts (Call.set_switches rc1 base) = 0
lasts (Call.step pulse) = 1
lasts (Call.run n) = n
lasts Call.read = 0
lasts Call.take = 0

abbrev pub lasts_all : List Call → ℕ
lasts_all [] = 0
lasts_all (k ∷ ks) = lasts k + lasts_all ks

-- a board d, the microsecond j after a pulse that came to b: the register is what the page says
pub record Since (b : Board) (j : ℕ) (d : Board) : Type 0 where
  pub shows : given_or 0 (read_register d) ≡ pick (not (in_time b) || leb 1008001 j) 0x8000 0 + count (frequency b.rc1) j
  -- the next microsecond raises ERR if it is the 1,008,001st, and FAST if a count falls on it; nothing else
  pub quiet_err : (after (Call.step false) d).err ≡ (d.err || eqb (j + 1) 1008001)
  pub quiet_slo : (after (Call.step false) d).slo ≡ d.slo
  pub quiet_fast : (after (Call.step false) d).fast ≡ (d.fast || count_falls (frequency b.rc1) (j + 1))
  -- a run raises ERR if the 1,008,001st is among its microseconds, and FAST if the count rises over it; nothing else
  pub run_err : (n : ℕ) → (after (Call.run n) d).err ≡ (d.err || (ltb j 1008001 && leb 1008001 (j + n)))
  pub run_slo : (n : ℕ) → (after (Call.run n) d).slo ≡ d.slo
  pub run_fast : (n : ℕ) → (after (Call.run n) d).fast ≡ (d.fast || ltb (count (frequency b.rc1) j) (count (frequency b.rc1) (j + n)))
  -- a pulse on the next microsecond raises ERR if it is early, or on the 1,008,001st; and the bit is clear afterwards exactly if the pulse is in time
  pub pulse_err : (after (Call.step true) d).err ≡ (d.err || (ltb (j + 1) 992000 || eqb (j + 1) 1008001))
  pub pulse_in_time : in_time d ≡ (leb 992000 (j + 1) && leb (j + 1) 1008000)
  pub pulse_bit : (after (Call.step true) d).bit ≡ not (leb 992000 (j + 1) && leb (j + 1) 1008000)

-- what a pulse leaves of a board: its switches, SLO and FAST waiting, and a new gap
abbrev pub pulsed_board : Board → Bool → Bool → Board
pulsed_board b bit err = record { rc1 = b.rc1; base = b.base; seen = true; elapsed = 0; bit = bit; err = err; slo = true; fast = true }

-- BEFORE THE FIRST PULSE

abbrev pub pulse : Call → Bool
pulse (Call.set_switches rc1 base) = false
pulse (Call.step p) = p
pulse (Call.run n) = false
pulse Call.read = false
pulse Call.take = false

-- calls without a pulse among them
abbrev pub pulseless : List Call → Bool
pulseless [] = true
pulseless (k ∷ ks) = not (pulse k) && pulseless ks

-- the register is 0x8000, and nothing waits
pub record Before (d : Board) : Type 0 where
  pub shows : given_or 0 (read_register d) ≡ 0x8000
  pub waits : given_or None (take_interrupt d).outcome ≡ None

-- A TAKING

-- what it gives, and the board that it leaves
abbrev pub Gives : Board → Option ℕ → Board → Type 0
Gives b i d = (given_or None (take_interrupt b).outcome ≡ i) × (after Call.take b ≡ d)
