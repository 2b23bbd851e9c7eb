-- Steps of 1 µs, each with or without a pulse.
use Rattle.std.specs.Prelude.{ℕ, zero, suc, ◌+◌, Bool, false, ◌&&◌, ◌||◌, not, List, [], ◌∷◌, leb, ltb, eqb}
use Rattle.wire.specs.Digits.{pick}
use Rattle.wire.specs.declared.numbers.Answer.{Answer}
use Rattle.wire.specs.Numbers.{Line, ◌if◌, granted}
use Rattle.sync.specs.declared.board.Board.{Board}
use Rattle.sync.specs.Counting.{frequency, count_falls}
use Rattle.sync.specs.Lawful.{lawful}

-- THE MICROSECOND THAT A STEP ENDS ON, COUNTED FROM THE LAST PULSE

abbrev pub reached : Board → ℕ
reached b = b.elapsed + 1

-- microseconds are held at 1,008,001
unfoldable pub held : ℕ → ℕ
held m = pick (ltb m 1008001) m 1008001

-- a pulse is in time from 992,000 to 1,008,000 µs after the one before, and the first one ever is in time
unfoldable pub in_time : Board → Bool
in_time b = not b.seen || (leb 992000 (reached b) && leb (reached b) 1008000)

-- an earlier one is out of time at once; with none by 1,008,000 the error is raised on the next microsecond, and the late pulse after it raises no second one
unfoldable pub errs : Board → Bool → Bool
errs b pulse = b.seen && ((pulse && ltb (reached b) 992000) || eqb (reached b) 1008001)

-- a count step
unfoldable pub counts : Board → Bool
counts b = b.seen && count_falls (frequency b.rc1) (reached b)

-- A STEP

-- each pulse restarts the count, a step due then falling away, and raises SLO; an error raises ERR and sets the bit; an in-time pulse clears the bit; each count step and
-- each pulse raises FAST
unfoldable pub stepped : Board → Bool → Board
stepped b pulse =
    record {
      rc1 = b.rc1;
      base = b.base;
      seen = b.seen || pulse;
      elapsed = pick pulse 0 (pick b.seen (held (reached b)) b.elapsed);
      bit = pick (pulse && in_time b) false (b.bit || errs b pulse);
      err = b.err || errs b pulse;
      slo = b.slo || pulse;
      fast = b.fast || (pulse || counts b);
    }

-- n steps without a pulse
unfoldable pub quiet_steps : ℕ → Board → Board
quiet_steps zero b = b
quiet_steps (suc n) b = stepped (quiet_steps n b) false

-- THE CALLS

abbrev pub step_lines : Board → List Line
step_lines b = 18 if not (lawful b) ∷ []

abbrev pub step : Board → Bool → Answer Board Unit
step b pulse = granted (step_lines b) b (stepped b pulse) tt

abbrev pub run : Board → ℕ → Answer Board Unit
run b n = granted (step_lines b) b (quiet_steps n b) tt
