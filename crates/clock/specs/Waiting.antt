-- Waiting: the records of a window, from the falling rules alone, and the clock when its ticks have passed.
use Rattle.std.specs.Prelude.{ℕ, zero, suc, pred, ◌+◌, ◌*◌, ◌/◌, ◌%◌, ◌<◌, ◌≡◌, Bool, false, not, ◌||◌, List, [], ◌∷◌, ◌++◌, map, length, take, drop, get_or, leb, ltb, eqb}
use Rattle.wire.specs.Digits.{pick}
use Rattle.wire.specs.declared.numbers.Answer.{Answer}
use Rattle.wire.specs.Numbers.{Line, ◌if◌, given, granted}
use Rattle.wire.specs.Time.{ticks_of_day}
use Rattle.clock.specs.declared.clock.Periodic.{Periodic}
use Rattle.clock.specs.declared.clock.Clock.{Clock}
use Rattle.clock.specs.declared.waiting.Fell.{Fell}
use Rattle.clock.specs.declared.waiting.Passed.{Passed}
use Rattle.clock.specs.Time.{later}
use Rattle.clock.specs.Falling.{falls}
use Rattle.clock.specs.Clocks.{clock_lawful}

-- THE LIST

-- the record of the k-th tick from the wait's start, if anything falls on it
unfoldable pub record_of : ℕ → ℕ → List ℕ
record_of k zero = []
record_of k (suc s) = (8 * k + suc s) ∷ []

-- the records of the ticks 1 to n, rising
unfoldable pub records : Clock → ℕ → List ℕ
records c zero = []
records c (suc n) = records c n ++ record_of (suc n) (falls c (suc n))

-- as many of them as there is room for, from the front
unfoldable pub listed : Clock → ℕ → ℕ → List ℕ
listed c n room = take room (records c n)

-- the ticks passed: all, but those up to the last record listed if there are more records than places
unfoldable pub passed : Clock → ℕ → ℕ → ℕ
passed c n room = pick (leb (length (records c n)) room) n (get_or (records c n) (pred room) 0 / 8)

-- records fill the row from its front; later places stay
abbrev pub row_listed : Clock → ℕ → List ℕ → List ℕ
row_listed c n row = listed c n (length row) ++ drop (length (listed c n (length row))) row

-- records of a wait that began p ticks after another, counted from the start of that one
abbrev pub moved_on : ℕ → List ℕ → List ℕ
moved_on p = map (λ (r : ℕ). 8 * p + r)

-- a record stands in a list
pub record Stands (r : ℕ) (rs : List ℕ) : Type 0 where
  pub place : ℕ
  pub within : place < length rs
  pub found : get_or rs place 0 ≡ r

-- some record has the source s, which is 1, 2 or 4
unfoldable pub source_listed : ℕ → List ℕ → Bool
source_listed s [] = false
source_listed s (r ∷ rs) = eqb (r / s % 2) 1 || source_listed s rs

-- the sources that records have
abbrev pub fell : List ℕ → Fell
fell rs = record { periodic = source_listed 1 rs; strobe = source_listed 2 rs; second = source_listed 4 rs }

-- THE CLOCK AFTERWARDS

-- the count p ticks later
unfoldable pub count_later : ℕ → Periodic → Periodic
count_later p Periodic.Off = Periodic.Off
count_later p (Periodic.Every n1 n2 count) = Periodic.Every n1 n2 ((count + p) % (n1 * n2))

-- the clock p ticks later: time and count move, and the strobe stays
unfoldable pub clock_later : ℕ → Clock → Clock
clock_later p c = record { time = later p c.time; strobe = c.strobe; periodic = count_later p c.periodic }

-- A WAIT

-- 15 above a day, 14 no places, 16 past the last tick of year 9999
abbrev pub wait_lines : Clock → ℕ → ℕ → List Line
wait_lines c n room =
    15 if ltb ticks_of_day n
    ∷ 14 if eqb room 0
    ∷ 16 if ltb 9999 (later n c.time).year
    ∷ []

-- and 18 first
unfoldable pub pass_refusal : Clock → ℕ → ℕ → ℕ
pass_refusal c n room = given (18 if not (clock_lawful c) ∷ wait_lines c n room)

-- what it gives: the ticks passed, the records written, and the sources that they have
unfoldable pub listing : Clock → ℕ → ℕ → Passed
listing c n room = record { passed = record { ticks = passed c n room }; written = length (listed c n room); fell = fell (listed c n room) }

-- and beside a refusal: zeros and none
abbrev pub nothing : Passed
nothing = record { passed = record { ticks = 0 }; written = 0; fell = fell [] }

-- what a wait of n ticks with so many places answers
unfoldable pub pass : Clock → ℕ → ℕ → Answer Clock Passed
pass c n room = granted (18 if not (clock_lawful c) ∷ wait_lines c n room) c (clock_later (passed c n room) c) (listing c n room)

-- and what it leaves in the row
unfoldable pub row_passed : Clock → ℕ → List ℕ → List ℕ
row_passed c n row = pick (eqb (pass_refusal c n (length row)) 0) (row_listed c n row) row
