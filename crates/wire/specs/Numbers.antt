-- Numbers given back. A table of refusals is a list of lines in the page's order, each with its number and whether it holds. A number is given
-- exactly if its line holds and no line above it does; 0, done, if none does. `proofs/numbers/Laws.antt` has that as a law of every table.
use Rattle.std.specs.Prelude.{ℕ, Bool, true, ◌&&◌, not, eqb, List, [], ◌∷◌, Result, Ok, Err}
use Rattle.wire.specs.Digits.{pick}
use Rattle.wire.specs.declared.numbers.Refusal.{Refusal}
use Rattle.wire.specs.declared.numbers.Answer.{Answer}

-- a line of a table: its number, and whether it holds
pub record Line : Type 0 where
  pub number : ℕ
  pub holds : Bool

infix 90 ◌if◌
abbrev pub ◌if◌ : ℕ → Bool → Line
n if t = record { number = n; holds = t }

-- the number that a table gives
abbrev pub given : List Line → ℕ
given [] = 0
given (l ∷ ls) = pick l.holds l.number (given ls)

-- no line holds
abbrev pub quiet : List Line → Bool
quiet [] = true
quiet (l ∷ ls) = not l.holds && quiet ls

-- no line has the number n
abbrev pub absent : ℕ → List Line → Bool
absent n [] = true
absent n (l ∷ ls) = not (eqb l.number n) && absent n ls

-- REFUSALS BY NAME

-- the number of each
abbrev pub number : Refusal → ℕ
number Refusal.NoRegister = 1
number Refusal.WrongDirection = 2
number Refusal.QueueFull = 3
number Refusal.NoStart = 4
number Refusal.TooLong = 5
number Refusal.NoEnd = 6
number Refusal.UnknownId = 7
number Refusal.WrongLength = 8
number Refusal.WrongByte = 9
number Refusal.NoMeaning = 10
number Refusal.OutsideTime = 11
number Refusal.OutsideDivider = 12
number Refusal.OutsideStrobe = 13
number Refusal.ShortRow = 14
number Refusal.OverADay = 15
number Refusal.Past9999 = 16
number Refusal.BadDigit = 17
number Refusal.Unlawful = 18
number Refusal.NotSaved = 19
number Refusal.OutsideSwitch = 20
number Refusal.OutsidePeriod = 21
number Refusal.WrongMarker = 22
number Refusal.SpareSet = 23
number Refusal.SecondsDiffer = 24
number Refusal.JamOn = 25

-- and the refusal of a number, 1 to 25
unfoldable pub refusal : ℕ → Refusal
refusal n =
    pick (eqb n 1) Refusal.NoRegister
    (pick (eqb n 2) Refusal.WrongDirection
    (pick (eqb n 3) Refusal.QueueFull
    (pick (eqb n 4) Refusal.NoStart
    (pick (eqb n 5) Refusal.TooLong
    (pick (eqb n 6) Refusal.NoEnd
    (pick (eqb n 7) Refusal.UnknownId
    (pick (eqb n 8) Refusal.WrongLength
    (pick (eqb n 9) Refusal.WrongByte
    (pick (eqb n 10) Refusal.NoMeaning
    (pick (eqb n 11) Refusal.OutsideTime
    (pick (eqb n 12) Refusal.OutsideDivider
    (pick (eqb n 13) Refusal.OutsideStrobe
    (pick (eqb n 14) Refusal.ShortRow
    (pick (eqb n 15) Refusal.OverADay
    (pick (eqb n 16) Refusal.Past9999
    (pick (eqb n 17) Refusal.BadDigit
    (pick (eqb n 18) Refusal.Unlawful
    (pick (eqb n 19) Refusal.NotSaved
    (pick (eqb n 20) Refusal.OutsideSwitch
    (pick (eqb n 21) Refusal.OutsidePeriod
    (pick (eqb n 22) Refusal.WrongMarker
    (pick (eqb n 23) Refusal.SpareSet
    (pick (eqb n 24) Refusal.SecondsDiffer
    Refusal.JamOn)))))))))))))))))))))))

-- what a call comes to by its number: done, with what it gives, or refused
abbrev pub answered : {A : Type 0} → ℕ → A → Result A Refusal
answered n a = pick (eqb n 0) (Ok a) (Err (refusal n))

-- the number of what it comes to
abbrev pub number_of : {A : Type 0} → Result A Refusal → ℕ
number_of (Ok a) = 0
number_of (Err r) = number r

-- what it gives, or this beside a refusal
abbrev pub given_or : {A : Type 0} → A → Result A Refusal → A
given_or z (Ok a) = a
given_or z (Err r) = z

-- what a call with these lines answers: if none of them holds, what it changes and what it gives; else what was there before, and the refusal
abbrev pub granted : {S T : Type 0} → List Line → S → S → T → Answer S T
granted ls before after t = record { after = pick (eqb (given ls) 0) after before; outcome = answered (given ls) t }
