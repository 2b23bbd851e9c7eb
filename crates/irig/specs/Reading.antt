-- Reading a frame: the first hundred elements of a row as a day and a tick of day. What stands behind them is not looked at.
use Rattle.std.specs.Prelude.{ℕ, ◌+◌, ◌*◌, ◌/◌, ◌%◌, ◌^◌, Bool, true, not, List, [], ◌∷◌, length, get_or, replicate, ltb, eqb, Result, Option, Some, None}
use Rattle.wire.specs.Digits.{pick}
use Rattle.wire.specs.Numbers.{Line, ◌if◌, given, answered, given_or}
use Rattle.wire.specs.declared.numbers.Refusal.{Refusal}
use Rattle.wire.specs.Time.{whole_seconds}
use Rattle.wire.specs.Words.{decimal, in_range, day_in, hour_in, minute_in, second_in, tick_in, moment}
use Rattle.wire.specs.declared.words.Moment.{Moment}
use Rattle.irig.specs.Table.{Field, Element, field_number, at, sum_to, all_to, field_shift}

-- a marker where the table has one, and 0 or 1 everywhere else
unfoldable pub fits : Element → ℕ → Bool
fits Element.marker e = eqb e 2
fits Element.spare e = ltb e 2
fits (Element.bit f i) e = ltb e 2

unfoldable pub all_fit : List ℕ → Bool
all_fit row = all_to 100 (λ (j : ℕ). fits (at j) (get_or row j 0))

-- a spare element is 0
unfoldable pub clear : Element → ℕ → Bool
clear Element.marker e = true
clear Element.spare e = eqb e 0
clear (Element.bit f i) e = true

unfoldable pub spares_clear : List ℕ → Bool
spares_clear row = all_to 100 (λ (j : ℕ). clear (at j) (get_or row j 0))

-- fields are told apart by their number
abbrev pub same : Field → Field → Bool
same f g = eqb (field_number f) (field_number g)

-- what an element adds to a field: bit i of it counts 2 to the power i
unfoldable pub share : Field → Element → ℕ → ℕ
share f Element.marker e = 0
share f Element.spare e = 0
share f (Element.bit g i) e = pick (same f g) (e * 2 ^ i) 0

-- a field of a frame
unfoldable pub field_in : List ℕ → Field → ℕ
field_in row f = sum_to 100 (λ (j : ℕ). share f (at j) (get_or row j 0))

-- decimal digits as time words have them, with no fraction
unfoldable pub digits_of : (Field → ℕ) → List ℕ
digits_of fields =
    0 ∷ 0 ∷ 0 ∷ fields Field.day_hundreds ∷ fields Field.day_tens ∷ fields Field.day_units ∷ fields Field.hour_tens ∷ fields Field.hour_units
    ∷ fields Field.minute_tens ∷ fields Field.minute_units ∷ fields Field.second_tens ∷ fields Field.second_units ∷ replicate 8 0

-- those of a frame
abbrev pub digits_in : List ℕ → List ℕ
digits_in row = digits_of (field_in row)

-- the ranges of time words
abbrev pub digits_in_range : List ℕ → Bool
digits_in_range ds = in_range (day_in ds) (hour_in ds) (minute_in ds) (second_in ds)

-- THE CALL

abbrev pub read_lines : List ℕ → List Line
read_lines row =
    14 if ltb (length row) 100
    ∷ 22 if not (all_fit row)
    ∷ 23 if not (spares_clear row)
    ∷ 17 if not (decimal (digits_in row))
    ∷ 11 if not (digits_in_range (digits_in row))
    ∷ 24 if not (eqb (field_in row Field.binary_seconds) (whole_seconds (tick_in (digits_in row))))
    ∷ []

unfoldable pub read_refusal : List ℕ → ℕ
read_refusal row = given (read_lines row)

-- day and tick of day, fraction 0
unfoldable pub read_frame : List ℕ → Result Moment Refusal
read_frame row = answered (read_refusal row) (moment (day_in (digits_in row)) (tick_in (digits_in row)))

-- the day and the tick that stand beside its number: day 0 and tick 0 beside a refusal
abbrev pub frame_moment : List ℕ → Moment
frame_moment row = given_or (moment 0 0) (read_frame row)

-- WITHIN THE CRATE

-- what an element adds to the number by which a frame is read
unfoldable pub weighed : Element → ℕ → ℕ
weighed Element.marker e = 0
weighed Element.spare e = e * 2 ^ 53
weighed (Element.bit f i) e = e * 2 ^ (field_shift f + i)

unfoldable pub weighed_to : List ℕ → ℕ → ℕ
weighed_to row n = sum_to n (λ (j : ℕ). weighed (at j) (get_or row j 0))

-- one pass over the elements: the number, if all fit
unfoldable pub scanned : List ℕ → Option ℕ
scanned row = pick (all_fit row) (Some (weighed_to row 100)) None

-- the words of the digits that such a number holds
unfoldable pub words_in : ℕ → List ℕ
words_in n = n / 2 ^ 32 % 16 ∷ n / 2 ^ 16 % 65536 ∷ n % 65536 ∷ 0 ∷ 0 ∷ []
