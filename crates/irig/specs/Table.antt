-- The frame of IRIG B in the DC level form, by IRIG Standard 200: a hundred elements, each 0, 1 or 2 (a marker). One table says what each of them is, and writing and
-- reading are both defined from it.
use Rattle.std.specs.Prelude.{ℕ, zero, suc, ◌+◌, ◌*◌, ◌/◌, ◌%◌, ◌^◌, Bool, true, ◌&&◌, List, [], ◌∷◌, get_or}

-- the decimal digits of a time, and the straight binary seconds of the day
pub data Field : Type 0 where
  second_units second_tens minute_units minute_tens hour_units hour_tens day_units day_tens day_hundreds binary_seconds : Field

-- each has a number, by which they are told apart
unfoldable pub field_number : Field → ℕ
field_number Field.second_units = 0
field_number Field.second_tens = 1
field_number Field.minute_units = 2
field_number Field.minute_tens = 3
field_number Field.hour_units = 4
field_number Field.hour_tens = 5
field_number Field.day_units = 6
field_number Field.day_tens = 7
field_number Field.day_hundreds = 8
field_number Field.binary_seconds = 9

-- what an element is: a marker, spare, or a bit of a field, bit 0 being the lowest
pub data Element : Type 0 where
  marker spare : Element
  bit : (f : Field) (i : ℕ) → Element

-- short names for the table alone

abbrev M : Element
M = Element.marker

abbrev o : Element
o = Element.spare

abbrev s1 : ℕ → Element
s1 = Element.bit Field.second_units

abbrev s10 : ℕ → Element
s10 = Element.bit Field.second_tens

abbrev m1 : ℕ → Element
m1 = Element.bit Field.minute_units

abbrev m10 : ℕ → Element
m10 = Element.bit Field.minute_tens

abbrev h1 : ℕ → Element
h1 = Element.bit Field.hour_units

abbrev h10 : ℕ → Element
h10 = Element.bit Field.hour_tens

abbrev d1 : ℕ → Element
d1 = Element.bit Field.day_units

abbrev d10 : ℕ → Element
d10 = Element.bit Field.day_tens

abbrev d100 : ℕ → Element
d100 = Element.bit Field.day_hundreds

abbrev b : ℕ → Element
b = Element.bit Field.binary_seconds

-- the hundred elements, ten to a line
unfoldable pub table : List Element
table =
    M ∷ s1 0 ∷ s1 1 ∷ s1 2 ∷ s1 3 ∷ o ∷ s10 0 ∷ s10 1 ∷ s10 2 ∷ M
    ∷ m1 0 ∷ m1 1 ∷ m1 2 ∷ m1 3 ∷ o ∷ m10 0 ∷ m10 1 ∷ m10 2 ∷ o ∷ M
    ∷ h1 0 ∷ h1 1 ∷ h1 2 ∷ h1 3 ∷ o ∷ h10 0 ∷ h10 1 ∷ o ∷ o ∷ M
    ∷ d1 0 ∷ d1 1 ∷ d1 2 ∷ d1 3 ∷ o ∷ d10 0 ∷ d10 1 ∷ d10 2 ∷ d10 3 ∷ M
    ∷ d100 0 ∷ d100 1 ∷ o ∷ o ∷ o ∷ o ∷ o ∷ o ∷ o ∷ M
    ∷ o ∷ o ∷ o ∷ o ∷ o ∷ o ∷ o ∷ o ∷ o ∷ M
    ∷ o ∷ o ∷ o ∷ o ∷ o ∷ o ∷ o ∷ o ∷ o ∷ M
    ∷ o ∷ o ∷ o ∷ o ∷ o ∷ o ∷ o ∷ o ∷ o ∷ M
    ∷ b 0 ∷ b 1 ∷ b 2 ∷ b 3 ∷ b 4 ∷ b 5 ∷ b 6 ∷ b 7 ∷ b 8 ∷ M
    ∷ b 9 ∷ b 10 ∷ b 11 ∷ b 12 ∷ b 13 ∷ b 14 ∷ b 15 ∷ b 16 ∷ o ∷ M
    ∷ []

-- the element at a place
unfoldable pub at : ℕ → Element
at j = get_or table j Element.spare

-- digit i of n in base r, the lowest being digit 0: a decimal digit, or a bit
unfoldable pub digit_of : ℕ → ℕ → ℕ → ℕ
digit_of r i n = n / r ^ i % r

-- what the first n places add up to
unfoldable pub sum_to : ℕ → (ℕ → ℕ) → ℕ
sum_to zero value = 0
sum_to (suc n) value = sum_to n value + value n

-- each of the first n places passes a test
unfoldable pub all_to : ℕ → (ℕ → Bool) → Bool
all_to zero test = true
all_to (suc n) test = all_to n test && test n

-- WITHIN THE CRATE

-- Both ways go by one number of 64 bits. It holds the nine digits as time words do, four bits to a digit, above them the binary seconds, and above those what the spare
-- elements add up to. By how many bits the lowest bit of a field is shifted there, and how many bits it has.

unfoldable pub field_shift : Field → ℕ
field_shift f = field_number f * 4

unfoldable pub width : Field → ℕ
width Field.second_units = 4
width Field.second_tens = 3
width Field.minute_units = 4
width Field.minute_tens = 3
width Field.hour_units = 4
width Field.hour_tens = 2
width Field.day_units = 4
width Field.day_tens = 4
width Field.day_hundreds = 2
width Field.binary_seconds = 17

-- and by how many an element is shifted; a marker does not stand there, which is written 64
unfoldable pub shift_of : Element → ℕ
shift_of Element.marker = 64
shift_of Element.spare = 53
shift_of (Element.bit f i) = field_shift f + i
