-- Writing a frame: a card's time, without its fraction, as a hundred elements at the front of a lent row.
use Rattle.std.specs.Prelude.{ℕ, ◌/◌, ◌%◌, ◌^◌, ◌<◌, ◌≡◌, not, List, [], ◌∷◌, ◌++◌, map, length, drop, ltb, eqb}
use Rattle.wire.specs.Digits.{pick}
use Rattle.wire.specs.Numbers.{Line, ◌if◌, given}
use Rattle.wire.specs.Time.{hour_of, minute_of, second_of, whole_seconds}
use Rattle.card.specs.declared.card.Card.{Card}
use Rattle.card.specs.Lawful.{lawful}
use Rattle.irig.specs.Table.{Field, Element, table, digit_of, field_shift, width}

-- the fields of a time
unfoldable pub field_of : ℕ → ℕ → Field → ℕ
field_of day tick Field.second_units = digit_of 10 0 (second_of tick)
field_of day tick Field.second_tens = digit_of 10 1 (second_of tick)
field_of day tick Field.minute_units = digit_of 10 0 (minute_of tick)
field_of day tick Field.minute_tens = digit_of 10 1 (minute_of tick)
field_of day tick Field.hour_units = digit_of 10 0 (hour_of tick)
field_of day tick Field.hour_tens = digit_of 10 1 (hour_of tick)
field_of day tick Field.day_units = digit_of 10 0 day
field_of day tick Field.day_tens = digit_of 10 1 day
field_of day tick Field.day_hundreds = digit_of 10 2 day
field_of day tick Field.binary_seconds = whole_seconds tick

-- what is written for an element, given the fields
unfoldable pub element_of : (Field → ℕ) → Element → ℕ
element_of fields Element.marker = 2
element_of fields Element.spare = 0
element_of fields (Element.bit f i) = digit_of 2 i (fields f)

-- the frame of a time
unfoldable pub frame_of : ℕ → ℕ → List ℕ
frame_of day tick = map (element_of (field_of day tick)) table

-- THE CALL

-- 18, then 14
abbrev pub write_lines : Card → ℕ → List Line
write_lines c room = 18 if not (lawful c) ∷ 14 if ltb room 100 ∷ []

unfoldable pub write_refusal : Card → ℕ → ℕ
write_refusal c room = given (write_lines c room)

-- the row afterwards: the frame in front, the rest as it was; all of it as it was beside a refusal
unfoldable pub row_written : Card → List ℕ → List ℕ
row_written c row = pick (eqb (write_refusal c (length row)) 0) (frame_of c.clock.time.day c.clock.time.tick.ticks ++ drop 100 row) row

-- WITHIN THE CRATE

-- a number that holds the fields, each by its shift, and nothing above them
pub record Holds (n : ℕ) (fields : Field → ℕ) : Type 0 where
  pub each : (f : Field) → n / 2 ^ field_shift f % 2 ^ width f ≡ fields f
  pub small : n < 2 ^ 53

-- what such a number has for an element, by its shift
unfoldable pub element_at : ℕ → ℕ → ℕ
element_at n shift = pick (eqb shift 64) 2 (digit_of 2 shift n)
