-- Frames, there and back. A frame that was written for a time reads as its day and its tick without the fraction; a row that reads begins with the frame that is written for
-- what it reads as. So nothing readable has a second spelling. By the laws of the table and of time words.
-- Assumes nothing.
use Prim.Native.Nat.{ℕ, ◌/◌, ◌%◌, ◌^◌, ◌≤◌, ◌<◌}
use mathlib.Core.Path.{◌≡◌, refl, sym, ◌∙◌, ap, ap₂}
use mathlib.Core.Bool.{true, not}
use mathlib.Core.List.{List, [], ◌++◌, map}
use native.Mathlib.Nat.{mod-lt}
use native.Mathlib.Omega.{arith}
use lib.Dec.{ltb, eqb, lit<}
use lib.ListN.{length, get_or, take, drop, length-append, take-append-drop, get_or-append}
use lib.Seq.{ext_get_or, get_or-take, length-take-le, take_at}
use borrow.Author.Tests.{ltb-false, eqb-true, lt-ltb, le-ltb, eq-eqb, not-false}
use Rattle.wire.specs.Digits.{digits}
use Rattle.wire.specs.Time.{whole_seconds, without_fraction}
use Rattle.wire.specs.Words.{time_digits, writable, decimal, day_in, tick_in, moment}
use Rattle.std.specs.Prelude.{Ok}
use Rattle.wire.specs.Numbers.{answered, number_of}
use Rattle.wire.specs.declared.words.Moment.{Moment}
use Rattle.wire.proofs.numbers.Laws.{given_zero, quiet_first}
use Rattle.wire.proofs.time.Laws.{hour_whole, minute_whole, second_whole, fraction_whole}
use Rattle.wire.proofs.words.Laws.{in_ranges, writable_day, writable_tick, time_digits_lem}
use Rattle.wire.proofs.words.RoundTrip.{digits_decimal, digits_in_range_lem, day_back, tick_back, digits_again, again_writable}
use Rattle.card.specs.declared.card.Card.{Card}
use Rattle.card.specs.Lawful.{lawful}
use Rattle.irig.specs.Table.{Field, Element, table, at, digit_of}
use Rattle.irig.specs.Writing.{field_of, element_of, frame_of, write_refusal, row_written}
use Rattle.irig.specs.Reading.{fits, all_fit, clear, spares_clear, field_in, digits_of, digits_in, digits_in_range, read_lines, read_refusal, read_frame}
use Rattle.irig.proofs.table.Laws.{all_at, all_of, at_place, hundred_of, field_of_lem, fit_at, bit_back}
use Rattle.irig.proofs.Numbers.{read_number_lem}
use Rattle.irig.proofs.reading.Hundred.{digits_alike}
use Rattle.irig.proofs.reading.Laws.{no_fraction}
use Rattle.irig.proofs.writing.Laws.{plain, field_is, field_within, time_writable}

-- A FRAME AND ITS ELEMENTS

pub frame_hundred : (day tick : ℕ) → length (frame_of day tick) ≡ 100
unfolding frame_of
frame_hundred day tick = hundred_of (element_of (field_of day tick))

frame_at : (day tick : ℕ) (rest : List ℕ) (j : ℕ) → j < 100 → get_or (frame_of day tick ++ rest) j 0 ≡ element_of (field_of day tick) (at j)
unfolding frame_of
frame_at day tick rest j l =
    get_or-append (map (element_of (field_of day tick)) table) rest 0 j (rw (hundred_of (element_of (field_of day tick))) l) ∙ at_place (element_of (field_of day tick)) j l

element_fits : (v : Field → ℕ) (t : Element) → fits t (element_of v t) ≡ true
unfolding fits element_of digit_of
element_fits v Element.marker = refl
element_fits v Element.spare = refl
element_fits v (Element.bit f i) = lt-ltb (v f / 2 ^ i % 2) 2 (mod-lt (v f / 2 ^ i) (lit< tt))

element_clear : (v : Field → ℕ) (t : Element) → clear t (element_of v t) ≡ true
unfolding clear element_of
element_clear v Element.marker = refl
element_clear v Element.spare = refl
element_clear v (Element.bit f i) = refl

-- the digits of a time without its fraction
plain_digits : (day tick : ℕ) → digits_of (plain day tick) ≡ time_digits day (without_fraction tick)
unfolding digits_of digits
plain_digits day tick = cc (hour_whole tick, minute_whole tick, second_whole tick, fraction_whole tick, time_digits_lem day (without_fraction tick))

-- WRITTEN, THEN READ

module _ (day tick : ℕ) (w : writable day tick ≡ true) (rest : List ℕ) where
  abbrev row : List ℕ
  row = frame_of day tick ++ rest

  abbrev v : Field → ℕ
  v = field_of day tick

  long : 100 ≤ length row
  long = rw (length-append (frame_of day tick) rest, frame_hundred day tick) (omega arith)

  all_fit_lem : all_fit row ≡ true
  unfolding all_fit
  all_fit_lem = all_of 100 (λ (j : ℕ). fits (at j) (get_or row j 0)) (λ j l. ap (fits (at j)) (frame_at day tick rest j l) ∙ element_fits v (at j))

  all_clear : spares_clear row ≡ true
  unfolding spares_clear
  all_clear = all_of 100 (λ (j : ℕ). clear (at j) (get_or row j 0)) (λ j l. ap (clear (at j)) (frame_at day tick rest j l) ∙ element_clear v (at j))

  field_back : (f : Field) → field_in row f ≡ plain day tick f
  field_back f = field_of_lem row v (frame_at day tick rest) f (field_within day tick w f) ∙ sym (field_is day tick f)

  whole_writable : writable day (without_fraction tick) ≡ true
  whole_writable = let d = writable_day day tick w in let t = writable_tick day tick w in in_ranges day (without_fraction tick) d.0 d.1 (omega arith)

  -- its digits are those of the time without the fraction
  digits_back : digits_in row ≡ time_digits day (without_fraction tick)
  digits_back = digits_alike (field_in row) (plain day tick) field_back ∙ plain_digits day tick

  seconds_back : field_in row Field.binary_seconds ≡ whole_seconds (without_fraction tick)
  seconds_back = field_back Field.binary_seconds ∙ (let q : tick / 10000000 ≡ without_fraction tick / 10000000 = omega arith in q)

  tick_is : tick_in (digits_in row) ≡ without_fraction tick
  tick_is = ap tick_in digits_back ∙ tick_back day (without_fraction tick) whole_writable

  not_refused : read_refusal row ≡ 0
  unfolding read_refusal
  not_refused =
      simp (
        le-ltb (length row) 100 long,
        all_fit_lem,
        all_clear,
        ap decimal digits_back ∙ digits_decimal day (without_fraction tick),
        ap digits_in_range digits_back ∙ digits_in_range_lem day (without_fraction tick) whole_writable,
        eq-eqb (field_in row Field.binary_seconds) (whole_seconds (tick_in (digits_in row))) (seconds_back ∙ ap whole_seconds (sym tick_is)),
      )

  -- what is written reads as the day and the tick without its fraction
  pub read_written : read_frame row ≡ Ok (moment day (without_fraction tick))
  unfolding read_frame
  read_written =
      ap (λ (k : ℕ). answered k (moment (day_in (digits_in row)) (tick_in (digits_in row)))) not_refused
      ∙ ap₂ (λ (d t : ℕ). Ok (moment d t)) (ap day_in digits_back ∙ day_back day (without_fraction tick) whole_writable) tick_is

-- READ, THEN WRITTEN

-- what a row that reads has passed
record Passed (row : List ℕ) : Type 0 where
  long : 100 ≤ length row
  fit : all_fit row ≡ true
  spares : spares_clear row ≡ true
  decimals : decimal (digits_in row) ≡ true
  range : digits_in_range (digits_in row) ≡ true
  seconds : field_in row Field.binary_seconds ≡ whole_seconds (tick_in (digits_in row))

passed : (row : List ℕ) → read_refusal row ≡ 0 → Passed row
unfolding read_refusal
passed row n =
    let a = quiet_first (ltb (length row) 100) _ ((given_zero (read_lines row) refl).0 n) in
    let b = quiet_first (not (all_fit row)) _ a.1 in
    let c = quiet_first (not (spares_clear row)) _ b.1 in
    let d = quiet_first (not (decimal (digits_in row))) _ c.1 in
    let e = quiet_first (not (digits_in_range (digits_in row))) _ d.1 in
    let f = quiet_first (not (eqb (field_in row Field.binary_seconds) (whole_seconds (tick_in (digits_in row))))) _ e.1 in
    record {
      long = ltb-false (length row) 100 a.0;
      fit = not-false (all_fit row) b.0;
      spares = not-false (spares_clear row) c.0;
      decimals = not-false (decimal (digits_in row)) d.0;
      range = not-false (digits_in_range (digits_in row)) e.0;
      seconds = eqb-true (field_in row Field.binary_seconds) (whole_seconds (tick_in (digits_in row))) (not-false _ f.0);
    }

twenty : (row : List ℕ) → length (digits_in row) ≡ 20
unfolding digits_of
twenty row = refl

module _ (row : List ℕ) (m : Moment) (n : read_frame row ≡ Ok m) where
  abbrev ds : List ℕ
  ds = digits_in row

  abbrev day : ℕ
  day = day_in ds

  abbrev tick : ℕ
  tick = tick_in ds

  refusal : read_refusal row ≡ 0
  refusal = sym (read_number_lem row) ∙ ap number_of n

  was : Passed row
  was = passed row refusal

  read_again : read_frame row ≡ Ok (moment day tick)
  unfolding read_frame
  read_again = ap (λ (k : ℕ). answered k (moment day tick)) refusal

  read_as_lem : m ≡ moment day tick
  read_as_lem = cc (n, read_again)

  again : time_digits day tick ≡ ds
  again = digits_again ds (twenty row) was.decimals was.range

  -- the fields of what is read are the frame's
  plain_again : (f : Field) → plain day tick f ≡ field_in row f
  unfolding digits_of
  plain_again Field.second_units = ap (λ (l : List ℕ). get_or l 11 0) (sym (time_digits_lem day tick) ∙ again)
  plain_again Field.second_tens = ap (λ (l : List ℕ). get_or l 10 0) (sym (time_digits_lem day tick) ∙ again)
  plain_again Field.minute_units = ap (λ (l : List ℕ). get_or l 9 0) (sym (time_digits_lem day tick) ∙ again)
  plain_again Field.minute_tens = ap (λ (l : List ℕ). get_or l 8 0) (sym (time_digits_lem day tick) ∙ again)
  plain_again Field.hour_units = ap (λ (l : List ℕ). get_or l 7 0) (sym (time_digits_lem day tick) ∙ again)
  plain_again Field.hour_tens = ap (λ (l : List ℕ). get_or l 6 0) (sym (time_digits_lem day tick) ∙ again)
  plain_again Field.day_units = ap (λ (l : List ℕ). get_or l 5 0) (sym (time_digits_lem day tick) ∙ again)
  plain_again Field.day_tens = ap (λ (l : List ℕ). get_or l 4 0) (sym (time_digits_lem day tick) ∙ again)
  plain_again Field.day_hundreds = ap (λ (l : List ℕ). get_or l 3 0) (sym (time_digits_lem day tick) ∙ again)
  plain_again Field.binary_seconds = sym was.seconds

  field_again : (f : Field) → field_of day tick f ≡ field_in row f
  field_again f = sym (field_is day tick f) ∙ plain_again f

  marker_again : (j : ℕ) → j < 100 → at j ≡ Element.marker → element_of (field_of day tick) (at j) ≡ get_or row j 0
  unfolding fits element_of
  marker_again j l a = ap (element_of (field_of day tick)) a ∙ sym (eqb-true (get_or row j 0) 2 (ap (λ (t : Element). fits t (get_or row j 0)) (sym a) ∙ fit_at row was.fit j l))

  spare_again : (j : ℕ) → j < 100 → at j ≡ Element.spare → element_of (field_of day tick) (at j) ≡ get_or row j 0
  unfolding clear element_of spares_clear
  spare_again j l a =
      ap (element_of (field_of day tick)) a
      ∙ sym (eqb-true (get_or row j 0) 0 (ap (λ (t : Element). clear t (get_or row j 0)) (sym a) ∙ all_at 100 (λ (k : ℕ). clear (at k) (get_or row k 0)) was.spares j l))

  bit_again : (j : ℕ) → j < 100 → (f : Field) (i : ℕ) → at j ≡ Element.bit f i → element_of (field_of day tick) (at j) ≡ get_or row j 0
  unfolding element_of
  bit_again j l f i a = ap (element_of (field_of day tick)) a ∙ ap (digit_of 2 i) (field_again f) ∙ bit_back row was.fit j l f i a

  element_again : (j : ℕ) → j < 100 → element_of (field_of day tick) (at j) ≡ get_or row j 0
  element_again j l = go (at j) refl
    where
      go : (t : Element) → at j ≡ t → element_of (field_of day tick) (at j) ≡ get_or row j 0
      go Element.marker a = marker_again j l a
      go Element.spare a = spare_again j l a
      go (Element.bit f i) a = bit_again j l f i a

  frame_is : frame_of day tick ≡ take 100 row
  unfolding frame_of
  frame_is =
      ext_get_or 0 (map (element_of (field_of day tick)) table) (take 100 row) (hundred_of (element_of (field_of day tick)) ∙ sym (length-take-le 100 row was.long))
      (λ j l. let k : j < 100 = rw (hundred_of (element_of (field_of day tick))) at l in at_place (element_of (field_of day tick)) j k ∙ element_again j k ∙ sym (get_or-take 100 row j 0 k))

  -- a row that reads begins with the frame of what it reads as
  pub written_read : frame_of m.day m.tick.ticks ≡ take 100 row
  written_read = ap (λ (r : Moment). frame_of r.day r.tick.ticks) read_as_lem ∙ frame_is

  -- it has a hundred places
  pub read_long : 100 ≤ length row
  read_long = was.long

  -- what it reads as is within the ranges of time words, and has no fraction
  pub read_writable : writable m.day m.tick.ticks ≡ true
  read_writable = ap (λ (r : Moment). writable r.day r.tick.ticks) read_as_lem ∙ again_writable ds (twenty row) was.decimals was.range

  pub read_whole : m.tick.ticks ≡ without_fraction m.tick.ticks
  read_whole = ap (λ (r : Moment). r.tick.ticks) read_as_lem ∙ no_fraction row ∙ ap (λ (r : Moment). without_fraction r.tick.ticks) (sym read_as_lem)

-- NO SECOND SPELLING

-- two rows that read as the same time begin with the same hundred elements
pub one_spelling : (a b : List ℕ) (m : Moment) → read_frame a ≡ Ok m → read_frame b ≡ Ok m → take 100 a ≡ take 100 b
one_spelling a b m e f = sym (written_read a m e) ∙ written_read b m f

-- the fraction is not written
frame_whole : (day tick : ℕ) → writable day tick ≡ true → frame_of day tick ≡ frame_of day (without_fraction tick)
frame_whole day tick w =
    sym
    (written_read (frame_of day tick ++ []) (moment day (without_fraction tick)) (read_written day tick w [])
    ∙ take_at (frame_of day tick) [] 100 (frame_hundred day tick))

-- THE CALLS

module _ (c : Card) (row : List ℕ) where
  abbrev card_day : ℕ
  card_day = c.clock.time.day

  abbrev card_tick : ℕ
  card_tick = c.clock.time.tick.ticks

  pub writes : lawful c ≡ true → 100 ≤ length row → write_refusal c (length row) ≡ 0
  unfolding write_refusal
  writes h l = simp (h, le-ltb (length row) 100 l)

  row_is : lawful c ≡ true → 100 ≤ length row → row_written c row ≡ frame_of card_day card_tick ++ drop 100 row
  unfolding row_written
  row_is h l = simp (writes h l)

  -- what is written for a lawful card reads as its day, and its tick without the fraction
  pub read_back : lawful c ≡ true → 100 ≤ length row → read_frame (row_written c row) ≡ Ok (moment card_day (without_fraction card_tick))
  read_back h l = ap read_frame (row_is h l) ∙ read_written card_day card_tick (time_writable c h) (drop 100 row)

  -- a row that reads is as it was when a frame is written into it for a card of that day and second
  pub write_back : lawful c ≡ true → (m : Moment) → read_frame row ≡ Ok m → card_day ≡ m.day → without_fraction card_tick ≡ m.tick.ticks → row_written c row ≡ row
  write_back h m n d t =
      row_is h (was row m n).long
      ∙ ap (λ (f : List ℕ). f ++ drop 100 row) (frame_whole card_day card_tick (time_writable c h) ∙ ap₂ frame_of d t ∙ written_read row m n)
      ∙ take-append-drop 100 row
