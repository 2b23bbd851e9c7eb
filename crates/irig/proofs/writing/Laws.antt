-- What the code of writing rests on: the words of a time and its seconds, one above the other, hold the fields of the frame, and the elements that such a number has by the shifts of
-- the table are those of the frame. By the laws of the table and of words.
-- Assumes nothing.
use Prim.Native.Nat.{ℕ, suc, ◌+◌, ◌*◌, ◌/◌, ◌%◌, ◌-◌, ◌^◌, ◌≤◌, ◌<◌}
use mathlib.Core.Path.{◌≡◌, refl, sym, ◌∙◌, ap, ap₂}
use mathlib.Core.Bool.{true, false}
use mathlib.Core.List.{List, [], ◌∷◌, ◌++◌, map}
use native.Mathlib.Nat.{le_refl, div-one, div-eq_of_lt, zero-add}
use native.Mathlib.Omega.{arith}
use lib.Pow.{field, mod-mod-pow, shr-shr}
use lib.ListN.{length, get_or, drop, set, length-set, length-map}
use lib.Seq.{ext_get_or, paste, paste-zero, paste-suc, take_all}
use borrow.Author.Tests.{ne_eqb, lt-ltb, le-ltb}
use Rattle.std.specs.Prelude.{Ok, Err}
use Rattle.wire.specs.Numbers.{answered}
use Rattle.wire.specs.declared.numbers.Refusal.{Refusal}
use Rattle.wire.specs.Words.{words_of, writable, words_or_zero}
use Rattle.wire.specs.Time.{hour_of, minute_of, second_of}
use Rattle.wire.proofs.numbers.Names.{unlawful_named, short_row_named}
use Rattle.wire.proofs.words.Laws.{in_ranges, writable_day, writable_tick, words_within, hundreds_word, days_and_hours_word, minutes_and_seconds_word}
use Rattle.wire.proofs.time.Laws.{hour_below, minute_below, second_below}
use Rattle.clock.proofs.time.Laws.{in_range_lem, days_in_year}
use Rattle.clock.proofs.lawful.Laws as clock
use Rattle.card.proofs.lawful.Laws as card
use Rattle.card.specs.declared.card.Card.{Card}
use Rattle.card.specs.Lawful.{lawful}
use Rattle.irig.specs.Table.{Field, Element, table, at, digit_of, field_shift, width, shift_of}
use Rattle.irig.specs.Writing.{field_of, element_of, frame_of, write_refusal, row_written, Holds, element_at}
use Rattle.irig.proofs.table.Laws.{from_map, at_place, hundred_of, bit_within, bit_low, together, together_at, together_small}

-- THE ELEMENTS OF A NUMBER

map_map : {A : Type 0} (g : ℕ → ℕ) (f : A → ℕ) (ts : List A) → map g (map f ts) ≡ map (λ (t : A). g (f t)) ts
map_map g f [] = refl
map_map g f (t ∷ ts) = ap (λ (l : List ℕ). g (f t) ∷ l) (map_map g f ts)

-- a bit within a field, seen from the whole number
bit_of_field : (n b w i : ℕ) → i < w → n / 2 ^ (b + i) % 2 ≡ n / 2 ^ b % 2 ^ w / 2 ^ i % 2
bit_of_field n b w i l =
    let e : w ≡ suc (w - suc i) + i = omega arith in
    let j : ℕ = w - suc i in
    sym
    (ap (λ (k : ℕ). n / 2 ^ b % 2 ^ k / 2 ^ i % 2) e
    ∙ ap (λ (x : ℕ). x % 2) (field (n / 2 ^ b) (suc j) i)
    ∙ ap (λ (k : ℕ). n / 2 ^ b / 2 ^ i % 2 ^ k % 2) (let s : suc j ≡ j + 1 = omega arith in s)
    ∙ mod-mod-pow (n / 2 ^ b / 2 ^ i) j 1
    ∙ ap (λ (x : ℕ). x % 2) (shr-shr n b i))

module _ (n : ℕ) (v : Field → ℕ) (h : Holds n v) where
  marker_element : element_at n (shift_of Element.marker) ≡ element_of v Element.marker
  unfolding element_at shift_of element_of
  marker_element = refl

  spare_element : element_at n (shift_of Element.spare) ≡ element_of v Element.spare
  unfolding element_at shift_of element_of digit_of
  spare_element = ap (λ (x : ℕ). x % 2) (div-eq_of_lt h.small)

  bit_element : (f : Field) (i : ℕ) → i < width f → field_shift f + i < 53 → element_at n (shift_of (Element.bit f i)) ≡ element_of v (Element.bit f i)
  unfolding element_at shift_of element_of digit_of
  bit_element f i w l =
      simp (ne_eqb (field_shift f + i) 64 (λ e. omega arith))
      (bit_of_field n (field_shift f) (width f) i w ∙ ap (λ (x : ℕ). x / 2 ^ i % 2) (h.each f))

  element_is : (j : ℕ) → j < 100 → element_at n (shift_of (at j)) ≡ element_of v (at j)
  element_is j l = go (at j) refl
    where
      go : (t : Element) → at j ≡ t → element_at n (shift_of (at j)) ≡ element_of v (at j)
      go Element.marker a = rw a marker_element
      go Element.spare a = rw a spare_element
      go (Element.bit f i) a = rw a (bit_element f i (bit_within j l f i a) (bit_low j l f i a))

  -- the elements by the shifts of the table
  pub elements_of : map (element_at n) (map shift_of table) ≡ map (element_of v) table
  elements_of =
      map_map (element_at n) shift_of table
      ∙ ext_get_or 0 (map (λ (t : Element). element_at n (shift_of t)) table) (map (element_of v) table)
      (hundred_of (λ (t : Element). element_at n (shift_of t)) ∙ sym (hundred_of (element_of v)))
      (λ j l. let k : j < 100 = rw (hundred_of (λ (t : Element). element_at n (shift_of t))) at l in at_place (λ (t : Element). element_at n (shift_of t)) j k ∙ element_is j k ∙ sym (at_place (element_of v) j k))

-- THE NUMBER OF A TIME

-- the fields of a time in plain arithmetic
module _ (day tick : ℕ) where
  abbrev pub plain : Field → ℕ
  plain Field.second_units = second_of tick % 10
  plain Field.second_tens = second_of tick / 10 % 10
  plain Field.minute_units = minute_of tick % 10
  plain Field.minute_tens = minute_of tick / 10 % 10
  plain Field.hour_units = hour_of tick % 10
  plain Field.hour_tens = hour_of tick / 10 % 10
  plain Field.day_units = day % 10
  plain Field.day_tens = day / 10 % 10
  plain Field.day_hundreds = day / 100 % 10
  plain Field.binary_seconds = tick / 10000000

  pub field_is : (f : Field) → plain f ≡ field_of day tick f
  unfolding field_of digit_of
  field_is Field.second_units = simp div-one
  field_is Field.second_tens = refl
  field_is Field.minute_units = simp div-one
  field_is Field.minute_tens = refl
  field_is Field.hour_units = simp div-one
  field_is Field.hour_tens = refl
  field_is Field.day_units = simp div-one
  field_is Field.day_tens = refl
  field_is Field.day_hundreds = refl
  field_is Field.binary_seconds = refl

-- and how large they are
module _ (day tick : ℕ) (w : writable day tick ≡ true) where
  plain_within : (f : Field) → plain day tick f < 2 ^ width f
  unfolding width
  plain_within Field.second_units = omega arith
  plain_within Field.second_tens = let z = second_below tick in omega arith
  plain_within Field.minute_units = omega arith
  plain_within Field.minute_tens = let z = minute_below tick in omega arith
  plain_within Field.hour_units = omega arith
  plain_within Field.hour_tens = let z = hour_below tick (writable_tick day tick w) in omega arith
  plain_within Field.day_units = omega arith
  plain_within Field.day_tens = omega arith
  plain_within Field.day_hundreds = let z = writable_day day tick w in omega arith
  plain_within Field.binary_seconds = let t = writable_tick day tick w in omega arith

  pub field_within : (f : Field) → field_of day tick f < 2 ^ width f
  field_within f = rw (sym (field_is day tick f)) (plain_within f)

module _ (day tick : ℕ) (w : writable day tick ≡ true) (ws : List ℕ) (o : ws ≡ words_or_zero day tick) where
  e : ws ≡ words_of day tick
  e = let d = writable_day day tick w in o ∙ words_within day tick d.0 d.1 (writable_tick day tick w)

  -- its words and its seconds
  abbrev fields_number : ℕ
  fields_number = tick / 10000000 * 68719476736 + ((get_or ws 0 0 * 65536 + get_or ws 1 0) * 65536 + get_or ws 2 0)

  number_is : fields_number ≡ together (plain day tick)
  unfolding together
  number_is = simp (e, hundreds_word day tick, days_and_hours_word day tick, minutes_and_seconds_word day tick) (omega arith)

  pub number_holds : Holds fields_number (field_of day tick)
  number_holds =
      rw number_is
      record {
        each = λ f. together_at (plain day tick) (plain_within day tick w) f ∙ field_is day tick f;
        small = together_small (plain day tick) (plain_within day tick w);
      }

  pub number_small : fields_number < 9007199254740992
  number_small = number_holds.small

-- THE ROW

module _ (n : ℕ) (row₀ : List ℕ) where
  abbrev elements : List ℕ
  elements = map (element_at n) (map shift_of table)

  hundred : length elements ≡ 100
  hundred = length-map (map shift_of table) (element_at n) ∙ hundred_of shift_of

  -- the row when the first i elements are put
  pub record Put (row : List ℕ) (i : ℕ) : Type 0 where
    pub front : row ≡ paste row₀ 0 elements i
    pub same : length row ≡ length row₀

  pub put_none : Put row₀ 0
  put_none = record { front = paste-zero row₀ 0 elements; same = refl }

  -- one more, by the shift that the table has for it
  pub put_more : (row : List ℕ) (i e : ℕ) → Put row i → 100 ≤ length row₀ → i < 100 → e ≡ element_at n (get_or (map shift_of table) i 0) → Put (set row i e) (i + 1)
  put_more row i e p l k q =
      record {
        front =
            ap₂ (λ (r : List ℕ) (x : ℕ). set r i x) p.front (q ∙ sym (from_map (element_at n) (map shift_of table) 0 i (rw (hundred_of shift_of) k)))
            ∙ ap (λ (j : ℕ). set (paste row₀ 0 elements i) j (get_or elements i 0)) (sym (zero-add i))
            ∙ paste-suc row₀ 0 elements i 0 (rw (zero-add i) (let m : i < length row₀ = omega arith in m)) (rw hundred k)
            ∙ ap (paste row₀ 0 elements) (let s : suc i ≡ i + 1 = omega arith in s);
        same = length-set row i e ∙ p.same;
      }

  pub put_all : (row : List ℕ) (i : ℕ) → Put row i → i ≡ 100 → row ≡ elements ++ drop 100 row₀
  put_all row i p e = p.front ∙ ap (paste row₀ 0 elements) e ∙ ap (λ (r : List ℕ). r ++ drop 100 row₀) (take_all 100 elements (rw hundred (le_refl 100)))

-- THE CALL

-- the time of a lawful card has a frame
pub time_writable : (c : Card) → lawful c ≡ true → writable c.clock.time.day c.clock.time.tick.ticks ≡ true
time_writable c h =
    let t = (in_range_lem c.clock.time (clock.parts c.clock (card.parts c h).clock).time).proper in
    let d = days_in_year c.clock.time.year in
    in_ranges _ _ t.day_low (let q = t.day_high in omega arith) t.tick

module _ (c : Card) (row : List ℕ) where
  pub refused_18 : lawful c ≡ false → Err Refusal.Unlawful ≡ answered (write_refusal c (length row)) (tt {0})
  unfolding write_refusal
  refused_18 h = simp (h, unlawful_named)

  pub refused_14 : lawful c ≡ true → length row < 100 → Err Refusal.ShortRow ≡ answered (write_refusal c (length row)) (tt {0})
  unfolding write_refusal
  refused_14 h l = simp (h, lt-ltb (length row) 100 l, short_row_named)

  pub not_refused : lawful c ≡ true → 100 ≤ length row → Ok (tt {0}) ≡ answered (write_refusal c (length row)) (tt {0})
  unfolding write_refusal
  not_refused h l = simp (h, le-ltb (length row) 100 l)

  pub row_18 : lawful c ≡ false → row ≡ row_written c row
  unfolding write_refusal row_written
  row_18 h = simp h

  pub row_14 : lawful c ≡ true → length row < 100 → row ≡ row_written c row
  unfolding write_refusal row_written
  row_14 h l = simp (h, lt-ltb (length row) 100 l)

  pub row_0 : (n : ℕ) → lawful c ≡ true → 100 ≤ length row → Holds n (field_of c.clock.time.day c.clock.time.tick.ticks)
      → map (element_at n) (map shift_of table) ++ drop 100 row ≡ row_written c row
  unfolding write_refusal row_written frame_of
  row_0 n h l k = ap (λ (r : List ℕ). r ++ drop 100 row) (elements_of n _ k) ∙ sym (simp (h, le-ltb (length row) 100 l))
