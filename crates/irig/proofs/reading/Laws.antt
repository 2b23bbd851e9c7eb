-- What the code of reading rests on: the number that one pass over a frame adds up has each field by its shift, what the spare elements add up to above them, and its low bits
-- are the frame's digits as time words have them. By the laws of the table and of digits.
-- Assumes nothing.
use Prim.Native.Nat.{ℕ, zero, suc, ◌+◌, ◌*◌, ◌/◌, ◌%◌, ◌^◌, ◌≤◌, ◌<◌}
use mathlib.Core.Path.{◌≡◌, refl, sym, ◌∙◌, ap}
use mathlib.Core.Bool.{Bool, true, false, ◌&&◌}
use mathlib.Core.List.{List, [], ◌∷◌, ◌++◌, map}
use mathlib.Core.Logic.{⊎_elim}
use native.Mathlib.Nat.{mul_comm, mul_assoc, mul-le-mul, mod-eq_of_lt}
use native.Mathlib.Omega.{arith}
use lib.Pow.{pow-add, pow_mono}
use lib.Dec.{ltb, eqb, lit<, lit≤}
use lib.ListN.{length, get_or, length-append}
use borrow.Author.Tests.{lt-ltb, eq-eqb, ne_eqb, le-ltb}
use Rattle.wire.specs.Digits.{pick, num, below, packed, unpacked}
use Rattle.wire.specs.Time.{without_fraction}
use Rattle.wire.specs.Words.{decimal, day_in, tick_in, moment, read_words, read_digits}
use Rattle.std.specs.Prelude.{Some, None, Ok, Err}
use Rattle.wire.specs.declared.numbers.Refusal.{Refusal}
use Rattle.wire.specs.declared.words.Moment.{Moment}
use Rattle.wire.proofs.numbers.Names.{bad_digit_named, outside_time_named, short_row_named, wrong_marker_named, spare_set_named, seconds_differ_named}
use Rattle.wire.proofs.digits.Laws.{unpack_packed, and_true, lt_or_le, clash}
use Rattle.wire.proofs.words.Laws.{read_by_digits, read_bad, read_outside, read_done, whole_second}
use Rattle.irig.specs.Table.{Field, Element, field_number, table, at, sum_to, all_to, field_shift, shift_of}
use Rattle.irig.specs.Reading.{fits, all_fit, clear, spares_clear, share, field_in, digits_of, digits_in, digits_in_range, read_refusal, read_frame, weighed, weighed_to, scanned, words_in}
use Rattle.irig.proofs.table.Laws.{shift_is, fit_at, field_to, field_whole, field_small, bit_low, together, bounds, together_small}

-- ALL FIELDS TOGETHER

together_both : (v w : Field → ℕ) → together v + together w ≡ together (λ (f : Field). v f + w f)
unfolding together
together_both v w = omega arith

together_same : (v w : Field → ℕ) → ((f : Field) → v f ≡ w f) → together v ≡ together w
unfolding together
together_same v w e =
    cc (e Field.second_units, e Field.second_tens, e Field.minute_units, e Field.minute_tens, e Field.hour_units, e Field.hour_tens, e Field.day_units, e Field.day_tens, e Field.day_hundreds, e Field.binary_seconds)

-- the spare elements

unfoldable spare_share : Element → ℕ → ℕ
spare_share Element.marker e = 0
spare_share Element.spare e = e
spare_share (Element.bit f i) e = 0

shifted : (e b i : ℕ) → e * 2 ^ (b + i) ≡ e * 2 ^ i * 2 ^ b
shifted e b i = ap (λ (x : ℕ). e * x) (pow-add 2 b i ∙ mul_comm (2 ^ b) (2 ^ i)) ∙ sym (mul_assoc e (2 ^ i) (2 ^ b))

-- one bit alone
one_field : (f : Field) (x : ℕ) → x * 2 ^ field_shift f ≡ together (λ (g : Field). pick (eqb (field_number g) (field_number f)) x 0)
unfolding together field_shift field_number
one_field Field.second_units x = omega arith
one_field Field.second_tens x = omega arith
one_field Field.minute_units x = omega arith
one_field Field.minute_tens x = omega arith
one_field Field.hour_units x = omega arith
one_field Field.hour_tens x = omega arith
one_field Field.day_units x = omega arith
one_field Field.day_tens x = omega arith
one_field Field.day_hundreds x = omega arith
one_field Field.binary_seconds x = omega arith

weighed_is : (t : Element) (e : ℕ) → weighed t e ≡ together (λ (f : Field). share f t e) + spare_share t e * 2 ^ 53
unfolding weighed together share spare_share
weighed_is Element.marker e = refl
weighed_is Element.spare e = omega arith
weighed_is (Element.bit f i) e = shifted e (field_shift f) i ∙ one_field f (e * 2 ^ i) ∙ omega arith

pub zero_sum : (a e : ℕ) → (eqb a 0 && ltb e 1) ≡ eqb (a + e) 0
zero_sum a e =
    ⊎_elim
    (λ p. ⊎_elim
    (λ q. simp (eq-eqb a 0 (omega arith), lt-ltb e 1 q, eq-eqb (a + e) 0 (omega arith)))
    (λ q. simp (eq-eqb a 0 (omega arith), le-ltb e 1 q, ne_eqb (a + e) 0 (λ z. omega arith)))
    (lt_or_le e 1))
    (λ p. simp (ne_eqb a 0 (λ z. omega arith), ne_eqb (a + e) 0 (λ z. omega arith)))
    (lt_or_le a 1)

pub below_one : (e : ℕ) → ltb e 1 ≡ eqb e 0
below_one e = ⊎_elim (λ p. simp (lt-ltb e 1 p, eq-eqb e 0 (omega arith))) (λ q. simp (le-ltb e 1 q, ne_eqb e 0 (λ z. omega arith))) (lt_or_le e 1)

clear_one : (a : ℕ) (t : Element) (e : ℕ) → (eqb a 0 && clear t e) ≡ eqb (a + spare_share t e) 0
unfolding clear spare_share
clear_one a Element.marker e = and_true (eqb a 0) ∙ ap (λ (x : ℕ). eqb x 0) (let z : a ≡ a + 0 = omega arith in z)
clear_one a Element.spare e = ap (λ (t : Bool). eqb a 0 && t) (sym (below_one e)) ∙ zero_sum a e
clear_one a (Element.bit f i) e = and_true (eqb a 0) ∙ ap (λ (x : ℕ). eqb x 0) (let z : a ≡ a + 0 = omega arith in z)

three : {a b c x y z : ℕ} → a ≡ x → b ≡ y → c ≡ z → a ∷ b ∷ c ∷ 0 ∷ 0 ∷ [] ≡ x ∷ y ∷ z ∷ 0 ∷ 0 ∷ []
three p q r = cc (p, q, r)

module _ (row : List ℕ) where
  unfoldable spares_to : ℕ → ℕ
  spares_to n = sum_to n (λ (j : ℕ). spare_share (at j) (get_or row j 0))

  weighed_sum : (n : ℕ) → weighed_to row n ≡ together (λ (f : Field). field_to row f n) + spares_to n * 2 ^ 53
  unfolding weighed_to field_to spares_to sum_to together
  weighed_sum zero = refl
  weighed_sum (suc n) =
      let i = weighed_sum n in
      let w = weighed_is (at n) (get_or row n 0) in
      let t = together_both (λ (f : Field). field_to row f n) (λ (f : Field). share f (at n) (get_or row n 0)) in
      omega arith

  -- they add up to 0 exactly if each is clear
  clear_sum : (n : ℕ) → all_to n (λ (j : ℕ). clear (at j) (get_or row j 0)) ≡ eqb (spares_to n) 0
  unfolding spares_to sum_to all_to
  clear_sum zero = refl
  clear_sum (suc n) = ap (λ (t : Bool). t && clear (at n) (get_or row n 0)) (clear_sum n) ∙ clear_one (spares_to n) (at n) (get_or row n 0)

  module _ (h : all_fit row ≡ true) where
    number_is : weighed_to row 100 ≡ together (field_in row) + spares_to 100 * 2 ^ 53
    number_is =
        weighed_sum 100
        ∙ ap (λ (x : ℕ). x + spares_to 100 * 2 ^ 53) (together_same (λ (f : Field). field_to row f 100) (field_in row) (λ f. sym (field_whole row f)))

    -- 23: the number tells whether a spare element is set
    pub spare_set : 9007199254740992 ≤ weighed_to row 100 → spares_clear row ≡ false
    unfolding spares_clear
    spare_set l =
        let n = number_is in let t = together_small (field_in row) (field_small row h) in
        clear_sum 100 ∙ ne_eqb (spares_to 100) 0 (λ z. let y : spares_to 100 * 2 ^ 53 ≡ 0 = ap (λ (x : ℕ). x * 2 ^ 53) z in omega arith)

    pub spare_clear : weighed_to row 100 < 9007199254740992 → spares_clear row ≡ true
    unfolding spares_clear
    spare_clear l = let n = number_is in clear_sum 100 ∙ eq-eqb (spares_to 100) 0 (omega arith)

    module _ (l : weighed_to row 100 < 9007199254740992) where
      fields_alone : weighed_to row 100 ≡ together (field_in row)
      fields_alone = let n = number_is in omega arith

      digits_small : below 16 (digits_in row) ≡ true
      unfolding below digits_of
      digits_small =
          let b = bounds (field_in row) (field_small row h) in
          simp (
            lt-ltb (field_in row Field.day_hundreds) 16 (omega arith),
            lt-ltb (field_in row Field.day_tens) 16 (omega arith),
            lt-ltb (field_in row Field.day_units) 16 (omega arith),
            lt-ltb (field_in row Field.hour_tens) 16 (omega arith),
            lt-ltb (field_in row Field.hour_units) 16 (omega arith),
            lt-ltb (field_in row Field.minute_tens) 16 (omega arith),
            lt-ltb (field_in row Field.minute_units) 16 (omega arith),
            lt-ltb (field_in row Field.second_tens) 16 (omega arith),
            lt-ltb (field_in row Field.second_units) 16 (omega arith),
          )

      -- the first three words
      hundreds_packed : weighed_to row 100 / 2 ^ 32 % 16 ≡ num 16 (0 ∷ 0 ∷ 0 ∷ field_in row Field.day_hundreds ∷ [])
      unfolding num together
      hundreds_packed = let b = bounds (field_in row) (field_small row h) in let n = fields_alone in omega arith

      days_packed : weighed_to row 100 / 2 ^ 16 % 65536 ≡ num 16 (field_in row Field.day_tens ∷ field_in row Field.day_units ∷ field_in row Field.hour_tens ∷ field_in row Field.hour_units ∷ [])
      unfolding num together
      days_packed = let b = bounds (field_in row) (field_small row h) in let n = fields_alone in omega arith

      minutes_packed : weighed_to row 100 % 65536 ≡ num 16 (field_in row Field.minute_tens ∷ field_in row Field.minute_units ∷ field_in row Field.second_tens ∷ field_in row Field.second_units ∷ [])
      unfolding num together
      minutes_packed = let b = bounds (field_in row) (field_small row h) in let n = fields_alone in omega arith

      words_packed : words_in (weighed_to row 100) ≡ packed 16 4 5 (digits_in row)
      unfolding words_in packed digits_of num
      words_packed =
          three hundreds_packed days_packed minutes_packed

      -- the digits in the number are the frame's
      pub digits_read : read_words (words_in (weighed_to row 100)) ≡ read_digits (digits_in row)
      unfolding digits_of
      digits_read =
          read_by_digits (words_in (weighed_to row 100))
          ∙ ap (λ (ws : List ℕ). read_digits (unpacked 16 4 ws)) words_packed
          ∙ ap read_digits (unpack_packed 16 (lit< tt) 4 5 (digits_in row) refl digits_small)

      -- and above them stand its binary seconds
      pub seconds_read : weighed_to row 100 / 2 ^ 36 ≡ field_in row Field.binary_seconds
      unfolding together
      seconds_read = let b = bounds (field_in row) (field_small row h) in let n = fields_alone in omega arith

-- ONE PASS

-- a marker alone has shift 64

record Plain (j : ℕ) : Type 0 where
  fit : (e : ℕ) → fits (at j) e ≡ ltb e 2
  weigh : (e : ℕ) → weighed (at j) e ≡ e * 2 ^ shift_of (at j)
  low : shift_of (at j) ≤ 53

spare_plain : (j : ℕ) → at j ≡ Element.spare → Plain j
unfolding fits weighed shift_of
spare_plain j a =
    record {
      fit = λ e. ap (λ (t : Element). fits t e) a;
      weigh = λ e. ap (λ (t : Element). weighed t e) a ∙ ap (λ (t : Element). e * 2 ^ shift_of t) (sym a);
      low = rw a (lit≤ tt);
    }

bit_plain : (j : ℕ) → j < 100 → (f : Field) (i : ℕ) → at j ≡ Element.bit f i → Plain j
unfolding fits weighed shift_of
bit_plain j l f i a =
    record {
      fit = λ e. ap (λ (t : Element). fits t e) a;
      weigh = λ e. ap (λ (t : Element). weighed t e) a ∙ ap (λ (t : Element). e * 2 ^ shift_of t) (sym a);
      low = rw a (let b = bit_low j l f i a in omega arith);
    }

marker_64 : (j : ℕ) → at j ≡ Element.marker → shift_of (at j) ≡ 64
unfolding shift_of
marker_64 j a = ap shift_of a

plain_shift : (j : ℕ) → j < 100 → (shift_of (at j) ≡ 64 → ⊥) → Plain j
plain_shift j l p = go (at j) refl
  where
    go : (t : Element) → at j ≡ t → Plain j
    go Element.marker a = absurd (p (marker_64 j a))
    go Element.spare a = spare_plain j a
    go (Element.bit f i) a = bit_plain j l f i a

marker_shift : (j : ℕ) → j < 100 → shift_of (at j) ≡ 64 → at j ≡ Element.marker
marker_shift j l p = go (at j) refl
  where
    go : (t : Element) → at j ≡ t → at j ≡ Element.marker
    go Element.marker a = a
    go Element.spare a = absurd (let b = (spare_plain j a).low in omega arith)
    go (Element.bit f i) a = absurd (let b = (bit_plain j l f i a).low in omega arith)

marker_fits : (t : Element) (e : ℕ) → t ≡ Element.marker → fits t e ≡ eqb e 2
unfolding fits
marker_fits t e a = ap (λ (u : Element). fits u e) a

marker_weighed : (t : Element) (e : ℕ) → t ≡ Element.marker → weighed t e ≡ 0
unfolding weighed
marker_weighed t e a = ap (λ (u : Element). weighed u e) a

pub plain_small : (e p : ℕ) → e ≤ 1 → p ≤ 53 → e * 2 ^ p ≤ 9007199254740992
plain_small e p h l =
    let m : 2 ^ p ≤ 9007199254740992 = pow_mono l in
    let n : e * 2 ^ p ≤ 1 * 9007199254740992 = mul-le-mul {n₁ = e} {m₁ = 2 ^ p} {n₂ = 1} {m₂ = 9007199254740992} h m in
    omega arith

-- what the pass has come to before place i
pub record Scanning (row : List ℕ) (n i : ℕ) : Type 0 where
  pub fit : all_to i (λ (j : ℕ). fits (at j) (get_or row j 0)) ≡ true
  pub sum : n ≡ weighed_to row i
  pub small : n ≤ i * 9007199254740992

pub scan_none : (row : List ℕ) → Scanning row 0 0
unfolding all_to weighed_to sum_to
scan_none row = record { fit = refl; sum = refl; small = lit≤ tt }

-- the shifts that the code has
module _ (ss : List ℕ) (is : ss ≡ map shift_of table) (row : List ℕ) (n i : ℕ) (l : i < 100) where
  pub shift_low : (get_or ss i 0 ≡ 64 → ⊥) → get_or ss i 0 ≤ 53
  shift_low p = rw (shift_is ss is i l) (plain_shift i l (λ e. p (shift_is ss is i l ∙ e))).low

  -- a marker adds nothing
  pub scan_marker : Scanning row n i → get_or ss i 0 ≡ 64 → get_or row i 0 ≡ 2 → Scanning row n (i + 1)
  unfolding all_to weighed_to sum_to
  scan_marker s p e =
      let k = marker_shift i l (sym (shift_is ss is i l) ∙ p) in
      let o : i + 1 ≡ suc i = omega arith in
      rw o
      record {
        fit = simp (s.fit, marker_fits (at i) (get_or row i 0) k, eq-eqb (get_or row i 0) 2 e);
        sum = let w = marker_weighed (at i) (get_or row i 0) k in let u = s.sum in omega arith;
        small = let u = s.small in omega arith;
      }

  -- any other element counts by its shift
  pub scan_plain : Scanning row n i → (get_or ss i 0 ≡ 64 → ⊥) → get_or row i 0 ≤ 1 → Scanning row (n + get_or row i 0 * 2 ^ get_or ss i 0 % 18446744073709551616) (i + 1)
  unfolding all_to weighed_to sum_to
  scan_plain s p e =
      let k = plain_shift i l (λ q. p (shift_is ss is i l ∙ q)) in
      let v = plain_small (get_or row i 0) (get_or ss i 0) e (shift_low p) in
      let x : get_or row i 0 * 2 ^ get_or ss i 0 % 18446744073709551616 ≡ get_or row i 0 * 2 ^ get_or ss i 0 = mod-eq_of_lt (omega arith) in
      let o : i + 1 ≡ suc i = omega arith in
      rw o
      record {
        fit = simp (s.fit, k.fit (get_or row i 0), lt-ltb (get_or row i 0) 2 (omega arith));
        sum = let w = k.weigh (get_or row i 0) ∙ ap (λ (x : ℕ). get_or row i 0 * 2 ^ x) (sym (shift_is ss is i l)) in let u = s.sum in omega arith;
        small = let u = s.small in omega arith;
      }

  -- and the number stays within its 64 bits
  pub sum_fits : Scanning row n i → (get_or ss i 0 ≡ 64 → ⊥) → get_or row i 0 ≤ 1 → n + get_or row i 0 * 2 ^ get_or ss i 0 % 18446744073709551616 < 18446744073709551616
  sum_fits s p e =
      let v = plain_small (get_or row i 0) (get_or ss i 0) e (shift_low p) in
      let x : get_or row i 0 * 2 ^ get_or ss i 0 % 18446744073709551616 ≡ get_or row i 0 * 2 ^ get_or ss i 0 = mod-eq_of_lt (omega arith) in
      let u = s.small in omega arith

  -- the same at a turn of a loop that counts what it has come by
  pub turn_marker : {A : Type 0} (ys : List A) (y : A) → i ≡ length ys → Scanning row n i → get_or ss i 0 ≡ 64 → get_or row i 0 ≡ 2 → Scanning row n (length (ys ++ y ∷ []))
  turn_marker ys y e s p q = rw (length-append ys (y ∷ []), sym e) (scan_marker s p q)

  pub turn_plain : {A : Type 0} (ys : List A) (y : A) → i ≡ length ys → Scanning row n i → (get_or ss i 0 ≡ 64 → ⊥) → get_or row i 0 ≤ 1
      → Scanning row (n + get_or row i 0 * 2 ^ get_or ss i 0 % 18446744073709551616) (length (ys ++ y ∷ []))
  turn_plain ys y e s p q = rw (length-append ys (y ∷ []), sym e) (scan_plain s p q)

-- an element that does not fit
misfit_scan : (row : List ℕ) (i : ℕ) → i < 100 → fits (at i) (get_or row i 0) ≡ false → None ≡ scanned row
unfolding scanned
misfit_scan row i l e = go (all_fit row) refl
  where
    go : (t : Bool) → all_fit row ≡ t → None ≡ pick t (Some (weighed_to row 100)) None
    go true h = clash (sym (fit_at row h i l) ∙ e)
    go false h = refl

module _ (ss : List ℕ) (is : ss ≡ map shift_of table) (row : List ℕ) (i : ℕ) (l : i < 100) where
  pub marker_missing : get_or ss i 0 ≡ 64 → (get_or row i 0 ≡ 2 → ⊥) → None ≡ scanned row
  marker_missing p e = misfit_scan row i l (marker_fits (at i) (get_or row i 0) (marker_shift i l (sym (shift_is ss is i l) ∙ p)) ∙ ne_eqb (get_or row i 0) 2 e)

  pub element_above : (get_or ss i 0 ≡ 64 → ⊥) → 2 ≤ get_or row i 0 → None ≡ scanned row
  element_above p e = misfit_scan row i l ((plain_shift i l (λ q. p (shift_is ss is i l ∙ q))).fit (get_or row i 0) ∙ le-ltb (get_or row i 0) 2 e)

pub scan_all : (row : List ℕ) (n i : ℕ) → i ≡ 100 → Scanning row n i → Some n ≡ scanned row
unfolding scanned all_fit
scan_all row n i e s =
    let f : all_to 100 (λ (j : ℕ). fits (at j) (get_or row j 0)) ≡ true = ap (λ (k : ℕ). all_to k (λ (j : ℕ). fits (at j) (get_or row j 0))) (sym e) ∙ s.fit in
    simp (f, s.sum, e)

-- a row of which the pass comes to a number
pub scan_fits : (row : List ℕ) (n : ℕ) → Some n ≡ scanned row → (all_fit row ≡ true) × (n ≡ weighed_to row 100)
unfolding scanned
scan_fits row n e = go (all_fit row) refl e
  where
    go : (t : Bool) → all_fit row ≡ t → Some n ≡ pick t (Some (weighed_to row 100)) None → (t ≡ true) × (n ≡ weighed_to row 100)
    go true h q = (refl, cc)
    go false h q = cc

pub scan_none_fits : (row : List ℕ) → None ≡ scanned row → all_fit row ≡ false
unfolding scanned
scan_none_fits row e = go (all_fit row) refl e
  where
    go : (t : Bool) → all_fit row ≡ t → None ≡ pick t (Some (weighed_to row 100)) None → t ≡ false
    go true h q = cc
    go false h q = refl

pub ruleset scans = (scan_none, turn_marker, turn_plain, marker_missing, element_above, scan_all, shift_low, sum_fits)

-- THE CALL

-- there is no fraction
pub no_fraction : (row : List ℕ) → tick_in (digits_in row) ≡ without_fraction (tick_in (digits_in row))
unfolding digits_of
no_fraction row = whole_second (digits_in row) refl

module _ (row : List ℕ) where
  abbrev ds : List ℕ
  ds = digits_in row

  pub read_short : length row < 100 → Err Refusal.ShortRow ≡ read_frame row
  unfolding read_frame read_refusal
  read_short l = simp (lt-ltb (length row) 100 l, short_row_named)

  module _ (l : 100 ≤ length row) where
    pub read_misfit : all_fit row ≡ false → Err Refusal.WrongMarker ≡ read_frame row
    unfolding read_frame read_refusal
    read_misfit e = simp (le-ltb (length row) 100 l, e, wrong_marker_named)

    module _ (f : all_fit row ≡ true) where
      pub read_spare : spares_clear row ≡ false → Err Refusal.SpareSet ≡ read_frame row
      unfolding read_frame read_refusal
      read_spare e = simp (le-ltb (length row) 100 l, f, e, spare_set_named)

      module _ (s : spares_clear row ≡ true) where
        -- 17 and 11 are those of time words
        pub read_refused : (r : Refusal) → read_digits ds ≡ Err r → Err r ≡ read_frame row
        unfolding read_frame read_refusal
        read_refused r z = go (decimal ds) refl (digits_in_range ds) refl
          where
            go : (d : Bool) → decimal ds ≡ d → (g : Bool) → digits_in_range ds ≡ g → Err r ≡ read_frame row
            go false d g e = sym z ∙ read_bad ds d ∙ simp (le-ltb (length row) 100 l, f, s, d, bad_digit_named)
            go true d false e = sym z ∙ read_outside ds d e ∙ simp (le-ltb (length row) 100 l, f, s, d, e, outside_time_named)
            go true d true e = cc (z, read_done ds d e)

        record Read (m : Moment) : Type 0 where
          digits : decimal ds ≡ true
          range : digits_in_range ds ≡ true
          is : m ≡ moment (day_in ds) (tick_in ds)

        read_tested : (m : Moment) → read_digits ds ≡ Ok m → Read m
        read_tested m z = go (decimal ds) refl (digits_in_range ds) refl
          where
            go : (d : Bool) → decimal ds ≡ d → (r : Bool) → digits_in_range ds ≡ r → Read m
            go false d r e = cc (z, read_bad ds d)
            go true d false e = cc (z, read_outside ds d e)
            go true d true e = record { digits = d; range = e; is = cc (z, read_done ds d e) }

        module _ (m : Moment) (z : read_digits ds ≡ Ok m) where
          tick_read : m.tick.ticks ≡ tick_in ds
          tick_read = ap (λ (t : Moment). t.tick.ticks) (read_tested m z).is

          pub read_differs : (m.tick.ticks ≡ field_in row Field.binary_seconds * 10000000 → ⊥) → Err Refusal.SecondsDiffer ≡ read_frame row
          unfolding read_frame read_refusal
          read_differs n =
              let q = read_tested m z in
              let w = no_fraction row in
              simp (le-ltb (length row) 100 l, f, s, q.digits, q.range, ne_eqb (field_in row Field.binary_seconds) (tick_in ds / 10000000) (λ e. n (tick_read ∙ w ∙ ap (λ (x : ℕ). x * 10000000) (sym e))), seconds_differ_named)

          pub read_time : m.tick.ticks ≡ field_in row Field.binary_seconds * 10000000 → Ok m ≡ read_frame row
          unfolding read_frame read_refusal
          read_time n =
              let q = read_tested m z in
              let e : field_in row Field.binary_seconds * 10000000 ≡ tick_in ds = sym n ∙ tick_read in
              ap Ok q.is ∙ sym (simp (le-ltb (length row) 100 l, f, s, q.digits, q.range, eq-eqb (field_in row Field.binary_seconds) (tick_in ds / 10000000) (omega arith)))

-- EACH RETURN OF THE CODE

pub frame_22 : (row : List ℕ) → 100 ≤ length row → None ≡ scanned row → Err Refusal.WrongMarker ≡ read_frame row
frame_22 row l e = read_misfit row l (scan_none_fits row e)

module _ (row : List ℕ) (n : ℕ) (l : 100 ≤ length row) (is : Some n ≡ scanned row) where
  all : all_fit row ≡ true
  all = (scan_fits row n is).0

  sum_is : n ≡ weighed_to row 100
  sum_is = (scan_fits row n is).1

  pub frame_23 : (k : ℕ) → k ≡ 9007199254740992 → k ≤ n → Err Refusal.SpareSet ≡ read_frame row
  frame_23 k e g = read_spare row l all (spare_set row all (rw (sym sum_is) (rw (sym e) g)))

  module _ (g : n < 9007199254740992) where
    small : weighed_to row 100 < 9007199254740992
    small = rw (sym sum_is) g

    clears : spares_clear row ≡ true
    clears = spare_clear row all small

    digits : read_words (words_in n) ≡ read_digits (digits_in row)
    digits = ap (λ (k : ℕ). read_words (words_in k)) sum_is ∙ digits_read row all small

    seconds : n / 2 ^ 36 ≡ field_in row Field.binary_seconds
    seconds = ap (λ (k : ℕ). k / 2 ^ 36) sum_is ∙ seconds_read row all small

    pub frame_digits : (r : Refusal) → Err r ≡ read_words (words_in n) → Err r ≡ read_frame row
    frame_digits r e = read_refused row l all clears r (sym digits ∙ sym e)

    pub frame_24 : (m : Moment) → Ok m ≡ read_words (words_in n) → (m.tick.ticks ≡ n / 2 ^ 36 * 10000000 → ⊥) → Err Refusal.SecondsDiffer ≡ read_frame row
    frame_24 m e d = read_differs row l all clears m (sym digits ∙ sym e) (λ q. d (q ∙ ap (λ (x : ℕ). x * 10000000) (sym seconds)))

    pub frame_0 : (m : Moment) → Ok m ≡ read_words (words_in n) → m.tick.ticks ≡ n / 2 ^ 36 * 10000000 → Ok m ≡ read_frame row
    frame_0 m e d = read_time row l all clears m (sym digits ∙ sym e) (d ∙ ap (λ (x : ℕ). x * 10000000) seconds)

pub ruleset frames = (read_short, frame_22, frame_23, frame_digits, frame_24, frame_0)
