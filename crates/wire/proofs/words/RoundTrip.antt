-- Time words, there and back. Words that were written are read as the same day and tick; words that are read are those that are written
-- for what was read. So no two times of a year share words, and nothing that reads has a second meaning. By the laws of digits.
-- Assumes nothing.
use Prim.Native.Nat.{ℕ, ◌*◌, ◌/◌, ◌%◌, ◌≤◌, ◌<◌}
use mathlib.Core.Path.{◌≡◌, refl, sym, ◌∙◌, ap, ap₂}
use mathlib.Core.Bool.{Bool, true, false, ◌&&◌, not}
use mathlib.Core.List.{List, [], ◌∷◌, ◌++◌}
use native.Mathlib.Omega.{arith}
use lib.Dec.{leb, lit<, lit≤}
use lib.ListN.{length, take, drop, replicate, length-drop}
use lib.Seq.{length-take-le}
use borrow.Author.Tests.{lt-ltb, le-leb, leb-true, ne_eqb, not-false}
use Rattle.std.specs.Prelude.{Ok, Err}
use Rattle.wire.specs.declared.numbers.Refusal.{Refusal}
use Rattle.wire.specs.declared.words.Moment.{Moment}
use Rattle.wire.specs.Digits.{pick, digits, num, below, packed, unpacked}
use Rattle.wire.specs.Numbers.{◌if◌, refusal, number_of, given_or}
use Rattle.wire.proofs.numbers.Laws.{given_zero, quiet_first}
use Rattle.wire.proofs.numbers.Names.{outside_time_named, given_number}
use Rattle.wire.specs.Time.{ticks_of_day, hour_of, minute_of, second_of, fraction_of, tick_at}
use Rattle.wire.specs.Words.{time_digits, words_of, writable, decimal, field, day_in, hour_in, minute_in, second_in, fraction_in, tick_in, in_range, digits_refusal, read_digits, moment, read_words, moment_read, zero_words, words_or_zero, write_words, words_written}
use Rattle.wire.proofs.digits.Laws.{and_left, and_right, below_both, below_more, zeros, cut, digits_below, written, read_part, part_below, unpack_packed, pack_unpacked, unpacked_length}
use Rattle.wire.proofs.time.Laws.{parts, hour_at, minute_at, second_at, fraction_at}
use Rattle.wire.proofs.words.Laws.{writable_day, writable_tick, read_done}

-- WRITTEN, THEN READ

module _ (day tick : ℕ) where
  digits_ten : below 10 (time_digits day tick) ≡ true
  unfolding time_digits below
  digits_ten = simp (below_both 10, digits_below 10 (lit< tt))

  pub digits_decimal : decimal (time_digits day tick) ≡ true
  unfolding decimal time_digits digits below
  digits_decimal = ap (λ (t : Bool). t && true) digits_ten

  same_digits : unpacked 16 4 (words_of day tick) ≡ time_digits day tick
  unfolding words_of time_digits digits
  same_digits = unpack_packed 16 (lit< tt) 4 5 (time_digits day tick) refl (below_more 10 16 (lit≤ tt) (time_digits day tick) digits_ten)

  module _ (w : writable day tick ≡ true) where
    pub day_back : day_in (time_digits day tick) ≡ day
    unfolding field time_digits digits
    day_back = written 10 (lit< tt) 3 day (let d = writable_day day tick w in omega arith)

    hour_back : hour_in (time_digits day tick) ≡ hour_of tick
    unfolding field time_digits digits hour_of
    hour_back = written 10 (lit< tt) 2 (tick / 36000000000) (let t = writable_tick day tick w in omega arith)

    minute_back : minute_in (time_digits day tick) ≡ minute_of tick
    unfolding field time_digits digits minute_of
    minute_back = written 10 (lit< tt) 2 (tick / 600000000 % 60) (omega arith)

    second_back : second_in (time_digits day tick) ≡ second_of tick
    unfolding field time_digits digits second_of
    second_back = written 10 (lit< tt) 2 (tick / 10000000 % 60) (omega arith)

    fraction_back : fraction_in (time_digits day tick) ≡ fraction_of tick
    unfolding field time_digits digits fraction_of
    fraction_back = written 10 (lit< tt) 7 (tick % 10000000) (omega arith)

    back_in_range : in_range day (hour_of tick) (minute_of tick) (second_of tick) ≡ true
    unfolding in_range hour_of minute_of second_of
    back_in_range =
        let d = writable_day day tick w in
        let t = writable_tick day tick w in
        simp (le-leb 1 day (omega arith), le-leb day 366 (omega arith), le-leb (tick / 36000000000) 23 (omega arith), le-leb (tick / 600000000 % 60) 59 (omega arith), le-leb (tick / 10000000 % 60) 59 (omega arith))

    pub digits_in_range_lem : in_range (day_in (time_digits day tick)) (hour_in (time_digits day tick)) (minute_in (time_digits day tick)) (second_in (time_digits day tick)) ≡ true
    digits_in_range_lem = simp (day_back, hour_back, minute_back, second_back) back_in_range

    pub tick_back : tick_in (time_digits day tick) ≡ tick
    tick_back = simp (hour_back, minute_back, second_back, fraction_back, parts)

    pub read_written : read_words (words_of day tick) ≡ Ok (moment day tick)
    unfolding read_words
    read_written =
        ap read_digits same_digits
        ∙ read_done (time_digits day tick) digits_decimal digits_in_range_lem
        ∙ ap₂ (λ (d t : ℕ). Ok (moment d t)) day_back tick_back

-- READ, THEN WRITTEN

in_range_lem : (day hour minute second : ℕ) → in_range day hour minute second ≡ true → (1 ≤ day) × (day ≤ 366) × (hour ≤ 23) × (minute ≤ 59) × (second ≤ 59)
unfolding in_range
in_range_lem day hour minute second e =
    let f = and_right (leb 1 day) (leb day 366 && (leb hour 23 && (leb minute 59 && leb second 59))) e in
    let g = and_right (leb day 366) (leb hour 23 && (leb minute 59 && leb second 59)) f in
    let h = and_right (leb hour 23) (leb minute 59 && leb second 59) g in (
      leb-true 1 day (and_left (leb 1 day) (leb day 366 && (leb hour 23 && (leb minute 59 && leb second 59))) e),
      leb-true day 366 (and_left (leb day 366) (leb hour 23 && (leb minute 59 && leb second 59)) f),
      leb-true hour 23 (and_left (leb hour 23) (leb minute 59 && leb second 59) g),
      leb-true minute 59 (and_left (leb minute 59) (leb second 59) h),
      leb-true second 59 (and_right (leb minute 59) (leb second 59) h),
    )

module _ (ds : List ℕ) (l : length ds ≡ 20) (x : decimal ds ≡ true) (r : in_range (day_in ds) (hour_in ds) (minute_in ds) (second_in ds) ≡ true) where
  ten : below 10 ds ≡ true
  unfolding decimal
  ten = and_left (below 10 ds) (below 1 (take 3 ds) && below 1 (drop 19 ds)) x

  spare : (below 1 (take 3 ds) && below 1 (drop 19 ds)) ≡ true
  unfolding decimal
  spare = and_right (below 10 ds) (below 1 (take 3 ds) && below 1 (drop 19 ds)) x

  front : take 3 ds ≡ 0 ∷ 0 ∷ 0 ∷ []
  front = zeros (take 3 ds) (and_left (below 1 (take 3 ds)) (below 1 (drop 19 ds)) spare) ∙ ap (λ (k : ℕ). replicate k 0) (length-take-le 3 ds (omega arith))

  end : drop 19 ds ≡ 0 ∷ []
  end =
      zeros (drop 19 ds) (and_right (below 1 (take 3 ds)) (below 1 (drop 19 ds)) spare)
      ∙ ap (λ (k : ℕ). replicate k 0) (let q : length (drop 19 ds) ≡ 1 = simp length-drop (omega arith) in q)

  -- the digits, field by field
  whole : ds ≡ take 3 ds ++ (take 3 (drop 3 ds) ++ (take 2 (drop 6 ds) ++ (take 2 (drop 8 ds) ++ (take 2 (drop 10 ds) ++ (take 7 (drop 12 ds) ++ drop 19 ds)))))
  whole = cc (cut 0 3 ds, cut 3 3 ds, cut 6 2 ds, cut 8 2 ds, cut 10 2 ds, cut 12 7 ds)

  small : fraction_in ds < 10000000
  unfolding field
  small = part_below 10 (lit< tt) 12 7 ds (omega arith) ten

  hour_again : hour_of (tick_in ds) ≡ hour_in ds
  hour_again = let q = in_range_lem _ _ _ _ r in hour_at (hour_in ds) (minute_in ds) (second_in ds) (fraction_in ds) (omega arith) (omega arith) small

  minute_again : minute_of (tick_in ds) ≡ minute_in ds
  minute_again = let q = in_range_lem _ _ _ _ r in minute_at (hour_in ds) (minute_in ds) (second_in ds) (fraction_in ds) (omega arith) (omega arith) small

  second_again : second_of (tick_in ds) ≡ second_in ds
  second_again = let q = in_range_lem _ _ _ _ r in second_at (hour_in ds) (minute_in ds) (second_in ds) (fraction_in ds) (omega arith) (omega arith) small

  fraction_again : fraction_of (tick_in ds) ≡ fraction_in ds
  fraction_again = let q = in_range_lem _ _ _ _ r in fraction_at (hour_in ds) (minute_in ds) (second_in ds) (fraction_in ds) (omega arith) (omega arith) small

  pub digits_again : time_digits (day_in ds) (tick_in ds) ≡ ds
  unfolding time_digits field
  digits_again =
      cc (
        whole,
        front,
        end,
        hour_again,
        minute_again,
        second_again,
        fraction_again,
        read_part 10 (lit< tt) 3 3 ds (omega arith) ten,
        read_part 10 (lit< tt) 6 2 ds (omega arith) ten,
        read_part 10 (lit< tt) 8 2 ds (omega arith) ten,
        read_part 10 (lit< tt) 10 2 ds (omega arith) ten,
        read_part 10 (lit< tt) 12 7 ds (omega arith) ten,
      )

  pub again_writable : writable (day_in ds) (tick_in ds) ≡ true
  unfolding writable tick_at
  again_writable =
      let q = in_range_lem _ _ _ _ r in
      simp (le-leb 1 (day_in ds) (omega arith), le-leb (day_in ds) 366 (omega arith), lt-ltb (tick_in ds) ticks_of_day (omega (arith, small)))

-- the number of a reading is that of its table
pub read_number_lem : (ws : List ℕ) → number_of (read_words ws) ≡ digits_refusal (unpacked 16 4 ws)
unfolding read_words read_digits digits_refusal
read_number_lem ws =
    let ds : List ℕ = unpacked 16 4 ws in
    given_number (17 if not (decimal ds) ∷ 11 if not (in_range (day_in ds) (hour_in ds) (minute_in ds) (second_in ds)) ∷ []) (moment (day_in ds) (tick_in ds)) refl

module _ (ws : List ℕ) (l : length ws ≡ 5) (b : below 65536 ws ≡ true) (m : Moment) (n : read_words ws ≡ Ok m) where
  abbrev ds : List ℕ
  ds = unpacked 16 4 ws

  tested : (decimal ds ≡ true) × (in_range (day_in ds) (hour_in ds) (minute_in ds) (second_in ds) ≡ true)
  unfolding digits_refusal
  tested =
      let in_range_lem : Bool = in_range (day_in ds) (hour_in ds) (minute_in ds) (second_in ds) in
      let q = (given_zero (17 if not (decimal ds) ∷ 11 if not in_range_lem ∷ []) refl).0 (sym (read_number_lem ws) ∙ ap number_of n) in
      let a = quiet_first (not (decimal ds)) _ q in
      (not-false (decimal ds) a.0, not-false in_range_lem (quiet_first (not in_range_lem) true a.1).0)

  twenty : length ds ≡ 20
  twenty = unpacked_length 16 (lit< tt) 4 ws ∙ ap (λ (k : ℕ). k * 4) l

  -- what was read is the time of the digits
  read_as_lem : m ≡ moment (day_in ds) (tick_in ds)
  unfolding read_words
  read_as_lem = cc (n, read_done ds tested.0 tested.1)

  -- words that are read are those of what was read
  pub written_read : words_of m.day m.tick.ticks ≡ ws
  unfolding words_of
  written_read =
      ap (λ (t : Moment). words_of t.day t.tick.ticks) read_as_lem
      ∙ ap (packed 16 4 5) (digits_again ds twenty tested.0 tested.1)
      ∙ ap (λ (k : ℕ). packed 16 4 k ds) (sym l)
      ∙ pack_unpacked 16 (lit< tt) 4 ws b

  pub read_writable : writable m.day m.tick.ticks ≡ true
  read_writable = ap (λ (t : Moment). writable t.day t.tick.ticks) read_as_lem ∙ again_writable ds twenty tested.0 tested.1

-- THE CALLS

-- what writing comes to, by the ranges
pub written_within : (day tick : ℕ) → writable day tick ≡ true → write_words day tick ≡ Ok (words_of day tick)
unfolding write_words
written_within day tick w = simp w

pub written_outside : (day tick : ℕ) → writable day tick ≡ false → write_words day tick ≡ Err Refusal.OutsideTime
unfolding write_words
written_outside day tick w = simp (w, outside_time_named)

module _ (day tick : ℕ) (ws : List ℕ) (e : write_words day tick ≡ Ok ws) where
  may_write : writable day tick ≡ true
  may_write = go (writable day tick) refl
    where
      go : (t : Bool) → writable day tick ≡ t → t ≡ true
      go true w = refl
      go false w = cc (written_outside day tick w)

  same_words : ws ≡ words_of day tick
  same_words = cc (e, written_within day tick may_write)

  -- words that are written read back as the same day and tick of day
  pub read_back : read_words ws ≡ Ok (moment day tick)
  read_back = ap read_words same_words ∙ read_written day tick may_write

-- words that read are written again as the same words
pub write_back : (ws : List ℕ) → length ws ≡ 5 → below 65536 ws ≡ true → (m : Moment) → read_words ws ≡ Ok m → write_words m.day m.tick.ticks ≡ Ok ws
write_back ws l b m n = written_within m.day m.tick.ticks (read_writable ws l b m n) ∙ ap Ok (written_read ws l b m n)

-- so no two times of a year are written as the same words
pub words_differ : (d t d' t' : ℕ) (ws : List ℕ) → write_words d t ≡ Ok ws → write_words d' t' ≡ Ok ws → (d ≡ d') × (t ≡ t')
words_differ d t d' t' ws w w' =
    let q : moment d t ≡ moment d' t' = cc (read_back d t ws w, read_back d' t' ws w') in
    (ap (λ (m : Moment). m.day) q, ap (λ (m : Moment). m.tick.ticks) q)

-- beside a refusal stand zeros: reading is refused by the number of its table, writing by 11
pub read_zeros : (ws : List ℕ) → (number_of (read_words ws) ≡ 0 → ⊥) → (read_words ws ≡ Err (refusal (digits_refusal (unpacked 16 4 ws)))) × (moment_read ws ≡ moment 0 0)
unfolding read_words read_digits
read_zeros ws h = let n = ne_eqb (digits_refusal (unpacked 16 4 ws)) 0 (λ e. h (read_number_lem ws ∙ e)) in (simp n, simp n)

pub write_zeros : (day tick : ℕ) → (number_of (write_words day tick) ≡ 0 → ⊥) → (write_words day tick ≡ Err Refusal.OutsideTime) × (words_written day tick ≡ zero_words)
write_zeros day tick h = go (writable day tick) refl
  where
    go : (t : Bool) → writable day tick ≡ t → (write_words day tick ≡ Err Refusal.OutsideTime) × (words_written day tick ≡ zero_words)
    go true w = absurd (h (ap number_of (written_within day tick w)))
    go false w = let e = written_outside day tick w in (e, ap (given_or zero_words) e)

-- the words alone are those that are written, and zeros where none are
pub words_alone : (day tick : ℕ) → words_or_zero day tick ≡ words_written day tick
unfolding words_or_zero
words_alone day tick = go (writable day tick) refl
  where
    go : (t : Bool) → writable day tick ≡ t → pick t (words_of day tick) zero_words ≡ words_written day tick
    go true w = sym (ap (given_or zero_words) (written_within day tick w))
    go false w = sym (ap (given_or zero_words) (written_outside day tick w))

-- five zero words are no time
pub zero_unread : read_words zero_words ≡ Err Refusal.OutsideTime
unfolding read_words read_digits digits_refusal decimal field in_range unpacked digits below num
zero_unread = ap Err outside_time_named
