-- What the code of time words rests on: a time's digits are ten pairs, and the fields of five words are pairs too. By the laws of digits.
-- Assumes nothing.
use Prim.Native.Nat.{ℕ, zero, suc, ◌+◌, ◌*◌, ◌/◌, ◌%◌, ◌≤◌, ◌<◌}
use mathlib.Core.Path.{◌≡◌, refl, sym, ◌∙◌, ap, ap₂}
use mathlib.Core.Bool.{Bool, true, false, ◌&&◌}
use mathlib.Core.List.{List, [], ◌∷◌, ◌++◌}
use native.Mathlib.Nat.{div-one, div-div-eq-div-mul}
use native.Mathlib.Omega.{arith}
use lib.Dec.{leb, ltb, eqb, lit<, leb-suc-suc, leb-suc-zero, eqb-suc-zero}
use lib.ListN.{length, take, drop, get_or, replicate}
use lib.Seq.{ext_get_or}
use borrow.Author.Tests.{lt-ltb, le-leb, ltb-true, ltb-false, leb-true}
use Rattle.std.specs.Prelude.{Ok, Err}
use Rattle.wire.specs.declared.numbers.Refusal.{Refusal}
use Rattle.wire.specs.declared.time.Ticks.{Ticks}
use Rattle.wire.proofs.numbers.Names.{bad_digit_named, outside_time_named}
use Rattle.wire.specs.Digits.{digits, num, below, packed, unpacked}
use Rattle.wire.specs.Time.{ticks_of_day, hour_of, minute_of, second_of, fraction_of, tick_at, without_fraction}
use Rattle.wire.specs.Words.{time_digits, pairs_of, words_of, words_or_zero, writable, decimal, field, day_in, hour_in, minute_in, second_in, fraction_in, tick_in, in_range, digits_refusal, read_digits, moment, read_words}
use Rattle.wire.proofs.digits.Laws.{and_left, and_right, and_assoc, and_true, below_at, below_both, below_append, digits_below, mod_div, digits_split, digits_mod_pow, digits_of_digits, unpacked_append, num_append, written, packed_length}

-- what `writable` tests
pub writable_day : (day tick : ℕ) → writable day tick ≡ true → (1 ≤ day) × (day ≤ 366)
unfolding writable
writable_day day tick e =
    let f = and_right (leb 1 day) (leb day 366 && ltb tick ticks_of_day) e in
    (leb-true 1 day (and_left (leb 1 day) (leb day 366 && ltb tick ticks_of_day) e), leb-true day 366 (and_left (leb day 366) (ltb tick ticks_of_day) f))

pub in_ranges : (day tick : ℕ) → 1 ≤ day → day ≤ 366 → tick < ticks_of_day → writable day tick ≡ true
unfolding writable
in_ranges day tick l h t = simp (le-leb 1 day l, le-leb day 366 h, lt-ltb tick ticks_of_day t)

-- the words of what is within the ranges
pub words_within : (day tick : ℕ) → 1 ≤ day → day ≤ 366 → tick < ticks_of_day → words_or_zero day tick ≡ words_of day tick
unfolding words_or_zero
words_within day tick l h t = simp (in_ranges day tick l h t)

pub writable_tick : (day tick : ℕ) → writable day tick ≡ true → tick < ticks_of_day
unfolding writable
writable_tick day tick e =
    let f = and_right (leb 1 day) (leb day 366 && ltb tick ticks_of_day) e in
    ltb-true tick ticks_of_day (and_right (leb day 366) (ltb tick ticks_of_day) f)

-- the third spare digit stands in front of the day's three
spare_in_front : (day : ℕ) → day < 1000 → 0 ∷ digits 10 3 day ≡ digits 10 4 day
unfolding digits
spare_in_front day h =
    let z : 0 ≡ day / 1000 % 10 = omega arith in
    ap (λ (x : ℕ). x ∷ digits 10 3 day) z

-- and the last one behind the fraction's seven
spare_behind : (f : ℕ) → digits 10 7 f ++ (0 ∷ []) ≡ digits 10 8 (f * 10)
unfolding digits
spare_behind f =
    let e : f ≡ f * 10 / 10 = omega arith in
    let z : 0 ≡ f * 10 / 1 % 10 = rw (div-one (f * 10)) (omega arith) in
    ap₂ (λ (x y : ℕ). digits 10 7 x ++ (y ∷ [])) e z ∙ sym (digits_split 10 (lit< tt) 7 1 (f * 10))

-- the digits of a time are ten pairs
pairs : (day tick : ℕ) → day < 1000 → time_digits day tick ≡ unpacked 10 2 (pairs_of day tick)
unfolding time_digits pairs_of unpacked digits
pairs day tick h =
    ap₂
    (λ (l m : List ℕ). 0 ∷ 0 ∷ (l ++ (digits 10 2 (hour_of tick) ++ (digits 10 2 (minute_of tick) ++ (digits 10 2 (second_of tick) ++ m)))))
    (spare_in_front day h ∙ sym (digits_of_digits 10 (lit< tt) 2 2 day))
    (spare_behind (fraction_of tick) ∙ sym (digits_of_digits 10 (lit< tt) 2 4 (fraction_of tick * 10)))
    ∙ ap (λ (l : List ℕ). 0 ∷ 0 ∷ l) (sym (unpacked_append 10 (lit< tt) 2 (digits 100 2 day) (hour_of tick ∷ minute_of tick ∷ second_of tick ∷ digits 100 4 (fraction_of tick * 10))))

-- each below a hundred
pairs_below : (day tick : ℕ) → tick < ticks_of_day → below 100 (pairs_of day tick) ≡ true
unfolding pairs_of below hour_of minute_of second_of
pairs_below day tick h =
    below_append 100 (digits 100 2 day) (hour_of tick ∷ minute_of tick ∷ second_of tick ∷ digits 100 4 (fraction_of tick * 10)) (digits_below 100 (lit< tt) 2 day)
    (simp (lt-ltb (hour_of tick) 100 (omega arith), lt-ltb (minute_of tick) 100 (omega arith), lt-ltb (second_of tick) 100 (omega arith), digits_below 100 (lit< tt) 4 (fraction_of tick * 10)))

pub pair_below : (day tick : ℕ) → tick < ticks_of_day → (ns : List ℕ) → ns ≡ pairs_of day tick → (i : ℕ) → i < 10 → get_or ns i 0 < 100
unfolding pairs_of digits
pair_below day tick h ns e i l = rw e (below_at 100 (pairs_of day tick) (pairs_below day tick h) i l)

-- two pairs are a word
pub word_of_pairs : (x y a b : ℕ) → a ≡ num 16 (digits 10 2 x) → b ≡ num 16 (digits 10 2 y) → a * 256 + b ≡ num 16 (digits 10 2 x ++ digits 10 2 y)
unfolding digits
word_of_pairs x y a b e f = rw (e, f) (sym (num_append 16 (lit< tt) (digits 10 2 x) (digits 10 2 y)))

-- the word of the pairs at i and behind it
abbrev pub word_at : List ℕ → ℕ → ℕ
word_at ns i = num 16 (digits 10 2 (get_or ns i 0) ++ digits 10 2 (get_or ns (suc i) 0))

-- two pairs to a word
words_of_pairs : (day tick : ℕ) → day < 1000 → (ns : List ℕ) → ns ≡ pairs_of day tick →
    word_at ns 0 ∷ word_at ns 2 ∷ word_at ns 4 ∷ word_at ns 6 ∷ word_at ns 8 ∷ [] ≡ words_of day tick
unfolding words_of pairs_of packed unpacked digits
words_of_pairs day tick h ns e =
    ap (λ (l : List ℕ). word_at l 0 ∷ word_at l 2 ∷ word_at l 4 ∷ word_at l 6 ∷ word_at l 8 ∷ []) e ∙ ap (packed 16 4 5) (sym (pairs day tick h))

pub five_words : (day tick : ℕ) → day < 1000 → (ns : List ℕ) → ns ≡ pairs_of day tick → {a b c d e : ℕ} →
    a ≡ word_at ns 0 → b ≡ word_at ns 2 → c ≡ word_at ns 4 → d ≡ word_at ns 6 → e ≡ word_at ns 8 → a ∷ b ∷ c ∷ d ∷ e ∷ [] ≡ words_of day tick
five_words day tick h ns e p q r s t = cc (p, q, r, s, t, words_of_pairs day tick h ns e)

-- What reading tests.

and_swap : (a r z s : Bool) → ((a && r) && (z && s)) ≡ ((a && z) && (r && s))
and_swap false r z s = refl
and_swap true true z s = refl
and_swap true false true s = refl
and_swap true false false s = refl

-- the first word has three spare digits, so it is below 10 as a whole
first_word : (a : ℕ) → a < 65536 → (t : Bool) → ltb a 10 ≡ t → (below 10 (digits 16 4 a) && below 1 (take 3 (digits 16 4 a))) ≡ t
unfolding digits num below
first_word a h true e =
    let l : a < 10 = ltb-true a 10 e in
    let x : a / 4096 % 16 ≡ 0 = omega arith in
    let y : a / 256 % 16 ≡ 0 = omega arith in
    let z : a / 16 % 16 ≡ 0 = omega arith in
    let u : a / 1 % 16 ≡ a = rw (div-one a) (omega arith) in
    simp (x, y, z, u, e)
first_word a h false e = go (below 10 (digits 16 4 a)) refl (below 1 (take 3 (digits 16 4 a))) refl
  where
    go : (s : Bool) → below 10 (digits 16 4 a) ≡ s → (t : Bool) → below 1 (take 3 (digits 16 4 a)) ≡ t → (s && t) ≡ false
    go false p t q = refl
    go true p false q = refl
    go true p true q =
        absurd
        (let g : 10 ≤ a = ltb-false a 10 e in
        let x : a / 4096 % 16 < 1 = below_at 1 (take 3 (digits 16 4 a)) q 0 (lit< tt) in
        let y : a / 256 % 16 < 1 = below_at 1 (take 3 (digits 16 4 a)) q 1 (lit< tt) in
        let z : a / 16 % 16 < 1 = below_at 1 (take 3 (digits 16 4 a)) q 2 (lit< tt) in
        let u : a / 1 % 16 < 10 = below_at 10 (digits 16 4 a) p 3 (lit< tt) in
        let v : a / 4096 % 16 * 4096 + (a / 256 % 16 * 256 + (a / 16 % 16 * 16 + (a / 1 % 16 * 1 + 0))) ≡ a = written 16 (lit< tt) 4 a h in
        omega arith)

shuffle : (a b c d e z s : Bool) → ((a && (b && (c && (d && (e && true))))) && (z && s)) ≡ ((a && z) && (b && (c && (d && (e && s)))))
shuffle a b c d e z s = and_swap a (b && (c && (d && (e && true)))) z s ∙ simp (and_assoc, and_true)

last_digit : (e : ℕ) → below 1 (drop 3 (digits 16 4 e)) ≡ eqb (e % 16) 0
unfolding digits below
last_digit e = rw (and_true, div-one e) (go (e % 16))
  where
    go : (n : ℕ) → ltb n 1 ≡ eqb n 0
    go zero = refl
    go (suc n) = leb-suc-suc (suc n) 0 ∙ leb-suc-zero n ∙ sym (eqb-suc-zero n)

apart : (a b c d e : ℕ) →
    below 10 (unpacked 16 4 (a ∷ b ∷ c ∷ d ∷ e ∷ []))
    ≡ (below 10 (digits 16 4 a) && (below 10 (digits 16 4 b) && (below 10 (digits 16 4 c) && (below 10 (digits 16 4 d) && (below 10 (digits 16 4 e) && true)))))
unfolding unpacked below
apart a b c d e = simp below_both

-- what the five words are tested for, word by word
pub decimal_words : (a b c d e : ℕ) → a < 65536 →
    decimal (unpacked 16 4 (a ∷ b ∷ c ∷ d ∷ e ∷ []))
    ≡ (ltb a 10 && (below 10 (digits 16 4 b) && (below 10 (digits 16 4 c) && (below 10 (digits 16 4 d) && (below 10 (digits 16 4 e) && eqb (e % 16) 0)))))
unfolding decimal unpacked digits below
decimal_words a b c d e h =
    ap (λ (t : Bool). t && (below 1 (take 3 (digits 16 4 a)) && below 1 (drop 3 (digits 16 4 e)))) (apart a b c d e)
    ∙ shuffle (below 10 (digits 16 4 a)) (below 10 (digits 16 4 b)) (below 10 (digits 16 4 c)) (below 10 (digits 16 4 d)) (below 10 (digits 16 4 e)) (below 1 (take 3 (digits 16 4 a))) (below 1 (drop 3 (digits 16 4 e)))
    ∙ ap₂ (λ (s t : Bool). s && (below 10 (digits 16 4 b) && (below 10 (digits 16 4 c) && (below 10 (digits 16 4 d) && (below 10 (digits 16 4 e) && t))))) (first_word a h (ltb a 10) refl) (last_digit e)

-- an array of five words is its five elements
pub five_of : (ws : List ℕ) → length ws ≡ 5 → ws ≡ get_or ws 0 0 ∷ get_or ws 1 0 ∷ get_or ws 2 0 ∷ get_or ws 3 0 ∷ get_or ws 4 0 ∷ []
five_of ws l =
    ext_get_or 0 ws (get_or ws 0 0 ∷ get_or ws 1 0 ∷ get_or ws 2 0 ∷ get_or ws 3 0 ∷ get_or ws 4 0 ∷ []) l (λ i h. at i (rw l at h))
  where
    at : (i : ℕ) → i < 5 → get_or ws i 0 ≡ get_or (get_or ws 0 0 ∷ get_or ws 1 0 ∷ get_or ws 2 0 ∷ get_or ws 3 0 ∷ get_or ws 4 0 ∷ []) i 0
    at zero h = refl
    at (suc zero) h = refl
    at (suc (suc zero)) h = refl
    at (suc (suc (suc zero))) h = refl
    at (suc (suc (suc (suc zero)))) h = refl
    at (suc (suc (suc (suc (suc i))))) h = absurd (omega arith)

-- What is read of five words: the fields, by pairs of digits.
module _ (a b c d e : ℕ) where
  abbrev ds : List ℕ
  ds = unpacked 16 4 (a ∷ b ∷ c ∷ d ∷ e ∷ [])

  pub day_in_lem : day_in ds ≡ a % 16 * 100 + num 10 (digits 16 2 (b / 256))
  unfolding field unpacked digits num
  day_in_lem = simp (div-div-eq-div-mul, div-one) (omega arith)

  pub hour_in_lem : hour_in ds ≡ num 10 (digits 16 2 (b % 256))
  unfolding field unpacked digits num
  hour_in_lem = ap (num 10) (sym (digits_mod_pow 16 (lit< tt) 2 b))

  pub minute_in_lem : minute_in ds ≡ num 10 (digits 16 2 (c / 256))
  unfolding field unpacked digits num
  minute_in_lem = simp div-div-eq-div-mul

  pub second_in_lem : second_in ds ≡ num 10 (digits 16 2 (c % 256))
  unfolding field unpacked digits num
  second_in_lem = ap (num 10) (sym (digits_mod_pow 16 (lit< tt) 2 c))

  pub fraction_in_lem : fraction_in ds ≡ num 10 (digits 16 4 d ++ take 3 (digits 16 4 e))
  unfolding field unpacked digits num
  fraction_in_lem = refl

  -- the code's fields are the page's
  module _ (v h m s : ℕ) (ev : v ≡ num 10 (digits 16 2 (b / 256))) (eh : h ≡ num 10 (digits 16 2 (b % 256)))
      (em : m ≡ num 10 (digits 16 2 (c / 256))) (es : s ≡ num 10 (digits 16 2 (c % 256))) where
    pub range_in : in_range (day_in ds) (hour_in ds) (minute_in ds) (second_in ds) ≡ in_range (a % 16 * 100 + v) h m s
    range_in = cc (day_in_lem, hour_in_lem, minute_in_lem, second_in_lem)

    pub time_in : (f t : ℕ) → f ≡ num 10 (digits 16 4 d ++ take 3 (digits 16 4 e)) → t ≡ tick_at h m s f → moment (a % 16 * 100 + v) t ≡ moment (day_in ds) (tick_in ds)
    time_in f t ef et = cc (day_in_lem, hour_in_lem, minute_in_lem, second_in_lem, fraction_in_lem)

-- the fraction by pairs of digits
high_pairs : (d : ℕ) → num 10 (digits 16 4 d) ≡ num 10 (digits 16 2 (d / 256)) * 100 + num 10 (digits 16 2 (d % 256))
unfolding digits
high_pairs d =
    ap (num 10) (digits_split 16 (lit< tt) 2 2 d)
    ∙ num_append 10 (lit< tt) (digits 16 2 (d / 256)) (digits 16 2 d)
    ∙ ap (λ (l : List ℕ). num 10 (digits 16 2 (d / 256)) * 100 + num 10 l) (sym (digits_mod_pow 16 (lit< tt) 2 d))

low_digits : (e : ℕ) → num 10 (take 3 (digits 16 4 e)) ≡ num 10 (digits 16 2 (e / 256)) * 10 + e % 256 / 16
unfolding digits num
low_digits e = simp div-div-eq-div-mul (omega (arith, mod_div e {m = 16} {c = 16} (lit< tt) (lit< tt)))

seven_digits : (d e : ℕ) → num 10 (digits 16 4 d ++ take 3 (digits 16 4 e)) ≡ num 10 (digits 16 4 d) * 1000 + num 10 (take 3 (digits 16 4 e))
unfolding digits
seven_digits d e = num_append 10 (lit< tt) (digits 16 4 d) (take 3 (digits 16 4 e))

pub fraction_by_pairs : (d e : ℕ) →
    num 10 (digits 16 4 d ++ take 3 (digits 16 4 e))
    ≡ num 10 (digits 16 2 (d / 256)) * 100000 + num 10 (digits 16 2 (d % 256)) * 1000 + num 10 (digits 16 2 (e / 256)) * 10 + e % 256 / 16
fraction_by_pairs d e = omega (arith, seven_digits d e, high_pairs d, low_digits e)

-- the table of reading, line by line
module _ (ds : List ℕ) where
  abbrev range : Bool
  range = in_range (day_in ds) (hour_in ds) (minute_in ds) (second_in ds)

  pub read_bad : decimal ds ≡ false → read_digits ds ≡ Err Refusal.BadDigit
  unfolding read_digits digits_refusal
  read_bad e = simp (e, bad_digit_named)

  pub read_outside : decimal ds ≡ true → range ≡ false → read_digits ds ≡ Err Refusal.OutsideTime
  unfolding read_digits digits_refusal
  read_outside e f = simp (e, f, outside_time_named)

  pub read_done : decimal ds ≡ true → range ≡ true → read_digits ds ≡ Ok (moment (day_in ds) (tick_in ds))
  unfolding read_digits digits_refusal
  read_done e f = simp (e, f)

-- WHAT THE CODE COMES TO, BY ITS TESTS

-- the test of five words is one for each word, and one for the last digit
pub tested_words : (ws : List ℕ) → length ws ≡ 5 → get_or ws 0 0 < 65536 →
    decimal (unpacked 16 4 ws)
    ≡ (ltb (get_or ws 0 0) 10 && (below 10 (digits 16 4 (get_or ws 1 0)) && (below 10 (digits 16 4 (get_or ws 2 0)) && (below 10 (digits 16 4 (get_or ws 3 0)) && (below 10 (digits 16 4 (get_or ws 4 0)) && eqb (get_or ws 4 0 % 16) 0)))))
tested_words ws l h = ap (λ (l : List ℕ). decimal (unpacked 16 4 l)) (five_of ws l) ∙ decimal_words (get_or ws 0 0) (get_or ws 1 0) (get_or ws 2 0) (get_or ws 3 0) (get_or ws 4 0) h

pub words_bad : (ws : List ℕ) → decimal (unpacked 16 4 ws) ≡ false → read_words ws ≡ Err Refusal.BadDigit
unfolding read_words
words_bad ws x = read_bad (unpacked 16 4 ws) x

module _ (ws : List ℕ) (v h m s : ℕ) (l : length ws ≡ 5) (x : decimal (unpacked 16 4 ws) ≡ true)
    (ev : v ≡ num 10 (digits 16 2 (get_or ws 1 0 / 256))) (eh : h ≡ num 10 (digits 16 2 (get_or ws 1 0 % 256)))
    (em : m ≡ num 10 (digits 16 2 (get_or ws 2 0 / 256))) (es : s ≡ num 10 (digits 16 2 (get_or ws 2 0 % 256))) where
  abbrev five : List ℕ
  five = get_or ws 0 0 ∷ get_or ws 1 0 ∷ get_or ws 2 0 ∷ get_or ws 3 0 ∷ get_or ws 4 0 ∷ []

  same : read_words ws ≡ read_digits (unpacked 16 4 five)
  unfolding read_words
  same = ap (λ (l : List ℕ). read_digits (unpacked 16 4 l)) (five_of ws l)

  good : decimal (unpacked 16 4 five) ≡ true
  good = ap (λ (l : List ℕ). decimal (unpacked 16 4 l)) (sym (five_of ws l)) ∙ x

  ranges : in_range (day_in (unpacked 16 4 five)) (hour_in (unpacked 16 4 five)) (minute_in (unpacked 16 4 five)) (second_in (unpacked 16 4 five)) ≡ in_range (get_or ws 0 0 % 16 * 100 + v) h m s
  ranges = range_in (get_or ws 0 0) (get_or ws 1 0) (get_or ws 2 0) (get_or ws 3 0) (get_or ws 4 0) v h m s ev eh em es

  pub words_outside : in_range (get_or ws 0 0 % 16 * 100 + v) h m s ≡ false → read_words ws ≡ Err Refusal.OutsideTime
  words_outside r = same ∙ read_outside (unpacked 16 4 five) good (ranges ∙ r)

  pub words_read : (f : ℕ) (t : Ticks) → in_range (get_or ws 0 0 % 16 * 100 + v) h m s ≡ true
      → f ≡ num 10 (digits 16 4 (get_or ws 3 0) ++ take 3 (digits 16 4 (get_or ws 4 0))) → t.ticks ≡ tick_at h m s f
      → read_words ws ≡ Ok (record { day = get_or ws 0 0 % 16 * 100 + v; tick = t })
  words_read f t r ef et =
      same
      ∙ read_done (unpacked 16 4 five) good (ranges ∙ r)
      ∙ ap Ok (sym (time_in (get_or ws 0 0) (get_or ws 1 0) (get_or ws 2 0) (get_or ws 3 0) (get_or ws 4 0) v h m s ev eh em es f t.ticks ef et))

-- there are five of them
pub words_five : (day tick : ℕ) → length (words_of day tick) ≡ 5
unfolding words_of
words_five day tick = packed_length 16 4 5 (time_digits day tick)

-- WORDS AND THEIR DIGITS, FOR THOSE WHO TAKE A TIME APART

-- words are read by their digits
pub read_by_digits : (ws : List ℕ) → read_words ws ≡ read_digits (unpacked 16 4 ws)
unfolding read_words
read_by_digits ws = refl

module _ (day tick : ℕ) where
  -- the first three words: day, hour, minute and second
  pub hundreds_word : get_or (words_of day tick) 0 0 ≡ day / 100 % 10
  unfolding words_of packed time_digits digits num
  hundreds_word = omega arith

  pub days_and_hours_word : get_or (words_of day tick) 1 0 ≡ (day / 10 % 10 * 16 + day % 10) * 256 + (hour_of tick / 10 % 10 * 16 + hour_of tick % 10)
  unfolding words_of packed time_digits digits num
  days_and_hours_word = simp div-one (omega arith)

  pub minutes_and_seconds_word : get_or (words_of day tick) 2 0 ≡ (minute_of tick / 10 % 10 * 16 + minute_of tick % 10) * 256 + (second_of tick / 10 % 10 * 16 + second_of tick % 10)
  unfolding words_of packed time_digits digits num
  minutes_and_seconds_word = simp div-one (omega arith)

  -- and their digits, with the fraction behind them
  pub time_digits_lem : time_digits day tick
      ≡ 0 ∷ 0 ∷ 0 ∷ day / 100 % 10 ∷ day / 10 % 10 ∷ day % 10 ∷ hour_of tick / 10 % 10 ∷ hour_of tick % 10
      ∷ minute_of tick / 10 % 10 ∷ minute_of tick % 10 ∷ second_of tick / 10 % 10 ∷ second_of tick % 10 ∷ (digits 10 7 (fraction_of tick) ++ (0 ∷ []))
  unfolding time_digits digits
  time_digits_lem = simp div-one

-- digits without a fraction write a whole second
pub whole_second : (ds : List ℕ) → take 7 (drop 12 ds) ≡ replicate 7 0 → tick_in ds ≡ without_fraction (tick_in ds)
unfolding field num tick_at
whole_second ds z = let f : fraction_in ds ≡ 0 = ap (num 10) z in omega arith
