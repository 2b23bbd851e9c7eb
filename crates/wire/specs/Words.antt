-- Time words: five words, four decimal digits a word, highest digit first.
use Rattle.std.specs.Prelude.{ℕ, ◌*◌, Bool, ◌&&◌, not, List, [], ◌∷◌, ◌++◌, Result, take, drop, leb, ltb}
use Rattle.wire.specs.Digits.{pick, digits, num, below, packed, unpacked}
use Rattle.wire.specs.Numbers.{◌if◌, given, answered, given_or}
use Rattle.wire.specs.Time.{ticks_of_day, hour_of, minute_of, second_of, fraction_of, tick_at}
use Rattle.wire.specs.declared.numbers.Refusal.{Refusal}
use Rattle.wire.specs.declared.words.Moment.{Moment}

-- the digits of the table, word for word
unfoldable pub time_digits : ℕ → ℕ → List ℕ
time_digits day tick =
    (0 ∷ 0 ∷ 0 ∷ [])
    ++ (digits 10 3 day
    ++ (digits 10 2 (hour_of tick)
    ++ (digits 10 2 (minute_of tick)
    ++ (digits 10 2 (second_of tick)
    ++ (digits 10 7 (fraction_of tick)
    ++ (0 ∷ []))))))

unfoldable pub words_of : ℕ → ℕ → List ℕ
words_of day tick = packed 16 4 5 (time_digits day tick)

-- the ranges of what words are written for
unfoldable pub writable : ℕ → ℕ → Bool
writable day tick = leb 1 day && (leb day 366 && ltb tick ticks_of_day)

abbrev pub zero_words : List ℕ
zero_words = 0 ∷ 0 ∷ 0 ∷ 0 ∷ 0 ∷ []

-- the words of a time, five zero words where there is none
unfoldable pub words_or_zero : ℕ → ℕ → List ℕ
words_or_zero day tick = pick (writable day tick) (words_of day tick) zero_words

-- writing words: 11 outside the ranges
unfoldable pub write_words : ℕ → ℕ → Result (List ℕ) Refusal
write_words day tick = answered (given (11 if not (writable day tick) ∷ [])) (words_of day tick)

-- the words that stand beside its number: five zero words beside a refusal
abbrev pub words_written : ℕ → ℕ → List ℕ
words_written day tick = given_or zero_words (write_words day tick)

-- the number that k of the twenty digits write, from place i on
unfoldable pub field : ℕ → ℕ → List ℕ → ℕ
field i k ds = num 10 (take k (drop i ds))

abbrev pub day_in : List ℕ → ℕ
day_in ds = field 3 3 ds

abbrev pub hour_in : List ℕ → ℕ
hour_in ds = field 6 2 ds

abbrev pub minute_in : List ℕ → ℕ
minute_in ds = field 8 2 ds

abbrev pub second_in : List ℕ → ℕ
second_in ds = field 10 2 ds

abbrev pub fraction_in : List ℕ → ℕ
fraction_in ds = field 12 7 ds

abbrev pub tick_in : List ℕ → ℕ
tick_in ds = tick_at (hour_in ds) (minute_in ds) (second_in ds) (fraction_in ds)

-- no digit above 9, and the four spare ones, three in front and one at the end, zero
unfoldable pub decimal : List ℕ → Bool
decimal ds = below 10 ds && (below 1 (take 3 ds) && below 1 (drop 19 ds))

-- the ranges of what is read
unfoldable pub in_range : ℕ → ℕ → ℕ → ℕ → Bool
in_range day hour minute second = leb 1 day && (leb day 366 && (leb hour 23 && (leb minute 59 && leb second 59)))

-- the table: 17, and after that 11
unfoldable pub digits_refusal : List ℕ → ℕ
digits_refusal ds =
    given
    (17 if not (decimal ds)
    ∷ 11 if not (in_range (day_in ds) (hour_in ds) (minute_in ds) (second_in ds))
    ∷ [])

-- a day and a tick of it
abbrev pub moment : ℕ → ℕ → Moment
moment day tick = record { day = day; tick = record { ticks = tick } }

unfoldable pub read_digits : List ℕ → Result Moment Refusal
read_digits ds = answered (digits_refusal ds) (moment (day_in ds) (tick_in ds))

-- reading words
unfoldable pub read_words : List ℕ → Result Moment Refusal
read_words ws = read_digits (unpacked 16 4 ws)

-- the day and the tick that stand beside its number: day 0 and tick 0 beside a refusal
abbrev pub moment_read : List ℕ → Moment
moment_read ws = given_or (moment 0 0) (read_words ws)

-- WITHIN THE CRATE

-- the twenty digits of a time two at a time, as numbers: digits of base 100
unfoldable pub pairs_of : ℕ → ℕ → List ℕ
pairs_of day tick = 0 ∷ (digits 100 2 day ++ (hour_of tick ∷ minute_of tick ∷ second_of tick ∷ digits 100 4 (fraction_of tick * 10)))
