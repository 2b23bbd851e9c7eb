-- The pairs of a time, counted in shares of a unit: of its day, of the second of the day and of the fraction of the second, each from the highest pair down. By `digits/Shares`.
-- Assumes nothing.
use Prim.Native.Nat.{ℕ, ◌-◌, ◌*◌, ◌/◌, ◌%◌, ◌<◌}
use mathlib.Core.Path.{◌≡◌, refl, sym, ◌∙◌, ap, ap₂, subst}
use mathlib.Core.List.{List, [], ◌∷◌, ◌++◌}
use native.Mathlib.Nat.{div-one, mod-eq_of_lt, div-div-eq-div-mul}
use native.Mathlib.Omega.{arith}
use lib.Dec.{lit<}
use Rattle.wire.specs.Digits.{digits, Splits}
use Rattle.wire.specs.declared.digits.Counted.{Counted}
use Rattle.wire.specs.Time.{ticks_of_day, hour_of, minute_of, second_of, fraction_of, whole_seconds}
use Rattle.wire.specs.Words.{pairs_of}
use Rattle.wire.proofs.digits.Shares.{Gives, rounded_up, counted, rest_gives, finer, digit, next}

-- the code's factors: what one of the smaller is in shares of the larger
abbrev day_in_hundreds : ℕ
day_in_hundreds = 1407374883554

abbrev second_in_hours : ℕ
second_in_hours = 39093746766

abbrev tenth_in_hundredths : ℕ
tenth_in_hundredths = 140737489

abbrev block_in_seconds : ℕ
block_in_seconds = 1801439851

-- where n is below f units, all of it is given
all_given : {x : ℕ} (n f u : ℕ) → n < f * u → Gives x n u → Gives x (n % (f * u)) u
all_given {x} n f u h t = subst (λ (m : ℕ). Gives x m u) (sym (mod-eq_of_lt h)) t

-- the whole seconds
pub seconds_in_blocks : (tick : ℕ) → tick < ticks_of_day → {a : Counted} → Splits (tick / 128 * block_in_seconds) a → a.count ≡ whole_seconds tick
seconds_in_blocks tick h s =
    counted (lit< tt) (rounded_up (tick / 128) block_in_seconds 78125 4047 refl (omega arith)) s ∙ div-div-eq-div-mul tick 128 78125

-- the day
module _ (n : ℕ) (h : n < 1000) {a b : Counted} (s : Splits (n * day_in_hundreds) a) (t : Splits (a.rest * 100) b) where
  hundreds : Gives (n * day_in_hundreds) (n % 10000) 100
  hundreds = all_given n 100 100 (omega arith) (rounded_up n day_in_hundreds 100 72 refl (omega arith))

  days : Gives (a.rest * 100) (n % 100) 1
  days = next n 100 100 (lit< tt) (lit< tt) hundreds s 100 1 refl

  day_pairs : a.count ∷ b.count ∷ [] ≡ digits 100 2 n
  unfolding digits
  day_pairs = cc (digit n 100 100 (lit< tt) (lit< tt) hundreds s, digit n 100 1 (lit< tt) (lit< tt) days t)

-- the second of the day
module _ (n : ℕ) (h : n < 86400) {a b c : Counted} (s : Splits (n * second_in_hours) a) (t : Splits (a.rest * 60) b) (u : Splits (b.rest * 60) c) where
  hours : Gives (n * second_in_hours) n 3600
  hours = rounded_up n second_in_hours 3600 2272 refl (omega arith)

  minutes : Gives (a.rest * 60) (n % 3600) 60
  minutes = finer 60 60 (rest_gives (lit< tt) hours s)

  seconds : Gives (b.rest * 60) (n % 60) 1
  seconds = next n 60 60 (lit< tt) (lit< tt) minutes t 60 1 refl

  hour : a.count ≡ n / 3600
  hour = counted (lit< tt) hours s

  minute : b.count ≡ n / 60 % 60
  minute = digit n 60 60 (lit< tt) (lit< tt) minutes t

  second : c.count ≡ n % 60
  second = digit n 60 1 (lit< tt) (lit< tt) seconds u ∙ ap (λ (m : ℕ). m % 60) (div-one n)

-- the fraction of the second, and a spare digit behind it
module _ (n : ℕ) (h : n < 100000000) {a b c d : Counted}
    (s : Splits (n * tenth_in_hundredths) a) (t : Splits (a.rest * 100) b) (u : Splits (b.rest * 100) c) (v : Splits (c.rest * 100) d) where
  hundredths : Gives (n * tenth_in_hundredths) (n % 100000000) 1000000
  hundredths = all_given n 100 1000000 h (rounded_up n tenth_in_hundredths 1000000 644672 refl (omega arith))

  ten_thousandths_lem : Gives (a.rest * 100) (n % 1000000) 10000
  ten_thousandths_lem = next n 100 1000000 (lit< tt) (lit< tt) hundredths s 100 10000 refl

  millionths : Gives (b.rest * 100) (n % 10000) 100
  millionths = next n 100 10000 (lit< tt) (lit< tt) ten_thousandths_lem t 100 100 refl

  last : Gives (c.rest * 100) (n % 100) 1
  last = next n 100 100 (lit< tt) (lit< tt) millionths u 100 1 refl

  fraction_pairs : a.count ∷ b.count ∷ c.count ∷ d.count ∷ [] ≡ digits 100 4 n
  unfolding digits
  fraction_pairs =
      cc (
        digit n 100 1000000 (lit< tt) (lit< tt) hundredths s,
        digit n 100 10000 (lit< tt) (lit< tt) ten_thousandths_lem t,
        digit n 100 100 (lit< tt) (lit< tt) millionths u,
        digit n 100 1 (lit< tt) (lit< tt) last v,
      )

-- all of them
pub ten_pairs : (day tick whole : ℕ) → day < 1000 → tick < ticks_of_day → whole ≡ whole_seconds tick → {a b c d e f g h i : Counted} →
    Splits (day * day_in_hundreds) a → Splits (a.rest * 100) b →
    Splits (whole * second_in_hours) c → Splits (c.rest * 60) d → Splits (d.rest * 60) e →
    Splits ((tick - whole * 10000000) * 10 * tenth_in_hundredths) f → Splits (f.rest * 100) g → Splits (g.rest * 100) h → Splits (h.rest * 100) i →
    0 ∷ a.count ∷ b.count ∷ c.count ∷ d.count ∷ e.count ∷ f.count ∷ g.count ∷ h.count ∷ i.count ∷ [] ≡ pairs_of day tick
unfolding pairs_of hour_of minute_of second_of fraction_of
ten_pairs day tick whole l m w ta tb tc td te tf tg th ti =
    let tenths : (tick - whole * 10000000) * 10 ≡ tick % 10000000 * 10 = omega arith in
    let hour-is = hour whole (omega arith) tc td te ∙ ap (λ (n : ℕ). n / 3600) w ∙ div-div-eq-div-mul tick 10000000 3600 in
    let minute-is = minute whole (omega arith) tc td te ∙ ap (λ (n : ℕ). n / 60 % 60) w ∙ ap (λ (n : ℕ). n % 60) (div-div-eq-div-mul tick 10000000 60) in
    let second_is = second whole (omega arith) tc td te ∙ ap (λ (n : ℕ). n % 60) w in
    let fraction-is = fraction_pairs ((tick - whole * 10000000) * 10) (omega arith) tf tg th ti ∙ ap (digits 100 4) tenths in
    ap₂ (λ (x y : List ℕ). 0 ∷ (x ++ y)) (day_pairs day l ta tb) (cc (hour-is, minute-is, second_is, fraction-is))
