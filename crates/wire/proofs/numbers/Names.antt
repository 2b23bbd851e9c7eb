-- The names of refusals and their numbers: each number from 1 to 25 has one name, and each name one number. Assumes nothing.
use Prim.Native.Nat.{ℕ, ◌≤◌}
use mathlib.Core.Path.{◌≡◌, refl, ap, sym, ◌∙◌}
use mathlib.Core.Bool.{Bool, true, false, ◌&&◌}
use mathlib.Core.List.{List, [], ◌∷◌}
use native.Mathlib.Omega.{arith}
use lib.Dec.{leb, eqb}
use borrow.Author.Tests.{eqb-true, eqb-false, ne_eqb, leb-true}
use Rattle.std.specs.Prelude.{Result, Ok, Err, suc, is_ok, IsErrAnd}
use Rattle.std.proofs.lemmas.Result.{err_from_is_err_and}
use Rattle.wire.specs.Digits.{pick}
use Rattle.wire.specs.Numbers.{Line, given, number, refusal, answered, number_of}
use Rattle.wire.specs.declared.numbers.Refusal.{Refusal}
use Rattle.wire.proofs.digits.Laws.{and_left, and_right}

pub no_register_named : refusal 1 ≡ Refusal.NoRegister
unfolding refusal
no_register_named = refl

pub wrong_direction_named : refusal 2 ≡ Refusal.WrongDirection
unfolding refusal
wrong_direction_named = refl

pub queue_full_named : refusal 3 ≡ Refusal.QueueFull
unfolding refusal
queue_full_named = refl

pub no_start_named : refusal 4 ≡ Refusal.NoStart
unfolding refusal
no_start_named = refl

pub too_long_named : refusal 5 ≡ Refusal.TooLong
unfolding refusal
too_long_named = refl

pub no_end_named : refusal 6 ≡ Refusal.NoEnd
unfolding refusal
no_end_named = refl

pub unknown_id_named : refusal 7 ≡ Refusal.UnknownId
unfolding refusal
unknown_id_named = refl

pub wrong_length_named : refusal 8 ≡ Refusal.WrongLength
unfolding refusal
wrong_length_named = refl

pub wrong_byte_named : refusal 9 ≡ Refusal.WrongByte
unfolding refusal
wrong_byte_named = refl

pub no_meaning_named : refusal 10 ≡ Refusal.NoMeaning
unfolding refusal
no_meaning_named = refl

pub outside_time_named : refusal 11 ≡ Refusal.OutsideTime
unfolding refusal
outside_time_named = refl

pub outside_divider_named : refusal 12 ≡ Refusal.OutsideDivider
unfolding refusal
outside_divider_named = refl

pub outside_strobe_named : refusal 13 ≡ Refusal.OutsideStrobe
unfolding refusal
outside_strobe_named = refl

pub short_row_named : refusal 14 ≡ Refusal.ShortRow
unfolding refusal
short_row_named = refl

pub over_a_day_named : refusal 15 ≡ Refusal.OverADay
unfolding refusal
over_a_day_named = refl

pub past_9999_named : refusal 16 ≡ Refusal.Past9999
unfolding refusal
past_9999_named = refl

pub bad_digit_named : refusal 17 ≡ Refusal.BadDigit
unfolding refusal
bad_digit_named = refl

pub unlawful_named : refusal 18 ≡ Refusal.Unlawful
unfolding refusal
unlawful_named = refl

pub not_saved_named : refusal 19 ≡ Refusal.NotSaved
unfolding refusal
not_saved_named = refl

pub outside_switch_named : refusal 20 ≡ Refusal.OutsideSwitch
unfolding refusal
outside_switch_named = refl

pub outside_period_named : refusal 21 ≡ Refusal.OutsidePeriod
unfolding refusal
outside_period_named = refl

pub wrong_marker_named : refusal 22 ≡ Refusal.WrongMarker
unfolding refusal
wrong_marker_named = refl

pub spare_set_named : refusal 23 ≡ Refusal.SpareSet
unfolding refusal
spare_set_named = refl

pub seconds_differ_named : refusal 24 ≡ Refusal.SecondsDiffer
unfolding refusal
seconds_differ_named = refl

pub jam_on_named : refusal 25 ≡ Refusal.JamOn
unfolding refusal
jam_on_named = refl

pub ruleset names = (no_register_named, wrong_direction_named, queue_full_named, no_start_named, too_long_named, no_end_named, unknown_id_named, wrong_length_named, wrong_byte_named, no_meaning_named, outside_time_named, outside_divider_named, outside_strobe_named, short_row_named, over_a_day_named, past_9999_named, bad_digit_named, unlawful_named, not_saved_named, outside_switch_named, outside_period_named, wrong_marker_named, spare_set_named, seconds_differ_named, jam_on_named)

-- the refusal of a refusal's number is that refusal
pub refusal_number : (r : Refusal) → refusal (number r) ≡ r
refusal_number Refusal.NoRegister = no_register_named
refusal_number Refusal.WrongDirection = wrong_direction_named
refusal_number Refusal.QueueFull = queue_full_named
refusal_number Refusal.NoStart = no_start_named
refusal_number Refusal.TooLong = too_long_named
refusal_number Refusal.NoEnd = no_end_named
refusal_number Refusal.UnknownId = unknown_id_named
refusal_number Refusal.WrongLength = wrong_length_named
refusal_number Refusal.WrongByte = wrong_byte_named
refusal_number Refusal.NoMeaning = no_meaning_named
refusal_number Refusal.OutsideTime = outside_time_named
refusal_number Refusal.OutsideDivider = outside_divider_named
refusal_number Refusal.OutsideStrobe = outside_strobe_named
refusal_number Refusal.ShortRow = short_row_named
refusal_number Refusal.OverADay = over_a_day_named
refusal_number Refusal.Past9999 = past_9999_named
refusal_number Refusal.BadDigit = bad_digit_named
refusal_number Refusal.Unlawful = unlawful_named
refusal_number Refusal.NotSaved = not_saved_named
refusal_number Refusal.OutsideSwitch = outside_switch_named
refusal_number Refusal.OutsidePeriod = outside_period_named
refusal_number Refusal.WrongMarker = wrong_marker_named
refusal_number Refusal.SpareSet = spare_set_named
refusal_number Refusal.SecondsDiffer = seconds_differ_named
refusal_number Refusal.JamOn = jam_on_named

-- and the number of a number's refusal is that number: one name after the other is passed by
name_step : (n k : ℕ) (r s : Refusal) (t : Bool) → eqb n k ≡ t → k ≤ n → number r ≡ k → (suc k ≤ n → number s ≡ n) → number (pick t r s) ≡ n
name_step n k r s true e l f g = f ∙ sym (eqb-true n k e)
name_step n k r s false e l f g = let d = eqb-false n k e in g (omega arith)

pub number_refusal : (n : ℕ) → 1 ≤ n → n ≤ 25 → number (refusal n) ≡ n
unfolding refusal
number_refusal n l1 h =
    name_step n 1 Refusal.NoRegister _ (eqb n 1) refl l1 refl (λ l2.
    name_step n 2 Refusal.WrongDirection _ (eqb n 2) refl l2 refl (λ l3.
    name_step n 3 Refusal.QueueFull _ (eqb n 3) refl l3 refl (λ l4.
    name_step n 4 Refusal.NoStart _ (eqb n 4) refl l4 refl (λ l5.
    name_step n 5 Refusal.TooLong _ (eqb n 5) refl l5 refl (λ l6.
    name_step n 6 Refusal.NoEnd _ (eqb n 6) refl l6 refl (λ l7.
    name_step n 7 Refusal.UnknownId _ (eqb n 7) refl l7 refl (λ l8.
    name_step n 8 Refusal.WrongLength _ (eqb n 8) refl l8 refl (λ l9.
    name_step n 9 Refusal.WrongByte _ (eqb n 9) refl l9 refl (λ l10.
    name_step n 10 Refusal.NoMeaning _ (eqb n 10) refl l10 refl (λ l11.
    name_step n 11 Refusal.OutsideTime _ (eqb n 11) refl l11 refl (λ l12.
    name_step n 12 Refusal.OutsideDivider _ (eqb n 12) refl l12 refl (λ l13.
    name_step n 13 Refusal.OutsideStrobe _ (eqb n 13) refl l13 refl (λ l14.
    name_step n 14 Refusal.ShortRow _ (eqb n 14) refl l14 refl (λ l15.
    name_step n 15 Refusal.OverADay _ (eqb n 15) refl l15 refl (λ l16.
    name_step n 16 Refusal.Past9999 _ (eqb n 16) refl l16 refl (λ l17.
    name_step n 17 Refusal.BadDigit _ (eqb n 17) refl l17 refl (λ l18.
    name_step n 18 Refusal.Unlawful _ (eqb n 18) refl l18 refl (λ l19.
    name_step n 19 Refusal.NotSaved _ (eqb n 19) refl l19 refl (λ l20.
    name_step n 20 Refusal.OutsideSwitch _ (eqb n 20) refl l20 refl (λ l21.
    name_step n 21 Refusal.OutsidePeriod _ (eqb n 21) refl l21 refl (λ l22.
    name_step n 22 Refusal.WrongMarker _ (eqb n 22) refl l22 refl (λ l23.
    name_step n 23 Refusal.SpareSet _ (eqb n 23) refl l23 refl (λ l24.
    name_step n 24 Refusal.SecondsDiffer _ (eqb n 24) refl l24 refl (λ l25.
    (omega arith)))))))))))))))))))))))))

-- the number of what a call comes to is the number that it comes to it by
pub answered_number : {A : Type 0} (n : ℕ) (a : A) → n ≤ 25 → number_of (answered n a) ≡ n
answered_number {A} n a h = go (eqb n 0) refl
  where
    go : (t : Bool) → eqb n 0 ≡ t → number_of (pick t (Ok a) (Err (refusal n))) ≡ n
    go true e = sym (eqb-true n 0 e)
    go false e = let d = eqb-false n 0 e in number_refusal n (omega arith) h

-- a table all of whose numbers have names
abbrev pub named : List Line → Bool
named [] = true
named (l ∷ ls) = leb l.number 25 && named ls

named_step : (t : Bool) (m g : ℕ) → m ≤ 25 → g ≤ 25 → pick t m g ≤ 25
named_step true m g h f = h
named_step false m g h f = f

pub given_named : (ls : List Line) → named ls ≡ true → given ls ≤ 25
given_named [] h = omega arith
given_named (l ∷ ls) h =
    named_step l.holds l.number (given ls) (leb-true l.number 25 (and_left (leb l.number 25) (named ls) h))
    (given_named ls (and_right (leb l.number 25) (named ls) h))

-- the number of what a call comes to by such a table is the number that the table gives
pub given_number : {A : Type 0} (ls : List Line) (a : A) → named ls ≡ true → number_of (answered (given ls) a) ≡ given ls
given_number ls a h = answered_number (given ls) a (given_named ls h)

-- no name has the number 0
pub number_least : (r : Refusal) → 1 ≤ number r
number_least Refusal.NoRegister = omega arith
number_least Refusal.WrongDirection = omega arith
number_least Refusal.QueueFull = omega arith
number_least Refusal.NoStart = omega arith
number_least Refusal.TooLong = omega arith
number_least Refusal.NoEnd = omega arith
number_least Refusal.UnknownId = omega arith
number_least Refusal.WrongLength = omega arith
number_least Refusal.WrongByte = omega arith
number_least Refusal.NoMeaning = omega arith
number_least Refusal.OutsideTime = omega arith
number_least Refusal.OutsideDivider = omega arith
number_least Refusal.OutsideStrobe = omega arith
number_least Refusal.ShortRow = omega arith
number_least Refusal.OverADay = omega arith
number_least Refusal.Past9999 = omega arith
number_least Refusal.BadDigit = omega arith
number_least Refusal.Unlawful = omega arith
number_least Refusal.NotSaved = omega arith
number_least Refusal.OutsideSwitch = omega arith
number_least Refusal.OutsidePeriod = omega arith
number_least Refusal.WrongMarker = omega arith
number_least Refusal.SpareSet = omega arith
number_least Refusal.SecondsDiffer = omega arith
number_least Refusal.JamOn = omega arith

-- a name's number refuses by that name
pub answered_refused : {A : Type 0} (r : Refusal) (a : A) → answered (number r) a ≡ Err r
answered_refused r a = let l = number_least r in simp (ne_eqb (number r) 0 (λ z. omega (arith, l, z)), refusal_number r)

-- what an outcome tells of its number
pub done_by : {A : Type 0} (n : ℕ) (a b : A) → answered n a ≡ Ok b → (n ≡ 0) × (a ≡ b)
done_by {A} n a b = go (eqb n 0) refl
  where
    go : (t : Bool) → eqb n 0 ≡ t → ◌≡◌ {A = Result A Refusal} (pick t (Ok a) (Err (refusal n))) (Ok b) → (n ≡ 0) × (a ≡ b)
    go true e h = (eqb-true n 0 e, cc)
    go false e h = absurd (cc)

pub refused_by : {A : Type 0} (n : ℕ) (a : A) (r : Refusal) → answered n a ≡ Err r → (eqb n 0 ≡ false) × (refusal n ≡ r)
refused_by {A} n a r = go (eqb n 0) refl
  where
    go : (t : Bool) → eqb n 0 ≡ t → ◌≡◌ {A = Result A Refusal} (pick t (Ok a) (Err (refusal n))) (Err r) → (eqb n 0 ≡ false) × (refusal n ≡ r)
    go true e h = absurd (cc)
    go false e h = (e, cc)

-- so the number of an outcome is 0 exactly if the call is done
pub number_zero : {A : Type 0} (r : Result A Refusal) → number_of r ≡ 0 → is_ok r ≡ true
number_zero (Ok a) e = refl
number_zero (Err r) e = let l = number_least r in absurd (omega (arith, l, e))

-- what a `?` hands on is the refusal that it met
pub passed_on : {A : Type 0} (r : Result A Refusal) (e : Refusal) → IsErrAnd r (λ x. x ≡ e) → r ≡ Err e
passed_on {A} r e h = let p = err_from_is_err_and r h in p.1 ∙ ap Err p.2
