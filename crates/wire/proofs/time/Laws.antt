-- A tick of day is its hour, minute, second and fraction, and these are its own. By division with remainder. Assumes nothing.
use Prim.Native.Nat.{ℕ, ◌+◌, ◌*◌, ◌/◌, ◌%◌, ◌<◌}
use mathlib.Core.Path.{◌≡◌, sym, ◌∙◌, ap}
use native.Mathlib.Nat.{div-div-eq-div-mul, div-add-mod'}
use native.Mathlib.Omega.{arith}
use lib.Arith.{digits_div, digits_mod}
use Rattle.wire.specs.Time.{ticks_of_day, hour_of, minute_of, second_of, fraction_of, tick_at, without_fraction}

-- put together again, the parts of a tick of day are that tick
pub parts : (t : ℕ) → tick_at (hour_of t) (minute_of t) (second_of t) (fraction_of t) ≡ t
unfolding tick_at hour_of minute_of second_of fraction_of
parts t =
    let a : t / 10000000 / 60 ≡ t / 600000000 = div-div-eq-div-mul t 10000000 60 in
    let b : t / 600000000 / 60 ≡ t / 36000000000 = div-div-eq-div-mul t 600000000 60 in
    rw (← b, div-add-mod' (t / 600000000) 60, ← a, div-add-mod' (t / 10000000) 60) (div-add-mod' t 10000000)

module _ (h m s f : ℕ) (hm : m < 60) (hs : s < 60) (hf : f < 10000000) where
  seconds : tick_at h m s f / 10000000 ≡ (h * 60 + m) * 60 + s
  unfolding tick_at
  seconds = digits_div ((h * 60 + m) * 60 + s) hf

  minutes : tick_at h m s f / 600000000 ≡ h * 60 + m
  minutes = sym (div-div-eq-div-mul (tick_at h m s f) 10000000 60) ∙ ap (λ (x : ℕ). x / 60) seconds ∙ digits_div (h * 60 + m) hs

  pub hour_at : hour_of (tick_at h m s f) ≡ h
  unfolding hour_of
  hour_at = sym (div-div-eq-div-mul (tick_at h m s f) 600000000 60) ∙ ap (λ (x : ℕ). x / 60) minutes ∙ digits_div h hm

  pub minute_at : minute_of (tick_at h m s f) ≡ m
  unfolding minute_of
  minute_at = ap (λ (x : ℕ). x % 60) minutes ∙ digits_mod h hm

  pub second_at : second_of (tick_at h m s f) ≡ s
  unfolding second_of
  second_at = ap (λ (x : ℕ). x % 60) seconds ∙ digits_mod (h * 60 + m) hs

  pub fraction_at : fraction_of (tick_at h m s f) ≡ f
  unfolding fraction_of tick_at
  fraction_at = digits_mod ((h * 60 + m) * 60 + s) hf

-- a tick of day without its fraction has the same hour, minute and second

module _ (t : ℕ) where
  pub hour_whole : hour_of (without_fraction t) ≡ hour_of t
  unfolding hour_of
  hour_whole = omega arith

  pub minute_whole : minute_of (without_fraction t) ≡ minute_of t
  unfolding minute_of
  minute_whole = omega arith

  pub second_whole : second_of (without_fraction t) ≡ second_of t
  unfolding second_of
  second_whole = omega arith

  pub fraction_whole : fraction_of (without_fraction t) ≡ 0
  unfolding fraction_of
  fraction_whole = omega arith

-- and all of them are small

pub hour_below : (t : ℕ) → t < ticks_of_day → hour_of t < 24
unfolding hour_of
hour_below t l = omega arith

pub minute_below : (t : ℕ) → minute_of t < 60
unfolding minute_of
minute_below t = omega arith

pub second_below : (t : ℕ) → second_of t < 60
unfolding second_of
second_below t = omega arith
