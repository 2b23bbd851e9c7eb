-- A frame is read by its hundred elements: nothing behind place 99 is looked at. Assumes nothing.
use Prim.Native.Nat.{ℕ, ◌≤◌, ◌<◌}
use mathlib.Core.Path.{◌≡◌, ap}
use mathlib.Core.List.{List}
use native.Mathlib.Omega.{arith}
use lib.ListN.{length, get_or, take}
use lib.Seq.{get_or-take, length-take-le}
use borrow.Author.Tests.{le-ltb}
use Rattle.irig.specs.Table.{Field, at}
use Rattle.irig.specs.Reading.{fits, all_fit, clear, spares_clear, share, field_in, digits_of, digits_in, read_refusal, read_frame}
use Rattle.irig.proofs.table.Laws.{sum_same, all_same}

-- the same fields have the same digits
pub digits_alike : (v w : Field → ℕ) → ((f : Field) → v f ≡ w f) → digits_of v ≡ digits_of w
unfolding digits_of
digits_alike v w e =
    cc (
      e Field.day_hundreds,
      e Field.day_tens,
      e Field.day_units,
      e Field.hour_tens,
      e Field.hour_units,
      e Field.minute_tens,
      e Field.minute_units,
      e Field.second_tens,
      e Field.second_units,
    )

-- two rows with the same hundred elements in front
module _ (a b : List ℕ) (l : 100 ≤ length a) (m : 100 ≤ length b) (e : (j : ℕ) → j < 100 → get_or a j 0 ≡ get_or b j 0) where
  same_fit : all_fit a ≡ all_fit b
  unfolding all_fit
  same_fit = all_same 100 (λ (j : ℕ). fits (at j) (get_or a j 0)) (λ (j : ℕ). fits (at j) (get_or b j 0)) (λ j k. ap (fits (at j)) (e j k))

  same_clear : spares_clear a ≡ spares_clear b
  unfolding spares_clear
  same_clear = all_same 100 (λ (j : ℕ). clear (at j) (get_or a j 0)) (λ (j : ℕ). clear (at j) (get_or b j 0)) (λ j k. ap (clear (at j)) (e j k))

  same_field : (f : Field) → field_in a f ≡ field_in b f
  unfolding field_in
  same_field f = sum_same 100 (λ (j : ℕ). share f (at j) (get_or a j 0)) (λ (j : ℕ). share f (at j) (get_or b j 0)) (λ j k. ap (share f (at j)) (e j k))

  same_digits : digits_in a ≡ digits_in b
  same_digits = digits_alike (field_in a) (field_in b) same_field

  same_refusal : read_refusal a ≡ read_refusal b
  unfolding read_refusal
  same_refusal = simp (le-ltb (length a) 100 l, le-ltb (length b) 100 m, same_fit, same_clear, same_digits, same_field Field.binary_seconds)

  pub read_same : read_frame a ≡ read_frame b
  unfolding read_frame
  read_same = cc (same_refusal, same_digits)

pub only_hundred : (row : List ℕ) → 100 ≤ length row → read_frame (take 100 row) ≡ read_frame row
only_hundred row l = read_same (take 100 row) row (rw (length-take-le 100 row l) (omega arith)) l (λ j k. get_or-take 100 row j 0 k)
