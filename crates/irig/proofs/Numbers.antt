-- The numbers of reading a frame and of taking a row: each is given exactly if its line of the call's table holds and no line above it does, and 0 exactly if none holds. Beside a
-- refusal stand zeros, and the record as it was. Writing a frame takes a card, and so it stands in the list of all calls, in crates/laws. Assumes nothing.
use Prim.Native.Nat.{ℕ}
use mathlib.Core.Path.{◌≡◌, refl, sym, ◌∙◌, ap}
use mathlib.Core.Bool.{Bool, true, false}
use mathlib.Core.List.{List, ◌∷◌, ◌++◌}
use mathlib.Core.Logic.{◌↔◌}
use lib.Dec.{eqb}
use native.Mathlib.Omega.{arith}
use borrow.Author.Tests.{ne_eqb}
use Rattle.wire.specs.Numbers.{Line, ◌if◌, given, quiet, absent, refusal, answered, number_of}
use Rattle.wire.specs.Words.{day_in, tick_in, moment}
use Rattle.wire.proofs.numbers.Names.{given_number}
use Rattle.wire.proofs.numbers.Laws.{given_exactly, given_zero}
use Rattle.irig.specs.declared.stream.Stream.{Stream}
use Rattle.std.specs.Prelude.{None, Err, ⊤}
use Rattle.wire.specs.declared.numbers.Answer.{Answer}
use Rattle.wire.specs.declared.numbers.Refusal.{Refusal}
use Rattle.irig.specs.declared.stream.RowTaken.{RowTaken}
use Rattle.irig.specs.Reading.{digits_in, read_lines, read_refusal, read_frame, frame_moment}
use Rattle.card.specs.declared.card.Card.{Card}
use Rattle.irig.specs.Writing.{write_lines, write_refusal}
use Rattle.irig.specs.Streams.{lawful, row_taken, take_row, taking}
use Rattle.irig.proofs.stream.Laws.{take_18, take_lawful}

-- READING A FRAME

module _ (row : List ℕ) where
  by_lines : number_of (read_frame row) ≡ given (read_lines row)
  unfolding read_frame read_refusal
  by_lines = given_number (read_lines row) (moment (day_in (digits_in row)) (tick_in (digits_in row))) refl

  pub read_number_lem : number_of (read_frame row) ≡ read_refusal row
  unfolding read_refusal
  read_number_lem = by_lines

  -- 0 exactly if no line holds
  pub read_done_exactly_if : number_of (read_frame row) ≡ 0 ↔ quiet (read_lines row) ≡ true
  read_done_exactly_if = rw by_lines (given_zero (read_lines row) refl)

  -- and any other number exactly if its line holds and no line above it does
  pub read_exactly_if : (n : ℕ) (above below : List Line) (t : Bool) → read_lines row ≡ above ++ (n if t ∷ below)
      → eqb n 0 ≡ false → absent n above ≡ true → absent n below ≡ true → number_of (read_frame row) ≡ n ↔ ((t ≡ true) × (quiet above ≡ true))
  read_exactly_if n above below t l z x y = rw (by_lines ∙ ap given l) (given_exactly n above below t z x y)

  -- beside a refusal stand day 0 and tick 0
  pub read_beside : (number_of (read_frame row) ≡ 0 → ⊥) → (read_frame row ≡ Err (refusal (read_refusal row))) × (frame_moment row ≡ moment 0 0)
  unfolding read_frame
  read_beside h = let n = ne_eqb (read_refusal row) 0 (λ e. h (read_number_lem ∙ e)) in (simp n, simp n)

-- WRITING A FRAME

-- the number of what writing answers is the one that its lines give
pub write_told : (card : Card) (room : ℕ) → number_of (answered {A = ⊤} (write_refusal card room) tt) ≡ write_refusal card room
unfolding write_refusal
write_told card room = given_number (write_lines card room) tt refl

-- TAKING A ROW

module _ (s : Stream) (row : List ℕ) where
  lawful_number : lawful s ≡ true → number_of (take_row s row).outcome ≡ 0
  lawful_number h = ap (λ (a : Answer Stream RowTaken). number_of a.outcome) (sym (take_lawful s row h))

  unlawful_number : lawful s ≡ false → number_of (take_row s row).outcome ≡ 18
  unlawful_number h = ap (λ (a : Answer Stream RowTaken). number_of a.outcome) (sym (take_18 s row h))

  -- 18 exactly if the record is not lawful, and 0 exactly if it is
  pub take_eighteen : number_of (take_row s row).outcome ≡ 18 ↔ lawful s ≡ false
  take_eighteen = (go (lawful s) refl, unlawful_number)
    where
      go : (t : Bool) → lawful s ≡ t → number_of (take_row s row).outcome ≡ 18 → lawful s ≡ false
      go true h n = absurd (let q : 0 ≡ 18 = sym (lawful_number h) ∙ n in omega arith)
      go false h n = h

  pub take_done : number_of (take_row s row).outcome ≡ 0 ↔ lawful s ≡ true
  take_done = (go (lawful s) refl, lawful_number)
    where
      go : (t : Bool) → lawful s ≡ t → number_of (take_row s row).outcome ≡ 0 → lawful s ≡ true
      go true h n = h
      go false h n = absurd (let q : 18 ≡ 0 = sym (unlawful_number h) ∙ n in omega arith)

  -- beside it the record is as it was, nothing is taken and nothing finished
  pub take_refused : (number_of (take_row s row).outcome ≡ 0 → ⊥)
      → (take_row s row ≡ record { after = s; outcome = Err Refusal.Unlawful }) × (taking (take_row s row) ≡ row_taken s 0 None)
  take_refused h = go (lawful s) refl
    where
      go : (t : Bool) → lawful s ≡ t → (take_row s row ≡ record { after = s; outcome = Err Refusal.Unlawful }) × (taking (take_row s row) ≡ row_taken s 0 None)
      go true l = absurd (h (take_done.1 l))
      go false l = (sym (take_18 s row l), ap taking (sym (take_18 s row l)))
