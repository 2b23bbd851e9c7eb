-- The numbers of a call: decimal, each behind a space. A text is a list of bytes, and 32 is a space.
use Rattle.std.specs.Prelude.{ℕ, zero, suc, ◌+◌, ◌*◌, ◌%◌, List, [], ◌∷◌, eqb}
use Rattle.wire.specs.Digits.{pick}

-- what stands behind so many spaces, up to the next one
unfoldable pub piece_at : ℕ → List ℕ → List ℕ
piece_at place [] = []
piece_at zero (b ∷ bs) = pick (eqb b 32) [] (b ∷ piece_at zero bs)
piece_at (suc place) (b ∷ bs) = pick (eqb b 32) (piece_at place bs) (piece_at (suc place) bs)

-- a number with one more digit, which an ASCII digit's low half is; no more than thirteen of them, so that it fits 64 bits
abbrev pub with_digit : ℕ → ℕ → ℕ
with_digit n b = n % 1000000000000 * 10 + b % 16

-- a number with more digits
unfoldable pub with_digits : ℕ → List ℕ → ℕ
with_digits n [] = n
with_digits n (b ∷ bs) = with_digits (with_digit n b) bs

-- the number behind so many spaces; 0 where there is none
abbrev pub number_at : ℕ → List ℕ → ℕ
number_at place text = with_digits 0 (piece_at place text)
