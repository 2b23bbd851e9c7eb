-- Digits of any base, highest first: decimal digits, four-bit digits and bits are one thing here.
use Rattle.std.specs.Prelude.{ℕ, zero, suc, ◌+◌, ◌*◌, ◌/◌, ◌%◌, ◌^◌, ◌<◌, List, [], ◌∷◌, ◌++◌, Bool, true, false, ◌&&◌, length, take, drop, get_or, ◌≡◌, ltb}
use Rattle.wire.specs.declared.digits.Counted.{Counted}

-- the first of two values if the test holds, else the second
abbrev pub pick : {A : Type 0} → Bool → A → A → A
pick true a b = a
pick false a b = b

-- the lowest k digits of n in base b, highest first
unfoldable pub digits : ℕ → ℕ → ℕ → List ℕ
digits b zero n = []
digits b (suc k) n = n / b ^ k % b ∷ digits b k n

-- the number that digits write in base b, highest first
unfoldable pub num : ℕ → List ℕ → ℕ
num b [] = 0
num b (d ∷ ds) = d * b ^ length ds + num b ds

-- each digit is one of base b
unfoldable pub below : ℕ → List ℕ → Bool
below b [] = true
below b (d ∷ ds) = ltb d b && below b ds

-- digits handed over in m words, k digits of base b to a word
unfoldable pub packed : ℕ → ℕ → ℕ → List ℕ → List ℕ
packed b k zero ds = []
packed b k (suc m) ds = num b (take k ds) ∷ packed b k m (drop k ds)

-- the digits of words, k of base b from each
unfoldable pub unpacked : ℕ → ℕ → List ℕ → List ℕ
unpacked b k [] = []
unpacked b k (w ∷ ws) = digits b k w ++ unpacked b k ws

-- WITHIN THE CRATE

-- how many shares make a unit
abbrev pub shares_in_unit : ℕ
shares_in_unit = 2 ^ 47

-- x shares: the whole units, and the shares that are left
pub record Splits (x : ℕ) (r : Counted) : Type 0 where
  pub count : r.count ≡ x / shares_in_unit
  pub rest : r.rest ≡ x % shares_in_unit

-- a table of the two decimal digits of each number below a hundred, four bits to a digit
pub record PairTable (table : List ℕ) : Type 0 where
  pub hundred : length table ≡ 100
  pub rule : (n : ℕ) → n < 100 → get_or table n 0 ≡ num 16 (digits 10 2 n)
