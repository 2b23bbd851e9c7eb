-- The count of the board's frequency since the last pulse.
use Rattle.std.specs.Prelude.{ℕ, zero, suc, ◌*◌, ◌-◌, Bool, false, ◌||◌, leb, eqb}
use Rattle.wire.specs.Digits.{pick}

-- switch RC1 0 to 3 selects 32, 64, 128 or 256 Hz
unfoldable pub frequency : ℕ → ℕ
frequency rc1 = pick (eqb rc1 0) 32 (pick (eqb rc1 1) 64 (pick (eqb rc1 2) 128 256))

-- the least number that passes a test, if one up to the bound does
unfoldable pub least : (ℕ → Bool) → ℕ → ℕ
least test zero = 0
least test (suc bound) = pick (test 0) 0 (suc (least (λ (m : ℕ). test (suc m)) bound))

-- the k-th count falls on the first microsecond at or after k seconds over the frequency f: the least m with m × f ≥ k × 1,000,000
unfoldable pub falls_on : ℕ → ℕ → ℕ
falls_on f k = least (λ (m : ℕ). leb (k * 1000000) (m * f)) (k * 1000000)

-- how many of the first n counts have come by the microsecond m
unfoldable pub come : ℕ → ℕ → ℕ → ℕ
come f zero m = 0
come f (suc n) m = pick (leb (falls_on f (suc n)) m) (suc (come f n m)) (come f n m)

-- the count: it holds at frequency less one until the next pulse
unfoldable pub count : ℕ → ℕ → ℕ
count f m = come f (f - 1) m

-- one of the first n counts falls on the microsecond m
unfoldable pub falls_among : ℕ → ℕ → ℕ → Bool
falls_among f zero m = false
falls_among f (suc n) m = eqb (falls_on f (suc n)) m || falls_among f n m

-- a count step
unfoldable pub count_falls : ℕ → ℕ → Bool
count_falls f m = falls_among f (f - 1) m
