-- Pending bits, by their weights: 1 event, 2 periodic, 4 strobe, 8 second, 16 output packet.
use Rattle.std.specs.Prelude.{ℕ, ◌+◌, ◌-◌, ◌/◌, ◌%◌, ◌^◌, ◌<◌, ◌≡◌, Bool, true, ◌&&◌, ◌||◌, eqb}
use Rattle.wire.specs.Digits.{pick}

-- the bit of weight w is set
abbrev pub bit : ℕ → ℕ → Bool
bit w n = eqb (n / w % 2) 1

-- bits with the one of weight w raised, or lowered, if t
unfoldable pub raised : ℕ → Bool → ℕ → ℕ
raised w t pending = pick (t && eqb (pending / w % 2) 0) (pending + w) pending

unfoldable pub lowered : ℕ → Bool → ℕ → ℕ
lowered w t pending = pick (t && bit w pending) (pending - w) pending

-- each 1 bit of a value, 0 to 4, clears that pending bit
unfoldable pub cleared : ℕ → ℕ → ℕ
cleared value pending =
    lowered 1 (bit 1 value) (lowered 2 (bit 2 value) (lowered 4 (bit 4 value) (lowered 8 (bit 8 value) (lowered 16 (bit 16 value) pending))))

-- some bit, 0 to 4, is set in both
unfoldable pub meet : ℕ → ℕ → Bool
meet a b =
    (bit 1 a && bit 1 b) || ((bit 2 a && bit 2 b) || ((bit 4 a && bit 4 b) || ((bit 8 a && bit 8 b) || (bit 16 a && bit 16 b))))

-- a bit, 0 to 4, that is set in both
pub record Shared (a b : ℕ) : Type 0 where
  pub place : ℕ
  pub within : place < 5
  pub first : bit (2 ^ place) a ≡ true
  pub second : bit (2 ^ place) b ≡ true
