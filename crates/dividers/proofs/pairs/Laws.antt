-- Lawful pairs, and the rule between two pairs as an order of numbers: a pair's rank has its distance in front, its product behind that, and its n1 last. Assumes nothing.
use Prim.Native.Nat.{ℕ, ◌+◌, ◌-◌, ◌*◌, ◌≤◌, ◌<◌}
use mathlib.Core.Path.{◌≡◌, sym, ap, ap₂, ◌∙◌}
use mathlib.Core.Bool.{true}
use native.Mathlib.Nat.{mul-le-mul, eq_of_mul-eq-mul_left}
use native.Mathlib.Omega.{arith}
use Rattle.std.specs.Prelude.{min, max}
use Rattle.clock.proofs.setting.Laws.{pair_fits}
use Rattle.dividers.specs.declared.pairs.Pair.{Pair}
use Rattle.dividers.specs.Pairs.{pair, lawful, product, apart, distance}

-- what two dividers make at most
pub product_most : (n1 n2 : ℕ) → n1 ≤ 65535 → n2 ≤ 65535 → n1 * n2 ≤ 4294836225
product_most n1 n2 a b = mul-le-mul {n₁ = n1} {m₁ = n2} {n₂ = 65535} {m₂ = 65535} a b

-- how far two periods are apart, as the library says it
pub apart_is : (a b : ℕ) → max a b - min a b ≡ apart a b
apart_is a b = omega arith

-- what a lawful pair is within
pub record Within (p : Pair) : Type 0 where
  pub low1 : 2 ≤ p.n1
  pub high1 : p.n1 ≤ 65535
  pub low2 : 2 ≤ p.n2
  pub high2 : p.n2 ≤ 65535
  pub least : 4 ≤ product p
  pub most : product p ≤ 4294836225

pub within : (p : Pair) → lawful p ≡ true → Within p
within p h =
    let w = (pair_fits p.n1 p.n2).0 h in
    record {
      low1 = w.0;
      high1 = w.1.0;
      low2 = w.1.1.0;
      high2 = w.1.1.1;
      least = mul-le-mul {n₁ = 2} {m₁ = 2} {n₂ = p.n1} {m₂ = p.n2} w.0 w.1.1.0;
      most = product_most p.n1 p.n2 w.1.0 w.1.1.1;
    }

pub is_lawful : (n1 n2 : ℕ) → 2 ≤ n1 → n1 ≤ 65535 → 2 ≤ n2 → n2 ≤ 65535 → lawful (pair n1 n2) ≡ true
is_lawful n1 n2 a b c d = (pair_fits n1 n2).1 (a, (b, (c, d)))

-- the other way round a pair is lawful too
pub turned : (p : Pair) → lawful p ≡ true → lawful (pair p.n2 p.n1) ≡ true
turned p h = let w = within p h in is_lawful p.n2 p.n1 w.low2 w.high2 w.low1 w.high1

-- products are below 2^32, and n1 below 2^16
abbrev pub rank : ℕ → Pair → ℕ
rank wanted p = (distance wanted p * 4294967296 + product p) * 65536 + p.n1

module _ (wanted : ℕ) (p q : Pair) (a : Within p) (b : Within q) where
  -- a smaller distance, a smaller rank
  pub by_distance : distance wanted p < distance wanted q → rank wanted p ≤ rank wanted q
  by_distance h = omega arith

  -- of equal distances, by the product
  pub by_product : distance wanted p ≡ distance wanted q → product p < product q → rank wanted p ≤ rank wanted q
  by_product e h = omega arith

  -- of equal products, by n1
  pub by_n1 : product p ≡ product q → p.n1 ≤ q.n1 → rank wanted p ≤ rank wanted q
  by_n1 e h = omega arith

  -- and the other way round
  pub rank_distance : rank wanted p ≤ rank wanted q → distance wanted p ≤ distance wanted q
  rank_distance h = omega arith

  pub rank_product : rank wanted p ≤ rank wanted q → distance wanted q ≡ distance wanted p → product p ≤ product q
  rank_product h e = omega arith

  pub rank_n1 : rank wanted p ≤ rank wanted q → product q ≡ product p → p.n1 ≤ q.n1
  rank_n1 h e = omega arith

  -- of one product and one n1 there is one pair
  pub one_pair : product p ≡ product q → p.n1 ≡ q.n1 → p ≡ q
  one_pair e f =
      ap₂ pair f
      (eq_of_mul-eq-mul_left p.n1 (omega arith) p.n2 q.n2 (e ∙ ap (λ (n : ℕ). n * q.n2) (sym f)))

  -- and so of one rank
  pub one_rank : rank wanted p ≤ rank wanted q → rank wanted q ≤ rank wanted p → p ≡ q
  one_rank g h = one_pair (omega arith) (omega arith)
