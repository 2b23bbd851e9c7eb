-- Beside one n1, the nearest n2 is the wanted period over 100 × n1, rounded, a half down, and held at 2 and at 65,535: one more in n2 adds 100 × n1 to the period.
-- Assumes nothing.
use Prim.Native.Nat.{ℕ, ◌+◌, ◌*◌, ◌/◌, ◌≤◌, ◌<◌}
use mathlib.Core.Path.{◌≡◌, refl, sym, ap, subst, ◌∙◌}
use mathlib.Core.Logic.{⊎_elim}
use native.Mathlib.Nat.{mul-le-mul_left, mul-suc, mul_comm, mul_assoc, div-mul-le_self, lt-div-mul-add, le-div_iff_mul-le, div-lt_iff_lt-mul, le_refl}
use native.Mathlib.Omega.{arith}
use Rattle.std.specs.Prelude.{min, max}
use Rattle.wire.proofs.digits.Laws.{lt_or_le}
use Rattle.dividers.specs.declared.pairs.Pair.{Pair}
use Rattle.dividers.specs.Pairs.{pair, distance}
use Rattle.dividers.specs.Nearest.{with_n1}
use Rattle.dividers.proofs.pairs.Laws.{Within, within, is_lawful, rank, by_distance}
use Rattle.dividers.proofs.nearest.Laws.{row_only}

module _ (wanted n1 : ℕ) (a : 2 ≤ n1) (b : n1 ≤ 65535) where
  -- what n2 may be
  abbrev Divider : ℕ → Type 0
  Divider m = (2 ≤ m) × (m ≤ 65535)

  -- one more in n2 adds n1 to the product
  more : (m n : ℕ) → m < n → n1 * m + n1 ≤ n1 * n
  more m n h = rw (← mul-suc n1 m) (mul-le-mul_left n1 h)

  bounds : (m : ℕ) → Divider m → Within (pair n1 m)
  bounds m s = within (pair n1 m) (is_lawful n1 m a b s.0 s.1)

  -- an n2 that is compared with each other one by whether that is below it or above
  no_worse : (m : ℕ) → ((n : ℕ) → Divider n → n < m → n1 * n + n1 ≤ n1 * m → rank wanted (pair n1 m) ≤ rank wanted (pair n1 n))
      → ((n : ℕ) → Divider n → m < n → n1 * m + n1 ≤ n1 * n → rank wanted (pair n1 m) ≤ rank wanted (pair n1 n))
      → (n : ℕ) → Divider n → rank wanted (pair n1 m) ≤ rank wanted (pair n1 n)
  no_worse m below above n s = ⊎_elim (λ l. below n s l (more n m l)) (λ g. ⊎_elim (λ l. above n s l (more m n l)) (λ h. same (omega arith)) (lt_or_le m n)) (lt_or_le n m)
    where
      same : m ≡ n → rank wanted (pair n1 m) ≤ rank wanted (pair n1 n)
      same e = subst (λ (k : ℕ). rank wanted (pair n1 m) ≤ rank wanted (pair n1 k)) e (le_refl (rank wanted (pair n1 m)))

  -- x is the wanted period and a half of what one more in n2 adds, less one

  -- too little wanted: 2
  low : (x : ℕ) → x + 1 ≡ wanted + 50 * n1 → x < 2 * (100 * n1) → (n : ℕ) → Divider n → rank wanted (pair n1 2) ≤ rank wanted (pair n1 n)
  low x e h =
      no_worse 2 (λ n s l k. absurd (let t = s.0 in omega arith))
      (λ n s l k. by_distance wanted (pair n1 2) (pair n1 n) (bounds 2 (omega arith)) (bounds n s) (omega arith))

  -- too much wanted: 65,535
  high : (x : ℕ) → x + 1 ≡ wanted + 50 * n1 → 65536 * (100 * n1) ≤ x → (n : ℕ) → Divider n → rank wanted (pair n1 65535) ≤ rank wanted (pair n1 n)
  high x e h =
      no_worse 65535 (λ n s l k. by_distance wanted (pair n1 65535) (pair n1 n) (bounds 65535 (omega arith)) (bounds n s) (omega arith))
      (λ n s l k. absurd (let t = s.1 in omega arith))

  -- between them: a half above or less, or less than a half below
  between : (x m : ℕ) → x + 1 ≡ wanted + 50 * n1 → Divider m → 100 * (n1 * m) ≤ x → x < 100 * (n1 * m) + 100 * n1
      → (n : ℕ) → Divider n → rank wanted (pair n1 m) ≤ rank wanted (pair n1 n)
  between x m e t f g =
      no_worse m (λ n s l k. by_distance wanted (pair n1 m) (pair n1 n) (bounds m t) (bounds n s) (omega arith))
      (λ n s l k. let d : distance wanted (pair n1 m) ≤ distance wanted (pair n1 n) = omega arith in omega arith)

  -- so it is the n2 of the pair that comes before the others
  only : (m : ℕ) → Divider m → ((n : ℕ) → Divider n → rank wanted (pair n1 m) ≤ rank wanted (pair n1 n)) → m ≡ (with_n1 wanted n1).n2
  only m s least =
      ap (λ (p : Pair). p.n2)
      (row_only wanted n1 a b (pair n1 m) (is_lawful n1 m a b s.0 s.1) refl
      (λ q h e. let w = within q h in subst (λ (k : ℕ). rank wanted (pair n1 m) ≤ rank wanted (pair k q.n2)) (sym e) (least q.n2 (w.low2, w.high2))))

  -- THE QUOTIENT

  module _ (x : ℕ) (e : x + 1 ≡ wanted + 50 * n1) where
    pub held_low : x / (100 * n1) < 2 → 2 ≡ (with_n1 wanted n1).n2
    held_low h = only 2 (omega arith) (low x e ((div-lt_iff_lt-mul (omega arith)).0 h))

    pub held_high : 65535 < x / (100 * n1) → 65535 ≡ (with_n1 wanted n1).n2
    held_high h = only 65535 (omega arith) (high x e ((le-div_iff_mul-le (omega arith)).0 h))

    pub not_held : 2 ≤ x / (100 * n1) → x / (100 * n1) ≤ 65535 → x / (100 * n1) ≡ (with_n1 wanted n1).n2
    not_held g h =
        only m (g, h)
        (between x m e (g, h) (subst (λ (k : ℕ). k ≤ x) unit (div-mul-le_self x (100 * n1))) (subst (λ (k : ℕ). x < k + 100 * n1) unit (lt-div-mul-add (omega arith))))
      where
        m : ℕ
        m = x / (100 * n1)

        unit : m * (100 * n1) ≡ 100 * (n1 * m)
        unit = mul_comm m (100 * n1) ∙ mul_assoc 100 n1 m

    -- held at both ends
    pub held : max 2 (min (x / (100 * n1)) 65535) ≡ (with_n1 wanted n1).n2
    held =
        ⊎_elim
        (λ l. omega (arith, held_low l))
        (λ g. ⊎_elim
        (λ l. omega (arith, held_high l))
        (λ h. omega (arith, not_held g h))
        (lt_or_le 65535 (x / (100 * n1))))
        (lt_or_le (x / (100 * n1)) 2)
