-- Pending bits raised twice: for the sources that fell, and then for others, comes to once for those of both. Assumes nothing.
use Prim.Native.Nat.{ℕ, ◌+◌, ◌*◌, ◌/◌, ◌%◌}
use mathlib.Core.Path.{◌≡◌, refl, sym, ◌∙◌, ap}
use mathlib.Core.Bool.{Bool, true, false, ◌||◌}
use mathlib.Core.Logic.{◌⊎◌, inl, inr, ⊎_elim}
use native.Mathlib.Nat.{div-div-eq-div-mul}
use native.Mathlib.Omega.{arith}
use borrow.Author.Tests.{eq-eqb, ne_eqb}
use Rattle.wire.proofs.digits.Laws.{lt_or_le}
use Rattle.parts.specs.Interrupts.{sources_raised}
use Rattle.parts.specs.Pending.{raised}

-- ---- bits raised twice

module _ (w : ℕ) where
  clear_or_set : (x : ℕ) → (x / w % 2 ≡ 0) ⊎ (x / w % 2 ≡ 0 → ⊥)
  clear_or_set x = ⊎_elim (λ l. inr (λ e. omega arith)) (λ l. inl (omega arith)) (lt_or_le 0 (x / w % 2))

  raised_clear : (x : ℕ) → x / w % 2 ≡ 0 → raised w true x ≡ x + w
  unfolding raised
  raised_clear x e = simp (eq-eqb (x / w % 2) 0 e)

  raised_set : (x : ℕ) → (x / w % 2 ≡ 0 → ⊥) → raised w true x ≡ x
  unfolding raised
  raised_set x h = simp (ne_eqb (x / w % 2) 0 h)

-- a bit raised is set, so that it is raised once
module _ (w : ℕ) (sets : (x : ℕ) → x / w % 2 ≡ 0 → (x + w) / w % 2 ≡ 1) where
  again : (x : ℕ) → raised w true (raised w true x) ≡ raised w true x
  again x =
      ⊎_elim
      (λ e. rw (raised_clear w x e) (raised_set w (x + w) (λ z. omega (arith, sets x e))))
      (λ h. ap (raised w true) (raised_set w x h))
      (clear_or_set w x)

  twice : (s t : Bool) (x : ℕ) → raised w s (raised w t x) ≡ raised w (t || s) x
  unfolding raised
  twice false true x = refl
  twice false false x = refl
  twice true true x = again x
  twice true false x = refl

-- two bits, either of which leaves the other as it was
module _ (w v : ℕ) (keeps-v : (x : ℕ) → x / w % 2 ≡ 0 → (x + w) / v % 2 ≡ x / v % 2) (keeps-w : (x : ℕ) → x / v % 2 ≡ 0 → (x + v) / w % 2 ≡ x / w % 2) where
  both_ways : (x : ℕ) → raised w true (raised v true x) ≡ raised v true (raised w true x)
  both_ways x = by (clear_or_set w x) (clear_or_set v x)
    where
      by : (x / w % 2 ≡ 0) ⊎ (x / w % 2 ≡ 0 → ⊥) → (x / v % 2 ≡ 0) ⊎ (x / v % 2 ≡ 0 → ⊥) → raised w true (raised v true x) ≡ raised v true (raised w true x)
      by (inl a) (inl b) =
          rw (raised_clear w x a, raised_clear v x b, raised_clear w (x + v) (keeps-w x b ∙ a), raised_clear v (x + w) (keeps-v x a ∙ b)) (omega arith)
      by (inl a) (inr b) = rw (raised_set v x b, raised_clear w x a, raised_set v (x + w) (λ z. b (sym (keeps-v x a) ∙ z)))
      by (inr a) (inl b) = rw (raised_set w x a, raised_clear v x b, raised_set w (x + v) (λ z. a (sym (keeps-w x b) ∙ z)))
      by (inr a) (inr b) = rw (raised_set w x a, raised_set v x b, raised_set w x a)

  swapped : (s t : Bool) (x : ℕ) → raised w s (raised v t x) ≡ raised v t (raised w s x)
  unfolding raised
  swapped false t x = refl
  swapped true false x = refl
  swapped true true x = both_ways x

-- to raise a clear bit changes none above it
above : (w x : ℕ) → (x + w) / w ≡ x / w + 1 → x / w % 2 ≡ 0 → (x + w) / (w * 2) ≡ x / (w * 2)
above w x f e =
    let g : (x / w + 1) / 2 ≡ x / w / 2 = omega arith in
    sym (div-div-eq-div-mul (x + w) w 2) ∙ ap (λ (q : ℕ). q / 2) f ∙ g ∙ div-div-eq-div-mul x w 2

far_above : (x : ℕ) → x / 2 % 2 ≡ 0 → (x + 2) / 8 % 2 ≡ x / 8 % 2
far_above x e = ap (λ (q : ℕ). q % 2) (sym (div-div-eq-div-mul (x + 2) 4 2) ∙ ap (λ (q : ℕ). q / 2) (above 2 x (omega arith) e) ∙ div-div-eq-div-mul x 4 2)

eight_two : (s t : Bool) (x : ℕ) → raised 8 s (raised 2 t x) ≡ raised 2 t (raised 8 s x)
eight_two = swapped 8 2 (λ x e. omega arith) far_above

eight_four : (s t : Bool) (x : ℕ) → raised 8 s (raised 4 t x) ≡ raised 4 t (raised 8 s x)
eight_four = swapped 8 4 (λ x e. omega arith) (λ x e. ap (λ (q : ℕ). q % 2) (above 4 x (omega arith) e))

four_two : (s t : Bool) (x : ℕ) → raised 4 s (raised 2 t x) ≡ raised 2 t (raised 4 s x)
four_two = swapped 4 2 (λ x e. omega arith) (λ x e. ap (λ (q : ℕ). q % 2) (above 2 x (omega arith) e))

pub sources_twice : (periodic strobe second periodic' strobe' second' : Bool) (x : ℕ)
    → sources_raised periodic' strobe' second' (sources_raised periodic strobe second x) ≡ sources_raised (periodic || periodic') (strobe || strobe') (second || second') x
unfolding sources_raised
sources_twice periodic strobe second periodic' strobe' second' x =
    rw (eight_two, eight_four, four_two) (rw (twice 2 (λ x e. omega arith), twice 4 (λ x e. omega arith), twice 8 (λ x e. omega arith)))
