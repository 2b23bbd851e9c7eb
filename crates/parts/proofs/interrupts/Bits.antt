-- Pending bits, one by one, over their index: an occurrence raises its own bit, writing INTSTAT clears exactly the bits that are set in the value, and two
-- numbers meet exactly if some bit is set in both. One bit raised or lowered is computed for every number below 32. Assumes nothing.
use Prim.Native.Nat.{ℕ, zero, suc, ◌-◌, ◌^◌, ◌≤◌, ◌<◌}
use mathlib.Core.Path.{◌≡◌, refl, sym, ap, ◌∙◌}
use mathlib.Core.Bool.{Bool, true, false, ◌&&◌, ◌||◌, not, or-true, or-false}
use mathlib.Core.Logic.{◌⊎◌, inl, inr, ⊎_elim, ◌↔◌}
use native.Mathlib.Omega.{arith}
use borrow.Author.Tests.{ltb-true, eqb-false, ne_eqb}
use lib.Dec.{eqb, ltb, lit<}
use Rattle.wire.specs.Digits.{pick}
use Rattle.wire.proofs.digits.Laws.{and_left, and_right, and_both}
use Rattle.parts.specs.declared.interrupts.Interrupts.{Interrupts}
use Rattle.parts.specs.Pending.{bit, raised, lowered, cleared, meet, Shared}
use Rattle.parts.specs.Interrupts.{sources_raised, source_of, line_up}
use Rattle.parts.proofs.pending.Bits.{all, all_at, same, same_is}

-- a test of every bit i, every bit j and every number
abbrev everywhere : (ℕ → ℕ → ℕ → Bool) → Bool
everywhere f = all 5 (λ (i : ℕ). all 5 (λ (j : ℕ). all 32 (f i j)))

at : (f : ℕ → ℕ → ℕ → Bool) → everywhere f ≡ true → (i j x : ℕ) → i < 5 → j < 5 → x < 32 → f i j x ≡ true
at f h i j x a b l = all_at 32 (f i j) (all_at 5 (λ (j : ℕ). all 32 (f i j)) (all_at 5 (λ (i : ℕ). all 5 (λ (j : ℕ). all 32 (f i j))) h i a) j b) x l

-- ---- one bit raised

-- bit i of a number whose bit j is raised if t
abbrev raises : ℕ → ℕ → Bool → Bool → Bool
raises i j t b = pick (eqb i j) (b || t) b

raise_table : (t : Bool) → everywhere (λ (i j x : ℕ). same (bit (2 ^ i) (raised (2 ^ j) t x)) (raises i j t (bit (2 ^ i) x)) && ltb (raised (2 ^ j) t x) 32) ≡ true
unfolding all same raised
raise_table true = refl
raise_table false = refl

module _ (t : Bool) (i j x : ℕ) (a : i < 5) (b : j < 5) (h : x < 32) where
  raise_both : (same (bit (2 ^ i) (raised (2 ^ j) t x)) (raises i j t (bit (2 ^ i) x)) ≡ true) × (ltb (raised (2 ^ j) t x) 32 ≡ true)
  raise_both =
      and_both _ _
      (at (λ (i j x : ℕ). same (bit (2 ^ i) (raised (2 ^ j) t x)) (raises i j t (bit (2 ^ i) x)) && ltb (raised (2 ^ j) t x) 32) (raise_table t) i j x a b h)

  one_raised : bit (2 ^ i) (raised (2 ^ j) t x) ≡ raises i j t (bit (2 ^ i) x)
  one_raised = same_is _ _ raise_both.0

pub raised_below : (t : Bool) (j x : ℕ) → j < 5 → x < 32 → raised (2 ^ j) t x < 32
raised_below t j x b h = ltb-true _ _ (raise_both t 0 j x (lit< tt) b h).1

-- a matching edge raises bit 0 and no other
pub event_raises : (i x : ℕ) → i < 5 → x < 32 → bit (2 ^ i) (raised 1 true x) ≡ (bit (2 ^ i) x || eqb i 0)
event_raises i x l h = one_raised true i 0 x l (lit< tt) h ∙ by i l (bit (2 ^ i) x)
  where
    by : (i : ℕ) → i < 5 → (b : Bool) → raises i 0 true b ≡ (b || eqb i 0)
    by zero l b = refl
    by (suc zero) l b = sym (or-false b)
    by (suc (suc zero)) l b = sym (or-false b)
    by (suc (suc (suc zero))) l b = sym (or-false b)
    by (suc (suc (suc (suc zero)))) l b = sym (or-false b)
    by (suc (suc (suc (suc (suc i))))) l b = absurd (omega arith)

-- the sources that fell raise each its own bit and no other
module _ (periodic strobe second : Bool) (x : ℕ) (h : x < 32) where
  with_second : raised 8 second x < 32
  with_second = raised_below second 3 x (lit< tt) h

  with_strobe_lem : raised 4 strobe (raised 8 second x) < 32
  with_strobe_lem = raised_below strobe 2 (raised 8 second x) (lit< tt) with_second

  pub sources_below : sources_raised periodic strobe second x < 32
  unfolding sources_raised
  sources_below = raised_below periodic 1 (raised 4 strobe (raised 8 second x)) (lit< tt) with_strobe_lem

  pub sources_raise : (i : ℕ) → i < 5 → bit (2 ^ i) (sources_raised periodic strobe second x) ≡ (bit (2 ^ i) x || source_of i periodic strobe second)
  unfolding sources_raised
  sources_raise i l =
      one_raised periodic i 1 (raised 4 strobe (raised 8 second x)) l (lit< tt) with_strobe_lem
      ∙ ap (raises i 1 periodic) (one_raised strobe i 2 (raised 8 second x) l (lit< tt) with_second ∙ ap (raises i 2 strobe) (one_raised second i 3 x l (lit< tt) h))
      ∙ by i l (bit (2 ^ i) x)
    where
      by : (i : ℕ) → i < 5 → (b : Bool) → raises i 1 periodic (raises i 2 strobe (raises i 3 second b)) ≡ (b || source_of i periodic strobe second)
      by zero l b = sym (or-false b)
      by (suc zero) l b = refl
      by (suc (suc zero)) l b = refl
      by (suc (suc (suc zero))) l b = refl
      by (suc (suc (suc (suc zero)))) l b = sym (or-false b)
      by (suc (suc (suc (suc (suc i))))) l b = absurd (omega arith)

-- ---- one bit lowered

-- bit i of a number whose bit j is lowered if t
abbrev lowers : ℕ → ℕ → Bool → Bool → Bool
lowers i j t b = pick (eqb i j) (b && not t) b

abbrev test : Bool → ℕ → ℕ → ℕ → Bool
test t i j x = same (bit (2 ^ i) (lowered (2 ^ j) t x)) (lowers i j t (bit (2 ^ i) x))

lower_table : (t : Bool) → everywhere (test t) ≡ true
unfolding all same lowered
lower_table true = refl
lower_table false = refl

one_lowered : (t : Bool) (i j x : ℕ) → i < 5 → j < 5 → x < 32 → bit (2 ^ i) (lowered (2 ^ j) t x) ≡ lowers i j t (bit (2 ^ i) x)
one_lowered t i j x a b h = same_is _ _ (at (test t) (lower_table t) i j x a b h)

lowered_within : (w : ℕ) (t : Bool) (x : ℕ) → lowered w t x ≤ x
unfolding lowered
lowered_within w t x = by (t && bit w x)
  where
    by : (s : Bool) → pick s (x - w) x ≤ x
    by true = omega arith
    by false = omega arith

-- ---- all five

five_lowered : (i : ℕ) → i < 5 → (s0 s1 s2 s3 s4 : Bool) (x : ℕ) → x < 32
    → bit (2 ^ i) (lowered 1 s0 (lowered 2 s1 (lowered 4 s2 (lowered 8 s3 (lowered 16 s4 x)))))
    ≡ lowers i 0 s0 (lowers i 1 s1 (lowers i 2 s2 (lowers i 3 s3 (lowers i 4 s4 (bit (2 ^ i) x)))))
five_lowered i l s0 s1 s2 s3 s4 x h =
    let x4 = lowered 16 s4 x in
    let x3 = lowered 8 s3 x4 in
    let x2 = lowered 4 s2 x3 in
    let x1 = lowered 2 s1 x2 in
    let h4 : x4 < 32 = omega (arith, lowered_within 16 s4 x) in
    let h3 : x3 < 32 = omega (arith, h4, lowered_within 8 s3 x4) in
    let h2 : x2 < 32 = omega (arith, h3, lowered_within 4 s2 x3) in
    let h1 : x1 < 32 = omega (arith, h2, lowered_within 2 s1 x2) in
    one_lowered s0 i 0 x1 l (lit< tt) h1
    ∙ ap (lowers i 0 s0)
    (one_lowered s1 i 1 x2 l (lit< tt) h2
    ∙ ap (lowers i 1 s1)
    (one_lowered s2 i 2 x3 l (lit< tt) h3 ∙ ap (lowers i 2 s2) (one_lowered s3 i 3 x4 l (lit< tt) h4 ∙ ap (lowers i 3 s3) (one_lowered s4 i 4 x l (lit< tt) h))))

pub cleared_within : (v x : ℕ) → cleared v x ≤ x
unfolding cleared
cleared_within v x =
    let a = lowered 16 (bit 16 v) x in
    let b = lowered 8 (bit 8 v) a in
    let d = lowered 4 (bit 4 v) b in
    let e = lowered 2 (bit 2 v) d in
    omega (arith, lowered_within 16 (bit 16 v) x, lowered_within 8 (bit 8 v) a, lowered_within 4 (bit 4 v) b, lowered_within 2 (bit 2 v) d, lowered_within 1 (bit 1 v) e)

chosen : (i : ℕ) → i < 5 → (v : ℕ) (b : Bool)
    → lowers i 0 (bit 1 v) (lowers i 1 (bit 2 v) (lowers i 2 (bit 4 v) (lowers i 3 (bit 8 v) (lowers i 4 (bit 16 v) b)))) ≡ (b && not (bit (2 ^ i) v))
chosen zero l v b = refl
chosen (suc zero) l v b = refl
chosen (suc (suc zero)) l v b = refl
chosen (suc (suc (suc zero))) l v b = refl
chosen (suc (suc (suc (suc zero)))) l v b = refl
chosen (suc (suc (suc (suc (suc i))))) l v b = absurd (omega arith)

-- a pending bit is set afterwards exactly if it was and the value does not have it
pub clears : (i v p : ℕ) → i < 5 → p < 32 → bit (2 ^ i) (cleared v p) ≡ (bit (2 ^ i) p && not (bit (2 ^ i) v))
unfolding cleared
clears i v p l h = five_lowered i l (bit 1 v) (bit 2 v) (bit 4 v) (bit 8 v) (bit 16 v) p h ∙ chosen i l v (bit (2 ^ i) p)

-- ---- meeting

or_either : (s t : Bool) → (s || t) ≡ true → (s ≡ true) ⊎ (t ≡ true)
or_either true t e = inl refl
or_either false t e = inr e

module _ (a b : ℕ) where
  shared : (i : ℕ) → i < 5 → (bit (2 ^ i) a && bit (2 ^ i) b) ≡ true → Shared a b
  shared i l e = record { place = i; within = l; first = and_left (bit (2 ^ i) a) (bit (2 ^ i) b) e; second = and_right (bit (2 ^ i) a) (bit (2 ^ i) b) e }

  meets_only_if : meet a b ≡ true → Shared a b
  unfolding meet
  meets_only_if e =
      ⊎_elim (shared 0 (lit< tt))
      (λ f. ⊎_elim (shared 1 (lit< tt))
      (λ g. ⊎_elim (shared 2 (lit< tt))
      (λ h. ⊎_elim (shared 3 (lit< tt)) (shared 4 (lit< tt))
      (or_either (bit 8 a && bit 8 b) (bit 16 a && bit 16 b) h)) (or_either (bit 4 a && bit 4 b) _ g)) (or_either (bit 2 a && bit 2 b) _ f)) (or_either (bit 1 a && bit 1 b) _ e)

  meets_if : (i : ℕ) → i < 5 → bit (2 ^ i) a ≡ true → bit (2 ^ i) b ≡ true → meet a b ≡ true
  unfolding meet
  meets_if zero l e f = simp (e, f)
  meets_if (suc zero) l e f = simp (e, f, or-true)
  meets_if (suc (suc zero)) l e f = simp (e, f, or-true)
  meets_if (suc (suc (suc zero))) l e f = simp (e, f, or-true)
  meets_if (suc (suc (suc (suc zero)))) l e f = simp (e, f, or-true)
  meets_if (suc (suc (suc (suc (suc i))))) l e f = absurd (omega arith)

  pub meets : meet a b ≡ true ↔ Shared a b
  meets = (meets_only_if, λ s. meets_if s.place s.within s.first s.second)

-- the line of the registers: up exactly if LEVEL is not 0 and some bit is set in both
up_by : (i : Interrupts) (t : Bool) → eqb i.level 0 ≡ t → (line_up i ≡ true ↔ (t ≡ false) × (meet i.pending i.mask ≡ true))
unfolding line_up
up_by i true e = (λ u. absurd (let q : ◌≡◌ {A = Bool} false true = sym (simp e) ∙ u in let z : ◌≡◌ {A = ℕ} 0 1 = cc in omega arith), λ u. absurd (let z : ◌≡◌ {A = ℕ} 0 1 = cc u.0 in omega arith))
up_by i false e = (λ u. (refl, simp e at u), λ u. simp (e, u.1))

pub line_up_lem : (i : Interrupts) → line_up i ≡ true ↔ ((i.level ≡ 0 → ⊥) × Shared i.pending i.mask)
line_up_lem i =
    let w = up_by i (eqb i.level 0) refl in (
      λ u. (eqb-false i.level 0 (w.0 u).0, (meets i.pending i.mask).0 (w.0 u).1),
      λ u. w.1 (ne_eqb i.level 0 u.0, (meets i.pending i.mask).1 u.1),
    )
