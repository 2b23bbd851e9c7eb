-- The sources that a list has: a source is listed exactly if its first fall is among the ticks passed. Assumes nothing.
use Prim.Native.Nat.{ℕ, zero, suc, ◌+◌, ◌*◌, ◌/◌, ◌%◌, ◌≤◌, ◌<◌}
use mathlib.Core.Path.{◌≡◌, refl, sym, ◌∙◌, ap}
use mathlib.Core.Bool.{Bool, true, false, ◌||◌, or-false}
use mathlib.Core.List.{List, [], ◌∷◌, ◌++◌}
use mathlib.Core.Logic.{◌⊎◌, inl, inr}
use native.Mathlib.Omega.{arith}
use borrow.Author.Tests.{le-leb, lt-leb}
use lib.Dec.{leb, eqb}
use lib.ListN.{length}
use Rattle.wire.specs.Digits.{pick}
use Rattle.wire.specs.Time.{ticks_of_day}
use Rattle.wire.proofs.digits.Laws.{lt_or_le, or_assoc}
use Rattle.clock.specs.declared.clock.Clock.{Clock}
use Rattle.clock.specs.declared.falling.Sources.{Sources}
use Rattle.clock.specs.declared.waiting.Passed.{Passed}
use Rattle.clock.specs.Time.{later}
use Rattle.clock.specs.Falling.{second_falls, strobe_falls, periodic_falls, falls}
use Rattle.clock.specs.Waiting.{record_of, records, row_listed, moved_on, source_listed, fell, listing, nothing}
use Rattle.clock.specs.Sources.{NextFall, Ready, second_on, strobe_on, within}
use Rattle.clock.proofs.waiting.Window.{Filled}

-- ---- which sources a list has

listed_append : (w : ℕ) (xs ys : List ℕ) → source_listed w (xs ++ ys) ≡ source_listed w xs || source_listed w ys
unfolding source_listed
listed_append w [] ys = refl
listed_append w (x ∷ xs) ys = ap (λ (t : Bool). eqb (x / w % 2) 1 || t) (listed_append w xs ys) ∙ sym (or_assoc (eqb (x / w % 2) 1) (source_listed w xs) (source_listed w ys))

is_one : (t : Bool) → eqb (pick t 1 0) 1 ≡ t
is_one true = refl
is_one false = refl

pub none_listed : (w : ℕ) → source_listed w [] ≡ false
unfolding source_listed
none_listed w = refl

-- what is told beside a refusal, field by field
pub nothing_is : nothing ≡ record { passed = record { ticks = 0 }; written = 0; fell = record { periodic = false; strobe = false; second = false } }
unfolding source_listed
nothing_is = refl

-- records moved on have the same sources; w is 1, 2 or 4
listed_moved : (w p : ℕ) → ((r : ℕ) → (8 * p + r) / w % 2 ≡ r / w % 2) → (rs : List ℕ) → source_listed w (moved_on p rs) ≡ source_listed w rs
unfolding source_listed
listed_moved w p h [] = refl
listed_moved w p h (r ∷ rs) = rw (h r, listed_moved w p h rs)

pub listed_both : (w p : ℕ) (rs qs : List ℕ) → ((r : ℕ) → (8 * p + r) / w % 2 ≡ r / w % 2) → source_listed w (rs ++ moved_on p qs) ≡ (source_listed w rs || source_listed w qs)
listed_both w p rs qs h = listed_append w rs (moved_on p qs) ∙ ap (λ (t : Bool). source_listed w rs || t) (listed_moved w p h qs)

listed_record : (w k s : ℕ) (t : Bool) → 0 / w % 2 ≡ 0 → (8 * k + s) / w % 2 ≡ s / w % 2 → s / w % 2 ≡ pick t 1 0 → source_listed w (record_of k s) ≡ t
unfolding source_listed record_of
listed_record w k zero t z e f = ap (λ (x : ℕ). eqb x 1) (sym z ∙ f) ∙ is_one t
listed_record w k (suc s) t z e f = or-false (eqb ((8 * k + suc s) / w % 2) 1) ∙ ap (λ (x : ℕ). eqb x 1) (e ∙ f) ∙ is_one t

weight : (t : Bool) (w : ℕ) → pick t w 0 ≡ w * pick t 1 0
weight true w = omega arith
weight false w = omega arith

at_most_one : (t : Bool) → pick t 1 0 ≤ 1
at_most_one true = omega arith
at_most_one false = omega arith

-- the three sources of a tick, apart again
module _ (k : ℕ) (p s d : Bool) where
  abbrev sum : ℕ
  sum = pick p 1 0 + (pick s 2 0 + pick d 4 0)

  has_periodic : source_listed 1 (record_of k sum) ≡ p
  has_periodic = listed_record 1 k sum p refl (omega arith) (omega (arith, weight s 2, weight d 4, at_most_one p))

  has_strobe : source_listed 2 (record_of k sum) ≡ s
  has_strobe = listed_record 2 k sum s refl (omega arith) (omega (arith, weight s 2, weight d 4, at_most_one p, at_most_one s))

  has_second : source_listed 4 (record_of k sum) ≡ d
  has_second = listed_record 4 k sum d refl (omega arith) (omega (arith, weight s 2, weight d 4, at_most_one p, at_most_one s, at_most_one d))

-- a source is listed exactly if its first fall is among the ticks
heard : (c : Clock) (w f : ℕ) (test : ℕ → Bool) → ((k : ℕ) → source_listed w (record_of k (falls c k)) ≡ test k) → NextFall test 0 f
    → (p : ℕ) → p ≤ ticks_of_day → source_listed w (records c p) ≡ leb f p
unfolding records source_listed
heard c w f test has h zero l = sym (lt-leb f 0 h.above)
heard c w f test has h (suc p) l =
    listed_append w (records c p) (record_of (suc p) (falls c (suc p)))
    ∙ rw (heard c w f test has h p (omega arith), has (suc p)) (by (lt_or_le p f) (lt_or_le (suc p) f))
  where
    by : (p < f) ⊎ (f ≤ p) → (suc p < f) ⊎ (f ≤ suc p) → leb f p || test (suc p) ≡ leb f (suc p)
    by (inr x) y = simp (le-leb f p x, le-leb f (suc p) (omega arith))
    by (inl x) (inl y) = simp (lt-leb f p x, lt-leb f (suc p) y, h.none (suc p) (omega arith) y)
    by (inl x) (inr y) =
        let e : f ≡ suc p = omega arith in
        simp (lt-leb f p x, le-leb f (suc p) y) (ap test (sym e) ∙ h.hit (omega arith))

module _ (c : Clock) where
  abbrev periodic_on : ℕ → Bool
  periodic_on k = periodic_falls c.periodic k

  abbrev strobed : ℕ → Bool
  strobed k = strobe_falls c.strobe (later k c.time).tick.ticks

  abbrev seconds : ℕ → Bool
  seconds k = second_falls (later k c.time).tick.ticks

  -- the sources whose first fall is within p ticks are those of the records of p ticks
  pub fell_within : (first : Sources) (p : ℕ) → Ready c 0 first → p ≤ ticks_of_day → fell (records c p) ≡ within first p
  unfolding falls second_on strobe_on
  fell_within first p h l =
      rw (
        heard c 1 first.periodic.next periodic_on (λ k. has_periodic k (periodic_on k) (strobed k) (seconds k)) h.periodic.next p l,
        heard c 2 first.strobe.next strobed (λ k. has_strobe k (periodic_on k) (strobed k) (seconds k)) h.strobe.next p l,
        heard c 4 first.second.next seconds (λ k. has_second k (periodic_on k) (strobed k) (seconds k)) h.second.next p l,
      )

-- what a filled row comes to
pub told : (c : Clock) (first : Sources) (n p i : ℕ) (row₀ row : List ℕ) → Ready c 0 first → n ≤ ticks_of_day → Filled c n row₀ row p i
    → (◌≡◌ {A = Passed} (record { passed = record { ticks = p }; written = i; fell = within first p }) (listing c n (length row₀))) × (row ≡ row_listed c n row₀)
unfolding listing
told c first n p i row₀ row r d f =
    let e : fell (records c p) ≡ within first p = fell_within c first p r (omega (arith, f.within)) in
    (rw (f.passed, f.listed, f.count, e), rw (f.listed, f.count) f.filled)
