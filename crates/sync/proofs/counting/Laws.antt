-- The k-th count falls on the least microsecond m with m × f ≥ k × 1,000,000, so it has come by m exactly if that holds of m. How many have come is therefore a
-- quotient, held at frequency less one, and a count falls on a microsecond exactly if the count rises there. One law over the frequency. Assumes nothing.
use Prim.Native.Nat.{ℕ, zero, suc, ◌+◌, ◌*◌, ◌-◌, ◌/◌, ◌≤◌, ◌<◌}
use mathlib.Core.Path.{◌≡◌, refl, sym, ap₂, ◌∙◌}
use mathlib.Core.Bool.{Bool, true, false, ◌||◌, ◌&&◌}
use mathlib.Core.Logic.{⊎_elim}
use native.Mathlib.Nat.{mul-le-mul, zero-mul}
use native.Mathlib.Omega.{arith}
use lib.Dec.{leb, ltb, eqb}
use borrow.Author.Tests.{le-leb, lt-leb, leb-true, lt-ltb, le-ltb, eq-eqb, ne_eqb}
use Rattle.std.specs.Prelude.{min}
use Rattle.wire.specs.Digits.{pick}
use Rattle.wire.proofs.digits.Laws.{lt_or_le, clash}
use Rattle.sync.specs.Counting.{frequency, least, falls_on, come, count, falls_among, count_falls}

-- THE LEAST

passes_step : (test : ℕ → Bool) (n : ℕ) (t : Bool) → test 0 ≡ t → test (suc n) ≡ true → test (pick t 0 (suc n)) ≡ true
passes_step test n true e h = e
passes_step test n false e h = h

least_passes : (test : ℕ → Bool) (bound : ℕ) → test bound ≡ true → test (least test bound) ≡ true
unfolding least
least_passes test zero h = h
least_passes test (suc bound) h =
    passes_step test (least (λ (m : ℕ). test (suc m)) bound) (test 0) refl (least_passes (λ (m : ℕ). test (suc m)) bound h)

first_step : (test : ℕ → Bool) (n m : ℕ) (t : Bool) → test 0 ≡ t → test m ≡ true → ((j : ℕ) → test (suc j) ≡ true → n ≤ j) → pick t 0 (suc n) ≤ m
first_step test n m true e h ih = omega arith
first_step test n zero false e h ih = clash (sym h ∙ e)
first_step test n (suc m) false e h ih = let l = ih m h in omega arith

least_first : (test : ℕ → Bool) (bound m : ℕ) → test m ≡ true → least test bound ≤ m
unfolding least
least_first test zero m h = omega arith
least_first test (suc bound) m h =
    first_step test (least (λ (j : ℕ). test (suc j)) bound) m (test 0) refl h (λ j. least_first (λ (j : ℕ). test (suc j)) bound j)

-- COUNTS

module _ (f : ℕ) (above : 0 < f) where
  -- the k-th count falls at or after k seconds over the frequency
  pub count_reached : (k : ℕ) → k * 1000000 ≤ falls_on f k * f
  unfolding falls_on
  count_reached k =
      leb-true (k * 1000000) _ (least_passes (λ (m : ℕ). leb (k * 1000000) (m * f)) (k * 1000000)
      (le-leb (k * 1000000) (k * 1000000 * f) (let l : k * 1000000 * 1 ≤ k * 1000000 * f = mul-le-mul {n₁ = k * 1000000} {m₁ = 1} {n₂ = k * 1000000} {m₂ = f} (omega arith) above in omega arith)))

  -- and on no later microsecond than any that is
  pub count_first : (k m : ℕ) → k * 1000000 ≤ m * f → falls_on f k ≤ m
  unfolding falls_on
  count_first k m h = least_first (λ (j : ℕ). leb (k * 1000000) (j * f)) (k * 1000000) m (le-leb _ _ h)

  -- so it has come by a microsecond exactly if that is at or after k seconds over the frequency
  pub has_come : (k m : ℕ) → leb (falls_on f k) m ≡ leb (k * 1000000) (m * f)
  has_come k m = ⊎_elim late early (lt_or_le (m * f) (k * 1000000))
    where
      late : m * f < k * 1000000 → leb (falls_on f k) m ≡ leb (k * 1000000) (m * f)
      late l =
          lt-leb (falls_on f k) m (⊎_elim (λ p. p) (λ q. absurd (let s : falls_on f k * f ≤ m * f = mul-le-mul {n₁ = falls_on f k} {m₁ = f} {n₂ = m} {m₂ = f} q (omega arith) in omega (arith, count_reached k))) (lt_or_le m (falls_on f k)))
          ∙ sym (lt-leb (k * 1000000) (m * f) l)

      early : k * 1000000 ≤ m * f → leb (falls_on f k) m ≡ leb (k * 1000000) (m * f)
      early l = le-leb (falls_on f k) m (count_first k m l) ∙ sym (le-leb (k * 1000000) (m * f) l)

  -- of the first n counts all have come, or as many as the quotient says
  come_all : (n m : ℕ) → n ≤ m * f / 1000000 → come f n m ≡ n
  unfolding come
  come_all zero m h = refl
  come_all (suc n) m h =
      ap₂ (λ (t : Bool) (k : ℕ). pick t (suc k) k) (has_come (suc n) m ∙ le-leb (suc n * 1000000) (m * f) (omega arith)) (come_all n m (omega arith))

  come_below : (n m : ℕ) → m * f / 1000000 ≤ n → come f n m ≡ m * f / 1000000
  unfolding come
  come_below zero m h = omega arith
  come_below (suc n) m h =
      ⊎_elim
      (λ l. ap₂ (λ (t : Bool) (k : ℕ). pick t (suc k) k) (has_come (suc n) m ∙ lt-leb (suc n * 1000000) (m * f) (omega arith)) (come_below n m (omega arith)))
      (λ g. come_all (suc n) m g ∙ omega arith)
      (lt_or_le (m * f / 1000000) (suc n))

  -- THE COUNT

  pub count_below : (m : ℕ) → m * f / 1000000 < f → count f m ≡ m * f / 1000000
  unfolding count
  count_below m h = come_below (f - 1) m (omega arith)

  pub count_held : (m : ℕ) → f ≤ m * f / 1000000 → count f m ≡ f - 1
  unfolding count
  count_held m h = come_all (f - 1) m (omega arith)

  -- of the two the smaller
  pub count_is_least : (m : ℕ) → min (m * f / 1000000) (f - 1) ≡ count f m
  count_is_least m =
      ⊎_elim
      (λ l. omega (arith, count_below m l))
      (λ g. omega (arith, count_held m g))
      (lt_or_le (m * f / 1000000) f)

  -- none has come with the pulse
  pub count_none : count f 0 ≡ 0
  count_none = count_below 0 (omega (arith, zero-mul f)) ∙ omega (arith, zero-mul f)

  pub count_least : (m : ℕ) → count f m < f
  count_least m =
      ⊎_elim
      (λ l. let e = count_below m l in omega arith)
      (λ g. let e = count_held m g in omega arith)
      (lt_or_le (m * f / 1000000) f)

  -- after a second it is held
  pub count_late : (m : ℕ) → 1000000 ≤ m → count f m ≡ f - 1
  count_late m h =
      count_held m (let l : 1000000 * f ≤ m * f = mul-le-mul {n₁ = 1000000} {m₁ = f} {n₂ = m} {m₂ = f} h (omega arith) in omega arith)

  -- THE NEXT COUNT

  later_count : (k n : ℕ) → k + 1 < f → k + 1 ≤ n * f / 1000000 → k < count f n
  later_count k n l h =
      ⊎_elim
      (λ q. let c = count_below n q in omega arith)
      (λ g. let c = count_held n g in omega arith)
      (lt_or_le (n * f / 1000000) f)

  -- the count rises by a later microsecond exactly if it is not held and the next one has come by then
  pub next_come : (m n : ℕ) → m ≤ n → (ltb (count f m + 1) f && leb ((count f m + 1) * 1000000) (n * f)) ≡ ltb (count f m) (count f n)
  next_come m n h =
      let s : m * f ≤ n * f = mul-le-mul {n₁ = m} {m₁ = f} {n₂ = n} {m₂ = f} h (omega arith) in
      ⊎_elim
      (λ l. let e = count_below m l in ⊎_elim
      (λ k. rw (lt-ltb (count f m + 1) f (omega arith)) (⊎_elim
      (λ (o : n * f < (count f m + 1) * 1000000). let c = count_below n (omega arith) in lt-leb _ _ o ∙ sym (le-ltb (count f m) (count f n) (omega arith)))
      (λ (o : (count f m + 1) * 1000000 ≤ n * f). le-leb _ _ o ∙ sym (lt-ltb (count f m) (count f n) (later_count (count f m) n (omega arith) (omega arith))))
      (lt_or_le (n * f) ((count f m + 1) * 1000000))))
      (λ k. rw (le-ltb (count f m + 1) f k) (sym (le-ltb (count f m) (count f n) (let c = count_least n in omega arith))))
      (lt_or_le (count f m + 1) f))
      (λ g. let e = count_held m g in rw (le-ltb (count f m + 1) f (omega arith)) (sym (le-ltb (count f m) (count f n) (let c = count_least n in omega arith))))
      (lt_or_le (m * f / 1000000) f)

  -- the two tests one after the other
  pub next_below : (m n : ℕ) → m ≤ n → count f m + 1 < f → leb ((count f m + 1) * 1000000) (n * f) ≡ ltb (count f m) (count f n)
  next_below m n h l = simp (lt-ltb (count f m + 1) f l) at (next_come m n h)

  pub next_last : (m n : ℕ) → m ≤ n → f ≤ count f m + 1 → ltb (count f m + 1) f ≡ ltb (count f m) (count f n)
  next_last m n h l = le-ltb (count f m + 1) f l ∙ sym (le-ltb (count f m) (count f n) (let c = count_least n in omega arith))

-- RISING

-- by a later microsecond no fewer have come
come_step : (c m d a b : ℕ) → a ≤ b → pick (leb c m) (suc a) a ≤ pick (leb c (m + d)) (suc b) b
come_step c m d a b h =
    ⊎_elim
    (λ l. rw (lt-leb c m l) (up (leb c (m + d))))
    (λ g. rw (le-leb c m g, le-leb c (m + d) (omega arith)) (omega arith))
    (lt_or_le m c)
  where
    up : (t : Bool) → a ≤ pick t (suc b) b
    up true = omega arith
    up false = h

come_more : (f n m d : ℕ) → come f n m ≤ come f n (m + d)
unfolding come
come_more f zero m d = omega arith
come_more f (suc n) m d = come_step (falls_on f (suc n)) m d (come f n m) (come f n (m + d)) (come_more f n m d)

pub count_more : (f m d : ℕ) → count f m ≤ count f (m + d)
unfolding count
count_more f m d = come_more f (f - 1) m d

ltb_suc : (a b : ℕ) → ltb a b ≡ ltb (suc a) (suc b)
ltb_suc a b =
    ⊎_elim
    (λ l. lt-ltb a b l ∙ sym (lt-ltb (suc a) (suc b) (omega arith)))
    (λ g. le-ltb a b g ∙ sym (le-ltb (suc a) (suc b) (omega arith)))
    (lt_or_le a b)

-- a count falls on a microsecond exactly if one more has come than by the one before
falls_step : (c m a b : ℕ) (r : Bool) → a ≤ b → r ≡ ltb a b → (eqb c (m + 1) || r) ≡ ltb (pick (leb c m) (suc a) a) (pick (leb c (m + 1)) (suc b) b)
falls_step c m a b r h e =
    ⊎_elim
    (λ l. ⊎_elim
    (λ k. rw (ne_eqb c (m + 1) (λ q. omega arith), lt-leb c m l, lt-leb c (m + 1) k) e)
    (λ g. rw (eq-eqb c (m + 1) (omega arith), lt-leb c m l, le-leb c (m + 1) g) (sym (lt-ltb a (suc b) (omega arith))))
    (lt_or_le (m + 1) c))
    (λ g. rw (ne_eqb c (m + 1) (λ q. omega arith), le-leb c m g, le-leb c (m + 1) (omega arith)) (e ∙ ltb_suc a b))
    (lt_or_le m c)

falls_rises : (f n m : ℕ) → falls_among f n (m + 1) ≡ ltb (come f n m) (come f n (m + 1))
unfolding falls_among come
falls_rises f zero m = refl
falls_rises f (suc n) m = falls_step (falls_on f (suc n)) m (come f n m) (come f n (m + 1)) (falls_among f n (m + 1)) (come_more f n m 1) (falls_rises f n m)

pub count_rises : (f m : ℕ) → count_falls f (m + 1) ≡ ltb (count f m) (count f (m + 1))
unfolding count_falls count
count_rises f m = falls_rises f (f - 1) m

-- THE FOUR FREQUENCIES

frequency_within : (rc1 : ℕ) → (0 < frequency rc1) × (frequency rc1 ≤ 256)
unfolding frequency
frequency_within rc1 = go (eqb rc1 0) (eqb rc1 1) (eqb rc1 2)
  where
    go : (a b c : Bool) → (0 < pick a 32 (pick b 64 (pick c 128 256))) × (pick a 32 (pick b 64 (pick c 128 256)) ≤ 256)
    go true b c = (omega arith, omega arith)
    go false true c = (omega arith, omega arith)
    go false false true = (omega arith, omega arith)
    go false false false = (omega arith, omega arith)

pub frequency_above : (rc1 : ℕ) → 0 < frequency rc1
frequency_above rc1 = (frequency_within rc1).0

pub frequency_most : (rc1 : ℕ) → frequency rc1 ≤ 256
frequency_most rc1 = (frequency_within rc1).1

pub count_small : (rc1 m : ℕ) → count (frequency rc1) m < 256
count_small rc1 m = let l = count_least (frequency rc1) (frequency_above rc1) m in omega (arith, frequency_most rc1)

-- what the code multiplies fits in 32 bits
pub scaled_most : (rc1 e : ℕ) → e ≤ 1008001 → e * frequency rc1 ≤ 1008001 * 256
scaled_most rc1 e h = mul-le-mul {n₁ = e} {m₁ = frequency rc1} {n₂ = 1008001} {m₂ = 256} h (frequency_most rc1)
