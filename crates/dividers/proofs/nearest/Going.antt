-- The search: what it has met before n1, and why it may stop. A pair that was not met, either way round, has no divider below n1, so its product is at least n1 × n1.
-- Assumes nothing.
use Prim.Native.Nat.{ℕ, ◌+◌, ◌*◌, ◌/◌, ◌≤◌, ◌<◌}
use mathlib.Core.Path.{◌≡◌, refl, ap, subst, ◌∙◌}
use mathlib.Core.Bool.{Bool, true, false}
use mathlib.Core.Logic.{⊎_elim}
use native.Mathlib.Nat.{mul-le-mul, mul_comm, le_trans, le_refl}
use native.Mathlib.Omega.{arith}
use Rattle.wire.specs.Digits.{pick}
use lib.Dec.{leb}
use borrow.Author.Tests.{leb-true}
use Rattle.std.specs.Prelude.{max}
use Rattle.wire.proofs.digits.Laws.{lt_or_le, and_right}
use Rattle.dividers.specs.declared.pairs.Pair.{Pair}
use Rattle.dividers.specs.declared.pairs.Nearest.{Nearest}
use Rattle.dividers.specs.Pairs.{pair, lawful, product, distance, measured, nearer}
use Rattle.dividers.specs.Nearest.{before, with_n1, nearest, wanted_fits, Begins}
use Rattle.dividers.proofs.pairs.Laws.{Within, within, is_lawful, turned, rank, by_distance, by_n1, rank_distance}
use Rattle.dividers.proofs.nearest.Laws.{sooner, row_fits, row_n1, row_least, least_is, nearer_is}

-- what a wanted period is at most
pub most : (wanted : ℕ) → wanted_fits wanted ≡ true → wanted ≤ 429483622500
unfolding wanted_fits
most wanted h = leb-true wanted 429483622500 (and_right (leb 400 wanted) (leb wanted 429483622500) h)

-- with every n1 before this one met: the best is a lawful pair, and none that was met is exact or comes before it
pub record Met (wanted n1 : ℕ) (best : Pair) : Type 0 where
  pub low : 2 ≤ n1
  pub fits : lawful best ≡ true
  pub from : best.n1 ≤ n1
  pub none : (q : Pair) → lawful q ≡ true → q.n1 < n1 → (0 < distance wanted q) × (rank wanted best ≤ rank wanted q)

-- what holds of two pairs holds of the one that is taken
either : (P : Pair → Type 0) {p q : Pair} (t : Bool) → P p → P q → P (pick t p q)
either P true a b = a
either P false a b = b

module _ (wanted : ℕ) (below : wanted ≤ 429483622500) where
  -- THE FIRST N1

  -- none is smaller than 2
  pub from_two : Begins wanted 2
  from_two = record { low = omega arith; high = omega arith; further = λ q h l. absurd (let w = within q h in omega arith) }

  -- with a smaller one the largest n2 stays below the wanted period, and further below
  pub from_quotient : 2 ≤ wanted / 6553500 → Begins wanted (wanted / 6553500)
  from_quotient g = record { low = g; high = omega arith; further = further }
    where
      further : (q : Pair) → lawful q ≡ true → q.n1 < wanted / 6553500 → distance wanted (pair (wanted / 6553500) 65535) < distance wanted q
      further q h l =
          let m : product q ≤ q.n1 * 65535 = mul-le-mul {n₁ = q.n1} {m₁ = q.n2} {n₂ = q.n1} {m₂ = 65535} (le_refl q.n1) (within q h).high2 in
          omega arith

  -- so it is the larger of the two
  pub begins_at : Begins wanted (max (wanted / 6553500) 2)
  begins_at =
      ⊎_elim
      (λ l. subst (Begins wanted) (omega arith) from_two)
      (λ g. subst (Begins wanted) (omega arith) (from_quotient g))
      (lt_or_le (wanted / 6553500) 2)

  pub begins : (n1 : ℕ) → Begins wanted n1 → Met wanted n1 (pair n1 65535)
  begins n1 f =
      let h = is_lawful n1 65535 f.low f.high (omega arith) (omega arith) in
      record {
        low = f.low;
        fits = h;
        from = le_refl n1;
        none = λ q l s. let d = f.further q l s in (omega arith, by_distance wanted (pair n1 65535) q (within (pair n1 65535) h) (within q l) d);
      }

  -- A TURN

  module _ (n1 : ℕ) (best : Pair) (g : Met wanted n1 best) (high : n1 ≤ 65535) where
    -- the nearest with this n1
    abbrev next : Pair
    next = with_n1 wanted n1

    next_fits : lawful next ≡ true
    next_fits = row_fits wanted n1 g.low high

    next_n1 : next.n1 ≡ n1
    next_n1 = row_n1 wanted n1 g.low high

    -- an exact pair: none with a smaller n1 is exact
    pub exact : distance wanted (with_n1 wanted n1) ≡ 0 → with_n1 wanted n1 ≡ nearest wanted
    exact z = least_is wanted next next_fits least
      where
        -- an exact pair has this n1 or a larger one
        not_before : (q : Pair) → lawful q ≡ true → distance wanted q ≤ 0 → next.n1 ≤ q.n1
        not_before q l s = ⊎_elim (λ (t : q.n1 < n1). absurd (let d = (g.none q l t).0 in omega arith)) (λ (t : n1 ≤ q.n1). omega (arith, next_n1)) (lt_or_le q.n1 n1)

        least : (q : Pair) → lawful q ≡ true → rank wanted next ≤ rank wanted q
        least q l =
            let a = within next next_fits in
            let b = within q l in
            ⊎_elim
            (λ (s : 0 < distance wanted q). by_distance wanted next q a b (omega arith))
            (λ (s : distance wanted q ≤ 0). by_n1 wanted next q a b (omega arith) (not_before q l s))
            (lt_or_le 0 (distance wanted q))

    -- no exact pair: of it and the best, the one that comes before the other goes on
    pub goes_on_lem : 0 < distance wanted (with_n1 wanted n1) → Met wanted (n1 + 1) (pick (before wanted (with_n1 wanted n1) best) (with_n1 wanted n1) best)
    goes_on_lem z =
        record {
          low = omega (arith, g.low);
          fits = either (λ (p : Pair). lawful p ≡ true) t next_fits g.fits;
          from = either (λ (p : Pair). p.n1 ≤ n1 + 1) t (omega (arith, next_n1)) (omega (arith, g.from));
          none = none;
        }
      where
        t : Bool
        t = before wanted next best

        taken : Pair
        taken = pick t next best

        least : (rank wanted taken ≤ rank wanted next) × (rank wanted taken ≤ rank wanted best)
        least = sooner wanted next best (within next next_fits) (within best g.fits)

        none : (q : Pair) → lawful q ≡ true → q.n1 < n1 + 1 → (0 < distance wanted q) × (rank wanted taken ≤ rank wanted q)
        none q l s =
            ⊎_elim (λ (u : q.n1 < n1). ((g.none q l u).0, le_trans least.1 (g.none q l u).1))
            (λ (u : n1 ≤ q.n1).
            let k = row_least wanted n1 g.low high q l (omega arith) in
            (let d = rank_distance wanted next q (within next next_fits) (within q l) k in omega (arith, z), le_trans least.0 k))
            (lt_or_le q.n1 n1)

  -- WHERE IT STOPS

  module _ (n1 : ℕ) (best : Pair) (g : Met wanted n1 best) where
    bounds : Within best
    bounds = within best g.fits

    pub distance_most : distance wanted best ≤ 429483622500
    distance_most = omega (arith, bounds.most)

    -- 100 × n1 × n1 is at least as far above the wanted period as the best pair
    pub stops : wanted + distance wanted best ≤ 100 * (n1 * n1) → best ≡ nearest wanted
    stops h = least_is wanted best g.fits least
      where
        -- neither divider was met
        unmet : (q : Pair) → lawful q ≡ true → n1 ≤ q.n1 → n1 ≤ q.n2 → rank wanted best ≤ rank wanted q
        unmet q l s t =
            let m : n1 * n1 ≤ product q = mul-le-mul {n₁ = n1} {m₁ = n1} {n₂ = q.n1} {m₂ = q.n2} s t in
            let d : distance wanted best ≤ distance wanted q = omega arith in
            let k : product best ≤ product q = omega arith in
            omega (arith, g.from)

        -- the other way round it was met
        turned_met : (q : Pair) → lawful q ≡ true → n1 ≤ q.n1 → q.n2 < n1 → rank wanted best ≤ rank wanted q
        turned_met q l s t =
            le_trans (g.none (pair q.n2 q.n1) (turned q l) t).1
            (by_n1 wanted (pair q.n2 q.n1) q (within (pair q.n2 q.n1) (turned q l)) (within q l) (mul_comm q.n2 q.n1) (omega arith))

        least : (q : Pair) → lawful q ≡ true → rank wanted best ≤ rank wanted q
        least q l =
            ⊎_elim
            (λ (s : q.n1 < n1). (g.none q l s).1)
            (λ (s : n1 ≤ q.n1). ⊎_elim (turned_met q l s) (unmet q l s) (lt_or_le q.n2 n1))
            (lt_or_le q.n1 n1)

    -- past 65,535 it has always stopped: the best pair is as near as the one with the longest period
    pub goes_within : n1 ≤ 65536 → 100 * (n1 * n1) < wanted + distance wanted best → n1 ≤ 65535
    goes_within l h = ⊎_elim (λ (s : n1 < 65536). omega arith) (λ (s : 65536 ≤ n1). absurd (last s)) (lt_or_le n1 65536)
      where
        last : 65536 ≤ n1 → ⊥
        last s =
            let m : 65536 * 65536 ≤ n1 * n1 = mul-le-mul {n₁ = 65536} {m₁ = 65536} {n₂ = n1} {m₂ = n1} s s in
            let q : lawful (pair 65535 65535) ≡ true = is_lawful 65535 65535 (omega arith) (omega arith) (omega arith) (omega arith) in
            let d = rank_distance wanted best (pair 65535 65535) bounds (within (pair 65535 65535) q) (g.none (pair 65535 65535) q (omega arith)).1 in
            omega arith

-- WITH WHAT IS MEASURED

-- the best so far, measured, with every n1 before this one met
pub record Best (wanted n1 : ℕ) (best : Nearest) : Type 0 where
  pub is : best ≡ measured wanted best.pair
  pub met : Met wanted n1 best.pair

module _ (wanted : ℕ) (fits : wanted_fits wanted ≡ true) where
  pub best_begins : (n1 : ℕ) → Begins wanted n1 → Best wanted n1 (measured wanted (pair n1 65535))
  best_begins n1 f = record { is = refl; met = begins wanted (most wanted fits) n1 f }

  module _ (n1 : ℕ) (best : Nearest) (b : Best wanted n1 best) where
    far : best.distance ≡ distance wanted best.pair
    far = ap (λ (m : Nearest). m.distance) b.is

    pub best_most : best.distance ≤ 429483622500
    best_most = rw far (distance_most wanted (most wanted fits) n1 best.pair b.met)

    -- after a turn that met no exact pair
    pub best_goes_on : n1 ≤ 65535 → 0 < distance wanted (with_n1 wanted n1) → Best wanted (n1 + 1) (nearer (measured wanted (with_n1 wanted n1)) best)
    best_goes_on h z =
        let n = row_n1 wanted n1 b.met.low h in
        let e = nearer_is wanted (with_n1 wanted n1) best.pair (omega (arith, b.met.from)) in
        rw (ap (nearer (measured wanted (with_n1 wanted n1))) b.is ∙ e)
        (record { is = refl; met = goes_on_lem wanted (most wanted fits) n1 best.pair b.met h z })

    pub best_exact : n1 ≤ 65535 → distance wanted (with_n1 wanted n1) ≡ 0 → measured wanted (with_n1 wanted n1) ≡ measured wanted (nearest wanted)
    best_exact h z = ap (measured wanted) (exact wanted (most wanted fits) n1 best.pair b.met h z)

    pub best_stops : wanted + best.distance ≤ 100 * (n1 * n1) → best ≡ measured wanted (nearest wanted)
    best_stops h = b.is ∙ ap (measured wanted) (stops wanted (most wanted fits) n1 best.pair b.met (rw far at h))

    pub best_within : n1 ≤ 65536 → 100 * (n1 * n1) < wanted + best.distance → n1 ≤ 65535
    best_within l h = goes_within wanted (most wanted fits) n1 best.pair b.met l (rw far at h)

-- after a turn that met no exact pair
module _ (wanted : ℕ) (fits : wanted_fits wanted ≡ true) (n1 : ℕ) (best : Nearest) (b : Best wanted n1 best) (h : n1 ≤ 65535) (next new : Nearest)
    (w : next ≡ measured wanted (with_n1 wanted n1)) (z : 0 < next.distance) (r : new ≡ nearer next best)
  where
    turned_best : Best wanted (n1 + 1) new
    turned_best = rw (r, w) (best_goes_on wanted fits n1 best b h (omega (arith, ap (λ (m : Nearest). m.distance) w)))

    pub turn_most : wanted + new.distance ≤ 858967245000
    turn_most = omega (arith, most wanted fits, best_most wanted fits (n1 + 1) new turned_best)

    pub turn_stops : wanted + new.distance ≤ 100 * ((n1 + 1) * (n1 + 1)) → new ≡ measured wanted (nearest wanted)
    turn_stops s = best_stops wanted fits (n1 + 1) new turned_best s

-- n1 × n1 up to the one behind the last
pub square : (n : ℕ) → n ≤ 65536 → n * n ≤ 4294967296
square n h = mul-le-mul {n₁ = n} {m₁ = n} {n₂ = 65536} {m₂ = 65536} h h
