-- The pair that comes before all others is nearest by the plain rule, and no other is: its rank is the least. Assumes nothing.
use Prim.Native.Nat.{ℕ, zero, suc, ◌+◌, ◌-◌, ◌*◌, ◌≤◌, ◌<◌}
use mathlib.Core.Path.{◌≡◌, refl, sym, ap, subst, ◌∙◌}
use mathlib.Core.Bool.{Bool, true, false, ◌&&◌, ◌||◌, or-false}
use mathlib.Core.Logic.{◌↔◌, ⊎_elim}
use native.Mathlib.Nat.{le_refl, le_trans, le_antisymm, le_of_lt, le-suc_iff}
use native.Mathlib.Omega.{arith}
use lib.Dec.{ltb, eqb}
use borrow.Author.Tests.{ltb-true, ltb-false, eqb-true, eqb-false, lt-ltb, le-ltb}
use Rattle.wire.specs.Digits.{pick}
use Rattle.wire.proofs.digits.Laws.{lt_or_le, picked}
use Rattle.wire.proofs.packets.Laws.{and_false}
use Rattle.dividers.specs.declared.pairs.Pair.{Pair}
use Rattle.dividers.specs.Pairs.{pair, lawful, product, distance, measured, nearer}
use Rattle.dividers.specs.Nearest.{IsNearest, before, first_of, with_n1, nearest}
use Rattle.dividers.proofs.pairs.Laws.{Within, within, is_lawful, rank, by_distance, by_product, by_n1, rank_distance, rank_product, rank_n1, one_pair, one_rank}

-- THE FIRST OF SOME PAIRS

-- a pair that has no larger rank than either of two
abbrev pub Least : ℕ → Pair → Pair → Pair → Type 0
Least wanted r p q = (rank wanted r ≤ rank wanted p) × (rank wanted r ≤ rank wanted q)

-- not less and not equal
strictly : {m n : ℕ} → ltb m n ≡ false → eqb m n ≡ false → n < m
strictly {m} {n} c d = let l = ltb-false m n c in let k = eqb-false m n d in omega arith

times_100 : (m n : ℕ) → ltb (100 * m) (100 * n) ≡ ltb m n
times_100 m n = ⊎_elim (λ l. lt-ltb (100 * m) (100 * n) (omega arith) ∙ sym (lt-ltb m n l)) (λ g. le-ltb (100 * m) (100 * n) (omega arith) ∙ sym (le-ltb m n g)) (lt_or_le m n)

module _ (wanted : ℕ) where
  -- the one of two pairs that comes before the other
  pub sooner : (p q : Pair) → Within p → Within q → Least wanted (pick (before wanted p q) p q) p q
  unfolding before
  sooner p q a b = go _ _ _ _ _ refl refl refl refl refl
    where
      go : (s t u v w : Bool) → ltb (distance wanted p) (distance wanted q) ≡ s → eqb (distance wanted p) (distance wanted q) ≡ t → ltb (product p) (product q) ≡ u
          → eqb (product p) (product q) ≡ v → ltb p.n1 q.n1 ≡ w → Least wanted (pick (s || (t && (u || (v && w)))) p q) p q
      go true t u v w c d e f g = (le_refl _, by_distance wanted p q a b (ltb-true _ _ c))
      go false false u v w c d e f g = (by_distance wanted q p b a (strictly c d), le_refl _)
      go false true true v w c d e f g = (le_refl _, by_product wanted p q a b (eqb-true _ _ d) (ltb-true _ _ e))
      go false true false false w c d e f g = (by_product wanted q p b a (sym (eqb-true _ _ d)) (strictly e f), le_refl _)
      go false true false true true c d e f g = (le_refl _, by_n1 wanted p q a b (eqb-true _ _ f) (le_of_lt (ltb-true _ _ g)))
      go false true false true false c d e f g = (by_n1 wanted q p b a (sym (eqb-true _ _ f)) (ltb-false _ _ g), le_refl _)

  -- of two pairs, the second of which has no larger n1, `nearer` takes the one that comes before the other
  pub nearer_is : (p q : Pair) → q.n1 ≤ p.n1 → nearer (measured wanted p) (measured wanted q) ≡ measured wanted (pick (before wanted p q) p q)
  unfolding before nearer
  nearer_is p q h =
      simp (times_100, le-ltb p.n1 q.n1 h, and_false, or-false)
      (sym (picked (measured wanted) (ltb (distance wanted p) (distance wanted q) || (eqb (distance wanted p) (distance wanted q) && ltb (product p) (product q))) p q))

  -- of the pairs f 0 to f n the first is one of them, and none has a smaller rank
  record First (f : ℕ → Pair) (n : ℕ) : Type 0 where
    place : ℕ
    low : place ≤ n
    is : first_of wanted f n ≡ f place
    least : (k : ℕ) → k ≤ n → rank wanted (first_of wanted f n) ≤ rank wanted (f k)

  first_fits : {f : ℕ → Pair} {n : ℕ} → ((k : ℕ) → k ≤ n → lawful (f k) ≡ true) → First f n → lawful (first_of wanted f n) ≡ true
  first_fits fits r = ap lawful r.is ∙ fits r.place r.low

  first_step : (f : ℕ → Pair) (n : ℕ) → ((k : ℕ) → k ≤ suc n → lawful (f k) ≡ true) → First f n → First f (suc n)
  unfolding first_of
  first_step f n fits r =
      record {
        place = pick t (suc n) r.place;
        low = low t;
        is = is t;
        least = λ k h. ⊎_elim (λ l. le_trans s.1 (r.least k l)) (λ e. subst (λ (j : ℕ). rank wanted (pick t new old) ≤ rank wanted (f j)) (sym e) s.0) (le-suc_iff.0 h);
      }
    where
      new : Pair
      new = f (suc n)

      old : Pair
      old = first_of wanted f n

      t : Bool
      t = before wanted new old

      s : Least wanted (pick t new old) new old
      s = sooner new old (within new (fits (suc n) (le_refl (suc n)))) (within old (first_fits (λ k h. fits k (omega arith)) r))

      low : (u : Bool) → pick u (suc n) r.place ≤ suc n
      low true = le_refl (suc n)
      low false = let l = r.low in omega arith

      is : (u : Bool) → pick u new old ≡ f (pick u (suc n) r.place)
      is true = refl
      is false = r.is

  first_of_lem : (f : ℕ → Pair) (n : ℕ) → ((k : ℕ) → k ≤ n → lawful (f k) ≡ true) → First f n
  unfolding first_of
  first_of_lem f zero fits =
      record { place = 0; low = le_refl 0; is = refl; least = λ k h. subst (λ (j : ℕ). rank wanted (f 0) ≤ rank wanted (f j)) (omega arith) (le_refl (rank wanted (f 0))) }
  first_of_lem f (suc n) fits = first_step f n fits (first_of_lem f n (λ k h. fits k (omega arith)))

  -- THE PAIRS WITH ONE N1

  module _ (n1 : ℕ) (a : 2 ≤ n1) (b : n1 ≤ 65535) where
    row_lawful : (k : ℕ) → k ≤ 65533 → lawful (pair n1 (2 + k)) ≡ true
    row_lawful k h = is_lawful n1 (2 + k) a b (omega arith) (omega arith)

    row : First (λ (k : ℕ). pair n1 (2 + k)) 65533
    row = first_of_lem (λ (k : ℕ). pair n1 (2 + k)) 65533 row_lawful

    pub row_fits : lawful (with_n1 wanted n1) ≡ true
    unfolding with_n1
    row_fits = first_fits row_lawful row

    pub row_n1 : (with_n1 wanted n1).n1 ≡ n1
    unfolding with_n1
    row_n1 = ap (λ (p : Pair). p.n1) row.is

    pub row_n2 : (with_n1 wanted n1).n2 ≤ 65535
    row_n2 = (within (with_n1 wanted n1) row_fits).high2

    -- so it is known by its n2
    pub row_is : measured wanted (pair n1 (with_n1 wanted n1).n2) ≡ measured wanted (with_n1 wanted n1)
    row_is = ap (λ (m : ℕ). measured wanted (pair m (with_n1 wanted n1).n2)) (sym row_n1)

    pub row_least : (q : Pair) → lawful q ≡ true → q.n1 ≡ n1 → rank wanted (with_n1 wanted n1) ≤ rank wanted q
    unfolding with_n1
    row_least q h e =
        let w = within q h in
        subst (λ (m : ℕ). rank wanted (with_n1 wanted n1) ≤ rank wanted (pair m q.n2)) (sym e)
        (subst (λ (m : ℕ). rank wanted (with_n1 wanted n1) ≤ rank wanted (pair n1 m)) (omega arith) (row.least (q.n2 - 2) (omega arith)))

    -- it is the only one that has the least rank
    pub row_only : (p : Pair) → lawful p ≡ true → p.n1 ≡ n1 → ((q : Pair) → lawful q ≡ true → q.n1 ≡ n1 → rank wanted p ≤ rank wanted q) → p ≡ with_n1 wanted n1
    row_only p h e least =
        one_rank wanted p (with_n1 wanted n1) (within p h) (within (with_n1 wanted n1) row_fits) (least (with_n1 wanted n1) row_fits row_n1) (row_least p h e)

  -- ALL LAWFUL PAIRS

  rows_lawful : (k : ℕ) → k ≤ 65533 → lawful (with_n1 wanted (2 + k)) ≡ true
  rows_lawful k h = row_fits (2 + k) (omega arith) (omega arith)

  rows : First (λ (k : ℕ). with_n1 wanted (2 + k)) 65533
  rows = first_of_lem (λ (k : ℕ). with_n1 wanted (2 + k)) 65533 rows_lawful

  nearest_fits : lawful (nearest wanted) ≡ true
  unfolding nearest
  nearest_fits = first_fits rows_lawful rows

  nearest_least : (q : Pair) → lawful q ≡ true → rank wanted (nearest wanted) ≤ rank wanted q
  unfolding nearest
  nearest_least q h =
      let w = within q h in
      le_trans
      (subst (λ (m : ℕ). rank wanted (nearest wanted) ≤ rank wanted (with_n1 wanted m)) (omega arith) (rows.least (q.n1 - 2) (omega arith)))
      (row_least q.n1 w.low1 w.high1 q h refl)

  -- a lawful pair of the least rank is nearest by the plain rule
  by_rank : (p : Pair) → lawful p ≡ true → ((q : Pair) → lawful q ≡ true → rank wanted p ≤ rank wanted q) → IsNearest wanted p
  by_rank p h least =
      record {
        fits = h;
        least_distance = λ q l. rank_distance wanted p q (within p h) (within q l) (least q l);
        least_product = λ q l. rank_product wanted p q (within p h) (within q l) (least q l);
        least_n1 = λ q l. rank_n1 wanted p q (within p h) (within q l) (least q l);
      }

  -- and is the one that comes before all others
  pub least_is : (p : Pair) → lawful p ≡ true → ((q : Pair) → lawful q ≡ true → rank wanted p ≤ rank wanted q) → p ≡ nearest wanted
  least_is p h least =
      one_rank wanted p (nearest wanted) (within p h) (within (nearest wanted) nearest_fits) (least (nearest wanted) nearest_fits) (nearest_least p h)

  -- THE PLAIN RULE

  -- two nearest pairs are the same pair
  pub one_nearest : (p q : Pair) → IsNearest wanted p → IsNearest wanted q → p ≡ q
  one_nearest p q a b =
      one_pair wanted p q (within p a.fits) (within q b.fits) same_product
      (le_antisymm (a.least_n1 q b.fits (sym same_product)) (b.least_n1 p a.fits same_product))
    where
      same_distance : distance wanted p ≡ distance wanted q
      same_distance = le_antisymm (a.least_distance q b.fits) (b.least_distance p a.fits)

      same_product : product p ≡ product q
      same_product = le_antisymm (a.least_product q b.fits (sym same_distance)) (b.least_product p a.fits same_distance)

  -- for every wanted period there is one
  pub nearest_is : IsNearest wanted (nearest wanted)
  nearest_is = by_rank (nearest wanted) nearest_fits nearest_least

  -- so a pair is nearest exactly if it is this one
  pub nearest_exactly_if : (p : Pair) → IsNearest wanted p ↔ p ≡ nearest wanted
  nearest_exactly_if p = (λ a. one_nearest p (nearest wanted) a nearest_is, λ e. subst (λ (q : Pair). IsNearest wanted q) (sym e) nearest_is)
