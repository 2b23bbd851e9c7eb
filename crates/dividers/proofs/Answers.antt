-- What the call answers, by the plain rule. Assumes nothing.
use Prim.Native.Nat.{ℕ, ◌≤◌}
use mathlib.Core.Path.{◌≡◌, refl, sym, ap, subst, ◌∙◌}
use mathlib.Core.Bool.{Bool, true, false, not}
use mathlib.Core.List.{[], ◌∷◌}
use mathlib.Core.Logic.{◌↔◌}
use native.Mathlib.Nat.{mul_comm}
use native.Mathlib.Omega.{arith}
use borrow.Author.Tests.{not-true, le-leb}
use Rattle.std.specs.Prelude.{Ok, Err}
use Rattle.wire.specs.declared.numbers.Refusal.{Refusal}
use Rattle.wire.specs.Numbers.{◌if◌, given, number_of, given_or}
use Rattle.wire.proofs.digits.Laws.{clash}
use Rattle.wire.proofs.numbers.Laws.{given_exactly}
use Rattle.wire.proofs.numbers.Names.{given_number, outside_period_named}
use Rattle.clock.specs.declared.clock.Clock.{Clock}
use Rattle.clock.specs.declared.setting.Dividers.TheVariants as Dividers
use Rattle.clock.specs.Clocks.{clock_lawful}
use Rattle.clock.specs.Setting.{set_periodic}
use Rattle.dividers.specs.declared.pairs.Pair.{Pair}
use Rattle.dividers.specs.declared.pairs.Nearest.{Nearest}
use Rattle.dividers.specs.Pairs.{pair, lawful, product, period, distance, measured}
use Rattle.dividers.specs.Nearest.{IsNearest, nearest, wanted_fits, wanted_lines, nearest_pair, zeros, found}
use Rattle.dividers.proofs.pairs.Laws.{within, is_lawful, turned}
use Rattle.dividers.proofs.nearest.Laws.{one_nearest, nearest_is}

-- THE NUMBER

-- that of its table
pub number_given : (wanted : ℕ) → number_of (nearest_pair wanted) ≡ given (wanted_lines wanted)
number_given wanted = given_number (wanted_lines wanted) (measured wanted (nearest wanted)) refl

-- 21 exactly outside the ends
pub refused_exactly_if : (wanted : ℕ) → number_of (nearest_pair wanted) ≡ 21 ↔ wanted_fits wanted ≡ false
refused_exactly_if wanted =
    rw (number_given wanted)
    let x = given_exactly 21 [] [] (not (wanted_fits wanted)) refl refl refl in
    (λ e. not-true (wanted_fits wanted) (x.0 e).0, λ u. x.1 (ap not u, refl))

-- 0 exactly between them
pub done_exactly_if : (wanted : ℕ) → number_of (nearest_pair wanted) ≡ 0 ↔ wanted_fits wanted ≡ true
done_exactly_if wanted = rw (number_given wanted) (go (wanted_fits wanted))
  where
    go : (t : Bool) → given (21 if not t ∷ []) ≡ 0 ↔ t ≡ true
    go true = (λ e. refl, λ e. refl)
    go false = (λ e. absurd (omega arith), λ e. clash (sym e))

-- refused it is by that name, and beside the refusal all is 0
pub refused_is : (wanted : ℕ) → wanted_fits wanted ≡ false → nearest_pair wanted ≡ Err Refusal.OutsidePeriod
refused_is wanted u = simp (u, outside_period_named)

pub zeros_beside : (wanted : ℕ) → wanted_fits wanted ≡ false → (number_of (nearest_pair wanted) ≡ 21) × (found wanted ≡ record { pair = pair 0 0; period = 0; distance = 0 })
zeros_beside wanted u = ((refused_exactly_if wanted).1 u, ap (given_or zeros) (refused_is wanted u))

-- THE PAIR

module _ (wanted : ℕ) (fits : wanted_fits wanted ≡ true) where
  pub found_is : nearest_pair wanted ≡ Ok (record { pair = nearest wanted; period = period (nearest wanted); distance = distance wanted (nearest wanted) })
  found_is = simp fits

  given_is : found wanted ≡ measured wanted (nearest wanted)
  given_is = ap (given_or zeros) found_is

  -- the pair given back is nearest by the plain rule
  pub found_nearest : IsNearest wanted (found wanted).pair
  found_nearest = subst (λ (r : Nearest). IsNearest wanted r.pair) (sym given_is) (nearest_is wanted)

  -- and no other is
  pub found_only : (p : Pair) → IsNearest wanted p → p ≡ (found wanted).pair
  found_only p a = one_nearest wanted p (found wanted).pair a found_nearest

  -- beside it stand its period and its distance
  pub found_period : (found wanted).period ≡ period (found wanted).pair
  found_period = rw given_is refl

  pub found_distance : (found wanted).distance ≡ distance wanted (found wanted).pair
  found_distance = rw given_is refl

  -- its n1 is not the larger of the two
  pub n1_first : (found wanted).pair.n1 ≤ (found wanted).pair.n2
  n1_first =
      let p = (found wanted).pair in
      found_nearest.least_n1 (pair p.n2 p.n1) (turned p found_nearest.fits) (mul_comm p.n2 p.n1)

  -- every lawful clock takes it as its dividers
  pub found_sets : (c : Clock) → clock_lawful c ≡ true → number_of (set_periodic c (Dividers.By (found wanted).pair.n1 (found wanted).pair.n2)).outcome ≡ 0
  found_sets c l = simp (l, found_nearest.fits)

-- EXACT PAIRS

-- the period of every lawful pair may be wanted
pub period_wanted : (p : Pair) → lawful p ≡ true → wanted_fits (period p) ≡ true
unfolding wanted_fits
period_wanted p h = let w = within p h in simp (le-leb 400 (period p) (omega arith), le-leb (period p) 429483622500 (omega arith))

-- a pair with this distance
abbrev at_distance : Pair → ℕ → Nearest
at_distance p d = record { pair = p; period = period p; distance = d }

-- a lawful pair is given back for its own period, if none of its product has a smaller n1
pub exact_found : (p : Pair) → lawful p ≡ true → ((q : Pair) → lawful q ≡ true → product q ≡ product p → p.n1 ≤ q.n1)
    → nearest_pair (period p) ≡ Ok (record { pair = p; period = period p; distance = 0 })
exact_found p h first =
    found_is (period p) (period_wanted p h)
    ∙ ap (λ (q : Pair). Ok (measured (period p) q)) (one_nearest (period p) (nearest (period p)) p (nearest_is (period p)) by_rule)
    ∙ ap (λ (d : ℕ). Ok (at_distance p d)) (omega arith)
  where
    by_rule : IsNearest (period p) p
    by_rule = record { fits = h; least_distance = λ q l. omega arith; least_product = λ q l e. omega arith; least_n1 = first }

-- so one with n1 = 2 always is
pub exact_by_two : (n2 : ℕ) → 2 ≤ n2 → n2 ≤ 65535 → nearest_pair (period (pair 2 n2)) ≡ Ok (record { pair = pair 2 n2; period = period (pair 2 n2); distance = 0 })
exact_by_two n2 a b = exact_found (pair 2 n2) (is_lawful 2 n2 (omega arith) (omega arith) a b) (λ q l e. (within q l).low1)

-- 1,000,000 ns gives 2 and 5,000
pub page_example : nearest_pair 1000000 ≡ Ok (record { pair = pair 2 5000; period = 1000000; distance = 0 })
page_example = exact_by_two 5000 (omega arith) (omega arith)
