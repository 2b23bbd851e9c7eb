-- The nearest sample period: the plain rule, the one pair that it names, and the call.
use Rattle.std.specs.Prelude.{ℕ, zero, suc, ◌+◌, ◌≤◌, ◌<◌, ◌≡◌, Bool, true, ◌&&◌, ◌||◌, not, List, [], ◌∷◌, Result, leb, ltb, eqb}
use Rattle.wire.specs.Digits.{pick}
use Rattle.wire.specs.declared.numbers.Refusal.{Refusal}
use Rattle.wire.specs.Numbers.{Line, ◌if◌, given, answered, given_or}
use Rattle.dividers.specs.declared.pairs.Pair.{Pair}
use Rattle.dividers.specs.declared.pairs.Nearest.{Nearest}
use Rattle.dividers.specs.Pairs.{pair, lawful, product, distance, measured}

-- THE PLAIN RULE

-- a lawful pair is nearest if no lawful pair has a smaller distance, none of equal distance has a smaller product, and none of equal product a smaller n1
pub record IsNearest (wanted : ℕ) (p : Pair) : Type 0 where
  pub fits : lawful p ≡ true
  pub least_distance : (q : Pair) → lawful q ≡ true → distance wanted p ≤ distance wanted q
  pub least_product : (q : Pair) → lawful q ≡ true → distance wanted q ≡ distance wanted p → product p ≤ product q
  pub least_n1 : (q : Pair) → lawful q ≡ true → product q ≡ product p → p.n1 ≤ q.n1

-- THE ONE PAIR

-- the rule between two pairs: p comes before q if its distance is smaller; of equal distances if its product is; of equal products if its n1 is
unfoldable pub before : ℕ → Pair → Pair → Bool
before wanted p q =
    ltb (distance wanted p) (distance wanted q)
    || (eqb (distance wanted p) (distance wanted q) && (ltb (product p) (product q) || (eqb (product p) (product q) && ltb p.n1 q.n1)))

-- of the pairs f 0 to f n, the one that comes before the others
unfoldable pub first_of : ℕ → (ℕ → Pair) → ℕ → Pair
first_of wanted f zero = f 0
first_of wanted f (suc n) = pick (before wanted (f (suc n)) (first_of wanted f n)) (f (suc n)) (first_of wanted f n)

-- of the pairs with one n1, over n2 from 2 to 65,535
unfoldable pub with_n1 : ℕ → ℕ → Pair
with_n1 wanted n1 = first_of wanted (λ (k : ℕ). pair n1 (2 + k)) 65533

-- of all lawful pairs, over n1 from 2 to 65,535: it is nearest by the plain rule, and no other pair is (law `nearest_exactly_if` of proofs/nearest/Laws.antt)
unfoldable pub nearest : ℕ → Pair
nearest wanted = first_of wanted (λ (k : ℕ). with_n1 wanted (2 + k)) 65533

-- THE CALL

-- the wanted period is 400 to 429,483,622,500 ns
unfoldable pub wanted_fits : ℕ → Bool
wanted_fits wanted = leb 400 wanted && leb wanted 429483622500

-- 21 outside these ends
abbrev pub wanted_lines : ℕ → List Line
wanted_lines wanted = 21 if not (wanted_fits wanted) ∷ []

-- the nearest pair, its period and its distance
abbrev pub nearest_pair : ℕ → Result Nearest Refusal
nearest_pair wanted = answered (given (wanted_lines wanted)) (measured wanted (nearest wanted))

-- what is given back; zeros beside a refusal
abbrev pub zeros : Nearest
zeros = record { pair = pair 0 0; period = 0; distance = 0 }

abbrev pub found : ℕ → Nearest
found wanted = given_or zeros (nearest_pair wanted)

-- WITHIN THE CRATE

-- an n1 to begin with: every lawful pair with a smaller one is further than its pair with 65,535
pub record Begins (wanted n1 : ℕ) : Type 0 where
  pub low : 2 ≤ n1
  pub high : n1 ≤ 65535
  pub further : (q : Pair) → lawful q ≡ true → q.n1 < n1 → distance wanted (pair n1 65535) < distance wanted q
