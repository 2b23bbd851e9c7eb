-- Units counted without a division. n things are counted, u of them to a unit. How many shares of the unit one thing has is rounded up, so n things have too many; as long as that is by
-- less than one thing has, the whole units in these shares are those in n, and the rest of the shares gives the rest of n. Once over the unit. Assumes nothing.
use Prim.Native.Nat.{ℕ, ◌+◌, ◌*◌, ◌/◌, ◌%◌, ◌<◌}
use mathlib.Core.Path.{◌≡◌, sym, ap, ◌∙◌, subst}
use native.Mathlib.Nat.{mul_comm, mul_assoc, mul-add, add-mul, add_assoc, mod-lt, div-add-mod', mul-lt-mul_of_pos_right}
use lib.Arith.{digits_div, digits_mod, digits_lt}
use lib.Dec.{lit<}
use Rattle.wire.specs.Digits.{shares_in_unit, Splits}
use Rattle.wire.specs.declared.digits.Counted.{Counted}
use Rattle.wire.proofs.digits.Laws.{mod_div, mod_mod_mul}

-- x shares of a unit of u things give n things
pub record Gives (x n u : ℕ) : Type 0 where
  pub over : ℕ
  pub sum : x * u ≡ n * shares_in_unit + over
  pub small : over < shares_in_unit

-- one thing has m shares, and so a whole unit has e too many
pub rounded_up : (n m u e : ℕ) → m * u ≡ shares_in_unit + e → n * e < shares_in_unit → Gives (n * m) n u
rounded_up n m u e h l = record { over = n * e; sum = mul_assoc n m u ∙ ap (λ (k : ℕ). n * k) h ∙ mul-add n shares_in_unit e; small = l }

-- a unit of f smaller ones
pub finer : {x n : ℕ} (f u : ℕ) → Gives x n (f * u) → Gives (x * f) n u
finer {x} f u t = record { over = t.over; sum = mul_assoc x f u ∙ t.sum; small = t.small }

module _ {x n u : ℕ} (p : 0 < u) (t : Gives x n u) {r : Counted} (s : Splits x r) where
  -- a number that is c units of u things, and d things more
  units : (m c d : ℕ) → c * u + d ≡ m → m * shares_in_unit + t.over ≡ c * (u * shares_in_unit) + (d * shares_in_unit + t.over)
  units m c d e =
      ap (λ (k : ℕ). k * shares_in_unit + t.over) (sym e)
      ∙ ap (λ (k : ℕ). k + t.over) (add-mul (c * u) d shares_in_unit)
      ∙ add_assoc (c * u * shares_in_unit) (d * shares_in_unit) t.over
      ∙ ap (λ (k : ℕ). k + (d * shares_in_unit + t.over)) (mul_assoc c u shares_in_unit)

  both : x / shares_in_unit * (u * shares_in_unit) + x % shares_in_unit * u ≡ n / u * (u * shares_in_unit) + (n % u * shares_in_unit + t.over)
  both =
      ap (λ (k : ℕ). k + x % shares_in_unit * u) (ap (λ (k : ℕ). x / shares_in_unit * k) (mul_comm u shares_in_unit) ∙ sym (mul_assoc (x / shares_in_unit) shares_in_unit u))
      ∙ sym (add-mul (x / shares_in_unit * shares_in_unit) (x % shares_in_unit) u)
      ∙ ap (λ (k : ℕ). k * u) (div-add-mod' x shares_in_unit)
      ∙ t.sum
      ∙ units n (n / u) (n % u) (div-add-mod' n u)

  shares_low : x % shares_in_unit * u < u * shares_in_unit
  shares_low = rw (mul_comm u shares_in_unit) (mul-lt-mul_of_pos_right (mod-lt x (lit< tt)) p)

  things_low : n % u * shares_in_unit + t.over < u * shares_in_unit
  things_low = digits_lt (mod-lt n p) t.small

  -- the whole units
  pub counted : r.count ≡ n / u
  counted =
      s.count
      ∙ sym (digits_div (x / shares_in_unit) shares_low)
      ∙ ap (λ (k : ℕ). k / (u * shares_in_unit)) both
      ∙ digits_div (n / u) things_low

  -- and what the rest gives
  pub rest_gives : Gives r.rest (n % u) u
  rest_gives =
      record {
        over = t.over;
        sum =
            ap (λ (k : ℕ). k * u) s.rest
            ∙ sym (digits_mod (x / shares_in_unit) shares_low)
            ∙ ap (λ (k : ℕ). k % (u * shares_in_unit)) both
            ∙ digits_mod (n / u) things_low;
        small = t.small;
      }

-- One digit after another, the next one of base g. Of n, only what is left over whole f units is still given.
module _ {x : ℕ} (n f u : ℕ) (p : 0 < f) (q : 0 < u) (t : Gives x (n % (f * u)) u) {r : Counted} (s : Splits x r) where
  pub digit : r.count ≡ n / u % f
  digit = counted q t s ∙ mod_div n p q

  pub next : (g v : ℕ) → u ≡ g * v → Gives (r.rest * g) (n % u) v
  next g v e =
      let l : Gives r.rest (n % u) u = subst (λ (m : ℕ). Gives r.rest m u) (mod_mod_mul n p q) (rest_gives q t s) in
      finer g v (subst (λ (m : ℕ). Gives r.rest (n % u) m) e l)
