-- Pending bits by `|`, `&` and `!`: what these give is computed for every number that there is to compute it for. Assumes nothing.
use Prim.Native.Nat.{ℕ, zero, suc, ◌-◌, ◌*◌, ◌/◌, ◌%◌, ◌^◌, ◌≤◌, ◌<◌}
use mathlib.Core.Path.{◌≡◌, refl, sym, ap, ◌∙◌}
use mathlib.Core.Bool.{Bool, true, false, ◌&&◌, not}
use mathlib.Core.Logic.{⊎_elim}
use native.Mathlib.Omega.{arith}
use lib.Bits.{bit_and, bit_or}
use lib.Dec.{eqb, lit<}
use mir.Val.{bool_byte}
use borrow.Author.Tests.{eqb-true, ne_eqb}
use Rattle.wire.proofs.digits.Laws.{lt_or_le, and_left, and_right}
use Rattle.std.proofs.lemmas.Nat.{and_mask, and_mod, pow_pos}
use Rattle.std.proofs.lemmas.Nat.Bits.{and_pow}
use Rattle.parts.specs.Interrupts.{sources_raised}
use Rattle.parts.specs.Pending.{bit, raised, lowered, cleared, meet}

-- a test of every number below n
unfoldable pub all : ℕ → (ℕ → Bool) → Bool
all zero f = true
all (suc n) f = f n && all n f

pub all_at : (n : ℕ) (f : ℕ → Bool) → all n f ≡ true → (x : ℕ) → x < n → f x ≡ true
unfolding all
all_at zero f h x l = absurd (omega arith)
all_at (suc n) f h x l =
    ⊎_elim (λ (m : x < n). all_at n f (and_right (f n) (all n f) h) x m)
    (λ (m : n ≤ x). ap f {x = x} {y = n} (omega arith) ∙ and_left (f n) (all n f) h) (lt_or_le x n)

unfoldable pub same : Bool → Bool → Bool
same true t = t
same false t = not t

pub same_is : (s t : Bool) → same s t ≡ true → s ≡ t
unfolding same
same_is true true e = refl
same_is false false e = refl
same_is true false e = sym e
same_is false true e = e

-- TESTED

-- the bit of weight w is set exactly if `&` with w is not zero
by_and : (n k : ℕ) → not (eqb (bit_and n (2 ^ k)) 0) ≡ bit (2 ^ k) n
by_and n k = ap (λ (m : ℕ). not (eqb m 0)) (and_pow n k) ∙ go (n / 2 ^ k % 2) (omega arith)
  where
    go : (t : ℕ) → t < 2 → not (eqb (t * 2 ^ k) 0) ≡ eqb t 1
    go zero l = ap (λ (m : ℕ). not (eqb m 0)) {x = 0 * 2 ^ k} {y = 0} (omega arith)
    go (suc zero) l = ap not (ne_eqb (1 * 2 ^ k) 0 (λ e. omega (arith, pow_pos k)))
    go (suc (suc t)) l = absurd (omega arith)

pub bit_0_by_and : (n : ℕ) → not (eqb (bit_and n 1) 0) ≡ bit 1 n
bit_0_by_and n = by_and n 0

pub bit_1_by_and : (n : ℕ) → not (eqb (bit_and n 2) 0) ≡ bit 2 n
bit_1_by_and n = by_and n 1

pub bit_2_by_and : (n : ℕ) → not (eqb (bit_and n 4) 0) ≡ bit 4 n
bit_2_by_and n = by_and n 2

-- RAISED

event_table : all 256 (λ (x : ℕ). eqb (bit_or x 1) (raised 1 true x)) ≡ true
unfolding all raised
event_table = refl

pub event_by_or : (x : ℕ) → x < 256 → bit_or x 1 ≡ raised 1 true x
event_by_or x l = eqb-true _ _ (all_at 256 (λ (x : ℕ). eqb (bit_or x 1) (raised 1 true x)) event_table x l)

abbrev sources_or : ℕ → Bool → Bool → Bool → ℕ
sources_or x periodic strobe second = bit_or (bit_or (bit_or x (bool_byte periodic * 2)) (bool_byte strobe * 4)) (bool_byte second * 8)

sources_table : (periodic strobe second : Bool) → all 256 (λ (x : ℕ). eqb (sources_or x periodic strobe second) (sources_raised periodic strobe second x)) ≡ true
unfolding all raised sources_raised
sources_table true true true = refl
sources_table true true false = refl
sources_table true false true = refl
sources_table true false false = refl
sources_table false true true = refl
sources_table false true false = refl
sources_table false false true = refl
sources_table false false false = refl

byte_below : (t : Bool) → bool_byte t < 2
byte_below true = lit< tt
byte_below false = lit< tt

pub sources_by_or : (periodic strobe second : Bool) (x p s t : ℕ) → x < 256 → p ≡ bool_byte periodic → s ≡ bool_byte strobe → t ≡ bool_byte second
    → bit_or (bit_or (bit_or x (p * 2 % 256)) (s * 4 % 256)) (t * 8 % 256) ≡ sources_raised periodic strobe second x
sources_by_or periodic strobe second x p s t l hp hs ht =
    let a : p * 2 % 256 ≡ bool_byte periodic * 2 = omega (arith, byte_below periodic) in
    let b : s * 4 % 256 ≡ bool_byte strobe * 4 = omega (arith, byte_below strobe) in
    let d : t * 8 % 256 ≡ bool_byte second * 8 = omega (arith, byte_below second) in
    rw (a, b, d) (eqb-true _ _ (all_at 256 (λ (x : ℕ). eqb (sources_or x periodic strobe second) (sources_raised periodic strobe second x)) (sources_table periodic strobe second) x l))

-- CLEARED

clear_table : all 32 (λ (v : ℕ). all 256 (λ (x : ℕ). eqb (bit_and x (255 - v)) (cleared v x))) ≡ true
unfolding all cleared lowered
clear_table = refl

low_bits : (v : ℕ) (x : ℕ) → cleared (v % 32) x ≡ cleared v x
unfolding cleared
low_bits v x =
    let a : v % 32 / 16 % 2 ≡ v / 16 % 2 = omega arith in
    let b : v % 32 / 8 % 2 ≡ v / 8 % 2 = omega arith in
    let d : v % 32 / 4 % 2 ≡ v / 4 % 2 = omega arith in
    let e : v % 32 / 2 % 2 ≡ v / 2 % 2 = omega arith in
    let f : v % 32 / 1 % 2 ≡ v / 1 % 2 = omega arith in
    rw (a, b, d, e, f)

pub cleared_by_and : (v x : ℕ) → x < 256 → bit_and x (255 - v % 32) ≡ cleared v x
cleared_by_and v x l =
    eqb-true _ _ (all_at 256 (λ (x : ℕ). eqb (bit_and x (255 - v % 32)) (cleared (v % 32) x))
    (all_at 32 (λ (v : ℕ). all 256 (λ (x : ℕ). eqb (bit_and x (255 - v)) (cleared v x))) clear_table (v % 32) (omega arith)) x l)
    ∙ low_bits v x

-- MEETING

meet_table : all 32 (λ (a : ℕ). all 32 (λ (b : ℕ). same (not (eqb (bit_and a b) 0)) (meet a b))) ≡ true
unfolding all same meet
meet_table = refl

low_meet : (a b : ℕ) → meet (a % 32) (b % 32) ≡ meet a b
unfolding meet
low_meet a b =
    let low : (n : ℕ) → (n % 32 / 16 % 2 ≡ n / 16 % 2) × (n % 32 / 8 % 2 ≡ n / 8 % 2) × (n % 32 / 4 % 2 ≡ n / 4 % 2) × (n % 32 / 2 % 2 ≡ n / 2 % 2) × (n % 32 / 1 % 2 ≡ n / 1 % 2) =
    λ n. (omega arith, omega arith, omega arith, omega arith, omega arith) in
    rw ((low a).0, (low a).1, (low a).2, (low a).3, (low a).4, (low b).0, (low b).1, (low b).2, (low b).3, (low b).4)

pub meet_by_and : (a b : ℕ) → not (eqb (bit_and (bit_and a b) 31) 0) ≡ meet a b
meet_by_and a b =
    ap (λ (n : ℕ). not (eqb n 0)) (and_mask (bit_and a b) 5 ∙ and_mod a b 5)
    ∙ same_is _ _ (all_at 32 (λ (b : ℕ). same (not (eqb (bit_and (a % 32) b) 0)) (meet (a % 32) b))
    (all_at 32 (λ (a : ℕ). all 32 (λ (b : ℕ). same (not (eqb (bit_and a b) 0)) (meet a b))) meet_table (a % 32) (omega arith)) (b % 32) (omega arith))
    ∙ low_meet a b
