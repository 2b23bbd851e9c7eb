-- Signed numbers of 32 bits: their sign and their negatives. By cases on the sign. Assumes nothing.
use Prim.Native.Nat.{ℕ, zero, suc, ◌<◌}
use mathlib.Core.Path.{◌≡◌, refl, ◌∙◌, ap}
use mathlib.Core.Bool.{true, false}
use native.Mathlib.Omega.{arith}
use borrow.Author.Tests.{ltb-true}
use lib.Dec.{lit<}
use lib.IntN.{ℤ, pos, negsuc, neg_ℤ, ◌-ℤ◌, +ℤ_idl}
use lib.Signed.{lt_z}
use mir.Syntax.{w32}
use mir.Val.{SFits, to_z, of_z}
use mir.ValLaws.{to_z_pos, to_z-of_z}
use Rattle.wire.specs.Packets.{sign_of}

minus : (n : ℕ) → pos 0 -ℤ pos n ≡ neg_ℤ (pos n)
minus n = +ℤ_idl (neg_ℤ (pos n))

neg_fits : (n : ℕ) → n < 2147483648 → SFits w32 (neg_ℤ (pos n))
neg_fits zero h = record { sfits = lit< tt }
neg_fits (suc n) h = record { sfits = omega arith }

pub small_fits : (n : ℕ) → n < 2147483648 → SFits w32 (pos n)
small_fits n h = record { sfits = omega arith }

pub minus_fits : (n : ℕ) → n < 2147483648 → SFits w32 (pos 0 -ℤ pos n)
minus_fits n h = rw (minus n) (neg_fits n h)

pub plain : (n : ℕ) → n < 2147483648 → to_z w32 n ≡ pos n
plain n h = to_z_pos w32 n (omega arith)

pub negated : (n : ℕ) → n < 2147483648 → to_z w32 (of_z w32 (pos 0 -ℤ to_z w32 n)) ≡ neg_ℤ (pos n)
negated n h = ap (λ (z : ℤ). to_z w32 (of_z w32 (pos 0 -ℤ z))) (plain n h) ∙ to_z-of_z w32 (pos 0 -ℤ pos n) (minus_fits n h) ∙ minus n

pub sign_minus : (z : ℤ) → lt_z z (pos 0) ≡ true → 0x2D ≡ sign_of z
unfolding sign_of
sign_minus (pos n) e = absurd (omega (arith, ltb-true n 0 e))
sign_minus (negsuc n) e = refl

pub sign_plus : (z : ℤ) → lt_z z (pos 0) ≡ false → 0x2B ≡ sign_of z
unfolding sign_of
sign_plus (pos n) e = refl
sign_plus (negsuc n) e = absurd (let q : ◌≡◌ {A = ℕ} 0 1 = cc in omega arith)
