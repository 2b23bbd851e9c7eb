-- Some counts, computed. At 32 and 64 Hz all fall on whole fractions of a second, at 128 and 256 Hz most are rounded up; the last count of 256 Hz falls after the
-- earliest pulse that is in time. Assumes nothing.
use Prim.Native.Nat.{ℕ, ◌*◌, ◌-◌, ◌≤◌, ◌<◌}
use mathlib.Core.Path.{◌≡◌, refl}
use mathlib.Core.Bool.{true, ◌&&◌}
use mathlib.Core.List.{[], ◌∷◌}
use mathlib.Core.Logic.{⊎_elim}
use native.Mathlib.Nat.{mul-le-mul}
use native.Mathlib.Omega.{arith}
use lib.Dec.{leb, ltb, lit<}
use borrow.Author.Tests.{leb-true, ltb-true}
use Rattle.wire.proofs.digits.Laws.{and_both, lt_or_le}
use Rattle.sync.specs.Counting.{falls_on}
use Rattle.sync.proofs.counting.Laws.{count_reached, count_first}

-- the first microsecond at or after k seconds over f is one that is, while the one before is not
pub count_is : (f k m : ℕ) → 0 < f → (leb (k * 1000000) (m * f) && ltb ((m - 1) * f) (k * 1000000)) ≡ true → falls_on f k ≡ m
count_is f k m p h =
    let q = and_both (leb (k * 1000000) (m * f)) (ltb ((m - 1) * f) (k * 1000000)) h in
    let n = falls_on f k in
    let a : n ≤ m = count_first f p k m (leb-true (k * 1000000) (m * f) q.0) in
    let b : (m - 1) * f < k * 1000000 = ltb-true ((m - 1) * f) (k * 1000000) q.1 in
    ⊎_elim
    (λ (l : n < m). absurd (let c : n * f ≤ (m - 1) * f = mul-le-mul {n₁ = n} {m₁ = f} {n₂ = m - 1} {m₂ = f} (omega arith) (omega arith) in omega (arith, count_reached f p k)))
    (λ (g : m ≤ n). omega arith)
    (lt_or_le n m)

-- the first counts of each frequency, three more of 256 Hz, and its last
pub computed :
    falls_on 32 1 ∷ falls_on 64 1 ∷ falls_on 128 1 ∷ falls_on 256 1 ∷ falls_on 256 2 ∷ falls_on 256 3 ∷ falls_on 256 4 ∷ falls_on 256 255 ∷ []
    ≡ 31250 ∷ 15625 ∷ 7813 ∷ 3907 ∷ 7813 ∷ 11719 ∷ 15625 ∷ 996094 ∷ []
computed =
    rw (
      count_is 32 1 31250 (lit< tt) refl,
      count_is 64 1 15625 (lit< tt) refl,
      count_is 128 1 7813 (lit< tt) refl,
      count_is 256 1 3907 (lit< tt) refl,
      count_is 256 2 7813 (lit< tt) refl,
      count_is 256 3 11719 (lit< tt) refl,
      count_is 256 4 15625 (lit< tt) refl,
      count_is 256 255 996094 (lit< tt) refl,
    ) refl
