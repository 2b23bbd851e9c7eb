-- A table's rule, from one test over all of it. By induction on the table.
-- Assumes nothing.
use Prim.Native.Nat.{ℕ, zero, suc, ◌+◌, ◌<◌}
use mathlib.Core.Path.{◌≡◌, sym, ap, ◌∙◌}
use mathlib.Core.Bool.{Bool, true, ◌&&◌}
use mathlib.Core.List.{List, [], ◌∷◌}
use native.Mathlib.Nat.{add-zero, zero-add, add-suc, suc-add}
use native.Mathlib.Omega.{arith}
use lib.Dec.{eqb, lit<, lit≤}
use lib.ListN.{length, get_or}
use borrow.Author.Tests.{eqb-true}
use Rattle.wire.specs.Digits.{digits, num, PairTable}
use Rattle.wire.proofs.digits.Laws.{and_left, and_right, below_more, digits_below, num_below}

-- the test holds of each entry and its place, counted from i
abbrev pub all : (ℕ → ℕ → Bool) → ℕ → List ℕ → Bool
all test i [] = true
all test i (n ∷ ns) = test i n && all test (suc i) ns

from : (test : ℕ → ℕ → Bool) (i : ℕ) (ns : List ℕ) → all test i ns ≡ true → (k : ℕ) → k < length ns → test (i + k) (get_or ns k 0) ≡ true
from test i [] h k l = absurd (omega arith)
from test i (n ∷ ns) h zero l = ap (λ (m : ℕ). test m n) (add-zero i) ∙ and_left (test i n) (all test (suc i) ns) h
from test i (n ∷ ns) h (suc k) l =
    ap (λ (m : ℕ). test m (get_or ns k 0)) (add-suc i k ∙ sym (suc-add i k))
    ∙ from test (suc i) ns (and_right (test i n) (all test (suc i) ns) h) k (omega arith)

-- so it holds of the entry at each place
pub each : (test : ℕ → ℕ → Bool) (ns : List ℕ) → all test 0 ns ≡ true → (k : ℕ) → k < length ns → test k (get_or ns k 0) ≡ true
each test ns h k l = ap (λ (m : ℕ). test m (get_or ns k 0)) (sym (zero-add k)) ∙ from test 0 ns h k l

-- a table of pairs has its rule, by one test over all of it
abbrev pub right : ℕ → ℕ → Bool
right n pair = eqb pair (num 16 (digits 10 2 n))

pub pairs_right : (table : List ℕ) → length table ≡ 100 → all right 0 table ≡ true → PairTable table
pairs_right table l h = record { hundred = l; rule = λ n p. eqb-true (get_or table n 0) (num 16 (digits 10 2 n)) (each right table h n (rw l p)) }

-- the two digits of a number have eight bits
pub pair_small : (n : ℕ) → num 16 (digits 10 2 n) < 256
unfolding digits
pair_small n = num_below 16 (lit< tt) (digits 10 2 n) (below_more 10 16 (lit≤ tt) (digits 10 2 n) (digits_below 10 (lit< tt) 2 n))
