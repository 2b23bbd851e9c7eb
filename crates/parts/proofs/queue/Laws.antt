-- Of a lawful queue; and bytes are all zero exactly if they add up to zero. Assumes nothing.
use Prim.Native.Nat.{ℕ, zero, suc, ◌+◌, ◌≤◌, ◌<◌}
use mathlib.Core.Path.{◌≡◌, refl, sym, ap, ◌∙◌}
use mathlib.Core.Bool.{Bool, true, ◌&&◌}
use mathlib.Core.List.{List, [], ◌∷◌}
use native.Mathlib.Omega.{arith}
use lib.Dec.{eqb, leb, ltb}
use lib.ListN.{take, drop, set}
use lib.Seq.{drop-set-lt, drop-drop}
use borrow.Author.Tests.{eq-eqb, ne_eqb, le-ltb, leb-true, le-leb}
use Rattle.wire.specs.Digits.{below}
use Rattle.wire.proofs.digits.Laws.{and_left, and_right, and_both, below_drop, zeros_below}
use Rattle.parts.specs.declared.queue.Queue.{Queue}
use Rattle.parts.specs.Queues.{queue_lawful, empty_queue, enqueued}
use Rattle.std.specs.List.{sum}
use Rattle.std.proofs.lemmas.List.Sums.{sum_by-cons, sum_by-take-drop}

pub fill_within : (q : Queue) → queue_lawful q ≡ true → q.fill ≤ 64
unfolding queue_lawful
fill_within q h = leb-true q.fill 64 (and_left (leb q.fill 64) (below 1 (drop q.fill q.bytes)) h)

pub zeros_behind_fill : (q : Queue) → queue_lawful q ≡ true → below 1 (drop q.fill q.bytes) ≡ true
unfolding queue_lawful
zeros_behind_fill q h = and_right (leb q.fill 64) (below 1 (drop q.fill q.bytes)) h

pub empty_lawful : queue_lawful empty_queue ≡ true
unfolding queue_lawful
empty_lawful = zeros_below 64

pub enqueued_lawful : (q : Queue) (b : ℕ) → q.fill < 64 → queue_lawful q ≡ true → queue_lawful (enqueued q b) ≡ true
unfolding queue_lawful
enqueued_lawful q b l h =
    let a = and_both (leb q.fill 64) (below 1 (drop q.fill q.bytes)) h in
    let e : drop (q.fill + 1) (set q.bytes q.fill b) ≡ drop 1 (drop q.fill q.bytes) =
    drop-set-lt (q.fill + 1) q.bytes q.fill b (omega arith) ∙ sym (drop-drop 1 q.fill q.bytes) in
    simp (le-leb (q.fill + 1) 64 (omega arith), e, below_drop 1 1 (drop q.fill q.bytes) a.1)

-- ---- sums

zero_step : (b t : ℕ) (z : Bool) → eqb t 0 ≡ z → eqb (b + t) 0 ≡ (ltb b 1 && z)
zero_step zero t z e = ap (λ (n : ℕ). eqb n 0) (let q : 0 + t ≡ t = omega arith in q) ∙ e
zero_step (suc b) t z e = ne_eqb (suc b + t) 0 (λ q. omega arith) ∙ sym (ap (λ (s : Bool). s && z) (le-ltb (suc b) 1 (omega arith)))

zero_sum : (bs : List ℕ) → eqb (sum bs) 0 ≡ below 1 bs
unfolding below
zero_sum [] = refl
zero_sum (b ∷ bs) =
    ap (λ (n : ℕ). eqb n 0) (sum_by-cons (λ (x : ℕ). x) b bs)
    ∙ zero_step b (sum bs) (below 1 bs) (zero_sum bs)

-- only zeros stand behind a place exactly if nothing is added there
same_sum : (a b : ℕ) → eqb (a + b) a ≡ eqb b 0
same_sum a zero = eq-eqb (a + 0) a (omega arith)
same_sum a (suc b) = ne_eqb (a + suc b) a (λ e. omega arith) ∙ sym (ne_eqb (suc b) 0 (λ e. omega arith))

pub zeros_behind : (bs : List ℕ) (i : ℕ) → eqb (sum bs) (sum (take i bs)) ≡ below 1 (drop i bs)
zeros_behind bs i =
    ap (λ (n : ℕ). eqb n (sum (take i bs))) (sym (sum_by-take-drop (λ (x : ℕ). x) bs i))
    ∙ same_sum (sum (take i bs)) (sum (drop i bs))
    ∙ zero_sum (drop i bs)
