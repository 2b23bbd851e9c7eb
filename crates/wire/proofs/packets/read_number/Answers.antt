-- `packets::read_number` meets its contract: the digits passed are decimal and write `n`, which stays below a power of ten.
-- Assumes nothing.
use Prim.Native.Nat.{◌≤◌, ◌^◌}
use mathlib.Core.Path.{sym}
use native.Mathlib.Omega.{arith}
use native.Mathlib.Nat.{pow-le-pow_right}
use lib.Dec.{lit<}
use Rattle.wire.proofs.packets.Laws.{read_none, read_more, read_all, not_decimal}
use Rattle.wire.proofs.packets.read_number.Goals as goal

pub loop-b-init : goal.loop-b-init
loop-b-init c = read_none _

pub returns-then-not-is_ascii_digit : goal.returns-then-not-is_ascii_digit
returns-then-not-is_ascii_digit c = sym (not_decimal _ _ c.loop-b-test.true (sym c.if-not-is_ascii_digit.ensures.value))

pub overflow_mul-n : goal.overflow_mul-n
overflow_mul-n c =
    let r = c.loop-b.invariant in
    let p : 10 ^ c.loop-b.b-index ≤ 100000000 = pow-le-pow_right (lit< tt) {j = 8} (omega arith) in
    omega (arith, r.small)

pub overflow_add-n : goal.overflow_add-n
overflow_add-n c =
    let r = c.loop-b.invariant in
    let p : 10 ^ c.loop-b.b-index ≤ 100000000 = pow-le-pow_right (lit< tt) {j = 8} (omega arith) in
    omega (arith, r.small, c.if-not-is_ascii_digit.ensures.cases)

pub loop-b-preserved : goal.loop-b-preserved
loop-b-preserved c =
    let d = c.if-not-is_ascii_digit.ensures.cases in
    rw c.from.ensures (read_more _ _ _ c.loop-b.invariant c.loop-b-test.true (omega (arith, d)) (omega (arith, d)))

pub returns : goal.returns
returns c = read_all _ _ _ c.loop-b.invariant (omega arith)
