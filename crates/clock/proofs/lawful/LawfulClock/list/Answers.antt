-- `LawfulClock::list` meets its contract.
-- Assumes nothing.
use Prim.Native.Nat.{◌<◌}
use mathlib.Core.Path.{◌≡◌}
use native.Mathlib.Omega.{arith}
use lib.ListN.{length}
use Rattle.std.proofs.lemmas.List.{set-get_or}
use Rattle.clock.proofs.waiting.Window.{held_none, held_more, filled_all, filled_full}
use Rattle.clock.proofs.waiting.Heard as heard
use Rattle.clock.proofs.lawful.LawfulClock.list.Goals as goal

pub loop-i-init : goal.loop-i-init
loop-i-init c = held_none _ _ _ _ c.sources-first.ensures

pub returns-in_default : goal.returns-in_default
returns-in_default c =
    rw (set-get_or c.loop-i.row c.loop-i.i 0)
    let f = filled_all _ _ _ _ _ _ _ c.loop-i.invariant (rw c.least.ensures at c.in_default.ensures) in
    rw c.told.ensures (heard.told _ _ _ _ _ _ _ c.sources-first.ensures c.args.span.within f)

pub loop-i-preserved : goal.loop-i-preserved
loop-i-preserved c =
    let m = rw c.least.ensures at c.in-Some.ensures.1 in
    let l : c.loop-i.i < length c.loop-i.row = omega arith in
    rw (c.past-next.ensures, c.record_on.ensures, c.in-Some.ensures.0, c.least.ensures)
    (held_more _ _ _ _ _ _ _ c.args.span.within l m c.loop-i.invariant)

pub returns-then-span-least : goal.returns-then-span-least
returns-then-span-least c =
    let e : c.loop-i.i ≡ length c.loop-i.row = omega arith in
    let f = filled_all _ _ _ _ _ _ _ (rw e at c.loop-i.invariant) (rw c.least-2.ensures at c.if-span-least.true) in
    rw c.told-then-span-least.ensures (heard.told _ _ _ _ _ _ _ c.sources-first.ensures c.args.span.within f)

pub returns-else-span-least : goal.returns-else-span-least
returns-else-span-least c =
    let e : c.loop-i.i ≡ length c.loop-i.row = omega arith in
    let m = rw c.least-2.ensures at c.if-span-least.false in
    let f = filled_full _ _ _ _ _ _ _ c.requires c.args.span.within (rw e at c.loop-i.invariant) (omega arith) m in
    rw c.told-else-span-least.ensures (heard.told _ _ _ _ _ _ _ c.sources-first.ensures c.args.span.within f)
