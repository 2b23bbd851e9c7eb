-- `reading::scan` meets its contract. The invariant: the elements that came fit, and their number is added up.
-- Assumes nothing.
use Rattle.irig.proofs.reading.Laws.{scan_none, turn_marker, turn_plain}
use mathlib.Core.Path.{refl}
use native.Mathlib.Omega.{arith}
use borrow.Author.Rules.{rules}
use Rattle.std.proofs.lemmas.Slice.Zip.{zip_turn}
use Rattle.irig.proofs.reading.scan.Goals as goal

pub loop-shift-init : goal.loop-shift-init
loop-shift-init c = scan_none _

pub loop-shift-preserved-in-2-1 : goal.loop-shift-preserved-in-2-1
loop-shift-preserved-in-2-1 c =
    let t = zip_turn c.shifts.result.now c.args.row.now c.loop-shift.yielded c.into_iter-shift-iterator.result c.loop-shift.shift-iterator c.next.new.self _ (search rules) (search rules) c.loop-shift.yielded_by _ c.in-Some.is c.next.ensures.steps in
    let e = t.2 0 in
    let f = t.3 0 in
    turn_marker _ c.shifts.ensures _ _ _ (omega arith) _ _ refl c.loop-shift.invariant (cc (e, c.in-64-eq2.is-0)) (cc (f, c.in-64-eq2.is-1))

pub loop-shift-preserved : goal.loop-shift-preserved
loop-shift-preserved c =
    let t = zip_turn c.shifts.result.now c.args.row.now c.loop-shift.yielded c.into_iter-shift-iterator.result c.loop-shift.shift-iterator c.next.new.self _ (search rules) (search rules) c.loop-shift.yielded_by _ c.in-Some.is c.next.ensures.steps in
    let e = t.2 0 in
    let f = t.3 0 in
    rw (c.from.ensures, e, f) (turn_plain _ c.shifts.ensures _ _ _ (omega arith) _ _ refl c.loop-shift.invariant (λ q. c.in_default.is-0.1 (cc (e, q))) (omega arith))
