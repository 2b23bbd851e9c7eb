-- `waiting::pass` meets its contract: a refusal leaves clock and row, and else the row is filled and the clock moved on.
-- Assumes nothing.
use Rattle.clock.proofs.waiting.Answer as answer
use Rattle.clock.proofs.waiting.pass.Goals as goal

pub list-listed-requires : goal.list-listed-requires
list-listed-requires c = (answer.may_list _ _ _ c.in-Ok.ensures.1).2

pub invariant_of-passed : goal.invariant_of-passed
invariant_of-passed c =
    let k = c.in-Ok.ensures in
    record { within = (answer.may_move _ _ _ _ k.1 (rw (k.0.0, k.0.1) at c.list-listed.ensures.0)).1 }

pub returns-in-Ok : goal.returns-in-Ok
returns-in-Ok c =
    let k = c.in-Ok.ensures in
    let l = rw (k.0.0, k.0.1) at c.list-listed.ensures.0 in
    let r = rw (k.0.0, k.0.1) at c.list-listed.ensures.1 in
    let t = rw k.0.0 at c.later.ensures in
    rw c.done.ensures (answer.pass_answers _ _ _ _ _ _ k.1 l r t)

pub returns-in-Err : goal.returns-in-Err
returns-in-Err c = rw c.refused.ensures (answer.refused _ _ _ _ (c.in-Err.ensures.1, c.in-Err.ensures.0))
