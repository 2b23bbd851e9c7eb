-- `packets::read_offset` meets its contract: a sign and seven digits, which write a number below ten million, so that it and its negative fit.
-- Assumes nothing.
use Prim.Native.Nat.{◌≤◌}
use mathlib.Core.Path.{sym, ap, ◌∙◌}
use native.Mathlib.Omega.{arith}
use borrow.Author.Tests.{ne_eqb}
use Rattle.std.specs.Prelude.{Err}
use Rattle.wire.proofs.packets.Signs.{plain, negated, minus_fits, small_fits}
use Rattle.wire.proofs.numbers.Names.{passed_on}
use Rattle.wire.proofs.packets.Laws.{no_number, eight, not_eight, last_seven, small, offset_length, offset_number, offset_sign, offset_read}
use Rattle.wire.proofs.packets.read_offset.Goals as goal

pub returns-in_default : goal.returns-in_default
returns-in_default c = offset_length _ (λ e. omega arith)

pub returns-in_default-2 : goal.returns-in_default-2
returns-in_default-2 c = offset_length _ (not_eight _ (omega arith) c.if-digits-eq7.false)

pub returns-in_err-size : goal.returns-in_err-size
returns-in_err-size c =
    let p = no_number _ _ _ (sym c.ok_or.ensures.value ∙ c.in_err-size.was) in
    passed_on _ _ c.from_residual.ensures.1
    ∙ ap Err p.1
    ∙ offset_number _ (eight _ (omega arith) c.if-digits-eq7.true) (last_seven _ _ (sym c.read_number.ensures ∙ p.0))

pub overflow_cast-size : goal.overflow_cast-size
overflow_cast-size c =
    let n : c.in_ok-size.field-0 ≤ 9999999 = small _ _ (eight _ (omega arith) c.if-digits-eq7.true) (last_seven _ _ (sym c.read_number.ensures ∙ c.in_ok-size.ensures.ok_part)) in
    small_fits _ (omega arith)

pub overflow_sub-result : goal.overflow_sub-result
overflow_sub-result c =
    let n : c.in_ok-size.field-0 ≤ 9999999 = small _ _ (eight _ (omega arith) c.if-digits-eq7.true) (last_seven _ _ (sym c.read_number.ensures ∙ c.in_ok-size.ensures.ok_part)) in
    rw (plain c.in_ok-size.field-0 (omega arith)) (minus_fits c.in_ok-size.field-0 (omega arith))

pub returns-in-43 : goal.returns-in-43
returns-in-43 c =
    let e = last_seven _ _ (sym c.read_number.ensures ∙ c.in_ok-size.ensures.ok_part) in
    let n : c.in_ok-size.field-0 ≤ 9999999 = small _ _ (eight _ (omega arith) c.if-digits-eq7.true) e in
    offset_read _ (eight _ (omega arith) c.if-digits-eq7.true) _ e (simp c.in-43.is) _ (simp c.in-43.is (plain c.in_ok-size.field-0 (omega arith)))

pub returns-in-45 : goal.returns-in-45
returns-in-45 c =
    let e = last_seven _ _ (sym c.read_number.ensures ∙ c.in_ok-size.ensures.ok_part) in
    let n : c.in_ok-size.field-0 ≤ 9999999 = small _ _ (eight _ (omega arith) c.if-digits-eq7.true) e in
    offset_read _ (eight _ (omega arith) c.if-digits-eq7.true) _ e (simp c.in-45.is) _ (simp c.in-45.is (negated c.in_ok-size.field-0 (omega arith)))

pub returns-in_default-sign : goal.returns-in_default-sign
returns-in_default-sign c =
    offset_sign _ (eight _ (omega arith) c.if-digits-eq7.true) _ (last_seven _ _ (sym c.read_number.ensures ∙ c.in_ok-size.ensures.ok_part))
    (simp (ne_eqb _ _ c.in_default-sign.in_default-sign-own.rest.0.1, ne_eqb _ _ c.in_default-sign.in_default-sign-own.rest.1))
