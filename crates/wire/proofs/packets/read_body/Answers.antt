-- `packets::read_body` meets its contract: each id has its own function, and any other has no kinds.
-- Assumes nothing.
use mathlib.Core.Path.{refl, sym, ◌∙◌}
use native.Mathlib.Omega.{arith}
use Rattle.wire.proofs.numbers.Names.{passed_on}
use Rattle.wire.proofs.packets.Laws.{body_cut, body_empty, other_id, clock_refused, clock_read, generator_refused, generator_read}
use Rattle.wire.proofs.packets.read_body.Goals as goal

pub returns-in_default : goal.returns-in_default
returns-in_default c = body_empty _ (omega arith)

pub returns-in-65 : goal.returns-in-65
returns-in-65 c = body_cut _ _ (omega arith) c.in-65.is _ c.read_mode.ensures

pub returns-in-71 : goal.returns-in-71
returns-in-71 c = body_cut _ _ (omega arith) c.in-71.is _ c.read_offset.ensures

pub returns-in-72 : goal.returns-in-72
returns-in-72 c = body_cut _ _ (omega arith) c.in-72.is _ c.read_format.ensures

pub returns-in_err-read_letter-in-73 : goal.returns-in_err-read_letter-in-73
returns-in_err-read_letter-in-73 c =
    body_cut _ _ (omega arith) c.in-73.is _
    (passed_on _ _ c.from_residual.ensures.1 ∙ clock_refused _ _ (sym c.read_letter.ensures ∙ c.in_err-read_letter-in-73.was))

pub returns-in_ok-read_letter-in-73 : goal.returns-in_ok-read_letter-in-73
returns-in_ok-read_letter-in-73 c =
    body_cut _ _ (omega arith) c.in-73.is _ (clock_read _ _ (sym c.read_letter.ensures ∙ c.in_ok-read_letter-in-73.was))

pub returns-in_err-read_letter-in-75 : goal.returns-in_err-read_letter-in-75
returns-in_err-read_letter-in-75 c =
    body_cut _ _ (omega arith) c.in-75.is _
    (passed_on _ _ c.from_residual-in_err-read_letter-in-75.ensures.1 ∙ generator_refused _ _ (sym c.read_letter-in-75.ensures ∙ c.in_err-read_letter-in-75.was))

pub returns-in_ok-read_letter-in-75 : goal.returns-in_ok-read_letter-in-75
returns-in_ok-read_letter-in-75 c =
    body_cut _ _ (omega arith) c.in-75.is _ (generator_read _ _ (sym c.read_letter-in-75.ensures ∙ c.in_ok-read_letter-in-75.was))

pub returns-in_default-id : goal.returns-in_default-id
returns-in_default-id c =
    let r = c.in_default-id.in_default-id-own.rest in
    body_cut _ _ (omega arith) refl _ (other_id _ _ r.0.0.0.0.1 r.0.0.0.1 r.0.0.1 r.0.1 r.1)
