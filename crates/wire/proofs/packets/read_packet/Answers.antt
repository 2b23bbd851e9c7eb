-- `packets::read_packet` meets its contract: the frame's lines of the table first, then id and data.
-- Assumes nothing.
use mathlib.Core.Path.{sym, ◌∙◌}
use native.Mathlib.Omega.{arith}
use Rattle.wire.proofs.numbers.Names.{passed_on}
use Rattle.wire.proofs.packets.Laws.{start_empty, start_other, reads_packet, reads_refusal, reads_5, reads_6}
use Rattle.wire.proofs.packets.read_packet.Goals as goal

pub returns-in_default : goal.returns-in_default
returns-in_default c = start_empty _ (omega arith)

pub returns-in_default-2 : goal.returns-in_default-2
returns-in_default-2 c = start_other _ (omega arith) (λ e. omega arith)

pub returns-then-looked_at-eq41 : goal.returns-then-looked_at-eq41
returns-then-looked_at-eq41 c =
    reads_5 c.args.row.now (omega arith) (omega arith) _ (sym c.end_of.ensures ∙ c.in_default-end_of.is) (omega arith) (omega arith)

pub returns-else-looked_at-eq41 : goal.returns-else-looked_at-eq41
returns-else-looked_at-eq41 c =
    reads_6 c.args.row.now (omega arith) (omega arith) _ (sym c.end_of.ensures ∙ c.in_default-end_of.is) (omega arith) (omega arith)

pub returns-in_err-packet : goal.returns-in_err-packet
returns-in_err-packet c =
    passed_on _ _ c.from_residual.ensures.1
    ∙ reads_refusal c.args.row.now (omega arith) (omega arith) _ (omega arith) _ (sym c.end_of.ensures ∙ c.in-Some.is) _
    (sym c.read_body.ensures ∙ c.in_err-packet.was)

pub returns : goal.returns
returns c =
    reads_packet c.args.row.now (omega arith) (omega arith) _ (omega arith) _ (sym c.end_of.ensures ∙ c.in-Some.is) _ _
    (sym c.read_body.ensures ∙ c.in_ok-packet.was) c.needs_jam_off.ensures
