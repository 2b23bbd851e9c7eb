-- `packets::take` meets its contract: accepted or refused, by the jam and what the queue reads as.
-- Assumes nothing.
use mathlib.Core.Path.{sym, ◌∙◌}
use Rattle.wire.proofs.numbers.Names.{passed_on}
use Rattle.card.proofs.packets.Laws.{taken_is, taken_25, taken_refused}
use Rattle.card.proofs.packets.take.Goals as goal
use Rattle.card.proofs.packets.take.Goals.{else-jam-via-then-jam+else-read, else-jam-via-else-jam}

pub returns-in_err-read : goal.returns-in_err-read
returns-in_err-read c = passed_on _ _ c.from_residual.ensures.1 ∙ taken_refused _ c.args.queue _ _ (sym c.read_packet.ensures ∙ c.in_err-read.was)

pub returns-then-read : goal.returns-then-read
returns-then-read c = taken_25 _ c.args.queue c.args.settings _ (sym c.read_packet.ensures ∙ c.in_ok-read.was) (simp (c.if-jam.true, c.if-read.true))

pub returns : goal.returns
returns c =
    let e = sym c.read_packet.ensures ∙ c.in_ok-read.was in
    elim c.else-jam.branch [
      | else-jam-via-then-jam+else-read w ↦ taken_is _ c.args.queue c.args.settings _ e (simp (w.if-jam.true, w.if-read.false)) _ c.apply.ensures
      | else-jam-via-else-jam w ↦ taken_is _ c.args.queue c.args.settings _ e (simp w.if-jam.false) _ c.apply.ensures
    ]
