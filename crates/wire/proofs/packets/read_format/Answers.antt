-- `packets::read_format` meets its contract: two bytes, each a letter of its kind, and a pair that has a meaning.
-- Assumes nothing.
use mathlib.Core.Path.{sym, ◌∙◌}
use native.Mathlib.Omega.{arith}
use Rattle.wire.proofs.numbers.Names.{passed_on}
use Rattle.wire.proofs.packets.Laws.{format_byte, modulation_byte, format_meaning, format_read}
use Rattle.wire.proofs.packets.read_format.Goals as goal

pub returns-in_err-format : goal.returns-in_err-format
returns-in_err-format c =
    passed_on _ _ c.from_residual.ensures.1
    ∙ format_byte _ (omega arith) _ (sym c.of_letter.ensures ∙ c.in_err-format.was)

pub returns-in_err-modulation : goal.returns-in_err-modulation
returns-in_err-modulation c =
    passed_on _ _ c.from_residual-in_err-modulation.ensures.1
    ∙ modulation_byte _ (omega arith) _ _ (sym c.of_letter.ensures ∙ c.in_ok-format.was) (sym c.of_letter-2.ensures ∙ c.in_err-modulation.was)

pub returns-then-not-pair_means : goal.returns-then-not-pair_means
returns-then-not-pair_means c =
    format_meaning _ (omega arith) _ _ (sym c.of_letter.ensures ∙ c.in_ok-format.was) (sym c.of_letter-2.ensures ∙ c.in_ok-modulation.was)
    (sym c.pair_means.ensures ∙ c.if-not-pair_means.true)

pub returns : goal.returns
returns c =
    format_read _ (omega arith) _ _ (sym c.of_letter.ensures ∙ c.in_ok-format.was) (sym c.of_letter-2.ensures ∙ c.in_ok-modulation.was)
    (sym c.pair_means.ensures ∙ c.if-not-pair_means.false)
