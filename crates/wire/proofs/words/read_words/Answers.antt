-- `words::read_words` meets its contract: the time in words that read is that of their fields.
-- Assumes nothing.
use mathlib.Core.Path.{sym, ◌∙◌}
use Rattle.wire.proofs.words.Laws.{words_read}
use borrow.Author.Rules.{rules}
use Rattle.wire.proofs.words.read_words.Goals as goal

pub returns : goal.returns
returns c =
    sym
    (words_read _ _ _ _ _ (search rules) (sym c.all_digits.ensures ∙ c.if-not-all_digits.false)
    c.two.ensures.0 c.two-hour.ensures.0 c.two-minute.ensures.0 c.two-second.ensures.0
    _ _ (sym c.is_in_range.ensures ∙ c.if-not-is_in_range.false) c.fraction.ensures c.tick_at.ensures)
