-- `waiting::wait` meets its contract: 18 where the card is not lawful elsewhere, and else what its clock answers.
-- Assumes nothing.
use mathlib.Core.Path.{sym, ◌∙◌}
use Rattle.card.proofs.waiting.Laws.{unlawful, passes, stops}
use Rattle.card.proofs.waiting.wait.Goals as goal

pub returns-then-not-rest_fits : goal.returns-then-not-rest_fits
returns-then-not-rest_fits c = rw c.refused.ensures (unlawful _ _ _ (sym c.rest_fits.ensures ∙ c.if-not-rest_fits.true))

pub returns-in-Err : goal.returns-in-Err
returns-in-Err c =
    rw c.refused-in-Err.ensures
    (stops _ _ _ (sym c.rest_fits.ensures ∙ c.if-not-rest_fits.false) _ _ _ c.pass-answer.ensures.0 c.pass-answer.ensures.1 (c.in-Err.is))

pub returns-in-Ok : goal.returns-in-Ok
returns-in-Ok c =
    rw (c.done.ensures, c.raise_sources-c.ensures)
    (passes _ _ _ (sym c.rest_fits.ensures ∙ c.if-not-rest_fits.false) _ _ _ c.pass-answer.ensures.0 c.pass-answer.ensures.1 c.in-Ok.is)
