-- `feeding::answer_of` meets its contract: the number of ACK, on the card that holds the piece.
-- Assumes nothing.
use mathlib.Core.Path.{ap, ◌∙◌}
use Rattle.std.specs.Prelude.{⊤}
use Rattle.wire.specs.Numbers.{number_of}
use Rattle.wire.specs.declared.numbers.Answer.{Answer}
use Rattle.card.specs.declared.card.Card.{Card}
use Rattle.card.specs.Registers.{write_register}
use Rattle.listing.proofs.feeding.answer_of.Goals as goal

pub returns : goal.returns
returns c =
    c.number_of.ensures
    ∙ ap (λ (a : Answer Card ⊤). number_of a.outcome) c.write_register.ensures
    ∙ ap (λ (k : Card). number_of (write_register k 12 0x80).outcome) c.hold.ensures.card
