-- Waiting, of a card: its clock passes the window, and the pending bits of all listed sources are raised.
use Rattle.std.specs.Prelude.{ℕ, not, List, ◌∷◌, Result, length, eqb}
use Rattle.wire.specs.Digits.{pick}
use Rattle.wire.specs.Numbers.{Line, ◌if◌, given, given_or, granted}
use Rattle.wire.specs.declared.numbers.Refusal.{Refusal}
use Rattle.wire.specs.declared.numbers.Answer.{Answer}
use Rattle.clock.specs.declared.waiting.Fell.{Fell}
use Rattle.clock.specs.Waiting.{listed, passed, row_listed, fell, clock_later, wait_lines}
use Rattle.parts.specs.Interrupts.{with_pending, sources_raised}
use Rattle.card.specs.declared.card.Card.{Card}
use Rattle.card.specs.declared.waiting.Waited.{Waited}
use Rattle.card.specs.Cards.{with_clock, with_interrupts}
use Rattle.card.specs.Lawful.{lawful}

-- the bits of all listed sources raised
abbrev pub pending_after : Fell → ℕ → ℕ
pending_after f pending = sources_raised f.periodic f.strobe f.second pending

-- the card p ticks later, with those sources listed: clock and pending bits move, and nothing else
unfoldable pub card_after : Card → ℕ → Fell → Card
card_after c p f = with_interrupts (with_clock c (clock_later p c.clock)) (with_pending c.interrupts (pending_after f c.interrupts.pending))

-- 18 first, and then 15, 14, 16
abbrev pub card_lines : Card → ℕ → ℕ → List Line
card_lines c n room = 18 if not (lawful c) ∷ wait_lines c.clock n room

unfoldable pub wait_refusal : Card → ℕ → ℕ → ℕ
wait_refusal c n room = given (card_lines c n room)

abbrev pub waited : ℕ → ℕ → Waited
waited p k = record { passed = record { ticks = p }; written = k }

-- what a wait tells: the ticks passed and the records written, both 0 beside a refusal
abbrev pub told : Result Waited Refusal → Waited
told = given_or (waited 0 0)

-- A WAIT

-- what a wait of n ticks with so many places answers
unfoldable pub wait : Card → ℕ → ℕ → Answer Card Waited
wait c n room =
    granted (card_lines c n room) c
    (card_after c (passed c.clock n room) (fell (listed c.clock n room)))
    (waited (passed c.clock n room) (length (listed c.clock n room)))

-- and what it leaves in the row
unfoldable pub row_waited : Card → ℕ → List ℕ → List ℕ
row_waited c n row = pick (eqb (wait_refusal c n (length row)) 0) (row_listed c.clock n row) row
