-- A block into the queue: the bytes of a row written to FIFO one after another, by one call.
use Rattle.std.specs.Prelude.{ℕ, ◌+◌, ◌-◌, min, Bool, not, List, [], ◌∷◌, ◌++◌, ltb, eqb, length, replicate}
use Rattle.wire.specs.Digits.{pick}
use Rattle.wire.specs.Numbers.{Line, ◌if◌, answered, number_of}
use Rattle.parts.specs.declared.queue.Queue.{Queue}
use Rattle.parts.specs.Queues.{queued}
use Rattle.card.specs.declared.card.Card.{Card}
use Rattle.card.specs.declared.blocks.BlockAnswer.{BlockAnswer}
use Rattle.card.specs.Lawful.{lawful}
use Rattle.card.specs.Registers.{write_register}

abbrev pub block_answer : Card → ℕ → ℕ → BlockAnswer
block_answer c n taken = record { card = c; taken = taken; outcome = answered n tt }

-- the same, where n bytes were taken before
abbrev pub behind : ℕ → BlockAnswer → BlockAnswer
behind n r = record { card = r.card; taken = n + r.taken; outcome = r.outcome }

-- bytes written to register 13 one after another, up to and including the first refusal
unfoldable pub one_by_one : Card → List ℕ → BlockAnswer
one_by_one c [] = block_answer c 0 0
one_by_one c (b ∷ bs) =
    pick (eqb (number_of (write_register c 13 b).outcome) 0) (behind 1 (one_by_one (write_register c 13 b).after bs))
    (block_answer (write_register c 13 b).after (number_of (write_register c 13 b).outcome) 0)

-- the same of a lawful card; 18 comes first, beside an empty row too
unfoldable pub write_block : Card → List ℕ → BlockAnswer
write_block c row = pick (lawful c) (one_by_one c row) (block_answer c 18 0)

-- AT ONCE

-- the free places of a queue
abbrev pub free : Queue → ℕ
free q = 64 - q.fill

-- how many bytes of a row find one: the lesser of the free places and its length
abbrev pub finding : Queue → List ℕ → ℕ
finding q row = min (free q) (length row)

-- bytes behind the ones that a queue holds, and zeros behind them
abbrev pub joined : Queue → List ℕ → Queue
joined q bs = record { bytes = queued q ++ (bs ++ replicate (64 - (q.fill + length bs)) 0); fill = q.fill + length bs }

-- REFUSALS

-- 18; 3 if there are more bytes than free places
abbrev pub block_lines : Bool → Queue → List ℕ → List Line
block_lines known q row =
    18 if not known
    ∷ 3 if ltb (free q) (length row)
    ∷ []
