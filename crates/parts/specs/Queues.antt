-- The input queue: bytes, and zeros behind them.
use Rattle.std.specs.Prelude.{ℕ, ◌+◌, Bool, ◌&&◌, List, take, drop, set, replicate, leb}
use Rattle.wire.specs.Digits.{below}
use Rattle.parts.specs.declared.queue.Queue.{Queue}

-- an empty queue: no bytes, and 64 zeros
abbrev pub empty_queue : Queue
empty_queue = record { bytes = replicate 64 0; fill = 0 }

-- what stands in a queue
abbrev pub queued : Queue → List ℕ
queued q = take q.fill q.bytes

-- a byte joins it
abbrev pub enqueued : Queue → ℕ → Queue
enqueued q b = record { bytes = set q.bytes q.fill b; fill = q.fill + 1 }

-- 18: no more than 64 bytes, and zeros behind them
unfoldable pub queue_lawful : Queue → Bool
queue_lawful q = leb q.fill 64 && below 1 (drop q.fill q.bytes)
