-- Refusals of all calls: the table of each, the exceptions to "refused, so unchanged", and the values beside a refusal, each as one definition with its cases.
use Rattle.std.specs.Prelude.{ℕ, ◌<◌, ◌≡◌, true, false, ◌&&◌, not, List, [], ◌∷◌, ◌++◌, eqb, length, take}
use Rattle.wire.specs.Digits.{pick}
use Rattle.wire.specs.Numbers.{Line, ◌if◌}
use Rattle.clock.specs.Setting.{time_lines, strobe_lines, divider_lines}
use Rattle.clock.specs.Waiting.{wait_lines}
use Rattle.parts.specs.Pending.{bit}
use Rattle.parts.specs.Queues.{empty_queue, queued}
use Rattle.card.specs.declared.card.Card.{Card}
use Rattle.card.specs.Blocks.{write_block, free, block_lines}
use Rattle.card.specs.Cards.{with_done, with_queue}
use Rattle.card.specs.Lawful.{lawful}
use Rattle.card.specs.Packets.{ack_lines, ack_number}
use Rattle.card.specs.Registers.{read_lines, write_lines}
use Rattle.card.specs.Saved.{save_lines, load_lines}
use Rattle.card.specs.Setting.{jam_lines}
use Rattle.irig.specs.Writing
use Rattle.laws.specs.Calls.{Call}

-- the lines of a call, in the page's order: its number is given exactly if that line holds and no line above it does, and 0 if none holds
abbrev pub lines : Call → Card → List Line
lines (Call.set_time year day hour minute second) c = 18 if not (lawful c) ∷ time_lines year day hour minute second
lines (Call.read reg) c = read_lines (lawful c) reg
lines (Call.write reg v) c = write_lines (lawful c) reg c.queue.fill ++ pick (eqb reg 12 && bit 128 v) (ack_lines c.jam (queued c.queue)) []
lines (Call.block row) c = block_lines (lawful c) c.queue row
lines (Call.edge falling) c = 18 if not (lawful c) ∷ []
lines Call.line c = 18 if not (lawful c) ∷ []
lines (Call.set_strobe s) c = 18 if not (lawful c) ∷ strobe_lines s
lines (Call.set_periodic d) c = 18 if not (lawful c) ∷ divider_lines d
lines (Call.wait n row) c = 18 if not (lawful c) ∷ wait_lines c.clock n (length row)
lines Call.reset c = 18 if not (lawful c) ∷ []
lines (Call.save row) c = save_lines c (length row)
lines (Call.load bytes) c = load_lines c bytes
lines (Call.write_frame row) c = Writing.write_lines c (length row)
lines (Call.switch_jam on) c = jam_lines c on

-- a refused call that changes the card: the call, the card before and after, and the number
pub data Excepted : Call → Card → Card → ℕ → Type 0 where
  -- a packet refused through ACK, by 4 to 10 or 25, empties the input queue and clears the done bit, and touches no setting
  packet : {c : Card} (v : ℕ) → lawful c ≡ true → bit 128 v ≡ true → (ack_number c ≡ 0 → ⊥)
      → Excepted (Call.write 12 v) c (with_done (with_queue c empty_queue) false) (ack_number c)
  -- a block with more bytes than free places, of which there is one at least: those that find one are in the queue, and the rest are not
  block : {c : Card} (row : List ℕ) → lawful c ≡ true → c.queue.fill < 64 → free c.queue < length row
      → Excepted (Call.block row) c (write_block c (take (free c.queue) row)).card 3

-- the values beside a refusal: 0, except one that a rule asks for there by name: how many bytes of a block were taken, beside 3
unfoldable pub beside : Call → Card → List ℕ
beside (Call.set_time year day hour minute second) c = []
beside (Call.read reg) c = 0 ∷ []
beside (Call.write reg v) c = []
beside (Call.block row) c = pick (lawful c) (free c.queue) 0 ∷ []
beside (Call.edge falling) c = []
beside Call.line c = 0 ∷ 0 ∷ 0 ∷ []
beside (Call.set_strobe s) c = []
beside (Call.set_periodic d) c = []
beside (Call.wait n row) c = 0 ∷ 0 ∷ []
beside Call.reset c = []
beside (Call.save row) c = []
beside (Call.load bytes) c = []
beside (Call.write_frame row) c = []
beside (Call.switch_jam on) c = []
