-- Every number of every call is that of its table of lines, and so it is given exactly if its line holds and no line above it does, and 0 exactly if none holds.
-- Assumes nothing.
use Prim.Native.Nat.{ℕ}
use mathlib.Core.Path.{◌≡◌, refl, sym, ap, ap₂, ◌∙◌}
use mathlib.Core.Bool.{Bool, true, false, ◌&&◌}
use mathlib.Core.List.{List, [], ◌∷◌, ◌++◌}
use mathlib.Core.Logic.{◌↔◌}
use lib.Dec.{eqb}
use borrow.Author.Tests.{eqb-true}
use Rattle.std.specs.Prelude.{⊤}
use Rattle.wire.specs.Digits.{pick}
use Rattle.wire.specs.Numbers.{Line, ◌if◌, given, quiet, absent, answered, number_of}
use Rattle.wire.specs.declared.numbers.Answer.{Answer}
use Rattle.wire.proofs.digits.Laws.{picked}
use Rattle.wire.proofs.numbers.Names.{given_number}
use Rattle.wire.proofs.numbers.Laws.{given_exactly, given_zero, given_append}
use Rattle.parts.specs.Pending.{bit}
use Rattle.parts.specs.Queues.{queued}
use Rattle.card.specs.declared.card.Card.{Card}
use Rattle.card.specs.Cards.{answer}
use Rattle.card.specs.Lawful.{lawful}
use Rattle.card.specs.Packets.{ack_lines, ack_refusal, ack_number, acknowledged}
use Rattle.card.specs.Registers
use Rattle.card.specs.Registers.{write_lines, write_refusal, write_register, written, line_refusal}
use Rattle.card.specs.Setting
use Rattle.card.specs.Waiting
use Rattle.card.specs.Reset
use Rattle.card.specs.Saved
use Rattle.card.specs.Saved.{save_refusal}
use Rattle.irig.specs.Writing
use Rattle.card.proofs.blocks.Laws.{block_number}
use Rattle.card.proofs.Ack.{ack_told, ack_numbered}
use Rattle.laws.specs.Calls.{Call, number}
use Rattle.laws.specs.Refusals.{lines}
use Rattle.laws.proofs.Outcomes.{by}

-- ---- registers

module _ (c : Card) (reg v : ℕ) where
  abbrev packet : List Line
  packet = pick (eqb reg 12 && bit 128 v) (ack_lines c.jam (queued c.queue)) []

  -- no packet is read by another register
  no_packet : eqb reg 12 ≡ false → 0 ≡ given packet
  no_packet e = simp e

  at_other : (k : ℕ) → eqb k 12 ≡ false → eqb reg k ≡ true → 0 ≡ given packet
  at_other k d e = no_packet (ap (λ (r : ℕ). eqb r 12) (eqb-true reg k e) ∙ d)

  ack_gives : number_of (answered {A = ⊤} (ack_number c) tt) ≡ given (ack_lines c.jam (queued c.queue))
  unfolding ack_refusal
  ack_gives = ack_told c.jam (queued c.queue) tt

  at_ack : eqb reg 12 ≡ true → number_of (acknowledged c v).outcome ≡ given packet
  unfolding acknowledged
  at_ack e = simp e (go (bit 128 v) _ _)
    where
      go : (t : Bool) (x y : Card) → number_of (pick t (answer x (ack_number c)) (answer y 0)).outcome ≡ given (pick t (ack_lines c.jam (queued c.queue)) [])
      go true x y = ack_gives
      go false x y = refl

  written_number : number_of (written c reg v).outcome ≡ given packet
  unfolding written
  written_number =
      by Gives (eqb reg 0) (at_other 0 refl)
      (λ e0. by Gives (eqb reg 11) (at_other 11 refl)
      (λ e11. by Gives (eqb reg 12) at_ack
      (λ e12. by Gives (eqb reg 13) (λ e. no_packet e12)
      (λ e13. by Gives (eqb reg 18) (λ e. no_packet e12) (λ e. no_packet e12)))))
    where
      Gives : Answer Card ⊤ → Type 0
      Gives a = number_of a.outcome ≡ given packet

  write_number : number_of (write_register c reg v).outcome ≡ given (write_lines (lawful c) reg c.queue.fill ++ packet)
  unfolding write_register write_refusal
  write_number =
      picked (λ (a : Answer Card ⊤). number_of a.outcome) (eqb (given (write_lines (lawful c) reg c.queue.fill)) 0) (written c reg v) (answer c (given (write_lines (lawful c) reg c.queue.fill)))
      ∙ ap₂ (pick (eqb (given (write_lines (lawful c) reg c.queue.fill)) 0)) written_number (given_number (write_lines (lawful c) reg c.queue.fill) tt refl)
      ∙ sym (given_append (write_lines (lawful c) reg c.queue.fill) packet refl)

-- ---- all calls

pub number_given : (k : Call) (c : Card) → number k c ≡ given (lines k c)
unfolding number Setting.set_time Setting.set_strobe Setting.set_periodic Setting.switch_jam Registers.read_register Registers.edge Registers.line line_refusal Waiting.wait Reset.reset Saved.load save_refusal Writing.write_refusal
number_given (Call.set_time year day hour minute second) c = given_number (lines (Call.set_time year day hour minute second) c) _ refl
number_given (Call.read reg) c = given_number (lines (Call.read reg) c) _ refl
number_given (Call.write reg v) c = write_number c reg v
number_given (Call.block row) c = block_number c row
number_given (Call.edge falling) c = given_number (lines (Call.edge falling) c) _ refl
number_given Call.line c = given_number (lines Call.line c) _ refl
number_given (Call.set_strobe s) c = given_number (lines (Call.set_strobe s) c) _ refl
number_given (Call.set_periodic d) c = given_number (lines (Call.set_periodic d) c) _ refl
number_given (Call.wait n row) c = given_number (lines (Call.wait n row) c) _ refl
number_given Call.reset c = given_number (lines Call.reset c) _ refl
number_given (Call.save row) c = refl
number_given (Call.load bytes) c = given_number (lines (Call.load bytes) c) _ refl
number_given (Call.write_frame row) c = refl
number_given (Call.switch_jam on) c = given_number (lines (Call.switch_jam on) c) _ refl

-- no line has the number 0
numbered : (k : Call) (c : Card) → absent 0 (lines k c) ≡ true
numbered (Call.set_time year day hour minute second) c = refl
numbered (Call.read reg) c = refl
numbered (Call.write reg v) c = by (λ (ls : List Line). absent 0 ls ≡ true) (eqb reg 12 && bit 128 v) (λ e. ack_numbered c.jam (queued c.queue)) (λ e. refl)
numbered (Call.block row) c = refl
numbered (Call.edge falling) c = refl
numbered Call.line c = refl
numbered (Call.set_strobe s) c = refl
numbered (Call.set_periodic d) c = refl
numbered (Call.wait n row) c = refl
numbered Call.reset c = refl
numbered (Call.save row) c = refl
numbered (Call.load bytes) c = refl
numbered (Call.write_frame row) c = refl
numbered (Call.switch_jam on) c = refl

-- 0 is given exactly if no line holds
pub done_exactly_if : (k : Call) (c : Card) → number k c ≡ 0 ↔ quiet (lines k c) ≡ true
done_exactly_if k c =
    let z = given_zero (lines k c) (numbered k c) in
    (λ e. z.0 (sym (number_given k c) ∙ e), λ q. number_given k c ∙ z.1 q)

-- and any other number exactly if its line holds and no line above it does, where no other line of the table has that number
pub given_exactly_if : (k : Call) (c : Card) (n : ℕ) (above below : List Line) (t : Bool) → lines k c ≡ above ++ (n if t ∷ below)
    → eqb n 0 ≡ false → absent n above ≡ true → absent n below ≡ true → number k c ≡ n ↔ ((t ≡ true) × (quiet above ≡ true))
given_exactly_if k c n above below t l z a b = rw (number_given k c ∙ ap given l) (given_exactly n above below t z a b)
