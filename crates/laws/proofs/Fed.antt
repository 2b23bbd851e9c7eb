-- Bytes put into an empty queue one by one stand there in their order, and nothing else changes, as of a block; so a packet's bytes and then 0x80 to ACK set
-- what the packet says, or are refused by 25. Assumes nothing.
use Prim.Native.Nat.{ℕ, ◌+◌, ◌-◌, ◌≤◌}
use mathlib.Core.Path.{◌≡◌, refl, sym, ap, ap₂, subst, ◌∙◌}
use mathlib.Core.Bool.{Bool, true, false, ◌&&◌}
use mathlib.Core.List.{List, [], append-nil}
use native.Mathlib.Nat.{min-eq_right}
use native.Mathlib.Omega.{arith}
use lib.Dec.{eqb}
use lib.ListN.{length, take, replicate}
use lib.Seq.{take_at, take-length}
use Rattle.std.specs.Prelude.{Ok, ⊤}
use Rattle.wire.specs.Digits.{pick, below}
use Rattle.wire.specs.Numbers.{number_of}
use Rattle.wire.specs.declared.numbers.Answer.{Answer}
use Rattle.wire.specs.Packets.{read_packet, number_read, jam_off_read, bytes_of, fits, means, needs_jam_off}
use Rattle.wire.specs.declared.packets.Packet.{Packet}
use Rattle.wire.proofs.packets.Read.{read_is}
use Rattle.wire.proofs.packets.RoundTrip.{read_written, bytes_below, bytes_few}
use Rattle.parts.specs.declared.queue.Queue.{Queue}
use Rattle.parts.specs.Pending.{bit}
use Rattle.card.specs.declared.card.Card.{Card}
use Rattle.card.specs.declared.blocks.BlockAnswer.{BlockAnswer}
use Rattle.card.specs.Blocks.{finding, joined}
use Rattle.card.specs.Cards.{answer, with_done, with_queue, with_settings}
use Rattle.card.specs.Lawful.{lawful}
use Rattle.parts.specs.Queues.{empty_queue, queued}
use Rattle.parts.specs.Settings.{applied}
use Rattle.card.specs.Packets.{taken, ack_refusal, ack_number, settings_taken, acknowledged}
use Rattle.card.specs.Registers.{write_refusal, write_register, written}
use Rattle.card.proofs.blocks.Laws.{block_joined}
use Rattle.card.proofs.Ack.{ack_told, ack_decided, ack_reads}
use Rattle.laws.specs.Calls.{Call, after, fed}
use Rattle.laws.proofs.Blocks.{block_fed}
use Rattle.laws.proofs.Keeps.{keeps}

-- ---- an empty queue, filled

module _ (bs : List ℕ) (c : Card) (l : lawful c ≡ true) (z : c.queue ≡ empty_queue) (room : length bs ≤ 64) (s : below 256 bs ≡ true) where
  pub fed_card : fed c bs ≡ with_queue c (joined empty_queue bs)
  fed_card =
      let places : length c.queue.bytes ≡ 64 = ap (λ (q : Queue). length q.bytes) z in
      let n : finding c.queue bs ≡ length bs = min-eq_right (rw z (omega arith)) in
      sym (block_fed c bs)
      ∙ ap (λ (r : BlockAnswer). r.card) (block_joined c bs l places s)
      ∙ ap (λ (k : ℕ). with_queue c (joined c.queue (take k bs))) n
      ∙ ap₂ (λ (q : Queue) (taken : List ℕ). with_queue c (joined q taken)) z (take-length bs)

  pub fed_lawful : lawful (fed c bs) ≡ true
  unfolding after
  fed_lawful = subst (λ (d : Card). lawful d ≡ true) (block_fed c bs) (keeps (Call.block bs) c l)

  pub fed_queued : queued (fed c bs).queue ≡ bs
  fed_queued = ap (λ (k : Card). queued k.queue) fed_card ∙ take_at bs (replicate (64 - (0 + length bs)) 0) (0 + length bs) (omega arith)

-- ---- ACK of a lawful card

-- what it answers of a packet that is refused, and of one that is taken
abbrev pub refused_by : Card → ℕ → Answer Card ⊤
refused_by c n = answer (with_done (with_queue c empty_queue) false) n

abbrev pub set_by : Card → Packet → Answer Card ⊤
set_by c p = answer (with_done (with_settings (with_queue c empty_queue) (applied p c.settings)) true) 0

module _ (c : Card) (l : lawful c ≡ true) (v : ℕ) (b : bit 128 v ≡ true) where
  acknowledges : write_register c 12 v ≡ answer (taken c) (ack_number c)
  unfolding write_register write_refusal written acknowledged
  acknowledges = simp (l, b) (go (bit 1 v))
    where
      go : (t : Bool) → answer (taken (pick t (with_done c false) c)) (ack_number c) ≡ answer (taken c) (ack_number c)
      go true = refl
      go false = refl

  -- the queue reads as a packet: 25 if that needs the jam off while the jam is on, else what it says is set
  pub ack_is : (p : Packet) (needs : Bool) → read_packet (queued c.queue) ≡ Ok (record { packet = p; needs_jam_off = needs }) → write_register c 12 v ≡ pick (c.jam && needs) (refused_by c 25) (set_by c p)
  unfolding settings_taken
  ack_is p needs e = go (c.jam && needs) refl
    where
      decided : (t : Bool) → (c.jam && needs) ≡ t → ack_number c ≡ pick t 25 0
      decided t h = let r = read_is (queued c.queue) p needs e in ack_decided c.jam (queued c.queue) r.0 t (ap (λ (x : Bool). c.jam && x) r.2 ∙ h)

      go : (t : Bool) → (c.jam && needs) ≡ t → write_register c 12 v ≡ pick t (refused_by c 25) (set_by c p)
      go true h = acknowledges ∙ rw (decided true h) refl
      go false h = acknowledges ∙ rw (decided false h, (read_is (queued c.queue) p needs e).1) refl

-- ---- and of one whose empty queue was fed

module _ (bs : List ℕ) (c : Card) (l : lawful c ≡ true) (z : c.queue ≡ empty_queue) (room : length bs ≤ 64) (s : below 256 bs ≡ true) where
  -- the number is that of the table of ACK, of the bytes and of the card's jam
  pub fed_number : number_of (write_register (fed c bs) 12 0x80).outcome ≡ ack_refusal c.jam bs
  fed_number =
      ap (λ (a : Answer Card ⊤). number_of a.outcome) (acknowledges (fed c bs) (fed_lawful bs c l z room s) 0x80 refl)
      ∙ ack_told (fed c bs).jam (queued (fed c bs).queue) (tt {0})
      ∙ ap₂ ack_refusal (ap (λ (k : Card). k.jam) (fed_card bs c l z room s)) (fed_queued bs c l z room s)

  -- so what the bytes read as on their own decides it, and then the jam
  pub fed_reads : number_of (write_register (fed c bs) 12 0x80).outcome ≡ pick (eqb (number_read (read_packet bs)) 0) (pick (c.jam && jam_off_read (read_packet bs)) 25 0) (number_read (read_packet bs))
  fed_reads = fed_number ∙ ack_reads c.jam bs

  -- bytes that read as a packet set what it says, or are refused by 25
  pub fed_is : (p : Packet) (needs : Bool) → read_packet bs ≡ Ok (record { packet = p; needs_jam_off = needs }) → write_register (fed c bs) 12 0x80 ≡ pick (c.jam && needs) (refused_by c 25) (set_by c p)
  fed_is p needs e =
      ack_is (fed c bs) (fed_lawful bs c l z room s) 0x80 refl p needs (ap read_packet (fed_queued bs c l z room s) ∙ e)
      ∙ ap (λ (d : Card). pick (d.jam && needs) (refused_by d 25) (set_by d p)) (fed_card bs c l z room s)

-- a packet that can be written, put into an empty queue byte by byte and taken: 25 if it needs the jam off while the jam is on, else what it says is set
pub fed_packet : (p : Packet) (c : Card) → lawful c ≡ true → c.queue ≡ empty_queue → fits p ≡ true → means p ≡ true
    → write_register (fed c (bytes_of p)) 12 0x80 ≡ pick (c.jam && needs_jam_off p) (refused_by c 25) (set_by c p)
fed_packet p c l z f m =
    fed_is (bytes_of p) c l z (omega (arith, bytes_few p)) (bytes_below p f) p (needs_jam_off p) (ap read_packet (sym (append-nil (bytes_of p))) ∙ read_written p f m [])
