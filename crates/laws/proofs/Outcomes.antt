-- Every call ends in one of four ways: the card is not lawful; it is refused and stays; it is accepted, and then what each call does; or it is one of the
-- exceptions that the page names. Each law of all calls goes by these cases. Assumes nothing.
use Prim.Native.Nat.{ℕ, suc, ◌%◌, ◌≤◌, ◌<◌}
use mathlib.Core.Path.{◌≡◌, refl, sym, ap, subst, ◌∙◌}
use mathlib.Core.Bool.{Bool, true, false, ◌&&◌, not}
use mathlib.Core.List.{List, [], ◌∷◌}
use mathlib.Core.Logic.{⊎_elim}
use native.Mathlib.Nat.{pos_of_ne-zero, le_antisymm, min-le_left}
use native.Mathlib.Omega.{arith}
use lib.Arith.{lt_of_le-ne}
use lib.Dec.{eqb, leb, ltb}
use lib.ListN.{length, take, length-take}
use lib.Seq.{take_all}
use borrow.Author.Tests.{eqb-true, eqb-false, ne_eqb, ltb-true, ltb-false, le-leb}
use Rattle.wire.specs.Digits.{pick, unpacked}
use Rattle.std.specs.Prelude.{Option, Some, None, ⊤}
use Rattle.wire.specs.Numbers.{Line, ◌if◌, given, number_of, granted}
use Rattle.wire.specs.declared.numbers.Answer.{Answer}
use Rattle.wire.proofs.numbers.Names.{named, given_number, answered_number}
use Rattle.wire.specs.Packets.{packet_in}
use Rattle.wire.proofs.numbers.Laws.{given_absent}
use Rattle.wire.proofs.digits.Laws.{lt_or_le}
use Rattle.clock.specs.declared.setting.StrobeAt.{StrobeAt}
use Rattle.clock.specs.declared.setting.Dividers.{Dividers}
use Rattle.clock.specs.Clocks.{with_strobe, with_periodic}
use Rattle.clock.specs.Setting.{date_fits, time_lines, time_set, strobe_fits, strobe_lines, strobe_kept, dividers_fit, divider_lines, periodic_kept}
use Rattle.clock.specs.Waiting.{passed, listed, fell, wait_lines}
use Rattle.parts.specs.declared.interrupts.Interrupts.{Interrupts}
use Rattle.card.specs.declared.card.Card.{Card}
use Rattle.card.specs.declared.blocks.BlockAnswer.{BlockAnswer}
use Rattle.card.specs.declared.registers.Request.{Request}
use Rattle.parts.specs.Events.{control_written, opened, matching}
use Rattle.parts.specs.Interrupts.{with_mask, with_pending, with_level, with_vector, interrupts_written, line_up}
use Rattle.card.specs.Blocks.{write_block, free, block_lines}
use Rattle.card.specs.Cards.{answer, with_clock, with_time_latch, with_event, with_done, with_interrupts, with_jam, with_queue, with_settings}
use Rattle.card.specs.Lawful.{lawful}
use Rattle.parts.specs.Pending.{bit, cleared}
use Rattle.parts.specs.Queues.{empty_queue, queued, enqueued}
use Rattle.parts.specs.Settings.{applied, jam_fits}
use Rattle.card.specs.Packets.{ack_number, settings_taken, taken, done_cleared, acknowledged}
use Rattle.card.specs.Registers
use Rattle.card.specs.Registers.{last_register, words_now, read_lines, read_refusal, read_register, shown, write_refusal, write_register, written, matched, line_refusal, request}
use Rattle.card.specs.Setting
use Rattle.card.specs.Setting.{jam_lines}
use Rattle.card.specs.Waiting
use Rattle.card.specs.Waiting.{card_lines, wait_refusal, card_after, waited}
use Rattle.card.specs.Reset
use Rattle.card.specs.Reset.{reset_card}
use Rattle.card.specs.Saved
use Rattle.parts.specs.Saved.{meaningful, settings_in}
use Rattle.card.specs.Saved.{save_refusal, load_lines}
use Rattle.irig.specs.Writing
use Rattle.card.proofs.blocks.Laws.{filled, block_18, block_is}
use Rattle.card.proofs.Ack.{ack_numbers, ack_told}
use Rattle.card.proofs.registers.Laws.{queue_within}
use Rattle.laws.specs.Calls.{Call, after, number}
use Rattle.laws.specs.Refusals.{Excepted}

-- what an accepted call does to a lawful card
pub data Effect (c : Card) : Call → Card → Type 0 where
  sets_time : (year day hour minute second : ℕ) → date_fits year day hour minute second ≡ true
      → Effect c (Call.set_time year day hour minute second) (with_clock c (time_set c.clock year day hour minute second))
  reads_time : Effect c (Call.read 0) (with_time_latch c (words_now c))
  reads_other : (reg : ℕ) → eqb reg 0 ≡ false → Effect c (Call.read reg) c
  requests_time : (v : ℕ) → Effect c (Call.write 0 v) (with_time_latch c (words_now c))
  writes_control : (v : ℕ) → Effect c (Call.write 11 v) (with_event c (control_written c.event v))
  clears_done : (v : ℕ) → bit 128 v ≡ false → Effect c (Call.write 12 v) (done_cleared v c)
  takes_packet : (v : ℕ) → bit 128 v ≡ true → ack_number c ≡ 0
      → Effect c (Call.write 12 v) (with_done (with_settings (with_queue c empty_queue) (applied (packet_in (queued c.queue)) c.settings)) true)
  joins_queue : (v : ℕ) → c.queue.fill < 64 → Effect c (Call.write 13 v) (with_queue c (enqueued c.queue (v % 256)))
  joins_block : (row : List ℕ) → length row ≤ free c.queue → Effect c (Call.block row) (with_queue c (filled c.queue row))
  writes_mask : (v : ℕ) → Effect c (Call.write 14 v) (with_interrupts c (with_mask c.interrupts (v % 32)))
  clears_pending : (v : ℕ) → Effect c (Call.write 15 v) (with_interrupts c (with_pending c.interrupts (cleared v c.interrupts.pending)))
  writes_level : (v : ℕ) → Effect c (Call.write 16 v) (with_interrupts c (with_level c.interrupts (v % 8)))
  writes_vector : (v : ℕ) → Effect c (Call.write 17 v) (with_interrupts c (with_vector c.interrupts (v % 256)))
  opens_latch : (v : ℕ) → Effect c (Call.write 18 v) (with_event c (opened c.event))
  matches_edge : (falling : Bool) → matching c.event.control falling ≡ true → Effect c (Call.edge falling) (matched c)
  passes_edge : (falling : Bool) → matching c.event.control falling ≡ false → Effect c (Call.edge falling) c
  tells_line : Effect c Call.line c
  sets_strobe : (s : StrobeAt) → strobe_fits s ≡ true → Effect c (Call.set_strobe s) (with_clock c (with_strobe c.clock (strobe_kept s)))
  sets_periodic : (d : Dividers) → dividers_fit d ≡ true → Effect c (Call.set_periodic d) (with_clock c (with_periodic c.clock (periodic_kept d)))
  waits : (n : ℕ) (row : List ℕ) → wait_refusal c n (length row) ≡ 0
      → Effect c (Call.wait n row) (card_after c (passed c.clock n (length row)) (fell (listed c.clock n (length row))))
  resets : Effect c Call.reset (reset_card c.clock.time c.settings)
  saves : (row : List ℕ) → Effect c (Call.save row) c
  loads : (bytes : List ℕ) → eqb (length bytes) 5 && meaningful (unpacked 2 8 bytes) ≡ true → jam_fits c.jam (settings_in (unpacked 2 8 bytes)) ≡ true
      → Effect c (Call.load bytes) (with_settings c (settings_in (unpacked 2 8 bytes)))
  writes_frame : (row : List ℕ) → Effect c (Call.write_frame row) c
  switches_jam : (on : Bool) → jam_fits on c.settings ≡ true → Effect c (Call.switch_jam on) (with_jam c on)

-- how a call ends: the card afterwards and the number
pub data Outcome (k : Call) (c : Card) : Card → ℕ → Type 0 where
  unlawful : lawful c ≡ false → Outcome k c c 18
  refused : {n : ℕ} → lawful c ≡ true → eqb n 0 ≡ false → eqb n 18 ≡ false → Outcome k c c n
  accepted : {d : Card} → lawful c ≡ true → Effect c k d → Outcome k c d 0
  excepted : {d : Card} {n : ℕ} → lawful c ≡ true → Excepted k c d n → eqb n 0 ≡ false → eqb n 18 ≡ false → Outcome k c d n

-- a choice has what both its sides have
pub by : {A : Type 0} (P : A → Type 0) (t : Bool) {a b : A} → (t ≡ true → P a) → (t ≡ false → P b) → P (pick t a b)
by P true f g = f refl
by P false f g = g refl

clash : (t : Bool) → t ≡ true → t ≡ false → ⊥
clash t e f = let q : ◌≡◌ {A = Bool} true false = sym e ∙ f in let z : ◌≡◌ {A = ℕ} 0 1 = cc in omega arith

-- ---- calls refused by 18 and one line more, or two, or by 18 alone

abbrev Ends : {T : Type 0} → Call → Card → Answer Card T → Type 0
Ends k c a = Outcome k c a.after (number_of a.outcome)

module _ (k : Call) (c d : Card) where
  -- by a table: what its number says
  by_table : {T : Type 0} (ls : List Line) (t : T) → named ls ≡ true → Outcome k c (pick (eqb (given ls) 0) d c) (given ls) → Ends k c (granted ls c d t)
  by_table ls t e o = subst (Outcome k c (pick (eqb (given ls) 0) d c)) (sym (given_number ls t e)) o

  abbrev Given : List Line → Type 0
  Given ls = Outcome k c (pick (eqb (given ls) 0) d c) (given ls)

  one_line : (n : ℕ) (f : Bool) → eqb n 0 ≡ false → eqb n 18 ≡ false → (f ≡ true → Effect c k d) → (known : Bool) → lawful c ≡ known → Given (18 if not known ∷ n if not f ∷ [])
  one_line n f z e h false l = unlawful l
  one_line n true z e h true l = accepted l (h refl)
  one_line n false z e h true l = by (λ (x : Card). Outcome k c x n) (eqb n 0) (λ q. absurd (clash (eqb n 0) q z)) (λ q. refused l z e)

  two_lines : (n m : ℕ) (f g : Bool) → eqb n 0 ≡ false → eqb n 18 ≡ false → eqb m 0 ≡ false → eqb m 18 ≡ false → (f ≡ true → g ≡ true → Effect c k d) → (known : Bool) → lawful c ≡ known
      → Given (18 if not known ∷ n if not f ∷ m if not g ∷ [])
  two_lines n m f g z e y w h false l = unlawful l
  two_lines n m true g z e y w h true l = one_line m g y w (h refl) true l
  two_lines n m false g z e y w h true l = by (λ (x : Card). Outcome k c x n) (eqb n 0) (λ q. absurd (clash (eqb n 0) q z)) (λ q. refused l z e)

  only_18 : (lawful c ≡ true → Effect c k d) → (known : Bool) → lawful c ≡ known → Given (18 if not known ∷ [])
  only_18 h false l = unlawful l
  only_18 h true l = accepted l (h l)

-- ---- registers

module _ (c : Card) (reg : ℕ) where
  abbrev latched : Card
  latched = pick (eqb reg 0) (with_time_latch c (words_now c)) c

  -- of an accepted reading
  shows : lawful c ≡ true → Outcome (Call.read reg) c latched 0
  shows l =
      by (λ (d : Card). Outcome (Call.read reg) c d 0) (eqb reg 0)
      (λ e. accepted l (subst (λ (r : ℕ). Effect c (Call.read r) (with_time_latch c (words_now c))) (sym (eqb-true reg 0 e)) reads_time))
      (λ e. accepted l (reads_other reg e))

  abbrev reading : ℕ → Type 0
  reading n = Outcome (Call.read reg) c (pick (eqb n 0) latched c) n

  read_by : (known : Bool) → lawful c ≡ known → reading (given (read_lines known reg))
  read_by false l = unlawful l
  read_by true l =
      by reading (ltb last_register reg) (λ e. refused l refl refl)
      (λ e. by reading (eqb reg 13) (λ f. refused l refl refl) (λ f. shows l))

module _ (c : Card) (v : ℕ) (l : lawful c ≡ true) where
  abbrev Takes : Answer Card ⊤ → Type 0
  Takes a = Outcome (Call.write 12 v) c a.after (number_of a.outcome)

  -- a packet of 4 to 10 or 25 is neither 0 nor 18
  not_18 : (ack_number c ≡ 0 → ⊥) → eqb (ack_number c) 18 ≡ false
  not_18 z = ne_eqb _ 18 (λ (e : ack_number c ≡ 18). ⊎_elim (λ q. omega (arith, q, e)) (λ q. omega (arith, q, e)) (ack_numbers c.jam (queued c.queue) z))

  taken_by : bit 128 v ≡ true → (t : Bool) → eqb (ack_number c) 0 ≡ t
      → Outcome (Call.write 12 v) c (with_done (with_settings (with_queue c empty_queue) (pick t (applied (packet_in (queued c.queue)) c.settings) c.settings)) t) (ack_number c)
  taken_by b true e =
      let z = eqb-true (ack_number c) 0 e in
      subst (λ (n : ℕ). Outcome (Call.write 12 v) c (with_done (with_settings (with_queue c empty_queue) (applied (packet_in (queued c.queue)) c.settings)) true) n) (sym z)
      (accepted l (takes_packet v b z))
  taken_by b false e =
      let z = eqb-false (ack_number c) 0 e in
      excepted l (Excepted.packet v l b z) e (not_18 z)

  take_by : bit 128 v ≡ true → (t : Bool) → eqb (ack_number c) 0 ≡ t
      → Takes (answer (with_done (with_settings (with_queue c empty_queue) (pick t (applied (packet_in (queued c.queue)) c.settings) c.settings)) t) (ack_number c))
  take_by b t e =
      subst (Outcome (Call.write 12 v) c (with_done (with_settings (with_queue c empty_queue) (pick t (applied (packet_in (queued c.queue)) c.settings) c.settings)) t))
      (sym (ack_told c.jam (queued c.queue) tt)) (taken_by b t e)

  acknowledges : Takes (acknowledged c v)
  unfolding acknowledged settings_taken
  acknowledges =
      by Takes (bit 128 v)
      (λ b. by (λ (d : Card). Takes (answer (taken d) (ack_number c))) (bit 1 v)
      (λ f. take_by b (eqb (ack_number c) 0) refl) (λ f. take_by b (eqb (ack_number c) 0) refl))
      (λ b. accepted l (clears_done v b))

module _ (c : Card) (reg v : ℕ) where
  abbrev Writes : Answer Card ⊤ → Type 0
  Writes a = Outcome (Call.write reg v) c a.after (number_of a.outcome)

  -- at a register of that number
  at : (r : ℕ) → eqb reg r ≡ true → (a : Answer Card ⊤) → Outcome (Call.write r v) c a.after (number_of a.outcome) → Writes a
  at r e a o = subst (λ (x : ℕ). Outcome (Call.write x v) c a.after (number_of a.outcome)) (sym (eqb-true reg r e)) o

  there : (r : ℕ) → eqb reg r ≡ true → (d : Card) → Outcome (Call.write r v) c d 0 → Writes (answer d 0)
  there r e d o = at r e (answer d 0) o

  -- of an accepted writing
  writes : lawful c ≡ true → ltb last_register reg ≡ false → (leb 1 reg && leb reg 10) ≡ false → (eqb reg 13 && eqb c.queue.fill 64) ≡ false → Writes (written c reg v)
  unfolding written interrupts_written
  writes l m w f =
      by Writes (eqb reg 0) (λ e. there 0 e _ (accepted l (requests_time v)))
      (λ e0. by Writes (eqb reg 11) (λ e. there 11 e _ (accepted l (writes_control v)))
      (λ e11. by Writes (eqb reg 12) (λ e. at 12 e (acknowledged c v) (acknowledges c v l))
      (λ e12. by Writes (eqb reg 13) (λ e. there 13 e _ (accepted l (joins_queue v (room e))))
      (λ e13. by Writes (eqb reg 18) (λ e. there 18 e _ (accepted l (opens_latch v)))
      (λ e18. by (λ (i : Interrupts). Writes (answer (with_interrupts c i) 0)) (eqb reg 14) (λ e. there 14 e _ (accepted l (writes_mask v)))
      (λ e14. by (λ (i : Interrupts). Writes (answer (with_interrupts c i) 0)) (eqb reg 15) (λ e. there 15 e _ (accepted l (clears_pending v)))
      (λ e15. by (λ (i : Interrupts). Writes (answer (with_interrupts c i) 0)) (eqb reg 16) (λ e. there 16 e _ (accepted l (writes_level v)))
      (λ e16. by (λ (i : Interrupts). Writes (answer (with_interrupts c i) 0)) (eqb reg 17) (λ e. there 17 e _ (accepted l (writes_vector v)))
      (λ e17. absurd (eqb-false reg 17 e17 (last (eqb-false reg 0 e0)
      (eqb-false reg 11 e11) (eqb-false reg 12 e12) (eqb-false reg 13 e13) (eqb-false reg 14 e14) (eqb-false reg 15 e15) (eqb-false reg 16 e16) (eqb-false reg 18 e18))))))))))))
    where
      room : eqb reg 13 ≡ true → c.queue.fill < 64
      room e = lt_of_le-ne (queue_within c l) (eqb-false c.queue.fill 64 (sym (ap (λ (t : Bool). t && eqb c.queue.fill 64) e) ∙ f))

      above : (reg ≡ 0 → ⊥) → reg ≤ 10 → ⊥
      above z h =
          let q : ◌≡◌ {A = Bool} true false = sym (ap (λ (t : Bool). t && leb reg 10) (le-leb 1 reg (pos_of_ne-zero z)) ∙ le-leb reg 10 h) ∙ w in
          let z : ◌≡◌ {A = ℕ} 0 1 = cc in
          omega arith

      next : (r : ℕ) → r ≤ reg → (reg ≡ r → ⊥) → suc r ≤ reg
      next r h e = lt_of_le-ne h (λ q. e (sym q))

      last : (reg ≡ 0 → ⊥) → (reg ≡ 11 → ⊥) → (reg ≡ 12 → ⊥) → (reg ≡ 13 → ⊥) → (reg ≡ 14 → ⊥) → (reg ≡ 15 → ⊥) → (reg ≡ 16 → ⊥) → (reg ≡ 18 → ⊥) → reg ≡ 17
      last a b d e g h i j =
          let w : reg < 18 = lt_of_le-ne (ltb-false 18 reg m) j in
          ⊎_elim (λ (u : 10 < reg). le_antisymm (omega arith) (next 16 (next 15 (next 14 (next 13 (next 12 (next 11 u b) d) e) g) h) i))
          (λ (u : reg ≤ 10). absurd (above a u)) (lt_or_le 10 reg)

  abbrev writing : ℕ → Type 0
  writing n = Writes (pick (eqb n 0) (written c reg v) (answer c n))

  -- refused by a number that has a name
  write_not : (n : ℕ) → 1 ≤ n → n ≤ 25 → Outcome (Call.write reg v) c c n → Outcome (Call.write reg v) c c (number_of (answer c n).outcome)
  write_not n a b o = subst (Outcome (Call.write reg v) c c) (sym (answered_number n tt b)) o

  write_by : (known : Bool) → lawful c ≡ known → writing (write_refusal known reg c.queue.fill)
  unfolding write_refusal
  write_by false l = write_not 18 (omega arith) (omega arith) (unlawful l)
  write_by true l =
      by writing (ltb last_register reg) (λ e. write_not 1 (omega arith) (omega arith) (refused l refl refl))
      (λ m. by writing (leb 1 reg && leb reg 10) (λ e. write_not 2 (omega arith) (omega arith) (refused l refl refl))
      (λ w. by writing (eqb reg 13 && eqb c.queue.fill 64) (λ e. write_not 3 (omega arith) (omega arith) (refused l refl refl))
      (λ f. writes l m w f)))

-- ---- a block

module _ (c : Card) (row : List ℕ) where
  abbrev Blocked : Card → ℕ → Type 0
  Blocked d n = Outcome (Call.block row) c d n

  abbrev found : Card
  found = with_queue c (filled c.queue (take (free c.queue) row))

  -- the bytes that find a place are a block of their own, which is accepted
  few : length (take (free c.queue) row) ≤ free c.queue
  few = omega (arith, length-take (free c.queue) row, min-le_left (free c.queue) (length row))

  found_is : lawful c ≡ true → found ≡ (write_block c (take (free c.queue) row)).card
  found_is l =
      ap (λ (bs : List ℕ). with_queue c (filled c.queue bs)) (sym (take_all (free c.queue) (take (free c.queue) row) few))
      ∙ sym (ap (λ (r : BlockAnswer). r.card) (block_is c (take (free c.queue) row) l))

  pub found_effect : lawful c ≡ true → Effect c (Call.block (take (free c.queue) row)) (write_block c (take (free c.queue) row)).card
  found_effect l = subst (Effect c (Call.block (take (free c.queue) row))) (found_is l) (joins_block (take (free c.queue) row) few)

  -- none finds one
  full : lawful c ≡ true → c.queue.fill ≡ 64 → found ≡ c
  full l e = ap (λ (k : ℕ). with_queue c (filled c.queue (take k row))) (let z : free c.queue ≡ 0 = omega arith in z)

  left_over : lawful c ≡ true → free c.queue < length row → Blocked found 3
  left_over l h =
      ⊎_elim
      (λ (r : c.queue.fill < 64). subst (λ (d : Card). Blocked d 3) (sym (found_is l)) (excepted l (Excepted.block row l r h) refl refl))
      (λ (f : 64 ≤ c.queue.fill). subst (λ (d : Card). Blocked d 3) (sym (full l (le_antisymm (queue_within c l) f))) (refused l refl refl))
      (lt_or_le c.queue.fill 64)

  all_found : lawful c ≡ true → length row ≤ free c.queue → Blocked found 0
  all_found l h = subst (λ (bs : List ℕ). Blocked (with_queue c (filled c.queue bs)) 0) (sym (take_all (free c.queue) row h)) (accepted l (joins_block row h))

  block_by : (known : Bool) → lawful c ≡ known → Blocked (write_block c row).card (number_of (write_block c row).outcome)
  block_by false l = subst (λ (r : BlockAnswer). Blocked r.card (number_of r.outcome)) (block_18 c row l) (unlawful l)
  block_by true l =
      subst (λ (r : BlockAnswer). Blocked r.card (number_of r.outcome)) (sym (block_is c row l))
      (rw (given_number {A = ⊤} (block_lines (lawful c) c.queue row) (tt {0}) refl, l)
      (by (Blocked found) (ltb (free c.queue) (length row))
      (λ e. left_over l (ltb-true (free c.queue) (length row) e))
      (λ e. all_found l (ltb-false (free c.queue) (length row) e))))

-- ---- saving, writing a frame, the line, waiting

-- a call that asks for room in a row, and leaves the card as it is
room_by : (k : Call) (c : Card) (room places : ℕ) → Effect c k c → (known : Bool) → lawful c ≡ known → Outcome k c c (given (18 if not known ∷ 14 if ltb room places ∷ []))
room_by k c room places o false l = unlawful l
room_by k c room places o true l = by (λ (n : ℕ). Outcome k c c n) (ltb room places) (λ e. refused l refl refl) (λ e. accepted l o)

-- what the line gives
abbrev requested : Card → Option Request
requested c = pick (line_up c.interrupts) (Some (request c.interrupts.level c.interrupts.vector)) None

line_by : (c : Card) (known : Bool) → lawful c ≡ known → Outcome Call.line c c (given (18 if not known ∷ []))
line_by c false l = unlawful l
line_by c true l = accepted l tells_line

wait_18 : (c : Card) (n room : ℕ) → lawful c ≡ true → eqb (wait_refusal c n room) 18 ≡ false
unfolding wait_refusal
wait_18 c n room l = rw l (ne_eqb (given (wait_lines c.clock n room)) 18 (given_absent 18 (wait_lines c.clock n room) refl refl))

wait_by : (c : Card) (n : ℕ) (row : List ℕ) (known : Bool) → lawful c ≡ known → (t : Bool) → eqb (wait_refusal c n (length row)) 0 ≡ t
    → Outcome (Call.wait n row) c (pick t (card_after c (passed c.clock n (length row)) (fell (listed c.clock n (length row)))) c) (wait_refusal c n (length row))
unfolding wait_refusal
wait_by c n row false l true e = absurd (clash true refl (sym e ∙ simp l))
wait_by c n row false l false e = rw l (unlawful l)
wait_by c n row true l true e = let z = eqb-true (wait_refusal c n (length row)) 0 e in rw z (accepted l (waits n row z))
wait_by c n row true l false e = refused l e (wait_18 c n (length row) l)

-- ---- all calls

pub outcome : (k : Call) (c : Card) → Outcome k c (after k c) (number k c)
unfolding after number Setting.set_time Setting.set_strobe Setting.set_periodic Setting.switch_jam read_register write_register Registers.edge Registers.line line_refusal Waiting.wait wait_refusal Reset.reset Saved.load save_refusal Writing.write_refusal
outcome (Call.set_time year day hour minute second) c =
    by_table _ c (with_clock c (time_set c.clock year day hour minute second)) (18 if not (lawful c) ∷ time_lines year day hour minute second) tt refl
    (one_line _ c _ 11 (date_fits year day hour minute second) refl refl (sets_time year day hour minute second) (lawful c) refl)
outcome (Call.read reg) c = by_table _ c (latched c reg) (read_lines (lawful c) reg) (shown c reg) refl (read_by c reg (lawful c) refl)
outcome (Call.write reg v) c = write_by c reg v (lawful c) refl
outcome (Call.block row) c = block_by c row (lawful c) refl
outcome (Call.edge falling) c =
    by_table _ c (pick (matching c.event.control falling) (matched c) c) (18 if not (lawful c) ∷ []) tt refl
    (only_18 _ c _
    (λ l. by (Effect c (Call.edge falling)) (matching c.event.control falling) (matches_edge falling) (passes_edge falling))
    (lawful c) refl)
outcome Call.line c = subst (Outcome Call.line c c) (sym (given_number (18 if not (lawful c) ∷ []) (requested c) refl)) (line_by c (lawful c) refl)
outcome (Call.set_strobe s) c =
    by_table _ c (with_clock c (with_strobe c.clock (strobe_kept s))) (18 if not (lawful c) ∷ strobe_lines s) tt refl
    (one_line _ c _ 13 (strobe_fits s) refl refl (sets_strobe s) (lawful c) refl)
outcome (Call.set_periodic d) c =
    by_table _ c (with_clock c (with_periodic c.clock (periodic_kept d))) (18 if not (lawful c) ∷ divider_lines d) tt refl
    (one_line _ c _ 12 (dividers_fit d) refl refl (sets_periodic d) (lawful c) refl)
outcome (Call.wait n row) c =
    by_table _ c (card_after c (passed c.clock n (length row)) (fell (listed c.clock n (length row)))) (card_lines c n (length row))
    (waited (passed c.clock n (length row)) (length (listed c.clock n (length row)))) refl
    (wait_by c n row (lawful c) refl (eqb (wait_refusal c n (length row)) 0) refl)
outcome Call.reset c = by_table _ c (reset_card c.clock.time c.settings) (18 if not (lawful c) ∷ []) tt refl (only_18 _ c _ (λ l. resets) (lawful c) refl)
outcome (Call.save row) c = room_by _ c (length row) 5 (saves row) (lawful c) refl
outcome (Call.load bytes) c =
    by_table _ c (with_settings c (settings_in (unpacked 2 8 bytes))) (load_lines c bytes) tt refl
    (two_lines _ c _ 19 25 (eqb (length bytes) 5 && meaningful (unpacked 2 8 bytes)) (jam_fits c.jam (settings_in (unpacked 2 8 bytes))) refl refl refl refl (loads bytes) (lawful c) refl)
outcome (Call.write_frame row) c = room_by _ c (length row) 100 (writes_frame row) (lawful c) refl
outcome (Call.switch_jam on) c = by_table _ c (with_jam c on) (jam_lines c on) tt refl (one_line _ c _ 25 (jam_fits on c.settings) refl refl (switches_jam on) (lawful c) refl)
