-- The jam, of the calls: only switching and reset leave it other than it was; off is always taken, and so is on again; and a card to which calls lead from a fresh one
-- holds a large offset only with the jam off. By the frame, and by the table of the switch. Assumes nothing.
use Prim.Native.Nat.{ℕ}
use mathlib.Core.Path.{◌≡◌, refl, sym, ap, ◌∙◌}
use mathlib.Core.Bool.{Bool, true, false, ◌&&◌, not}
use mathlib.Core.List.{List, [], ◌∷◌}
use mathlib.Core.Logic.{◌⊎◌, inl, inr}
use Rattle.std.specs.Prelude.{⊤}
use Rattle.wire.specs.Digits.{pick}
use Rattle.wire.specs.Numbers.{◌if◌, granted}
use Rattle.wire.specs.declared.numbers.Answer.{Answer}
use Rattle.wire.specs.Packets.{offset_large}
use Rattle.wire.specs.declared.packets.Packet.{Packet}
use Rattle.parts.specs.Settings.{jam_fits}
use Rattle.card.specs.declared.card.Card.{Card}
use Rattle.card.specs.Cards.{answer, with_jam}
use Rattle.card.specs.Lawful.{lawful}
use Rattle.card.specs.Reset.{fresh_card}
use Rattle.card.specs.Setting.{switch_jam}
use Rattle.card.proofs.lawful.Laws.{parts}
use Rattle.laws.specs.Calls.{Call, after, number, after_all, Field, among, Same, packet_touches, write_touches, touches, SwitchesJam}
use Rattle.laws.proofs.Frame.{frame, Without, read_without, edge_without, write_without}
use Rattle.laws.proofs.Keeps.{fresh_all}
use Rattle.laws.proofs.Latches.{reset_answers}
use Rattle.laws.proofs.Refused.{accepted_lawful}

-- ---- which calls switch it

packet_no_jam : (p : Packet) → Without Field.jam (packet_touches p)
unfolding among
packet_no_jam (Packet.A mode) = refl
packet_no_jam (Packet.G offset) = refl
packet_no_jam (Packet.H f m) = refl
packet_no_jam (Packet.I s) = refl
packet_no_jam (Packet.K g) = refl

write_no_jam : (reg v : ℕ) (c : Card) → Without Field.jam (write_touches reg v c)
unfolding among
write_no_jam reg v c = write_without Field.jam refl refl packet_no_jam refl refl refl refl refl refl refl refl reg v c (λ e. refl)

-- a call that may not touch it leaves it
same : (k : Call) (c : Card) → Without Field.jam (touches k c) → ((after k c).jam ≡ c.jam) ⊎ SwitchesJam k
unfolding Same
same k c e = inl (ap (λ (d : Card). d.jam) (frame k c) ∙ simp e)

pub jam_switching : (k : Call) (c : Card) → ((after k c).jam ≡ c.jam) ⊎ SwitchesJam k
unfolding touches among
jam_switching (Call.set_time year day hour minute second) c = same (Call.set_time year day hour minute second) c refl
jam_switching (Call.read reg) c = same (Call.read reg) c (read_without Field.jam refl reg)
jam_switching (Call.write reg v) c = same (Call.write reg v) c (write_no_jam reg v c)
jam_switching (Call.block row) c = same (Call.block row) c refl
jam_switching (Call.edge falling) c = same (Call.edge falling) c (edge_without Field.jam refl refl refl falling c.event)
jam_switching Call.line c = same Call.line c refl
jam_switching (Call.set_strobe s) c = same (Call.set_strobe s) c refl
jam_switching (Call.set_periodic d) c = same (Call.set_periodic d) c refl
jam_switching (Call.wait n row) c = same (Call.wait n row) c refl
jam_switching Call.reset c = inr SwitchesJam.resets
jam_switching (Call.save row) c = same (Call.save row) c refl
jam_switching (Call.load bytes) c = same (Call.load bytes) c refl
jam_switching (Call.write_frame row) c = same (Call.write_frame row) c refl
jam_switching (Call.switch_jam on) c = inr (SwitchesJam.switches on)

-- a reset leaves it on
pub reset_jam : (c : Card) → number Call.reset c ≡ 0 → (after Call.reset c).jam ≡ true
unfolding after
reset_jam c e = ap (λ (a : Answer Card ⊤). a.after.jam) (reset_answers c (accepted_lawful Call.reset c e))

-- ---- what the switch answers, of a lawful card

module _ (c : Card) (l : lawful c ≡ true) where
  pub switch_is : (on : Bool) → switch_jam c on ≡ pick (jam_fits on c.settings) (answer (with_jam c on) 0) (answer c 25)
  unfolding switch_jam
  switch_is on = simp l (go (jam_fits on c.settings))
    where
      go : (t : Bool) → granted (25 if not t ∷ []) c (with_jam c on) tt ≡ pick t (answer (with_jam c on) 0) (answer c 25)
      go true = refl
      go false = refl

  -- off is always taken
  pub off_taken : switch_jam c false ≡ answer (with_jam c false) 0
  off_taken = switch_is false

  -- and on where it is on, which changes nothing
  pub on_again : c.jam ≡ true → switch_jam c true ≡ answer c 0
  on_again e = ap (switch_jam c) (sym e) ∙ switch_is c.jam ∙ simp (parts c l).jam

-- ---- a large offset is held only with the jam off

off_beside : (jam large : Bool) → not (jam && large) ≡ true → large ≡ true → jam ≡ false
off_beside true large h e = sym h ∙ ap not e
off_beside false large h e = refl

pub large_held : (c : Card) → lawful c ≡ true → offset_large c.settings.offset ≡ true → c.jam ≡ false
large_held c l = off_beside c.jam (offset_large c.settings.offset) (parts c l).jam

-- by every card to which calls lead
pub large_reached : (ks : List Call) → offset_large (after_all ks fresh_card).settings.offset ≡ true → (after_all ks fresh_card).jam ≡ false
large_reached ks = large_held (after_all ks fresh_card) (fresh_all ks)
