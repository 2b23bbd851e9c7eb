-- The page's starred examples, one table, of what the public contracts name.
use Rattle.std.specs.Prelude.{ℕ, ◌≤◌, ◌≡◌, true, false, List, [], ◌∷◌, ◌++◌, map, pos, Result, Ok, Err, length, drop}
use Rattle.wire.specs.Digits.{pick}
use Rattle.wire.specs.Numbers.{refusal, number_of}
use Rattle.wire.specs.declared.numbers.Refusal.{Refusal}
use Rattle.wire.specs.Time.{tick_at}
use Rattle.wire.specs.Words.{moment, moment_read, write_words, read_words}
use Rattle.wire.specs.Packets.{read_packet}
use Rattle.wire.specs.declared.packets.Format.TheVariants as Format
use Rattle.wire.specs.declared.packets.Modulation.TheVariants as Modulation
use Rattle.wire.specs.declared.packets.ClockSource.TheVariants as ClockSource
use Rattle.wire.specs.declared.packets.Generator.TheVariants as Generator
use Rattle.wire.specs.declared.packets.Packet.TheVariants as Packet
use Rattle.wire.specs.declared.packets.PacketRead.{PacketRead}
use Rattle.clock.specs.declared.clock.Strobe.TheVariants as Strobe
use Rattle.clock.specs.declared.clock.Periodic.TheVariants as Periodic
use Rattle.clock.specs.declared.setting.StrobeAt.TheVariants as StrobeAt
use Rattle.clock.specs.declared.setting.Dividers.TheVariants as Dividers
use Rattle.clock.specs.Time.{instant}
use Rattle.parts.specs.declared.settings.Settings.{Settings}
use Rattle.card.specs.declared.card.Card.{Card}
use Rattle.parts.specs.Queues.{empty_queue}
use Rattle.parts.specs.Settings.{jam_fits}
use Rattle.card.specs.Cards.{answer, with_settings}
use Rattle.card.specs.Lawful.{lawful}
use Rattle.card.specs.Registers.{write_register}
use Rattle.card.specs.Waiting
use Rattle.card.specs.Waiting.{row_waited}
use Rattle.card.specs.Reset.{fresh_card}
use Rattle.card.specs.Saved.{save_refusal, row_saved, load}
use Rattle.laws.specs.Calls.{Call, after_all, fed}

-- bytes written to FIFO, one by one, and then 0x80 to ACK
abbrev pub puts : List ℕ → List Call
puts bytes = map (λ (b : ℕ). Call.write 13 b) bytes ++ (Call.write 12 0x80 ∷ [])

-- "Year 2004, day 1, tick 0; dividers 2000 and 2000, count 0; strobe each second at" so many ms: a card set so by calls, and what is asked of any such card
abbrev pub page_card : ℕ → Card
page_card ms = after_all (Call.set_time 2004 1 0 0 0 ∷ Call.set_periodic (Dividers.By 2000 2000) ∷ Call.set_strobe (StrobeAt.EachSecond ms) ∷ []) fresh_card

pub record PageCard (ms : ℕ) (c : Card) : Type 0 where
  pub known : lawful c ≡ true
  pub clock : c.clock ≡ record { time = instant 2004 1 0; strobe = Strobe.EachSecond (record { ms = ms }); periodic = Periodic.Every 2000 2000 0 }
  pub pending : c.interrupts.pending ≡ 0

-- a line of the waits: the strobe's millisecond, the places, and the records, the ticks passed, the count and the pending bits that a wait of 10,000,000 ticks leaves
pub record Wait : Type 0 where
  pub ms : ℕ
  pub places : ℕ
  pub row : List ℕ
  pub passed : ℕ
  pub count : ℕ
  pub pending : ℕ

-- what it says of a card
pub record Says (l : Wait) (c : Card) : Type 0 where
  pub waited : (Waiting.wait c 10000000 l.places).outcome ≡ Ok (Waiting.waited l.passed (length l.row))
  pub row : (r : List ℕ) → length r ≡ l.places → row_waited c 10000000 r ≡ l.row ++ drop (length l.row) r
  pub count : (Waiting.wait c 10000000 l.places).after.clock.periodic ≡ Periodic.Every 2000 2000 l.count
  pub pending : (Waiting.wait c 10000000 l.places).after.interrupts.pending ≡ l.pending

pub data Example : Type 0 where
  -- a day, hour, minute, second and ticks of the second, their tick of day, and their words, both ways
  words : (day hour minute second fraction tick : ℕ) → List ℕ → Example
  -- words, and the number that refuses them
  unread : List ℕ → ℕ → Example
  -- bytes, and what they read as
  packet : List ℕ → Result PacketRead Refusal → Example
  -- bytes, and the number that ACK gives them, put into the empty queue of any lawful card, with the jam on and with it off
  taken : List ℕ → (on off : ℕ) → Example
  -- settings, calls by which a fresh card comes to have them, and their five bytes, saved by any lawful card that has them, and loaded by any
  saved : Settings → List Call → List ℕ → Example
  -- a wait of 10,000,000 ticks, of any such card, and that there is one
  wait : Wait → Example

-- what an example says
abbrev pub Stated : Example → Type 0
Stated (words day hour minute second fraction tick ws) =
    (tick_at hour minute second fraction ≡ tick) × (write_words day tick ≡ Ok ws) × (read_words ws ≡ Ok (moment day tick))
Stated (unread ws n) = (read_words ws ≡ Err (refusal n)) × (moment_read ws ≡ moment 0 0)
Stated (packet bytes r) = read_packet bytes ≡ r
Stated (taken bytes on off) = (c : Card) → lawful c ≡ true → c.queue ≡ empty_queue → number_of (write_register (fed c bytes) 12 0x80).outcome ≡ pick c.jam on off
Stated (saved s ks bytes) =
    (lawful (after_all ks fresh_card) ≡ true)
    × ((after_all ks fresh_card).settings ≡ s)
    × ((c : Card) → lawful c ≡ true → c.settings ≡ s → (row : List ℕ) → 5 ≤ length row → (save_refusal c (length row) ≡ 0) × (row_saved c row ≡ bytes ++ drop 5 row))
    × ((c : Card) → lawful c ≡ true → load c bytes ≡ pick (jam_fits c.jam s) (answer (with_settings c s) 0) (answer c 25))
Stated (wait l) = PageCard l.ms (page_card l.ms) × ((c : Card) → PageCard l.ms c → Says l c)

-- THE TABLE

abbrev pub waits : List Wait
waits =
    record { ms = 200; places = 8; row = 16000002 ∷ 32000001 ∷ 64000001 ∷ 80000004 ∷ []; passed = 10000000; count = 2000000; pending = 14 }
    ∷ record { ms = 200; places = 2; row = 16000002 ∷ 32000001 ∷ []; passed = 4000000; count = 0; pending = 6 }
    ∷ record { ms = 400; places = 8; row = 32000003 ∷ 64000001 ∷ 80000004 ∷ []; passed = 10000000; count = 2000000; pending = 14 }
    ∷ []

-- the packet of +25,000
abbrev pub offset_bytes : List ℕ
offset_bytes = 0x01 ∷ 0x47 ∷ 0x2B ∷ 0x30 ∷ 0x30 ∷ 0x32 ∷ 0x35 ∷ 0x30 ∷ 0x30 ∷ 0x30 ∷ 0x17 ∷ []

-- mode 0, format B, D, internal, generator B, +25,000; set by packets H and G, with the jam off
abbrev pub page_settings : Settings
page_settings = record { mode = 0; format = Format.B; modulation = Modulation.D; clock = ClockSource.Internal; generator = Generator.B; offset = pos 25000 }

abbrev pub page_calls : List Call
page_calls = Call.switch_jam false ∷ (puts (0x01 ∷ 0x48 ∷ 0x42 ∷ 0x44 ∷ 0x17 ∷ []) ++ puts offset_bytes)

abbrev pub page : List Example
page =
    words 45 13 7 9 1234567 472291234567 (0x0000 ∷ 0x4513 ∷ 0x0709 ∷ 0x1234 ∷ 0x5670 ∷ [])
    ∷ unread (0x0000 ∷ 0x45A3 ∷ 0x0709 ∷ 0x1234 ∷ 0x5670 ∷ []) 17
    ∷ unread (0x0000 ∷ 0x4524 ∷ 0x0709 ∷ 0x1234 ∷ 0x5670 ∷ []) 11
    ∷ packet offset_bytes (Ok (record { packet = Packet.G (pos 25000); needs_jam_off = true }))
    ∷ taken offset_bytes 25 0
    ∷ packet (0x01 ∷ 0x17 ∷ []) (Err (refusal 7))
    ∷ packet (0x01 ∷ 0x41 ∷ 0x34 ∷ 0x17 ∷ []) (Err (refusal 10))
    ∷ packet (0x01 ∷ 0x48 ∷ 0x41 ∷ 0x4D ∷ 0x17 ∷ []) (Err (refusal 10))
    ∷ packet (0x01 ∷ 0x41 ∷ 0x30 ∷ 0x30 ∷ 0x17 ∷ []) (Err (refusal 8))
    ∷ saved page_settings page_calls (0x06 ∷ 0x00 ∷ 0x18 ∷ 0x6A ∷ 0x00 ∷ [])
    ∷ map wait waits
