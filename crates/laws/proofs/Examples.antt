-- The page's starred examples hold: one computed statement over one table. Words, packets and the saved form are computed from their definitions; ACK and the
-- load come by their laws, and the waits are in `Waits`. Assumes nothing.
use Prim.Native.Nat.{ℕ}
use mathlib.Core.Path.{◌≡◌, refl, sym, ap, ◌∙◌}
use mathlib.Core.Bool.{Bool, true, false, ◌&&◌}
use mathlib.Core.List.{List, [], ◌∷◌, ◌++◌, map}
use lib.IntN.{pos}
use lib.ListN.{length, drop}
use borrow.Author.Tests.{leb-true}
use Rattle.std.specs.Prelude.{⊤}
use Rattle.wire.specs.Digits.{pick, digits, num, below, packed, unpacked}
use Rattle.wire.specs.Time.{hour_of, minute_of, second_of, fraction_of, tick_at}
use Rattle.wire.specs.Words.{words_of, writable, words_or_zero, write_words, time_digits, read_words, read_digits, digits_refusal, decimal, field, in_range}
use Rattle.wire.specs.Packets.{read_packet, packet_refusal, frame_lines, body_lines, has, place_of, body_of, kinds_of, of_kinds, meaning, offset_of, ascii_values, format_of, modulation_of, bytes_of, framed, data_of, sign_of, ascii, fits, means, needs_jam_off}
use Rattle.wire.specs.declared.numbers.Answer.{Answer}
use Rattle.wire.specs.declared.packets.Format.TheVariants as Format
use Rattle.wire.specs.declared.packets.Modulation.TheVariants as Modulation
use Rattle.wire.specs.declared.packets.Packet.{Packet}
use Rattle.parts.specs.Queues.{empty_queue}
use Rattle.parts.specs.declared.settings.Settings.{Settings}
use Rattle.parts.specs.Settings.{settings_lawful, jam_fits}
use Rattle.parts.proofs.saved.RoundTrip.{load_saved}
use Rattle.parts.proofs.settings.Laws.{settings_lawful_lem}
use Rattle.parts.specs.Saved.{saved_form, settings_bits}
use Rattle.card.specs.declared.card.Card.{Card}
use Rattle.card.specs.Cards.{answer, with_settings, with_jam}
use Rattle.card.specs.Lawful.{lawful}
use Rattle.card.specs.Packets.{ack_refusal}
use Rattle.card.specs.Saved.{load}
use Rattle.card.specs.Registers.{write_register}
use Rattle.card.specs.Reset.{fresh_card}
use Rattle.card.proofs.saved.Calls.{saves, row_is, loads}
use Rattle.laws.specs.Calls.{Call, after, after_all, fed}
use Rattle.laws.specs.Each.{Each}
use Rattle.laws.specs.Examples.{puts, offset_bytes, page_settings, page_calls, page, Wait, Example, Stated, waits}
use Rattle.laws.proofs.Fed.{refused_by, set_by, fed_number, fed_packet}
use Rattle.laws.proofs.Jam.{off_taken}
use Rattle.laws.proofs.Keeps.{fresh_lawful, fresh_queue, fresh_all, keeps, keeps_all}
use Rattle.laws.proofs.Waits.{starred}

-- ---- settings set by packets

after_append : (ks js : List Call) (c : Card) → after_all (ks ++ js) c ≡ after_all js (after_all ks c)
after_append [] js c = refl
after_append (k ∷ ks) js c = after_append ks js (after k c)

after_puts : (bs : List ℕ) (c : Card) → after_all (puts bs) c ≡ (write_register (fed c bs) 12 0x80).after
unfolding after
after_puts [] c = refl
after_puts (b ∷ bs) c = after_puts bs (write_register c 13 b).after

-- a packet put in and taken, with the jam off
takes : (p : Packet) (bs : List ℕ) (c : Card) → bytes_of p ≡ bs → lawful c ≡ true → c.queue ≡ empty_queue → fits p ≡ true → means p ≡ true → c.jam ≡ false → after_all (puts bs) c ≡ (set_by c p).after
takes p bs c e l z f m j =
    after_puts bs c ∙ ap (λ (a : List ℕ). (write_register (fed c a) 12 0x80).after) (sym e) ∙ ap (λ (a : Answer Card ⊤). a.after) (fed_packet p c l z f m)
    ∙ ap (λ (t : Bool). (pick (t && needs_jam_off p) (refused_by c 25) (set_by c p)).after) j

abbrev format_bytes : List ℕ
format_bytes = 0x01 ∷ 0x48 ∷ 0x42 ∷ 0x44 ∷ 0x17 ∷ []

-- a fresh card with the jam off
abbrev off_card : Card
off_card = with_jam fresh_card false

off_set : after (Call.switch_jam false) fresh_card ≡ off_card
unfolding after
off_set = ap (λ (a : Answer Card ⊤). a.after) (off_taken fresh_card fresh_lawful)

off_lawful : lawful off_card ≡ true
off_lawful = sym (ap lawful off_set) ∙ keeps (Call.switch_jam false) fresh_card fresh_lawful

format_set : after_all (puts format_bytes) off_card ≡ (set_by off_card (Packet.H Format.B Modulation.D)).after
unfolding framed data_of
format_set = takes (Packet.H Format.B Modulation.D) format_bytes off_card refl off_lawful fresh_queue refl refl refl

page_set : (after_all page_calls fresh_card).settings ≡ page_settings
unfolding fresh_card framed data_of sign_of ascii digits
page_set =
    let c : Card = (set_by off_card (Packet.H Format.B Modulation.D)).after in
    let l : lawful c ≡ true = sym (ap lawful format_set) ∙ keeps_all (puts format_bytes) off_card off_lawful in
    ap (λ (d : Card). d.settings) (ap (after_all (puts format_bytes ++ puts offset_bytes)) off_set ∙ after_append (puts format_bytes) (puts offset_bytes) off_card
    ∙ ap (after_all (puts offset_bytes)) format_set ∙ takes (Packet.G (pos 25000)) offset_bytes c refl l refl refl refl refl)

page_form : saved_form page_settings ≡ 0x06 ∷ 0x00 ∷ 0x18 ∷ 0x6A ∷ 0x00 ∷ []
unfolding saved_form settings_bits digits num packed
page_form = refl

page_lawful : settings_lawful page_settings ≡ true
page_lawful = settings_lawful_lem page_settings (record { mode = refl; meant = refl; pair = refl; offset = refl })

-- the five bytes, loaded
page_loaded : (c : Card) → lawful c ≡ true
    → load c (0x06 ∷ 0x00 ∷ 0x18 ∷ 0x6A ∷ 0x00 ∷ []) ≡ pick (jam_fits c.jam page_settings) (answer (with_settings c page_settings) 0) (answer c 25)
page_loaded c l =
    let w = load_saved page_settings page_lawful in
    ap (load c) (sym page_form) ∙ loads c (saved_form page_settings) l w.0
    ∙ ap (λ (s : Settings). pick (jam_fits c.jam s) (answer (with_settings c s) 0) (answer c 25)) w.1

page_saved : Stated (Example.saved page_settings page_calls (0x06 ∷ 0x00 ∷ 0x18 ∷ 0x6A ∷ 0x00 ∷ []))
page_saved = (
  fresh_all page_calls,
  page_set,
  λ c l e row h. (saves c (length row) l h, row_is c row (saves c (length row) l h) ∙ ap (λ (bs : List ℕ). bs ++ drop 5 row) (ap saved_form e ∙ page_form)),
  page_loaded,
)

-- ---- the packet of +25,000, through ACK

page_acknowledged : (jam : Bool) → ack_refusal jam offset_bytes ≡ pick jam 25 0
unfolding ack_refusal frame_lines body_lines has place_of body_of kinds_of of_kinds meaning offset_of ascii_values num
page_acknowledged true = refl
page_acknowledged false = refl

page_taken : Stated (Example.taken offset_bytes 25 0)
unfolding below
page_taken c l z = fed_number offset_bytes c l z (leb-true 11 64 refl) refl ∙ page_acknowledged c.jam

-- ---- all of them

all_waits : (ls : List Wait) → Each (λ (l : Wait). Stated (Example.wait l)) ls → Each Stated (map Example.wait ls)
all_waits [] h = tt
all_waits (l ∷ ls) h = (h.0, all_waits ls h.1)

pub page_holds : Each Stated page
unfolding words_of writable words_or_zero write_words time_digits read_words read_digits digits_refusal decimal field in_range hour_of minute_of second_of fraction_of tick_at digits num below packed unpacked read_packet packet_refusal frame_lines body_lines has place_of body_of kinds_of of_kinds meaning offset_of ascii_values format_of modulation_of
page_holds = (
  (refl, refl, refl),
  ((refl, refl), ((refl, refl), (refl, (page_taken, (refl, (refl, (refl, (refl, (page_saved, all_waits waits starred))))))))),
)
