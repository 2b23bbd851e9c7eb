-- Saved settings, of the calls: what one card saves into a row, another loads from the row's first five bytes, unless its jam is on and the offset large; and what is
-- loaded is saved as the same five bytes.
-- By the laws of the saved form. Assumes nothing.
use Prim.Native.Nat.{ℕ, ◌≤◌}
use mathlib.Core.Path.{◌≡◌, ap, ◌∙◌}
use mathlib.Core.Bool.{true}
use mathlib.Core.List.{List}
use lib.ListN.{length, take, drop}
use lib.Seq.{take_at}
use Rattle.wire.specs.Digits.{pick, below, unpacked}
use Rattle.parts.specs.declared.settings.Settings.{Settings}
use Rattle.parts.specs.Settings.{jam_fits}
use Rattle.parts.specs.Saved.{saved_form, saved_refusal, settings_in}
use Rattle.parts.proofs.saved.RoundTrip.{load_saved, save_loaded, form_five}
use Rattle.card.specs.declared.card.Card.{Card}
use Rattle.card.specs.Cards.{answer, with_settings}
use Rattle.card.specs.Lawful.{lawful}
use Rattle.card.specs.Saved.{save_refusal, row_saved, load}
use Rattle.card.proofs.lawful.Laws.{parts}
use Rattle.card.proofs.saved.Calls.{saves, saves_lawful, row_is, loads, load_refusal, load_settings_lem}
use Rattle.laws.specs.Calls.{Call, after, number}
use Rattle.laws.proofs.Keeps.{keeps}
use Rattle.laws.proofs.Refused.{accepted_lawful}

front : (c : Card) (row : List ℕ) → save_refusal c (length row) ≡ 0 → take 5 (row_saved c row) ≡ saved_form c.settings
front c row e = ap (take 5) (row_is c row e) ∙ take_at (saved_form c.settings) (drop 5 row) 5 (form_five c.settings)

-- saved by one card, loaded by any lawful one: it has the settings of the first, and nothing else changes; or 25, if its jam is on and the offset large
pub load_back : (c d : Card) (row : List ℕ) → number (Call.save row) c ≡ 0 → lawful d ≡ true
    → load d (take 5 (row_saved c row)) ≡ pick (jam_fits d.jam c.settings) (answer (with_settings d c.settings) 0) (answer d 25)
unfolding number
load_back c d row e l =
    let w = load_saved c.settings (parts c (saves_lawful c (length row) e)).settings in
    ap (load d) (front c row e) ∙ loads d (saved_form c.settings) l w.0
    ∙ ap (λ (s : Settings). pick (jam_fits d.jam s) (answer (with_settings d s) 0) (answer d 25)) w.1

-- so a card loads what it saved itself, whatever its jam
pub load_own : (c : Card) (row : List ℕ) → number (Call.save row) c ≡ 0 → load c (take 5 (row_saved c row)) ≡ answer c 0
unfolding number
load_own c row e = let l = saves_lawful c (length row) e in load_back c c row e l ∙ simp (parts c l).jam

-- loaded, and saved again into any row with room for them: the same five bytes
pub save_back : (c : Card) (bytes row : List ℕ) → below 256 bytes ≡ true → number (Call.load bytes) c ≡ 0 → 5 ≤ length row
    → (number (Call.save row) (after (Call.load bytes) c) ≡ 0) × (take 5 (row_saved (after (Call.load bytes) c) row) ≡ bytes)
unfolding number after
save_back c bytes row b e m =
    let l : lawful c ≡ true = accepted_lawful (Call.load bytes) c e in
    let r : saved_refusal bytes ≡ 0 = load_refusal c bytes l e in
    let k : lawful (load c bytes).after ≡ true = keeps (Call.load bytes) c l in
    let z : save_refusal (load c bytes).after (length row) ≡ 0 = saves (load c bytes).after (length row) k m in
    let s : (load c bytes).after.settings ≡ settings_in (unpacked 2 8 bytes) = load_settings_lem c bytes l e in
    (z, front (load c bytes).after row z ∙ ap saved_form s ∙ save_loaded bytes b r)
