-- Saved settings of a card.
use Rattle.std.specs.Prelude.{ℕ, not, List, [], ◌∷◌, ◌++◌, length, drop, ltb, eqb, ⊤}
use Rattle.wire.specs.Digits.{pick, unpacked}
use Rattle.wire.specs.Numbers.{Line, ◌if◌, given, granted}
use Rattle.wire.specs.declared.numbers.Answer.{Answer}
use Rattle.parts.specs.Saved.{saved_form, saved_lines, settings_in}
use Rattle.parts.specs.Settings.{jam_fits}
use Rattle.parts.specs.declared.settings.Settings.{Settings}
use Rattle.card.specs.declared.card.Card.{Card}
use Rattle.card.specs.Cards.{with_settings}
use Rattle.card.specs.Lawful.{lawful}

-- 18, and 14 last
abbrev pub save_lines : Card → ℕ → List Line
save_lines c room = 18 if not (lawful c) ∷ 14 if ltb room 5 ∷ []

unfoldable pub save_refusal : Card → ℕ → ℕ
save_refusal c room = given (save_lines c room)

-- the row after saving: the five bytes in front, the rest as it was; all of it as it was beside a refusal
unfoldable pub row_saved : Card → List ℕ → List ℕ
row_saved c row = pick (eqb (save_refusal c (length row)) 0) (saved_form c.settings ++ drop 5 row) row

-- 18, then 19, then 25 for a large offset with the jam on
abbrev pub load_lines : Card → List ℕ → List Line
load_lines c bytes = 18 if not (lawful c) ∷ (saved_lines bytes ++ (25 if not (jam_fits c.jam (settings_in (unpacked 2 8 bytes))) ∷ []))

-- loading changes these settings only
unfoldable pub load : Card → List ℕ → Answer Card ⊤
load c bytes = granted (load_lines c bytes) c (with_settings c (settings_in (unpacked 2 8 bytes))) tt

-- WITHIN THE CRATE

-- the card with other settings, or 25
abbrev pub settings_kept : Card → Settings → Answer Card ⊤
settings_kept c s = granted (25 if not (jam_fits c.jam s) ∷ []) c (with_settings c s) tt
