-- Setting the time, the strobe and the periodic output of a card, where its clock is set and nothing else changes; and switching its jam. Each is refused by a table of
-- lines, 18 first.
use Rattle.std.specs.Prelude.{ℕ, Bool, not, List, [], ◌∷◌, ⊤}
use Rattle.wire.specs.Numbers.{Line, ◌if◌, granted}
use Rattle.wire.specs.declared.numbers.Answer.{Answer}
use Rattle.wire.specs.Digits.{pick}
use Rattle.clock.specs.declared.clock.Clock.{Clock}
use Rattle.clock.specs.declared.setting.StrobeAt.{StrobeAt}
use Rattle.clock.specs.declared.setting.Dividers.{Dividers}
use Rattle.clock.specs.Clocks.{with_strobe, with_periodic}
use Rattle.clock.specs.Setting.{time_lines, time_set, strobe_lines, strobe_kept, divider_lines, periodic_kept}
use Rattle.parts.specs.Settings.{jam_fits}
use Rattle.card.specs.declared.card.Card.{Card}
use Rattle.card.specs.Cards.{answer, with_clock, with_jam}
use Rattle.card.specs.Lawful.{rest_lawful, lawful}

-- 11 outside its ranges; the fraction becomes zero
unfoldable pub set_time : Card → ℕ → ℕ → ℕ → ℕ → ℕ → Answer Card ⊤
set_time c year day hour minute second =
    granted (18 if not (lawful c) ∷ time_lines year day hour minute second) c (with_clock c (time_set c.clock year day hour minute second)) tt

-- 13 outside its ranges
unfoldable pub set_strobe : Card → StrobeAt → Answer Card ⊤
set_strobe c s = granted (18 if not (lawful c) ∷ strobe_lines s) c (with_clock c (with_strobe c.clock (strobe_kept s))) tt

-- 12 outside their ranges; the count starts at 0
unfoldable pub set_periodic : Card → Dividers → Answer Card ⊤
set_periodic c d = granted (18 if not (lawful c) ∷ divider_lines d) c (with_clock c (with_periodic c.clock (periodic_kept d))) tt

-- 25 for on while a large offset is held; off is always taken, and nothing but the jam changes
abbrev pub jam_lines : Card → Bool → List Line
jam_lines c on = 18 if not (lawful c) ∷ 25 if not (jam_fits on c.settings) ∷ []

unfoldable pub switch_jam : Card → Bool → Answer Card ⊤
switch_jam c on = granted (jam_lines c on) c (with_jam c on) tt

-- WITHIN THE CRATE

-- the card with what its clock answered; 18 where it is not lawful elsewhere
unfoldable pub on_clock : Card → Answer Clock ⊤ → Answer Card ⊤
on_clock c a = pick (rest_lawful c) (record { after = with_clock c a.after; outcome = a.outcome }) (answer c 18)
