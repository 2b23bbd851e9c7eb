-- Setting: of a card that is lawful elsewhere, its clock's answer is its own. Assumes nothing.
use Prim.Native.Nat.{ℕ}
use mathlib.Core.Path.{◌≡◌, refl, ap, ◌∙◌}
use mathlib.Core.Bool.{Bool, true, false, not}
use mathlib.Core.List.{List, ◌∷◌}
use lib.Dec.{eqb}
use Rattle.wire.specs.Digits.{pick}
use Rattle.wire.specs.Numbers.{Line, ◌if◌, given, granted}
use Rattle.clock.specs.declared.clock.Clock.{Clock}
use Rattle.clock.specs.Clocks.{clock_lawful, with_strobe, with_periodic}
use Rattle.clock.specs.declared.setting.StrobeAt.{StrobeAt}
use Rattle.clock.specs.declared.setting.Dividers.{Dividers}
use Rattle.clock.specs.Setting as clock
use Rattle.clock.specs.Setting.{time_lines, time_set, strobe_lines, strobe_kept, divider_lines, periodic_kept}
use Rattle.std.specs.Prelude.{⊤}
use Rattle.wire.specs.declared.numbers.Answer.{Answer}
use Rattle.card.specs.declared.card.Card.{Card}
use Rattle.card.specs.Cards.{answer, with_clock}
use Rattle.card.specs.Lawful.{rest_lawful, lawful}
use Rattle.card.specs.Setting.{set_time, set_strobe, set_periodic, on_clock}
use Rattle.card.proofs.lawful.Laws.{rest_lawful_lem, rest_unlawful}

-- a clock that stays leaves the card as it is
stays : (c : Card) (d : Clock) (n : ℕ) (t : Bool) → answer (with_clock c (pick t d c.clock)) n ≡ answer (pick t (with_clock c d) c) n
stays c d n true = refl
stays c d n false = refl

module _ (c : Card) (ls : List Line) (d : Clock) where
  by_rest : (t : Bool) → rest_lawful c ≡ t → on_clock c (granted (18 if not (clock_lawful c.clock) ∷ ls) c.clock d tt) ≡ granted (18 if not (lawful c) ∷ ls) c (with_clock c d) tt
  unfolding on_clock
  by_rest true e =
      let n : ℕ = given (18 if not (clock_lawful c.clock) ∷ ls) in
      simp (e, rest_lawful_lem c e) (stays c d n (eqb n 0))
  by_rest false e = simp (e, rest_unlawful c e)

  -- refused by 18 or by a line, or the card with the clock set
  pub on_clock_lem : on_clock c (granted (18 if not (clock_lawful c.clock) ∷ ls) c.clock d tt) ≡ granted (18 if not (lawful c) ∷ ls) c (with_clock c d) tt
  on_clock_lem = by_rest (rest_lawful c) refl

-- so each call that sets the clock answers for the card
module _ (c : Card) (a : Answer Clock ⊤) (r : Answer Card ⊤) (e : r ≡ on_clock c a) where
  pub sets_time : (year day hour minute second : ℕ) → a ≡ clock.set_time c.clock year day hour minute second → r ≡ set_time c year day hour minute second
  unfolding set_time
  sets_time year day hour minute second h =
      e ∙ ap (on_clock c) h ∙ on_clock_lem c (time_lines year day hour minute second) (time_set c.clock year day hour minute second)

  pub sets_strobe : (s : StrobeAt) → a ≡ clock.set_strobe c.clock s → r ≡ set_strobe c s
  unfolding set_strobe
  sets_strobe s h = e ∙ ap (on_clock c) h ∙ on_clock_lem c (strobe_lines s) (with_strobe c.clock (strobe_kept s))

  pub sets_periodic : (d : Dividers) → a ≡ clock.set_periodic c.clock d → r ≡ set_periodic c d
  unfolding set_periodic
  sets_periodic d h = e ∙ ap (on_clock c) h ∙ on_clock_lem c (divider_lines d) (with_periodic c.clock (periodic_kept d))

-- for the laws above: a lawful card, and no line holds
pub sets : (c d : Card) (ls : List Line) → lawful c ≡ true → given ls ≡ 0 → granted (18 if not (lawful c) ∷ ls) c d tt ≡ answer d 0
sets c d ls l e = rw (l, e)
