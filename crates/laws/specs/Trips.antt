-- Keeping the first trip: over a chain of calls the event latch holds the time of the first capture, and the edges behind it are counted, until a call opens the latch.
use Rattle.std.specs.Prelude.{ℕ, ◌+◌, ◌≤◌, min, ◌≡◌, Bool, true, false, ◌&&◌, List, [], ◌∷◌, ◌++◌, length, drop}
use Rattle.wire.specs.Digits.{pick}
use Rattle.parts.specs.Events.{keeps_first, matching}
use Rattle.card.specs.declared.card.Card.{Card}
use Rattle.card.specs.Lawful.{lawful}
use Rattle.card.specs.Registers.{words_now}
use Rattle.laws.specs.Calls.{Call, after, after_all}
use Rattle.laws.specs.Each.{Each}

-- the calls that open the latch: register 18 written, CONTROL written with bit 2 clear, and reset
pub data Opens : Call → Type 0 where
  writes : (v : ℕ) → Opens (Call.write 18 v)
  clears : (v : ℕ) → keeps_first v ≡ false → Opens (Call.write 11 v)
  resets : Opens Call.reset

-- MATCHING EDGES

-- an accepted edge of the chosen kind, with capture on, as the card that it comes on; no other call is one
unfoldable pub matched_by : Call → Card → List Card
matched_by (Call.set_time year day hour minute second) c = []
matched_by (Call.read reg) c = []
matched_by (Call.write reg v) c = []
matched_by (Call.block row) c = []
matched_by (Call.edge falling) c = pick (lawful c && matching c.event.control falling) (c ∷ []) []
matched_by Call.line c = []
matched_by (Call.set_strobe s) c = []
matched_by (Call.set_periodic d) c = []
matched_by (Call.wait n row) c = []
matched_by Call.reset c = []
matched_by (Call.save row) c = []
matched_by (Call.load bytes) c = []
matched_by (Call.write_frame row) c = []
matched_by (Call.switch_jam on) c = []

-- those of a chain, in order
abbrev pub matchings : List Call → Card → List Card
matchings [] c = []
matchings (k ∷ ks) c = matched_by k c ++ matchings ks (after k c)

-- whether there is one, and the words of the time at the first; those before if there is none
abbrev pub some : List Card → Bool
some [] = false
some (d ∷ ds) = true

abbrev pub first_words : List Card → List ℕ → List ℕ
first_words [] ws = ws
first_words (d ∷ ds) ws = words_now d

-- CHAINS

-- a chain in which no call opens the latch; a count of at most 65,535 (16 bits) is every card's
pub record Unopened (ks : List Call) (c : Card) : Type 0 where
  pub count : c.event.missed ≤ 65535
  pub none : Each (λ (k : Call). Opens k → ⊥) ks

-- from a closed latch: it is left as it is, and every matching edge is counted
pub record StaysClosed (ks : List Call) (c : Card) : Type 0 where
  pub closed : (after_all ks c).event.closed ≡ true
  pub latch : (after_all ks c).event.latch ≡ c.event.latch
  pub missed : (after_all ks c).event.missed ≡ min 65535 (c.event.missed + length (matchings ks c))

-- from an open latch with bit 2 set: the first matching edge is captured and closes it, and those that come after are counted
pub record FirstKept (ks : List Call) (c : Card) : Type 0 where
  pub closed : (after_all ks c).event.closed ≡ some (matchings ks c)
  pub latch : (after_all ks c).event.latch ≡ first_words (matchings ks c) c.event.latch
  pub missed : (after_all ks c).event.missed ≡ min 65535 (c.event.missed + length (drop 1 (matchings ks c)))
