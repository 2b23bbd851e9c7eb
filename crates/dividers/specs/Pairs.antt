-- Pairs of dividers: which are lawful, the period of a pair, and its distance from a wanted one. Periods and distances are in nanoseconds, and nothing is cut from them: a wanted
-- period need not be a multiple of 100.
use Rattle.std.specs.Prelude.{ℕ, ◌+◌, ◌-◌, ◌*◌, Bool, ◌&&◌, ◌||◌, ltb, eqb}
use Rattle.wire.specs.Digits.{pick}
use Rattle.clock.specs.declared.setting.Dividers.TheVariants as Dividers
use Rattle.clock.specs.Setting.{dividers_fit}
use Rattle.dividers.specs.declared.pairs.Pair.{Pair}
use Rattle.dividers.specs.declared.pairs.Nearest.{Nearest}

abbrev pub pair : ℕ → ℕ → Pair
pair n1 n2 = record { n1 = n1; n2 = n2 }

-- a pair is lawful if each is 2 to 65,535, which is what dividers must be to be set
abbrev pub lawful : Pair → Bool
lawful p = dividers_fit (Dividers.By p.n1 p.n2)

abbrev pub product : Pair → ℕ
product p = p.n1 * p.n2

-- its period is 100 × n1 × n2 ns
abbrev pub period : Pair → ℕ
period p = 100 * product p

-- how far two periods are apart: of the two differences one is 0
abbrev pub apart : ℕ → ℕ → ℕ
apart a b = (a - b) + (b - a)

abbrev pub distance : ℕ → Pair → ℕ
distance wanted p = apart wanted (period p)

-- a pair measured against a wanted period
abbrev pub measured : ℕ → Pair → Nearest
measured wanted p = record { pair = p; period = period p; distance = distance wanted p }

-- WITHIN THE CRATE

-- the nearer of two; of equal distances the one with the smaller period; of equal periods the second
unfoldable pub nearer : Nearest → Nearest → Nearest
nearer p q = pick (ltb p.distance q.distance || (eqb p.distance q.distance && ltb p.period q.period)) p q
