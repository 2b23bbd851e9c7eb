-- WITHIN THE CRATE: what the functions behind a wait promise one another, the next fall of each source. Nothing here is a promise of the clock's.
use Rattle.std.specs.Prelude.{ℕ, ◌+◌, ◌%◌, ◌≤◌, ◌<◌, min, ◌≡◌, Bool, true, false, leb, eqb}
use Rattle.wire.specs.Digits.{pick}
use Rattle.wire.specs.Time.{ticks_of_day}
use Rattle.clock.specs.declared.clock.Strobe.{Strobe}
use Rattle.clock.specs.declared.clock.Clock.{Clock}
use Rattle.clock.specs.declared.time.Time.{Time}
use Rattle.clock.specs.declared.falling.Source.{Source}
use Rattle.clock.specs.declared.falling.Sources.{Sources}
use Rattle.clock.specs.declared.waiting.Fell.{Fell}
use Rattle.clock.specs.Time.{later}
use Rattle.clock.specs.Falling.{second_falls, strobe_falls, periodic_falls}

-- d is the distance from x to the next number above x with the remainder r by p
pub record Gap (x p r d : ℕ) : Type 0 where
  pub above : 0 < d
  pub within : d ≤ p
  pub hit : (x + d) % p ≡ r
  pub none : (j : ℕ) → 0 < j → j < d → (x + j) % p ≡ r → ⊥

-- whether second and strobe fall on the k-th tick from a time
unfoldable pub second_on : Time → ℕ → Bool
second_on t k = second_falls (later k t).tick.ticks

unfoldable pub strobe_on : Strobe → Time → ℕ → Bool
strobe_on s t k = strobe_falls s (later k t).tick.ticks

-- what falls on the ticks of a test falls on no tick between a and f, and, if f is within a day, on f
pub record NextFall (test : ℕ → Bool) (a f : ℕ) : Type 0 where
  pub above : a < f
  pub hit : f ≤ ticks_of_day → test f ≡ true
  pub none : (k : ℕ) → a < k → k < f → test k ≡ false

-- after tick a, s has the next fall, and after each fall the next one is a period on
pub record Rhythm (test : ℕ → Bool) (a : ℕ) (s : Source) : Type 0 where
  pub next : NextFall test a s.next
  pub again : (k : ℕ) → test k ≡ true → NextFall test k (k + s.period)
  pub small : s.period ≤ ticks_of_day

-- after tick a of a clock, r has the next fall of each source
pub record Ready (c : Clock) (a : ℕ) (r : Sources) : Type 0 where
  pub second : Rhythm (second_on c.time) a r.second
  pub strobe : Rhythm (strobe_on c.strobe c.time) a r.strobe
  pub periodic : Rhythm (periodic_falls c.periodic) a r.periodic

-- ---- from one fall to the next

abbrev pub least_of : Sources → ℕ
least_of s = min (min s.second.next s.strobe.next) s.periodic.next

-- the weight of a source whose next fall is on a tick, and those of the three, as a record adds them up
abbrev pub mark_of : Source → ℕ → ℕ → ℕ
mark_of s at weight = pick (eqb s.next at) weight 0

unfoldable pub marks : Sources → ℕ → ℕ
marks s at = mark_of s.periodic at 1 + (mark_of s.strobe at 2 + mark_of s.second at 4)

-- a source past a tick: a period on if it fell there
unfoldable pub past_of : Source → ℕ → Source
past_of s at = pick (eqb s.next at) (record { next = at + s.period; period = s.period }) s

unfoldable pub all_past : Sources → ℕ → Sources
all_past s at = record { second = past_of s.second at; strobe = past_of s.strobe at; periodic = past_of s.periodic at }

-- no period is above a day
pub record Brief (s : Sources) : Type 0 where
  pub second : s.second.period ≤ ticks_of_day
  pub strobe : s.strobe.period ≤ ticks_of_day
  pub periodic : s.periodic.period ≤ ticks_of_day

-- ---- what filling a row comes to

-- the sources whose first fall is within p ticks
abbrev pub within : Sources → ℕ → Fell
within first p = record { periodic = leb first.periodic.next p; strobe = leb first.strobe.next p; second = leb first.second.next p }
