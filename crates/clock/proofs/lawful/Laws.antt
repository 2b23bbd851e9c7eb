-- A lawful clock is lawful in each part, and a clock lawful in each part is. Assumes nothing.
use mathlib.Core.Path.{◌≡◌}
use mathlib.Core.Bool.{true}
use Rattle.wire.proofs.digits.Laws.{and_both}
use Rattle.clock.specs.declared.clock.Clock.{Clock}
use Rattle.clock.specs.Time.{time_lawful}
use Rattle.clock.specs.Falling.{strobe_lawful, periodic_lawful}
use Rattle.clock.specs.Clocks.{clock_lawful}

pub record Parts (c : Clock) : Type 0 where
  pub time : time_lawful c.time ≡ true
  pub strobe : strobe_lawful c.strobe ≡ true
  pub periodic : periodic_lawful c.periodic ≡ true

pub parts : (c : Clock) → clock_lawful c ≡ true → Parts c
unfolding clock_lawful
parts c h =
    let t = and_both (time_lawful c.time) _ h in
    let s = and_both (strobe_lawful c.strobe) (periodic_lawful c.periodic) t.1 in
    record { time = t.0; strobe = s.0; periodic = s.1 }

pub whole : (c : Clock) → Parts c → clock_lawful c ≡ true
unfolding clock_lawful
whole c p = simp (p.time, p.strobe, p.periodic)
