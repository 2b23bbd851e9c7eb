-- The parts of a card in the order in which the code asks them, and what a lawful card tells of each. Assumes nothing.
use mathlib.Core.Path.{◌≡◌, refl, ap, ◌∙◌}
use mathlib.Core.Bool.{Bool, true, false, ◌&&◌}
use Rattle.wire.proofs.digits.Laws.{and_both}
use Rattle.clock.specs.Clocks.{clock_lawful}
use Rattle.parts.specs.Events.{latch_lawful, control_lawful, event_lawful}
use Rattle.parts.specs.Interrupts.{interrupts_lawful}
use Rattle.parts.specs.Queues.{queue_lawful}
use Rattle.parts.specs.Settings.{settings_lawful, jam_fits}
use Rattle.parts.proofs.event.Laws.{event_is}
use Rattle.card.specs.declared.card.Card.{Card}
use Rattle.card.specs.Lawful.{rest_lawful, lawful}

none : (l t : Bool) → (l && (t && false)) ≡ false
none true true = refl
none true false = refl
none false t = refl

-- six tests in the page's order, and in the order in which the code asks them
reordered : (i k l t s j q : Bool) → (i && ((k && l) && (t && (s && (j && q))))) ≡ (i && (k && (s && (j && ((t && l) && q)))))
reordered false k l t s j q = refl
reordered true false l t s j q = refl
reordered true true l t true true q = order l t q
  where
    order : (l t q : Bool) → (l && (t && q)) ≡ ((t && l) && q)
    order true true q = refl
    order true false q = refl
    order false true q = refl
    order false false q = refl
reordered true true l t true false q = none l t
reordered true true l t false j q = none l t

pub rest_parts : (c : Card) →
    rest_lawful c
    ≡ (interrupts_lawful c.interrupts
    && (control_lawful c.event.control c.event.closed
    && (settings_lawful c.settings
    && (jam_fits c.jam c.settings
    && ((latch_lawful c.time_latch && latch_lawful c.event.latch)
    && queue_lawful c.queue)))))
unfolding rest_lawful
rest_parts c =
    rw (event_is c.event) (reordered (interrupts_lawful c.interrupts) (control_lawful c.event.control c.event.closed) (latch_lawful c.event.latch) (latch_lawful c.time_latch) (settings_lawful c.settings) (jam_fits c.jam c.settings) (queue_lawful c.queue))

-- of a card whose other parts are lawful, the clock decides
pub rest_lawful_lem : (c : Card) → rest_lawful c ≡ true → lawful c ≡ clock_lawful c.clock
unfolding lawful
rest_lawful_lem c e = simp e

pub rest_unlawful : (c : Card) → rest_lawful c ≡ false → lawful c ≡ false
unfolding lawful
rest_unlawful c e = simp e

-- the code asks the clock first
pub clock_first : (c : Card) → lawful c ≡ (clock_lawful c.clock && rest_lawful c)
unfolding lawful
clock_first c = go (rest_lawful c) (clock_lawful c.clock)
  where
    go : (r k : Bool) → (r && k) ≡ (k && r)
    go true true = refl
    go true false = refl
    go false true = refl
    go false false = refl

-- of a card whose clock is lawful, the other parts decide
pub clock_lawful_lem : (c : Card) → clock_lawful c.clock ≡ true → lawful c ≡ rest_lawful c
clock_lawful_lem c e = clock_first c ∙ ap (λ (t : Bool). t && rest_lawful c) e

pub clock_unlawful : (c : Card) → clock_lawful c.clock ≡ false → lawful c ≡ false
clock_unlawful c e = clock_first c ∙ ap (λ (t : Bool). t && rest_lawful c) e

-- a lawful card is lawful in each part, and a card lawful in each part is
pub record Parts (c : Card) : Type 0 where
  pub interrupts : interrupts_lawful c.interrupts ≡ true
  pub event : event_lawful c.event ≡ true
  pub time_latch : latch_lawful c.time_latch ≡ true
  pub settings : settings_lawful c.settings ≡ true
  pub jam : jam_fits c.jam c.settings ≡ true
  pub queue : queue_lawful c.queue ≡ true
  pub clock : clock_lawful c.clock ≡ true

pub parts : (c : Card) → lawful c ≡ true → Parts c
unfolding lawful rest_lawful
parts c h =
    let k = and_both (rest_lawful c) (clock_lawful c.clock) h in
    let i = and_both (interrupts_lawful c.interrupts) _ k.0 in
    let e = and_both (event_lawful c.event) _ i.1 in
    let t = and_both (latch_lawful c.time_latch) _ e.1 in
    let s = and_both (settings_lawful c.settings) _ t.1 in
    let j = and_both (jam_fits c.jam c.settings) (queue_lawful c.queue) s.1 in
    record { interrupts = i.0; event = e.0; time_latch = t.0; settings = s.0; jam = j.0; queue = j.1; clock = k.1 }

pub whole : (c : Card) → Parts c → lawful c ≡ true
unfolding lawful rest_lawful
whole c p = simp (p.interrupts, p.event, p.time_latch, p.settings, p.jam, p.queue, p.clock)
