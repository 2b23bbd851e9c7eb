-- Each source falls on the ticks that leave one remainder by its period; so its next fall is a distance of remainders, and the one after
-- comes a period later. Assumes nothing.
use Prim.Native.Nat.{ℕ, ◌+◌, ◌-◌, ◌*◌, ◌/◌, ◌%◌, ◌≤◌, ◌<◌}
use mathlib.Core.Path.{◌≡◌, refl, sym, ◌∙◌, ap}
use mathlib.Core.Bool.{Bool, true, false, ◌&&◌}
use mathlib.Core.Logic.{⊎_elim, ◌↔◌}
use native.Mathlib.Nat.{mod-lt, mod-eq_of_lt, mod-add-mod, mod-eq-sub-mod, mod-mod_of_dvd, dvd_of_mod-eq-zero, add_assoc}
use native.Mathlib.Omega.{arith}
use borrow.Author.Tests.{eq-eqb, ne_eqb, eqb-true, ltb-true}
use lib.Dec.{leb, ltb, eqb}
use Rattle.wire.specs.Time.{ticks_of_day}
use Rattle.wire.specs.declared.time.Milliseconds.{Milliseconds}
use Rattle.wire.proofs.digits.Laws.{lt_or_le, and_both}
use Rattle.clock.specs.declared.clock.Strobe.{Strobe}
use Rattle.clock.specs.declared.clock.Periodic.{Periodic}
use Rattle.clock.specs.declared.time.Time.{Time}
use Rattle.clock.specs.declared.falling.Source.{Source}
use Rattle.clock.specs.Time.{later}
use Rattle.clock.specs.Falling.{second_falls, strobe_falls, periodic_falls, strobe_lawful, periodic_lawful}
use Rattle.clock.specs.Sources.{Gap, NextFall, Rhythm, second_on, strobe_on}
use Rattle.clock.proofs.time.Laws.{Proper, later_tick}

-- ---- remainders

-- a number from p up to below 2p has the remainder p less
mod_once : (x p : ℕ) → p ≤ x → x < p + p → x % p ≡ x - p
mod_once x p h k = mod-eq-sub-mod h ∙ mod-eq_of_lt (omega arith)

module _ (x p r : ℕ) (h : r < p) where
  small : (j : ℕ) → x % p + j < p → (x + j) % p ≡ x % p + j
  small j k = sym (mod-add-mod x p j) ∙ mod-eq_of_lt k

  large : (j : ℕ) → p ≤ x % p + j → x % p + j < p + p → (x + j) % p ≡ x % p + j - p
  large j k l = sym (mod-add-mod x p j) ∙ mod_once (x % p + j) p k l

  pub gap_low : x % p < r → Gap x p r (r - x % p)
  gap_low k = record {
    above = omega arith;
    within = omega arith;
    hit = small (r - x % p) (omega arith) ∙ omega arith;
    none = λ j a b e. omega (arith, small j (omega arith));
  }

  pub gap_high : r ≤ x % p → Gap x p r (p - x % p + r)
  gap_high k =
      let m : x % p < p = mod-lt x (omega arith) in
      record {
        above = omega arith;
        within = omega arith;
        hit = large (p - x % p + r) (omega arith) (omega arith) ∙ omega arith;
        none = λ j a b e. ⊎_elim (λ l. omega (arith, small j l)) (λ g. omega (arith, large j g (omega arith))) (lt_or_le (x % p + j) p);
      }

  -- from one number with the remainder r it is p to the next
  gap_again : x % p ≡ r → Gap x p r p
  gap_again e = record {
    above = omega arith;
    within = omega arith;
    hit = large p (omega arith) (omega arith) ∙ omega arith;
    none = λ j a b f. ⊎_elim (λ l. omega (arith, small j l)) (λ g. omega (arith, large j g (omega arith))) (lt_or_le (x % p + j) p);
  }

-- a second goes into a day
second_of_day : (x : ℕ) → x % 864000000000 % 10000000 ≡ x % 10000000
second_of_day x = mod-mod_of_dvd 10000000 x (dvd_of_mod-eq-zero 10000000 {n = 864000000000} refl)

-- ---- what falls on one remainder

module _ (test : ℕ → Bool) (x p r : ℕ) (on : (k : ℕ) → test k ≡ eqb ((x + k) % p) r) where
  falls_next : (a d : ℕ) → Gap (x + a) p r d → NextFall test a (a + d)
  falls_next a d g = record {
    above = omega (arith, g.above);
    hit = λ h. on (a + d) ∙ eq-eqb _ _ (ap (λ (z : ℕ). z % p) (sym (add_assoc x a d)) ∙ g.hit);
    none = λ k l m. on k ∙ ne_eqb _ _ (λ e. g.none (k - a) (omega arith) (omega arith) (ap (λ (z : ℕ). z % p) (omega arith) ∙ e));
  }

  pub rhythm : (s : Source) → r < p → p ≤ ticks_of_day → Gap x p r s.next → s.period ≡ p → Rhythm test 0 s
  rhythm s h l g e = record {
    next = record {
      above = g.above;
      hit = λ m. on s.next ∙ eq-eqb _ _ g.hit;
      none = λ k m n. on k ∙ ne_eqb _ _ (g.none k m n);
    };
    again = λ k f. rw e (falls_next k p (gap_again (x + k) p r h (eqb-true _ _ (sym (on k) ∙ f))));
    small = omega arith;
  }

-- what never falls
never : (test : ℕ → Bool) → ((k : ℕ) → test k ≡ false) → Rhythm test 0 (record { next = 864000000001; period = 864000000000 })
never test off = record {
  next = record { above = omega arith; hit = λ h. absurd (omega arith); none = λ k l m. off k };
  again = λ k e. absurd (true_false (sym e ∙ off k));
  small = omega arith;
}
  where
    true_false : (◌≡◌ {A = Bool} true false) → ⊥
    true_false e = let z : ◌≡◌ {A = ℕ} 0 1 = cc in omega arith

-- ---- the three sources

module _ (t : Time) (h : Proper t) where
  -- the tick of the second, k ticks later
  in_second : (k : ℕ) → (later k t).tick.ticks % 10000000 ≡ (t.tick.ticks + k) % 10000000
  in_second k = ap (λ (x : ℕ). x % 10000000) (later_tick k t h) ∙ second_of_day (t.tick.ticks + k)

  pub second_rhythm : (s : Source) → Gap t.tick.ticks 10000000 0 s.next → s.period ≡ 10000000 → Rhythm (second_on t) 0 s
  unfolding second_on second_falls
  second_rhythm s g q =
      rhythm _ t.tick.ticks 10000000 0 (λ k. ap (λ (x : ℕ). eqb x 0) (in_second k)) s (omega arith) (omega arith) g q

  pub strobe_off : (s : Strobe) → s ≡ Strobe.Off → Rhythm (strobe_on s t) 0 (record { next = 864000000001; period = 864000000000 })
  unfolding strobe_on strobe_falls
  strobe_off s e = rw e (never _ (λ k. refl))

  pub strobe_daily : (s : Strobe) (ms : Milliseconds) (d : Source) → s ≡ Strobe.Daily ms → ms.ms < 86400000 → Gap t.tick.ticks 864000000000 (ms.ms * 10000) d.next
      → d.period ≡ 864000000000 → Rhythm (strobe_on s t) 0 d
  unfolding strobe_on strobe_falls
  strobe_daily s ms d e l g q =
      rw e (rhythm _ t.tick.ticks 864000000000 (ms.ms * 10000) (λ k. ap (λ (z : ℕ). eqb z (ms.ms * 10000)) (later_tick k t h)) d (omega arith) (omega arith) g q)

  pub strobe_each : (s : Strobe) (ms : Milliseconds) (d : Source) → s ≡ Strobe.EachSecond ms → ms.ms < 1000 → Gap t.tick.ticks 10000000 (ms.ms * 10000) d.next
      → d.period ≡ 10000000 → Rhythm (strobe_on s t) 0 d
  unfolding strobe_on strobe_falls
  strobe_each s ms d e l g q =
      rw e (rhythm _ t.tick.ticks 10000000 (ms.ms * 10000) (λ k. ap (λ (x : ℕ). eqb x (ms.ms * 10000)) (in_second k)) d (omega arith) (omega arith) g q)

pub daily_range : (s : Strobe) (ms : Milliseconds) → s ≡ Strobe.Daily ms → strobe_lawful s ≡ true → ms.ms < 86400000
unfolding strobe_lawful
daily_range s ms e l = ltb-true _ _ (rw e at l)

pub each_range : (s : Strobe) (ms : Milliseconds) → s ≡ Strobe.EachSecond ms → strobe_lawful s ≡ true → ms.ms < 1000
unfolding strobe_lawful
each_range s ms e l = ltb-true _ _ (rw e at l)

-- what the ranges of dividers and count give
pub record Divides (n1 n2 count : ℕ) : Type 0 where
  pub low : 0 < n1 * n2
  pub below : count < n1 * n2

pub divides : (p : Periodic) (n1 n2 count : ℕ) → p ≡ Periodic.Every n1 n2 count → periodic_lawful p ≡ true → Divides n1 n2 count
unfolding periodic_lawful
divides p n1 n2 count e l =
    let a = and_both (leb 2 n1) (leb 2 n2 && ltb count (n1 * n2)) (rw e at l) in
    let b = and_both (leb 2 n2) (ltb count (n1 * n2)) a.1 in
    let f : count < n1 * n2 = ltb-true _ _ b.1 in
    record { low = omega arith; below = f }

pub periodic_off : (p : Periodic) → p ≡ Periodic.Off → Rhythm (periodic_falls p) 0 (record { next = 864000000001; period = 864000000000 })
unfolding periodic_falls
periodic_off p e = rw e (never _ (λ k. refl))

pub periodic_every : (p : Periodic) (n1 n2 count : ℕ) (d : Source) → p ≡ Periodic.Every n1 n2 count → 0 < n1 * n2 → n1 * n2 ≤ ticks_of_day → Gap count (n1 * n2) 0 d.next
    → d.period ≡ n1 * n2 → Rhythm (periodic_falls p) 0 d
unfolding periodic_falls
periodic_every p n1 n2 count d e h l g q = rw e (rhythm _ count (n1 * n2) 0 (λ k. refl) d h l g q)

-- THE STROBE FALLS ON THE FIRST TICK OF ITS MILLISECOND

-- of the day
pub first_tick : (ms : Milliseconds) (tick : ℕ) → strobe_falls (Strobe.Daily ms) tick ≡ true ↔ ((tick / 10000 ≡ ms.ms) × (tick % 10000 ≡ 0))
unfolding strobe_falls
first_tick ms tick = (λ e. let q = eqb-true tick (ms.ms * 10000) e in (omega arith, omega arith), λ h. eq-eqb tick (ms.ms * 10000) (omega (arith, h.0, h.1)))

-- of the second
pub first_tick_each : (ms : Milliseconds) (tick : ℕ) → strobe_falls (Strobe.EachSecond ms) tick ≡ true ↔ ((tick % 10000000 / 10000 ≡ ms.ms) × (tick % 10000 ≡ 0))
unfolding strobe_falls
first_tick_each ms tick = (
  λ e. let q = eqb-true (tick % 10000000) (ms.ms * 10000) e in (omega arith, omega arith),
  λ h. eq-eqb (tick % 10000000) (ms.ms * 10000) (omega (arith, h.0, h.1)),
)
