-- A lawful clock stays lawful: over a wait that is not refused, and when its time, its strobe or its dividers are set. Assumes nothing.
use Prim.Native.Nat.{ℕ, ◌+◌, ◌-◌, ◌*◌, ◌%◌, ◌≤◌, ◌<◌}
use mathlib.Core.Path.{◌≡◌, refl, ◌∙◌, ap}
use mathlib.Core.Bool.{true, ◌&&◌}
use native.Mathlib.Nat.{mod-lt, mul-pos}
use native.Mathlib.Omega.{arith}
use borrow.Author.Tests.{lt-ltb, ltb-true, leb-true}
use lib.Dec.{leb, ltb}
use Rattle.wire.specs.Numbers.{given}
use Rattle.wire.specs.Time.{tick_at}
use Rattle.wire.proofs.digits.Laws.{and_both}
use Rattle.clock.specs.declared.time.Time.{Time}
use Rattle.clock.specs.declared.clock.Strobe.TheVariants as Strobe
use Rattle.clock.specs.declared.clock.Periodic.{Periodic}
use Rattle.clock.specs.declared.clock.Clock.{Clock}
use Rattle.clock.specs.declared.setting.StrobeAt.{StrobeAt}
use Rattle.clock.specs.declared.setting.Dividers.{Dividers}
use Rattle.clock.specs.Time.{instant, days_in, later, time_lawful}
use Rattle.clock.specs.Falling.{strobe_lawful, periodic_lawful}
use Rattle.clock.specs.Clocks.{clock_lawful, with_strobe, with_periodic}
use Rattle.clock.specs.Setting.{time_of_day, date_fits, time_set, strobe_fits, strobe_kept, dividers_fit, periodic_kept}
use Rattle.clock.specs.Waiting.{passed, count_later, clock_later, wait_lines}
use Rattle.clock.proofs.time.Laws.{in_range_lem, time_lawful_lem, later_add, later_proper, later_year, later_lawful}
use Rattle.clock.proofs.lawful.Laws.{Parts, parts, whole}
use Rattle.clock.proofs.waiting.Laws.{passes}
use Rattle.clock.proofs.waiting.Answer.{Accepted, accepted}

-- ---- waiting

-- a time before one of year 9999 is lawful too
earlier_lawful : (p n : ℕ) (t : Time) → p ≤ n → time_lawful t ≡ true → (later n t).year ≤ 9999 → time_lawful (later p t) ≡ true
earlier_lawful p n t h e y =
    let f : later n t ≡ later (n - p) (later p t) = ap (λ (k : ℕ). later k t) {x = n} {y = p + (n - p)} (omega arith) ∙ later_add p (n - p) t in
    let g : (later p t).year ≤ (later (n - p) (later p t)).year = later_year (n - p) (later p t) (later_proper p t (in_range_lem t e).proper) in
    later_lawful p t e (omega (arith, ap (λ (u : Time). u.year) f))

-- any count taken modulo the product of its dividers
every_lawful : (x n1 n2 : ℕ) → leb 2 n1 ≡ true → leb 2 n2 ≡ true → 0 < n1 * n2 → (leb 2 n1 && (leb 2 n2 && ltb (x % (n1 * n2)) (n1 * n2))) ≡ true
every_lawful x n1 n2 a b l = simp (a, b, lt-ltb (x % (n1 * n2)) (n1 * n2) (mod-lt x l))

count_lawful : (p : ℕ) (q : Periodic) → periodic_lawful q ≡ true → periodic_lawful (count_later p q) ≡ true
unfolding periodic_lawful count_later
count_lawful p Periodic.Off e = refl
count_lawful p (Periodic.Every n1 n2 count) e =
    let a = and_both (leb 2 n1) (leb 2 n2 && ltb count (n1 * n2)) e in
    let b = and_both (leb 2 n2) (ltb count (n1 * n2)) a.1 in
    let l : count < n1 * n2 = ltb-true count (n1 * n2) b.1 in
    every_lawful _ n1 n2 a.0 b.0 (omega arith)

pub waits : (c : Clock) (n room : ℕ) → clock_lawful c ≡ true → given (wait_lines c n room) ≡ 0 → clock_lawful (clock_later (passed c n room) c) ≡ true
unfolding clock_later
waits c n room h e =
    let a : Accepted c n room = accepted c n room e in
    let p = parts c h in
    whole _
    (record {
      time = earlier_lawful (passed c n room) n c.time (passes c n room a.places).0 p.time a.year;
      strobe = p.strobe;
      periodic = count_lawful (passed c n room) c.periodic p.periodic;
    })

-- ---- setting

time_of_day_lem : (hour minute second : ℕ) → time_of_day hour minute second ≡ true → (hour ≤ 23) × (minute ≤ 59) × (second ≤ 59)
time_of_day_lem hour minute second e =
    let a = and_both (leb hour 23) (leb minute 59 && leb second 59) e in
    let b = and_both (leb minute 59) (leb second 59) a.1 in
    (leb-true _ _ a.0, leb-true _ _ b.0, leb-true _ _ b.1)

date_lawful : (year day hour minute second : ℕ) → date_fits year day hour minute second ≡ true → time_lawful (instant year day (tick_at hour minute second 0)) ≡ true
unfolding date_fits tick_at
date_lawful year day hour minute second e =
    let a = and_both (leb 1 year) _ e in
    let b = and_both (leb year 9999) _ a.1 in
    let d = and_both (leb 1 day) _ b.1 in
    let f = and_both (leb day (days_in year)) (time_of_day hour minute second) d.1 in
    let t = time_of_day_lem hour minute second f.1 in
    time_lawful_lem (instant year day (((hour * 60 + minute) * 60 + second) * 10000000 + 0))
    (record {
      proper = record { year = leb-true _ _ a.0; day_low = leb-true _ _ d.0; day_high = leb-true _ _ f.0; tick = omega (arith, t.0, t.1, t.2) };
      year = leb-true _ _ b.0;
    })

strobe_lawful_lem : (s : StrobeAt) → strobe_fits s ≡ true → strobe_lawful (strobe_kept s) ≡ true
unfolding strobe_fits strobe_lawful
strobe_lawful_lem StrobeAt.Off e = refl
strobe_lawful_lem (StrobeAt.Daily hour minute second ms) e =
    let a = and_both (time_of_day hour minute second) (leb ms 999) e in
    let t = time_of_day_lem hour minute second a.0 in
    lt-ltb (((hour * 60 + minute) * 60 + second) * 1000 + ms) 86400000 (omega (arith, t.0, t.1, t.2, leb-true ms 999 a.1))
strobe_lawful_lem (StrobeAt.EachSecond ms) e = lt-ltb ms 1000 (omega (arith, leb-true ms 999 e))

periodic_lawful_lem : (d : Dividers) → dividers_fit d ≡ true → periodic_lawful (periodic_kept d) ≡ true
unfolding dividers_fit periodic_lawful
periodic_lawful_lem Dividers.Off e = refl
periodic_lawful_lem (Dividers.By n1 n2) e =
    let a = and_both (leb 2 n1) (leb n1 65535 && (leb 2 n2 && leb n2 65535)) e in
    let b = and_both (leb n1 65535) (leb 2 n2 && leb n2 65535) a.1 in
    let d = and_both (leb 2 n2) (leb n2 65535) b.1 in
    simp (a.0, d.0, lt-ltb 0 (n1 * n2) (mul-pos (omega (arith, leb-true 2 n1 a.0)) (omega (arith, leb-true 2 n2 d.0))))

module _ (c : Clock) (h : clock_lawful c ≡ true) where
  abbrev p : Parts c
  p = parts c h

  pub sets_time : (year day hour minute second : ℕ) → date_fits year day hour minute second ≡ true → clock_lawful (time_set c year day hour minute second) ≡ true
  sets_time year day hour minute second e = whole _ (record { time = date_lawful year day hour minute second e; strobe = p.strobe; periodic = p.periodic })

  pub sets_strobe : (s : StrobeAt) → strobe_fits s ≡ true → clock_lawful (with_strobe c (strobe_kept s)) ≡ true
  sets_strobe s e = whole _ (record { time = p.time; strobe = strobe_lawful_lem s e; periodic = p.periodic })

  pub sets_periodic : (d : Dividers) → dividers_fit d ≡ true → clock_lawful (with_periodic c (periodic_kept d)) ≡ true
  sets_periodic d e = whole _ (record { time = p.time; strobe = p.strobe; periodic = periodic_lawful_lem d e })

-- the clock of a reset card, and the time of a fresh one
pub off_lawful : (t : Time) → time_lawful t ≡ true → clock_lawful (record { time = t; strobe = Strobe.Off; periodic = Periodic.Off }) ≡ true
unfolding strobe_lawful periodic_lawful
off_lawful t e = whole _ (record { time = e; strobe = refl; periodic = refl })

pub first_lawful : time_lawful (instant 1 1 0) ≡ true
unfolding time_lawful days_in
first_lawful = refl
