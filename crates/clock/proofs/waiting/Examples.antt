-- The records of the page's waits, computed from one fall to the next. Assumes nothing.
use Prim.Native.Nat.{ℕ, zero, suc, ◌+◌, ◌-◌, ◌*◌, ◌≤◌, ◌<◌, zero-le}
use mathlib.Core.Path.{◌≡◌, refl, sym, ◌∙◌, ap}
use mathlib.Core.Bool.{Bool, true, false}
use mathlib.Core.List.{List, [], ◌∷◌, ◌++◌, append_assoc, append-nil}
use native.Mathlib.Omega.{arith}
use borrow.Author.Tests.{le-leb, leb-true, leb-false}
use lib.Dec.{T, leb, lit<, lit≤}
use Rattle.wire.specs.Numbers.{given}
use Rattle.wire.specs.Time.{ticks_of_day, tick_at}
use Rattle.clock.specs.declared.clock.Strobe.TheVariants as Strobe
use Rattle.clock.specs.declared.clock.Periodic.TheVariants as Periodic
use Rattle.clock.specs.declared.clock.Clock.{Clock}
use Rattle.clock.specs.declared.falling.Sources.{Sources}
use Rattle.clock.specs.declared.setting.StrobeAt.TheVariants as StrobeAt
use Rattle.clock.specs.declared.setting.Dividers.TheVariants as Dividers
use Rattle.clock.specs.Setting.{date_fits, time_lines, strobe_fits, strobe_lines, dividers_fit, divider_lines}
use Rattle.clock.specs.Time.{days_in, instant}
use Rattle.clock.specs.Waiting.{records}
use Rattle.clock.specs.Sources.{Ready, least_of, marks, past_of, all_past}
use Rattle.clock.proofs.time.Laws.{Proper, days_in_year}
use Rattle.clock.proofs.falling.Laws.{gap_low, gap_high, second_rhythm, strobe_each, periodic_every}
use Rattle.clock.proofs.waiting.Window.{none_yet, none_fall, none_before, past_ready, least_more}

-- ---- the records, computed

abbrev more : Bool → List ℕ → List ℕ
more true rs = rs
more false rs = []

-- at most f records of the ticks up to n
abbrev run : ℕ → Sources → ℕ → List ℕ
run zero s n = []
run (suc f) s n = more (leb (least_of s) n) ((8 * least_of s + marks s (least_of s)) ∷ run f (all_past s (least_of s)) n)

abbrev over : Bool → Bool → Bool
over true t = t
over false t = true

-- and these are all
abbrev enough : ℕ → Sources → ℕ → Bool
enough zero s n = false
enough (suc f) s n = over (leb (least_of s) n) (enough f (all_past s (least_of s)) n)

runs : (f : ℕ) (c : Clock) (a : ℕ) (s : Sources) (n : ℕ) → Ready c a s → a ≤ n → n ≤ ticks_of_day → T (enough f s n)
    → records c n ≡ records c a ++ run f s n
runs zero c a s n h l d t = absurd t
runs (suc f) c a s n h l d t = by (leb (least_of s) n) refl t (λ r k u. runs f c (least_of s) (all_past s (least_of s)) n r k d u)
  where
    m : ℕ
    m = least_of s

    v : ℕ
    v = 8 * least_of s + marks s (least_of s)

    rest : List ℕ
    rest = run f (all_past s (least_of s)) n

    by : (b : Bool) → leb (least_of s) n ≡ b → T (over b (enough f (all_past s (least_of s)) n))
        → (Ready c m (all_past s m) → m ≤ n → T (enough f (all_past s m) n) → records c n ≡ records c m ++ rest)
        → records c n ≡ records c a ++ more b (v ∷ rest)
    by true e u next =
        let k : least_of s ≤ n = leb-true _ _ e in
        next (past_ready c a s h (omega arith)) k u ∙ ap (λ (rs : List ℕ). rs ++ rest) (least_more c a s h (omega arith)) ∙ append_assoc (records c a) (v ∷ []) rest
    by false e u next =
        let k : n < least_of s = leb-false _ _ e in
        none_fall c a n l (λ j p q. none_before c a s h j p (omega arith)) ∙ sym (append-nil (records c a))

-- ---- the page's clock: year 2004, day 1, tick 0; strobe each second at a millisecond; dividers 2000 and 2000, count 0

abbrev pub page_clock : ℕ → Clock
page_clock ms = record { time = instant 2004 1 0; strobe = Strobe.EachSecond (record { ms = ms }); periodic = Periodic.Every 2000 2000 0 }

abbrev start : ℕ → Sources
start ms = record {
  second = record { next = 10000000; period = 10000000 };
  strobe = record { next = ms * 10000; period = 10000000 };
  periodic = record { next = 4000000; period = 4000000 };
}

start_ready : (ms : ℕ) → 0 < ms → ms < 1000 → Ready (page_clock ms) 0 (start ms)
start_ready ms l h =
    let p : Proper (instant 2004 1 0) = record { year = lit≤ tt; day_low = lit≤ tt; day_high = omega (arith, days_in_year 2004); tick = lit< tt } in
    let e : ms * 10000 - 0 ≡ ms * 10000 = omega arith in
    record {
      second = second_rhythm (instant 2004 1 0) p (start ms).second (gap_high 0 10000000 0 (lit< tt) (lit≤ tt)) refl;
      strobe = strobe_each (instant 2004 1 0) p _ (record { ms = ms }) (start ms).strobe refl h (rw e at (gap_low 0 10000000 (ms * 10000) (omega arith) (omega arith))) refl;
      periodic = periodic_every _ 2000 2000 0 (start ms).periodic refl (lit< tt) (lit≤ tt) (gap_high 0 4000000 0 (lit< tt) (lit≤ tt)) refl;
    }

-- the records of 10,000,000 ticks of it, with the strobe at 200 and at 400 milliseconds
page : (ms : ℕ) → 0 < ms → ms < 1000 → T (enough 8 (start ms) 10000000) → records (page_clock ms) 10000000 ≡ run 8 (start ms) 10000000
page ms l h t =
    runs 8 (page_clock ms) 0 (start ms) 10000000 (start_ready ms l h) zero-le (lit≤ tt) t ∙ ap (λ (rs : List ℕ). rs ++ run 8 (start ms) 10000000) (none_yet (page_clock ms))

pub at_200 : records (page_clock 200) 10000000 ≡ 16000002 ∷ 32000001 ∷ 64000001 ∷ 80000004 ∷ []
unfolding marks all_past past_of
at_200 = page 200 (lit< tt) (lit< tt) tt

pub at_400 : records (page_clock 400) 10000000 ≡ 32000003 ∷ 64000001 ∷ 80000004 ∷ []
unfolding marks all_past past_of
at_400 = page 400 (lit< tt) (lit< tt) tt

-- ---- what sets it

pub page_date : given (time_lines 2004 1 0 0 0) ≡ 0
unfolding date_fits days_in
page_date = refl

pub page_dividers : given (divider_lines (Dividers.By 2000 2000)) ≡ 0
unfolding dividers_fit
page_dividers = refl

pub page_strobe : (ms : ℕ) → ms ≤ 999 → given (strobe_lines (StrobeAt.EachSecond ms)) ≡ 0
unfolding strobe_fits
page_strobe ms h = simp (le-leb ms 999 h)

pub page_set : (ms : ℕ) → record { time = instant 2004 1 (tick_at 0 0 0 0); strobe = Strobe.EachSecond (record { ms = ms }); periodic = Periodic.Every 2000 2000 0 } ≡ page_clock ms
unfolding tick_at
page_set ms = refl
