-- The starred waits of the page, of every card such as the page's, and the page's own, which calls set. The records are computed in the clock's
-- `waiting/Examples`. Assumes nothing.
use Prim.Native.Nat.{ℕ, pred, ◌+◌, ◌/◌, ◌%◌, ◌≤◌}
use mathlib.Core.Path.{◌≡◌, refl, sym, ap, ◌∙◌}
use mathlib.Core.Bool.{true, false}
use mathlib.Core.List.{List, [], ◌∷◌}
use lib.Dec.{leb, eqb, lit<, lit≤}
use lib.ListN.{length, get_or, take}
use Rattle.std.specs.Prelude.{⊤}
use Rattle.wire.specs.Digits.{pick}
use Rattle.wire.specs.declared.numbers.Answer.{Answer}
use Rattle.clock.specs.declared.clock.Periodic.TheVariants as Periodic
use Rattle.clock.specs.declared.setting.StrobeAt.TheVariants as StrobeAt
use Rattle.clock.specs.declared.setting.Dividers.TheVariants as Dividers
use Rattle.clock.specs.Clocks.{with_strobe, with_periodic}
use Rattle.clock.specs.Setting.{time_lines, time_set, strobe_lines, strobe_kept, divider_lines, periodic_kept}
use Rattle.clock.specs.Time.{instant}
use Rattle.clock.specs.Waiting.{records, source_listed, listed, passed, fell, count_later, clock_later}
use Rattle.clock.proofs.time.Laws.{within_day}
use Rattle.clock.proofs.waiting.Examples.{page_clock, at_200, at_400, page_date, page_dividers, page_strobe, page_set}
use Rattle.parts.specs.Interrupts.{sources_raised}
use Rattle.parts.specs.Pending.{raised}
use Rattle.card.specs.declared.card.Card.{Card}
use Rattle.card.specs.Cards.{with_clock}
use Rattle.card.specs.Lawful.{lawful}
use Rattle.card.specs.Reset.{fresh_card}
use Rattle.card.specs.Setting.{set_time, set_periodic, set_strobe}
use Rattle.card.specs.Waiting.{pending_after, card_after, wait_refusal, row_waited}
use Rattle.card.proofs.setting.Laws.{sets}
use Rattle.card.proofs.waiting.Laws.{wait_is}
use Rattle.laws.specs.Calls.{Call, after}
use Rattle.laws.specs.Each.{Each}
use Rattle.laws.specs.Examples.{page_card, PageCard, Wait, Says, Stated, Example, waits}
use Rattle.laws.proofs.Keeps.{fresh_lawful, fresh_all, keeps_all}

-- ---- what a line says

-- what is computed of it, from the records
record Computed (rs : List ℕ) (l : Wait) : Type 0 where
  records : records (page_clock l.ms) 10000000 ≡ rs
  places : eqb l.places 0 ≡ false
  row : take l.places rs ≡ l.row
  passed : pick (leb (length rs) l.places) 10000000 (get_or rs (pred l.places) 0 / 8) ≡ l.passed
  count : (0 + l.passed) % 4000000 ≡ l.count
  pending : pending_after (fell l.row) 0 ≡ l.pending

module _ (rs : List ℕ) (l : Wait) (k : Computed rs l) (c : Card) (p : PageCard l.ms c) where
  not_refused : wait_refusal c 10000000 l.places ≡ 0
  unfolding wait_refusal
  not_refused = rw (p.known, p.clock, within_day (instant 2004 1 0) 10000000 (lit< tt), k.places)

  lists_row : listed c.clock 10000000 l.places ≡ l.row
  unfolding listed
  lists_row = rw (p.clock, k.records) k.row

  passes_ticks : passed c.clock 10000000 l.places ≡ l.passed
  unfolding passed
  passes_ticks = rw (p.clock, k.records) k.passed

  says : Says l c
  unfolding row_waited card_after clock_later count_later
  says =
      let w = wait_is c 10000000 l.places not_refused in
      record {
        waited = rw (w, lists_row, passes_ticks);
        row = λ r e. rw (e, not_refused, lists_row);
        count = rw (w, passes_ticks, p.clock) (ap (Periodic.Every 2000 2000) k.count);
        pending = rw (w, lists_row, p.pending) k.pending;
      }

-- ---- the page's card

module _ (ms : ℕ) (h : ms ≤ 999) where
  abbrev timed : Card
  timed = with_clock fresh_card (time_set fresh_card.clock 2004 1 0 0 0)

  abbrev divided : Card
  divided = with_clock timed (with_periodic timed.clock (periodic_kept (Dividers.By 2000 2000)))

  abbrev set : Card
  set = with_clock divided (with_strobe divided.clock (strobe_kept (StrobeAt.EachSecond ms)))

  time_set_lem : after (Call.set_time 2004 1 0 0 0) fresh_card ≡ timed
  unfolding after set_time
  time_set_lem = ap (λ (a : Answer Card ⊤). a.after) (sets fresh_card timed (time_lines 2004 1 0 0 0) fresh_lawful page_date)

  timed_lawful : lawful timed ≡ true
  timed_lawful = sym (ap lawful time_set_lem) ∙ keeps_all (Call.set_time 2004 1 0 0 0 ∷ []) fresh_card fresh_lawful

  dividers_set : after (Call.set_periodic (Dividers.By 2000 2000)) timed ≡ divided
  unfolding after set_periodic
  dividers_set = ap (λ (a : Answer Card ⊤). a.after) (sets timed divided (divider_lines (Dividers.By 2000 2000)) timed_lawful page_dividers)

  divided_lawful : lawful divided ≡ true
  divided_lawful = sym (ap lawful dividers_set) ∙ keeps_all (Call.set_periodic (Dividers.By 2000 2000) ∷ []) timed timed_lawful

  strobe_set : after (Call.set_strobe (StrobeAt.EachSecond ms)) divided ≡ set
  unfolding after set_strobe
  strobe_set = ap (λ (a : Answer Card ⊤). a.after) (sets divided set (strobe_lines (StrobeAt.EachSecond ms)) divided_lawful (page_strobe ms h))

  card_set : page_card ms ≡ set
  card_set =
      ap (λ (c : Card). after (Call.set_strobe (StrobeAt.EachSecond ms)) (after (Call.set_periodic (Dividers.By 2000 2000)) c)) time_set_lem
      ∙ ap (after (Call.set_strobe (StrobeAt.EachSecond ms))) dividers_set ∙ strobe_set

  page_card_lem : PageCard ms (page_card ms)
  unfolding fresh_card
  page_card_lem = record { known = fresh_all (Call.set_time 2004 1 0 0 0 ∷ Call.set_periodic (Dividers.By 2000 2000) ∷ Call.set_strobe (StrobeAt.EachSecond ms) ∷ []); clock = ap (λ (c : Card). c.clock) card_set ∙ page_set ms; pending = ap (λ (c : Card). c.interrupts.pending) card_set }

-- ---- the three lines

pub starred : Each (λ (l : Wait). Stated (Example.wait l)) waits
unfolding sources_raised raised source_listed
starred = (
  (page_card_lem 200 (lit≤ tt), says _ _ (record { records = at_200; places = refl; row = refl; passed = refl; count = refl; pending = refl })),
  (
    (page_card_lem 200 (lit≤ tt), says _ _ (record { records = at_200; places = refl; row = refl; passed = refl; count = refl; pending = refl })),
    (
      (page_card_lem 400 (lit≤ tt), says _ _ (record { records = at_400; places = refl; row = refl; passed = refl; count = refl; pending = refl })),
      tt,
    ),
  ),
)
