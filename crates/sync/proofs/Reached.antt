-- Every lawful board is left by some calls from a fresh one: `way` of specs/Runs has them, and here their end is computed. With the laws of Keeps: a board is lawful
-- exactly if some calls leave it. Assumes nothing.
use Prim.Native.Nat.{ℕ, ◌+◌, ◌<◌}
use mathlib.Core.Path.{◌≡◌, refl, sym, ap, ap₂, ◌∙◌}
use mathlib.Core.Bool.{Bool, true, false, ◌||◌, not, or-false}
use mathlib.Core.List.{List, [], ◌∷◌, ◌++◌}
use mathlib.Core.Logic.{◌↔◌}
use native.Mathlib.Omega.{arith}
use lib.Dec.{ltb, lit<, lit≤}
use borrow.Author.Tests.{ltb-true, lt-leb}
use Rattle.wire.specs.Digits.{pick}
use Rattle.wire.proofs.digits.Laws.{clash}
use Rattle.sync.specs.declared.board.Board.{Board}
use Rattle.sync.specs.Boards.{switches_fit, started, fresh_board}
use Rattle.sync.specs.Counting.{frequency, count}
use Rattle.sync.specs.Lawful.{lawful}
use Rattle.sync.specs.Stepping.{held, in_time, errs}
use Rattle.sync.specs.Calls.{Call, after, after_all}
use Rattle.sync.specs.Runs.{Left, down_to, pulses_to, way_within, way_late, way}
use Rattle.sync.proofs.counting.Laws.{count_rises, frequency_above}
use Rattle.sync.proofs.lawful.Laws.{switches_fit_lem, seen_fits_lem, still, slo_with_fast, err_with_slo, seen_late, within_lawful, late_lawful, seen_lawful_lem}
use Rattle.sync.proofs.stepping.Laws.{later, held_below, falls_late}
use Rattle.sync.proofs.Keeps.{fresh_lawful, keeps_all, started_lawful}
use Rattle.sync.proofs.Done.{set_done, run_done}
use Rattle.sync.proofs.Takings.{takes_err, takes_slo, takes_fast}
use Rattle.sync.proofs.Runs.{pulsed_is, first_pulse}

-- one behind the other
both : (ks ls : List Call) (b : Board) → after_all (ks ++ ls) b ≡ after_all ls (after_all ks b)
both [] ls b = refl
both (k ∷ ks) ls b = both ks ls (after k b)

module _ (rc1 base : ℕ) (fit : switches_fit rc1 base ≡ true) where
  -- a board that has seen a pulse
  abbrev Seen : ℕ → Bool → Bool → Bool → Bool → Board
  Seen elapsed bit err slo fast = record { rc1 = rc1; base = base; seen = true; elapsed = elapsed; bit = bit; err = err; slo = slo; fast = fast }

  seen_ok : (e : ℕ) (bit err slo fast : Bool) → e < 1008001 → (not slo || fast) ≡ true → (not err || slo) ≡ true → lawful (Seen e bit err slo fast) ≡ true
  seen_ok e bit err slo fast l f s = seen_lawful_lem _ fit refl (within_lawful (Seen e bit err slo fast) f l s)

  -- PULSES

  first : after (Call.step true) (started rc1 base) ≡ Seen 0 false false true true
  first = first_pulse (started rc1 base) (started_lawful rc1 base fit) refl

  early : after (Call.step true) (Seen 0 false false true true) ≡ Seen 0 true true true true
  unfolding in_time errs
  early = pulsed_is _ (seen_ok 0 false false true true (lit< tt) refl refl)

  -- microseconds, with all three waiting
  passes : (e : ℕ) (bit : Bool) → e < 1008001 → after (Call.run e) (Seen 0 bit true true true) ≡ Seen e bit true true true
  unfolding later
  passes e bit l = run_done _ (seen_ok 0 bit true true true (lit< tt) refl refl) e
      ∙ ap₂ (λ (x : ℕ) (t : Bool). Seen x t true true true) (held_below (0 + e) (omega arith) ∙ omega arith) (ap (λ (t : Bool). bit || t) (lt-leb 1008001 (0 + e) (omega arith)) ∙ or-false bit)

  in_time_lem : after (Call.step true) (Seen 991999 true true true true) ≡ Seen 0 false true true true
  unfolding in_time errs
  in_time_lem = pulsed_is _ (seen_ok 991999 true true true true (lit< tt) refl refl)

  set_bit : after_all (pulses_to true) (started rc1 base) ≡ Seen 0 true true true true
  set_bit = ap (after (Call.step true)) first ∙ early

  pulses : (bit : Bool) → after_all (pulses_to bit) (started rc1 base) ≡ Seen 0 bit true true true
  pulses true = set_bit
  pulses false =
      ap (λ (d : Board). after (Call.step true) (after (Call.run 991999) d)) set_bit
      ∙ ap (after (Call.step true)) (passes 991999 true (lit< tt))
      ∙ in_time_lem

  -- TAKINGS

  err_taken_lem : (e : ℕ) (bit slo fast : Bool) → lawful (Seen e bit true slo fast) ≡ true → after Call.take (Seen e bit true slo fast) ≡ Seen e bit false slo fast
  err_taken_lem e bit slo fast h = (takes_err _ h refl).1

  module _ (e : ℕ) (bit : Bool) (l : e < 1008001) where
    slo_taken_lem : after Call.take (Seen e bit false true true) ≡ Seen e bit false false true
    slo_taken_lem = (takes_slo _ (seen_ok e bit false true true l refl refl) refl refl).1

    fast_taken_lem : after Call.take (Seen e bit false false true) ≡ Seen e bit false false false
    fast_taken_lem = (takes_fast _ (seen_ok e bit false false true l refl refl) refl refl refl).1

    two_taken : (slo fast : Bool) → (not slo || fast) ≡ true → after_all (down_to slo fast) (Seen e bit false true true) ≡ Seen e bit false slo fast
    two_taken true true f = refl
    two_taken true false f = clash (sym f)
    two_taken false true f = slo_taken_lem
    two_taken false false f = ap (after Call.take) slo_taken_lem ∙ fast_taken_lem

    all_taken : (err slo fast : Bool) → (not slo || fast) ≡ true → (not err || slo) ≡ true
        → after_all (pick err [] (Call.take ∷ down_to slo fast)) (Seen e bit true true true) ≡ Seen e bit err slo fast
    all_taken true true true f s = refl
    all_taken true true false f s = clash (sym f)
    all_taken true false fast f s = clash (sym s)
    all_taken false slo fast f s = ap (after_all (down_to slo fast)) (err_taken_lem e bit true true (seen_ok e bit true true true l refl refl)) ∙ two_taken slo fast f

  -- UNTIL A PULSE IS MISSING

  within : (e : ℕ) (bit err slo fast : Bool) → e < 1008001 → (not slo || fast) ≡ true → (not err || slo) ≡ true
      → after_all (way_within (Seen e bit err slo fast)) (started rc1 base) ≡ Seen e bit err slo fast
  within e bit err slo fast l f s =
      both (pulses_to bit) (Call.run e ∷ pick err [] (Call.take ∷ down_to slo fast)) (started rc1 base)
      ∙ ap (after_all (Call.run e ∷ pick err [] (Call.take ∷ down_to slo fast))) (pulses bit)
      ∙ ap (after_all (pick err [] (Call.take ∷ down_to slo fast))) (passes e bit l)
      ∙ all_taken e bit l err slo fast f s

  -- FROM THEN ON

  waited : after (Call.run 1008000) (Seen 0 false false true true) ≡ Seen 1008000 false false true true
  unfolding later held
  waited = run_done _ (seen_ok 0 false false true true (lit< tt) refl refl) 1008000

  -- the count rises no more
  raised : (slo fast : Bool) → (not slo || fast) ≡ true → after (Call.run 1) (Seen 1008000 false false slo fast) ≡ Seen 1008001 true true slo fast
  unfolding later held
  raised slo fast f =
      run_done _ (seen_ok 1008000 false false slo fast (lit< tt) f refl) 1
      ∙ ap (λ (t : Bool). Seen 1008001 true true slo t) (ap (λ (t : Bool). fast || t) not_counted ∙ or-false fast)
    where
      not_counted : ltb (count (frequency rc1) 1008000) (count (frequency rc1) 1008001) ≡ false
      not_counted = sym (count_rises (frequency rc1) 1008000) ∙ falls_late (frequency rc1) 1008000 (frequency_above rc1) (lit≤ tt)

  late_ok : (slo fast : Bool) → (not slo || fast) ≡ true → lawful (Seen 1008001 true true slo fast) ≡ true
  late_ok slo fast f = seen_lawful_lem _ fit refl (late_lawful (Seen 1008001 true true slo fast) f refl refl)

  last_taken : (err slo fast : Bool) → (not slo || fast) ≡ true → after_all (pick err [] (Call.take ∷ [])) (Seen 1008001 true true slo fast) ≡ Seen 1008001 true err slo fast
  last_taken true slo fast f = refl
  last_taken false slo fast f = err_taken_lem 1008001 true slo fast (late_ok slo fast f)

  late : (err slo fast : Bool) → (not slo || fast) ≡ true
      → after_all (way_late (Seen 1008001 true err slo fast)) (started rc1 base) ≡ Seen 1008001 true err slo fast
  late err slo fast f =
      ap (λ (d : Board). after_all (down_to slo fast ++ ends) (after (Call.run 1008000) d)) first
      ∙ ap (after_all (down_to slo fast ++ ends)) waited
      ∙ both (down_to slo fast) ends (Seen 1008000 false false true true)
      ∙ ap (after_all ends) (two_taken 1008000 false (lit< tt) slo fast f)
      ∙ ap (after_all (pick err [] (Call.take ∷ []))) (raised slo fast f)
      ∙ last_taken err slo fast f
    where
      ends : List Call
      ends = Call.run 1 ∷ pick err [] (Call.take ∷ [])

-- EVERY LAWFUL BOARD

module _ (b : Board) (h : lawful b ≡ true) where
  fit : switches_fit b.rc1 b.base ≡ true
  fit = switches_fit_lem b h

  -- the same board, field by field
  seen_is : b.seen ≡ true → Seen b.rc1 b.base fit b.elapsed b.bit b.err b.slo b.fast ≡ b
  seen_is s = ap (λ (t : Bool). record { rc1 = b.rc1; base = b.base; seen = t; elapsed = b.elapsed; bit = b.bit; err = b.err; slo = b.slo; fast = b.fast }) (sym s)

  rest_leaves : (s : Bool) → b.seen ≡ s → (l : Bool) → ltb b.elapsed 1008001 ≡ l
      → after_all (pick s (pick l (way_within b) (way_late b)) []) (started b.rc1 b.base) ≡ b
  rest_leaves true s true l =
      let q = seen_fits_lem b s h in
      within b.rc1 b.base fit b.elapsed b.bit b.err b.slo b.fast (ltb-true b.elapsed 1008001 l) (slo_with_fast b q) (err_with_slo b q l)
      ∙ seen_is s
  rest_leaves true s false l =
      let q = seen_fits_lem b s h in
      let r = seen_late b q l in
      late b.rc1 b.base fit b.err b.slo b.fast (slo_with_fast b q)
      ∙ ap₂ (λ (e : ℕ) (t : Bool). Seen b.rc1 b.base fit e t b.err b.slo b.fast) (sym r.at) (sym r.bit)
      ∙ seen_is s
  rest_leaves false u l e =
      let q = still b u h in
      rw (u, q.elapsed, q.bit, q.err, q.slo, q.fast) refl

pub way_leaves : (b : Board) → lawful b ≡ true → after_all (way b) fresh_board ≡ b
unfolding way
way_leaves b h =
    ap (after_all (pick b.seen (pick (ltb b.elapsed 1008001) (way_within b) (way_late b)) [])) (set_done fresh_board fresh_lawful b.rc1 b.base (switches_fit_lem b h))
    ∙ rest_leaves b h b.seen refl (ltb b.elapsed 1008001) refl

-- 18 IS REACHABILITY: a board is lawful exactly if some calls leave it

pub lawful_exactly_if : (b : Board) → lawful b ≡ true ↔ Left b
lawful_exactly_if b =
    (λ h. record { calls = way b; leave = way_leaves b h }, λ l. rw (sym l.leave) (keeps_all l.calls fresh_board fresh_lawful))
