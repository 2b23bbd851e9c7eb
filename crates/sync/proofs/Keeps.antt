-- Every call leaves a lawful board lawful, and so does every chain of calls. Assumes nothing.
use Prim.Native.Nat.{ℕ, ◌+◌, ◌≤◌, ◌<◌}
use mathlib.Core.Path.{◌≡◌, refl, sym, ◌∙◌}
use mathlib.Core.Bool.{Bool, true, false, ◌||◌, not, or-true, or-false}
use mathlib.Core.List.{List, [], ◌∷◌}
use mathlib.Core.Logic.{⊎_elim}
use native.Mathlib.Omega.{arith}
use lib.Dec.{ltb, eqb}
use borrow.Author.Tests.{lt-ltb, le-leb, lt-leb, ltb-true}
use Rattle.wire.specs.Digits.{pick}
use Rattle.wire.proofs.digits.Laws.{clash, lt_or_le}
use Rattle.sync.specs.declared.board.Board.{Board}
use Rattle.sync.specs.Boards.{switches_fit, started, fresh_board, with_waiting}
use Rattle.sync.specs.Lawful.{unseen_lawful, seen_lawful, lawful}
use Rattle.sync.specs.Stepping.{stepped}
use Rattle.sync.specs.Interrupts.{next_taken}
use Rattle.sync.specs.Calls.{Call, after, after_all}
use Rattle.sync.proofs.interrupts.Laws.{err_first, slo_next, fast_last, none_waits}
use Rattle.sync.proofs.lawful.Laws.{switches_fit_lem, still, seen_fits_lem, slo_with_fast, err_with_slo, seen_late, within_lawful, late_lawful, seen_lawful_lem}
use Rattle.sync.proofs.stepping.Laws.{passed, later, missed, counted, quiet_one, quiet_later, held_below, held_above}

-- A BOARD THAT STARTS

pub started_lawful : (rc1 base : ℕ) → switches_fit rc1 base ≡ true → lawful (started rc1 base) ≡ true
unfolding lawful unseen_lawful
started_lawful rc1 base h = simp h

pub fresh_lawful : lawful fresh_board ≡ true
unfolding switches_fit
fresh_lawful = started_lawful 1 0 refl

-- A PULSE

pulse_lawful : (b : Board) → lawful b ≡ true → lawful (stepped b true) ≡ true
unfolding lawful seen_lawful stepped
pulse_lawful b h = simp (switches_fit_lem b h, or-true)

-- A RUN

waits_more : (s f x : Bool) → (not s || f) ≡ true → (not s || (f || x)) ≡ true
waits_more true true x h = refl
waits_more true false x h = clash (sym h)
waits_more false f x h = refl

module _ (n : ℕ) (b : Board) (h : seen_lawful b ≡ true) where
  -- no pulse is missing yet
  not_missed : b.elapsed + n < 1008001 → (not (b.err || missed b n) || b.slo) ≡ true
  not_missed l =
      simp (lt-ltb b.elapsed 1008001 (omega arith), lt-leb 1008001 (b.elapsed + n) l, or-false)
      (err_with_slo b h (lt-ltb b.elapsed 1008001 (omega arith)))

  run_within : b.elapsed + n < 1008001 → seen_lawful (passed n b) ≡ true
  run_within l =
      within_lawful (passed n b) (waits_more b.slo b.fast (counted b n) (slo_with_fast b h)) (rw (held_below (b.elapsed + n) l) l) (not_missed l)

  -- one is, from now on or before
  bit_set : 1008001 ≤ b.elapsed + n → (b.bit || missed b n) ≡ true
  bit_set g = go (ltb b.elapsed 1008001) refl
    where
      go : (t : Bool) → ltb b.elapsed 1008001 ≡ t → (b.bit || missed b n) ≡ true
      go true l = simp (l, le-leb 1008001 (b.elapsed + n) g, or-true)
      go false l = simp (seen_late b h l).bit

  run_late : 1008001 ≤ b.elapsed + n → seen_lawful (passed n b) ≡ true
  run_late g =
      late_lawful (passed n b) (waits_more b.slo b.fast (counted b n) (slo_with_fast b h)) (held_above (b.elapsed + n) g) (bit_set g)

run_lawful : (n : ℕ) (b : Board) → lawful b ≡ true → lawful (later n b) ≡ true
unfolding later
run_lawful n b h = go b.seen refl
  where
    go : (t : Bool) → b.seen ≡ t → lawful (pick t (passed n b) b) ≡ true
    go true s =
        seen_lawful_lem (passed n b) (switches_fit_lem b h) s
        (⊎_elim (run_within n b (seen_fits_lem b s h)) (run_late n b (seen_fits_lem b s h)) (lt_or_le (b.elapsed + n) 1008001))
    go false u = h

-- A TAKING

module _ (b : Board) (h : lawful b ≡ true) where
  -- once ERR does not wait, SLO still waits only with FAST
  flags_lawful : b.seen ≡ true → (slo fast : Bool) → (not slo || fast) ≡ true
      → lawful (with_waiting b false slo fast) ≡ true
  flags_lawful s slo fast f = seen_lawful_lem _ (switches_fit_lem b h) s (go (ltb b.elapsed 1008001) refl)
    where
      go : (t : Bool) → ltb b.elapsed 1008001 ≡ t → seen_lawful (with_waiting b false slo fast) ≡ true
      go true l = within_lawful _ f (ltb-true b.elapsed 1008001 l) refl
      go false l = let q = seen_late b (seen_fits_lem b s h) l in late_lawful _ f q.at q.bit

  seen_taken : b.seen ≡ true → (e s f : Bool) → b.err ≡ e → b.slo ≡ s → b.fast ≡ f → lawful (next_taken b) ≡ true
  seen_taken v true s f x y z = rw (err_first b x).1 (flags_lawful v b.slo b.fast (slo_with_fast b (seen_fits_lem b v h)))
  seen_taken v false true f x y z = rw ((slo_next b x y).1, x) (flags_lawful v false b.fast refl)
  seen_taken v false false true x y z = rw ((fast_last b x y z).1, x, y) (flags_lawful v false false refl)
  seen_taken v false false false x y z = rw (none_waits b x y z).1 h

  take_lawful : lawful (next_taken b) ≡ true
  take_lawful = go b.seen refl
    where
      go : (t : Bool) → b.seen ≡ t → lawful (next_taken b) ≡ true
      go true s = seen_taken s b.err b.slo b.fast refl refl refl
      go false u = let q = still b u h in rw (none_waits b q.err q.slo q.fast).1 h

-- SETTING THE SWITCHES

set_lawful : (rc1 base : ℕ) (b : Board) → lawful b ≡ true → (t : Bool) → switches_fit rc1 base ≡ t → lawful (pick (eqb (pick (not t) 20 0) 0) (started rc1 base) b) ≡ true
set_lawful rc1 base b h true e = started_lawful rc1 base e
set_lawful rc1 base b h false e = h

pub keeps : (k : Call) (b : Board) → lawful b ≡ true → lawful (after k b) ≡ true
keeps (Call.set_switches rc1 base) b h = simp h (set_lawful rc1 base b h (switches_fit rc1 base) refl)
keeps (Call.step true) b h = simp h (pulse_lawful b h)
keeps (Call.step false) b h = simp h (rw (quiet_one b ∙ quiet_later 1 b h) (run_lawful 1 b h))
keeps (Call.run n) b h = simp h (rw (quiet_later n b h) (run_lawful n b h))
keeps Call.read b h = h
keeps Call.take b h = simp h (take_lawful b h)

pub keeps_all : (ks : List Call) (b : Board) → lawful b ≡ true → lawful (after_all ks b) ≡ true
keeps_all [] b h = h
keeps_all (k ∷ ks) b h = keeps_all ks (after k b) (keeps k b h)
