-- Laws over runs: a run is as many single steps; what holds after a pulse, whatever quiet calls are made; what holds before the first. Assumes nothing.
use Prim.Native.Nat.{ℕ, zero, suc, ◌+◌, ◌≤◌}
use mathlib.Core.Path.{◌≡◌, refl, sym, ap, ap₂, ◌∙◌}
use mathlib.Core.Bool.{Bool, true, false, ◌&&◌, ◌||◌, not, or-true, or-false}
use mathlib.Core.List.{List, [], ◌∷◌}
use mathlib.Core.Logic.{⊎_elim}
use native.Mathlib.Nat.{add-zero, zero-add, add_assoc}
use native.Mathlib.Omega.{arith}
use lib.Dec.{leb, ltb, eqb}
use lib.ListN.{replicate}
use borrow.Author.Tests.{le-leb, lt-leb, lt-ltb, le-ltb, eq-eqb, ne_eqb, not-true, not-false}
use Rattle.wire.specs.Digits.{pick}
use Rattle.std.specs.Prelude.{None}
use Rattle.wire.specs.Numbers.{given, given_or}
use Rattle.wire.proofs.digits.Laws.{and_both, clash, lt_or_le, or_assoc, or_left, or_right}
use Rattle.sync.specs.declared.board.Board.{Board}
use Rattle.sync.specs.Boards.{switches_fit, started, fresh_board, with_waiting}
use Rattle.sync.specs.Counting.{frequency, count, count_falls}
use Rattle.sync.specs.Lawful.{lawful}
use Rattle.sync.specs.Stepping.{held, reached, in_time, errs, counts, stepped, quiet_steps}
use Rattle.sync.specs.Switches.{switch_lines}
use Rattle.sync.specs.Register.{shown, read_register}
use Rattle.sync.specs.Interrupts.{err_taken, slo_taken, fast_taken, next_taken}
use Rattle.sync.specs.Calls.{Call, after, after_all}
use Rattle.sync.specs.Runs.{pulsed_board, quiet_call, quiet_calls, lasts, lasts_all, Since, pulse, pulseless, Before}
use Rattle.sync.proofs.counting.Laws.{count_none, count_late, frequency_above}
use Rattle.sync.proofs.lawful.Laws.{still, seen_fits_lem, seen_late}
use Rattle.sync.proofs.stepping.Laws.{missed, counted, passed, later, held_below, as_held, held_plus, falls_held, count_of_held, later_seen, later_unseen}
use Rattle.sync.proofs.interrupts.Laws.{none_waits}
use Rattle.sync.proofs.Keeps.{keeps, keeps_all, started_lawful}
use Rattle.sync.proofs.Done.{set_done, set_refused, step_done, run_done, quiet_done, read_done, take_done, vector_done}

-- A RUN IS AS MANY SINGLE STEPS

first_step : (n : ℕ) (b : Board) → quiet_steps n (stepped b false) ≡ quiet_steps (suc n) b
unfolding quiet_steps
first_step zero b = refl
first_step (suc n) b = ap (λ (d : Board). stepped d false) (first_step n b)

one_by_one_lawful : (n : ℕ) (b : Board) → lawful b ≡ true → after_all (replicate n (Call.step false)) b ≡ quiet_steps n b
unfolding quiet_steps
one_by_one_lawful zero b h = refl
one_by_one_lawful (suc n) b h =
    one_by_one_lawful n (after (Call.step false) b) (keeps (Call.step false) b h)
    ∙ ap (quiet_steps n) (step_done b h false)
    ∙ first_step n b

one_by_one_refused : (n : ℕ) (b : Board) → lawful b ≡ false → after_all (replicate n (Call.step false)) b ≡ b
one_by_one_refused zero b u = refl
one_by_one_refused (suc n) b u = ap (after_all (replicate n (Call.step false))) (simp u) ∙ one_by_one_refused n b u

-- of every board: one that is not lawful stays in both
pub one_by_one_lem : (n : ℕ) (b : Board) → after (Call.run n) b ≡ after_all (replicate n (Call.step false)) b
one_by_one_lem n b = go (lawful b) refl
  where
    go : (t : Bool) → lawful b ≡ t → after (Call.run n) b ≡ after_all (replicate n (Call.step false)) b
    go true h = simp h (sym (one_by_one_lawful n b h))
    go false u = simp u (sym (one_by_one_refused n b u))

-- AFTER A PULSE

-- for a lawful board a pulse that is not in time leaves the bit set
out_of_time : (b : Board) → lawful b ≡ true → in_time b ≡ false → (b.bit || errs b true) ≡ true
unfolding in_time errs
out_of_time b h o =
    let s = not-false b.seen (or_left (not b.seen) _ o) in
    ⊎_elim
    (λ l. simp (s, lt-ltb (reached b) 992000 l, or-true))
    (λ g. ⊎_elim
    (λ k. ⊎_elim
    (λ m. simp (s, eq-eqb (reached b) 1008001 (omega arith), or-true))
    (λ m. simp (seen_late b (seen_fits_lem b s h) (le-ltb b.elapsed 1008001 m)).bit)
    (lt_or_le b.elapsed 1008001))
    (λ k. clash (sym (ap₂ (λ (x y : Bool). x && y) (le-leb 992000 (reached b) g) (le-leb (reached b) 1008000 k)) ∙ or_right (not b.seen) _ o))
    (lt_or_le 1008000 (reached b)))
    (lt_or_le (reached b) 992000)

-- a board d, the microsecond j after a pulse that came to b
record At (b : Board) (j : ℕ) (d : Board) : Type 0 where
  known : lawful d ≡ true
  seen : d.seen ≡ true
  rc1 : d.rc1 ≡ b.rc1
  elapsed : d.elapsed ≡ held j
  bit : d.bit ≡ (not (in_time b) || leb 1008001 j)

pulse_bit : (b : Board) → lawful b ≡ true → pick (true && in_time b) false (b.bit || errs b true) ≡ not (in_time b)
pulse_bit b h = go (in_time b) refl
  where
    go : (t : Bool) → in_time b ≡ t → pick (true && in_time b) false (b.bit || errs b true) ≡ not (in_time b)
    go true e = simp e
    go false e = simp (e, out_of_time b h e)

at_pulse : (b : Board) → lawful b ≡ true → At b 0 (after (Call.step true) b)
unfolding stepped held
at_pulse b h =
    rw (step_done b h true)
    (record {
      known = rw (sym (step_done b h true)) (keeps (Call.step true) b h);
      seen = or-true b.seen;
      rc1 = refl;
      elapsed = refl;
      bit = pulse_bit b h ∙ sym (or-false (not (in_time b)));
    })

missed_plus : (j n : ℕ) → (leb 1008001 j || (ltb (held j) 1008001 && leb 1008001 (held j + n))) ≡ leb 1008001 (j + n)
missed_plus j n =
    ⊎_elim
    (λ l. rw (lt-leb 1008001 j l, held_below j l, lt-ltb j 1008001 l) refl)
    (λ g. rw (le-leb 1008001 j g) (sym (le-leb 1008001 (j + n) (omega arith))))
    (lt_or_le j 1008001)

module _ (b : Board) where
  -- so many microseconds on
  at_passed : (j n : ℕ) (d : Board) → At b j d → lawful (passed n d) ≡ true → At b (j + n) (passed n d)
  at_passed j n d a h =
      record {
        known = h;
        seen = a.seen;
        rc1 = a.rc1;
        elapsed = rw a.elapsed (held_plus j n);
        bit = rw (a.bit, a.elapsed) (or_assoc (not (in_time b)) (leb 1008001 j) _ ∙ ap (λ (t : Bool). not (in_time b) || t) (missed_plus j n));
      }

  at_run : (k : Call) (j n : ℕ) (d : Board) → At b j d → after k d ≡ later n d → At b (j + n) (after k d)
  at_run k j n d a e =
      let q = e ∙ later_seen n d a.seen in
      rw q (at_passed j n d a (rw (sym q) (keeps k d a.known)))

  -- the same microsecond, with an interrupt taken
  at_taken : (j : ℕ) (d : Board) → At b j d → lawful (next_taken d) ≡ true → At b j (next_taken d)
  unfolding next_taken
  at_taken j d a =
      either d.err (err_taken d) _ (flags false d.slo d.fast)
      (either d.slo (slo_taken d) _ (flags d.err false d.fast) (either d.fast (fast_taken d) d (flags d.err d.slo false) (λ h. a)))
    where
      either : (t : Bool) (x y : Board) → (lawful x ≡ true → At b j x) → (lawful y ≡ true → At b j y) → lawful (pick t x y) ≡ true → At b j (pick t x y)
      either true x y f g = f
      either false x y f g = g

      flags : (err slo fast : Bool) → lawful (with_waiting d err slo fast) ≡ true
          → At b j (with_waiting d err slo fast)
      flags err slo fast h = record { known = h; seen = a.seen; rc1 = a.rc1; elapsed = a.elapsed; bit = a.bit }

  -- whatever quiet call is made
  at_call : (k : Call) (j : ℕ) (d : Board) → quiet_call k ≡ true → At b j d → At b (j + lasts k) (after k d)
  at_call (Call.set_switches rc1 base) j d q a = rw (add-zero j, set_refused d a.known rc1 base (not-true (switches_fit rc1 base) q)) a
  at_call (Call.step true) j d q a = clash (sym q)
  at_call (Call.step false) j d q a = at_run (Call.step false) j 1 d a (quiet_done d a.known)
  at_call (Call.run n) j d q a = at_run (Call.run n) j n d a (run_done d a.known n)
  at_call Call.read j d q a = rw (add-zero j) a
  at_call Call.take j d q a = rw (add-zero j, take_done d a.known) (at_taken j d a (rw (sym (take_done d a.known)) (keeps Call.take d a.known)))

  at_all : (ks : List Call) (j : ℕ) (d : Board) → quiet_calls ks ≡ true → At b j d → At b (j + lasts_all ks) (after_all ks d)
  at_all [] j d q a = rw (add-zero j) a
  at_all (k ∷ ks) j d q a =
      let p = and_both (quiet_call k) (quiet_calls ks) q in
      rw (sym (add_assoc j (lasts k) (lasts_all ks))) (at_all ks (j + lasts k) (after k d) p.1 (at_call k j d p.0 a))

  -- THE REGISTER, AND THE NEXT MICROSECOND

  module _ (j : ℕ) (d : Board) (a : At b j d) where
    register_at : given_or 0 (read_register d) ≡ pick (not (in_time b) || leb 1008001 j) 0x8000 0 + count (frequency b.rc1) j
    unfolding shown
    register_at =
        ap (given_or 0) (read_done d a.known)
        ∙ rw (a.bit, a.rc1, a.elapsed, count_of_held (frequency b.rc1) j (frequency_above b.rc1)) refl

    -- a test of the next microsecond goes as if it were not held
    next_is : (test : ℕ → Bool) → (1008001 ≤ j → test 1008002 ≡ test (j + 1)) → test (reached d) ≡ test (j + 1)
    next_is test f = ap (λ (x : ℕ). test (x + 1)) a.elapsed ∙ as_held (λ (x : ℕ). test (x + 1)) j f

    late_next : eqb (reached d) 1008001 ≡ eqb (j + 1) 1008001
    late_next = next_is (λ (x : ℕ). eqb x 1008001) (λ g. sym (ne_eqb (j + 1) 1008001 (λ q. omega arith)))

    early_next : ltb (reached d) 992000 ≡ ltb (j + 1) 992000
    early_next = next_is (λ (x : ℕ). ltb x 992000) (λ g. sym (le-ltb (j + 1) 992000 (omega arith)))

    in_time_next : in_time d ≡ (leb 992000 (j + 1) && leb (j + 1) 1008000)
    unfolding in_time
    in_time_next =
        simp a.seen
        (next_is (λ (x : ℕ). leb 992000 x && leb x 1008000) (λ g. sym (ap₂ (λ (x y : Bool). x && y) (le-leb 992000 (j + 1) (omega arith)) (lt-leb (j + 1) 1008000 (omega arith)))))

    counts_next : counts d ≡ count_falls (frequency b.rc1) (j + 1)
    unfolding counts
    counts_next =
        simp (a.seen, a.rc1, a.elapsed) (falls_held (frequency b.rc1) j (frequency_above b.rc1))

    errs_next : (pulse : Bool) → errs d pulse ≡ ((pulse && ltb (j + 1) 992000) || eqb (j + 1) 1008001)
    unfolding errs
    errs_next pulse = rw (a.seen, early_next, late_next) refl

    -- A RUN FROM HERE

    run_is : (n : ℕ) → after (Call.run n) d ≡ passed n d
    run_is n = run_done d a.known n ∙ later_seen n d a.seen

    missed_at : (n : ℕ) → missed d n ≡ (ltb j 1008001 && leb 1008001 (j + n))
    missed_at n =
        rw a.elapsed
        (as_held (λ (x : ℕ). ltb x 1008001 && leb 1008001 (x + n)) j (λ g. sym (ap (λ (t : Bool). t && leb 1008001 (j + n)) (le-ltb j 1008001 g))))

    counted_at : (n : ℕ) → counted d n ≡ ltb (count (frequency b.rc1) j) (count (frequency b.rc1) (j + n))
    counted_at n =
        let f = frequency b.rc1 in
        let late = count_late f (frequency_above b.rc1) in
        rw (a.rc1, a.elapsed)
        (as_held (λ (x : ℕ). ltb (count f x) (count f (x + n))) j
        (λ g. ap₂ ltb (late 1008001 (omega arith) ∙ sym (late j (omega arith))) (late (1008001 + n) (omega arith) ∙ sym (late (j + n) (omega arith)))))

    since_at : Since b j d
    unfolding stepped
    since_at =
        record {
          shows = register_at;
          quiet_err = ap (λ (x : Board). x.err) (step_done d a.known false) ∙ ap (λ (t : Bool). d.err || t) (errs_next false);
          quiet_slo = ap (λ (x : Board). x.slo) (step_done d a.known false) ∙ or-false d.slo;
          quiet_fast = ap (λ (x : Board). x.fast) (step_done d a.known false) ∙ ap (λ (t : Bool). d.fast || t) counts_next;
          run_err = λ n. ap (λ (x : Board). x.err) (run_is n) ∙ ap (λ (t : Bool). d.err || t) (missed_at n);
          run_slo = λ n. ap (λ (x : Board). x.slo) (run_is n);
          run_fast = λ n. ap (λ (x : Board). x.fast) (run_is n) ∙ ap (λ (t : Bool). d.fast || t) (counted_at n);
          pulse_err = ap (λ (x : Board). x.err) (step_done d a.known true) ∙ ap (λ (t : Bool). d.err || t) (errs_next true);
          pulse_in_time = in_time_next;
          pulse_bit = (at_pulse d a.known).bit ∙ or-false (not (in_time d)) ∙ ap not in_time_next;
        }

-- the page's law: a pulse, and any quiet calls after it
pub since : (b : Board) → lawful b ≡ true → (ks : List Call) → quiet_calls ks ≡ true → Since b (lasts_all ks) (after_all ks (after (Call.step true) b))
since b h ks q = since_at b (lasts_all ks) (after_all ks (after (Call.step true) b)) (rw (zero-add (lasts_all ks)) at (at_all b ks 0 (after (Call.step true) b) q (at_pulse b h)))

-- ONE MICROSECOND

module _ (b : Board) (h : lawful b ≡ true) where
  pub pulsed_is : after (Call.step true) b ≡ pulsed_board b (not (in_time b)) (b.err || errs b true)
  unfolding stepped
  pulsed_is = step_done b h true ∙ simp (or-true) (ap (λ (t : Bool). pulsed_board b t (b.err || errs b true)) (pulse_bit b h))

  -- the first pulse ever is in time, whatever time went by
  pub first_pulse : b.seen ≡ false → after (Call.step true) b ≡ pulsed_board b false false
  unfolding in_time errs
  first_pulse u = pulsed_is ∙ simp (u, (still b u h).err)

  -- an error and a late pulse on one microsecond: one ERR, and the bit stays set
  pub error_with_pulse : b.seen ≡ true → b.elapsed ≡ 1008000 → after (Call.step true) b ≡ pulsed_board b true true
  unfolding in_time errs
  error_with_pulse s e = pulsed_is ∙ simp (s, e, or-true)

  -- a late pulse after the error raises no second one, and leaves the bit set
  pub late_pulse : b.seen ≡ true → b.elapsed ≡ 1008001 → after (Call.step true) b ≡ pulsed_board b true b.err
  unfolding in_time errs
  late_pulse s e = pulsed_is ∙ simp (s, e, or-false)

-- BEFORE THE FIRST PULSE

-- no call but a pulse changes that none was seen
unseen_call : (k : Call) (b : Board) → lawful b ≡ true → b.seen ≡ false → not (pulse k) ≡ true → (after k b).seen ≡ false
unseen_call (Call.set_switches rc1 base) b h u q = go (eqb (given (switch_lines b rc1 base)) 0)
  where
    go : (t : Bool) → (pick t (started rc1 base) b).seen ≡ false
    go true = refl
    go false = u
unseen_call (Call.step true) b h u q = clash (sym q)
unseen_call (Call.step false) b h u q = ap (λ (d : Board). d.seen) (quiet_done b h ∙ later_unseen 1 b u) ∙ u
unseen_call (Call.run n) b h u q = ap (λ (d : Board). d.seen) (run_done b h n ∙ later_unseen n b u) ∙ u
unseen_call Call.read b h u q = u
unseen_call Call.take b h u q = let w = still b u h in ap (λ (d : Board). d.seen) (take_done b h ∙ (none_waits b w.err w.slo w.fast).1) ∙ u

unseen_all : (ks : List Call) (b : Board) → lawful b ≡ true → b.seen ≡ false → pulseless ks ≡ true → (after_all ks b).seen ≡ false
unseen_all [] b h u q = u
unseen_all (k ∷ ks) b h u q =
    let p = and_both (not (pulse k)) (pulseless ks) q in
    unseen_all ks (after k b) (keeps k b h) (unseen_call k b h u p.0) p.1

before_is : (d : Board) → lawful d ≡ true → d.seen ≡ false → Before d
unfolding shown
before_is d h u =
    let q = still d u h in
    record {
      shows = ap (given_or 0) (read_done d h) ∙ rw (q.bit, q.elapsed, count_none (frequency d.rc1) (frequency_above d.rc1)) refl;
      waits = ap (given_or None) (vector_done d h) ∙ (none_waits d q.err q.slo q.fast).0;
    }

module _ (ks : List Call) (q : pulseless ks ≡ true) where
  before_started : (rc1 base : ℕ) → switches_fit rc1 base ≡ true → Before (after_all ks (started rc1 base))
  before_started rc1 base f =
      let h = started_lawful rc1 base f in
      before_is (after_all ks (started rc1 base)) (keeps_all ks (started rc1 base) h) (unseen_all ks (started rc1 base) h refl q)

  -- from a fresh board
  pub before : Before (after_all ks fresh_board)
  unfolding switches_fit
  before = before_started 1 0 refl

  -- and from any lawful board whose switches are set
  pub before_anew : (b : Board) → lawful b ≡ true → (rc1 base : ℕ) → switches_fit rc1 base ≡ true → Before (after_all ks (after (Call.set_switches rc1 base) b))
  before_anew b h rc1 base f = rw (set_done b h rc1 base f) (before_started rc1 base f)

-- STARTED ANEW

-- a board whose switches are set forgets all that was before
pub forgets : (b d : Board) (rc1 base : ℕ) → lawful b ≡ true → lawful d ≡ true → switches_fit rc1 base ≡ true
    → after (Call.set_switches rc1 base) b ≡ after (Call.set_switches rc1 base) d
forgets b d rc1 base h k f = set_done b h rc1 base f ∙ sym (set_done d k rc1 base f)
