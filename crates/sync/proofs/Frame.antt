-- No call touches a field that `specs/Calls` does not name for it. Assumes nothing.
use Prim.Native.Nat.{ℕ, zero, suc}
use mathlib.Core.Path.{◌≡◌, refl, ap, ◌∙◌}
use mathlib.Core.Bool.{Bool, true, false, or-false}
use lib.Dec.{eqb}
use Rattle.wire.specs.Digits.{pick}
use Rattle.wire.specs.Numbers.{given}
use Rattle.wire.proofs.digits.Laws.{clash}
use Rattle.sync.specs.declared.board.Board.{Board}
use Rattle.sync.specs.Interrupts.{err_taken, slo_taken, fast_taken, next_taken, take_lines}
use Rattle.sync.specs.Stepping.{stepped, quiet_steps, step_lines}
use Rattle.sync.specs.Calls.{Call, after, Field, at, among, touches}

-- a field that stays, whichever is picked
either : (f : Field) (b : Board) (t : Bool) (d e : Board) → at f d ≡ at f b → at f e ≡ at f b → at f (pick t d e) ≡ at f b
either f b true d e x y = x
either f b false d e x y = y

pulse_frame : (b : Board) (f : Field) → among (touches (Call.step true)) f ≡ false → at f (stepped b true) ≡ at f b
unfolding stepped
pulse_frame b Field.rc1 h = refl
pulse_frame b Field.base h = refl
pulse_frame b Field.seen h = clash h
pulse_frame b Field.elapsed h = clash h
pulse_frame b Field.bit h = clash h
pulse_frame b Field.err h = clash h
pulse_frame b Field.slo h = clash h
pulse_frame b Field.fast h = clash h

quiet_frame : (b : Board) (f : Field) → among (touches (Call.step false)) f ≡ false → at f (stepped b false) ≡ at f b
unfolding stepped
quiet_frame b Field.rc1 h = refl
quiet_frame b Field.base h = refl
quiet_frame b Field.seen h = ap (λ (t : Bool). pick t 1 0) (or-false b.seen)
quiet_frame b Field.elapsed h = clash h
quiet_frame b Field.bit h = clash h
quiet_frame b Field.err h = clash h
quiet_frame b Field.slo h = ap (λ (t : Bool). pick t 1 0) (or-false b.slo)
quiet_frame b Field.fast h = clash h

run_frame : (n : ℕ) (b : Board) (f : Field) → among (touches (Call.run n)) f ≡ false → at f (quiet_steps n b) ≡ at f b
unfolding quiet_steps
run_frame zero b f h = refl
run_frame (suc n) b f h = quiet_frame (quiet_steps n b) f h ∙ run_frame n b f h

take_frame : (b : Board) (f : Field) → among (touches Call.take) f ≡ false → at f (next_taken b) ≡ at f b
unfolding next_taken
take_frame b f h =
    let s = stays f h in
    either f b b.err (err_taken b) _ s.0 (either f b b.slo (slo_taken b) _ s.1.0 (either f b b.fast (fast_taken b) b s.1.1 refl))
  where
    stays : (f : Field) → among (touches Call.take) f ≡ false → (at f (err_taken b) ≡ at f b) × ((at f (slo_taken b) ≡ at f b) × (at f (fast_taken b) ≡ at f b))
    stays Field.rc1 h = (refl, (refl, refl))
    stays Field.base h = (refl, (refl, refl))
    stays Field.seen h = (refl, (refl, refl))
    stays Field.elapsed h = (refl, (refl, refl))
    stays Field.bit h = (refl, (refl, refl))
    stays Field.err h = clash h
    stays Field.slo h = clash h
    stays Field.fast h = clash h

-- every field may change when the switches are set
all_touched : {A : Type 0} (rc1 base : ℕ) (f : Field) → among (touches (Call.set_switches rc1 base)) f ≡ false → A
all_touched r v Field.rc1 h = clash h
all_touched r v Field.base h = clash h
all_touched r v Field.seen h = clash h
all_touched r v Field.elapsed h = clash h
all_touched r v Field.bit h = clash h
all_touched r v Field.err h = clash h
all_touched r v Field.slo h = clash h
all_touched r v Field.fast h = clash h

pub frame : (k : Call) (b : Board) (f : Field) → among (touches k) f ≡ false → at f (after k b) ≡ at f b
frame (Call.set_switches r v) b f h = all_touched r v f h
frame (Call.step true) b f h = either f b (eqb (given (step_lines b)) 0) (stepped b true) b (pulse_frame b f h) refl
frame (Call.step false) b f h = either f b (eqb (given (step_lines b)) 0) (stepped b false) b (quiet_frame b f h) refl
frame (Call.run n) b f h = either f b (eqb (given (step_lines b)) 0) (quiet_steps n b) b (run_frame n b f h) refl
frame Call.read b f h = refl
frame Call.take b f h = either f b (eqb (given (take_lines b)) 0) (next_taken b) b (take_frame b f h) refl
