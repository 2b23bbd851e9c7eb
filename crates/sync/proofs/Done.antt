-- What a lawful board is after each call. Assumes nothing.
use Prim.Native.Nat.{ℕ}
use mathlib.Core.Path.{◌≡◌, ◌∙◌}
use mathlib.Core.Bool.{Bool, true, false}
use Rattle.std.specs.Prelude.{Ok}
use Rattle.sync.specs.declared.board.Board.{Board}
use Rattle.sync.specs.Boards.{switches_fit, started}
use Rattle.sync.specs.Lawful.{lawful}
use Rattle.sync.specs.Stepping.{stepped}
use Rattle.sync.specs.Interrupts.{next, next_taken, take_interrupt}
use Rattle.sync.specs.Register.{shown, read_register}
use Rattle.sync.specs.Calls.{Call, after}
use Rattle.sync.proofs.stepping.Laws.{later, quiet_one, quiet_later}

module _ (b : Board) (h : lawful b ≡ true) where
  pub set_done : (rc1 base : ℕ) → switches_fit rc1 base ≡ true → after (Call.set_switches rc1 base) b ≡ started rc1 base
  set_done rc1 base f = simp (h, f)

  pub set_refused : (rc1 base : ℕ) → switches_fit rc1 base ≡ false → after (Call.set_switches rc1 base) b ≡ b
  set_refused rc1 base f = simp (h, f)

  pub step_done : (pulse : Bool) → after (Call.step pulse) b ≡ stepped b pulse
  step_done pulse = simp h

  pub run_done : (n : ℕ) → after (Call.run n) b ≡ later n b
  run_done n = simp h (quiet_later n b h)

  -- a quiet step is a run of one
  pub quiet_done : after (Call.step false) b ≡ later 1 b
  quiet_done = step_done false ∙ quiet_one b ∙ quiet_later 1 b h

  pub read_done : read_register b ≡ Ok (shown b)
  read_done = simp h

  pub take_done : after Call.take b ≡ next_taken b
  take_done = simp h

  pub vector_done : (take_interrupt b).outcome ≡ Ok (next b)
  vector_done = simp h
