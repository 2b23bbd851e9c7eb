-- Which interrupt is taken: ERR first, then SLO, then FAST, and none if none waits. Assumes nothing.
use Prim.Native.Nat.{◌+◌}
use mathlib.Core.Path.{◌≡◌}
use mathlib.Core.Bool.{true, false}
use Rattle.std.specs.Prelude.{Some, None}
use Rattle.sync.specs.declared.board.Board.{Board}
use Rattle.sync.specs.Interrupts.{err_taken, slo_taken, fast_taken, next, next_taken}

module _ (b : Board) where
  pub err_first : b.err ≡ true → (next b ≡ Some (b.base + 2)) × (next_taken b ≡ err_taken b)
  unfolding next next_taken
  err_first e = (simp e, simp e)

  pub slo_next : b.err ≡ false → b.slo ≡ true → (next b ≡ Some (b.base + 1)) × (next_taken b ≡ slo_taken b)
  unfolding next next_taken
  slo_next e s = (simp (e, s), simp (e, s))

  pub fast_last : b.err ≡ false → b.slo ≡ false → b.fast ≡ true → (next b ≡ Some b.base) × (next_taken b ≡ fast_taken b)
  unfolding next next_taken
  fast_last e s f = (simp (e, s, f), simp (e, s, f))

  pub none_waits : b.err ≡ false → b.slo ≡ false → b.fast ≡ false → (next b ≡ None) × (next_taken b ≡ b)
  unfolding next next_taken
  none_waits e s f = (simp (e, s, f), simp (e, s, f))
