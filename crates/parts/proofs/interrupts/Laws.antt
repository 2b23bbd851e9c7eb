-- The interrupt registers: which test decides. Assumes nothing.
use Prim.Native.Nat.{ℕ, ◌%◌, ◌<◌}
use mathlib.Core.Path.{◌≡◌, refl}
use mathlib.Core.Bool.{true, false}
use lib.Dec.{ltb}
use borrow.Author.Tests.{lt-ltb, ltb-true}
use Rattle.wire.proofs.digits.Laws.{and_both}
use Rattle.parts.specs.declared.interrupts.Interrupts.{Interrupts}
use Rattle.parts.specs.Interrupts.{with_mask, with_pending, with_level, with_vector, interrupts_lawful, interrupts_written, sources_raised}
use Rattle.parts.specs.Pending.{raised, cleared}

-- each of the four, written
pub writes_mask : (i : Interrupts) (v : ℕ) → interrupts_written i 14 v ≡ with_mask i (v % 32)
unfolding interrupts_written
writes_mask i v = refl

pub writes_level : (i : Interrupts) (v : ℕ) → interrupts_written i 16 v ≡ with_level i (v % 8)
unfolding interrupts_written
writes_level i v = refl

pub writes_vector : (i : Interrupts) (v : ℕ) → interrupts_written i 17 v ≡ with_vector i (v % 256)
unfolding interrupts_written
writes_vector i v = refl

pub writes_intstat : (i : Interrupts) (v : ℕ) → interrupts_written i 15 v ≡ with_pending i (cleared v i.pending)
unfolding interrupts_written
writes_intstat i v = refl

-- no source raises nothing
pub none_raised : (i : Interrupts) → with_pending i (sources_raised false false false i.pending) ≡ i
unfolding sources_raised raised
none_raised i = refl

-- the ranges, and a part within them
pub record Ranges (i : Interrupts) : Type 0 where
  pub mask : i.mask < 32
  pub pending : i.pending < 32
  pub level : i.level < 8

pub ranges : (i : Interrupts) → interrupts_lawful i ≡ true → Ranges i
unfolding interrupts_lawful
ranges i h =
    let a = and_both (ltb i.mask 32) _ h in
    let b = and_both (ltb i.pending 32) (ltb i.level 8) a.1 in
    record { mask = ltb-true _ _ a.0; pending = ltb-true _ _ b.0; level = ltb-true _ _ b.1 }

pub within : (i : Interrupts) → Ranges i → interrupts_lawful i ≡ true
unfolding interrupts_lawful
within i r = simp (lt-ltb _ _ r.mask, lt-ltb _ _ r.pending, lt-ltb _ _ r.level)
