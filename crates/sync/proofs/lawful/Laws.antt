-- Of a lawful board. Assumes nothing.
use Prim.Native.Nat.{ℕ, ◌+◌, ◌%◌, ◌≤◌, ◌<◌}
use mathlib.Core.Path.{◌≡◌, refl}
use mathlib.Core.Bool.{Bool, true, false, ◌||◌, ◌&&◌, not}
use native.Mathlib.Omega.{arith}
use lib.Dec.{leb, ltb, eqb}
use borrow.Author.Tests.{not-true, leb-true, ltb-true, eqb-true, lt-ltb, le-ltb, eq-eqb}
use Rattle.wire.proofs.digits.Laws.{and_left, and_right, and_both, or_left, or_right}
use Rattle.sync.specs.declared.board.Board.{Board}
use Rattle.sync.specs.Boards.{switches_fit}
use Rattle.sync.specs.Lawful.{unseen_lawful, seen_lawful, lawful}

-- its switches
pub switches_fit_lem : (b : Board) → lawful b ≡ true → switches_fit b.rc1 b.base ≡ true
unfolding lawful
switches_fit_lem b h = and_left _ _ h

-- before its first pulse, and after it
pub unseen_fits_lem : (b : Board) → b.seen ≡ false → lawful b ≡ true → unseen_lawful b ≡ true
unfolding lawful
unseen_fits_lem b u h = and_right (switches_fit b.rc1 b.base) (unseen_lawful b) (simp u at h)

pub seen_fits_lem : (b : Board) → b.seen ≡ true → lawful b ≡ true → seen_lawful b ≡ true
unfolding lawful
seen_fits_lem b s h = and_right (switches_fit b.rc1 b.base) (seen_lawful b) (simp s at h)

-- before the first pulse nothing waits
pub record Still (b : Board) : Type 0 where
  pub elapsed : b.elapsed ≡ 0
  pub bit : b.bit ≡ true
  pub err : b.err ≡ false
  pub slo : b.slo ≡ false
  pub fast : b.fast ≡ false

pub still : (b : Board) → b.seen ≡ false → lawful b ≡ true → Still b
unfolding unseen_lawful
still b u h =
    let p = and_both (eqb b.elapsed 0) (b.bit && not (b.err || (b.slo || b.fast))) (unseen_fits_lem b u h) in
    let q = and_both b.bit (not (b.err || (b.slo || b.fast))) p.1 in
    let n = not-true (b.err || (b.slo || b.fast)) q.1 in
    let w = or_right b.err (b.slo || b.fast) n in
    record { elapsed = eqb-true b.elapsed 0 p.0; bit = q.0; err = or_left b.err (b.slo || b.fast) n; slo = or_left b.slo b.fast w; fast = or_right b.slo b.fast w }

-- what waits with what
pub slo_with_fast : (b : Board) → seen_lawful b ≡ true → (not b.slo || b.fast) ≡ true
unfolding seen_lawful
slo_with_fast b h = and_left (not b.slo || b.fast) _ h

pub err_with_slo : (b : Board) → seen_lawful b ≡ true → ltb b.elapsed 1008001 ≡ true → (not b.err || b.slo) ≡ true
unfolding seen_lawful
err_with_slo b h l = and_right (not b.slo || b.fast) (not b.err || b.slo) (simp l at h)

-- the microseconds are held at 1,008,001, and the bit is set there
pub record Late (b : Board) : Type 0 where
  pub at : b.elapsed ≡ 1008001
  pub bit : b.bit ≡ true

pub seen_late : (b : Board) → seen_lawful b ≡ true → ltb b.elapsed 1008001 ≡ false → Late b
unfolding seen_lawful
seen_late b h l =
    let q = and_both (eqb b.elapsed 1008001) b.bit (and_right (not b.slo || b.fast) _ (simp l at h)) in
    record { at = eqb-true b.elapsed 1008001 q.0; bit = q.1 }

seen_within : (b : Board) → seen_lawful b ≡ true → b.elapsed ≤ 1008001
seen_within b h = go (ltb b.elapsed 1008001) refl
  where
    go : (t : Bool) → ltb b.elapsed 1008001 ≡ t → b.elapsed ≤ 1008001
    go true l = let k : b.elapsed < 1008001 = ltb-true b.elapsed 1008001 l in omega arith
    go false l = omega (arith, (seen_late b h l).at)

pub elapsed_within : (b : Board) → lawful b ≡ true → b.elapsed ≤ 1008001
elapsed_within b h = go b.seen refl
  where
    go : (t : Bool) → b.seen ≡ t → b.elapsed ≤ 1008001
    go true s = seen_within b (seen_fits_lem b s h)
    go false u = omega (arith, (still b u h).elapsed)

-- and what is enough for one

pub within_lawful : (b : Board) → (not b.slo || b.fast) ≡ true → b.elapsed < 1008001 → (not b.err || b.slo) ≡ true → seen_lawful b ≡ true
unfolding seen_lawful
within_lawful b f l s = simp (f, lt-ltb b.elapsed 1008001 l, s)

pub late_lawful : (b : Board) → (not b.slo || b.fast) ≡ true → b.elapsed ≡ 1008001 → b.bit ≡ true → seen_lawful b ≡ true
unfolding seen_lawful
late_lawful b f l t = simp (f, le-ltb b.elapsed 1008001 (omega arith), eq-eqb b.elapsed 1008001 l, t)

pub seen_lawful_lem : (b : Board) → switches_fit b.rc1 b.base ≡ true → b.seen ≡ true → seen_lawful b ≡ true → lawful b ≡ true
unfolding lawful
seen_lawful_lem b f s h = simp (f, s, h)

-- switches that fit are bytes, and the vectors over a base are
pub rc1_most : (rc1 base : ℕ) → switches_fit rc1 base ≡ true → rc1 ≤ 3
unfolding switches_fit
rc1_most rc1 base h = leb-true rc1 3 (and_left (leb rc1 3) _ h)

pub base_most : (rc1 base : ℕ) → switches_fit rc1 base ≡ true → base + 15 ≤ 255
unfolding switches_fit
base_most rc1 base h =
    let q = and_both (leb base 255) (eqb (base % 16) 0) (and_right (leb rc1 3) _ h) in
    let l : base ≤ 255 = leb-true base 255 q.0 in
    let m : base % 16 ≡ 0 = eqb-true (base % 16) 0 q.1 in
    omega arith

pub vectors_fit : (b : Board) → lawful b ≡ true → b.base + 15 ≤ 255
vectors_fit b h = base_most b.rc1 b.base (switches_fit_lem b h)
