-- What n quiet steps leave of a lawful board, at once: by induction on the steps, each of which goes on from where the ones before it came to. Assumes nothing.
use Prim.Native.Nat.{ℕ, zero, suc, ◌+◌, ◌-◌, ◌≤◌, ◌<◌}
use mathlib.Core.Path.{◌≡◌, refl, sym, ap, ap₂, ◌∙◌}
use mathlib.Core.Bool.{Bool, true, false, ◌||◌, ◌&&◌, or-false}
use mathlib.Core.Logic.{⊎_elim}
use native.Mathlib.Omega.{arith}
use lib.Dec.{leb, ltb, eqb}
use borrow.Author.Tests.{le-leb, lt-leb, lt-ltb, le-ltb, eq-eqb, ne_eqb}
use Rattle.std.specs.Prelude.{min}
use Rattle.wire.specs.Digits.{pick}
use Rattle.wire.proofs.digits.Laws.{lt_or_le, or_assoc}
use Rattle.sync.specs.declared.board.Board.{Board}
use Rattle.sync.specs.Counting.{frequency, count, count_falls}
use Rattle.sync.specs.Lawful.{lawful}
use Rattle.sync.specs.Stepping.{held, errs, counts, stepped, quiet_steps}
use Rattle.sync.proofs.lawful.Laws.{elapsed_within}
use Rattle.sync.proofs.counting.Laws.{count_more, count_late, count_rises, frequency_above}

-- A RUN AT ONCE

-- a pulse is missing, from now on
abbrev pub missed : Board → ℕ → Bool
missed b n = ltb b.elapsed 1008001 && leb 1008001 (b.elapsed + n)

-- the count rises
abbrev pub counted : Board → ℕ → Bool
counted b n = ltb (count (frequency b.rc1) b.elapsed) (count (frequency b.rc1) (b.elapsed + n))

abbrev pub passed : ℕ → Board → Board
passed n b =
    record {
      rc1 = b.rc1;
      base = b.base;
      seen = b.seen;
      elapsed = held (b.elapsed + n);
      bit = b.bit || missed b n;
      err = b.err || missed b n;
      slo = b.slo;
      fast = b.fast || counted b n;
    }

-- before the first pulse nothing passes
unfoldable pub later : ℕ → Board → Board
later n b = pick b.seen (passed n b) b

-- STEPS IN BETWEEN

-- a rise over two spans is one over the first or over the second
rises_twice : (a b c : ℕ) → a ≤ b → b ≤ c → (ltb a b || ltb b c) ≡ ltb a c
rises_twice a b c h k =
    ⊎_elim
    (λ l. rw (lt-ltb a b l) (sym (lt-ltb a c (omega arith))))
    (λ g. rw (le-ltb a b g) (ap (λ (x : ℕ). ltb x c) (omega arith)))
    (lt_or_le a b)

-- HELD

pub held_below : (m : ℕ) → m < 1008001 → held m ≡ m
unfolding held
held_below m h = simp (lt-ltb m 1008001 h)

pub held_above : (m : ℕ) → 1008001 ≤ m → held m ≡ 1008001
unfolding held
held_above m h = simp (le-ltb m 1008001 h)

-- so many microseconds, or as many as are left until then
pub held_sum : (m n : ℕ) → m ≤ 1008001 → m + min n (1008001 - m) ≡ held (m + n)
held_sum m n h = ⊎_elim (λ l. omega (arith, held_below (m + n) l)) (λ g. omega (arith, held_above (m + n) g)) (lt_or_le (m + n) 1008001)

pub held_within : (m : ℕ) → m ≤ 1008001 → held m ≡ m
held_within m h = ⊎_elim (held_below m) (λ g. held_above m g ∙ omega arith) (lt_or_le m 1008001)

pub held_most : (m : ℕ) → held m ≤ 1008001
held_most m = ⊎_elim (λ l. let e = held_below m l in omega arith) (λ g. let e = held_above m g in omega arith) (lt_or_le m 1008001)

pub held_least : (m n : ℕ) → m ≤ 1008001 → m ≤ held (m + n)
held_least m n h = ⊎_elim (λ l. let e = held_below (m + n) l in omega arith) (λ g. let e = held_above (m + n) g in omega arith) (lt_or_le (m + n) 1008001)

-- at its end exactly if it is held there
pub held_late : (m : ℕ) → eqb (held m) 1008001 ≡ leb 1008001 m
held_late m =
    ⊎_elim
    (λ l. rw (held_below m l, ne_eqb m 1008001 (λ q. omega arith)) (sym (lt-leb 1008001 m l)))
    (λ g. rw (held_above m g, eq-eqb 1008001 1008001 refl) (sym (le-leb 1008001 m g)))
    (lt_or_le m 1008001)

-- what goes above 1,008,001 as it goes there does not tell them from held ones
pub as_held : {A : Type 0} (g : ℕ → A) (m : ℕ) → (1008001 ≤ m → g 1008001 ≡ g m) → g (held m) ≡ g m
as_held g m f = ⊎_elim (λ l. ap g (held_below m l)) (λ h. ap g (held_above m h) ∙ f h) (lt_or_le m 1008001)

-- so many more microseconds
pub held_plus : (j n : ℕ) → held (held j + n) ≡ held (j + n)
held_plus j n = as_held (λ (x : ℕ). held (x + n)) j (λ g. held_above (1008001 + n) (omega arith) ∙ sym (held_above (j + n) (omega arith)))

-- a pulse is missed once
missed_next : (e m : ℕ) → e ≤ m → ((ltb e 1008001 && leb 1008001 m) || eqb (held m + 1) 1008001) ≡ (ltb e 1008001 && leb 1008001 (m + 1))
missed_next e m h =
    ⊎_elim
    (λ l. rw (lt-ltb e 1008001 (omega arith), lt-leb 1008001 m l, held_below m l) (⊎_elim
    (λ k. rw (ne_eqb (m + 1) 1008001 (λ q. omega arith)) (sym (lt-leb 1008001 (m + 1) k)))
    (λ g. rw (eq-eqb (m + 1) 1008001 (omega arith)) (sym (le-leb 1008001 (m + 1) g)))
    (lt_or_le (m + 1) 1008001)))
    (λ g. rw (le-leb 1008001 m g, le-leb 1008001 (m + 1) (omega arith), held_above m g, ne_eqb 1008002 1008001 (λ q. omega arith)) (or-false _))
    (lt_or_le m 1008001)

not_yet : (e : ℕ) → (ltb e 1008001 && leb 1008001 e) ≡ false
not_yet e = ⊎_elim (λ l. simp (lt-ltb e 1008001 l, lt-leb 1008001 e l)) (λ g. simp (le-ltb e 1008001 g)) (lt_or_le e 1008001)

-- no count falls after a second
pub falls_late : (f m : ℕ) → 0 < f → 1000000 ≤ m → count_falls f (m + 1) ≡ false
falls_late f m p h =
    count_rises f m
    ∙ ap₂ ltb (count_late f p m h) (count_late f p (m + 1) (omega arith))
    ∙ le-ltb (f - 1) (f - 1) (omega arith)

pub falls_held : (f m : ℕ) → 0 < f → count_falls f (held m + 1) ≡ count_falls f (m + 1)
falls_held f m p = as_held (λ (x : ℕ). count_falls f (x + 1)) m (λ g. falls_late f 1008001 p (omega arith) ∙ sym (falls_late f m p (omega arith)))

-- the count rises by what falls
counted_next : (f e n : ℕ) → 0 < f → (ltb (count f e) (count f (e + n)) || count_falls f (held (e + n) + 1)) ≡ ltb (count f e) (count f (e + n + 1))
counted_next f e n p =
    ap (λ (t : Bool). ltb (count f e) (count f (e + n)) || t) (falls_held f (e + n) p ∙ count_rises f (e + n))
    ∙ rises_twice (count f e) (count f (e + n)) (count f (e + n + 1)) (count_more f e n) (count_more f (e + n) 1)

pub count_of_held : (f m : ℕ) → 0 < f → count f (held m) ≡ count f m
count_of_held f m p = as_held (count f) m (λ g. count_late f p 1008001 (omega arith) ∙ sym (count_late f p m (omega arith)))

-- STEPS

waits : (b : Board) → b.seen ≡ false → stepped b false ≡ b
unfolding stepped errs counts
waits b u = simp (u, or-false) (ap (λ (t : Bool). record { rc1 = b.rc1; base = b.base; seen = t; elapsed = b.elapsed; bit = b.bit; err = b.err; slo = b.slo; fast = b.fast }) (sym u))

module _ (b : Board) (s : b.seen ≡ true) (w : b.elapsed ≤ 1008001) where
  none : passed 0 b ≡ b
  none =
      let z : b.elapsed + 0 ≡ b.elapsed = omega arith in
      let c = count (frequency b.rc1) b.elapsed in
      simp (z, held_within b.elapsed w, not_yet b.elapsed, le-ltb c c (omega arith), or-false)

  next : (n : ℕ) → stepped (passed n b) false ≡ passed (suc n) b
  unfolding stepped errs counts
  next n =
      let e : b.elapsed + suc n ≡ b.elapsed + n + 1 = omega arith in
      rw e
      (simp (s, or-false, or_assoc, held_plus (b.elapsed + n) 1, missed_next b.elapsed (b.elapsed + n) (omega arith), counted_next (frequency b.rc1) b.elapsed n (frequency_above b.rc1)))

  all_passed : (n : ℕ) → quiet_steps n b ≡ passed n b
  unfolding quiet_steps
  all_passed zero = sym none
  all_passed (suc n) = ap (λ (d : Board). stepped d false) (all_passed n) ∙ next n

-- before the first pulse nothing passes
none_passed : (b : Board) → b.seen ≡ false → (n : ℕ) → quiet_steps n b ≡ b
unfolding quiet_steps
none_passed b u zero = refl
none_passed b u (suc n) = ap (λ (d : Board). stepped d false) (none_passed b u n) ∙ waits b u

-- one quiet step is a run of one
pub quiet_one : (b : Board) → stepped b false ≡ quiet_steps 1 b
unfolding quiet_steps
quiet_one b = refl

pub quiet_later : (n : ℕ) (b : Board) → lawful b ≡ true → quiet_steps n b ≡ later n b
unfolding later
quiet_later n b h = go b.seen refl
  where
    go : (t : Bool) → b.seen ≡ t → quiet_steps n b ≡ pick b.seen (passed n b) b
    go true e = all_passed b e (elapsed_within b h) n ∙ simp e
    go false e = none_passed b e n ∙ simp e

pub later_seen : (n : ℕ) (b : Board) → b.seen ≡ true → later n b ≡ passed n b
unfolding later
later_seen n b s = simp s

pub later_unseen : (n : ℕ) (b : Board) → b.seen ≡ false → later n b ≡ b
unfolding later
later_unseen n b u = simp u

-- and in what the code computes: by whether 1,008,001 is reached, and by the count there
pub quiet_is : (n : ℕ) (b : Board) → lawful b ≡ true → b.seen ≡ true
    → record {
      rc1 = b.rc1;
      base = b.base;
      seen = b.seen;
      elapsed = held (b.elapsed + n);
      bit = b.bit || (ltb b.elapsed 1008001 && eqb (held (b.elapsed + n)) 1008001);
      err = b.err || (ltb b.elapsed 1008001 && eqb (held (b.elapsed + n)) 1008001);
      slo = b.slo;
      fast = b.fast || ltb (count (frequency b.rc1) b.elapsed) (count (frequency b.rc1) (held (b.elapsed + n)));
    } ≡ quiet_steps n b
quiet_is n b h s = rw (quiet_later n b h, later_seen n b s, held_late (b.elapsed + n), count_of_held (frequency b.rc1) (b.elapsed + n) (frequency_above b.rc1)) refl

pub quiet_unseen : (n : ℕ) (b : Board) → lawful b ≡ true → b.seen ≡ false → quiet_steps n b ≡ b
quiet_unseen n b h u = quiet_later n b h ∙ later_unseen n b u
