-- What a wait lists, from its definition alone: each tick of the window on which anything falls, once, rising; as many as the row has
-- places; and the rest when the wait is continued. Assumes nothing.
use Prim.Native.Nat.{ℕ, zero, suc, pred, ◌+◌, ◌-◌, ◌*◌, ◌/◌, ◌≤◌, ◌<◌}
use mathlib.Core.Path.{◌≡◌, refl, sym, ◌∙◌, ap}
use mathlib.Core.List.{List, [], ◌∷◌, ◌++◌, append_assoc, append-nil}
use mathlib.Core.Logic.{⊎_elim}
use native.Mathlib.Omega.{arith}
use borrow.Author.Tests.{le-leb, lt-leb}
use lib.ListN.{length, get_or, take, length-append, length-take, get_or-append}
use lib.Seq.{take-append-le, take_all, get_or_at, get_or-take, length-take-le}
use Rattle.wire.proofs.digits.Laws.{lt_or_le}
use Rattle.clock.specs.declared.clock.Clock.{Clock}
use Rattle.clock.specs.Falling.{falls}
use Rattle.clock.specs.Waiting.{record_of, records, listed, passed, Stands}
use Rattle.clock.proofs.waiting.Window.{behind, split, same_records, record_one, falls_below}

-- ---- exactness

-- the record at place i is that of a tick of the window on which something falls, and the records up to it are those of the ticks up to it
pub record At (c : Clock) (n i : ℕ) : Type 0 where
  pub tick : ℕ
  pub above : 1 ≤ tick
  pub within : tick ≤ n
  pub falling : 0 < falls c tick
  pub written : get_or (records c n) i 0 ≡ 8 * tick + falls c tick
  pub front : take (suc i) (records c n) ≡ records c tick

at_last : (c : Clock) (n i s : ℕ) → falls c (suc n) ≡ s → length (records c n) ≤ i → i < length (records c (suc n)) → At c (suc n) i
unfolding records record_of
at_last c n i zero e g h = absurd (omega (arith, ap length (ap (λ (s : ℕ). records c n ++ record_of (suc n) s) e ∙ append-nil (records c n))))
at_last c n i (suc s) e g h =
    let r : records c (suc n) ≡ records c n ++ ((8 * suc n + suc s) ∷ []) = ap (λ (x : ℕ). records c n ++ record_of (suc n) x) e in
    let len : length (records c (suc n)) ≡ length (records c n) + 1 = ap length r ∙ length-append (records c n) ((8 * suc n + suc s) ∷ []) in
    record {
      tick = suc n;
      above = omega arith;
      within = omega arith;
      falling = omega arith;
      written = ap (λ (rs : List ℕ). get_or rs i 0) r ∙ get_or_at (records c n) (8 * suc n + suc s) [] 0 i (omega arith) ∙ ap (λ (x : ℕ). 8 * suc n + x) (sym e);
      front = take_all (suc i) (records c (suc n)) (omega arith);
    }

pub every_record : (c : Clock) (n i : ℕ) → i < length (records c n) → At c n i
unfolding records
every_record c zero i h = absurd (omega arith)
every_record c (suc n) i h = ⊎_elim (λ l. before l (every_record c n i l)) (λ g. at_last c n i (falls c (suc n)) refl g h) (lt_or_le i (length (records c n)))
  where
    last : List ℕ
    last = record_of (suc n) (falls c (suc n))

    before : i < length (records c n) → At c n i → At c (suc n) i
    before l u = record {
      tick = u.tick;
      above = u.above;
      within = omega (arith, u.within);
      falling = u.falling;
      written = get_or-append (records c n) last 0 i l ∙ u.written;
      front = take-append-le (suc i) (records c n) last l ∙ u.front;
    }

-- each tick of the window on which something falls has its record
pub every_fall : (c : Clock) (n k : ℕ) → 1 ≤ k → k ≤ n → 0 < falls c k → Stands (8 * k + falls c k) (records c n)
unfolding records
every_fall c n zero l h z = absurd (omega arith)
every_fall c n (suc j) l h z =
    let v : ℕ = 8 * suc j + falls c (suc j) in
    let rest : List ℕ = v ∷ behind c (suc j) (n - suc j) in
    let e : records c n ≡ records c j ++ rest =
    same_records c n (suc j + (n - suc j)) (omega arith) ∙ split c (suc j) (n - suc j)
    ∙ ap (λ (rs : List ℕ). (records c j ++ rs) ++ behind c (suc j) (n - suc j)) (record_one (suc j) (falls c (suc j)) z)
    ∙ append_assoc (records c j) (v ∷ []) (behind c (suc j) (n - suc j)) in
    record {
      place = length (records c j);
      within = omega (arith, ap length e ∙ length-append (records c j) rest);
      found = ap (λ (rs : List ℕ). get_or rs (length (records c j)) 0) e ∙ get_or_at (records c j) v (behind c (suc j) (n - suc j)) 0 (length (records c j)) refl;
    }

-- and a record that stands in the list is that of a tick of the window on which something falls: it has the sources that fall there
pub exact : (c : Clock) (n r : ℕ) → Stands r (records c n) → (1 ≤ r / 8) × (r / 8 ≤ n) × (0 < falls c (r / 8)) × (r ≡ 8 * (r / 8) + falls c (r / 8))
exact c n r h =
    let a : At c n h.place = every_record c n h.place h.within in
    let e : r ≡ 8 * a.tick + falls c a.tick = sym h.found ∙ a.written in
    let k : r / 8 ≡ a.tick = omega (arith, falls_below c a.tick) in
    rw k (a.above, a.within, a.falling, e)

-- ---- rising

longer : (c : Clock) (a b : ℕ) → a ≤ b → length (records c a) ≤ length (records c b)
longer c a b h =
    let e : records c b ≡ records c a ++ behind c a (b - a) = same_records c b (a + (b - a)) (omega arith) ∙ split c a (b - a) in
    omega (arith, ap length e ∙ length-append (records c a) (behind c a (b - a)))

front_length : (c : Clock) (n i : ℕ) (h : i < length (records c n)) → length (records c (every_record c n i h).tick) ≡ suc i
front_length c n i h = ap length (sym (every_record c n i h).front) ∙ length-take-le (suc i) (records c n) h

tick_at_lem : (c : Clock) (n i : ℕ) (h : i < length (records c n)) → get_or (records c n) i 0 / 8 ≡ (every_record c n i h).tick
tick_at_lem c n i h = ap (λ (r : ℕ). r / 8) (every_record c n i h).written ∙ omega (arith, falls_below c (every_record c n i h).tick)

pub rising : (c : Clock) (n i j : ℕ) → i < j → j < length (records c n) → get_or (records c n) i 0 / 8 < get_or (records c n) j 0 / 8
rising c n i j l h =
    let k : i < length (records c n) = omega arith in
    ⊎_elim
    (λ m. rw (tick_at_lem c n i k, tick_at_lem c n j h) m)
    (λ m. absurd (omega (arith, longer c (every_record c n j h).tick (every_record c n i k).tick m, front_length c n i k, front_length c n j h)))
    (lt_or_le (every_record c n i k).tick (every_record c n j h).tick)

-- so no tick has two records
pub once : (c : Clock) (n i j : ℕ) → i < length (records c n) → j < length (records c n) → get_or (records c n) i 0 / 8 ≡ get_or (records c n) j 0 / 8 → i ≡ j
once c n i j h k e =
    ⊎_elim
    (λ l. absurd (omega (arith, rising c n i j l k)))
    (λ l. ⊎_elim (λ m. absurd (omega (arith, rising c n j i m h))) (λ m. omega arith) (lt_or_le j i))
    (lt_or_le i j)

-- ---- as many as there are places

pub passed_all : (c : Clock) (n room : ℕ) → length (records c n) ≤ room → passed c n room ≡ n
unfolding passed
passed_all c n room l = simp (le-leb (length (records c n)) room l)

module _ (c : Clock) (n room : ℕ) (z : 0 < room) (l : room < length (records c n)) where
  -- the last record listed
  abbrev last : At c n (pred room)
  last = every_record c n (pred room) (omega arith)

  passed_full : passed c n room ≡ last.tick
  unfolding passed
  passed_full = simp (lt-leb (length (records c n)) room l) (tick_at_lem c n (pred room) (omega arith))

  listed_full : listed c n room ≡ records c last.tick
  unfolding listed
  listed_full = let e : room ≡ suc (pred room) = omega arith in ap (λ (k : ℕ). take k (records c n)) e ∙ last.front

-- what a wait lists is the records of the ticks that it passes
pub listed_passed : (c : Clock) (n room : ℕ) → 0 < room → listed c n room ≡ records c (passed c n room)
unfolding listed
listed_passed c n room z =
    ⊎_elim
    (λ l. listed_full c n room z l ∙ ap (records c) (sym (passed_full c n room z l)))
    (λ g. take_all room (records c n) g ∙ ap (records c) (sym (passed_all c n room g)))
    (lt_or_le room (length (records c n)))

-- it passes at most the window, and at least one tick of it
pub passes : (c : Clock) (n room : ℕ) → 0 < room → (passed c n room ≤ n) × (0 < n → 1 ≤ passed c n room)
passes c n room z =
    ⊎_elim
    (λ l. rw (passed_full c n room z l) ((last c n room z l).within, λ m. (last c n room z l).above))
    (λ g. rw (passed_all c n room g) (omega arith, λ m. m))
    (lt_or_le room (length (records c n)))

-- it passes less than the window only if there are more records than places: then something falls behind the ticks passed, the row is full, and the last record
-- is of the last tick passed
pub record Stops (c : Clock) (n room : ℕ) : Type 0 where
  pub next : ℕ
  pub behind : passed c n room < next
  pub within : next ≤ n
  pub falling : 0 < falls c next
  pub full : length (listed c n room) ≡ room
  pub last : get_or (listed c n room) (pred room) 0 / 8 ≡ passed c n room

pub stops : (c : Clock) (n room : ℕ) → 0 < room → passed c n room < n → Stops c n room
unfolding listed
stops c n room z h = ⊎_elim full (λ g. absurd (omega (arith, passed_all c n room g))) (lt_or_le room (length (records c n)))
  where
    -- the first record without a place
    one_more : room < length (records c n) → At c n room
    one_more l = every_record c n room l

    passed_length : room < length (records c n) → length (records c (passed c n room)) ≡ room
    passed_length l = ap length (sym (listed_passed c n room z)) ∙ length-take room (records c n) ∙ omega arith

    full : room < length (records c n) → Stops c n room
    full l = record {
      next = (one_more l).tick;
      behind = ⊎_elim (λ b. b) (λ b. absurd (omega (arith, longer c (one_more l).tick (passed c n room) b, front_length c n room l, passed_length l))) (lt_or_le (passed c n room) (one_more l).tick);
      within = (one_more l).within;
      falling = (one_more l).falling;
      full = length-take room (records c n) ∙ omega arith;
      last =
          ap (λ (r : ℕ). r / 8) (get_or-take room (records c n) (pred room) 0 (omega arith))
          ∙ tick_at_lem c n (pred room) (omega arith)
          ∙ sym (passed_full c n room z l);
    }
