-- A wait continued from the clock that the one before it left lists the rest: a wait with a places and then one for what is left with b pass, list and leave what
-- the one wait with a + b places would have. Assumes nothing.
use Prim.Native.Nat.{ℕ, zero, suc, pred, ◌+◌, ◌-◌, ◌*◌, ◌/◌, ◌%◌, ◌≤◌, ◌<◌}
use mathlib.Core.Path.{◌≡◌, refl, sym, ◌∙◌, ap}
use mathlib.Core.Bool.{true, ◌&&◌}
use mathlib.Core.List.{List, [], ◌∷◌, ◌++◌, map-append, append-nil}
use mathlib.Core.Logic.{⊎_elim}
use native.Mathlib.Nat.{mod-add-mod, mod-eq_of_lt, add_assoc}
use native.Mathlib.Omega.{arith}
use borrow.Author.Tests.{lt-leb, ltb-true}
use lib.Dec.{eqb, leb, ltb}
use lib.ListN.{length, take, get_or, length-append, length-take, length-map}
use lib.Seq.{take_all, get_or-append-add}
use Rattle.wire.proofs.digits.Laws.{lt_or_le, and_both}
use Rattle.clock.specs.declared.time.Time.{Time}
use Rattle.clock.specs.declared.clock.Periodic.{Periodic}
use Rattle.clock.specs.declared.clock.Clock.{Clock}
use Rattle.clock.specs.Time.{later}
use Rattle.clock.specs.Clocks.{clock_lawful}
use Rattle.clock.specs.Falling.{periodic_falls, periodic_lawful, falls}
use Rattle.clock.specs.Waiting.{record_of, records, listed, passed, moved_on, count_later, clock_later}
use Rattle.clock.proofs.time.Laws.{later_add}
use Rattle.clock.proofs.lawful.Laws.{parts}
use Rattle.clock.proofs.waiting.Window.{behind, split, same_records, none_yet}
use Rattle.clock.proofs.waiting.Laws.{listed_passed, passes, passed_all}

-- ---- what falls later

record_moved : (p k s : ℕ) → record_of (p + k) s ≡ moved_on p (record_of k s)
unfolding record_of
record_moved p k zero = refl
record_moved p k (suc s) = ap (λ (r : ℕ). r ∷ []) (omega arith)

-- the periodic output, p ticks later
periodic_later : (q : Periodic) (p k : ℕ) → periodic_falls q (p + k) ≡ periodic_falls (count_later p q) k
unfolding periodic_falls count_later
periodic_later Periodic.Off p k = refl
periodic_later (Periodic.Every n1 n2 count) p k =
    ap (λ (x : ℕ). eqb x 0) (ap (λ (x : ℕ). x % (n1 * n2)) (sym (add_assoc count p k)) ∙ sym (mod-add-mod (count + p) (n1 * n2) k))

-- what falls p + k ticks from now falls k ticks from the clock p ticks later
falls_later : (c : Clock) (p k : ℕ) → falls c (p + k) ≡ falls (clock_later p c) k
unfolding falls clock_later
falls_later c p k = rw (periodic_later c.periodic p k, later_add p k c.time)

behind_later : (c : Clock) (p m : ℕ) → behind c p m ≡ moved_on p (records (clock_later p c) m)
unfolding records behind
behind_later c p zero = refl
behind_later c p (suc m) =
    ap (λ (l : List ℕ). l ++ record_of (p + suc m) (falls c (p + suc m))) (behind_later c p m)
    ∙ ap (λ (l : List ℕ). moved_on p (records (clock_later p c) m) ++ l)
    (ap (record_of (p + suc m)) (falls_later c p (suc m)) ∙ record_moved p (suc m) (falls (clock_later p c) (suc m)))
    ∙ sym (map-append (λ (r : ℕ). 8 * p + r) (records (clock_later p c) m) (record_of (suc m) (falls (clock_later p c) (suc m))))

-- the records of p + m ticks are those of p ticks, and those of m ticks from the clock p ticks later, moved on by p
continues : (c : Clock) (p m : ℕ) → records c (p + m) ≡ records c p ++ moved_on p (records (clock_later p c) m)
continues c p m = split c p m ∙ ap (λ (l : List ℕ). records c p ++ l) (behind_later c p m)

count_add : (p m : ℕ) (q : Periodic) → count_later m (count_later p q) ≡ count_later (p + m) q
unfolding count_later
count_add p m Periodic.Off = refl
count_add p m (Periodic.Every n1 n2 count) =
    ap (Periodic.Every n1 n2) (mod-add-mod (count + p) (n1 * n2) m ∙ ap (λ (x : ℕ). x % (n1 * n2)) (add_assoc count p m))

-- the clock p ticks later, and then m ticks later
pub clock_add : (c : Clock) (p m : ℕ) → clock_later m (clock_later p c) ≡ clock_later (p + m) c
unfolding clock_later
clock_add c p m = rw (← later_add p m c.time, count_add p m c.periodic)

-- its time moves by as many ticks, and its strobe stays
pub time_later : (p : ℕ) (c : Clock) → (clock_later p c).time ≡ later p c.time
unfolding clock_later
time_later p c = refl

pub strobe_later : (p : ℕ) (c : Clock) → (clock_later p c).strobe ≡ c.strobe
unfolding clock_later
strobe_later p c = refl

-- ---- lists

take_past : (xs ys : List ℕ) (a b : ℕ) → length xs ≡ a → take (a + b) (xs ++ ys) ≡ xs ++ take b ys
take_past [] ys zero b e = ap (λ (k : ℕ). take k ys) {x = 0 + b} {y = b} (omega arith)
take_past [] ys (suc a) b e = absurd (omega arith)
take_past (x ∷ xs) ys zero b e = absurd (omega arith)
take_past (x ∷ xs) ys (suc a) b e =
    ap (λ (k : ℕ). take k (x ∷ (xs ++ ys))) {x = suc a + b} {y = suc (a + b)} (omega arith) ∙ ap (λ (l : List ℕ). x ∷ l) (take_past xs ys a b (omega arith))

take_moved : (p k : ℕ) (rs : List ℕ) → take k (moved_on p rs) ≡ moved_on p (take k rs)
take_moved p zero rs = refl
take_moved p (suc k) [] = refl
take_moved p (suc k) (r ∷ rs) = ap (λ (l : List ℕ). (8 * p + r) ∷ l) (take_moved p k rs)

take_none : (k : ℕ) → take {A = ℕ} k [] ≡ []
take_none zero = refl
take_none (suc k) = refl

moved_at : (p i : ℕ) (rs : List ℕ) → i < length rs → get_or (moved_on p rs) i 0 ≡ 8 * p + get_or rs i 0
moved_at p i [] h = absurd (omega arith)
moved_at p zero (r ∷ rs) h = refl
moved_at p (suc i) (r ∷ rs) h = moved_at p i rs (omega arith)

-- ---- two waits as one

passed_cut : (c : Clock) (n room : ℕ) → room < length (records c n) → passed c n room ≡ get_or (records c n) (pred room) 0 / 8
unfolding passed
passed_cut c n room l = simp (lt-leb (length (records c n)) room l)

module _ (c : Clock) (n a b : ℕ) (y : 0 < a) (z : 0 < b) where
  -- the ticks that the first wait passes, the clock that it leaves, and the records of the rest
  abbrev p : ℕ
  p = passed c n a

  abbrev d : Clock
  d = clock_later p c

  abbrev rest : List ℕ
  rest = records d (n - p)

  p_within : p ≤ n
  p_within = (passes c n a y).0

  all : records c n ≡ listed c n a ++ moved_on p rest
  all =
      same_records c n (p + (n - p)) (omega (arith, p_within)) ∙ continues c p (n - p)
      ∙ ap (λ (rs : List ℕ). rs ++ moved_on p rest) (sym (listed_passed c n a y))

  -- all places filled, and more to come; or nothing more
  full : a < length (records c n) → length (listed c n a) ≡ a
  unfolding listed
  full l = length-take a (records c n) ∙ omega arith

  no_more : length (records c n) ≤ a → rest ≡ []
  no_more l = same_records d (n - p) 0 (omega (arith, passed_all c n a l)) ∙ none_yet d

  pub lists_on : listed c n (a + b) ≡ listed c n a ++ moved_on p (listed d (n - p) b)
  unfolding listed
  lists_on =
      ap (take (a + b)) all
      ∙ ⊎_elim
      (λ l. take_past (listed c n a) (moved_on p rest) a b (full l) ∙ ap (λ (x : List ℕ). listed c n a ++ x) (take_moved p b rest))
      (λ l. let none : moved_on p (take b rest) ≡ [] = ap (λ (rs : List ℕ). moved_on p (take b rs)) (no_more l) ∙ ap (moved_on p) (take_none b) in
      ap (λ (rs : List ℕ). take (a + b) (listed c n a ++ moved_on p rs)) (no_more l)
      ∙ ap (take (a + b)) (append-nil (listed c n a))
      ∙ take_all (a + b) (listed c n a) (omega (arith, length-take a (records c n)))
      ∙ sym (ap (λ (rs : List ℕ). listed c n a ++ rs) none ∙ append-nil (listed c n a)))
      (lt_or_le a (length (records c n)))

  length_all : length (records c n) ≡ length (listed c n a) + length rest
  length_all = ap length all ∙ length-append (listed c n a) (moved_on p rest) ∙ ap (λ (k : ℕ). length (listed c n a) + k) (length-map rest (λ (r : ℕ). 8 * p + r))

  more_cut : a < length (records c n) → b < length rest → passed c n (a + b) ≡ p + passed d (n - p) b
  more_cut l m =
      let i : pred (a + b) ≡ length (listed c n a) + pred b = omega (arith, full l) in
      passed_cut c n (a + b) (omega (arith, full l, length_all))
      ∙ ap (λ (x : ℕ). x / 8) (ap (λ (rs : List ℕ). get_or rs (pred (a + b)) 0) all ∙ ap (λ (k : ℕ). get_or (listed c n a ++ moved_on p rest) k 0) i
      ∙ get_or-append-add (listed c n a) (moved_on p rest) (pred b) 0 ∙ moved_at p (pred b) rest (omega arith))
      ∙ omega (arith, passed_cut d (n - p) b m)

  pub passes_on : passed c n (a + b) ≡ p + passed d (n - p) b
  passes_on =
      ⊎_elim
      (λ l. ⊎_elim
      (λ m. more_cut l m)
      (λ m. passed_all c n (a + b) (omega (arith, full l, length_all)) ∙ omega (arith, p_within, passed_all d (n - p) b m))
      (lt_or_le b (length rest)))
      (λ l. let q : length rest ≤ b = rw (no_more l) (omega arith) in
      passed_all c n (a + b) (omega arith) ∙ omega (arith, p_within, passed_all d (n - p) b q))
      (lt_or_le a (length (records c n)))

-- what is left to wait runs no further than the whole
pub year_left : (c : Clock) (n room : ℕ) → 0 < room → (later n c.time).year ≤ 9999 → (later (n - passed c n room) (clock_later (passed c n room) c).time).year ≤ 9999
unfolding clock_later
year_left c n room z y =
    let p : ℕ = passed c n room in
    let l : p ≤ n = (passes c n room z).0 in
    let f : later n c.time ≡ later (n - p) (later p c.time) = ap (λ (k : ℕ). later k c.time) {x = n} {y = p + (n - p)} (omega arith) ∙ later_add p (n - p) c.time in
    omega (arith, ap (λ (t : Time). t.year) f)

-- a wait of 0 passes nothing and lists nothing, and the clock stays
pub no_ticks : (c : Clock) (room : ℕ) → (passed c 0 room ≡ 0) × (listed c 0 room ≡ [])
unfolding listed records
no_ticks c room = (passed_all c 0 room (omega (arith, ap length (none_yet c))), take_none room)

count_stays : (q : Periodic) → periodic_lawful q ≡ true → count_later 0 q ≡ q
unfolding count_later periodic_lawful
count_stays Periodic.Off h = refl
count_stays (Periodic.Every n1 n2 count) h =
    let a = and_both (leb 2 n1) (leb 2 n2 && ltb count (n1 * n2)) h in
    let b = and_both (leb 2 n2) (ltb count (n1 * n2)) a.1 in
    ap (Periodic.Every n1 n2) (ap (λ (x : ℕ). x % (n1 * n2)) {x = count + 0} {y = count} (omega arith) ∙ mod-eq_of_lt (ltb-true count (n1 * n2) b.1))

pub clock_stays : (c : Clock) → clock_lawful c ≡ true → clock_later 0 c ≡ c
unfolding clock_later later
clock_stays c h = ap (λ (q : Periodic). record { time = c.time; strobe = c.strobe; periodic = q }) (count_stays c.periodic (parts c h).periodic)
