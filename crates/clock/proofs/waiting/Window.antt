-- From one fall to the next: the least of three next falls is the next tick on which anything falls, so filling a row with them lists the
-- records of the window. Assumes nothing.
use Prim.Native.Nat.{ℕ, zero, suc, pred, ◌+◌, ◌-◌, ◌*◌, ◌/◌, ◌≤◌, ◌<◌, zero-le, min}
use mathlib.Core.Path.{◌≡◌, refl, sym, ◌∙◌, ap}
use mathlib.Core.Bool.{Bool, true, false}
use mathlib.Core.List.{List, [], ◌∷◌, ◌++◌, append_assoc, append-nil}
use mathlib.Core.Logic.{◌⊎◌, inl, inr, ⊎_elim}
use native.Mathlib.Nat.{add-zero, add-suc}
use native.Mathlib.Numerals.{add-one}
use native.Mathlib.Omega.{arith}
use borrow.Author.Tests.{eq-eqb, ne_eqb, le-leb, lt-leb}
use lib.Dec.{eqb}
use lib.ListN.{length, get_or, take, drop, set, length-append, length-set, get_or-append}
use lib.Seq.{take_at, take_all, set_at, drop-cons, get_or_at}
use Rattle.wire.specs.Digits.{pick}
use Rattle.wire.specs.Time.{ticks_of_day}
use Rattle.wire.proofs.digits.Laws.{lt_or_le}
use Rattle.clock.specs.declared.clock.Clock.{Clock}
use Rattle.clock.specs.declared.falling.Source.{Source}
use Rattle.clock.specs.declared.falling.Sources.{Sources}
use Rattle.clock.specs.Time.{later}
use Rattle.clock.specs.Falling.{second_falls, strobe_falls, periodic_falls, falls}
use Rattle.clock.specs.Waiting.{record_of, records, listed, passed}
use Rattle.clock.specs.Sources.{Rhythm, Ready, second_on, strobe_on, least_of, marks, past_of, all_past}

-- ---- the records, from one tick on which anything falls to the next

-- the records of the j ticks after tick a
unfoldable pub behind : Clock → ℕ → ℕ → List ℕ
behind c a zero = []
behind c a (suc j) = behind c a j ++ record_of (a + suc j) (falls c (a + suc j))

pub split : (c : Clock) (a j : ℕ) → records c (a + j) ≡ records c a ++ behind c a j
unfolding records behind
split c a zero = ap (records c) (add-zero a) ∙ sym (append-nil (records c a))
split c a (suc j) =
    ap (records c) (add-suc a j)
    ∙ ap (λ (l : List ℕ). l ++ record_of (suc (a + j)) (falls c (suc (a + j)))) (split c a j)
    ∙ append_assoc (records c a) (behind c a j) (record_of (suc (a + j)) (falls c (suc (a + j))))
    ∙ ap (λ (k : ℕ). records c a ++ (behind c a j ++ record_of k (falls c k))) (sym (add-suc a j))

pub same_records : (c : Clock) (a b : ℕ) → a ≡ b → records c a ≡ records c b
same_records c a b e = ap (records c) e

-- no ticks have no records
pub none_yet : (c : Clock) → records c 0 ≡ []
unfolding records
none_yet c = refl

-- nothing falls after tick a up to n
pub none_fall : (c : Clock) (a n : ℕ) → a ≤ n → ((k : ℕ) → a < k → k ≤ n → falls c k ≡ 0) → records c n ≡ records c a
unfolding records record_of
none_fall c a zero l h = same_records c 0 a (omega arith)
none_fall c a (suc n) l h =
    ⊎_elim
    (λ m. ap (λ (s : ℕ). records c n ++ record_of (suc n) s) (h (suc n) m (omega arith)) ∙ append-nil (records c n)
    ∙ none_fall c a n (omega arith) (λ k p q. h k p (omega arith)))
    (λ m. same_records c (suc n) a (omega arith))
    (lt_or_le a (suc n))

pub record_one : (k s : ℕ) → 0 < s → record_of k s ≡ (8 * k + s) ∷ []
unfolding record_of
record_one k zero h = absurd (omega arith)
record_one k (suc s) h = refl

-- tick f is the first after tick a on which anything falls
pub one_more : (c : Clock) (a f : ℕ) → a < f → ((k : ℕ) → a < k → k < f → falls c k ≡ 0) → 0 < falls c f → records c f ≡ records c a ++ ((8 * f + falls c f) ∷ [])
unfolding records
one_more c a zero l h z = absurd (omega arith)
one_more c a (suc f) l h z =
    ap (λ (rs : List ℕ). rs ++ record_of (suc f) (falls c (suc f))) (none_fall c a f (omega arith) (λ k p q. h k p (omega arith)))
    ∙ ap (λ (rs : List ℕ). records c a ++ rs) (record_one (suc f) (falls c (suc f)) z)

at_most : (t : Bool) (n : ℕ) → pick t n 0 ≤ n
at_most true n = omega arith
at_most false n = omega arith

pub falls_below : (c : Clock) (k : ℕ) → falls c k < 8
unfolding falls
falls_below c k =
    let tick : ℕ = (later k c.time).tick.ticks in
    omega (arith, at_most (periodic_falls c.periodic k) 1, at_most (strobe_falls c.strobe tick) 2, at_most (second_falls tick) 4)

-- ---- the least of three next falls

module _ (test : ℕ → Bool) (a m : ℕ) (s : Source) (h : Rhythm test a s) (l : a < m) (g : m ≤ s.next) (d : m ≤ ticks_of_day) where
  -- a source falls there exactly if that is its next fall
  marked : test m ≡ eqb s.next m
  marked =
      ⊎_elim
      (λ n. h.next.none m l n ∙ sym (ne_eqb s.next m (λ e. omega arith)))
      (λ n. let e : s.next ≡ m = omega arith in ap test (sym e) ∙ h.next.hit (omega arith) ∙ sym (eq-eqb _ _ e))
      (lt_or_le m s.next)

  past_rhythm : Rhythm test m (past_of s m)
  unfolding past_of
  past_rhythm =
      ⊎_elim
      (λ n. rw (ne_eqb s.next m (λ e. omega arith))
      (record { next = record { above = n; hit = h.next.hit; none = λ k p q. h.next.none k (omega arith) q }; again = h.again; small = h.small }))
      (λ n. let e : s.next ≡ m = omega arith in
      rw (eq-eqb s.next m e) (record { next = h.again m (ap test (sym e) ∙ h.next.hit (omega arith)); again = h.again; small = h.small }))
      (lt_or_le m s.next)

least_one : (a b c : ℕ) → (a ≡ min (min a b) c) ⊎ ((b ≡ min (min a b) c) ⊎ (c ≡ min (min a b) c))
least_one a b c =
    ⊎_elim
    (λ p. ⊎_elim (λ q. inl (omega arith)) (λ q. inr (inr (omega arith))) (lt_or_le a c))
    (λ p. ⊎_elim (λ q. inr (inl (omega arith))) (λ q. inr (inr (omega arith))) (lt_or_le b c))
    (lt_or_le a b)

module _ (c : Clock) (a : ℕ) (s : Sources) (h : Ready c a s) where
  least_above : a < least_of s
  least_above = omega (arith, h.second.next.above, h.strobe.next.above, h.periodic.next.above)

  pub none_before : (k : ℕ) → a < k → k < least_of s → falls c k ≡ 0
  unfolding falls second_on strobe_on
  none_before k p q =
      let x : second_falls (later k c.time).tick.ticks ≡ false = h.second.next.none k p (omega arith) in
      let y : strobe_falls c.strobe (later k c.time).tick.ticks ≡ false = h.strobe.next.none k p (omega arith) in
      simp (x, y, h.periodic.next.none k p (omega arith))

  module _ (d : least_of s ≤ ticks_of_day) where
    pub marks_least : falls c (least_of s) ≡ marks s (least_of s)
    unfolding falls marks second_on strobe_on
    marks_least =
        let x = marked _ a (least_of s) s.second h.second least_above (omega arith) d in
        let y = marked _ a (least_of s) s.strobe h.strobe least_above (omega arith) d in
        let z = marked _ a (least_of s) s.periodic h.periodic least_above (omega arith) d in
        rw (x, y, z)

    pub past_ready : Ready c (least_of s) (all_past s (least_of s))
    unfolding all_past
    past_ready = record {
      second = past_rhythm _ a (least_of s) s.second h.second least_above (omega arith) d;
      strobe = past_rhythm _ a (least_of s) s.strobe h.strobe least_above (omega arith) d;
      periodic = past_rhythm _ a (least_of s) s.periodic h.periodic least_above (omega arith) d;
    }

    pub least_falls : 0 < falls c (least_of s)
    unfolding marks
    least_falls =
        rw marks_least
        (⊎_elim (λ e. rw (eq-eqb s.second.next (least_of s) e) (omega arith))
        (⊎_elim (λ e. rw (eq-eqb s.strobe.next (least_of s) e) (omega arith)) (λ e. rw (eq-eqb s.periodic.next (least_of s) e) (omega arith)))
        (least_one s.second.next s.strobe.next s.periodic.next))

    pub least_more : records c (least_of s) ≡ records c a ++ ((8 * least_of s + marks s (least_of s)) ∷ [])
    least_more = one_more c a (least_of s) least_above none_before least_falls ∙ ap (λ (x : ℕ). records c a ++ ((8 * least_of s + x) ∷ [])) marks_least

-- ---- the loop: a is the tick of the last record, the records up to it stand in the row, and s has what falls next

pub record Held (c : Clock) (n : ℕ) (row₀ row : List ℕ) (s : Sources) (a i : ℕ) : Type 0 where
  pub ready : Ready c a s
  pub within : a ≤ n
  pub room : i ≤ length row₀
  pub same : length row ≡ length row₀
  pub count : length (records c a) ≡ i
  pub holds : row ≡ records c a ++ drop i row₀
  pub last : 0 < i → get_or (records c a) (pred i) 0 / 8 ≡ a

pub held_none : (c : Clock) (n : ℕ) (row : List ℕ) (s : Sources) → Ready c 0 s → Held c n row row s 0 0
unfolding records
held_none c n row s h = record {
  ready = h;
  within = zero-le;
  room = zero-le;
  same = refl;
  count = refl;
  holds = refl;
  last = λ z. absurd (omega arith);
}

-- the record of the least next fall is stored
pub held_more : (c : Clock) (n : ℕ) (row₀ row : List ℕ) (s : Sources) (a i : ℕ) → n ≤ ticks_of_day → i < length row → least_of s ≤ n
    → Held c n row₀ row s a i → Held c n row₀ (set row i (8 * least_of s + marks s (least_of s))) (all_past s (least_of s)) (least_of s) (i + 1)
held_more c n row₀ row s a i d l m h =
    let v : ℕ = 8 * least_of s + marks s (least_of s) in
    let k : least_of s ≤ ticks_of_day = omega arith in
    let e : records c (least_of s) ≡ records c a ++ (v ∷ []) = least_more c a s h.ready k in
    let f : falls c (least_of s) ≡ marks s (least_of s) = marks_least c a s h.ready k in
    record {
      ready = past_ready c a s h.ready k;
      within = m;
      room = omega (arith, h.same);
      same = length-set row i v ∙ h.same;
      count = ap length e ∙ length-append (records c a) (v ∷ []) ∙ ap (λ (k : ℕ). k + 1) h.count;
      holds =
          ap (λ (r : List ℕ). set r i v) (h.holds ∙ ap (λ (r : List ℕ). records c a ++ r) (drop-cons row₀ i 0 (omega (arith, h.same))))
          ∙ set_at (records c a) (get_or row₀ i 0) (drop (suc i) row₀) v i h.count
          ∙ rw (e, add-one, append_assoc);
      last = λ z.
          ap (λ (r : ℕ). r / 8)
          (ap (λ (rs : List ℕ). get_or rs (pred (i + 1)) 0) e ∙ get_or_at (records c a) v [] 0 (pred (i + 1)) (h.count ∙ omega arith))
          ∙ omega (arith, falls_below c (least_of s));
    }

-- ---- a filled row: the records of the first p ticks, which are all that are listed

pub record Filled (c : Clock) (n : ℕ) (row₀ row : List ℕ) (p i : ℕ) : Type 0 where
  pub within : p ≤ n
  pub passed : passed c n (length row₀) ≡ p
  pub listed : listed c n (length row₀) ≡ records c p
  pub count : length (records c p) ≡ i
  pub filled : row ≡ records c p ++ drop i row₀

-- nothing more falls in the window
pub filled_all : (c : Clock) (n : ℕ) (row₀ row : List ℕ) (s : Sources) (a i : ℕ) → Held c n row₀ row s a i → n < least_of s → Filled c n row₀ row n i
unfolding listed passed
filled_all c n row₀ row s a i h l =
    let e : records c n ≡ records c a = none_fall c a n h.within (λ k p q. none_before c a s h.ready k p (omega arith)) in
    let len : length (records c n) ≡ i = ap length e ∙ h.count in
    record {
      within = omega arith;
      passed = simp (le-leb (length (records c n)) (length row₀) (omega (arith, h.room)));
      listed = take_all (length row₀) (records c n) (omega (arith, h.room));
      count = len;
      filled = rw e h.holds;
    }

-- the row is full, and more falls in the window
pub filled_full : (c : Clock) (n : ℕ) (row₀ row : List ℕ) (s : Sources) (a i : ℕ) → 0 < length row₀ → n ≤ ticks_of_day
    → Held c n row₀ row s a i → length row ≤ i → least_of s ≤ n → Filled c n row₀ row a i
unfolding listed passed
filled_full c n row₀ row s a i z d h f l =
    let full : i ≡ length row₀ = omega (arith, h.room, h.same) in
    let m : ℕ = least_of s in
    let rest : List ℕ = (8 * m + marks s m) ∷ behind c m (n - m) in
    let e : records c n ≡ records c a ++ rest =
    same_records c n (m + (n - m)) (omega arith) ∙ split c m (n - m) ∙ ap (λ (rs : List ℕ). rs ++ behind c m (n - m)) (least_more c a s h.ready (omega arith))
    ∙ append_assoc (records c a) ((8 * m + marks s m) ∷ []) (behind c m (n - m)) in
    let len : length (records c n) ≡ length (records c a) + length rest = ap length e ∙ length-append (records c a) rest in
    let at : get_or (records c n) (pred (length row₀)) 0 ≡ get_or (records c a) (pred i) 0 =
    ap (λ (rs : List ℕ). get_or rs (pred (length row₀)) 0) e ∙ get_or-append (records c a) rest 0 (pred (length row₀)) (omega (arith, h.count))
    ∙ ap (λ (k : ℕ). get_or (records c a) (pred k) 0) (sym full) in
    record {
      within = h.within;
      passed = simp (lt-leb (length (records c n)) (length row₀) (omega (arith, h.count))) (ap (λ (x : ℕ). x / 8) at ∙ h.last (omega arith));
      listed = ap (take (length row₀)) e ∙ take_at (records c a) rest (length row₀) (h.count ∙ full);
      count = h.count;
      filled = h.holds;
    }
