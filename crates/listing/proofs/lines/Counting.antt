-- Counting: a number's twenty digits by division, the first of them that is written, and the next number's digits by a carry.
-- By induction on digits. Assumes nothing.
use Prim.Native.Nat.{ℕ, zero, suc, ◌+◌, ◌*◌, ◌-◌, ◌/◌, ◌%◌, ◌^◌, ◌≤◌, ◌<◌, min}
use mathlib.Core.Path.{◌≡◌, refl, sym, ap, ap₂, ◌∙◌}
use mathlib.Core.Logic.{⊎_elim}
use mathlib.Core.Bool.{true}
use mathlib.Core.List.{List, [], ◌∷◌, ◌++◌, append_assoc}
use native.Mathlib.Nat.{pow-suc, div-div-eq-div-mul, div-one, suc-mul}
use native.Mathlib.Omega.{arith}
use lib.ListN.{length, take, drop, get_or, set, replicate, length-append, length-drop, length-set, length-replicate, take-append-drop, drop_of_length-le, replicate-append-replicate, get_or-append}
use lib.Seq.{set_at, take_at, take-take, take_all, take-append-le, get_or_at, length-take-le, split_at}
use borrow.Author.Tests.{ne_eqb, lt-ltb}
use Rattle.wire.specs.Digits.{digits, num, below}
use Rattle.wire.specs.Packets.{ascii}
use Rattle.wire.proofs.digits.Laws.{lt_or_le, and_left, and_right, below_at, below_both, below_append, below_more, zeros_below, digits_length, digits_below, written, read, num_append}
use Rattle.listing.specs.Listing.{trimmed, in_decimal, all_nines, First, Spelled}

-- zeros with one more behind them
zeros_more : (k : ℕ) → ◌++◌ {A = ℕ} (replicate k 0) (0 ∷ []) ≡ replicate (suc k) 0
zeros_more k = replicate-append-replicate {A = ℕ} k 1 0 ∙ ap (λ (x : ℕ). replicate x 0) (let e : k + 1 ≡ suc k = omega arith in e)

-- DIGITS BY DIVISION

-- the digits from place i on are found, and `left` stands above them
pub record Divided (n : ℕ) (ds : List ℕ) (i left : ℕ) : Type 0 where
  pub found : ℕ
  pub sum : i + found ≡ 20
  pub above : left ≡ n / 10 ^ found
  pub row : ds ≡ replicate i 0 ++ digits 10 found n

pub divided_none : (n : ℕ) → Divided n (replicate 20 0) 20 n
unfolding digits
divided_none n = record { found = 0; sum = refl; above = sym (div-one n); row = refl }

pub divided_more : (n : ℕ) (ds : List ℕ) (i left : ℕ) → Divided n ds i left → 0 < i → Divided n (set ds (i - 1) (left % 10)) (i - 1) (left / 10)
unfolding digits
divided_more n ds i left d h =
    let m = i - 1 in
    let e : i ≡ suc m = omega arith in
    let split : ds ≡ replicate m 0 ++ (0 ∷ digits 10 d.found n) =
    d.row
    ∙ ap (λ (x : ℕ). replicate x 0 ++ digits 10 d.found n) e
    ∙ ap (λ (l : List ℕ). l ++ digits 10 d.found n) (sym (zeros_more m))
    ∙ append_assoc (replicate m 0) (0 ∷ []) (digits 10 d.found n) in
    record {
      found = suc d.found;
      sum = omega (arith, d.sum);
      above = ap (λ (x : ℕ). x / 10) d.above ∙ div-div-eq-div-mul n (10 ^ d.found) 10 ∙ ap (λ (x : ℕ). n / x) (sym (pow-suc 10 d.found));
      row =
          ap (λ (l : List ℕ). set l m (left % 10)) split
          ∙ set_at (replicate m 0) 0 (digits 10 d.found n) (left % 10) m (length-replicate {A = ℕ} m 0)
          ∙ ap (λ (x : ℕ). replicate m 0 ++ (x % 10 ∷ digits 10 d.found n)) d.above;
    }

pub divided_all : (n : ℕ) (ds : List ℕ) (i left : ℕ) → Divided n ds i left → i ≤ 0 → ds ≡ digits 10 20 n
divided_all n ds i left d h =
    d.row
    ∙ ap₂ (λ (x y : ℕ). replicate x 0 ++ digits 10 y n) (let e : i ≡ 0 = omega arith in e) (let e : d.found ≡ 20 = omega (arith, d.sum) in e)

-- THE DIGITS THAT ARE WRITTEN

trimmed_at : (ds : List ℕ) (first : ℕ) → first < length ds → take first ds ≡ replicate first 0 → (suc first < length ds → 0 < get_or ds first 0) → trimmed ds ≡ drop first ds
unfolding trimmed
trimmed_at [] first l z s = absurd (omega arith)
trimmed_at (d ∷ []) zero l z s = refl
trimmed_at (d ∷ []) (suc first) l z s = absurd (omega arith)
trimmed_at (d ∷ e ∷ ds) zero l z s =
    let p : 0 < d = s (omega arith) in
    simp (ne_eqb d 0 (λ q. absurd (omega arith)))
trimmed_at (d ∷ e ∷ ds) (suc first) l z s =
    let q : d ≡ 0 = ap (λ (x : List ℕ). get_or x 0 0) z in
    rw q (trimmed_at (e ∷ ds) first (omega arith) (ap (λ (x : List ℕ). drop 1 x) z) (λ h. s (omega arith)))

-- twenty digits below ten are those of the number that they write
spelled_digits : (n : ℕ) (ds : List ℕ) (first : ℕ) → Spelled n ds first → ds ≡ digits 10 20 n
spelled_digits n ds first s =
    sym (read 10 (omega arith) ds s.each) ∙ ap₂ (λ (k m : ℕ). digits 10 k m) s.count s.number

-- the digits that are written, as they are lent
abbrev pub written_digits : List ℕ → ℕ → List ℕ
written_digits ds first = take (20 - first) (drop first ds)

module _ (n : ℕ) (ds : List ℕ) (first : ℕ) (s : Spelled n ds first) where
  written_is : written_digits ds first ≡ drop first ds
  written_is = take_all (20 - first) (drop first ds) (omega (arith, length-drop first ds, s.count))

  pub written_count : length (written_digits ds first) ≤ 20
  written_count = omega (arith, ap length written_is, length-drop first ds, s.count)

  -- they are the number in decimal
  pub written_decimal : in_decimal n ≡ ascii (written_digits ds first)
  unfolding in_decimal
  written_decimal =
      ap ascii
      (ap trimmed (sym (spelled_digits n ds first s))
      ∙ trimmed_at ds first (omega (arith, s.count, s.place.within)) s.place.zeros (λ h. s.place.some (omega (arith, s.count)))
      ∙ sym written_is)

  -- and each is below ten
  pub written_below : (k : ℕ) → k < length (written_digits ds first) → get_or (written_digits ds first) k 0 < 10
  written_below =
      below_at 10 (written_digits ds first)
      (ap (below 10) written_is
      ∙ and_right (below 10 (take first ds)) (below 10 (drop first ds))
      (sym (below_both 10 (take first ds) (drop first ds)) ∙ ap (below 10) (take-append-drop first ds) ∙ s.each))

-- CARRYING

-- the nines behind place i are zeros now, and the digit at place i is the next
pub record Carried (before now : List ℕ) (i : ℕ) : Type 0 where
  pub front : List ℕ
  pub digit : ℕ
  pub nines : ℕ
  pub place : length front ≡ i
  pub sum : i + nines ≡ 19
  pub was : before ≡ front ++ (digit ∷ replicate nines 9)
  pub row : now ≡ front ++ (digit ∷ replicate nines 0)

last_split : (l : List ℕ) (m : ℕ) → length l ≡ suc m → l ≡ take m l ++ (get_or l m 0 ∷ [])
last_split l m e = split_at l m 0 (omega arith) ∙ ap (λ (r : List ℕ). take m l ++ (get_or l m 0 ∷ r)) (drop_of_length-le l {i = suc m} (omega arith))

pub carried_none : (ds : List ℕ) → length ds ≡ 20 → Carried ds ds 19
carried_none ds l =
    let whole : ds ≡ take 19 ds ++ (get_or ds 19 0 ∷ []) = last_split ds 19 l in
    record {
      front = take 19 ds;
      digit = get_or ds 19 0;
      nines = 0;
      place = length-take-le 19 ds (omega arith);
      sum = refl;
      was = whole;
      row = whole;
    }

nines_num : (k : ℕ) → suc (num 10 (replicate k 9)) ≡ 10 ^ k
unfolding num
nines_num zero = refl
nines_num (suc k) = omega (arith, nines_num k, pow-suc 10 k, length-replicate {A = ℕ} k 9, ap (λ (x : ℕ). 10 ^ x) (length-replicate {A = ℕ} k 9))

zeros_num : (k : ℕ) → num 10 (replicate k 0) ≡ 0
unfolding num
zeros_num zero = refl
zeros_num (suc k) = omega (arith, zeros_num k)

carried_digit : (before now : List ℕ) (i : ℕ) (c : Carried before now i) → get_or now i 0 ≡ c.digit
carried_digit before now i c = ap (λ (l : List ℕ). get_or l i 0) c.row ∙ get_or_at c.front c.digit (replicate c.nines 0) 0 i c.place

carried_length : (before now : List ℕ) (i : ℕ) → Carried before now i → length now ≡ 20
carried_length before now i c =
    omega (arith, ap length c.row, length-append c.front (c.digit ∷ replicate c.nines 0), length-replicate {A = ℕ} c.nines 0, c.place, c.sum)

nines_behind : (front : List ℕ) (k : ℕ) → 10 ^ k ≤ suc (num 10 (front ++ replicate k 9))
nines_behind front k =
    let m = num 10 front * 10 ^ length (replicate {A = ℕ} k 9) in
    let e : num 10 (front ++ replicate k 9) ≡ m + num 10 (replicate k 9) = num_append 10 (omega arith) front (replicate k 9) in
    omega (arith, e, nines_num k)

-- at the first place there is no nine: all digits would be nines
pub carried_inside : (before now : List ℕ) (i : ℕ) → Carried before now i → num 10 before < all_nines → get_or now i 0 ≡ 9 → 0 < i
carried_inside before now i c h e =
    let d : c.digit ≡ 9 = sym (carried_digit before now i c) ∙ e in
    let w : before ≡ c.front ++ replicate (suc c.nines) 9 = c.was ∙ ap (λ (x : ℕ). c.front ++ (x ∷ replicate c.nines 9)) d in
    let b : 10 ^ suc c.nines ≤ suc (num 10 before) = rw (← w) at (nines_behind c.front (suc c.nines)) in
    ⊎_elim
    (λ p. p)
    (λ z. absurd (let p : 10 ^ suc c.nines ≡ 10 ^ 20 = ap (λ (x : ℕ). 10 ^ x) (let k : suc c.nines ≡ 20 = omega (arith, c.sum) in k) in omega (arith, b)))
    (lt_or_le 0 i)

pub carried_more : (before now : List ℕ) (i : ℕ) → Carried before now i → 0 < i → get_or now i 0 ≡ 9 → Carried before (set now i 0) (i - 1)
carried_more before now i c h e =
    let m = i - 1 in
    let f = c.front in
    let d : c.digit ≡ 9 = sym (carried_digit before now i c) ∙ e in
    let l : m < length f = omega (arith, c.place) in
    let split : f ≡ take m f ++ (get_or f m 0 ∷ []) = last_split f m (omega (arith, c.place)) in
    record {
      front = take m f;
      digit = get_or f m 0;
      nines = suc c.nines;
      place = length-take-le m f (omega arith);
      sum = omega (arith, c.sum);
      was =
          c.was
          ∙ ap₂ (λ (x : List ℕ) (y : ℕ). x ++ (y ∷ replicate c.nines 9)) split d
          ∙ append_assoc (take m f) (get_or f m 0 ∷ []) (9 ∷ replicate c.nines 9);
      row =
          ap (λ (x : List ℕ). set x i 0) c.row
          ∙ set_at f c.digit (replicate c.nines 0) 0 i c.place
          ∙ ap (λ (x : List ℕ). x ++ (0 ∷ replicate c.nines 0)) split
          ∙ append_assoc (take m f) (get_or f m 0 ∷ []) (0 ∷ replicate c.nines 0);
    }

-- THE NEXT NUMBER

one_more : (front : List ℕ) (d k : ℕ) → num 10 (front ++ (suc d ∷ replicate k 0)) ≡ suc (num 10 (front ++ (d ∷ replicate k 9)))
unfolding num
one_more front d k =
    let p = 10 ^ k in
    let a : num 10 (front ++ (suc d ∷ replicate k 0)) ≡ num 10 front * 10 ^ suc k + (suc d * 10 ^ k + num 10 (replicate k 0)) =
    num_append 10 (omega arith) front (suc d ∷ replicate k 0) ∙ ap (λ (x : ℕ). num 10 front * 10 ^ suc x + (suc d * 10 ^ x + num 10 (replicate k 0))) (length-replicate {A = ℕ} k 0) in
    let b : num 10 (front ++ (d ∷ replicate k 9)) ≡ num 10 front * 10 ^ suc k + (d * 10 ^ k + num 10 (replicate k 9)) =
    num_append 10 (omega arith) front (d ∷ replicate k 9) ∙ ap (λ (x : ℕ). num 10 front * 10 ^ suc x + (d * 10 ^ x + num 10 (replicate k 9))) (length-replicate {A = ℕ} k 9) in
    omega (arith, a, b, zeros_num k, nines_num k, suc-mul d (10 ^ k))

take_zeros : (i k : ℕ) → i ≤ k → take {A = ℕ} i (replicate k 0) ≡ replicate i 0
take_zeros zero k h = refl
take_zeros (suc i) zero h = absurd (omega arith)
take_zeros (suc i) (suc k) h = ap (λ (l : List ℕ). 0 ∷ l) (take_zeros i k (omega arith))

module _ (before now : List ℕ) (first i n : ℕ) (s : Spelled n before first) (c : Carried before now i) (not-nine : get_or now i 0 ≡ 9 → ⊥) where
  -- the digit that gets one more
  small_digit : c.digit < 9
  small_digit =
      let b : get_or before i 0 < 10 = below_at 10 before s.each i (omega (arith, s.count, c.sum)) in
      let d : get_or before i 0 ≡ c.digit = ap (λ (l : List ℕ). get_or l i 0) c.was ∙ get_or_at c.front c.digit (replicate c.nines 9) 0 i c.place in
      let x : c.digit ≡ 9 → ⊥ = λ e. not-nine (carried_digit before now i c ∙ e) in
      ⊎_elim (λ l. l) (λ g. absurd (x (omega arith))) (lt_or_le c.digit 9)

  pub carried_small : get_or now i 0 < 9
  carried_small = omega (arith, carried_digit before now i c, small_digit)

  stored : set now i (get_or now i 0 + 1) ≡ c.front ++ (suc c.digit ∷ replicate c.nines 0)
  stored =
      ap₂ (λ (l : List ℕ) (x : ℕ). set l i x) c.row (let e : get_or now i 0 + 1 ≡ suc c.digit = omega (arith, carried_digit before now i c) in e)
      ∙ set_at c.front c.digit (replicate c.nines 0) (suc c.digit) i c.place

  front_below : below 10 c.front ≡ true
  front_below =
      and_left (below 10 c.front) (below 10 (c.digit ∷ replicate c.nines 9))
      (sym (below_both 10 c.front (c.digit ∷ replicate c.nines 9)) ∙ ap (below 10) (sym c.was) ∙ s.each)

  tail_below : below 10 (suc c.digit ∷ replicate c.nines 0) ≡ true
  unfolding below
  tail_below = simp (lt-ltb (suc c.digit) 10 (omega (arith, small_digit)), below_more 1 10 (omega arith) (replicate c.nines 0) (zeros_below c.nines))

  -- the next number, from any place that is its first
  spelled_next : (r : ℕ) → First (set now i (get_or now i 0 + 1)) r → Spelled (suc n) (set now i (get_or now i 0 + 1)) r
  spelled_next r f =
      record {
        number = ap (num 10) stored ∙ one_more c.front c.digit c.nines ∙ ap (λ (l : List ℕ). suc (num 10 l)) (sym c.was) ∙ ap suc s.number;
        count = length-set now i (get_or now i 0 + 1) ∙ carried_length before now i c;
        each = ap (below 10) stored ∙ below_append 10 c.front (suc c.digit ∷ replicate c.nines 0) front_below tail_below;
        place = f;
      }

  more_at : get_or (set now i (get_or now i 0 + 1)) i 0 ≡ suc c.digit
  more_at = ap (λ (l : List ℕ). get_or l i 0) stored ∙ get_or_at c.front (suc c.digit) (replicate c.nines 0) 0 i c.place

  -- the number has a digit more
  pub counted_before : i < first → Spelled (suc n) (set now i (get_or now i 0 + 1)) i
  counted_before h =
      spelled_next i
      (record {
        within = omega (arith, s.place.within);
        zeros =
            ap (take i) stored
            ∙ take_at c.front (suc c.digit ∷ replicate c.nines 0) i c.place
            ∙ sym (ap (take i) c.was ∙ take_at c.front (c.digit ∷ replicate c.nines 9) i c.place)
            ∙ sym (take-take i first before (omega arith))
            ∙ ap (take i) s.place.zeros
            ∙ take_zeros i first (omega arith);
        some = λ l. omega (arith, more_at);
      })

  kept_digit : first < i → get_or (set now i (get_or now i 0 + 1)) first 0 ≡ get_or before first 0
  kept_digit h =
      ap (λ (l : List ℕ). get_or l first 0) stored
      ∙ get_or-append c.front (suc c.digit ∷ replicate c.nines 0) 0 first (omega (arith, c.place))
      ∙ sym (ap (λ (l : List ℕ). get_or l first 0) c.was ∙ get_or-append c.front (c.digit ∷ replicate c.nines 9) 0 first (omega (arith, c.place)))

  -- or as many as before
  pub counted_within : first ≤ i → Spelled (suc n) (set now i (get_or now i 0 + 1)) first
  counted_within h =
      spelled_next first
      (record {
        within = s.place.within;
        zeros =
            ap (take first) stored
            ∙ take-append-le first c.front (suc c.digit ∷ replicate c.nines 0) (omega (arith, c.place))
            ∙ sym (ap (take first) c.was ∙ take-append-le first c.front (c.digit ∷ replicate c.nines 9) (omega (arith, c.place)))
            ∙ s.place.zeros;
        some = λ l.
            ⊎_elim
            (λ b. omega (arith, kept_digit b, s.place.some l))
            (λ e. let q : first ≡ i = omega arith in
            let v : get_or (set now i (get_or now i 0 + 1)) first 0 ≡ suc c.digit = ap (λ (x : ℕ). get_or (set now i (get_or now i 0 + 1)) x 0) q ∙ more_at in
            omega (arith, v))
            (lt_or_le first i);
      })

  pub counted : (r : ℕ) → r ≡ min first i → Spelled (suc n) (set now i (get_or now i 0 + 1)) r
  counted r e =
      ⊎_elim
      (λ b. let q : r ≡ i = omega arith in rw q (counted_before b))
      (λ b. let q : r ≡ first = omega arith in rw q (counted_within b))
      (lt_or_le i first)

-- FOR A CALLER THAT COUNTS

pub found_count : (n : ℕ) (ds : List ℕ) → ds ≡ digits 10 20 n → length ds ≡ 20
found_count n ds e = ap length e ∙ digits_length 10 (omega arith) 20 n

-- the digits found for a number, with the first of them, spell it
pub begun : (n : ℕ) (ds : List ℕ) (first : ℕ) → n < 18446744073709551616 → ds ≡ digits 10 20 n → First ds first → Spelled n ds first
begun n ds first h e f =
    record {
      number = ap (num 10) e ∙ written 10 (omega arith) 20 n (let q : n < 10 ^ 20 = omega arith in q);
      count = found_count n ds e;
      each = ap (below 10) e ∙ digits_below 10 (omega arith) 20 n;
      place = f;
    }

-- digits that spell a number spell the one that they write
pub own : (n : ℕ) (ds : List ℕ) (first : ℕ) → Spelled n ds first → Spelled (num 10 ds) ds first
own n ds first s = rw (← s.number) at s
