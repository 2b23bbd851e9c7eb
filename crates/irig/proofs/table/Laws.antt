-- The laws of the table, over every place and every field: a field's bits come lowest first, each once, and as many as its width says; so a field of a frame and its bits
-- decide each other. By going through the places, with division by a power of 2.
-- Assumes nothing.
use Prim.Native.Nat.{ℕ, zero, suc, ◌+◌, ◌*◌, ◌/◌, ◌%◌, ◌-◌, ◌^◌, ◌≤◌, ◌<◌}
use mathlib.Core.Path.{◌≡◌, refl, sym, ◌∙◌, ap, ap₂}
use mathlib.Core.Bool.{Bool, true, false, ◌&&◌}
use mathlib.Core.List.{List, [], ◌∷◌, map}
use mathlib.Core.Logic.{◌⊎◌, inl, inr, ⊎_elim}
use native.Mathlib.Nat.{le_refl, div-one, pow-suc, mul_comm, mul_assoc, mod-one, mod-eq_of_lt, mul-add-mod_self_right, add_comm}
use native.Mathlib.Omega.{arith}
use lib.Arith.{digits_div, digits_lt}
use lib.Pow.{pow-add, mod-pow-add, field}
use lib.Dec.{eqb, lit<, lit≤}
use lib.ListN.{length, get_or, length-map}
use borrow.Author.Tests.{ltb-true, eqb-true, eq-eqb}
use Rattle.wire.specs.Digits.{pick}
use Rattle.wire.proofs.digits.Laws.{and_left, and_right, lt_or_le}
use Rattle.irig.specs.Table.{Field, Element, field_number, table, at, digit_of, sum_to, all_to, field_shift, width, shift_of}
use Rattle.irig.specs.Writing.{element_of}
use Rattle.irig.specs.Reading.{fits, all_fit, same, share, field_in}

-- SUMS AND TESTS OVER PLACES

pub sum_same : (n : ℕ) (g h : ℕ → ℕ) → ((j : ℕ) → j < n → g j ≡ h j) → sum_to n g ≡ sum_to n h
unfolding sum_to
sum_same zero g h e = refl
sum_same (suc n) g h e = ap₂ ◌+◌ (sum_same n g h (λ j l. e j (omega arith))) (e n (omega arith))

pub all_same : (n : ℕ) (s t : ℕ → Bool) → ((j : ℕ) → j < n → s j ≡ t j) → all_to n s ≡ all_to n t
unfolding all_to
all_same zero s t e = refl
all_same (suc n) s t e = ap₂ ◌&&◌ (all_same n s t (λ j l. e j (omega arith))) (e n (omega arith))

pub all_at : (n : ℕ) (test : ℕ → Bool) → all_to n test ≡ true → (j : ℕ) → j < n → test j ≡ true
unfolding all_to
all_at zero test h j l = absurd (omega arith)
all_at (suc n) test h j l =
    ⊎_elim
    (λ p. all_at n test (and_left (all_to n test) (test n) h) j p)
    (λ q. let e : j ≡ n = omega arith in ap test e ∙ and_right (all_to n test) (test n) h)
    (lt_or_le j n)

pub all_of : (n : ℕ) (test : ℕ → Bool) → ((j : ℕ) → j < n → test j ≡ true) → all_to n test ≡ true
unfolding all_to
all_of zero test h = refl
all_of (suc n) test h = simp (all_of n test (λ j l. h j (omega arith)), h n (omega arith))

-- FIELDS

abbrev field_numbered : ℕ → Field
field_numbered zero = Field.second_units
field_numbered (suc zero) = Field.second_tens
field_numbered (suc (suc zero)) = Field.minute_units
field_numbered (suc (suc (suc zero))) = Field.minute_tens
field_numbered (suc (suc (suc (suc zero)))) = Field.hour_units
field_numbered (suc (suc (suc (suc (suc zero))))) = Field.hour_tens
field_numbered (suc (suc (suc (suc (suc (suc zero)))))) = Field.day_units
field_numbered (suc (suc (suc (suc (suc (suc (suc zero))))))) = Field.day_tens
field_numbered (suc (suc (suc (suc (suc (suc (suc (suc zero)))))))) = Field.day_hundreds
field_numbered (suc (suc (suc (suc (suc (suc (suc (suc (suc n))))))))) = Field.binary_seconds

numbered : (f : Field) → field_numbered (field_number f) ≡ f
unfolding field_number
numbered Field.second_units = refl
numbered Field.second_tens = refl
numbered Field.minute_units = refl
numbered Field.minute_tens = refl
numbered Field.hour_units = refl
numbered Field.hour_tens = refl
numbered Field.day_units = refl
numbered Field.day_tens = refl
numbered Field.day_hundreds = refl
numbered Field.binary_seconds = refl

-- two fields with one number are one
same_one : (f g : Field) → same f g ≡ true → f ≡ g
same_one f g e = sym (numbered f) ∙ ap field_numbered (eqb-true (field_number f) (field_number g) e) ∙ numbered g

same_self : (f : Field) → same f f ≡ true
same_self f = eq-eqb (field_number f) (field_number f) refl

-- HOW OFTEN A FIELD HAS COME

abbrev counts : Field → Element → ℕ
counts f Element.marker = 0
counts f Element.spare = 0
counts f (Element.bit g i) = pick (same f g) 1 0

unfoldable pub count : Field → ℕ → ℕ
count f n = sum_to n (λ (j : ℕ). counts f (at j))

pub count_all : (f : Field) → count f 100 ≡ width f
unfolding count sum_to at table field_number width
count_all Field.second_units = refl
count_all Field.second_tens = refl
count_all Field.minute_units = refl
count_all Field.minute_tens = refl
count_all Field.hour_units = refl
count_all Field.hour_tens = refl
count_all Field.day_units = refl
count_all Field.day_tens = refl
count_all Field.day_hundreds = refl
count_all Field.binary_seconds = refl

-- the bits of a field come lowest first
unfoldable rises : ℕ → Element → Bool
rises j Element.marker = true
rises j Element.spare = true
rises j (Element.bit f i) = eqb i (count f j)

all_rise : all_to 100 (λ (j : ℕ). rises j (at j)) ≡ true
unfolding all_to rises count sum_to at table field_number
all_rise = refl

-- so the bit at a place is the one that its field has not had
pub bit_next : (j : ℕ) → j < 100 → (f : Field) (i : ℕ) → at j ≡ Element.bit f i → i ≡ count f j
unfolding rises
bit_next j l f i e = eqb-true i (count f j) (ap (rises j) (sym e) ∙ all_at 100 (λ (k : ℕ). rises k (at k)) all_rise j l)

-- WHAT A PLACE IS TO A FIELD: nothing, or its next bit

record Other (f : Field) (n : ℕ) : Type 0 where
  nothing : (e : ℕ) → share f (at n) e ≡ 0
  uncounted : counts f (at n) ≡ 0

record Own (f : Field) (n : ℕ) : Type 0 where
  next : at n ≡ Element.bit f (count f n)
  adds : (e : ℕ) → share f (at n) e ≡ e * 2 ^ count f n
  counted : counts f (at n) ≡ 1

no_marker : (f : Field) (n : ℕ) → at n ≡ Element.marker → Other f n
unfolding share
no_marker f n a = record { nothing = λ e. ap (λ (t : Element). share f t e) a; uncounted = ap (counts f) a }

no_spare : (f : Field) (n : ℕ) → at n ≡ Element.spare → Other f n
unfolding share
no_spare f n a = record { nothing = λ e. ap (λ (t : Element). share f t e) a; uncounted = ap (counts f) a }

other_bit : (f : Field) (n : ℕ) (g : Field) (i : ℕ) → at n ≡ Element.bit g i → same f g ≡ false → Other f n
unfolding share
other_bit f n g i a s =
    record {
      nothing = λ e. ap (λ (t : Element). share f t e) a ∙ ap (λ (t : Bool). pick t (e * 2 ^ i) 0) s;
      uncounted = ap (counts f) a ∙ ap (λ (t : Bool). pick t 1 0) s;
    }

own_bit : (f : Field) (n : ℕ) (i : ℕ) → n < 100 → at n ≡ Element.bit f i → Own f n
unfolding share
own_bit f n i l a =
    let c : i ≡ count f n = bit_next n l f i a in
    record {
      next = a ∙ ap (Element.bit f) c;
      adds = λ e. ap (λ (t : Element). share f t e) a ∙ ap (λ (t : Bool). pick t (e * 2 ^ i) 0) (same_self f) ∙ ap (λ (k : ℕ). e * 2 ^ k) c;
      counted = ap (counts f) a ∙ ap (λ (t : Bool). pick t 1 0) (same_self f);
    }

what_to : (f : Field) (n : ℕ) → n < 100 → Other f n ⊎ Own f n
what_to f n l = go (at n) refl
  where
    chosen : (g : Field) (i : ℕ) → at n ≡ Element.bit g i → (t : Bool) → same f g ≡ t → Other f n ⊎ Own f n
    chosen g i a true s = inr (own_bit f n i l (a ∙ ap (λ (h : Field). Element.bit h i) (sym (same_one f g s))))
    chosen g i a false s = inl (other_bit f n g i a s)

    go : (t : Element) → at n ≡ t → Other f n ⊎ Own f n
    go Element.marker a = inl (no_marker f n a)
    go Element.spare a = inl (no_spare f n a)
    go (Element.bit g i) a = chosen g i a (same f g) refl

-- the count after a place

count_other : (f : Field) (n : ℕ) → Other f n → count f (suc n) ≡ count f n
unfolding count sum_to
count_other f n o = let u = o.uncounted in omega arith

count_own : (f : Field) (n : ℕ) → Own f n → count f (suc n) ≡ suc (count f n)
unfolding count sum_to
count_own f n o = let u = o.counted in omega arith

count_more : (f : Field) (n : ℕ) → n < 100 → count f n ≤ count f (suc n)
count_more f n l =
    ⊎_elim
    (λ o. let e = count_other f n o in omega arith)
    (λ o. let e = count_own f n o in omega arith)
    (what_to f n l)

count_rises : (f : Field) (m n : ℕ) → m ≤ n → n ≤ 100 → count f m ≤ count f n
count_rises f m zero l h = let e : m ≡ 0 = omega arith in rw e (le_refl (count f 0))
count_rises f m (suc n) l h =
    ⊎_elim
    (λ p. let a = count_rises f m n (omega arith) (omega arith) in let b = count_more f n (omega arith) in omega arith)
    (λ q. let e : m ≡ suc n = omega arith in rw e (le_refl (count f (suc n))))
    (lt_or_le m (suc n))

-- A ROW, AND WHAT A FIELD OF IT IS AFTER EACH PLACE

unfoldable pub field_to : List ℕ → Field → ℕ → ℕ
field_to row f n = sum_to n (λ (j : ℕ). share f (at j) (get_or row j 0))

pub field_whole : (row : List ℕ) (f : Field) → field_in row f ≡ field_to row f 100
unfolding field_in field_to
field_whole row f = refl

-- before the first place a field is 0

nothing_yet : (row : List ℕ) (f : Field) → field_to row f 0 < 2 ^ count f 0
unfolding field_to count sum_to
nothing_yet row f = lit< tt

nothing_of : (row : List ℕ) (f : Field) (n : ℕ) → field_to row f 0 ≡ n % 2 ^ count f 0
unfolding field_to count sum_to
nothing_of row f n = sym (mod-one n)

-- one bit more

one_more : (x e c : ℕ) → x < 2 ^ c → e < 2 → x + e * 2 ^ c < 2 ^ suc c
one_more x e c h l = rw (pow-suc 2 c, mul_comm (2 ^ c) 2, add_comm x (e * 2 ^ c)) (digits_lt l h)

top_digit : (x e i : ℕ) → x < 2 ^ i → e < 2 → (x + e * 2 ^ i) / 2 ^ i % 2 ≡ e
top_digit x e i h l = ap (λ (y : ℕ). y / 2 ^ i % 2) (add_comm x (e * 2 ^ i)) ∙ ap (λ (y : ℕ). y % 2) (digits_div e h) ∙ mod-eq_of_lt l

-- what is added above a power of 2 leaves the rest by it
above : (x e c k : ℕ) → k ≤ c → (x + e * 2 ^ c) % 2 ^ k ≡ x % 2 ^ k
above x e c k l =
    let d : c ≡ (c - k) + k = omega arith in
    ap (λ (m : ℕ). (x + e * 2 ^ m) % 2 ^ k) d
    ∙ ap (λ (m : ℕ). (x + e * m) % 2 ^ k) (pow-add 2 (c - k) k)
    ∙ ap (λ (m : ℕ). (x + m) % 2 ^ k) (sym (mul_assoc e (2 ^ (c - k)) (2 ^ k)))
    ∙ ap (λ (m : ℕ). m % 2 ^ k) (add_comm x (e * 2 ^ (c - k) * 2 ^ k))
    ∙ mul-add-mod_self_right (e * 2 ^ (c - k)) (2 ^ k) x

-- a digit is decided by what is below the next one
digit_low : (i x y : ℕ) → x % 2 ^ suc i ≡ y % 2 ^ suc i → x / 2 ^ i % 2 ≡ y / 2 ^ i % 2
digit_low i x y e =
    let s : 1 + i ≡ suc i = omega arith in
    sym (field x 1 i) ∙ ap (λ (k : ℕ). x % 2 ^ k / 2 ^ i) s ∙ ap (λ (z : ℕ). z / 2 ^ i) e ∙ ap (λ (k : ℕ). y % 2 ^ k / 2 ^ i) (sym s) ∙ field y 1 i

next_digit : (v : Field → ℕ) (f : Field) (c : ℕ) → v f % 2 ^ c + element_of v (Element.bit f c) * 2 ^ c ≡ v f % 2 ^ suc c
unfolding element_of digit_of
next_digit v f c =
    let s : 1 + c ≡ suc c = omega arith in
    add_comm (v f % 2 ^ c) (v f / 2 ^ c % 2 * 2 ^ c) ∙ sym (mod-pow-add (v f) 1 c) ∙ ap (λ (k : ℕ). v f % 2 ^ k) s

module _ (row : List ℕ) (f : Field) where
  to_other : (n : ℕ) → Other f n → field_to row f (suc n) ≡ field_to row f n
  unfolding field_to sum_to
  to_other n o = let u = o.nothing (get_or row n 0) in omega arith

  to_own : (n : ℕ) → Own f n → field_to row f (suc n) ≡ field_to row f n + get_or row n 0 * 2 ^ count f n
  unfolding field_to sum_to
  to_own n o = ap (λ (x : ℕ). field_to row f n + x) (o.adds (get_or row n 0))

  -- a bit does not see what comes above it
  low : (i j : ℕ) → suc i ≡ count f (suc j) → (n : ℕ) → suc j ≤ n → n ≤ 100 → field_to row f n % 2 ^ suc i ≡ field_to row f (suc j) % 2 ^ suc i
  low i j c zero l h = absurd (omega arith)
  low i j c (suc n) l h =
      ⊎_elim
      (λ p.
      let r = low i j c n (omega arith) (omega arith) in
      ⊎_elim
      (λ o. ap (λ (x : ℕ). x % 2 ^ suc i) (to_other n o) ∙ r)
      (λ o. ap (λ (x : ℕ). x % 2 ^ suc i) (to_own n o) ∙ above (field_to row f n) (get_or row n 0) (count f n) (suc i) (let m = count_rises f (suc j) n (omega arith) (omega arith) in omega arith) ∙ r)
      (what_to f n (omega arith)))
      (λ q. let e : suc n ≡ suc j = omega arith in ap (λ (k : ℕ). field_to row f k % 2 ^ suc i) e)
      (lt_or_le j n)

-- WHERE ALL ELEMENTS FIT

bit_fits : (t : Element) (f : Field) (i e : ℕ) → t ≡ Element.bit f i → fits t e ≡ true → e < 2
unfolding fits
bit_fits t f i e a h = ltb-true e 2 (ap (λ (u : Element). fits u e) (sym a) ∙ h)

module _ (row : List ℕ) (h : all_fit row ≡ true) where
  pub fit_at : (j : ℕ) → j < 100 → fits (at j) (get_or row j 0) ≡ true
  unfolding all_fit
  fit_at = all_at 100 (λ (j : ℕ). fits (at j) (get_or row j 0)) h

  -- a field has no more bits than have come
  field_below : (f : Field) (n : ℕ) → n ≤ 100 → field_to row f n < 2 ^ count f n
  field_below f zero l = nothing_yet row f
  field_below f (suc n) l =
      ⊎_elim
      (λ o. rw (to_other row f n o, count_other f n o) (field_below f n (omega arith)))
      (λ o. rw (to_own row f n o, count_own f n o) (one_more (field_to row f n) (get_or row n 0) (count f n) (field_below f n (omega arith)) (bit_fits (at n) f (count f n) (get_or row n 0) o.next (fit_at n (omega arith)))))
      (what_to f n (omega arith))

  -- so it is below its width
  pub field_small : (f : Field) → field_in row f < 2 ^ width f
  field_small f = rw (field_whole row f, ← count_all f) (field_below f 100 (omega arith))

  -- and its bits are the elements
  pub bit_back : (j : ℕ) → j < 100 → (f : Field) (i : ℕ) → at j ≡ Element.bit f i → digit_of 2 i (field_in row f) ≡ get_or row j 0
  unfolding digit_of
  bit_back j l f i a =
      let o : Own f j = own_bit f j i l a in
      let c : i ≡ count f j = bit_next j l f i a in
      let s : suc i ≡ count f (suc j) = ap suc c ∙ sym (count_own f j o) in
      digit_low i (field_in row f) (field_to row f (suc j)) (ap (λ (x : ℕ). x % 2 ^ suc i) (field_whole row f) ∙ low row f i j s 100 (omega arith) (omega arith))
      ∙ ap (λ (x : ℕ). x / 2 ^ i % 2) (to_own row f j o ∙ ap (λ (k : ℕ). field_to row f j + get_or row j 0 * 2 ^ k) (sym c))
      ∙ top_digit (field_to row f j) (get_or row j 0) i (rw c (field_below f j (omega arith))) (bit_fits (at j) f i (get_or row j 0) a (fit_at j l))

-- WHERE THE ELEMENTS ARE THOSE OF FIELDS

module _ (row : List ℕ) (v : Field → ℕ) (h : (j : ℕ) → j < 100 → get_or row j 0 ≡ element_of v (at j)) where
  field_so_far : (f : Field) (n : ℕ) → n ≤ 100 → field_to row f n ≡ v f % 2 ^ count f n
  field_so_far f zero l = nothing_of row f (v f)
  field_so_far f (suc n) l =
      ⊎_elim
      (λ o. to_other row f n o ∙ field_so_far f n (omega arith) ∙ ap (λ (k : ℕ). v f % 2 ^ k) (sym (count_other f n o)))
      (λ o.
      to_own row f n o
      ∙ ap₂ (λ (x e : ℕ). x + e * 2 ^ count f n) (field_so_far f n (omega arith)) (h n (omega arith) ∙ ap (element_of v) o.next)
      ∙ next_digit v f (count f n)
      ∙ ap (λ (k : ℕ). v f % 2 ^ k) (sym (count_own f n o)))
      (what_to f n (omega arith))

  pub field_of_lem : (f : Field) → v f < 2 ^ width f → field_in row f ≡ v f
  field_of_lem f l =
      field_whole row f ∙ field_so_far f 100 (omega arith) ∙ ap (λ (k : ℕ). v f % 2 ^ k) (count_all f) ∙ mod-eq_of_lt l

-- SHIFTS IN THE NUMBER

-- a bit stands within its field
pub bit_within : (j : ℕ) → j < 100 → (f : Field) (i : ℕ) → at j ≡ Element.bit f i → i < width f
bit_within j l f i a =
    let c = bit_next j l f i a in
    let s = count_own f j (own_bit f j i l a) in
    let m = count_rises f (suc j) 100 (omega arith) (omega arith) in
    let w = count_all f in omega arith

-- and every field below bit 53
field_top : (f : Field) → field_shift f + width f ≤ 53
unfolding field_shift field_number width
field_top Field.second_units = lit≤ tt
field_top Field.second_tens = lit≤ tt
field_top Field.minute_units = lit≤ tt
field_top Field.minute_tens = lit≤ tt
field_top Field.hour_units = lit≤ tt
field_top Field.hour_tens = lit≤ tt
field_top Field.day_units = lit≤ tt
field_top Field.day_tens = lit≤ tt
field_top Field.day_hundreds = lit≤ tt
field_top Field.binary_seconds = lit≤ tt

pub bit_low : (j : ℕ) → j < 100 → (f : Field) (i : ℕ) → at j ≡ Element.bit f i → field_shift f + i < 53
bit_low j l f i a = let w = bit_within j l f i a in let b = field_top f in omega arith

marker_last : shift_of Element.marker ≤ 64
unfolding shift_of
marker_last = lit≤ tt

spare_low : shift_of Element.spare ≤ 64
unfolding shift_of
spare_low = lit≤ tt

bit_shift_low : (f : Field) (i : ℕ) → field_shift f + i < 53 → shift_of (Element.bit f i) ≤ 64
unfolding shift_of
bit_shift_low f i l = omega arith

-- a table that goes by the elements
pub from_map : {A : Type 0} (g : A → ℕ) (ts : List A) (d : A) (j : ℕ) → j < length ts → get_or (map g ts) j 0 ≡ g (get_or ts j d)
from_map g [] d j l = absurd (omega arith)
from_map g (t ∷ ts) d zero l = refl
from_map g (t ∷ ts) d (suc j) l = from_map g ts d j (omega arith)

hundred : length table ≡ 100
unfolding table
hundred = refl

pub at_place : (g : Element → ℕ) (j : ℕ) → j < 100 → get_or (map g table) j 0 ≡ g (at j)
unfolding at
at_place g j l = from_map g table Element.spare j (rw hundred l)

low_element : (j : ℕ) → j < 100 → shift_of (at j) ≤ 64
low_element j l = go (at j) refl
  where
    go : (t : Element) → at j ≡ t → shift_of (at j) ≤ 64
    go Element.marker a = rw a marker_last
    go Element.spare a = rw a spare_low
    go (Element.bit f i) a = rw a (bit_shift_low f i (bit_low j l f i a))

-- the shifts that the code has, and that there is none above that of markers

pub shift_is : (ss : List ℕ) → ss ≡ map shift_of table → (j : ℕ) → j < 100 → get_or ss j 0 ≡ shift_of (at j)
shift_is ss e j l = ap (λ (ts : List ℕ). get_or ts j 0) e ∙ at_place shift_of j l

pub shift_most : (ss : List ℕ) → ss ≡ map shift_of table → (j : ℕ) → j < 100 → get_or ss j 0 ≤ 64
shift_most ss e j l = rw (shift_is ss e j l) (low_element j l)

pub hundred_of : (g : Element → ℕ) → length (map g table) ≡ 100
hundred_of g = length-map table g ∙ hundred

-- ALL FIELDS TOGETHER, EACH BY ITS SHIFT

unfoldable pub together : (Field → ℕ) → ℕ
together v =
    v Field.second_units
    + (v Field.second_tens * 2 ^ 4
    + (v Field.minute_units * 2 ^ 8
    + (v Field.minute_tens * 2 ^ 12
    + (v Field.hour_units * 2 ^ 16
    + (v Field.hour_tens * 2 ^ 20
    + (v Field.day_units * 2 ^ 24
    + (v Field.day_tens * 2 ^ 28
    + (v Field.day_hundreds * 2 ^ 32
    + v Field.binary_seconds * 2 ^ 36))))))))

module _ (v : Field → ℕ) (h : (f : Field) → v f < 2 ^ width f) where
  -- their bounds as numbers
  pub record Bounds : Type 0 where
    pub s1 : v Field.second_units < 16
    pub s10 : v Field.second_tens < 8
    pub m1 : v Field.minute_units < 16
    pub m10 : v Field.minute_tens < 8
    pub h1 : v Field.hour_units < 16
    pub h10 : v Field.hour_tens < 4
    pub d1 : v Field.day_units < 16
    pub d10 : v Field.day_tens < 16
    pub d100 : v Field.day_hundreds < 4
    pub seconds : v Field.binary_seconds < 131072

  pub bounds : Bounds
  unfolding width
  bounds =
      record {
        s1 = h Field.second_units;
        s10 = h Field.second_tens;
        m1 = h Field.minute_units;
        m10 = h Field.minute_tens;
        h1 = h Field.hour_units;
        h10 = h Field.hour_tens;
        d1 = h Field.day_units;
        d10 = h Field.day_tens;
        d100 = h Field.day_hundreds;
        seconds = h Field.binary_seconds;
      }

  -- each is found again
  pub together_at : (f : Field) → together v / 2 ^ field_shift f % 2 ^ width f ≡ v f
  unfolding together field_shift field_number width
  together_at Field.second_units = let b = bounds in simp div-one (omega arith)
  together_at Field.second_tens = let b = bounds in omega arith
  together_at Field.minute_units = let b = bounds in omega arith
  together_at Field.minute_tens = let b = bounds in omega arith
  together_at Field.hour_units = let b = bounds in omega arith
  together_at Field.hour_tens = let b = bounds in omega arith
  together_at Field.day_units = let b = bounds in omega arith
  together_at Field.day_tens = let b = bounds in omega arith
  together_at Field.day_hundreds = let b = bounds in omega arith
  together_at Field.binary_seconds = let b = bounds in omega arith

  pub together_small : together v < 2 ^ 53
  unfolding together
  together_small = let b = bounds in omega arith
