-- The laws of digits, over the base and the number of digits: what is written reads back, and what reads back was written.
-- By induction on the number of digits, with division by a power of the base. Assumes nothing.
use Prim.Native.Nat.{ℕ, zero, suc, ◌+◌, ◌*◌, ◌/◌, ◌%◌, ◌^◌, ◌≤◌, ◌<◌, zero-le, suc-le-suc}
use mathlib.Core.Path.{◌≡◌, refl, sym, ◌∙◌, ap, ap₂}
use mathlib.Core.List.{List, [], ◌∷◌, ◌++◌, append_assoc}
use mathlib.Core.Bool.{Bool, true, false, ◌&&◌, ◌||◌}
use mathlib.Core.Logic.{◌⊎◌, inl, inr, ⊎_elim}
use native.Mathlib.Nat.{pow-zero, pow-suc, mul_comm, mul_assoc, mod-one, mod-lt, mod-eq_of_lt, div-add-mod', div-div-eq-div-mul, mul-add-div_right, mul-add-mod_self_right, one-le-pow, suc-add, add_comm, add-mul, add_assoc, zero-mul, suc-mul}
use native.Mathlib.Omega.{arith}
use lib.Arith.{digits_div, digits_mod, digits_lt, mod-mul}
use lib.Pow.{pow-add}
use lib.ListN.{length, take, drop, get_or, length-append, length-drop, take-append-drop, replicate}
use lib.Seq.{take_at, drop_at, length-take-le, drop-drop}
use lib.Dec.{eqb, ltb}
use borrow.Author.Tests.{eqb-true, ltb-true, lt-ltb}
use Rattle.wire.specs.Digits.{pick, digits, num, below, packed, unpacked}

pub and_left : (a b : Bool) → (a && b) ≡ true → a ≡ true
and_left true b e = refl
and_left false b e = e

pub and_right : (a b : Bool) → (a && b) ≡ true → b ≡ true
and_right true b e = e
and_right false b e = cc

-- both sides of an `and` that is true
pub and_both : (a b : Bool) → (a && b) ≡ true → (a ≡ true) × (b ≡ true)
and_both a b e = (and_left a b e, and_right a b e)

pub lt_or_le : (a b : ℕ) → (a < b) ⊎ (b ≤ a)
lt_or_le a zero = inr zero-le
lt_or_le zero (suc b) = inl (suc-le-suc zero-le)
lt_or_le (suc a) (suc b) = ⊎_elim (λ p. inl (suc-le-suc p)) (λ q. inr (suc-le-suc q)) (lt_or_le a b)

-- a number below m times c: how often c goes into it, and what is left
pub mod_div : (n : ℕ) {m c : ℕ} → 0 < m → 0 < c → n % (m * c) / c ≡ n / c % m
mod_div n {m} {c} p q = ap (λ (x : ℕ). x / c) (mod-mul n p q) ∙ digits_div (n / c % m) (mod-lt n q)

pub mod_mod_mul : (n : ℕ) {m c : ℕ} → 0 < m → 0 < c → n % (m * c) % c ≡ n % c
mod_mod_mul n {m} {c} p q = ap (λ (x : ℕ). x % c) (mod-mul n p q) ∙ digits_mod (n / c % m) (mod-lt n q)

-- each digit is one of the base
pub below_at : (b : ℕ) (ds : List ℕ) → below b ds ≡ true → (i : ℕ) → i < length ds → get_or ds i 0 < b
unfolding below
below_at b [] h i l = absurd (omega arith)
below_at b (d ∷ ds) h zero l = ltb-true d b (and_left (ltb d b) (below b ds) h)
below_at b (d ∷ ds) h (suc i) l = below_at b ds (and_right (ltb d b) (below b ds) h) i (omega arith)

pub and_assoc : (a b c : Bool) → ((a && b) && c) ≡ (a && (b && c))
and_assoc false b c = refl
and_assoc true b c = refl

pub and_true : (a : Bool) → (a && true) ≡ a
and_true false = refl
and_true true = refl

pub below_both : (b : ℕ) (ds es : List ℕ) → below b (ds ++ es) ≡ (below b ds && below b es)
unfolding below
below_both b [] es = refl
below_both b (d ∷ ds) es = ap (λ (t : Bool). ltb d b && t) (below_both b ds es) ∙ sym (and_assoc (ltb d b) (below b ds) (below b es))

pub below_append : (b : ℕ) (ds es : List ℕ) → below b ds ≡ true → below b es ≡ true → below b (ds ++ es) ≡ true
below_append b ds es h i = simp (below_both b ds es, h, i)

pub below_take : (b k : ℕ) (ds : List ℕ) → below b ds ≡ true → below b (take k ds) ≡ true
unfolding below
below_take b zero ds h = refl
below_take b (suc k) [] h = refl
below_take b (suc k) (d ∷ ds) h =
    simp (and_left (ltb d b) (below b ds) h, below_take b k ds (and_right (ltb d b) (below b ds) h))

pub below_drop : (b k : ℕ) (ds : List ℕ) → below b ds ≡ true → below b (drop k ds) ≡ true
unfolding below
below_drop b zero ds h = h
below_drop b (suc k) [] h = refl
below_drop b (suc k) (d ∷ ds) h = below_drop b k ds (and_right (ltb d b) (below b ds) h)

-- digits are below a base if each is
pub below_each : (b : ℕ) (ds : List ℕ) → ((i : ℕ) → get_or ds i 0 < b) → below b ds ≡ true
unfolding below
below_each b [] h = refl
below_each b (d ∷ ds) h = simp (lt-ltb d b (h 0)) (below_each b ds (λ i. h (suc i)))

-- a list from a place on: its next k elements, and the rest
pub cut : (i k : ℕ) (ds : List ℕ) → drop i ds ≡ take k (drop i ds) ++ drop (i + k) ds
cut i k ds = sym (ap (λ (l : List ℕ). take k (drop i ds) ++ l) (sym (drop-drop k i ds)) ∙ take-append-drop k (drop i ds))

-- digits of one base are digits of a larger one
pub below_more : (b c : ℕ) → b ≤ c → (ds : List ℕ) → below b ds ≡ true → below c ds ≡ true
unfolding below
below_more b c q [] h = refl
below_more b c q (d ∷ ds) h =
    let l : d < b = ltb-true d b (and_left (ltb d b) (below b ds) h) in
    simp (lt-ltb d c (omega arith), below_more b c q ds (and_right (ltb d b) (below b ds) h))

pub zeros_below : (k : ℕ) → below 1 (replicate k 0) ≡ true
unfolding below
zeros_below zero = refl
zeros_below (suc k) = zeros_below k

-- digits of base 1 are zeros
pub zeros : (ds : List ℕ) → below 1 ds ≡ true → ds ≡ replicate (length ds) 0
unfolding below
zeros [] h = refl
zeros (d ∷ ds) h =
    let z : d < 1 = ltb-true d 1 (and_left (ltb d 1) (below 1 ds) h) in
    let e : d ≡ 0 = omega arith in
    ap₂ (λ (x : ℕ) (l : List ℕ). x ∷ l) e (zeros ds (and_right (ltb d 1) (below 1 ds) h))

module _ (b : ℕ) (p : 0 < b) where
  pow_pos : (k : ℕ) → 0 < b ^ k
  pow_pos k = one-le-pow k b p

  pub digits_length : (k n : ℕ) → length (digits b k n) ≡ k
  unfolding digits
  digits_length zero n = refl
  digits_length (suc k) n = ap suc (digits_length k n)

  -- k digits do not see what stands above them
  pub digits_above : (k m r : ℕ) → digits b k (m * b ^ k + r) ≡ digits b k r
  unfolding digits
  digits_above zero m r = refl
  digits_above (suc k) m r =
      let e : m * b ^ suc k + r ≡ m * b * b ^ k + r = rw (pow-suc b k, mul_comm (b ^ k) b, ← mul_assoc m b (b ^ k)) refl in
      rw e
      (rw (mul-add-div_right (pow_pos k) (m * b) r, mul-add-mod_self_right m b (r / b ^ k))
      (ap (λ (l : List ℕ). r / b ^ k % b ∷ l) (digits_above k (m * b) r)))

  pub digits_mod_pow : (k n : ℕ) → digits b k (n % b ^ k) ≡ digits b k n
  digits_mod_pow k n = sym (digits_above k (n / b ^ k) (n % b ^ k)) ∙ ap (digits b k) (div-add-mod' n (b ^ k))

  -- the number that k digits of n write is n below b ^ k
  pub num_digits : (k n : ℕ) → num b (digits b k n) ≡ n % b ^ k
  unfolding digits num
  num_digits zero n = sym (ap (λ (x : ℕ). n % x) (pow-zero b) ∙ mod-one n)
  num_digits (suc k) n =
      rw (digits_length k n, num_digits k n, pow-suc b k, mul_comm (b ^ k) b) (sym (mod-mul n p (pow_pos k)))

  pub written : (k n : ℕ) → n < b ^ k → num b (digits b k n) ≡ n
  written k n h = num_digits k n ∙ mod-eq_of_lt h

  pub num_below : (ds : List ℕ) → below b ds ≡ true → num b ds < b ^ length ds
  unfolding num below
  num_below [] h = pow_pos 0
  num_below (d ∷ ds) h =
      rw (pow-suc b (length ds), mul_comm (b ^ length ds) b)
      (digits_lt (ltb-true d b (and_left (ltb d b) (below b ds) h)) (num_below ds (and_right (ltb d b) (below b ds) h)))

  -- digits of base b that are written are read
  pub read : (ds : List ℕ) → below b ds ≡ true → digits b (length ds) (num b ds) ≡ ds
  unfolding digits num below
  read [] h = refl
  read (d ∷ ds) h =
      let t : below b ds ≡ true = and_right (ltb d b) (below b ds) h in
      rw (digits_div d (num_below ds t), mod-eq_of_lt (ltb-true d b (and_left (ltb d b) (below b ds) h)), digits_above (length ds) d (num b ds))
      (ap (λ (l : List ℕ). d ∷ l) (read ds t))

  -- k digits in the middle of others, written and read
  pub read_part : (i k : ℕ) (ds : List ℕ) → i + k ≤ length ds → below b ds ≡ true → digits b k (num b (take k (drop i ds))) ≡ take k (drop i ds)
  read_part i k ds l h =
      let n : length (take k (drop i ds)) ≡ k = length-take-le k (drop i ds) (simp length-drop (omega arith)) in
      ap (λ (j : ℕ). digits b j (num b (take k (drop i ds)))) (sym n) ∙ read (take k (drop i ds)) (below_take b k (drop i ds) (below_drop b i ds h))

  -- and the number they write is small
  pub part_below : (i k : ℕ) (ds : List ℕ) → i + k ≤ length ds → below b ds ≡ true → num b (take k (drop i ds)) < b ^ k
  part_below i k ds l h =
      let n : length (take k (drop i ds)) ≡ k = length-take-le k (drop i ds) (simp length-drop (omega arith)) in
      rw n at (num_below (take k (drop i ds)) (below_take b k (drop i ds) (below_drop b i ds h)))

  pub digits_below : (k n : ℕ) → below b (digits b k n) ≡ true
  unfolding digits below
  digits_below zero n = refl
  digits_below (suc k) n = simp (lt-ltb (n / b ^ k % b) b (mod-lt (n / b ^ k) p), digits_below k n)

  -- the digits above the lowest k, and those
  pub digits_split : (j k n : ℕ) → digits b (j + k) n ≡ digits b j (n / b ^ k) ++ digits b k n
  unfolding digits
  digits_split zero k n = ap (λ (m : ℕ). digits b m n) (let e : 0 + k ≡ k = omega arith in e)
  digits_split (suc j) k n =
      rw (suc-add j k, div-div-eq-div-mul n (b ^ k) (b ^ j), mul_comm (b ^ k) (b ^ j), ← pow-add b j k)
      (ap (λ (l : List ℕ). n / b ^ (j + k) % b ∷ l) (digits_split j k n))

  pub num_append : (ds es : List ℕ) → num b (ds ++ es) ≡ num b ds * b ^ length es + num b es
  unfolding num
  num_append [] es = omega arith
  num_append (d ∷ ds) es =
      rw (length-append ds es, pow-add b (length ds) (length es), num_append ds es, add-mul (d * b ^ length ds) (num b ds) (b ^ length es), mul_assoc d (b ^ length ds) (b ^ length es))
      (sym (add_assoc (d * (b ^ length ds * b ^ length es)) (num b ds * b ^ length es) (num b es)))

  pub unpacked_length : (k : ℕ) (ws : List ℕ) → length (unpacked b k ws) ≡ length ws * k
  unfolding unpacked
  unpacked_length k [] = sym (zero-mul k)
  unpacked_length k (w ∷ ws) = rw (length-append (digits b k w) (unpacked b k ws), digits_length k w, unpacked_length k ws, suc-mul (length ws) k) (omega arith)

  pub unpacked_append : (k : ℕ) (ws vs : List ℕ) → unpacked b k (ws ++ vs) ≡ unpacked b k ws ++ unpacked b k vs
  unfolding unpacked
  unpacked_append k [] vs = refl
  unpacked_append k (w ∷ ws) vs = ap (λ (l : List ℕ). digits b k w ++ l) (unpacked_append k ws vs) ∙ sym (append_assoc (digits b k w) (unpacked b k ws) (unpacked b k vs))

  powers : (j k : ℕ) → (b ^ j) ^ k ≡ b ^ (k * j)
  powers j zero = pow-zero (b ^ j) ∙ sym (ap (λ (m : ℕ). b ^ m) (zero-mul j) ∙ pow-zero b)
  powers j (suc k) =
      pow-suc (b ^ j) k ∙ ap (λ (m : ℕ). m * b ^ j) (powers j k) ∙ sym (pow-add b (k * j) j) ∙ ap (λ (m : ℕ). b ^ m) (sym (suc-mul k j))

  -- a digit of base b ^ j is j digits of base b
  pub digits_of_digits : (j k n : ℕ) → unpacked b j (digits (b ^ j) k n) ≡ digits b (k * j) n
  unfolding digits unpacked
  digits_of_digits j zero n = ap (λ (m : ℕ). digits b m n) (sym (zero-mul j))
  digits_of_digits j (suc k) n =
      ap₂ ◌++◌ (ap (λ (m : ℕ). digits b j (n / m % b ^ j)) (powers j k) ∙ digits_mod_pow j (n / b ^ (k * j))) (digits_of_digits j k n)
      ∙ sym (digits_split j (k * j) n)
      ∙ ap (λ (m : ℕ). digits b m n) (sym (suc-mul k j ∙ add_comm (k * j) j))

  -- words are packed digits: k digits to a word, and the same digits again
  pub unpack_packed : (k m : ℕ) (ds : List ℕ) → length ds ≡ m * k → below b ds ≡ true → unpacked b k (packed b k m ds) ≡ ds
  unfolding packed unpacked
  unpack_packed k zero [] l h = refl
  unpack_packed k zero (d ∷ ds) l h = absurd (let z : suc (length ds) ≡ 0 = l ∙ zero-mul k in omega arith)
  unpack_packed k (suc m) ds l h =
      let e : length ds ≡ m * k + k = l ∙ suc-mul m k in
      let t : length (take k ds) ≡ k = length-take-le k ds (omega arith) in
      let u : length (drop k ds) ≡ m * k = simp length-drop (omega arith) in
      ap (λ (j : ℕ). digits b j (num b (take k ds)) ++ unpacked b k (packed b k m (drop k ds))) (sym t)
      ∙ ap (λ (l : List ℕ). l ++ unpacked b k (packed b k m (drop k ds))) (read (take k ds) (below_take b k ds h))
      ∙ ap (λ (l : List ℕ). take k ds ++ l) (unpack_packed k m (drop k ds) u (below_drop b k ds h))
      ∙ take-append-drop k ds

  -- and every word is that of its digits
  pub pack_unpacked : (k : ℕ) (ws : List ℕ) → below (b ^ k) ws ≡ true → packed b k (length ws) (unpacked b k ws) ≡ ws
  unfolding packed unpacked below
  pack_unpacked k [] h = refl
  pack_unpacked k (w ∷ ws) h =
      rw (take_at (digits b k w) (unpacked b k ws) k (digits_length k w), drop_at (digits b k w) (unpacked b k ws) k (digits_length k w), written k w (ltb-true w (b ^ k) (and_left (ltb w (b ^ k)) (below (b ^ k) ws) h)))
      (ap (λ (l : List ℕ). w ∷ l) (pack_unpacked k ws (and_right (ltb w (b ^ k)) (below (b ^ k) ws) h)))

pub packed_length : (b k m : ℕ) (ds : List ℕ) → length (packed b k m ds) ≡ m
unfolding packed
packed_length b k zero ds = refl
packed_length b k (suc m) ds = ap suc (packed_length b k m (drop k ds))

-- TESTS AND CHOICES

pub clash : {A : Type 0} → true ≡ false → A
clash e = let z : ◌≡◌ {A = ℕ} 0 1 = cc in absurd (omega arith)

pub or_assoc : (a b c : Bool) → ((a || b) || c) ≡ (a || (b || c))
or_assoc true b c = refl
or_assoc false b c = refl

pub or_left : (s t : Bool) → (s || t) ≡ false → s ≡ false
or_left false t e = refl
or_left true t e = e

pub or_right : (s t : Bool) → (s || t) ≡ false → t ≡ false
or_right false t e = e
or_right true t e = cc

-- a choice, seen through a function
pub picked : {A B : Type 0} (f : A → B) (t : Bool) (a b : A) → f (pick t a b) ≡ pick t (f a) (f b)
picked f true a b = refl
picked f false a b = refl

-- 0 where a number is 0, and else that number, is that number
pub zero_or : (n : ℕ) (t : Bool) → eqb n 0 ≡ t → pick t 0 n ≡ n
zero_or n true e = sym (eqb-true n 0 e)
zero_or n false e = refl
