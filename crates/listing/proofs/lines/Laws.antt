-- Lines: a number in decimal, and texts put one behind the other.
-- By induction on the number of digits. Assumes nothing.
use Prim.Native.Nat.{ℕ, zero, suc, ◌+◌, ◌*◌, ◌/◌, ◌%◌, ◌^◌, ◌≤◌, ◌<◌}
use mathlib.Core.Path.{◌≡◌, refl, sym, ap, ap₂, ◌∙◌}
use mathlib.Core.Bool.{Bool, true, false}
use mathlib.Core.List.{List, [], ◌∷◌, ◌++◌, append_assoc}
use native.Mathlib.Nat.{pow-suc, one-le-pow, pow-le-pow_right, div-eq_of_lt, div-lt_iff_lt-mul, le-div_iff_mul-le, lt_of_lt_of_le, mul_comm}
use native.Mathlib.Numerals.{add-one}
use native.Mathlib.Omega.{arith}
use lib.Dec.{eqb}
use lib.ListN.{length, take, drop, get_or, set, length-append, length-drop, take-append-drop}
use lib.Seq.{take_all, take-suc, take_at, drop_at, drop-drop, length-take-le, set_split}
use borrow.Author.Tests.{ne_eqb}
use Rattle.wire.specs.Digits.{pick, digits}
use Rattle.wire.specs.Packets.{ascii}
use Rattle.wire.proofs.digits.Laws.{digits_length}
use Rattle.listing.specs.Listing.{trimmed, in_decimal, line, placed, Put, PutLine}

pos : (k : ℕ) → 0 < 10 ^ k
pos k = one-le-pow k 10 (omega arith)

-- DIGITS WITHOUT ZEROS IN FRONT

skip_one : (n k : ℕ) → n < 10 ^ suc k → trimmed (digits 10 (suc (suc k)) n) ≡ trimmed (digits 10 (suc k) n)
unfolding trimmed digits
skip_one n k h = simp (div-eq_of_lt h)

-- digits above a number are zeros
skip : (m n k : ℕ) → n < 10 ^ suc k → trimmed (digits 10 (m + suc k) n) ≡ trimmed (digits 10 (suc k) n)
skip zero n k h = ap (λ (x : ℕ). trimmed (digits 10 x n)) (let e : 0 + suc k ≡ suc k = omega arith in e)
skip (suc m) n k h =
    let e : suc m + suc k ≡ suc (suc (m + k)) = omega arith in
    let f : suc (m + k) ≡ m + suc k = omega arith in
    ap (λ (x : ℕ). trimmed (digits 10 x n)) e
    ∙ skip_one n (m + k) (lt_of_lt_of_le h (pow-le-pow_right (omega arith) (omega arith)))
    ∙ ap (λ (x : ℕ). trimmed (digits 10 x n)) f
    ∙ skip m n k h

first_digit : (n j : ℕ) → 10 ^ suc j ≤ n → n < 10 ^ suc (suc j) → n / 10 ^ suc j % 10 ≡ 0 → ⊥
first_digit n j l h e =
    let a : 1 ≤ n / 10 ^ suc j = (le-div_iff_mul-le (pos (suc j))).1 (let q : 1 * 10 ^ suc j ≤ n = omega arith in q) in
    let b : n / 10 ^ suc j < 10 = (div-lt_iff_lt-mul (pos (suc j))).1 (let q : n < 10 * 10 ^ suc j = rw (mul_comm 10 (10 ^ suc j), ← pow-suc 10 (suc j)) h in q) in
    omega arith

no_zero : (n k : ℕ) → n < 10 ^ suc k → ((j : ℕ) → suc k ≡ suc (suc j) → 10 ^ suc j ≤ n) → trimmed (digits 10 (suc k) n) ≡ digits 10 (suc k) n
unfolding trimmed digits
no_zero n zero h l = refl
no_zero n (suc j) h l = simp (ne_eqb (n / 10 ^ suc j % 10) 0 (first_digit n j (l j refl) h))

-- n has suc k digits
decimal : (m k n : ℕ) → m + suc k ≡ 20 → n < 10 ^ suc k → ((j : ℕ) → suc k ≡ suc (suc j) → 10 ^ suc j ≤ n) → in_decimal n ≡ ascii (digits 10 (suc k) n)
unfolding in_decimal
decimal m k n e h l = ap ascii (ap (λ (x : ℕ). trimmed (digits 10 x n)) (sym e) ∙ skip m n k h ∙ no_zero n k h l)

pub one_digit : (n : ℕ) → n < 10 → in_decimal n ≡ (48 + n) ∷ []
unfolding digits ascii
one_digit n h = decimal 19 0 n refl (let q : n < 10 ^ 1 = omega arith in q) (λ j e. absurd (omega arith)) ∙ ap (λ (x : ℕ). (48 + x) ∷ []) (let e : n / 10 ^ 0 % 10 ≡ n = omega arith in e)

pub two_digits : (n : ℕ) → 10 ≤ n → n < 100 → in_decimal n ≡ (48 + n / 10) ∷ (48 + n % 10) ∷ []
unfolding digits ascii
two_digits n g h =
    decimal 18 1 n refl (let q : n < 10 ^ 2 = omega arith in q) (λ j e. let z : j ≡ 0 = omega arith in rw z (let q : 10 ^ 1 ≤ n = omega arith in q))
    ∙ ap₂ (λ (x y : ℕ). (48 + x) ∷ (48 + y) ∷ []) (let e : n / 10 ^ 1 % 10 ≡ n / 10 = omega arith in e) (let e : n / 10 ^ 0 % 10 ≡ n % 10 = omega arith in e)

pub three_digits : (n : ℕ) → 100 ≤ n → n < 256 → in_decimal n ≡ (48 + n / 100) ∷ (48 + n / 10 % 10) ∷ (48 + n % 10) ∷ []
unfolding digits ascii
three_digits n g h =
    decimal 17 2 n refl (let q : n < 10 ^ 3 = omega arith in q) (λ j e. let z : j ≡ 1 = omega arith in rw z (let q : 10 ^ 2 ≤ n = omega arith in q))
    ∙ ap₂ (λ (x : ℕ) (l : List ℕ). (48 + x) ∷ l) (let e : n / 10 ^ 2 % 10 ≡ n / 100 = omega arith in e)
    (ap₂ (λ (x y : ℕ). (48 + x) ∷ (48 + y) ∷ []) (let e : n / 10 ^ 1 % 10 ≡ n / 10 % 10 = omega arith in e) (let e : n / 10 ^ 0 % 10 ≡ n % 10 = omega arith in e))

-- LENGTHS

ascii_length : (ds : List ℕ) → length (ascii ds) ≡ length ds
unfolding ascii
ascii_length [] = refl
ascii_length (d ∷ ds) = ap suc (ascii_length ds)

trimmed_step : (t : Bool) (a b : List ℕ) → length a ≤ length b → length (pick t a b) ≤ length b
trimmed_step true a b h = h
trimmed_step false a b h = omega arith

trimmed_length : (ds : List ℕ) → length (trimmed ds) ≤ length ds
unfolding trimmed
trimmed_length [] = omega arith
trimmed_length (d ∷ []) = omega arith
trimmed_length (d ∷ e ∷ ds) = trimmed_step (eqb d 0) (trimmed (e ∷ ds)) (d ∷ e ∷ ds) (omega (arith, trimmed_length (e ∷ ds)))

pub decimal_length : (n : ℕ) → length (in_decimal n) ≤ 20
unfolding in_decimal
decimal_length n = omega (arith, ascii_length (trimmed (digits 10 20 n)), trimmed_length (digits 10 20 n), digits_length 10 (omega arith) 20 n)

pub byte_length : (n : ℕ) → n < 256 → length (in_decimal n) ≤ 3
unfolding in_decimal
byte_length n h =
    let e : trimmed (digits 10 20 n) ≡ trimmed (digits 10 3 n) = skip 17 n 2 (let q : n < 10 ^ 3 = omega arith in q) in
    omega (arith, ascii_length (trimmed (digits 10 20 n)), ap length e, trimmed_length (digits 10 3 n), digits_length 10 (omega arith) 3 n)

-- TEXTS IN A ROW

module _ (row : List ℕ) (at : ℕ) where
  pub put_none : placed row at [] ≡ row
  put_none = ap (λ (x : ℕ). take at row ++ drop x row) (let e : at + 0 ≡ at = omega arith in e) ∙ take-append-drop at row

  pub placed_length : (text : List ℕ) → at + length text ≤ length row → length (placed row at text) ≡ length row
  placed_length text h =
      omega
      (arith, length-append (take at row) (text ++ drop (at + length text) row), length-append text (drop (at + length text) row), length-take-le at row (omega arith), length-drop (at + length text) row)

  -- a text behind another one
  pub placed_twice : (s t : List ℕ) → at + length s + length t ≤ length row → placed (placed row at s) (at + length s) t ≡ placed row at (s ++ t)
  placed_twice s t h =
      let front = take at row ++ s in
      let behind = drop (at + length s) row in
      let size : length front ≡ at + length s = omega (arith, length-append (take at row) s, length-take-le at row (omega arith)) in
      let whole : placed row at s ≡ front ++ behind = sym (append_assoc (take at row) s behind) in
      let first : take (at + length s) (placed row at s) ≡ front = ap (take (at + length s)) whole ∙ take_at front behind (at + length s) size in
      let later : drop (at + length s + length t) (placed row at s) ≡ drop (at + length (s ++ t)) row =
      sym (drop-drop (length t) (at + length s) (placed row at s))
      ∙ ap (drop (length t)) (ap (drop (at + length s)) whole ∙ drop_at front behind (at + length s) size)
      ∙ drop-drop (length t) (at + length s) row
      ∙ ap (λ (x : ℕ). drop x row) (let e : at + length s + length t ≡ at + length (s ++ t) = omega (arith, length-append s t) in e) in
      ap₂ (λ (a b : List ℕ). a ++ (t ++ b)) first later
      ∙ append_assoc (take at row) s (t ++ drop (at + length (s ++ t)) row)
      ∙ ap (λ (l : List ℕ). take at row ++ l) (sym (append_assoc s t (drop (at + length (s ++ t)) row)))

  placed_byte : (b : ℕ) → at < length row → set row at b ≡ placed row at (b ∷ [])
  placed_byte b h = set_split row at b h ∙ ap (λ (x : ℕ). take at row ++ (b ∷ drop x row)) (sym (add-one at))

-- one text behind another
put_twice : (a b c : List ℕ) (at r q : ℕ) (s t : List ℕ) → Put a at s b r → Put b r t c q → at + length s + length t ≤ length a → Put a at (s ++ t) c q
put_twice a b c at r q s t x y h =
    record {
      row = y.row ∙ ap₂ (λ (l : List ℕ) (n : ℕ). placed l n t) x.row x.behind ∙ placed_twice a at s t h;
      behind = omega (arith, y.behind, x.behind, length-append s t);
    }

-- a byte stored
pub stored_one : (row : List ℕ) (at x : ℕ) → at < length row → Put row at (x ∷ []) (set row at x) (at + 1)
stored_one row at x h = record { row = placed_byte row at x h; behind = refl }

-- DIGITS IN A ROW

ascii_append : (ds es : List ℕ) → ascii (ds ++ es) ≡ ascii ds ++ ascii es
unfolding ascii
ascii_append [] es = refl
ascii_append (d ∷ ds) es = ap (λ (l : List ℕ). (48 + d) ∷ l) (ascii_append ds es)

-- the first k digits are put
pub record Copied (ds before : List ℕ) (at : ℕ) (now : List ℕ) (k to : ℕ) : Type 0 where
  pub fits : at + length ds ≤ length before
  pub put : Put before at (ascii (take k ds)) now to

module _ (ds before : List ℕ) (at : ℕ) where
  pub copied_none : at + length ds ≤ length before → Copied ds before at before 0 at
  unfolding ascii
  copied_none h = record { fits = h; put = record { row = sym (put_none before at); behind = omega arith } }

  module _ (now : List ℕ) (k to : ℕ) (c : Copied ds before at now k to) (h : k ≤ length ds) where
    text_length : length (ascii (take k ds)) ≡ k
    text_length = ascii_length (take k ds) ∙ length-take-le k ds h

    pub copied_place : to ≡ at + k
    copied_place = omega (arith, text_length, c.put.behind)

    pub copied_length : length now ≡ length before
    copied_length = ap length c.put.row ∙ placed_length before at (ascii (take k ds)) (omega (arith, text_length, c.fits))

    pub copied_more : k < length ds → Copied ds before at (set now to (48 + get_or ds k 0)) (k + 1) (to + 1)
    unfolding ascii
    copied_more l =
        let byte = stored_one now to (48 + get_or ds k 0) (omega (arith, copied_place, copied_length, c.fits)) in
        let one_more : ascii (take k ds) ++ ((48 + get_or ds k 0) ∷ []) ≡ ascii (take (k + 1) ds) =
        sym (ap (λ (x : ℕ). ascii (take x ds)) (add-one k) ∙ ap ascii (take-suc ds k 0 l) ∙ ascii_append (take k ds) (get_or ds k 0 ∷ [])) in
        record {
          fits = c.fits;
          put =
              rw one_more at
              (put_twice before now (set now to (48 + get_or ds k 0)) at to (to + 1) (ascii (take k ds)) ((48 + get_or ds k 0) ∷ []) c.put byte
              (omega (arith, text_length, c.fits)));
        }

    pub copied_all : length ds ≤ k → Put before at (ascii ds) now to
    copied_all l = rw (take_all k ds l) at c.put

-- the four texts of a line
pub put_line_lem : (a b c d e : List ℕ) (at p q r s n answer : ℕ) → at + 25 ≤ length a → answer < 256 →
    Put a at (in_decimal n) b p → Put b p (0x20 ∷ []) c q → Put c q (in_decimal answer) d r → Put d r (0x0A ∷ []) e s → PutLine a at n answer e s
unfolding line
put_line_lem a b c d e at p q r s n answer h l w x y z =
    let f = decimal_length n in
    let g = byte_length answer l in
    let two = put_twice a b c at p q (in_decimal n) (0x20 ∷ []) w x (omega arith) in
    let three = put_twice a c d at q r (in_decimal n ++ (0x20 ∷ [])) (in_decimal answer) two y (omega (arith, length-append (in_decimal n) (0x20 ∷ []))) in
    let four =
    put_twice a d e at r s ((in_decimal n ++ (0x20 ∷ [])) ++ in_decimal answer) (0x0A ∷ []) three z
    (omega (arith, length-append (in_decimal n ++ (0x20 ∷ [])) (in_decimal answer), length-append (in_decimal n) (0x20 ∷ []))) in
    record {
      put = rw (append_assoc (in_decimal n ++ (0x20 ∷ [])) (in_decimal answer) (0x0A ∷ []), append_assoc (in_decimal n) (0x20 ∷ []) (in_decimal answer ++ (0x0A ∷ []))) at four;
      short = omega (arith, w.behind, x.behind, y.behind, z.behind);
    }
