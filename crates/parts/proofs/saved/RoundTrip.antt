-- Saved settings, there and back. What was saved is loaded as the same settings; what is loaded is lawful, and is saved as the same five bytes.
-- By the laws of digits. Assumes nothing.
use Prim.Native.Nat.{ℕ, zero, suc, ◌+◌, ◌*◌, ◌/◌, ◌%◌, ◌≤◌, ◌<◌}
use mathlib.Core.Path.{◌≡◌, refl, sym, ◌∙◌, ap}
use mathlib.Core.Bool.{Bool, true, ◌&&◌, not}
use mathlib.Core.List.{List, [], ◌∷◌, ◌++◌, append_assoc}
use native.Mathlib.Omega.{arith}
use lib.Dec.{leb, eqb, lit<, eqb-suc-zero}
use lib.IntN.{ℤ, pos, negsuc, nat_abs}
use lib.ListN.{length, take, drop, replicate, length-drop}
use borrow.Author.Tests.{leb-true, eqb-true, not-false}
use Rattle.wire.specs.Digits.{digits, below, packed, unpacked}
use Rattle.wire.proofs.numbers.Laws.{given_zero, quiet_first}
use Rattle.wire.specs.declared.packets.Format.{Format}
use Rattle.wire.proofs.digits.Laws.{and_left, and_right, and_both, zeros, cut, below_append, digits_length, digits_below, read_part, part_below, unpack_packed, pack_unpacked, packed_length, unpacked_length}
use Rattle.parts.specs.declared.settings.Settings.{Settings}
use Rattle.parts.specs.Settings.{settings_lawful}
use Rattle.parts.specs.Saved.{format_number, modulation_bit, clock_bit, generator_bit, sign_bit, settings_bits, saved_form, bits_at, format_of_number, modulation_of_bit, clock_of_bit, generator_of_bit, offset_of_bits, settings_in, meaningful, saved_lines, saved_refusal, format_back, modulation_back, clock_back, generator_back}
use Rattle.parts.proofs.saved.Laws.{bits_of, number_bits, mode_small, size_small, format_below, modulation_below, clock_below, generator_below, sign_below, settings_at, meaningful_at}

-- SAVED, THEN LOADED

format_four : (f : Format) → leb (format_number f) 4 ≡ true
format_four Format.A = refl
format_four Format.B = refl
format_four Format.C = refl
format_four Format.N = refl
format_four Format.X = refl

offset_back : (z : ℤ) → offset_of_bits (sign_bit z) (nat_abs z) ≡ z
offset_back (pos n) = refl
offset_back (negsuc n) = refl

no_minus_zero : (z : ℤ) → not (eqb (sign_bit z) 1 && eqb (nat_abs z) 0) ≡ true
no_minus_zero (pos n) = refl
no_minus_zero (negsuc n) = ap not (eqb-suc-zero n)

-- a number's fields, and that its spare bits are zero
record Fields (n m f d c g t z : ℕ) : Type 0 where
  mode : n / 137438953472 % 8 ≡ m
  format : n / 17179869184 % 8 ≡ f
  modulation : n / 8589934592 % 2 ≡ d
  clock : n / 4294967296 % 2 ≡ c
  generator : n / 2147483648 % 2 ≡ g
  sign : n / 1073741824 % 2 ≡ t
  size : n / 64 % 16777216 ≡ z
  spare : n % 64 ≡ 0

taken_apart : (m f d c g t z : ℕ) → m < 8 → f < 8 → d < 2 → c < 2 → g < 2 → t < 2 → z < 16777216 →
    Fields (((((((m * 8 + f) * 2 + d) * 2 + c) * 2 + g) * 2 + t) * 16777216 + z) * 64) m f d c g t z
taken_apart m f d c g t z hm hf hd hc hg ht hz = omega arith

module _ (s : Settings) (w : settings_lawful s ≡ true) where
  abbrev bits : List ℕ
  bits = digits 2 40 (bits_of s)

  saved_bits : unpacked 2 8 (saved_form s) ≡ bits
  unfolding saved_form
  saved_bits =
      ap (λ (l : List ℕ). unpacked 2 8 (packed 2 8 5 l)) (sym (number_bits s w))
      ∙ unpack_packed 2 (lit< tt) 8 5 bits (digits_length 2 (lit< tt) 40 (bits_of s)) (digits_below 2 (lit< tt) 40 (bits_of s))

  apart : Fields (bits_of s) s.mode (format_number s.format) (modulation_bit s.modulation) (clock_bit s.clock) (generator_bit s.generator) (sign_bit s.offset) (nat_abs s.offset)
  apart =
      taken_apart s.mode (format_number s.format) (modulation_bit s.modulation) (clock_bit s.clock) (generator_bit s.generator) (sign_bit s.offset) (nat_abs s.offset)
      (mode_small s w) (format_below s.format) (modulation_below s.modulation) (clock_below s.clock) (generator_below s.generator) (sign_below s.offset) (omega (arith, size_small s w))

  settings_back : settings_in bits ≡ s
  settings_back =
      settings_at (bits_of s)
      ∙ simp (apart.mode, apart.format, apart.modulation, apart.clock, apart.generator, apart.sign, apart.size, format_back, modulation_back, clock_back, generator_back, offset_back)

  meaningful_back : meaningful bits ≡ true
  meaningful_back =
      meaningful_at (bits_of s)
      ∙ simp (settings_back, w, apart.format, apart.sign, apart.size, apart.spare, format_four, no_minus_zero)

  -- what was saved is not refused, and is loaded as the same settings
  pub load_saved : (saved_refusal (saved_form s) ≡ 0) × (settings_in (unpacked 2 8 (saved_form s)) ≡ s)
  unfolding saved_refusal saved_form packed
  load_saved = (simp (saved_bits, meaningful_back), ap settings_in saved_bits ∙ settings_back)

-- the form has five bytes
pub form_five : (s : Settings) → length (saved_form s) ≡ 5
unfolding saved_form
form_five s = packed_length 2 8 5 (settings_bits s ++ replicate 6 0)

-- LOADED, THEN SAVED

unpacked_below : (k : ℕ) (ws : List ℕ) → below 2 (unpacked 2 k ws) ≡ true
unfolding unpacked below
unpacked_below k [] = refl
unpacked_below k (w ∷ ws) = below_append 2 (digits 2 k w) (unpacked 2 k ws) (digits_below 2 (lit< tt) k w) (unpacked_below k ws)

format_again : (n : ℕ) → n ≤ 4 → format_number (format_of_number n) ≡ n
format_again zero h = refl
format_again (suc zero) h = refl
format_again (suc (suc zero)) h = refl
format_again (suc (suc (suc zero))) h = refl
format_again (suc (suc (suc (suc zero)))) h = refl
format_again (suc (suc (suc (suc (suc n))))) h = absurd (omega arith)

modulation_again : (n : ℕ) → n < 2 → modulation_bit (modulation_of_bit n) ≡ n
modulation_again zero h = refl
modulation_again (suc zero) h = refl
modulation_again (suc (suc n)) h = absurd (omega arith)

clock_again : (n : ℕ) → n < 2 → clock_bit (clock_of_bit n) ≡ n
clock_again zero h = refl
clock_again (suc zero) h = refl
clock_again (suc (suc n)) h = absurd (omega arith)

generator_again : (n : ℕ) → n < 2 → generator_bit (generator_of_bit n) ≡ n
generator_again zero h = refl
generator_again (suc zero) h = refl
generator_again (suc (suc n)) h = absurd (omega arith)

sign_again : (sign size : ℕ) → sign < 2 → not (eqb sign 1 && eqb size 0) ≡ true → sign_bit (offset_of_bits sign size) ≡ sign
sign_again zero size h e = refl
sign_again (suc zero) zero h e = absurd (let q : ◌≡◌ {A = ℕ} 0 1 = cc in omega arith)
sign_again (suc zero) (suc n) h e = refl
sign_again (suc (suc n)) size h e = absurd (omega arith)

size_again : (sign size : ℕ) → sign < 2 → nat_abs (offset_of_bits sign size) ≡ size
size_again zero size h = refl
size_again (suc zero) zero h = refl
size_again (suc zero) (suc n) h = refl
size_again (suc (suc n)) size h = absurd (omega arith)

module _ (bs : List ℕ) (l : length bs ≡ 40) (h : below 2 bs ≡ true) (m : meaningful bs ≡ true) where
  four : leb (bits_at 3 3 bs) 4 ≡ true
  unfolding meaningful
  four = and_left (leb (bits_at 3 3 bs) 4) (settings_lawful (settings_in bs) && (not (eqb (bits_at 9 1 bs) 1 && eqb (bits_at 10 24 bs) 0) && below 1 (drop 34 bs))) m

  behind_format : (settings_lawful (settings_in bs) && (not (eqb (bits_at 9 1 bs) 1 && eqb (bits_at 10 24 bs) 0) && below 1 (drop 34 bs))) ≡ true
  unfolding meaningful
  behind_format = and_right (leb (bits_at 3 3 bs) 4) (settings_lawful (settings_in bs) && (not (eqb (bits_at 9 1 bs) 1 && eqb (bits_at 10 24 bs) 0) && below 1 (drop 34 bs))) m

  lawful_in : settings_lawful (settings_in bs) ≡ true
  lawful_in = and_left (settings_lawful (settings_in bs)) (not (eqb (bits_at 9 1 bs) 1 && eqb (bits_at 10 24 bs) 0) && below 1 (drop 34 bs)) behind_format

  behind_lawful : (not (eqb (bits_at 9 1 bs) 1 && eqb (bits_at 10 24 bs) 0) && below 1 (drop 34 bs)) ≡ true
  behind_lawful = and_right (settings_lawful (settings_in bs)) (not (eqb (bits_at 9 1 bs) 1 && eqb (bits_at 10 24 bs) 0) && below 1 (drop 34 bs)) behind_format

  signed : not (eqb (bits_at 9 1 bs) 1 && eqb (bits_at 10 24 bs) 0) ≡ true
  signed = and_left (not (eqb (bits_at 9 1 bs) 1 && eqb (bits_at 10 24 bs) 0)) (below 1 (drop 34 bs)) behind_lawful

  end : drop 34 bs ≡ replicate 6 0
  end =
      zeros (drop 34 bs) (and_right (not (eqb (bits_at 9 1 bs) 1 && eqb (bits_at 10 24 bs) 0)) (below 1 (drop 34 bs)) behind_lawful)
      ∙ ap (λ (k : ℕ). replicate k 0) (let q : length (drop 34 bs) ≡ 6 = simp length-drop (omega arith) in q)

  -- k bits at the place i, read and written
  field : (i k : ℕ) → i + k ≤ length bs → digits 2 k (bits_at i k bs) ≡ take k (drop i bs)
  unfolding bits_at
  field i k q = read_part 2 (lit< tt) i k bs q h

  bit : (i : ℕ) → i + 1 ≤ length bs → bits_at i 1 bs < 2
  unfolding bits_at
  bit i q = part_below 2 (lit< tt) i 1 bs q h

  bits_again : settings_bits (settings_in bs) ++ replicate 6 0 ≡ bs
  unfolding settings_bits settings_in
  bits_again =
      simp (format_again (bits_at 3 3 bs) (leb-true (bits_at 3 3 bs) 4 four), modulation_again (bits_at 6 1 bs) (bit 6 (omega arith)), clock_again (bits_at 7 1 bs) (bit 7 (omega arith)), generator_again (bits_at 8 1 bs) (bit 8 (omega arith)), sign_again (bits_at 9 1 bs) (bits_at 10 24 bs) (bit 9 (omega arith)) signed, size_again (bits_at 9 1 bs) (bits_at 10 24 bs) (bit 9 (omega arith)), field 0 3 (omega arith), field 3 3 (omega arith), field 6 1 (omega arith), field 7 1 (omega arith), field 8 1 (omega arith), field 9 1 (omega arith), field 10 24 (omega arith), append_assoc)
      (cc (end, cut 0 3 bs, cut 3 3 bs, cut 6 1 bs, cut 7 1 bs, cut 8 1 bs, cut 9 1 bs, cut 10 24 bs))

module _ (bytes : List ℕ) (b : below 256 bytes ≡ true) (r : saved_refusal bytes ≡ 0) where
  tested : (eqb (length bytes) 5 ≡ true) × (meaningful (unpacked 2 8 bytes) ≡ true)
  unfolding saved_refusal
  tested =
      let t : Bool = eqb (length bytes) 5 && meaningful (unpacked 2 8 bytes) in
      and_both (eqb (length bytes) 5) (meaningful (unpacked 2 8 bytes)) (not-false t (quiet_first (not t) true ((given_zero (saved_lines bytes) refl).0 r)).0)

  five : length bytes ≡ 5
  five = eqb-true (length bytes) 5 tested.0

  forty : length (unpacked 2 8 bytes) ≡ 40
  forty = unpacked_length 2 (lit< tt) 8 bytes ∙ ap (λ (k : ℕ). k * 8) five

  -- what is loaded is saved as the same five bytes
  pub save_loaded : saved_form (settings_in (unpacked 2 8 bytes)) ≡ bytes
  unfolding saved_form
  save_loaded =
      ap (packed 2 8 5) (bits_again (unpacked 2 8 bytes) forty (unpacked_below 8 bytes) tested.1)
      ∙ ap (λ (k : ℕ). packed 2 8 k (unpacked 2 8 bytes)) (sym five)
      ∙ pack_unpacked 2 (lit< tt) 8 bytes b

-- whatever passes the test of a load is lawful
pub loaded_lawful : (bytes : List ℕ) → eqb (length bytes) 5 && meaningful (unpacked 2 8 bytes) ≡ true → settings_lawful (settings_in (unpacked 2 8 bytes)) ≡ true
unfolding meaningful
loaded_lawful bytes e =
    let m = (and_both (eqb (length bytes) 5) (meaningful (unpacked 2 8 bytes)) e).1 in
    let a = and_both (leb (bits_at 3 3 (unpacked 2 8 bytes)) 4) _ m in
    (and_both (settings_lawful (settings_in (unpacked 2 8 bytes))) _ a.1).0
