-- What the code of saved settings rests on: forty bits are the digits of one number, each field stands at its place in it, and so does each byte.
-- By the laws of digits. Assumes nothing.
use Prim.Native.Nat.{ℕ, suc, ◌+◌, ◌*◌, ◌/◌, ◌%◌, ◌^◌, ◌≤◌, ◌<◌}
use mathlib.Core.Path.{◌≡◌, refl, sym, ◌∙◌, ap, ap₂}
use mathlib.Core.Bool.{Bool, true, false, ◌&&◌, not}
use mathlib.Core.List.{List, [], ◌∷◌, ◌++◌, append_assoc, append-nil}
use native.Mathlib.Nat.{div-one}
use native.Mathlib.Omega.{arith}
use lib.Arith.{digits_div}
use lib.Dec.{leb, ltb, eqb, lit<}
use lib.IntN.{ℤ, pos, negsuc, nat_abs}
use lib.Signed.{lt_z}
use lib.ListN.{length, take, drop, get_or, replicate}
use lib.Seq.{take_at, drop_at}
use borrow.Author.Tests.{ltb-true, leb-true, eq-eqb, eqb-true, ne_eqb}
use Rattle.wire.specs.Digits.{pick, digits, num, below, packed, unpacked}
use Rattle.wire.specs.Packets.{mode_means, pair_means, offset_fits}
use Rattle.wire.proofs.digits.Laws.{and_left, and_right, zeros, digits_length, digits_above, digits_mod_pow, digits_split, num_digits}
use Rattle.wire.specs.declared.packets.Format.{Format}
use Rattle.wire.specs.declared.packets.Modulation.{Modulation}
use Rattle.wire.specs.declared.packets.ClockSource.{ClockSource}
use Rattle.wire.specs.declared.packets.Generator.{Generator}
use Rattle.wire.proofs.words.Laws.{five_of}
use Rattle.parts.specs.declared.settings.Settings.{Settings}
use Rattle.std.specs.Prelude.{Option, Some, None}
use Rattle.std.specs.Int.{w64, to_be_bytes, from_be_bytes}
use Rattle.parts.specs.Settings.{settings_lawful}
use Rattle.parts.specs.Saved.{format_number, modulation_bit, clock_bit, generator_bit, sign_bit, settings_bits, saved_form, bits_at, format_of_number, modulation_of_bit, clock_of_bit, generator_of_bit, offset_of_bits, settings_in, meaningful, saved_refusal, read_bits, read_saved}

-- DIGITS AT A PLACE

module _ (b : ℕ) (p : 0 < b) where
  -- the digits of two numbers, one behind the other, are those of one number
  pub join : (j k m r : ℕ) → r < b ^ k → digits b (j + k) (m * b ^ k + r) ≡ digits b j m ++ digits b k r
  join j k m r h =
      digits_split b p j k (m * b ^ k + r)
      ∙ ap₂ (λ (x : ℕ) (l : List ℕ). digits b j x ++ l) (digits_div m h) (digits_above b p k m r)

  -- digits from the place i on, with j behind it
  pub behind : (i j n : ℕ) → drop i (digits b (i + j) n) ≡ digits b j n
  behind i j n = ap (drop i) (digits_split b p i j n) ∙ drop_at (digits b i (n / b ^ j)) (digits b j n) i (digits_length b p i (n / b ^ j))

  -- the first k digits, with j behind them
  pub front : (k j n : ℕ) → num b (take k (digits b (k + j) n)) ≡ n / b ^ j % b ^ k
  front k j n =
      ap (λ (l : List ℕ). num b (take k l)) (digits_split b p k j n)
      ∙ ap (num b) (take_at (digits b k (n / b ^ j)) (digits b j n) k (digits_length b p k (n / b ^ j)))
      ∙ num_digits b p k (n / b ^ j)

  -- k digits at the place i, with j behind them
  pub at : (i k j n : ℕ) → num b (take k (drop i (digits b (i + (k + j)) n))) ≡ n / b ^ j % b ^ k
  at i k j n = ap (λ (l : List ℕ). num b (take k l)) (behind i (k + j) n) ∙ front k j n

  -- digits handed over in words
  pub word : (k m j n : ℕ) → packed b k (suc m) (digits b (k + j) n) ≡ n / b ^ j % b ^ k ∷ packed b k m (digits b j n)
  unfolding packed
  word k m j n = ap₂ (λ (x : ℕ) (l : List ℕ). x ∷ packed b k m l) (front k j n) (behind k j n)

-- THE FORTY BITS AS A NUMBER

abbrev two : 0 < 2
two = lit< tt

-- the bytes of a number
pub bytes_of : (n : ℕ) →
    packed 2 8 5 (digits 2 40 n)
    ≡ n / 4294967296 % 256 ∷ n / 16777216 % 256 ∷ n / 65536 % 256 ∷ n / 256 % 256 ∷ n % 256 ∷ []
unfolding packed
bytes_of n = rw (word 2 two 8 4 32 n, word 2 two 8 3 24 n, word 2 two 8 2 16 n, word 2 two 8 1 8 n, word 2 two 8 0 0 n, div-one n)

-- and the number of bytes
pub number_in : (a b c d e : ℕ) → b < 256 → c < 256 → d < 256 → e < 256 →
    digits 2 40 ((((a * 256 + b) * 256 + c) * 256 + d) * 256 + e) ≡ unpacked 2 8 (a ∷ b ∷ c ∷ d ∷ e ∷ [])
unfolding unpacked
number_in a b c d e hb hc hd he =
    rw (join 2 two 32 8 (((a * 256 + b) * 256 + c) * 256 + d) e he, join 2 two 24 8 ((a * 256 + b) * 256 + c) d hd, join 2 two 16 8 (a * 256 + b) c hc, join 2 two 8 8 a b hb)
    (simp (append_assoc, append-nil))

spare_bits : (x : ℕ) → digits 2 40 (x * 64) ≡ digits 2 34 x ++ replicate 6 0
unfolding digits
spare_bits x = ap (digits 2 40) (let e : x * 64 ≡ x * 64 + 0 = omega arith in e) ∙ join 2 two 34 6 x 0 (lit< tt)

-- the fields, one behind the other, and six zeros
pub fields : (m f d c g t z : ℕ) → f < 8 → d < 2 → c < 2 → g < 2 → t < 2 → z < 16777216 →
    digits 2 40 (((((((m * 8 + f) * 2 + d) * 2 + c) * 2 + g) * 2 + t) * 16777216 + z) * 64)
    ≡ (digits 2 3 m ++ (digits 2 3 f ++ (digits 2 1 d ++ (digits 2 1 c ++ (digits 2 1 g ++ (digits 2 1 t ++ digits 2 24 z)))))) ++ replicate 6 0
fields m f d c g t z hf hd hc hg ht hz =
    rw (spare_bits ((((((m * 8 + f) * 2 + d) * 2 + c) * 2 + g) * 2 + t) * 16777216 + z), join 2 two 10 24 (((((m * 8 + f) * 2 + d) * 2 + c) * 2 + g) * 2 + t) z hz, join 2 two 9 1 ((((m * 8 + f) * 2 + d) * 2 + c) * 2 + g) t ht, join 2 two 8 1 (((m * 8 + f) * 2 + d) * 2 + c) g hg, join 2 two 7 1 ((m * 8 + f) * 2 + d) c hc, join 2 two 6 1 (m * 8 + f) d hd, join 2 two 3 3 m f hf)
    (simp append_assoc)

-- what the numbers of the fields are below
pub format_below : (f : Format) → format_number f < 8
format_below Format.A = lit< tt
format_below Format.B = lit< tt
format_below Format.C = lit< tt
format_below Format.N = lit< tt
format_below Format.X = lit< tt

pub modulation_below : (m : Modulation) → modulation_bit m < 2
modulation_below Modulation.M = lit< tt
modulation_below Modulation.D = lit< tt

pub clock_below : (c : ClockSource) → clock_bit c < 2
clock_below ClockSource.External = lit< tt
clock_below ClockSource.Internal = lit< tt

pub generator_below : (g : Generator) → generator_bit g < 2
generator_below Generator.B = lit< tt
generator_below Generator.H = lit< tt

pub sign_below : (z : ℤ) → sign_bit z < 2
sign_below (pos n) = lit< tt
sign_below (negsuc n) = lit< tt

-- what `settings_lawful` tests
module _ (s : Settings) (w : settings_lawful s ≡ true) where
  pub mode_small : s.mode < 8
  unfolding settings_lawful
  mode_small = ltb-true s.mode 8 (and_left (ltb s.mode 8) (mode_means s.mode && (pair_means s.format s.modulation && offset_fits s.offset)) w)

  pub size_small : nat_abs s.offset ≤ 9999999
  unfolding settings_lawful
  size_small =
      let u = and_right (ltb s.mode 8) (mode_means s.mode && (pair_means s.format s.modulation && offset_fits s.offset)) w in
      let v = and_right (mode_means s.mode) (pair_means s.format s.modulation && offset_fits s.offset) u in
      leb-true (nat_abs s.offset) 9999999 (and_right (pair_means s.format s.modulation) (offset_fits s.offset) v)

-- the number of settings
abbrev pub bits_of : Settings → ℕ
bits_of s = ((((((s.mode * 8 + format_number s.format) * 2 + modulation_bit s.modulation) * 2 + clock_bit s.clock) * 2 + generator_bit s.generator) * 2 + sign_bit s.offset) * 16777216 + nat_abs s.offset) * 64

pub number_bits : (s : Settings) → settings_lawful s ≡ true → digits 2 40 (bits_of s) ≡ settings_bits s ++ replicate 6 0
unfolding settings_bits
number_bits s w =
    fields s.mode (format_number s.format) (modulation_bit s.modulation) (clock_bit s.clock) (generator_bit s.generator) (sign_bit s.offset) (nat_abs s.offset)
    (format_below s.format) (modulation_below s.modulation) (clock_below s.clock) (generator_below s.generator) (sign_below s.offset) (omega (arith, size_small s w))

-- the last five of their number's eight bytes
pub last_five : (s : Settings) (n : ℕ) (bytes : List ℕ) → digits 2 40 n ≡ settings_bits s ++ replicate 6 0 → bytes ≡ to_be_bytes w64 n → take 5 (drop 3 bytes) ≡ saved_form s
unfolding saved_form
last_five s n bytes e q = ap (λ (l : List ℕ). take 5 (drop 3 l)) q ∙ sym (bytes_of n) ∙ ap (packed 2 8 5) e

-- READING A NUMBER'S BITS

pub place : (i k j n : ℕ) → bits_at i k (digits 2 (i + (k + j)) n) ≡ n / 2 ^ j % 2 ^ k
unfolding bits_at
place i k j n = at 2 two i k j n

pub settings_at : (n : ℕ) →
    settings_in (digits 2 40 n)
    ≡ record {
      mode = n / 137438953472 % 8;
      format = format_of_number (n / 17179869184 % 8);
      modulation = modulation_of_bit (n / 8589934592 % 2);
      clock = clock_of_bit (n / 4294967296 % 2);
      generator = generator_of_bit (n / 2147483648 % 2);
      offset = offset_of_bits (n / 1073741824 % 2) (n / 64 % 16777216);
    }
unfolding settings_in
settings_at n = simp (place 0 3 37 n, place 3 3 34 n, place 6 1 33 n, place 7 1 32 n, place 8 1 31 n, place 9 1 30 n, place 10 24 6 n)

-- the spare bits are zero exactly if what they write is
spare : (n : ℕ) → below 1 (drop 34 (digits 2 40 n)) ≡ eqb (n % 64) 0
unfolding digits num below
spare n = ap (below 1) (behind 2 two 34 6 n) ∙ go (eqb (n % 64) 0) refl
  where
    none : (t : Bool) → eqb (n % 64) 0 ≡ false → below 1 (digits 2 6 n) ≡ t → t ≡ false
    none false e h = refl
    none true e h =
        absurd
        (let z : n % 64 ≡ 0 = sym (num_digits 2 two 6 n) ∙ ap (num 2) (zeros (digits 2 6 n) h) in
        let q : ◌≡◌ {A = ℕ} 0 1 = cc (eq-eqb (n % 64) 0 z) in omega arith)

    go : (t : Bool) → eqb (n % 64) 0 ≡ t → below 1 (digits 2 6 n) ≡ t
    go true e = ap (below 1) (sym (digits_mod_pow 2 two 6 n) ∙ ap (digits 2 6) (eqb-true (n % 64) 0 e))
    go false e = none (below 1 (digits 2 6 n)) e refl

pub meaningful_at : (n : ℕ) →
    meaningful (digits 2 40 n)
    ≡ (leb (n / 17179869184 % 8) 4
    && (settings_lawful (settings_in (digits 2 40 n))
    && (not (eqb (n / 1073741824 % 2) 1 && eqb (n / 64 % 16777216) 0)
    && eqb (n % 64) 0)))
unfolding meaningful
meaningful_at n = simp (place 3 3 34 n, place 9 1 30 n, place 10 24 6 n, spare n)

-- five bytes are loaded as the bits of their number say
nineteen : (t : Bool) (a b : Option Settings) → pick t a b ≡ pick (eqb (pick (not t) 19 0) 0) a b
nineteen true a b = refl
nineteen false a b = refl

by_bits : (bytes : List ℕ) → length bytes ≡ 5 → read_bits (unpacked 2 8 bytes) ≡ read_saved bytes
unfolding read_bits read_saved saved_refusal
by_bits bytes l = rw (eq-eqb (length bytes) 5 l) (nineteen (meaningful (unpacked 2 8 bytes)) (Some (settings_in (unpacked 2 8 bytes))) None)

pub five_bytes : (bytes : List ℕ) → length bytes ≡ 5 → ((i : ℕ) → get_or bytes i 0 < 256) → (r : Option Settings) (n : ℕ) → r ≡ read_bits (digits 2 40 n) →
    n ≡ from_be_bytes w64 (0 ∷ 0 ∷ 0 ∷ get_or bytes 0 0 ∷ get_or bytes 1 0 ∷ get_or bytes 2 0 ∷ get_or bytes 3 0 ∷ get_or bytes 4 0 ∷ []) → r ≡ read_saved bytes
five_bytes bytes l h r n p q =
    let a = get_or bytes 0 0 in
    let b = get_or bytes 1 0 in
    let c = get_or bytes 2 0 in
    let d = get_or bytes 3 0 in
    let e = get_or bytes 4 0 in
    let m : n ≡ (((a * 256 + b) * 256 + c) * 256 + d) * 256 + e = omega (arith, q) in
    p ∙ ap read_bits (ap (digits 2 40) m ∙ number_in a b c d e (h 1) (h 2) (h 3) (h 4) ∙ ap (unpacked 2 8) (sym (five_of bytes l))) ∙ by_bits bytes l

-- and as nothing, if they are not five
pub not_five : (bytes : List ℕ) → (length bytes ≡ 5 → ⊥) → None ≡ read_saved bytes
unfolding read_saved saved_refusal
not_five bytes h = simp (ne_eqb (length bytes) 5 h)

-- SIGNED NUMBERS

pub sign_minus : (z : ℤ) → lt_z z (pos 0) ≡ true → 1 ≡ sign_bit z
sign_minus (pos n) e = absurd (omega (arith, ltb-true n 0 e))
sign_minus (negsuc n) e = refl

pub sign_plus : (z : ℤ) → lt_z z (pos 0) ≡ false → 0 ≡ sign_bit z
sign_plus (pos n) e = refl
sign_plus (negsuc n) e = absurd (let q : ◌≡◌ {A = ℕ} 0 1 = cc in omega arith)
