-- Saved settings: five bytes, fields highest bit first.
use Rattle.std.specs.Prelude.{ℕ, Bool, ◌&&◌, not, Option, Some, None, List, [], ◌∷◌, ◌++◌, length, take, drop, replicate, ℤ, pos, negsuc, neg_ℤ, nat_abs, leb, ltb, eqb, ◌≡◌, refl}
use Rattle.wire.specs.Digits.{pick, digits, num, below, packed, unpacked}
use Rattle.wire.specs.Numbers.{Line, ◌if◌, given}
use Rattle.wire.specs.declared.packets.Format.{Format}
use Rattle.wire.specs.declared.packets.Modulation.{Modulation}
use Rattle.wire.specs.declared.packets.ClockSource.{ClockSource}
use Rattle.wire.specs.declared.packets.Generator.{Generator}
use Rattle.parts.specs.declared.settings.Settings.{Settings}
use Rattle.parts.specs.Settings.{settings_lawful}

-- THE FIELDS

-- A, B, C, N, X as 0 to 4
abbrev pub format_number : Format → ℕ
format_number Format.A = 0
format_number Format.B = 1
format_number Format.C = 2
format_number Format.N = 3
format_number Format.X = 4

-- D is 1, external is 1, H is 1, minus is 1
abbrev pub modulation_bit : Modulation → ℕ
modulation_bit Modulation.M = 0
modulation_bit Modulation.D = 1

abbrev pub clock_bit : ClockSource → ℕ
clock_bit ClockSource.External = 1
clock_bit ClockSource.Internal = 0

abbrev pub generator_bit : Generator → ℕ
generator_bit Generator.B = 0
generator_bit Generator.H = 1

abbrev pub sign_bit : ℤ → ℕ
sign_bit (pos n) = 0
sign_bit (negsuc n) = 1

-- the 34 bits of settings
unfoldable pub settings_bits : Settings → List ℕ
settings_bits s =
    digits 2 3 s.mode
    ++ (digits 2 3 (format_number s.format)
    ++ (digits 2 1 (modulation_bit s.modulation)
    ++ (digits 2 1 (clock_bit s.clock)
    ++ (digits 2 1 (generator_bit s.generator)
    ++ (digits 2 1 (sign_bit s.offset)
    ++ digits 2 24 (nat_abs s.offset))))))

-- and six zero bits
unfoldable pub saved_form : Settings → List ℕ
saved_form s = packed 2 8 5 (settings_bits s ++ replicate 6 0)

-- READING THEM

-- the number that k of the forty bits write, from place i on
unfoldable pub bits_at : ℕ → ℕ → List ℕ → ℕ
bits_at i k bits = num 2 (take k (drop i bits))

abbrev pub format_of_number : ℕ → Format
format_of_number n = pick (eqb n 0) Format.A (pick (eqb n 1) Format.B (pick (eqb n 2) Format.C (pick (eqb n 3) Format.N Format.X)))

-- what the bits say
unfoldable pub settings_in : List ℕ → Settings
settings_in bits =
    record {
      mode = bits_at 0 3 bits;
      format = format_of_number (bits_at 3 3 bits);
      modulation = pick (eqb (bits_at 6 1 bits) 1) Modulation.D Modulation.M;
      clock = pick (eqb (bits_at 7 1 bits) 1) ClockSource.External ClockSource.Internal;
      generator = pick (eqb (bits_at 8 1 bits) 1) Generator.H Generator.B;
      offset = pick (eqb (bits_at 9 1 bits) 1) (neg_ℤ (pos (bits_at 10 24 bits))) (pos (bits_at 10 24 bits));
    }

-- a format that there is, settings that a card may have, no minus zero, and the spare bits zero
unfoldable pub meaningful : List ℕ → Bool
meaningful bits =
    leb (bits_at 3 3 bits) 4
    && (settings_lawful (settings_in bits)
    && (not (eqb (bits_at 9 1 bits) 1 && eqb (bits_at 10 24 bits) 0)
    && below 1 (drop 34 bits)))

-- 19: not five bytes, or not as above
abbrev pub saved_lines : List ℕ → List Line
saved_lines bytes = 19 if not (eqb (length bytes) 5 && meaningful (unpacked 2 8 bytes)) ∷ []

unfoldable pub saved_refusal : List ℕ → ℕ
saved_refusal bytes = given (saved_lines bytes)

-- SAVING

-- 18, and 14 last
unfoldable pub put_refusal : Settings → ℕ → ℕ
put_refusal s room = given (18 if not (settings_lawful s) ∷ 14 if ltb room 5 ∷ [])

-- the row after saving: the five bytes in front, the rest as it was; all of it as it was beside a refusal
unfoldable pub row_put : Settings → List ℕ → List ℕ
row_put s row = pick (eqb (put_refusal s (length row)) 0) (saved_form s ++ drop 5 row) row

-- LOADING

-- what bytes are loaded as: settings, or nothing
unfoldable pub read_saved : List ℕ → Option Settings
read_saved bytes = pick (eqb (saved_refusal bytes) 0) (Some (settings_in (unpacked 2 8 bytes))) None

-- the answer as the page has it: its number, and the settings of a card that has these, which stay beside a refusal
abbrev pub number_loaded : Option Settings → ℕ
number_loaded (Some s) = 0
number_loaded None = 19

abbrev pub settings_loaded : Settings → Option Settings → Settings
settings_loaded these (Some s) = s
settings_loaded these None = these

-- WITHIN THE CRATE

-- the parts of `settings_in`, each by its number
abbrev pub modulation_of_bit : ℕ → Modulation
modulation_of_bit n = pick (eqb n 1) Modulation.D Modulation.M

abbrev pub clock_of_bit : ℕ → ClockSource
clock_of_bit n = pick (eqb n 1) ClockSource.External ClockSource.Internal

abbrev pub generator_of_bit : ℕ → Generator
generator_of_bit n = pick (eqb n 1) Generator.H Generator.B

abbrev pub offset_of_bits : ℕ → ℕ → ℤ
offset_of_bits sign size = pick (eqb sign 1) (neg_ℤ (pos size)) (pos size)

-- what a setting is saved as says that setting
pub format_back : (f : Format) → format_of_number (format_number f) ≡ f
format_back Format.A = refl
format_back Format.B = refl
format_back Format.C = refl
format_back Format.N = refl
format_back Format.X = refl

pub modulation_back : (m : Modulation) → modulation_of_bit (modulation_bit m) ≡ m
modulation_back Modulation.M = refl
modulation_back Modulation.D = refl

pub clock_back : (c : ClockSource) → clock_of_bit (clock_bit c) ≡ c
clock_back ClockSource.External = refl
clock_back ClockSource.Internal = refl

pub generator_back : (g : Generator) → generator_of_bit (generator_bit g) ≡ g
generator_back Generator.B = refl
generator_back Generator.H = refl

-- what forty bits are loaded as
unfoldable pub read_bits : List ℕ → Option Settings
read_bits bits = pick (meaningful bits) (Some (settings_in bits)) None
