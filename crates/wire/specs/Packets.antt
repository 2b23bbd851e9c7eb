-- Packets: byte 0x01, an id byte, data, byte 0x17.
use Rattle.std.specs.Prelude.{ℕ, suc, ◌+◌, ◌-◌, Bool, true, false, ◌&&◌, ◌||◌, not, ◌≡◌, List, [], ◌∷◌, ◌++◌, ◌⊎◌, length, take, drop, get_or, replicate, ℤ, pos, negsuc, neg_ℤ, nat_abs, leb, ltb, eqb, Option, Some, None, Result, Ok, Err, refl}
use Rattle.wire.specs.Digits.{pick, digits, num}
use Rattle.wire.specs.Numbers.{Line, ◌if◌, given, answered, number_of, given_or}
use Rattle.wire.specs.declared.packets.Format.{Format}
use Rattle.wire.specs.declared.packets.Modulation.{Modulation}
use Rattle.wire.specs.declared.packets.ClockSource.{ClockSource}
use Rattle.wire.specs.declared.packets.Generator.{Generator}
use Rattle.wire.specs.declared.packets.Packet.{Packet}
use Rattle.wire.specs.declared.packets.PacketRead.{PacketRead}
use Rattle.wire.specs.declared.numbers.Refusal.{Refusal}

-- THE TABLE OF IDS

-- a kind of byte is a test of bytes
abbrev pub is_octal : ℕ → Bool
is_octal b = leb 0x30 b && leb b 0x37

abbrev pub is_decimal : ℕ → Bool
is_decimal b = leb 0x30 b && leb b 0x39

abbrev pub is_sign : ℕ → Bool
is_sign b = eqb b 0x2B || eqb b 0x2D

abbrev pub is_format : ℕ → Bool
is_format b = eqb b 0x41 || (eqb b 0x42 || (eqb b 0x43 || (eqb b 0x4E || eqb b 0x58)))

abbrev pub is_modulation : ℕ → Bool
is_modulation b = eqb b 0x4D || eqb b 0x44

abbrev pub is_clock : ℕ → Bool
is_clock b = eqb b 0x45 || eqb b 0x49

abbrev pub is_generator : ℕ → Bool
is_generator b = eqb b 0x42 || eqb b 0x48

-- the kind of each data byte of an id, in their order; none for an unknown id
unfoldable pub kinds_of : ℕ → List (ℕ → Bool)
kinds_of id =
    pick (eqb id 0x41) (is_octal ∷ [])
    (pick (eqb id 0x47) (is_sign ∷ replicate 7 is_decimal)
    (pick (eqb id 0x48) (is_format ∷ is_modulation ∷ [])
    (pick (eqb id 0x49) (is_clock ∷ [])
    (pick (eqb id 0x4B) (is_generator ∷ [])
    []))))

-- a mode that has a meaning, and a format that goes with a modulation
abbrev pub mode_means : ℕ → Bool
mode_means mode = not (eqb mode 4) && not (eqb mode 7)

abbrev pub pair_means : Format → Modulation → Bool
pair_means Format.A Modulation.M = false
pair_means Format.A Modulation.D = true
pair_means Format.B m = true
pair_means Format.C Modulation.M = true
pair_means Format.C Modulation.D = false
pair_means Format.N m = true
pair_means Format.X Modulation.M = true
pair_means Format.X Modulation.D = false

-- an offset of at most seven digits, either way
abbrev pub offset_fits : ℤ → Bool
offset_fits offset = leb (nat_abs offset) 9999999

-- a large offset: beyond 9,900 ticks, either way
abbrev pub offset_large : ℤ → Bool
offset_large offset = ltb 9900 (nat_abs offset)

-- A PACKET'S BYTES

abbrev pub id_of : Packet → ℕ
id_of (Packet.A mode) = 0x41
id_of (Packet.G offset) = 0x47
id_of (Packet.H f m) = 0x48
id_of (Packet.I c) = 0x49
id_of (Packet.K g) = 0x4B

abbrev pub letter_of_format : Format → ℕ
letter_of_format Format.A = 0x41
letter_of_format Format.B = 0x42
letter_of_format Format.C = 0x43
letter_of_format Format.N = 0x4E
letter_of_format Format.X = 0x58

abbrev pub letter_of_modulation : Modulation → ℕ
letter_of_modulation Modulation.M = 0x4D
letter_of_modulation Modulation.D = 0x44

abbrev pub letter_of_clock : ClockSource → ℕ
letter_of_clock ClockSource.External = 0x45
letter_of_clock ClockSource.Internal = 0x49

abbrev pub letter_of_generator : Generator → ℕ
letter_of_generator Generator.B = 0x42
letter_of_generator Generator.H = 0x48

-- digits are ASCII
unfoldable pub ascii : List ℕ → List ℕ
ascii [] = []
ascii (d ∷ ds) = (48 + d) ∷ ascii ds

-- the writer gives offset 0 a plus
unfoldable pub sign_of : ℤ → ℕ
sign_of (pos n) = 0x2B
sign_of (negsuc n) = 0x2D

unfoldable pub data_of : Packet → List ℕ
data_of (Packet.A mode) = (48 + mode) ∷ []
data_of (Packet.G offset) = sign_of offset ∷ ascii (digits 10 7 (nat_abs offset))
data_of (Packet.H f m) = letter_of_format f ∷ letter_of_modulation m ∷ []
data_of (Packet.I c) = letter_of_clock c ∷ []
data_of (Packet.K g) = letter_of_generator g ∷ []

unfoldable pub framed : ℕ → List ℕ → List ℕ
framed id ds = 0x01 ∷ id ∷ (ds ++ (0x17 ∷ []))

abbrev pub bytes_of : Packet → List ℕ
bytes_of p = framed (id_of p) (data_of p)

-- READING

unfoldable pub has : ℕ → List ℕ → Bool
has b [] = false
has b (x ∷ xs) = eqb x b || has b xs

-- the place of the first b, or the row's length where there is none
unfoldable pub place_of : ℕ → List ℕ → ℕ
place_of b [] = 0
place_of b (x ∷ xs) = pick (eqb x b) 0 (suc (place_of b xs))

-- id and data: what stands between 0x01 and the first 0x17
unfoldable pub body_of : List ℕ → List ℕ
body_of row = drop 1 (take (place_of 0x17 row) row)

abbrev pub id_in : List ℕ → ℕ
id_in body = get_or body 0 0

abbrev pub data_in : List ℕ → List ℕ
data_in body = drop 1 body

-- each data byte is of its kind
unfoldable pub of_kinds : List (ℕ → Bool) → List ℕ → Bool
of_kinds [] ds = true
of_kinds (k ∷ ks) [] = true
of_kinds (k ∷ ks) (d ∷ ds) = k d && of_kinds ks ds

unfoldable pub format_of : ℕ → Format
format_of b = pick (eqb b 0x41) Format.A (pick (eqb b 0x42) Format.B (pick (eqb b 0x43) Format.C (pick (eqb b 0x4E) Format.N Format.X)))

unfoldable pub modulation_of : ℕ → Modulation
modulation_of b = pick (eqb b 0x4D) Modulation.M Modulation.D

unfoldable pub clock_of : ℕ → ClockSource
clock_of b = pick (eqb b 0x45) ClockSource.External ClockSource.Internal

unfoldable pub generator_of : ℕ → Generator
generator_of b = pick (eqb b 0x42) Generator.B Generator.H

-- the digits that ASCII bytes stand for
unfoldable pub ascii_values : List ℕ → List ℕ
ascii_values [] = []
ascii_values (b ∷ bs) = (b - 48) ∷ ascii_values bs

abbrev pub signed : ℕ → ℕ → ℤ
signed sign n = pick (eqb sign 0x2D) (neg_ℤ (pos n)) (pos n)

unfoldable pub offset_of : ℕ → List ℕ → ℤ
offset_of sign bs = signed sign (num 10 (ascii_values bs))

-- what id and data mean, where each byte is of its kind
unfoldable pub meaning : ℕ → List ℕ → Packet
meaning id ds =
    pick (eqb id 0x41) (Packet.A (get_or ds 0 0 - 48))
    (pick (eqb id 0x47) (Packet.G (offset_of (get_or ds 0 0) (drop 1 ds)))
    (pick (eqb id 0x48) (Packet.H (format_of (get_or ds 0 0)) (modulation_of (get_or ds 1 0)))
    (pick (eqb id 0x49) (Packet.I (clock_of (get_or ds 0 0)))
    (Packet.K (generator_of (get_or ds 0 0))))))

-- a packet with a meaning: no mode 4 or 7, no forbidden pair
abbrev pub means : Packet → Bool
means (Packet.A mode) = mode_means mode
means (Packet.G offset) = true
means (Packet.H f m) = pair_means f m
means (Packet.I c) = true
means (Packet.K g) = true

-- a packet that needs the jam off: G with a large offset
abbrev pub needs_jam_off : Packet → Bool
needs_jam_off (Packet.A mode) = false
needs_jam_off (Packet.G offset) = offset_large offset
needs_jam_off (Packet.H f m) = false
needs_jam_off (Packet.I c) = false
needs_jam_off (Packet.K g) = false

-- the table of numbers, 4 to 10
unfoldable pub frame_lines : List ℕ → List Line
frame_lines row =
    4 if (eqb (length row) 0 || not (eqb (get_or row 0 0) 0x01))
    ∷ 5 if (leb 41 (length row) && not (has 0x17 (take 41 row)))
    ∷ 6 if (leb (length row) 40 && not (has 0x17 row))
    ∷ []

unfoldable pub body_lines : List ℕ → List Line
body_lines body =
    7 if (eqb (length body) 0 || eqb (length (kinds_of (id_in body))) 0)
    ∷ 8 if not (eqb (length (data_in body)) (length (kinds_of (id_in body))))
    ∷ 9 if not (of_kinds (kinds_of (id_in body)) (data_in body))
    ∷ 10 if not (means (meaning (id_in body) (data_in body)))
    ∷ []

abbrev pub packet_lines : List ℕ → List Line
packet_lines row = frame_lines row ++ body_lines (body_of row)

unfoldable pub packet_refusal : List ℕ → ℕ
packet_refusal row = given (packet_lines row)

-- the packet that a row which is not refused holds
abbrev pub packet_in : List ℕ → Packet
packet_in row = meaning (id_in (body_of row)) (data_in (body_of row))

-- what is given of a packet that is read: it, and whether it needs the jam off
abbrev pub packet_read : Packet → PacketRead
packet_read p = record { packet = p; needs_jam_off = needs_jam_off p }

-- what a row of bytes reads as
unfoldable pub read_packet : List ℕ → Result PacketRead Refusal
read_packet row = answered (packet_refusal row) (packet_read (packet_in row))

-- THE ANSWER AS THE PAGE HAS IT: its number; its values, 0 beside a refusal; whether it needs the jam off, false beside a refusal

abbrev pub number_read : Result PacketRead Refusal → ℕ
number_read = number_of

-- the id; the mode, the offset or the letter of its data; and for H the letter of the modulation
abbrev pub values_of : Packet → ℕ × ℤ × ℕ
values_of (Packet.A mode) = (0x41, pos mode, 0)
values_of (Packet.G offset) = (0x47, offset, 0)
values_of (Packet.H f m) = (0x48, pos (letter_of_format f), letter_of_modulation m)
values_of (Packet.I c) = (0x49, pos (letter_of_clock c), 0)
values_of (Packet.K g) = (0x4B, pos (letter_of_generator g), 0)

abbrev pub no_values : ℕ × ℤ × ℕ
no_values = (0, pos 0, 0)

abbrev pub values_read : Result PacketRead Refusal → ℕ × ℤ × ℕ
values_read (Ok r) = values_of r.packet
values_read (Err e) = no_values

abbrev pub jam_off_read : Result PacketRead Refusal → Bool
jam_off_read (Ok r) = r.needs_jam_off
jam_off_read (Err e) = false

-- WRITING

-- a mode of one digit 0 to 7, an offset of seven digits
abbrev pub fits : Packet → Bool
fits (Packet.A mode) = leb mode 7
fits (Packet.G offset) = offset_fits offset
fits (Packet.H f m) = true
fits (Packet.I c) = true
fits (Packet.K g) = true

-- the table of numbers: 9, 10, and 14 last
unfoldable pub writing_refusal : Packet → ℕ → ℕ
writing_refusal p room =
    given
    (9 if not (fits p)
    ∷ 10 if not (means p)
    ∷ 14 if ltb room (length (bytes_of p))
    ∷ [])

-- what writing answers: the bytes written, or why there are none
unfoldable pub write_packet : Packet → ℕ → Result ℕ Refusal
write_packet p room = answered (writing_refusal p room) (length (bytes_of p))

-- as the page has it: the bytes written, 0 beside a refusal
abbrev pub bytes_written : Result ℕ Refusal → ℕ
bytes_written = given_or 0

-- the row afterwards: places behind the bytes written, and the whole row beside a refusal, as they were
unfoldable pub row_written : Packet → List ℕ → List ℕ
row_written p row = pick (eqb (writing_refusal p (length row)) 0) (bytes_of p ++ drop (length (bytes_of p)) row) row

-- THERE AND BACK

-- offset 0 with a minus
abbrev pub minus_zero : List ℕ
minus_zero = framed 0x47 (0x2D ∷ ascii (digits 10 7 0))

-- a row that reads as a packet holds the bytes of that packet, or offset 0 with a minus, and then what is dropped
pub record Holds (row : List ℕ) (p : Packet) : Type 0 where
  pub fitting : fits p ≡ true
  pub meant : means p ≡ true
  pub dropped : List ℕ
  pub bytes : (row ≡ bytes_of p ++ dropped) ⊎ ((p ≡ Packet.G (pos 0)) × (row ≡ minus_zero ++ dropped))

-- LETTERS, THERE AND BACK

-- a setting by its letter
abbrev pub letter_read : {A : Type 0} → (ℕ → Bool) → (ℕ → A) → ℕ → Result A Refusal
letter_read is of b = pick (is b) (Ok (of b)) (Err Refusal.WrongByte)

abbrev pub read_format : ℕ → Result Format Refusal
read_format = letter_read is_format format_of

abbrev pub read_modulation : ℕ → Result Modulation Refusal
read_modulation = letter_read is_modulation modulation_of

abbrev pub read_clock : ℕ → Result ClockSource Refusal
read_clock = letter_read is_clock clock_of

abbrev pub read_generator : ℕ → Result Generator Refusal
read_generator = letter_read is_generator generator_of

-- each letter reads as what it stands for
pub format_letter : (f : Format) → read_format (letter_of_format f) ≡ Ok f
unfolding format_of
format_letter Format.A = refl
format_letter Format.B = refl
format_letter Format.C = refl
format_letter Format.N = refl
format_letter Format.X = refl

pub modulation_letter : (m : Modulation) → read_modulation (letter_of_modulation m) ≡ Ok m
unfolding modulation_of
modulation_letter Modulation.M = refl
modulation_letter Modulation.D = refl

pub clock_letter : (c : ClockSource) → read_clock (letter_of_clock c) ≡ Ok c
unfolding clock_of
clock_letter ClockSource.External = refl
clock_letter ClockSource.Internal = refl

pub generator_letter : (g : Generator) → read_generator (letter_of_generator g) ≡ Ok g
unfolding generator_of
generator_letter Generator.B = refl
generator_letter Generator.H = refl

-- WITHIN THE CRATE

-- a number of decimal digits
unfoldable pub all_decimal : List ℕ → Bool
all_decimal [] = true
all_decimal (b ∷ bs) = is_decimal b && all_decimal bs

unfoldable pub read_number : List ℕ → Option ℕ
read_number bs = pick (all_decimal bs) (Some (num 10 (ascii_values bs))) None

-- data of one byte
abbrev pub read_one : {A : Type 0} → (ℕ → Result A Refusal) → List ℕ → Result A Refusal
read_one of ds = pick (eqb (length ds) 1) (of (get_or ds 0 0)) (Err Refusal.WrongLength)

-- what an id and its data read as
unfoldable pub read_body : List ℕ → Result Packet Refusal
read_body body = answered (given (body_lines body)) (meaning (id_in body) (data_in body))

-- bytes put at a row's front, if it has room for them
unfoldable pub put : List ℕ → ℕ → Result ℕ Refusal
put bs room = pick (ltb room (length bs)) (Err Refusal.ShortRow) (Ok (length bs))

unfoldable pub put_into : List ℕ → List ℕ → List ℕ
put_into bs row = pick (ltb (length row) (length bs)) row (bs ++ drop (length bs) row)
