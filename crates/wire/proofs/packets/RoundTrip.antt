-- Packets, there and back. A packet that was written is read as the same packet, whatever stands behind it in the row. A row that is read
-- as a packet holds that packet's bytes and then dropped ones, with one exception: offset 0 may stand there with a minus.
-- Assumes nothing.
use Prim.Native.Nat.{ℕ, zero, suc, ◌+◌, ◌-◌, ◌≤◌, ◌<◌}
use mathlib.Core.Path.{◌≡◌, refl, sym, ◌∙◌, ap, ap₂, subst}
use mathlib.Core.Bool.{Bool, true, false, ◌&&◌, ◌||◌, not}
use mathlib.Core.List.{List, [], ◌∷◌, ◌++◌, append_assoc}
use mathlib.Core.Logic.{◌⊎◌, inl, inr, ⊎_elim}
use native.Mathlib.Omega.{arith}
use lib.Dec.{leb, ltb, eqb, lit<, lit≤, eqb-suc-zero}
use lib.IntN.{ℤ, pos, negsuc, neg_ℤ, nat_abs}
use lib.ListN.{length, take, drop, get_or, replicate, length-append, length-drop, length-take}
use lib.Seq.{take-append_seam, split_at}
use borrow.Author.Tests.{lt-ltb, le-leb, ltb-true, leb-true, ne_eqb, eqb-true, eq-eqb, le-ltb, not-false}
use Rattle.wire.specs.Digits.{pick, digits, num, below}
use Rattle.std.specs.Prelude.{Some, Ok}
use Rattle.wire.specs.Numbers.{◌if◌, given, quiet, absent, number_of, answered}
use Rattle.wire.specs.Packets.{has, place_of, body_of, frame_lines, body_lines, packet_refusal, read_packet, read_body, packet_read, kinds_of, of_kinds, meaning, means, needs_jam_off, fits, is_decimal, is_octal, is_sign, is_format, is_modulation, is_clock, is_generator, all_decimal, ascii_values, ascii, sign_of, signed, offset_of, read_number, format_of, modulation_of, clock_of, generator_of, letter_of_format, letter_of_modulation, letter_of_clock, letter_of_generator, id_of, data_of, framed, bytes_of, format_letter, modulation_letter, clock_letter, generator_letter, packet_lines, packet_in, writing_refusal, write_packet, bytes_written, row_written, minus_zero, Holds}
use Rattle.wire.specs.declared.packets.Format.{Format}
use Rattle.wire.specs.declared.packets.Modulation.{Modulation}
use Rattle.wire.specs.declared.packets.ClockSource.{ClockSource}
use Rattle.wire.specs.declared.packets.Generator.{Generator}
use Rattle.wire.specs.declared.packets.Packet.{Packet}
use Rattle.wire.proofs.digits.Laws.{lt_or_le, and_left, and_right, or_left, or_right, below_both, digits_below, digits_length, written, read, clash}
use Rattle.wire.proofs.numbers.Laws.{given_zero, quiet_first}
use Rattle.wire.proofs.numbers.Names.{given_number}
use Rattle.wire.proofs.numbers.Names.{done_by}
use Rattle.wire.proofs.packets.Read.{read_is, read_as_lem}
use Rattle.wire.proofs.packets.Laws.{with_jam, place_has, place_front, framed_row, mode_body, format_read, clock_read, generator_read, offset_body, kinds_one, kinds_two, kinds_cons, kinds_decimal, signed_read, seven_small, values_length, values_below}

-- WRITTEN, THEN READ

-- the first 0x17 of a framed row stands behind the data
place_append : (b : ℕ) (xs ys : List ℕ) → has b xs ≡ false → place_of b (xs ++ ys) ≡ length xs + place_of b ys
unfolding has place_of
place_append b [] ys h = omega arith
place_append b (x ∷ xs) ys h = go (eqb x b) (has b xs) h (place_append b xs ys)
  where
    go : (t u : Bool) → (t || u) ≡ false → (u ≡ false → place_of b (xs ++ ys) ≡ length xs + place_of b ys) → pick t 0 (suc (place_of b (xs ++ ys))) ≡ suc (length xs) + place_of b ys
    go true u e f = absurd (let z : ◌≡◌ {A = ℕ} 0 1 = cc in omega arith)
    go false u e f = omega (arith, f e)

has_front : (b m : ℕ) (xs : List ℕ) → place_of b xs < m → place_of b xs < length xs → has b (take m xs) ≡ true
unfolding has place_of
has_front b zero xs p q = absurd (omega arith)
has_front b (suc m) [] p q = absurd (omega arith)
has_front b (suc m) (x ∷ xs) p q = go (eqb x b) p q (has_front b m xs)
  where
    go : (t : Bool) → pick t 0 (suc (place_of b xs)) < suc m → pick t 0 (suc (place_of b xs)) < suc (length xs) → (place_of b xs < m → place_of b xs < length xs → has b (take m xs) ≡ true) → (t || has b (take m xs)) ≡ true
    go true p q f = refl
    go false p q f = f (omega arith) (omega arith)

module _ (id : ℕ) (ds rest : List ℕ) (i : eqb id 0x17 ≡ false) (d : has 0x17 ds ≡ false) (l : length ds ≤ 38) where
  abbrev row : List ℕ
  row = framed id ds ++ rest

  end_at : place_of 0x17 row ≡ suc (suc (length ds))
  unfolding framed place_of
  end_at =
      simp i
      (ap (λ (k : ℕ). suc (suc k))
      (ap (place_of 0x17) (append_assoc ds (0x17 ∷ []) rest) ∙ place_append 0x17 ds (0x17 ∷ rest) d ∙ omega arith))

  long : suc (suc (length ds)) < length row
  unfolding framed
  long = simp length-append (omega arith)

  body_framed : read_body (drop 1 (take (suc (suc (length ds))) row)) ≡ read_body (id ∷ ds)
  unfolding framed
  body_framed =
      ap (λ (b : List ℕ). read_body (id ∷ b))
      (ap (take (length ds)) (append_assoc ds (0x17 ∷ []) rest) ∙ take-append_seam ds (0x17 ∷ rest))

  pub framed_read : read_packet row ≡ with_jam (read_body (id ∷ ds))
  unfolding framed
  framed_read =
      framed_row row (simp eqb-suc-zero) (suc (suc (length ds))) end_at (has_front 0x17 41 row (omega (arith, end_at)) (omega (arith, end_at, long)))
      (place_has 0x17 row ∙ lt-ltb (place_of 0x17 row) (length row) (omega (arith, end_at, long)))
      ∙ ap with_jam body_framed

-- no letter is 0x17
format_end : (f : Format) → eqb (letter_of_format f) 0x17 ≡ false
format_end Format.A = refl
format_end Format.B = refl
format_end Format.C = refl
format_end Format.N = refl
format_end Format.X = refl

modulation_end : (m : Modulation) → eqb (letter_of_modulation m) 0x17 ≡ false
modulation_end Modulation.M = refl
modulation_end Modulation.D = refl

clock_end : (c : ClockSource) → eqb (letter_of_clock c) 0x17 ≡ false
clock_end ClockSource.External = refl
clock_end ClockSource.Internal = refl

generator_end : (g : Generator) → eqb (letter_of_generator g) 0x17 ≡ false
generator_end Generator.B = refl
generator_end Generator.H = refl

-- digits
values_ascii : (ds : List ℕ) → ascii_values (ascii ds) ≡ ds
unfolding ascii_values ascii
values_ascii [] = refl
values_ascii (d ∷ ds) = ap₂ (λ (x : ℕ) (l : List ℕ). x ∷ l) (let q : 48 + d - 48 ≡ d = omega arith in q) (values_ascii ds)

ascii_length : (ds : List ℕ) → length (ascii ds) ≡ length ds
unfolding ascii
ascii_length [] = refl
ascii_length (d ∷ ds) = ap suc (ascii_length ds)

ascii_decimal : (ds : List ℕ) → below 10 ds ≡ true → all_decimal (ascii ds) ≡ true
unfolding ascii all_decimal below
ascii_decimal [] h = refl
ascii_decimal (d ∷ ds) h =
    let l : d < 10 = ltb-true d 10 (and_left (ltb d 10) (below 10 ds) h) in
    simp (le-leb 48 (48 + d) (omega arith), le-leb (48 + d) 57 (omega arith), ascii_decimal ds (and_right (ltb d 10) (below 10 ds) h))

ascii_end : (ds : List ℕ) → has 0x17 (ascii ds) ≡ false
unfolding ascii has
ascii_end [] = refl
ascii_end (d ∷ ds) = simp (ne_eqb (48 + d) 0x17 (λ e. omega arith), ascii_end ds)

sign_sound : (z : ℤ) → (is_sign (sign_of z) ≡ true) × (signed (sign_of z) (nat_abs z) ≡ z) × (eqb (sign_of z) 0x17 ≡ false)
unfolding sign_of
sign_sound (pos n) = (refl, refl, refl)
sign_sound (negsuc n) = (refl, refl, refl)

number_ascii : (n : ℕ) → n ≤ 9999999 → read_number (ascii (digits 10 7 n)) ≡ Some n
unfolding read_number
number_ascii n h = simp (ascii_decimal (digits 10 7 n) (digits_below 10 (lit< tt) 7 n), values_ascii, written 10 (lit< tt) 7 n (omega arith))

offset_read : (z : ℤ) → nat_abs z ≤ 9999999 → read_body (0x47 ∷ sign_of z ∷ ascii (digits 10 7 (nat_abs z))) ≡ Ok (Packet.G z)
unfolding signed_read
offset_read z h =
    offset_body (sign_of z ∷ ascii (digits 10 7 (nat_abs z))) (ap suc (ascii_length (digits 10 7 (nat_abs z)) ∙ digits_length 10 (lit< tt) 7 (nat_abs z)))
    ∙ ap (signed_read (sign_of z)) (number_ascii (nat_abs z) h)
    ∙ simp ((sign_sound z).0, (sign_sound z).1)

jam_ok : (p : Packet) → with_jam (Ok p) ≡ Ok (packet_read p)
unfolding with_jam
jam_ok p = refl

-- each packet's data is read as that packet
data_read : (p : Packet) → fits p ≡ true → means p ≡ true → read_body (id_of p ∷ data_of p) ≡ Ok p
unfolding data_of
data_read (Packet.A mode) f m =
    let e : 48 + mode - 48 ≡ mode = omega arith in
    mode_body ((48 + mode) ∷ []) refl
    ∙ simp (le-leb 48 (48 + mode) (omega arith), le-leb (48 + mode) 55 (omega (arith, leb-true mode 7 f)), e, m)
data_read (Packet.G z) f m = offset_read z (leb-true (nat_abs z) 9999999 f)
data_read (Packet.H f m) a b =
    sym (format_read (letter_of_format f ∷ letter_of_modulation m ∷ []) refl f m (format_letter f) (modulation_letter m) b)
data_read (Packet.I c) f m = sym (clock_read (letter_of_clock c ∷ []) c (clock_letter c))
data_read (Packet.K g) f m = sym (generator_read (letter_of_generator g ∷ []) g (generator_letter g))

-- and holds no 0x17
id_end : (p : Packet) → eqb (id_of p) 0x17 ≡ false
id_end (Packet.A mode) = refl
id_end (Packet.G z) = refl
id_end (Packet.H f m) = refl
id_end (Packet.I c) = refl
id_end (Packet.K g) = refl

data_end : (p : Packet) → has 0x17 (data_of p) ≡ false
unfolding data_of has
data_end (Packet.A mode) = simp (ne_eqb (48 + mode) 0x17 (λ e. omega arith))
data_end (Packet.G z) = simp ((sign_sound z).2, ascii_end)
data_end (Packet.H f m) = simp (format_end f, modulation_end m)
data_end (Packet.I c) = simp (clock_end c)
data_end (Packet.K g) = simp (generator_end g)

data_short : (p : Packet) → length (data_of p) ≤ 8
unfolding data_of
data_short (Packet.A mode) = lit≤ tt
data_short (Packet.G z) = omega (arith, ascii_length (digits 10 7 (nat_abs z)), digits_length 10 (lit< tt) 7 (nat_abs z))
data_short (Packet.H f m) = lit≤ tt
data_short (Packet.I c) = lit≤ tt
data_short (Packet.K g) = lit≤ tt

-- a packet that can be written is read back, whatever stands behind it
pub read_written : (p : Packet) → fits p ≡ true → means p ≡ true → (rest : List ℕ) → read_packet (bytes_of p ++ rest) ≡ Ok (packet_read p)
read_written p f m rest =
    framed_read (id_of p) (data_of p) rest (id_end p) (data_end p) (omega (arith, data_short p))
    ∙ ap with_jam (data_read p f m) ∙ jam_ok p

-- READ, THEN WRITTEN

no_end_line : (n len : ℕ) (t u : Bool) → (leb 41 len && not t) ≡ false → (leb len 40 && not u) ≡ false → (t ≡ true → u ≡ true) → u ≡ true
no_end_line n len t true a b f = refl
no_end_line n len true false a b f = f refl
no_end_line n len false false a b f =
    ⊎_elim (λ l. clash (simp (le-leb len 40 (omega arith)) at b)) (λ g. clash (simp (le-leb 41 len g) at a)) (lt_or_le len 41)

-- 0x17 stands at its place
place_is : (b : ℕ) (xs : List ℕ) → has b xs ≡ true → get_or xs (place_of b xs) 0 ≡ b
unfolding has place_of
place_is b [] h = absurd (let z : ◌≡◌ {A = ℕ} 0 1 = cc in omega arith)
place_is b (x ∷ xs) h = go (eqb x b) refl h (place_is b xs)
  where
    go : (t : Bool) → eqb x b ≡ t → (t || has b xs) ≡ true → (has b xs ≡ true → get_or xs (place_of b xs) 0 ≡ b) → get_or (x ∷ xs) (pick t 0 (suc (place_of b xs))) 0 ≡ b
    go true e h f = eqb-true x b e
    go false e h f = f h

-- the row, cut at its first 0x17
module _ (row : List ℕ) (p : Packet) (h : read_packet row ≡ Ok (packet_read p)) where
  accepted : (packet_refusal row ≡ 0) × (packet_in row ≡ p)
  accepted = let r = read_is row p (needs_jam_off p) h in (r.0, r.1)

  abbrev body : List ℕ
  body = body_of row

  abbrev id : ℕ
  id = get_or body 0 0

  abbrev ds : List ℕ
  ds = drop 1 body

  -- none of the seven lines holds
  none : quiet (packet_lines row) ≡ true
  unfolding packet_refusal frame_lines body_lines
  none = (given_zero (packet_lines row) refl).0 accepted.0

  line_4 : ((eqb (length row) 0 || not (eqb (get_or row 0 0) 1)) ≡ false) × (quiet (5 if (leb 41 (length row) && not (has 0x17 (take 41 row))) ∷ 6 if (leb (length row) 40 && not (has 0x17 row)) ∷ body_lines body) ≡ true)
  unfolding frame_lines
  line_4 = quiet_first (eqb (length row) 0 || not (eqb (get_or row 0 0) 1)) _ none

  line_5 : ((leb 41 (length row) && not (has 0x17 (take 41 row))) ≡ false) × (quiet (6 if (leb (length row) 40 && not (has 0x17 row)) ∷ body_lines body) ≡ true)
  line_5 = quiet_first (leb 41 (length row) && not (has 0x17 (take 41 row))) _ line_4.1

  line_6 : ((leb (length row) 40 && not (has 0x17 row)) ≡ false) × (quiet (body_lines body) ≡ true)
  line_6 = quiet_first (leb (length row) 40 && not (has 0x17 row)) (quiet (body_lines body)) line_5.1

  front_has : has 0x17 (take 41 row) ≡ true → has 0x17 row ≡ true
  front_has e =
      let q : place_of 0x17 (take 41 row) < length (take 41 row) = ltb-true (place_of 0x17 (take 41 row)) (length (take 41 row)) (sym (place_has 0x17 (take 41 row)) ∙ e) in
      let r = place_front 0x17 41 row q in
      place_has 0x17 row ∙ lt-ltb (place_of 0x17 row) (length row) (omega (arith, length-take 41 row))

  has_end : has 0x17 row ≡ true
  has_end = no_end_line 0 (length row) (has 0x17 (take 41 row)) (has 0x17 row) line_5.0 line_6.0 front_has

  e : ℕ
  e = place_of 0x17 row

  e_within : e < length row
  unfolding e
  e_within = ltb-true (place_of 0x17 row) (length row) (sym (place_has 0x17 row) ∙ has_end)

  starts : get_or row 0 0 ≡ 1
  starts = go (eqb (length row) 0) (eqb (get_or row 0 0) 1) refl line_4.0
    where
      go : (s t : Bool) → eqb (get_or row 0 0) 1 ≡ t → (s || not t) ≡ false → get_or row 0 0 ≡ 1
      go s true q r = eqb-true (get_or row 0 0) 1 q
      go true false q r = absurd (let z : ◌≡◌ {A = ℕ} 0 1 = cc in omega arith)
      go false false q r = absurd (let z : ◌≡◌ {A = ℕ} 0 1 = cc in omega arith)

  line_7 : (eqb (length body) 0 || eqb (length (kinds_of id)) 0) ≡ false
  unfolding body_lines
  line_7 = (quiet_first (eqb (length body) 0 || eqb (length (kinds_of id)) 0) _ line_6.1).0

  -- what stands in front of the end is 0x01, id and data
  body_cons : body ≡ id ∷ ds
  body_cons = go body (or_left (eqb (length body) 0) (eqb (length (kinds_of id)) 0) line_7)
    where
      go : (b : List ℕ) → eqb (length b) 0 ≡ false → b ≡ get_or b 0 0 ∷ drop 1 b
      go [] q = absurd (let z : ◌≡◌ {A = ℕ} 0 1 = cc in omega arith)
      go (x ∷ b) q = refl

  front_cons : take e row ≡ 1 ∷ id ∷ ds
  unfolding e body_of
  front_cons = go row (place_of 0x17 row) e_within starts (place_is 0x17 row has_end) ∙ ap (λ (l : List ℕ). 1 ∷ l) body_cons
    where
      go : (r : List ℕ) (k : ℕ) → k < length r → get_or r 0 0 ≡ 1 → get_or r k 0 ≡ 0x17 → take k r ≡ 1 ∷ drop 1 (take k r)
      go [] k l s q = absurd (omega arith)
      go (x ∷ r) zero l s q = absurd (omega arith)
      go (x ∷ r) (suc k) l s q = ap (λ (y : ℕ). y ∷ take k r) s

  row_cut : row ≡ framed id ds ++ drop (suc e) row
  unfolding framed e
  row_cut =
      split_at row e 0 e_within
      ∙ ap₂ (λ (l : List ℕ) (b : ℕ). l ++ b ∷ drop (suc e) row) front_cons (place_is 0x17 row has_end)
      ∙ ap (λ (l : List ℕ). 1 ∷ id ∷ l) (sym (append_assoc ds (0x17 ∷ []) (drop (suc e) row)))

  body_numbers : absent 0 (body_lines body) ≡ true
  unfolding body_lines
  body_numbers = refl

  reads_body : read_body (id ∷ ds) ≡ Ok p
  unfolding read_body
  reads_body =
      ap (λ (n : ℕ). answered n (meaning id ds)) (ap (λ (b : List ℕ). given (body_lines b)) (sym body_cons) ∙ (given_zero (body_lines body) body_numbers).1 line_6.1)
      ∙ ap Ok accepted.1

-- id and data that read as a packet are that packet's own, or those of offset 0 with a minus
record Own (id : ℕ) (ds : List ℕ) (p : Packet) : Type 0 where
  pub fitting : fits p ≡ true
  pub meant : means p ≡ true
  pub bytes : (framed id ds ≡ bytes_of p) ⊎ ((p ≡ Packet.G (pos 0)) × (framed id ds ≡ minus_zero))

-- a letter of its kind is that of what it is read as
letter_step : {A : Type 0} (l : A → ℕ) (m x : A) (b : ℕ) (r : Bool) → (eqb b (l m) || r) ≡ true → (r ≡ true → l x ≡ b) → l (pick (eqb b (l m)) m x) ≡ b
letter_step {A} l m x b r h f = go (eqb b (l m)) refl h
  where
    go : (t : Bool) → eqb b (l m) ≡ t → (t || r) ≡ true → l (pick t m x) ≡ b
    go true e h = sym (eqb-true b (l m) e)
    go false e h = f h

letter_last : {A : Type 0} (l : A → ℕ) (m : A) (b : ℕ) → eqb b (l m) ≡ true → l m ≡ b
letter_last l m b e = sym (eqb-true b (l m) e)

format_back : (b : ℕ) → is_format b ≡ true → letter_of_format (format_of b) ≡ b
unfolding format_of
format_back b h =
    letter_step letter_of_format Format.A _ b _ h (λ h. letter_step letter_of_format Format.B _ b _ h (λ h. letter_step letter_of_format Format.C _ b _ h
    (λ h. letter_step letter_of_format Format.N _ b _ h (letter_last letter_of_format Format.X b))))

modulation_back : (b : ℕ) → is_modulation b ≡ true → letter_of_modulation (modulation_of b) ≡ b
unfolding modulation_of
modulation_back b h = letter_step letter_of_modulation Modulation.M _ b _ h (letter_last letter_of_modulation Modulation.D b)

clock_back : (b : ℕ) → is_clock b ≡ true → letter_of_clock (clock_of b) ≡ b
unfolding clock_of
clock_back b h = letter_step letter_of_clock ClockSource.External _ b _ h (letter_last letter_of_clock ClockSource.Internal b)

generator_back : (b : ℕ) → is_generator b ≡ true → letter_of_generator (generator_of b) ≡ b
unfolding generator_of
generator_back b h = letter_step letter_of_generator Generator.B _ b _ h (letter_last letter_of_generator Generator.H b)

-- so are digits
ascii_values_lem : (ds : List ℕ) → all_decimal ds ≡ true → ascii (ascii_values ds) ≡ ds
unfolding ascii ascii_values all_decimal
ascii_values_lem [] h = refl
ascii_values_lem (d ∷ ds) h =
    let l : 48 ≤ d = leb-true 48 d (and_left (leb 48 d) (leb d 57) (and_left (is_decimal d) (all_decimal ds) h)) in
    ap₂ (λ (x : ℕ) (k : List ℕ). x ∷ k) (let q : 48 + (d - 48) ≡ d = omega arith in q) (ascii_values_lem ds (and_right (is_decimal d) (all_decimal ds) h))

one_of : (ds : List ℕ) → length ds ≡ 1 → ds ≡ get_or ds 0 0 ∷ []
one_of [] l = absurd (omega arith)
one_of (d ∷ []) l = refl
one_of (d ∷ x ∷ ds) l = absurd (omega arith)

two_of : (ds : List ℕ) → length ds ≡ 2 → ds ≡ get_or ds 0 0 ∷ get_or ds 1 0 ∷ []
two_of [] l = absurd (omega arith)
two_of (d ∷ []) l = absurd (omega arith)
two_of (d ∷ x ∷ []) l = refl
two_of (d ∷ x ∷ y ∷ ds) l = absurd (omega arith)

-- what an accepted body tells
module _ (id : ℕ) (ds : List ℕ) (p : Packet) (h : read_body (id ∷ ds) ≡ Ok p) where
  got : (given (body_lines (id ∷ ds)) ≡ 0) × (meaning id ds ≡ p)
  unfolding read_body
  got = done_by (given (body_lines (id ∷ ds))) (meaning id ds) p h

  -- none of its four lines holds
  l7 : ((eqb (length (id ∷ ds)) 0 || eqb (length (kinds_of id)) 0) ≡ false) × (quiet (8 if not (eqb (length ds) (length (kinds_of id))) ∷ 9 if not (of_kinds (kinds_of id) ds) ∷ 10 if not (means (meaning id ds)) ∷ []) ≡ true)
  unfolding body_lines
  l7 = quiet_first (eqb (length (id ∷ ds)) 0 || eqb (length (kinds_of id)) 0) _ ((given_zero (body_lines (id ∷ ds)) refl).0 got.0)

  l8 : (not (eqb (length ds) (length (kinds_of id))) ≡ false) × (quiet (9 if not (of_kinds (kinds_of id) ds) ∷ 10 if not (means (meaning id ds)) ∷ []) ≡ true)
  l8 = quiet_first (not (eqb (length ds) (length (kinds_of id)))) _ l7.1

  l9 : (not (of_kinds (kinds_of id) ds) ≡ false) × (quiet (10 if not (means (meaning id ds)) ∷ []) ≡ true)
  l9 = quiet_first (not (of_kinds (kinds_of id) ds)) _ l8.1

  known : eqb (length (kinds_of id)) 0 ≡ false
  known = or_right (eqb (length (id ∷ ds)) 0) (eqb (length (kinds_of id)) 0) l7.0

  same_length : length ds ≡ length (kinds_of id)
  same_length = eqb-true (length ds) (length (kinds_of id)) (not-false (eqb (length ds) (length (kinds_of id))) l8.0)

  kinds : of_kinds (kinds_of id) ds ≡ true
  kinds = not-false (of_kinds (kinds_of id) ds) l9.0

  meant : means (meaning id ds) ≡ true
  meant = not-false (means (meaning id ds)) (quiet_first (not (means (meaning id ds))) true l9.1).0

-- id by id
module _ (ds : List ℕ) (p : Packet) where
  own_mode : read_body (0x41 ∷ ds) ≡ Ok p → Own 0x41 ds p
  unfolding kinds_of meaning data_of
  own_mode h =
      let d = get_or ds 0 0 in
      let l : length ds ≡ 1 = same_length 0x41 ds p h in
      let k : is_octal d ≡ true = sym (kinds_one is_octal ds l) ∙ kinds 0x41 ds p h in
      let low : 48 ≤ d = leb-true 48 d (and_left (leb 48 d) (leb d 55) k) in
      let high : d ≤ 55 = leb-true d 55 (and_right (leb 48 d) (leb d 55) k) in
      let q : d ≡ 48 + (d - 48) = omega arith in
      subst (Own 0x41 ds) (got 0x41 ds p h).1
      (record { fitting = le-leb (d - 48) 7 (omega arith); meant = meant 0x41 ds p h; bytes = inl (ap (framed 0x41) (one_of ds l ∙ ap (λ (x : ℕ). x ∷ []) q)) })

  own_clock : read_body (0x49 ∷ ds) ≡ Ok p → Own 0x49 ds p
  unfolding kinds_of meaning data_of
  own_clock h =
      let l : length ds ≡ 1 = same_length 0x49 ds p h in
      let k = sym (kinds_one is_clock ds l) ∙ kinds 0x49 ds p h in
      subst (Own 0x49 ds) (got 0x49 ds p h).1
      (record { fitting = refl; meant = refl; bytes = inl (ap (framed 0x49) (one_of ds l ∙ ap (λ (x : ℕ). x ∷ []) (sym (clock_back (get_or ds 0 0) k)))) })

  own_generator : read_body (0x4B ∷ ds) ≡ Ok p → Own 0x4B ds p
  unfolding kinds_of meaning data_of
  own_generator h =
      let l : length ds ≡ 1 = same_length 0x4B ds p h in
      let k = sym (kinds_one is_generator ds l) ∙ kinds 0x4B ds p h in
      subst (Own 0x4B ds) (got 0x4B ds p h).1
      (record { fitting = refl; meant = refl; bytes = inl (ap (framed 0x4B) (one_of ds l ∙ ap (λ (x : ℕ). x ∷ []) (sym (generator_back (get_or ds 0 0) k)))) })

  own_format : read_body (0x48 ∷ ds) ≡ Ok p → Own 0x48 ds p
  unfolding kinds_of meaning data_of
  own_format h =
      let f = get_or ds 0 0 in
      let m = get_or ds 1 0 in
      let l : length ds ≡ 2 = same_length 0x48 ds p h in
      let k : (is_format f && is_modulation m) ≡ true = sym (kinds_two is_format is_modulation ds l) ∙ kinds 0x48 ds p h in
      subst (Own 0x48 ds) (got 0x48 ds p h).1
      (record {
        fitting = refl;
        meant = meant 0x48 ds p h;
        bytes =
            inl
            (ap (framed 0x48)
            (two_of ds l
            ∙ ap₂ (λ (x y : ℕ). x ∷ y ∷ []) (sym (format_back f (and_left (is_format f) (is_modulation m) k))) (sym (modulation_back m (and_right (is_format f) (is_modulation m) k)))));
      })

-- a sign, and seven digits that write n
module _ (bs : List ℕ) where
  own_plus : (n : ℕ) → n ≤ 9999999 → bs ≡ ascii (digits 10 7 n) → Own 0x47 (0x2B ∷ bs) (Packet.G (pos n))
  unfolding data_of sign_of
  own_plus n h e = record { fitting = le-leb n 9999999 h; meant = refl; bytes = inl (ap (λ (l : List ℕ). framed 0x47 (0x2B ∷ l)) e) }

  own_minus : (n : ℕ) → n ≤ 9999999 → bs ≡ ascii (digits 10 7 n) → Own 0x47 (0x2D ∷ bs) (Packet.G (neg_ℤ (pos n)))
  unfolding data_of sign_of
  own_minus zero h e = record { fitting = refl; meant = refl; bytes = inr (refl, ap (λ (l : List ℕ). framed 0x47 (0x2D ∷ l)) e) }
  own_minus (suc n) h e = record { fitting = le-leb (suc n) 9999999 h; meant = refl; bytes = inl (ap (λ (l : List ℕ). framed 0x47 (0x2D ∷ l)) e) }

  own_signed : (s n : ℕ) → is_sign s ≡ true → n ≤ 9999999 → bs ≡ ascii (digits 10 7 n) → Own 0x47 (s ∷ bs) (Packet.G (signed s n))
  own_signed s n g h e = go (eqb s 0x2B) refl g
    where
      go : (t : Bool) → eqb s 0x2B ≡ t → (t || eqb s 0x2D) ≡ true → Own 0x47 (s ∷ bs) (Packet.G (signed s n))
      go true q r = subst (λ (x : ℕ). Own 0x47 (x ∷ bs) (Packet.G (signed x n))) (sym (eqb-true s 0x2B q)) (own_plus n h e)
      go false q r = subst (λ (x : ℕ). Own 0x47 (x ∷ bs) (Packet.G (signed x n))) (sym (eqb-true s 0x2D r)) (own_minus n h e)

digits_of_lem : (bs : List ℕ) → length bs ≡ 7 → all_decimal bs ≡ true → bs ≡ ascii (digits 10 7 (num 10 (ascii_values bs)))
digits_of_lem bs l h =
    sym (ascii_values_lem bs h)
    ∙ ap ascii (sym (read 10 (lit< tt) (ascii_values bs) (values_below bs h)))
    ∙ ap (λ (k : ℕ). ascii (digits 10 k (num 10 (ascii_values bs)))) (values_length bs ∙ l)

cons_of : (ds : List ℕ) → 0 < length ds → ds ≡ get_or ds 0 0 ∷ drop 1 ds
cons_of [] l = absurd (omega arith)
cons_of (d ∷ ds) l = refl

own_offset : (ds : List ℕ) (p : Packet) → read_body (0x47 ∷ ds) ≡ Ok p → Own 0x47 ds p
unfolding kinds_of meaning offset_of
own_offset ds p h =
    let s = get_or ds 0 0 in
    let bs = drop 1 ds in
    let l : length ds ≡ 8 = same_length 0x47 ds p h in
    let lb : length bs ≡ 7 = simp length-drop (omega arith) in
    let k : (is_sign s && all_decimal bs) ≡ true =
    sym (kinds_cons is_sign (replicate 7 is_decimal) ds (omega arith) ∙ ap (λ (t : Bool). is_sign s && t) (kinds_decimal 7 bs lb)) ∙ kinds 0x47 ds p h in
    let a : all_decimal bs ≡ true = and_right (is_sign s) (all_decimal bs) k in
    let m : num 10 (ascii_values bs) < 10000000 = seven_small bs lb a in
    subst (Own 0x47 ds) (got 0x47 ds p h).1
    (subst (λ (l : List ℕ). Own 0x47 l (Packet.G (signed s (num 10 (ascii_values bs))))) (sym (cons_of ds (omega arith)))
    (own_signed bs s (num 10 (ascii_values bs)) (and_left (is_sign s) (all_decimal bs) k) (omega arith) (digits_of_lem bs lb a)))

-- whatever the id
unknown : (id : ℕ) → eqb id 0x41 ≡ false → eqb id 0x47 ≡ false → eqb id 0x48 ≡ false → eqb id 0x49 ≡ false → eqb id 0x4B ≡ false → eqb (length (kinds_of id)) 0 ≡ false → ⊥
unfolding kinds_of
unknown id a g i j k n = let q = simp (a, g, i, j, k) at n in let z : ◌≡◌ {A = ℕ} 0 1 = cc in omega arith

own : (id : ℕ) (ds : List ℕ) (p : Packet) → read_body (id ∷ ds) ≡ Ok p → Own id ds p
own id ds p h = go (eqb id 0x41) refl (eqb id 0x47) refl (eqb id 0x48) refl (eqb id 0x49) refl (eqb id 0x4B) refl (known id ds p h)
  where
    case : (k : ℕ) → eqb id k ≡ true → (read_body (k ∷ ds) ≡ Ok p → Own k ds p) → Own id ds p
    case k e f = subst (λ (i : ℕ). (read_body (i ∷ ds) ≡ Ok p) → Own i ds p) (sym (eqb-true id k e)) f h

    go : (a : Bool) → eqb id 0x41 ≡ a → (g : Bool) → eqb id 0x47 ≡ g → (i : Bool) → eqb id 0x48 ≡ i → (j : Bool) → eqb id 0x49 ≡ j → (k : Bool) → eqb id 0x4B ≡ k → eqb (length (kinds_of id)) 0 ≡ false → Own id ds p
    go true e g _ i _ j _ k _ n = case 0x41 e (own_mode ds p)
    go false _ true e i _ j _ k _ n = case 0x47 e (own_offset ds p)
    go false _ false _ true e j _ k _ n = case 0x48 e (own_format ds p)
    go false _ false _ false _ true e k _ n = case 0x49 e (own_clock ds p)
    go false _ false _ false _ false _ true e n = case 0x4B e (own_generator ds p)
    go false a false g false i false j false k n = absurd (unknown id a g i j k n)

holds : (row : List ℕ) (p : Packet) → read_packet row ≡ Ok (packet_read p) → Holds row p
holds row p h =
    let o = own (id row p h) (ds row p h) p (reads_body row p h) in
    let rest = drop (suc (e row p h)) row in
    record {
      fitting = o.fitting;
      meant = o.meant;
      dropped = rest;
      bytes =
          ⊎_elim (λ q. inl (row_cut row p h ∙ ap (λ (l : List ℕ). l ++ rest) q))
          (λ q. inr (q.0, row_cut row p h ∙ ap (λ (l : List ℕ). l ++ rest) q.1))
          o.bytes;
    }

-- whatever is said of the jam beside it
pub written_read : (row : List ℕ) (p : Packet) (needs : Bool) → read_packet row ≡ Ok (record { packet = p; needs_jam_off = needs }) → Holds row p
written_read row p needs h = holds row p (read_as_lem row p needs h)

-- THE CALLS

-- the number of writing is that of its table, and a refused writing writes nothing
pub write_number : (p : Packet) (room : ℕ) → number_of (write_packet p room) ≡ writing_refusal p room
unfolding write_packet writing_refusal
write_number p room = given_number (9 if not (fits p) ∷ 10 if not (means p) ∷ 14 if ltb room (length (bytes_of p)) ∷ []) (length (bytes_of p)) refl

pub write_nothing : (p : Packet) (row : List ℕ) → (number_of (write_packet p (length row)) ≡ 0 → ⊥) → (bytes_written (write_packet p (length row)) ≡ 0) × (row_written p row ≡ row)
unfolding write_packet row_written
write_nothing p row h = let e = ne_eqb (writing_refusal p (length row)) 0 (λ z. h (write_number p (length row) ∙ z)) in (simp e, simp e)

-- a packet written into a row reads back from that row, whatever stood there
pub read_back : (p : Packet) (row : List ℕ) → number_of (write_packet p (length row)) ≡ 0 → read_packet (row_written p row) ≡ Ok (packet_read p)
unfolding row_written writing_refusal
read_back p row e =
    let z = sym (write_number p (length row)) ∙ e in
    let a = quiet_first (not (fits p)) _ ((given_zero (9 if not (fits p) ∷ 10 if not (means p) ∷ 14 if ltb (length row) (length (bytes_of p)) ∷ []) refl).0 z) in
    let b = quiet_first (not (means p)) _ a.1 in
    simp (eq-eqb (writing_refusal p (length row)) 0 z)
    (read_written p (not-false (fits p) a.0) (not-false (means p) b.0) (drop (length (bytes_of p)) row))

-- each packet that is read can be written, into any row that has room for its bytes, and all of them are written
pub write_read : (row : List ℕ) (p : Packet) (needs : Bool) → read_packet row ≡ Ok (record { packet = p; needs_jam_off = needs }) → (room : ℕ) → length (bytes_of p) ≤ room → write_packet p room ≡ Ok (length (bytes_of p))
unfolding write_packet writing_refusal
write_read row p needs h room l = simp ((written_read row p needs h).fitting, (written_read row p needs h).meant, le-ltb room (length (bytes_of p)) l)

same_size : length minus_zero ≡ length (bytes_of (Packet.G (pos 0)))
unfolding framed data_of sign_of ascii digits
same_size = refl

-- and the row from which it was read has that room
pub room_read : (row : List ℕ) (p : Packet) (needs : Bool) → read_packet row ≡ Ok (record { packet = p; needs_jam_off = needs }) → length (bytes_of p) ≤ length row
room_read row p needs h =
    let o = written_read row p needs h in
    ⊎_elim
    (λ (e : row ≡ bytes_of p ++ o.dropped). omega (arith, ap length e ∙ length-append (bytes_of p) o.dropped))
    (λ (e : (p ≡ Packet.G (pos 0)) × (row ≡ minus_zero ++ o.dropped)).
    omega (arith, ap length e.1 ∙ length-append minus_zero o.dropped, same_size, ap (λ (q : Packet). length (bytes_of q)) e.0))
    o.bytes

-- A PACKET'S OWN BYTES: at most eleven, each below 256

ascii_below : (ds : List ℕ) → below 10 ds ≡ true → below 256 (ascii ds) ≡ true
unfolding ascii below
ascii_below [] h = refl
ascii_below (d ∷ ds) h =
    let l : d < 10 = ltb-true d 10 (and_left (ltb d 10) (below 10 ds) h) in
    simp (lt-ltb (48 + d) 256 (omega arith), ascii_below ds (and_right (ltb d 10) (below 10 ds) h))

sign_letter_below : (z : ℤ) → ltb (sign_of z) 256 ≡ true
unfolding sign_of
sign_letter_below (pos n) = refl
sign_letter_below (negsuc n) = refl

format_letter_below : (f : Format) → ltb (letter_of_format f) 256 ≡ true
format_letter_below Format.A = refl
format_letter_below Format.B = refl
format_letter_below Format.C = refl
format_letter_below Format.N = refl
format_letter_below Format.X = refl

modulation_letter_below : (m : Modulation) → ltb (letter_of_modulation m) 256 ≡ true
modulation_letter_below Modulation.M = refl
modulation_letter_below Modulation.D = refl

clock_letter_below : (c : ClockSource) → ltb (letter_of_clock c) 256 ≡ true
clock_letter_below ClockSource.External = refl
clock_letter_below ClockSource.Internal = refl

generator_letter_below : (g : Generator) → ltb (letter_of_generator g) 256 ≡ true
generator_letter_below Generator.B = refl
generator_letter_below Generator.H = refl

pub bytes_below : (p : Packet) → fits p ≡ true → below 256 (bytes_of p) ≡ true
unfolding framed data_of below
bytes_below (Packet.A m) f = simp (lt-ltb (48 + m) 256 (omega (arith, leb-true m 7 f)))
bytes_below (Packet.G z) f =
    simp (sign_letter_below z, below_both 256 (ascii (digits 10 7 (nat_abs z))) (0x17 ∷ []), ascii_below (digits 10 7 (nat_abs z)) (digits_below 10 (lit< tt) 7 (nat_abs z)))
bytes_below (Packet.H a m) f = simp (format_letter_below a, modulation_letter_below m)
bytes_below (Packet.I c) f = simp (clock_letter_below c)
bytes_below (Packet.K g) f = simp (generator_letter_below g)

pub bytes_few : (p : Packet) → length (bytes_of p) ≤ 11
unfolding framed data_of ascii digits
bytes_few (Packet.A m) = lit≤ tt
bytes_few (Packet.G z) = lit≤ tt
bytes_few (Packet.H a m) = lit≤ tt
bytes_few (Packet.I c) = lit≤ tt
bytes_few (Packet.K g) = lit≤ tt
