-- Packets. Assumes nothing.
use Prim.Native.Nat.{ℕ, zero, suc, ◌+◌, ◌*◌, ◌-◌, ◌/◌, ◌%◌, ◌^◌, ◌≤◌, ◌<◌, zero-le, min}
use mathlib.Core.Path.{◌≡◌, refl, sym, ◌∙◌, ap, ap₂}
use mathlib.Core.Bool.{Bool, true, false, ◌&&◌, ◌||◌, not}
use mathlib.Core.List.{List, [], ◌∷◌, ◌++◌, append_assoc}
use mathlib.Core.Logic.{⊎_elim}
use native.Mathlib.Omega.{arith}
use native.Mathlib.Nat.{pow-suc, div-one}
use native.Mathlib.Numerals.{add-one}
use Rattle.std.specs.Prelude.{Option, Some, None, Result, Ok, Err, cond}
use Rattle.std.specs.List.{position, position_or_len}
use Rattle.std.specs.Option.{ok_or}
use lib.Dec.{leb, ltb, eqb, lit<, eqb-suc-zero, leb-suc-suc}
use lib.IntN.{ℤ}
use lib.ListN.{length, take, drop, set, get_or, length-append, length-drop, replicate}
use lib.Seq.{take-suc, take_all, drop-cons, get_or-drop, length-take-le, set-append_seam}
use borrow.Author.Tests.{lt-ltb, le-ltb, le-leb, lt-leb, ltb-true, leb-true, eqb-true, eq-eqb, ne_eqb}
use Rattle.wire.specs.Digits.{pick, digits, num, below}
use Rattle.wire.specs.Numbers.{given, refusal, answered}
use Rattle.wire.specs.Packets.{has, place_of, body_of, frame_lines, packet_refusal, read_packet, is_decimal, is_octal, is_sign, is_format, is_modulation, is_clock, is_generator, mode_means, pair_means, format_of, modulation_of, clock_of, generator_of, signed, offset_of, all_decimal, ascii, ascii_values, read_number, letter_read, read_one, read_format, read_modulation, read_clock, read_generator, kinds_of, of_kinds, body_lines, means, meaning, needs_jam_off, packet_read, read_body, fits, writing_refusal, write_packet, row_written, framed, bytes_of, put, put_into}
use Rattle.wire.specs.declared.numbers.Refusal.{Refusal}
use Rattle.wire.specs.declared.packets.ClockSource.{ClockSource}
use Rattle.wire.specs.declared.packets.Generator.{Generator}
use Rattle.wire.specs.declared.packets.Format.{Format}
use Rattle.wire.specs.declared.packets.Modulation.{Modulation}
use Rattle.wire.specs.declared.packets.Packet.{Packet}
use Rattle.wire.specs.declared.packets.PacketRead.{PacketRead}
use Rattle.wire.proofs.digits.Laws.{lt_or_le, and_left, and_right, and_assoc, and_true, num_append, num_below, picked}
use Rattle.wire.proofs.numbers.Names.{names}

pub and_false : (t : Bool) → (t && false) ≡ false
and_false true = refl
and_false false = refl

-- THE FIRST 0x17

-- where it is
has_step : (t h : Bool) (p l : ℕ) → h ≡ ltb p l → (t || h) ≡ ltb (pick t 0 (suc p)) (suc l)
has_step true h p l e = sym (lt-ltb 0 (suc l) (omega arith))
has_step false h p l e = e ∙ sym (leb-suc-suc (suc p) l)

pub place_has : (b : ℕ) (xs : List ℕ) → has b xs ≡ ltb (place_of b xs) (length xs)
unfolding has place_of
place_has b [] = refl
place_has b (x ∷ xs) = has_step (eqb x b) (has b xs) (place_of b xs) (length xs) (place_has b xs)

-- a place within a row's front is that of the row
front_step : (t : Bool) (p q l : ℕ) → (q < l → p ≡ q) → pick t 0 (suc q) < suc l → pick t 0 (suc p) ≡ pick t 0 (suc q)
front_step true p q l f h = refl
front_step false p q l f h = ap suc (f (omega arith))

pub place_front : (b m : ℕ) (xs : List ℕ) → place_of b (take m xs) < length (take m xs) → place_of b xs ≡ place_of b (take m xs)
unfolding place_of
place_front b zero xs h = absurd (omega arith)
place_front b (suc m) [] h = refl
place_front b (suc m) (x ∷ xs) h = front_step (eqb x b) (place_of b xs) (place_of b (take m xs)) (length (take m xs)) (place_front b m xs) h

-- as the code looks for it
placed_step : (b : ℕ) (xs : List ℕ) → place_of b xs ≡ position_or_len (λ x. eqb x b) xs
unfolding place_of
placed_step b [] = refl
placed_step b (x ∷ xs) = go (eqb x b) (placed_step b xs)
  where
    go : (t : Bool) → place_of b xs ≡ position_or_len (λ x. eqb x b) xs → pick t 0 (suc (place_of b xs)) ≡ cond (not t) (1 + position_or_len (λ x. eqb x b) xs) 0
    go true e = refl
    go false e = omega (arith, e)

first_found : (t : Bool) (p e : ℕ) → cond t (Some p) None ≡ Some e → (t ≡ true) × (p ≡ e)
first_found true p e h = (refl, cc)
first_found false p e h = cc

pub first_some : (b : ℕ) (xs : List ℕ) (e : ℕ) → position (λ x. eqb x b) xs ≡ Some e → (has b xs ≡ true) × (place_of b xs ≡ e)
first_some b xs e h =
    let q = first_found (ltb (position_or_len (λ x. eqb x b) xs) (length xs)) (position_or_len (λ x. eqb x b) xs) e h in
    (place_has b xs ∙ ap (λ (k : ℕ). ltb k (length xs)) (placed_step b xs) ∙ q.0, placed_step b xs ∙ q.1)

none_found : (t : Bool) (p : ℕ) → cond t (Some p) None ≡ None → t ≡ false
none_found true p h = cc
none_found false p h = refl

pub first_none : (b : ℕ) (xs : List ℕ) → position (λ x. eqb x b) xs ≡ None → has b xs ≡ false
first_none b xs h =
    place_has b xs ∙ ap (λ (k : ℕ). ltb k (length xs)) (placed_step b xs)
    ∙ none_found (ltb (position_or_len (λ x. eqb x b) xs) (length xs)) (position_or_len (λ x. eqb x b) xs) h

-- a byte that is not among so many is not among fewer
fewer_step : (t u v : Bool) → (u ≡ false → v ≡ false) → (t || u) ≡ false → (t || v) ≡ false
fewer_step true u v g h = h
fewer_step false u v g h = g h

has_fewer : (b k m : ℕ) (row : List ℕ) → k ≤ m → has b (take m row) ≡ false → has b (take k row) ≡ false
unfolding has
has_fewer b zero m row l h = refl
has_fewer b (suc k) zero row l h = absurd (omega arith)
has_fewer b (suc k) (suc m) [] l h = refl
has_fewer b (suc k) (suc m) (x ∷ row) l h = fewer_step (eqb x b) (has b (take m row)) (has b (take k row)) (has_fewer b k m row (omega arith)) h

-- THE TABLE UP TO 6

-- a packet that is read, with whether it needs the jam off
unfoldable pub with_jam : Result Packet Refusal → Result PacketRead Refusal
with_jam (Ok p) = Ok (packet_read p)
with_jam (Err r) = Err r

jam_answered : (n : ℕ) (p : Packet) → answered n (packet_read p) ≡ with_jam (answered n p)
unfolding with_jam
jam_answered n p = sym (picked with_jam (eqb n 0) (Ok p) (Err (refusal n)))

module _ (row : List ℕ) where
  pub no_start : (eqb (length row) 0 || not (eqb (get_or row 0 0) 1)) ≡ true → read_packet row ≡ Err Refusal.NoStart
  unfolding read_packet packet_refusal frame_lines
  no_start e = simp (e, names)

  module _ (s : (eqb (length row) 0 || not (eqb (get_or row 0 0) 1)) ≡ false) where
    pub too_long : 41 ≤ length row → has 0x17 (take 41 row) ≡ false → read_packet row ≡ Err Refusal.TooLong
    unfolding read_packet packet_refusal frame_lines
    too_long l h = simp (s, le-leb 41 (length row) l, h, names)

    pub no_end : length row ≤ 40 → has 0x17 row ≡ false → read_packet row ≡ Err Refusal.NoEnd
    unfolding read_packet packet_refusal frame_lines
    no_end l h = simp (s, lt-leb 41 (length row) (omega arith), le-leb (length row) 40 l, h, names)

    pub framed_row : (e : ℕ) → place_of 0x17 row ≡ e → has 0x17 (take 41 row) ≡ true → has 0x17 row ≡ true → read_packet row ≡ with_jam (read_body (drop 1 (take e row)))
    unfolding read_packet packet_refusal frame_lines body_of read_body
    framed_row e p h i =
        rw (← p)
        (simp (s, h, i, and_false)
        (jam_answered (given (body_lines (drop 1 (take (place_of 0x17 row) row)))) (meaning (get_or (drop 1 (take (place_of 0x17 row) row)) 0 0) (drop 1 (drop 1 (take (place_of 0x17 row) row))))))

-- the row's part between 0x01 and the place e
between : (row : List ℕ) (e : ℕ) → take (e - 1) (drop 1 row) ≡ drop 1 (take e row)
between row zero = cc
between [] (suc e) = take_all (suc e - 1) [] (omega arith)
between (x ∷ row) (suc e) = ap (λ (k : ℕ). take k row) (let q : suc e - 1 ≡ e = omega arith in q)

-- a row that starts with 0x01
module _ (row : List ℕ) (n : 1 ≤ length row) (f : get_or row 0 0 ≡ 1) where
  starts : (eqb (length row) 0 || not (eqb (get_or row 0 0) 1)) ≡ false
  starts = simp (ne_eqb (length row) 0 (λ z. omega arith), eq-eqb (get_or row 0 0) 1 f)

  -- in whose first m bytes the code looks for 0x17; m is the least of 41 and the row's length
  module _ (m : ℕ) (em : m ≡ min (length row) 41) where
    front_length : length (take m row) ≡ m
    front_length = length-take-le m row (omega arith)

    front_41 : take m row ≡ take 41 row
    front_41 =
        ⊎_elim
        (λ l. take_all m row (omega arith) ∙ sym (take_all 41 row (omega arith)))
        (λ g. let q : m ≡ 41 = omega arith in ap (λ (k : ℕ). take k row) q)
        (lt_or_le (length row) 41)

    -- found at e
    module _ (e : ℕ) (h : position (λ x. eqb x 0x17) (take m row) ≡ Some e) where
      place : place_of 0x17 (take m row) ≡ e
      place = (first_some 0x17 (take m row) e h).1

      in_front : e < m
      in_front = let q = ltb-true (place_of 0x17 (take m row)) (length (take m row)) (sym (place_has 0x17 (take m row)) ∙ (first_some 0x17 (take m row) e h).0) in omega (arith, place, front_length)

      reads_found : read_packet row ≡ with_jam (read_body (take (e - 1) (drop 1 row)))
      reads_found =
          let p : place_of 0x17 row ≡ e = place_front 0x17 m row (omega (arith, front_length, place, in_front)) ∙ place in
          let i : has 0x17 row ≡ true = place_has 0x17 row ∙ lt-ltb (place_of 0x17 row) (length row) (omega (arith, in_front)) in
          framed_row row starts e p (ap (has 0x17) (sym front_41) ∙ (first_some 0x17 (take m row) e h).0) i ∙ ap (λ (b : List ℕ). with_jam (read_body b)) (sym (between row e))

      pub reads_packet : (p : Packet) (needs : Bool) → read_body (take (e - 1) (drop 1 row)) ≡ Ok p → needs ≡ needs_jam_off p → Ok (record { packet = p; needs_jam_off = needs }) ≡ read_packet row
      unfolding with_jam
      reads_packet p needs q j = ap (λ (t : Bool). Ok (record { packet = p; needs_jam_off = t })) j ∙ sym (reads_found ∙ ap with_jam q)

      pub reads_refusal : (r : Refusal) → read_body (take (e - 1) (drop 1 row)) ≡ Err r → Err r ≡ read_packet row
      unfolding with_jam
      reads_refusal r q = sym (reads_found ∙ ap with_jam q)

  -- and among whose first m bytes is none; m is 41 or more, or the row's length
  module _ (m : ℕ) (h : position (λ x. eqb x 0x17) (take m row) ≡ None) where
    pub reads_5 : 41 ≤ m → 41 ≤ length row → Err Refusal.TooLong ≡ read_packet row
    reads_5 k l = sym (too_long row starts l (has_fewer 0x17 41 m row k (first_none 0x17 (take m row) h)))

    pub reads_6 : length row ≤ m → length row ≤ 40 → Err Refusal.NoEnd ≡ read_packet row
    reads_6 k l = sym (no_end row starts l (ap (has 0x17) (sym (take_all m row k)) ∙ first_none 0x17 (take m row) h))

pub start_empty : (row : List ℕ) → length row < 1 → Err Refusal.NoStart ≡ read_packet row
start_empty row l = let z : length row ≡ 0 = omega arith in sym (no_start row (simp (eq-eqb (length row) 0 z)))

pub start_other : (row : List ℕ) → 1 ≤ length row → (get_or row 0 0 ≡ 1 → ⊥) → Err Refusal.NoStart ≡ read_packet row
start_other row l f = sym (no_start row (simp (ne_eqb (length row) 0 (λ z. omega arith), ne_eqb (get_or row 0 0) 1 f)))

-- NUMBERS

values_append : (xs ys : List ℕ) → ascii_values (xs ++ ys) ≡ ascii_values xs ++ ascii_values ys
unfolding ascii_values
values_append [] ys = refl
values_append (x ∷ xs) ys = ap (λ (l : List ℕ). (x - 48) ∷ l) (values_append xs ys)

decimal_append : (xs ys : List ℕ) → all_decimal (xs ++ ys) ≡ (all_decimal xs && all_decimal ys)
unfolding all_decimal
decimal_append [] ys = refl
decimal_append (x ∷ xs) ys = ap (λ (t : Bool). is_decimal x && t) (decimal_append xs ys) ∙ sym (and_assoc (is_decimal x) (all_decimal xs) (all_decimal ys))

decimal_at : (bs : List ℕ) (i : ℕ) → i < length bs → is_decimal (get_or bs i 0) ≡ false → all_decimal bs ≡ false
unfolding all_decimal
decimal_at [] i h e = absurd (omega arith)
decimal_at (x ∷ bs) zero h e = simp e
decimal_at (x ∷ bs) (suc i) h e = ap (λ (t : Bool). is_decimal x && t) (decimal_at bs i (omega arith) e) ∙ and_false (is_decimal x)

pub not_decimal : (bs : List ℕ) (i : ℕ) → i < length bs → is_decimal (get_or bs i 0) ≡ false → read_number bs ≡ None
unfolding read_number
not_decimal bs i h e = ap (λ (t : Bool). pick t (Some (num 10 (ascii_values bs))) None) (decimal_at bs i h e)

-- the digits up to place i are decimal, and write acc
pub record Read (bs : List ℕ) (acc i : ℕ) : Type 0 where
  pub within : i ≤ length bs
  pub decimal : all_decimal (take i bs) ≡ true
  pub sum : acc ≡ num 10 (ascii_values (take i bs))
  pub small : acc < 10 ^ i

pub read_none : (bs : List ℕ) → Read bs 0 0
unfolding all_decimal ascii_values num
read_none bs = record { within = zero-le; decimal = refl; sum = refl; small = lit< tt }

module _ (bs : List ℕ) (acc i : ℕ) (r : Read bs acc i) (h : i < length bs) where
  b : ℕ
  b = get_or bs i 0

  one_more : take (i + 1) bs ≡ take i bs ++ (b ∷ [])
  unfolding b
  one_more = rw add-one (take-suc bs i 0 h)

  pub read_more : 48 ≤ get_or bs i 0 → get_or bs i 0 ≤ 57 → Read bs (acc * 10 + (get_or bs i 0 - 48)) (i + 1)
  unfolding b all_decimal ascii_values num
  read_more l u =
      record {
        within = omega arith;
        decimal = ap all_decimal one_more ∙ decimal_append (take i bs) (b ∷ []) ∙ simp (r.decimal, le-leb 48 b l, le-leb b 57 u);
        sum =
            rw (one_more, values_append (take i bs) (b ∷ []), num_append 10 (lit< tt) (ascii_values (take i bs)) ((b - 48) ∷ []), ← r.sum)
            (omega arith);
        small = rw (add-one i, pow-suc 10 i) (omega (arith, r.small));
      }

pub read_all : (bs : List ℕ) (acc i : ℕ) → Read bs acc i → length bs ≤ i → Some acc ≡ read_number bs
unfolding read_number
read_all bs acc i r h =
    let e : take i bs ≡ bs = take_all i bs h in
    simp (rw e at r.decimal) (ap Some (r.sum ∙ ap (λ (l : List ℕ). num 10 (ascii_values l)) e))

-- THE TABLE FROM 7 ON

nine_or_ten : (o m : Bool) (p : Packet) → answered (pick (not o) 9 (pick (not m) 10 0)) p ≡ pick o (pick m (Ok p) (Err Refusal.NoMeaning)) (Err Refusal.WrongByte)
nine_or_ten true true p = refl
nine_or_ten true false p = simp names
nine_or_ten false m p = simp names

pub body_none : read_body [] ≡ Err Refusal.UnknownId
unfolding read_body body_lines
body_none = simp names

module _ (id : ℕ) (ds : List ℕ) where
  pub body_unknown : eqb (length (kinds_of id)) 0 ≡ true → read_body (id ∷ ds) ≡ Err Refusal.UnknownId
  unfolding read_body body_lines
  body_unknown k = simp (k, eqb-suc-zero, names)

  pub body_length : eqb (length (kinds_of id)) 0 ≡ false → eqb (length ds) (length (kinds_of id)) ≡ false → read_body (id ∷ ds) ≡ Err Refusal.WrongLength
  unfolding read_body body_lines
  body_length k l = simp (k, l, eqb-suc-zero, names)

  -- a known id with so many data bytes as it has kinds
  pub body_of_lem : eqb (length (kinds_of id)) 0 ≡ false → eqb (length ds) (length (kinds_of id)) ≡ true →
      read_body (id ∷ ds) ≡ pick (of_kinds (kinds_of id) ds) (pick (means (meaning id ds)) (Ok (meaning id ds)) (Err Refusal.NoMeaning)) (Err Refusal.WrongByte)
  unfolding read_body body_lines
  body_of_lem k l = simp (k, l, eqb-suc-zero) (nine_or_ten (of_kinds (kinds_of id) ds) (means (meaning id ds)) (meaning id ds))

-- the kinds, byte by byte
pub kinds_cons : (k : ℕ → Bool) (ks : List (ℕ → Bool)) (ds : List ℕ) → 0 < length ds → of_kinds (k ∷ ks) ds ≡ (k (get_or ds 0 0) && of_kinds ks (drop 1 ds))
unfolding of_kinds
kinds_cons k ks [] h = absurd (omega arith)
kinds_cons k ks (d ∷ ds) h = refl

pub kinds_decimal : (n : ℕ) (ds : List ℕ) → length ds ≡ n → of_kinds (replicate n is_decimal) ds ≡ all_decimal ds
unfolding of_kinds all_decimal
kinds_decimal zero [] h = refl
kinds_decimal zero (d ∷ ds) h = absurd (omega arith)
kinds_decimal (suc n) [] h = refl
kinds_decimal (suc n) (d ∷ ds) h = ap (λ (t : Bool). is_decimal d && t) (kinds_decimal n ds (omega arith))

-- one data byte
pub kinds_one : (k : ℕ → Bool) (ds : List ℕ) → length ds ≡ 1 → of_kinds (k ∷ []) ds ≡ k (get_or ds 0 0)
unfolding of_kinds
kinds_one k ds h = kinds_cons k [] ds (omega arith) ∙ and_true (k (get_or ds 0 0))

pub kinds_two : (j k : ℕ → Bool) (ds : List ℕ) → length ds ≡ 2 → of_kinds (j ∷ k ∷ []) ds ≡ (j (get_or ds 0 0) && k (get_or ds 1 0))
kinds_two j k ds h =
    kinds_cons j (k ∷ []) ds (omega arith)
    ∙ ap (λ (t : Bool). j (get_or ds 0 0) && t) (kinds_one k (drop 1 ds) (simp length-drop (omega arith)) ∙ ap k (get_or-drop 1 ds 0 0))

-- and each id's own
module _ (ds : List ℕ) (l : length ds ≡ 1) where
  pub mode_body : read_body (0x41 ∷ ds) ≡ pick (is_octal (get_or ds 0 0)) (pick (mode_means (get_or ds 0 0 - 48)) (Ok (Packet.A (get_or ds 0 0 - 48))) (Err Refusal.NoMeaning)) (Err Refusal.WrongByte)
  unfolding kinds_of meaning
  mode_body =
      body_of_lem 0x41 ds refl (eq-eqb (length ds) 1 l)
      ∙ ap (λ (t : Bool). pick t (pick (mode_means (get_or ds 0 0 - 48)) (Ok (Packet.A (get_or ds 0 0 - 48))) (Err Refusal.NoMeaning)) (Err Refusal.WrongByte)) (kinds_one is_octal ds l)

-- a letter alone
abbrev pub lettered : {A : Type 0} → (A → Packet) → Result A Refusal → Result Packet Refusal
lettered p (Ok a) = Ok (p a)
lettered p (Err r) = Err r

module _ {A : Type 0} (id : ℕ) (p : A → Packet) (is : ℕ → Bool) (of : ℕ → A) (k : kinds_of id ≡ is ∷ []) (ds : List ℕ)
    (m : meaning id ds ≡ p (of (get_or ds 0 0))) (h : (a : A) → means (p a) ≡ true) where
  letter_step : (t : Bool) → pick t (Ok (p (of (get_or ds 0 0)))) (Err Refusal.WrongByte) ≡ lettered p (pick t (Ok (of (get_or ds 0 0))) (Err Refusal.WrongByte))
  letter_step true = refl
  letter_step false = refl

  known : eqb (length (kinds_of id)) 0 ≡ false
  known = rw k refl

  letter_body : lettered p (read_one (letter_read is of) ds) ≡ read_body (id ∷ ds)
  letter_body = go (eqb (length ds) 1) refl
    where
      go : (t : Bool) → eqb (length ds) 1 ≡ t → lettered p (pick t (letter_read is of (get_or ds 0 0)) (Err Refusal.WrongLength)) ≡ read_body (id ∷ ds)
      go true e =
          sym
          (body_of_lem id ds known (rw k e)
          ∙ simp (m, h (of (get_or ds 0 0)), k, kinds_one is ds (eqb-true (length ds) 1 e)) (letter_step (is (get_or ds 0 0))))
      go false e = sym (body_length id ds known (rw k e))

pub clock_body : (ds : List ℕ) → lettered Packet.I (read_one read_clock ds) ≡ read_body (0x49 ∷ ds)
unfolding kinds_of meaning
clock_body ds = letter_body 0x49 Packet.I is_clock clock_of refl ds refl (λ c. refl)

pub generator_body : (ds : List ℕ) → lettered Packet.K (read_one read_generator ds) ≡ read_body (0x4B ∷ ds)
unfolding kinds_of meaning
generator_body ds = letter_body 0x4B Packet.K is_generator generator_of refl ds refl (λ g. refl)

-- a format and a modulation
abbrev pub paired : Result Format Refusal → Result Modulation Refusal → Result Packet Refusal
paired (Ok f) (Ok m) = pick (pair_means f m) (Ok (Packet.H f m)) (Err Refusal.NoMeaning)
paired (Ok f) (Err r) = Err r
paired (Err r) m = Err r

pair_step : (s t : Bool) (f : Format) (m : Modulation) → pick (s && t) (pick (pair_means f m) (Ok (Packet.H f m)) (Err Refusal.NoMeaning)) (Err Refusal.WrongByte) ≡ paired (pick s (Ok f) (Err Refusal.WrongByte)) (pick t (Ok m) (Err Refusal.WrongByte))
pair_step true true f m = refl
pair_step true false f m = refl
pair_step false t f m = refl

pub format_body : (ds : List ℕ) → length ds ≡ 2 → read_body (0x48 ∷ ds) ≡ paired (read_format (get_or ds 0 0)) (read_modulation (get_or ds 1 0))
unfolding kinds_of meaning
format_body ds l =
    let f = format_of (get_or ds 0 0) in
    let m = modulation_of (get_or ds 1 0) in
    let x : Result Packet Refusal = pick (pair_means f m) (Ok (Packet.H f m)) (Err Refusal.NoMeaning) in
    body_of_lem 0x48 ds refl (eq-eqb (length ds) 2 l)
    ∙ ap (λ (t : Bool). pick t x (Err Refusal.WrongByte)) (kinds_two is_format is_modulation ds l)
    ∙ pair_step (is_format (get_or ds 0 0)) (is_modulation (get_or ds 1 0)) f m

-- a sign and the number behind it
unfoldable pub signed_read : ℕ → Option ℕ → Result Packet Refusal
signed_read sign None = Err Refusal.WrongByte
signed_read sign (Some n) = pick (is_sign sign) (Ok (Packet.G (signed sign n))) (Err Refusal.WrongByte)

signed_read_lem : (sign : ℕ) (ds : List ℕ) (t : Bool) → all_decimal ds ≡ t → pick (is_sign sign && all_decimal ds) (Ok (Packet.G (offset_of sign ds))) (Err Refusal.WrongByte) ≡ signed_read sign (read_number ds)
unfolding signed_read read_number offset_of
signed_read_lem sign ds true f = simp (f, and_true)
signed_read_lem sign ds false f = simp (f, and_false)

pub offset_body : (ds : List ℕ) → length ds ≡ 8 → read_body (0x47 ∷ ds) ≡ signed_read (get_or ds 0 0) (read_number (drop 1 ds))
unfolding kinds_of meaning
offset_body ds l =
    body_of_lem 0x47 ds refl (eq-eqb (length ds) 8 l)
    ∙ ap (λ (t : Bool). pick t (Ok (Packet.G (offset_of (get_or ds 0 0) (drop 1 ds)))) (Err Refusal.WrongByte))
    (kinds_cons is_sign (replicate 7 is_decimal) ds (omega arith) ∙ ap (λ (t : Bool). is_sign (get_or ds 0 0) && t) (kinds_decimal 7 (drop 1 ds) (simp length-drop (omega arith))))
    ∙ signed_read_lem (get_or ds 0 0) (drop 1 ds) (all_decimal (drop 1 ds)) refl

pub values_length : (ds : List ℕ) → length (ascii_values ds) ≡ length ds
unfolding ascii_values
values_length [] = refl
values_length (d ∷ ds) = ap suc (values_length ds)

pub values_below : (ds : List ℕ) → all_decimal ds ≡ true → below 10 (ascii_values ds) ≡ true
unfolding ascii_values all_decimal below
values_below [] h = refl
values_below (d ∷ ds) h =
    let u : d ≤ 57 = leb-true d 57 (and_right (leb 48 d) (leb d 57) (and_left (is_decimal d) (all_decimal ds) h)) in
    simp (lt-ltb (d - 48) 10 (omega arith), values_below ds (and_right (is_decimal d) (all_decimal ds) h))

-- seven digits write a number below ten million
pub seven_small : (ds : List ℕ) → length ds ≡ 7 → all_decimal ds ≡ true → num 10 (ascii_values ds) < 10000000
seven_small ds l h = let n : num 10 (ascii_values ds) < 10 ^ length (ascii_values ds) = num_below 10 (lit< tt) (ascii_values ds) (values_below ds h) in rw (values_length ds ∙ l) at n

is_number : (t : Bool) (m n : ℕ) → pick t (Some m) None ≡ Some n → (t ≡ true) × (m ≡ n)
is_number true m n e = (refl, cc)
is_number false m n e = cc

pub seven : (ds : List ℕ) (n : ℕ) → length ds ≡ 7 → read_number ds ≡ Some n → n ≤ 9999999
unfolding read_number
seven ds n l e =
    let q = is_number (all_decimal ds) (num 10 (ascii_values ds)) n e in
    let s = seven_small ds l q.0 in
    omega arith

-- WHAT THE CODE ASKS OF EACH ID

module _ (ds : List ℕ) where
  pub mode_length : (length ds ≡ 1 → ⊥) → Err Refusal.WrongLength ≡ read_body (0x41 ∷ ds)
  unfolding kinds_of
  mode_length l = sym (body_length 0x41 ds refl (ne_eqb (length ds) 1 l))

  pub mode_byte : length ds ≡ 1 → is_octal (get_or ds 0 0) ≡ false → Err Refusal.WrongByte ≡ read_body (0x41 ∷ ds)
  mode_byte l k = sym (mode_body ds l ∙ simp k)

  pub mode_meaning : length ds ≡ 1 → is_octal (get_or ds 0 0) ≡ true → mode_means (get_or ds 0 0 - 48) ≡ false → Err Refusal.NoMeaning ≡ read_body (0x41 ∷ ds)
  mode_meaning l k m = sym (mode_body ds l ∙ simp (k, m))

  pub mode_read : length ds ≡ 1 → is_octal (get_or ds 0 0) ≡ true → mode_means (get_or ds 0 0 - 48) ≡ true → Ok (Packet.A (get_or ds 0 0 - 48)) ≡ read_body (0x41 ∷ ds)
  mode_read l k m = sym (mode_body ds l ∙ simp (k, m))

  pub format_length : (length ds ≡ 2 → ⊥) → Err Refusal.WrongLength ≡ read_body (0x48 ∷ ds)
  unfolding kinds_of
  format_length l = sym (body_length 0x48 ds refl (ne_eqb (length ds) 2 l))

  pub format_byte : length ds ≡ 2 → (r : Refusal) → read_format (get_or ds 0 0) ≡ Err r → Err r ≡ read_body (0x48 ∷ ds)
  format_byte l r k = sym (format_body ds l ∙ ap (λ (x : Result Format Refusal). paired x (read_modulation (get_or ds 1 0))) k)

  pub modulation_byte : length ds ≡ 2 → (f : Format) (r : Refusal) → read_format (get_or ds 0 0) ≡ Ok f → read_modulation (get_or ds 1 0) ≡ Err r → Err r ≡ read_body (0x48 ∷ ds)
  modulation_byte l f r j k = sym (format_body ds l ∙ ap₂ paired j k)

  pub format_meaning : length ds ≡ 2 → (f : Format) (m : Modulation) → read_format (get_or ds 0 0) ≡ Ok f → read_modulation (get_or ds 1 0) ≡ Ok m → pair_means f m ≡ false → Err Refusal.NoMeaning ≡ read_body (0x48 ∷ ds)
  format_meaning l f m j k e = sym (format_body ds l ∙ ap₂ paired j k ∙ simp e)

  pub format_read : length ds ≡ 2 → (f : Format) (m : Modulation) → read_format (get_or ds 0 0) ≡ Ok f → read_modulation (get_or ds 1 0) ≡ Ok m → pair_means f m ≡ true → Ok (Packet.H f m) ≡ read_body (0x48 ∷ ds)
  format_read l f m j k e = sym (format_body ds l ∙ ap₂ paired j k ∙ simp e)

  pub clock_refused : (r : Refusal) → read_one read_clock ds ≡ Err r → Err r ≡ read_body (0x49 ∷ ds)
  clock_refused r e = ap (lettered Packet.I) (sym e) ∙ clock_body ds

  pub clock_read : (c : ClockSource) → read_one read_clock ds ≡ Ok c → Ok (Packet.I c) ≡ read_body (0x49 ∷ ds)
  clock_read c e = ap (lettered Packet.I) (sym e) ∙ clock_body ds

  pub generator_refused : (r : Refusal) → read_one read_generator ds ≡ Err r → Err r ≡ read_body (0x4B ∷ ds)
  generator_refused r e = ap (lettered Packet.K) (sym e) ∙ generator_body ds

  pub generator_read : (g : Generator) → read_one read_generator ds ≡ Ok g → Ok (Packet.K g) ≡ read_body (0x4B ∷ ds)
  generator_read g e = ap (lettered Packet.K) (sym e) ∙ generator_body ds

  -- all behind the first of some bytes, seven if there are eight
  behind_one : take (length ds - 1) (drop 1 ds) ≡ drop 1 ds
  behind_one = take_all (length ds - 1) (drop 1 ds) (simp length-drop (omega arith))

  pub eight : 1 ≤ length ds → length (take (length ds - 1) (drop 1 ds)) ≡ 7 → length ds ≡ 8
  eight l e = let q : length (drop 1 ds) ≡ 7 = ap length (sym behind_one) ∙ e in let r : length ds - 1 ≡ 7 = rw length-drop at q in omega (arith, r)

  pub not_eight : 1 ≤ length ds → (length (take (length ds - 1) (drop 1 ds)) ≡ 7 → ⊥) → length ds ≡ 8 → ⊥
  not_eight l n e = n (ap length behind_one ∙ simp length-drop (omega (arith, e)))

  pub last_seven : (x : Option ℕ) → read_number (take (length ds - 1) (drop 1 ds)) ≡ x → read_number (drop 1 ds) ≡ x
  last_seven x e = ap read_number (sym behind_one) ∙ e

  pub small : (n : ℕ) → length ds ≡ 8 → read_number (drop 1 ds) ≡ Some n → n ≤ 9999999
  small n l e = seven (drop 1 ds) n (simp length-drop (omega arith)) e

  pub offset_number : length ds ≡ 8 → read_number (drop 1 ds) ≡ None → Err Refusal.WrongByte ≡ read_body (0x47 ∷ ds)
  unfolding signed_read
  offset_number l e = sym (offset_body ds l ∙ ap (signed_read (get_or ds 0 0)) e)

  pub offset_sign : length ds ≡ 8 → (n : ℕ) → read_number (drop 1 ds) ≡ Some n → is_sign (get_or ds 0 0) ≡ false → Err Refusal.WrongByte ≡ read_body (0x47 ∷ ds)
  unfolding signed_read
  offset_sign l n e k = sym (offset_body ds l ∙ ap (signed_read (get_or ds 0 0)) e ∙ simp k)

  pub offset_read : length ds ≡ 8 → (n : ℕ) → read_number (drop 1 ds) ≡ Some n → is_sign (get_or ds 0 0) ≡ true → (z : ℤ) → z ≡ signed (get_or ds 0 0) n → Ok (Packet.G z) ≡ read_body (0x47 ∷ ds)
  unfolding signed_read
  offset_read l n e k z q = sym (offset_body ds l ∙ ap (signed_read (get_or ds 0 0)) e ∙ simp (k, q))

  pub offset_length : (length ds ≡ 8 → ⊥) → Err Refusal.WrongLength ≡ read_body (0x47 ∷ ds)
  unfolding kinds_of
  offset_length l = sym (body_length 0x47 ds refl (ne_eqb (length ds) 8 l))

pub no_number : (o : Option ℕ) (w e : Refusal) → ok_or o w ≡ Err e → (o ≡ None) × (e ≡ w)
no_number None w e h = (refl, cc)
no_number (Some n) w e h = cc

-- an id that has no kinds
pub other_id : (id : ℕ) (ds : List ℕ) → (id ≡ 0x41 → ⊥) → (id ≡ 0x47 → ⊥) → (id ≡ 0x48 → ⊥) → (id ≡ 0x49 → ⊥) → (id ≡ 0x4B → ⊥) → Err Refusal.UnknownId ≡ read_body (id ∷ ds)
unfolding kinds_of
other_id id ds a g h i k = sym (body_unknown id ds (simp (ne_eqb id 0x41 a, ne_eqb id 0x47 g, ne_eqb id 0x48 h, ne_eqb id 0x49 i, ne_eqb id 0x4B k)))

-- id and data of a body that has them
body_is : (body : List ℕ) → 1 ≤ length body → body ≡ get_or body 0 0 ∷ take (length body - 1) (drop 1 body)
body_is [] l = absurd (omega arith)
body_is (id ∷ ds) l = ap (λ (k : List ℕ). id ∷ k) (sym (take_all (length (id ∷ ds) - 1) ds (omega arith)))

pub body_cut : (body : List ℕ) (id : ℕ) → 1 ≤ length body → get_or body 0 0 ≡ id → (r : Result Packet Refusal) → r ≡ read_body (id ∷ take (length body - 1) (drop 1 body)) → r ≡ read_body body
body_cut body id l f r e = e ∙ ap read_body (ap (λ (i : ℕ). i ∷ take (length body - 1) (drop 1 body)) (sym f) ∙ sym (body_is body l))

pub body_empty : (body : List ℕ) → length body < 1 → Err Refusal.UnknownId ≡ read_body body
body_empty [] l = sym body_none
body_empty (b ∷ body) l = absurd (omega arith)

-- WRITING

framed_length : (id : ℕ) (ds : List ℕ) → length (framed id ds) ≡ length ds + 3
unfolding framed
framed_length id ds = ap (λ (k : ℕ). suc (suc k)) (length-append ds (0x17 ∷ [])) ∙ omega arith

-- n data bytes
module _ (id n : ℕ) (ds row : List ℕ) (e : length ds ≡ n) where
  pub put_short : length row < n + 3 → (Err Refusal.ShortRow ≡ put (framed id ds) (length row)) × (row ≡ put_into (framed id ds) row)
  unfolding put put_into
  put_short h =
      let t : ltb (length row) (length (framed id ds)) ≡ true = lt-ltb _ _ (omega (arith, framed_length id ds)) in
      (simp t, simp t)

  -- the bytes behind the first two, in a row that has room
  put_behind : (rest : List ℕ) → n < length rest → set (ds ++ drop n rest) n 0x17 ≡ (ds ++ (0x17 ∷ [])) ++ drop (suc n) rest
  put_behind rest h =
      rw (drop-cons rest n 0 h)
      (ap (λ (k : ℕ). set (ds ++ get_or rest n 0 ∷ drop (suc n) rest) k 0x17) (sym e)
      ∙ set-append_seam ds (get_or rest n 0) (drop (suc n) rest) 0x17
      ∙ sym (append_assoc ds (0x17 ∷ []) (drop (suc n) rest)))

  put_bytes : (k j : ℕ) → k ≡ n → j ≡ suc (suc n) → n + 3 ≤ length row → set (take 2 (set (set row 0 1) 1 id) ++ (ds ++ drop k (drop 2 (set (set row 0 1) 1 id)))) j 0x17 ≡ framed id ds ++ drop (length (framed id ds)) row
  unfolding framed
  put_bytes k j f g h = rw (f, g) (go row h)
    where
      go : (r : List ℕ) → n + 3 ≤ length r → set (take 2 (set (set r 0 1) 1 id) ++ (ds ++ drop n (drop 2 (set (set r 0 1) 1 id)))) (suc (suc n)) 0x17 ≡ 1 ∷ id ∷ ((ds ++ (0x17 ∷ [])) ++ drop (suc (suc (length (ds ++ (0x17 ∷ []))))) r)
      go [] h = absurd (omega arith)
      go (x ∷ []) h = absurd (omega arith)
      go (x ∷ y ∷ rest) h =
          ap (λ (l : List ℕ). 1 ∷ id ∷ l)
          (put_behind rest (omega arith)
          ∙ ap (λ (m : ℕ). (ds ++ (0x17 ∷ [])) ++ drop m rest) (let q : suc n ≡ length (ds ++ (0x17 ∷ [])) = omega (arith, length-append ds (0x17 ∷ [])) in q))

  pub put_done : (now : List ℕ) (k : ℕ) → now ≡ ds → k ≡ n → n + 3 ≤ length row
      → (Ok (n + 3) ≡ put (framed id ds) (length row)) × (set (take 2 (set (set row 0 1) 1 id) ++ (now ++ drop k (drop 2 (set (set row 0 1) 1 id)))) (n + 2) 0x17 ≡ put_into (framed id ds) row)
  unfolding put put_into
  put_done now k i f h =
      let t : ltb (length row) (length (framed id ds)) ≡ false = le-ltb _ _ (omega (arith, framed_length id ds)) in (
        simp t (ap Ok (let q : n + 3 ≡ length (framed id ds) = omega (arith, framed_length id ds) in q)),
        simp t
            (ap (λ (l : List ℕ). set (take 2 (set (set row 0 1) 1 id) ++ (l ++ drop k (drop 2 (set (set row 0 1) 1 id)))) (n + 2) 0x17) i
            ∙ put_bytes k (n + 2) f (omega arith) h),
      )

-- an offset's seven digits, one by one
pub seven_digits : (n a b c d e f g : ℕ) → a ≡ 48 + n / 1000000 % 10 → b ≡ 48 + n / 100000 % 10 → c ≡ 48 + n / 10000 % 10 → d ≡ 48 + n / 1000 % 10 → e ≡ 48 + n / 100 % 10
    → f ≡ 48 + n / 10 % 10 → g ≡ 48 + n / 1 % 10 → a ∷ b ∷ c ∷ d ∷ e ∷ f ∷ g ∷ [] ≡ ascii (digits 10 7 n)
unfolding ascii digits
seven_digits n a b c d e f g p q r s t u v = rw (p, q, r, s, t, u, v, div-one n) refl

fourteen : (t : Bool) (k : ℕ) → pick t (Err Refusal.ShortRow) (Ok k) ≡ answered (pick t 14 0) k
fourteen true k = simp names
fourteen false k = refl

fourteen_row : (t : Bool) (a b : List ℕ) → pick t a b ≡ pick (eqb (pick t 14 0) 0) b a
fourteen_row true a b = refl
fourteen_row false a b = refl

module _ (p : Packet) (row : List ℕ) where
  pub write_9 : fits p ≡ false → (Err Refusal.WrongByte ≡ write_packet p (length row)) × (row ≡ row_written p row)
  unfolding write_packet row_written writing_refusal
  write_9 f = (simp (f, names), simp f)

  pub write_10 : fits p ≡ true → means p ≡ false → (Err Refusal.NoMeaning ≡ write_packet p (length row)) × (row ≡ row_written p row)
  unfolding write_packet row_written writing_refusal
  write_10 f m = (simp (f, m, names), simp (f, m))

  pub write_put : (bs : List ℕ) → bs ≡ bytes_of p → fits p ≡ true → means p ≡ true → (r : Result ℕ Refusal) (after : List ℕ) → (r ≡ put bs (length row)) × (after ≡ put_into bs row) → (r ≡ write_packet p (length row)) × (after ≡ row_written p row)
  unfolding write_packet row_written writing_refusal put put_into
  write_put bs e f m r after w = (
    w.0 ∙ ap (λ (l : List ℕ). put l (length row)) e ∙ simp (f, m) (fourteen (ltb (length row) (length (bytes_of p))) (length (bytes_of p))),
    w.1 ∙ ap (λ (l : List ℕ). put_into l row) e ∙ simp (f, m) (fourteen_row (ltb (length row) (length (bytes_of p))) row (bytes_of p ++ drop (length (bytes_of p)) row)),
  )

  -- a packet known by its case
  pub write_case : (q : Packet) → p ≡ q → (r : Result ℕ Refusal) (after : List ℕ) → (r ≡ write_packet q (length row)) × (after ≡ row_written q row) → (r ≡ write_packet p (length row)) × (after ≡ row_written p row)
  write_case q e r after w = rw e w
