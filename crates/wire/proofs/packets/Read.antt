-- What a row reads as, by the table of its refusals: the packet that it holds if no line is given, else the refusal. Assumes nothing.
use Prim.Native.Nat.{ℕ, ◌≤◌}
use mathlib.Core.Path.{◌≡◌, refl, sym, ap, ◌∙◌}
use mathlib.Core.Bool.{Bool, true, false, ◌&&◌}
use mathlib.Core.List.{List, [], ◌∷◌}
use native.Mathlib.Omega.{arith}
use lib.Dec.{leb, eqb}
use borrow.Author.Tests.{eqb-false, eq-eqb, leb-true}
use Rattle.std.specs.Prelude.{Ok, Err}
use Rattle.wire.specs.Digits.{pick}
use Rattle.wire.specs.Numbers.{Line, given, absent, number, refusal}
use Rattle.wire.specs.Packets.{frame_lines, body_lines, packet_lines, packet_refusal, packet_in, needs_jam_off, packet_read, read_packet, number_read, values_of, no_values, values_read, jam_off_read}
use Rattle.wire.specs.declared.numbers.Refusal.{Refusal}
use Rattle.wire.specs.declared.packets.Packet.{Packet}
use Rattle.wire.specs.declared.packets.PacketRead.{PacketRead}
use Rattle.wire.proofs.digits.Laws.{and_both, picked}
use Rattle.wire.proofs.numbers.Names.{done_by, refused_by, number_refusal, given_number}

pub refusal_given : (row : List ℕ) → packet_refusal row ≡ given (packet_lines row)
unfolding packet_refusal
refusal_given row = refl

-- the number of what a row reads as is the number that its table gives
pub number_read_lem : (row : List ℕ) → number_read (read_packet row) ≡ packet_refusal row
unfolding read_packet packet_refusal frame_lines body_lines
number_read_lem row = given_number (packet_lines row) (packet_read (packet_in row)) refl

-- and its values are those of the packet that it holds, 0 beside a refusal
pub values_read_lem : (row : List ℕ) → values_read (read_packet row) ≡ pick (eqb (packet_refusal row) 0) (values_of (packet_in row)) no_values
unfolding read_packet
values_read_lem row = picked values_read (eqb (packet_refusal row) 0) (Ok (packet_read (packet_in row))) (Err (refusal (packet_refusal row)))

-- and it needs the jam off if that packet does; no refusal does
pub jam_off_read_lem : (row : List ℕ) → jam_off_read (read_packet row) ≡ (eqb (packet_refusal row) 0 && needs_jam_off (packet_in row))
unfolding read_packet
jam_off_read_lem row = picked jam_off_read (eqb (packet_refusal row) 0) (Ok (packet_read (packet_in row))) (Err (refusal (packet_refusal row))) ∙ and_picked (eqb (packet_refusal row) 0) (needs_jam_off (packet_in row))
  where
    and_picked : (s t : Bool) → pick s t false ≡ (s && t)
    and_picked true t = refl
    and_picked false t = refl

pub reads_in : (row : List ℕ) → packet_refusal row ≡ 0 → read_packet row ≡ Ok (packet_read (packet_in row))
unfolding read_packet
reads_in row e = simp (eq-eqb (packet_refusal row) 0 e)

pub read_is : (row : List ℕ) (q : Packet) (needs : Bool) → read_packet row ≡ Ok (record { packet = q; needs_jam_off = needs }) → (packet_refusal row ≡ 0) × (packet_in row ≡ q) × (needs_jam_off (packet_in row) ≡ needs)
unfolding read_packet
read_is row q needs h =
    let r = done_by (packet_refusal row) (packet_read (packet_in row)) (record { packet = q; needs_jam_off = needs }) h in
    (r.0, ap (λ (x : PacketRead). x.packet) r.1, ap (λ (x : PacketRead). x.needs_jam_off) r.1)

-- so what is said beside a packet that is read is whether it needs the jam off
pub read_as_lem : (row : List ℕ) (q : Packet) (needs : Bool) → read_packet row ≡ Ok (record { packet = q; needs_jam_off = needs }) → read_packet row ≡ Ok (packet_read q)
read_as_lem row q needs h = let r = read_is row q needs h in reads_in row r.0 ∙ ap (λ (p : Packet). Ok (packet_read p)) r.1

-- a table whose numbers are all from a to b gives none but these
unfoldable within : ℕ → ℕ → List Line → Bool
within a b [] = true
within a b (l ∷ ls) = leb a l.number && (leb l.number b && within a b ls)

step : (t : Bool) (a b m g : ℕ) → a ≤ m → m ≤ b → ((g ≡ 0 → ⊥) → (a ≤ g) × (g ≤ b)) → (pick t m g ≡ 0 → ⊥) → (a ≤ pick t m g) × (pick t m g ≤ b)
step true a b m g l h f z = (l, h)
step false a b m g l h f z = f z

given_within : (a b : ℕ) (ls : List Line) → within a b ls ≡ true → (given ls ≡ 0 → ⊥) → (a ≤ given ls) × (given ls ≤ b)
unfolding within
given_within a b [] h = λ z. absurd (z refl)
given_within a b (l ∷ ls) h =
    let f = and_both (leb a l.number) (leb l.number b && within a b ls) h in
    let g = and_both (leb l.number b) (within a b ls) f.1 in
    step l.holds a b l.number (given ls) (leb-true a l.number f.0) (leb-true l.number b g.0) (given_within a b ls g.1)

-- no line of the table has the number 0
pub packet_numbered : (row : List ℕ) → absent 0 (packet_lines row) ≡ true
unfolding frame_lines body_lines
packet_numbered row = refl

-- a packet is refused by 4 to 10
pub packet_number : (row : List ℕ) → (packet_refusal row ≡ 0 → ⊥) → (4 ≤ packet_refusal row) × (packet_refusal row ≤ 10)
unfolding packet_refusal frame_lines body_lines within
packet_number row = given_within 4 10 (packet_lines row) refl

-- and the refusal is the name of that number
pub read_refused : (row : List ℕ) (r : Refusal) → read_packet row ≡ Err r → (packet_refusal row ≡ number r) × (packet_refusal row ≡ 0 → ⊥)
unfolding read_packet
read_refused row r h =
    let a = refused_by (packet_refusal row) (packet_read (packet_in row)) r h in
    let z = eqb-false (packet_refusal row) 0 a.0 in
    let b = packet_number row z in
    (sym (number_refusal (packet_refusal row) (omega arith) (omega arith)) ∙ ap number a.1, z)
