-- The table of ACK: that of packets, and 25 behind it. By the laws of tables. Assumes nothing.
use Prim.Native.Nat.{ℕ, ◌≤◌}
use mathlib.Core.Path.{◌≡◌, refl, sym, ap, ◌∙◌}
use mathlib.Core.Bool.{Bool, true, false, ◌&&◌}
use mathlib.Core.List.{List, [], ◌∷◌}
use mathlib.Core.Logic.{◌⊎◌, inl, inr, ⊎_elim}
use native.Mathlib.Omega.{arith}
use lib.Dec.{eqb}
use borrow.Author.Tests.{eq-eqb, ne_eqb, eqb-true, eqb-false}
use Rattle.wire.specs.Digits.{pick}
use Rattle.wire.specs.Numbers.{◌if◌, absent, answered, number_of}
use Rattle.wire.specs.Packets.{packet_lines, packet_refusal, packet_in, needs_jam_off, read_packet, number_read, jam_off_read}
use Rattle.wire.proofs.numbers.Names.{answered_number}
use Rattle.wire.proofs.numbers.Laws.{given_append, absent_append}
use Rattle.wire.proofs.packets.Read.{refusal_given, number_read_lem, jam_off_read_lem, packet_numbered, packet_number}
use Rattle.card.specs.Packets.{ack_lines, ack_refusal}

module _ (jam : Bool) (row : List ℕ) where
  -- that of packets, and 25 behind it
  pub ack_given : ack_refusal jam row ≡ pick (eqb (packet_refusal row) 0) (pick (jam && needs_jam_off (packet_in row)) 25 0) (packet_refusal row)
  unfolding ack_refusal
  ack_given =
      given_append (packet_lines row) (25 if (jam && needs_jam_off (packet_in row)) ∷ []) (packet_numbered row)
      ∙ ap (λ (n : ℕ). pick (eqb n 0) (pick (jam && needs_jam_off (packet_in row)) 25 0) n) (sym (refusal_given row))

  -- no line has the number 0
  pub ack_numbered : absent 0 (ack_lines jam row) ≡ true
  ack_numbered = absent_append 0 (packet_lines row) (25 if (jam && needs_jam_off (packet_in row)) ∷ []) (packet_numbered row) refl

  -- refused as a packet, or by 25, or not at all
  pub ack_refused : (packet_refusal row ≡ 0 → ⊥) → ack_refusal jam row ≡ packet_refusal row
  ack_refused z = ack_given ∙ simp (ne_eqb (packet_refusal row) 0 z)

  pub ack_decided : packet_refusal row ≡ 0 → (t : Bool) → (jam && needs_jam_off (packet_in row)) ≡ t → ack_refusal jam row ≡ pick t 25 0
  ack_decided z t e = ack_given ∙ simp (eq-eqb (packet_refusal row) 0 z, e)

  by_read : (n : ℕ) (t z : Bool) → pick z (pick (jam && t) 25 0) n ≡ pick z (pick (jam && (z && t)) 25 0) n
  by_read n t true = refl
  by_read n t false = refl

  -- so what the row reads as on its own decides, beside the jam
  pub ack_reads : ack_refusal jam row ≡ pick (eqb (number_read (read_packet row)) 0) (pick (jam && jam_off_read (read_packet row)) 25 0) (number_read (read_packet row))
  ack_reads =
      ack_given ∙ by_read (packet_refusal row) (needs_jam_off (packet_in row)) (eqb (packet_refusal row) 0)
      ∙ rw (number_read_lem row, jam_off_read_lem row) refl

  -- so there are three ways
  data Way : ℕ → Type 0 where
    refused : (packet_refusal row ≡ 0 → ⊥) → Way (packet_refusal row)
    jammed : Way 25
    taken : packet_refusal row ≡ 0 → (jam && needs_jam_off (packet_in row)) ≡ false → Way 0

  way : Way (ack_refusal jam row)
  way = go (eqb (packet_refusal row) 0) refl (jam && needs_jam_off (packet_in row)) refl
    where
      go : (z : Bool) → eqb (packet_refusal row) 0 ≡ z → (t : Bool) → (jam && needs_jam_off (packet_in row)) ≡ t → Way (ack_refusal jam row)
      go true h true u = rw (ack_decided (eqb-true (packet_refusal row) 0 h) true u) jammed
      go true h false u = let z = eqb-true (packet_refusal row) 0 h in rw (ack_decided z false u) (taken z u)
      go false h t u = let z = eqb-false (packet_refusal row) 0 h in rw (ack_refused z) (refused z)

  -- 0 is a packet that is read, and that does not need the jam off while the jam is on
  pub ack_accepts : ack_refusal jam row ≡ 0 → (packet_refusal row ≡ 0) × ((jam && needs_jam_off (packet_in row)) ≡ false)
  ack_accepts = go way
    where
      go : {n : ℕ} → Way n → n ≡ 0 → (packet_refusal row ≡ 0) × ((jam && needs_jam_off (packet_in row)) ≡ false)
      go (refused z) e = absurd (z e)
      go jammed e = absurd (eqb-false 25 0 refl e)
      go (taken z u) e = (z, u)

  -- any other number is 4 to 10, or 25
  pub ack_numbers : (ack_refusal jam row ≡ 0 → ⊥) → ((4 ≤ ack_refusal jam row) × (ack_refusal jam row ≤ 10)) ⊎ (ack_refusal jam row ≡ 25)
  ack_numbers = go way
    where
      go : {n : ℕ} → Way n → (n ≡ 0 → ⊥) → ((4 ≤ n) × (n ≤ 10)) ⊎ (n ≡ 25)
      go (refused z) h = inl (packet_number row z)
      go jammed h = inr refl
      go (taken z u) h = absurd (h refl)

  -- so each of them has a name, and the number of what ACK comes to is the number that its table gives
  ack_named : ack_refusal jam row ≤ 25
  ack_named = go (eqb (ack_refusal jam row) 0) refl
    where
      go : (t : Bool) → eqb (ack_refusal jam row) 0 ≡ t → ack_refusal jam row ≤ 25
      go true e = let z = eqb-true (ack_refusal jam row) 0 e in omega (arith, z)
      go false e = ⊎_elim (λ q. omega (arith, q)) (λ q. omega (arith, q)) (ack_numbers (eqb-false (ack_refusal jam row) 0 e))

  pub ack_told : {A : Type 0} (a : A) → number_of (answered (ack_refusal jam row) a) ≡ ack_refusal jam row
  ack_told a = answered_number (ack_refusal jam row) a ack_named
