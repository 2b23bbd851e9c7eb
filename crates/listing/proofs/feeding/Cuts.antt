-- The bench's pieces and rest are a cut of its input, joined they are that input, and an input has no other cut.
-- By induction on the input, and on the pieces. Assumes nothing.
use Prim.Native.Nat.{ℕ, ◌+◌, ◌<◌}
use mathlib.Core.Path.{◌≡◌, refl, sym, ap, ap₂, ◌∙◌}
use mathlib.Core.Bool.{Bool, true, false, ◌||◌, or-true, or_assoc}
use mathlib.Core.List.{List, [], ◌∷◌, ◌++◌, append_assoc, append-nil}
use mathlib.Core.Logic.{◌⊎◌, inl, inr, ⊎_elim}
use native.Mathlib.Omega.{arith}
use lib.Dec.{eqb}
use lib.ListN.{length, length-append}
use borrow.Author.Tests.{eqb-true, eq-eqb, ne_eqb}
use Rattle.wire.specs.Digits.{pick}
use Rattle.wire.specs.Packets.{has}
use Rattle.laws.specs.Each.{Each}
use Rattle.listing.specs.Listing.{ends, pieces, rest, joined_parts, Piece, Uncut, Cut}
use Rattle.wire.proofs.digits.Laws.{or_left, or_right}
use Rattle.listing.proofs.feeding.Laws.{rest_append, pieces_append, not_full, rest_ended, pieces_ended}

or_either : (a b : Bool) → (a || b) ≡ true → (a ≡ true) ⊎ (b ≡ true)
or_either true b e = inl refl
or_either false b e = inr e

has_append : (b : ℕ) (xs ys : List ℕ) → has b (xs ++ ys) ≡ (has b xs || has b ys)
unfolding has
has_append b [] ys = refl
has_append b (x ∷ xs) ys = ap (λ (t : Bool). eqb x b || t) (has_append b xs ys) ∙ sym (or_assoc (eqb x b) (has b xs) (has b ys))

-- A CUT OF EVERY INPUT

none_uncut : Uncut []
unfolding has
none_uncut = record { short = omega arith; none = refl }

-- one byte more, behind bytes that are not cut
module _ (held : List ℕ) (x : ℕ) (u : Uncut held) where
  piece_ends : ends held x ≡ true → Piece (held ++ (x ∷ []))
  unfolding ends
  piece_ends e =
      record {
        before = held;
        last = x;
        bytes = refl;
        short = omega (arith, length-append held (x ∷ []), u.short);
        none = u.none;
        end = ⊎_elim (λ h. inl (eqb-true x 0x17 h)) (λ h. inr (let f : length held ≡ 40 = eqb-true (length held) 40 h in omega (arith, length-append held (x ∷ [])))) (or_either (eqb x 0x17) (eqb (length held) 40) e);
      }

  uncut_more : ends held x ≡ false → Uncut (held ++ (x ∷ []))
  unfolding ends has
  uncut_more e =
      record {
        short = omega (arith, length-append held (x ∷ []), not_full held x e (omega (arith, u.short)));
        none = simp (has_append 0x17 held (x ∷ []), u.none, or_left (eqb x 0x17) (eqb (length held) 40) e);
      }

cut_more : (t : Bool) (held : List ℕ) (x : ℕ) (xs : List ℕ) (ps qs : List (List ℕ)) (r s : List ℕ) → (t ≡ true → Piece (held ++ (x ∷ []))) → Cut xs ps r
    → (t ≡ false → Cut ((held ++ (x ∷ [])) ++ xs) qs s) → Cut (held ++ (x ∷ xs)) (pick t ((held ++ (x ∷ [])) ∷ ps) qs) (pick t r s)
unfolding joined_parts
cut_more true held x xs ps qs r s p c d =
    record {
      joined = append_assoc (held ++ (x ∷ [])) (joined_parts ps) r ∙ ap (λ (l : List ℕ). (held ++ (x ∷ [])) ++ l) c.joined ∙ append_assoc held (x ∷ []) xs;
      each = (p refl, c.each);
      uncut = c.uncut;
    }
cut_more false held x xs ps qs r s p c d =
    record { joined = (d refl).joined ∙ append_assoc held (x ∷ []) xs; each = (d refl).each; uncut = (d refl).uncut }

cut_behind : (held xs : List ℕ) → Uncut held → Cut (held ++ xs) (pieces held xs) (rest held xs)
unfolding pieces rest joined_parts
cut_behind held [] u = record { joined = sym (append-nil held); each = tt; uncut = u }
cut_behind held (x ∷ xs) u =
    cut_more (ends held x) held x xs (pieces [] xs) (pieces (held ++ (x ∷ [])) xs) (rest [] xs) (rest (held ++ (x ∷ [])) xs) (piece_ends held x u) (cut_behind [] xs none_uncut)
    (λ e. cut_behind (held ++ (x ∷ [])) xs (uncut_more held x u e))

-- the bench's pieces and rest are a cut of its input
pub cut_is : (input : List ℕ) → Cut input (pieces [] input) (rest [] input)
cut_is input = cut_behind [] input none_uncut

-- AND NO OTHER

-- bytes that are not cut stay held
not_ends : (held : List ℕ) (x : ℕ) (xs : List ℕ) → length held + length (x ∷ xs) < 41 → has 0x17 (x ∷ xs) ≡ false → ends held x ≡ false
unfolding ends has
not_ends held x xs l h = simp (or_left (eqb x 0x17) (has 0x17 xs) h, ne_eqb (length held) 40 (λ e. omega arith))

stays_held : (held xs : List ℕ) → length held + length xs < 41 → has 0x17 xs ≡ false → (pieces held xs ≡ []) × (rest held xs ≡ held ++ xs)
unfolding pieces rest has
stays_held held [] l h = (refl, sym (append-nil held))
stays_held held (x ∷ xs) l h =
    let e : ends held x ≡ false = not_ends held x xs l h in
    let f = stays_held (held ++ (x ∷ [])) xs (omega (arith, length-append held (x ∷ []))) (or_right (eqb x 0x17) (has 0x17 xs) h) in
    (simp e f.0, simp e (f.1 ∙ append_assoc held (x ∷ []) xs))

-- a piece is cut as itself
module _ (p : List ℕ) (c : Piece p) where
  size : length p ≡ length c.before + 1
  size = ap length c.bytes ∙ length-append c.before (c.last ∷ [])

  front : (pieces [] c.before ≡ []) × (rest [] c.before ≡ c.before)
  front = stays_held [] c.before (omega (arith, size, c.short)) c.none

  end_true : ends c.before c.last ≡ true
  unfolding ends
  end_true =
      ⊎_elim (λ e. simp (eq-eqb c.last 0x17 e))
      (λ e. simp (eq-eqb (length c.before) 40 (omega (arith, size)), or-true)) c.end

  ended : ends (rest [] c.before) c.last ≡ true
  ended = ap (λ (l : List ℕ). ends l c.last) front.1 ∙ end_true

  piece_cut : pieces [] p ≡ p ∷ []
  piece_cut =
      ap (pieces []) c.bytes
      ∙ pieces_ended [] c.before c.last ended
      ∙ ap₂ (λ (ps : List (List ℕ)) (l : List ℕ). ps ++ ((l ++ (c.last ∷ [])) ∷ [])) front.0 front.1
      ∙ ap (λ (l : List ℕ). l ∷ []) (sym c.bytes)

  piece_rest : rest [] p ≡ []
  piece_rest = ap (rest []) c.bytes ∙ rest_ended [] c.before c.last ended

  pieces_behind : (xs : List ℕ) → pieces [] (p ++ xs) ≡ p ∷ pieces [] xs
  pieces_behind xs = pieces_append [] p xs ∙ ap₂ (λ (ps : List (List ℕ)) (l : List ℕ). ps ++ pieces l xs) piece_cut piece_rest

  rest_behind : (xs : List ℕ) → rest [] (p ++ xs) ≡ rest [] xs
  rest_behind xs = rest_append [] p xs ∙ ap (λ (l : List ℕ). rest l xs) piece_rest

cut_joined : (ps : List (List ℕ)) (left : List ℕ) → Each Piece ps → Uncut left → (pieces [] (joined_parts ps ++ left) ≡ ps) × (rest [] (joined_parts ps ++ left) ≡ left)
unfolding joined_parts
cut_joined [] left e u = stays_held [] left (omega (arith, u.short)) u.none
cut_joined (p ∷ ps) left e u =
    let f = cut_joined ps left e.1 u in
    let a = append_assoc p (joined_parts ps) left in (
      ap (pieces []) a ∙ pieces_behind p e.0 (joined_parts ps ++ left) ∙ ap (λ (l : List (List ℕ)). p ∷ l) f.0,
      ap (rest []) a ∙ rest_behind p e.0 (joined_parts ps ++ left) ∙ f.1,
    )

-- any cut of an input is the bench's
pub cut_only : (input : List ℕ) (ps : List (List ℕ)) (left : List ℕ) → Cut input ps left → (pieces [] input ≡ ps) × (rest [] input ≡ left)
cut_only input ps left c = rw c.joined at (cut_joined ps left c.each c.uncut)
