-- Cutting: a cut goes on where it stopped, and lines go on with the next number.
-- By induction on the input. Assumes nothing.
use Prim.Native.Nat.{ℕ, suc, ◌+◌, ◌≤◌, ◌<◌}
use mathlib.Core.Path.{◌≡◌, refl, sym, ap, ap₂, ◌∙◌}
use mathlib.Core.Bool.{Bool, true, false}
use mathlib.Core.List.{List, [], ◌∷◌, ◌++◌, append_assoc}
use native.Mathlib.Omega.{arith}
use lib.Dec.{eqb}
use lib.Arith.{lt_of_le-ne}
use lib.ListN.{length, length-append}
use borrow.Author.Tests.{eqb-false}
use Rattle.wire.specs.Digits.{pick}
use Rattle.wire.proofs.digits.Laws.{or_right}
use Rattle.listing.specs.Listing.{ends, pieces, rest, answer_of, line, lines}

pick_rest : (t : Bool) (r s ys : List ℕ) → pick t (rest r ys) (rest s ys) ≡ rest (pick t r s) ys
pick_rest true r s ys = refl
pick_rest false r s ys = refl

-- what is held does not depend on where an input is parted
pub rest_append : (held xs ys : List ℕ) → rest held (xs ++ ys) ≡ rest (rest held xs) ys
unfolding rest
rest_append held [] ys = refl
rest_append held (x ∷ xs) ys =
    ap₂ (pick (ends held x)) (rest_append [] xs ys) (rest_append (held ++ (x ∷ [])) xs ys) ∙ pick_rest (ends held x) (rest [] xs) (rest (held ++ (x ∷ [])) xs) ys

pick_pieces : (t : Bool) (p : List ℕ) (a b c d : List (List ℕ)) (r s ys : List ℕ) → c ≡ a ++ pieces r ys → d ≡ b ++ pieces s ys → pick t (p ∷ c) d ≡ pick t (p ∷ a) b ++ pieces (pick t r s) ys
pick_pieces true p a b c d r s ys e f = ap (λ (l : List (List ℕ)). p ∷ l) e
pick_pieces false p a b c d r s ys e f = f

-- and neither do the pieces
pub pieces_append : (held xs ys : List ℕ) → pieces held (xs ++ ys) ≡ pieces held xs ++ pieces (rest held xs) ys
unfolding pieces rest
pieces_append held [] ys = refl
pieces_append held (x ∷ xs) ys =
    pick_pieces (ends held x) (held ++ (x ∷ [])) (pieces [] xs) (pieces (held ++ (x ∷ [])) xs) (pieces [] (xs ++ ys)) (pieces (held ++ (x ∷ [])) (xs ++ ys)) (rest [] xs) (rest (held ++ (x ∷ [])) xs) ys
    (pieces_append [] xs ys) (pieces_append (held ++ (x ∷ [])) xs ys)

pub lines_append : (n : ℕ) (ps qs : List (List ℕ)) → lines n (ps ++ qs) ≡ lines n ps ++ lines (n + length ps) qs
unfolding lines
lines_append n [] qs = ap (λ (x : ℕ). lines x qs) (let e : n ≡ n + 0 = omega arith in e)
lines_append n (p ∷ ps) qs =
    ap (λ (l : List ℕ). line n (answer_of p) ++ l) (lines_append (suc n) ps qs ∙ ap (λ (x : ℕ). lines (suc n) ps ++ lines x qs) (let e : suc n + length ps ≡ n + suc (length ps) = omega arith in e))
    ∙ sym (append_assoc (line n (answer_of p)) (lines (suc n) ps) (lines (n + suc (length ps)) qs))

-- ONE BYTE MORE

pub not_full : (held : List ℕ) (b : ℕ) → ends held b ≡ false → length held ≤ 40 → length held < 40
unfolding ends
not_full held b e l = lt_of_le-ne l (eqb-false (length held) 40 (or_right (eqb b 0x17) (eqb (length held) 40) e))

module _ (held xs : List ℕ) (b : ℕ) where
  pub rest_ended : ends (rest held xs) b ≡ true → rest held (xs ++ (b ∷ [])) ≡ []
  unfolding rest
  rest_ended e = rest_append held xs (b ∷ []) ∙ simp e

  pub pieces_ended : ends (rest held xs) b ≡ true → pieces held (xs ++ (b ∷ [])) ≡ pieces held xs ++ ((rest held xs ++ (b ∷ [])) ∷ [])
  unfolding pieces
  pieces_ended e = pieces_append held xs (b ∷ []) ∙ simp e

-- what is held is shorter than a piece
pick_short : (t : Bool) (r s : List ℕ) → length r ≤ 40 → (t ≡ false → length s ≤ 40) → length (pick t r s) ≤ 40
pick_short true r s h k = h
pick_short false r s h k = k refl

pub rest_short : (held xs : List ℕ) → length held ≤ 40 → length (rest held xs) ≤ 40
unfolding rest
rest_short held [] h = h
rest_short held (x ∷ xs) h =
    pick_short (ends held x) (rest [] xs) (rest (held ++ (x ∷ [])) xs) (rest_short [] xs (omega arith))
    (λ e. rest_short (held ++ (x ∷ [])) xs (omega (arith, length-append held (x ∷ []), not_full held x e h)))
