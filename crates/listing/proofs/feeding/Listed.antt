-- The listing of any input of bytes: the header, and for each piece its number and the number that the table of ACK gives with the jam on.
-- By induction on the pieces, from the laws of the cut and of the answers. Assumes nothing.
use Prim.Native.Nat.{ℕ, suc, ◌≤◌}
use mathlib.Core.Path.{◌≡◌, refl, ap, ap₂, ◌∙◌}
use mathlib.Core.Bool.{true}
use mathlib.Core.List.{List, [], ◌∷◌, ◌++◌, append_assoc}
use native.Mathlib.Omega.{arith}
use lib.ListN.{length}
use Rattle.wire.specs.Digits.{below}
use Rattle.wire.proofs.digits.Laws.{and_left, and_right, below_both}
use Rattle.laws.specs.Each.{Each}
use Rattle.listing.specs.Listing.{last_piece, line, lines, header, listing, joined_parts, Piece, Uncut, Cut, table_lines}
use Rattle.listing.proofs.feeding.Answers.{answer_table}
use Rattle.listing.proofs.feeding.Cuts.{cut_only}

below_left : (xs ys : List ℕ) → below 256 (xs ++ ys) ≡ true → below 256 xs ≡ true
below_left xs ys h = and_left (below 256 xs) (below 256 ys) (rw below_both at h)

below_right : (xs ys : List ℕ) → below 256 (xs ++ ys) ≡ true → below 256 ys ≡ true
below_right xs ys h = and_right (below 256 xs) (below 256 ys) (rw below_both at h)

last_table : (n : ℕ) (left : List ℕ) → length left ≤ 64 → below 256 left ≡ true → lines n (last_piece left) ≡ table_lines n (last_piece left)
unfolding lines table_lines last_piece
last_table n [] l h = refl
last_table n (b ∷ bs) l h = ap (λ (a : ℕ). line n a ++ []) (answer_table (b ∷ bs) l h)

each_table : (n : ℕ) (ps : List (List ℕ)) (left : List ℕ) → Each Piece ps → Uncut left → below 256 (joined_parts ps ++ left) ≡ true
    → lines n (ps ++ last_piece left) ≡ table_lines n (ps ++ last_piece left)
unfolding lines table_lines joined_parts
each_table n [] left e u h = last_table n left (omega (arith, u.short)) h
each_table n (p ∷ ps) left e u h =
    let s : below 256 (p ++ (joined_parts ps ++ left)) ≡ true = rw (append_assoc p (joined_parts ps) left) at h in
    ap₂ (λ (a : ℕ) (l : List ℕ). line n a ++ l) (answer_table p (omega (arith, e.0.short)) (below_left p (joined_parts ps ++ left) s))
    (each_table (suc n) ps left e.1 u (below_right p (joined_parts ps ++ left) s))

-- the listing of an input of bytes, by its cut: the pieces, and the rest if not empty
pub listing_is : (input : List ℕ) (ps : List (List ℕ)) (left : List ℕ) → Cut input ps left → below 256 input ≡ true → listing input ≡ header ++ table_lines 1 (ps ++ last_piece left)
unfolding listing
listing_is input ps left c h =
    ap (λ (l : List ℕ). header ++ l)
    (ap₂ (λ (qs : List (List ℕ)) (r : List ℕ). lines 1 (qs ++ last_piece r)) (cut_only input ps left c).0 (cut_only input ps left c).1
    ∙ each_table 1 ps left c.each c.uncut (rw c.joined h))
