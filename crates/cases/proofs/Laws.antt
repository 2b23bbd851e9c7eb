-- The parts of a text between its spaces, and the number that a part is. Assumes nothing.
use Prim.Native.Nat.{ℕ, zero, suc, ◌≤◌}
use mathlib.Core.Path.{◌≡◌, refl, sym, ap, ◌∙◌}
use mathlib.Core.Bool.{Bool, true, false, cond}
use mathlib.Core.List.{List, [], ◌∷◌}
use lib.Dec.{eqb}
use lib.ListN.{length, drop, drop_of_length-le}
use Rattle.std.proofs.Common.{Option, None, Some}
use Rattle.std.specs.Option.{unwrap_or, option_map}
use Rattle.std.specs.List.{fold, slice_get, slice_split, onto_first}
use Rattle.wire.specs.Digits.{pick}
use Rattle.cases.specs.Numbers.{piece_at, with_digit, with_digits, number_at}

-- the part at a place; empty where there is none
abbrev part : ℕ → List (List ℕ) → List ℕ
part place parts = unwrap_or (slice_get parts place) []

-- a byte in front ends the first part if it is a space, and else joins it
first : (space : Bool) (b : ℕ) (parts : List (List ℕ)) (xs : List ℕ) → part 0 parts ≡ xs → part 0 (cond space ([] ∷ parts) (onto_first b parts)) ≡ pick space [] (b ∷ xs)
first true b parts xs e = refl
first false b [] xs e = ap (λ (ys : List ℕ). b ∷ ys) e
first false b (p ∷ parts) xs e = ap (λ (ys : List ℕ). b ∷ ys) e

-- a space in front puts each later part one place on, and another byte changes none
later : (space : Bool) (b place : ℕ) (parts : List (List ℕ)) (xs ys : List ℕ) → part place parts ≡ xs → part (suc place) parts ≡ ys → part (suc place) (cond space ([] ∷ parts) (onto_first b parts)) ≡ pick space xs ys
later true b place parts xs ys e f = e
later false b place [] xs ys e f = f
later false b place (p ∷ parts) xs ys e f = f

piece_part : (place : ℕ) (text : List ℕ) → part place (slice_split (λ b. eqb b 32) text) ≡ piece_at place text
unfolding piece_at
piece_part zero [] = refl
piece_part (suc place) [] = refl
piece_part zero (b ∷ bs) = first (eqb b 32) b _ _ (piece_part 0 bs)
piece_part (suc place) (b ∷ bs) = later (eqb b 32) b place (slice_split (λ x. eqb x 32) bs) _ _ (piece_part place bs) (piece_part (suc place) bs)

digits_fold : (n : ℕ) (bs : List ℕ) → fold with_digit n bs ≡ with_digits n bs
unfolding with_digits
digits_fold n [] = refl
digits_fold n (b ∷ bs) = digits_fold (with_digit n b) bs

-- what stands in for a part that is not there is empty
part_or : {A : Type 0} (r : Option A) (d : A) (v : A → List ℕ) (parts : List (List ℕ)) (place : ℕ) → option_map v r ≡ slice_get parts place → v d ≡ [] → v (unwrap_or r d) ≡ part place parts
part_or None d v parts place e z = z ∙ ap (λ (o : Option (List ℕ)). unwrap_or o []) e
part_or (Some x) d v parts place e z = ap (λ (o : Option (List ℕ)). unwrap_or o []) e

-- what is read of a part, or of nothing where there is none
pub number_of_part : {A : Type 0} (r : Option A) (d : A) (v : A → List ℕ) (place : ℕ) (text : List ℕ) → option_map v r ≡ slice_get (slice_split (λ b. eqb b 32) text) place → v d ≡ [] → fold with_digit 0 (v (unwrap_or r d)) ≡ number_at place text
number_of_part r d v place text e z = ap (fold with_digit 0) (part_or r d v (slice_split (λ b. eqb b 32) text) place e z ∙ piece_part place text) ∙ digits_fold 0 (piece_at place text)

-- what is looked for in the rest of a text is the number, with so many spaces to come and so much of it read
abbrev pub Found : List ℕ → ℕ → ℕ → ℕ → ℕ → Type 0
Found text place left n i = with_digits n (piece_at left (drop i text)) ≡ number_at place text

-- behind the last byte it is found
pub found_all_lem : (text : List ℕ) (place left n i : ℕ) → length text ≤ i → Found text place left n i → n ≡ number_at place text
unfolding piece_at with_digits
found_all_lem text place left n i l f = sym (ap (λ (bs : List ℕ). with_digits n (piece_at left bs)) (drop_of_length-le text l)) ∙ f
