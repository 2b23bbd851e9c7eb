-- Where a piece ends: the bytes before that are held, and up to there they are one piece. By induction on the input. Assumes nothing.
use Prim.Native.Nat.{ℕ, zero, suc, ◌+◌, ◌-◌, ◌≤◌, ◌<◌, min}
use mathlib.Core.Path.{◌≡◌, refl, sym, ap, subst, ◌∙◌}
use mathlib.Core.Bool.{Bool, true, false}
use mathlib.Core.List.{List, [], ◌∷◌, ◌++◌, append_assoc, append-nil}
use native.Mathlib.Numerals.{add-one}
use native.Mathlib.Omega.{arith}
use Rattle.std.proofs.lemmas.List.{get_or-take}
use Rattle.std.specs.Prelude.{Option, None, Some}
use lib.ListN.{length, take, drop, get_or, length-append}
use lib.Seq.{length-take-le}
use borrow.Author.Tests.{eq-eqb, ne_eqb}
use Rattle.listing.specs.Listing.{ends, pieces, rest, answer_of, line, goes_on, takes, onward, end_of}
use Rattle.listing.proofs.feeding.Laws.{not_full}

-- by the first byte
module _ (held : List ℕ) (b : ℕ) (bs : List ℕ) where
  at_once : ends held b ≡ true → end_of (length held) (b ∷ bs) ≡ Some 1
  unfolding end_of ends
  at_once e = simp e

  longer : length (held ++ (b ∷ [])) ≡ suc (length held)
  longer = length-append held (b ∷ []) ∙ (let e : length held + 1 ≡ suc (length held) = omega arith in e)

  later : ends held b ≡ false → end_of (length held) (b ∷ bs) ≡ onward (end_of (length (held ++ (b ∷ []))) bs)
  unfolding end_of ends
  later e = simp e (ap (λ (k : ℕ). onward (end_of k bs)) (sym longer))

-- no end
pub record Unended (held xs : List ℕ) : Type 0 where
  pub pieces : pieces held xs ≡ []
  pub rest : rest held xs ≡ held ++ xs
  pub short : length held ≤ 40 → length held + length xs ≤ 40
  pub takes : (n room : ℕ) → goes_on n room ≡ true → takes held n room xs ≡ length xs

pub some_none : {A : Type 0} (k : ℕ) → Some k ≡ None → A
some_none k e = absurd (cc)

pub some_same : (j k : ℕ) → Some j ≡ Some k → j ≡ k
some_same j k e = cc

onward_none : (o : Option ℕ) → onward o ≡ None → o ≡ None
onward_none None e = refl
onward_none (Some n) e = some_none (suc n) e

module _ (held : List ℕ) (b : ℕ) (bs : List ℕ) where
  unended_by : (t : Bool) → ends held b ≡ t → end_of (length held) (b ∷ bs) ≡ None → (end_of (length (held ++ (b ∷ []))) bs ≡ None → Unended (held ++ (b ∷ [])) bs) → Unended held (b ∷ bs)
  unfolding pieces rest takes
  unended_by true f e more = some_none 1 (sym (at_once held b bs f) ∙ e)
  unended_by false f e more =
      let u : Unended (held ++ (b ∷ [])) bs = more (onward_none _ (sym (later held b bs f) ∙ e)) in
      record {
        pieces = simp f u.pieces;
        rest = simp f (u.rest ∙ append_assoc held (b ∷ []) bs);
        short = λ h. omega (arith, u.short (omega (arith, longer held b bs, not_full held b f h)), longer held b bs);
        takes = λ n room g. simp (g, f) (ap suc (u.takes n room g));
      }

pub unended : (held xs : List ℕ) → end_of (length held) xs ≡ None → Unended held xs
unfolding pieces rest takes
unended held [] e = record { pieces = refl; rest = sym (append-nil held); short = λ h. omega arith; takes = λ n room g. refl }
unended held (b ∷ bs) e = unended_by held b bs (ends held b) refl e (unended (held ++ (b ∷ [])) bs)

-- an end behind k bytes
pub record Ended (held xs : List ℕ) (k : ℕ) : Type 0 where
  pub some : 0 < k
  pub within : k ≤ length xs
  pub pieces : pieces held (take k xs) ≡ (held ++ take k xs) ∷ []
  pub rest : rest held (take k xs) ≡ []
  pub short : length held ≤ 40 → length held + k ≤ 41
  pub takes : (n room : ℕ) → goes_on n room ≡ true
      → takes held n room xs ≡ k + takes [] (suc n) (room - length (line n (answer_of (held ++ take k xs)))) (drop k xs)

module _ (held : List ℕ) (b : ℕ) (bs : List ℕ) where
  -- this byte ends it
  once : ends held b ≡ true → Ended held (b ∷ bs) 1
  unfolding pieces rest takes
  once f =
      record {
        some = omega arith;
        within = omega arith;
        pieces = simp f;
        rest = simp f;
        short = λ h. omega arith;
        takes = λ n room g. simp (g, f) (let q : suc (takes [] (suc n) (room - length (line n (answer_of (held ++ (b ∷ []))))) bs) ≡ 1 + takes [] (suc n) (room - length (line n (answer_of (held ++ (b ∷ []))))) bs = omega arith in q);
      }

  whole : (j : ℕ) → (held ++ (b ∷ [])) ++ take j bs ≡ held ++ (b ∷ take j bs)
  whole j = append_assoc held (b ∷ []) (take j bs)

  -- one behind it
  behind : ends held b ≡ false → (j : ℕ) → Ended (held ++ (b ∷ [])) bs j → Ended held (b ∷ bs) (suc j)
  unfolding pieces rest takes
  behind f j u =
      record {
        some = omega arith;
        within = omega (arith, u.within);
        pieces = simp f (u.pieces ∙ ap (λ (p : List ℕ). p ∷ []) (whole j));
        rest = simp f u.rest;
        short = λ h. omega (arith, u.short (omega (arith, longer held b bs, not_full held b f h)), longer held b bs);
        takes = λ n room g. simp (g, f)
            (ap suc (u.takes n room g)
            ∙ ap (λ (p : List ℕ). suc (j + takes [] (suc n) (room - length (line n (answer_of p))) (drop j bs))) (whole j)
            ∙ (let t = takes [] (suc n) (room - length (line n (answer_of (held ++ (b ∷ take j bs))))) (drop j bs) in let q : suc (j + t) ≡ suc j + t = omega arith in q));
      }

  ended_by : (t : Bool) → ends held b ≡ t → (o : Option ℕ) → end_of (length (held ++ (b ∷ []))) bs ≡ o
      → ((j : ℕ) → o ≡ Some j → Ended (held ++ (b ∷ [])) bs j) → (k : ℕ) → end_of (length held) (b ∷ bs) ≡ Some k → Ended held (b ∷ bs) k
  ended_by true f o g more k e = subst (λ (n : ℕ). Ended held (b ∷ bs) n) (some_same 1 k (sym (at_once held b bs f) ∙ e)) (once f)
  ended_by false f None g more k e = some_none k (sym e ∙ later held b bs f ∙ ap onward g)
  ended_by false f (Some j) g more k e =
      subst (λ (n : ℕ). Ended held (b ∷ bs) n) (some_same (suc j) k (sym (ap onward g) ∙ sym (later held b bs f) ∙ e)) (behind f j (more j refl))

pub ended : (held xs : List ℕ) (k : ℕ) → end_of (length held) xs ≡ Some k → Ended held xs k
unfolding end_of
ended held [] k e = some_none k (sym e)
ended held (b ∷ bs) k e = ended_by held b bs (ends held b) refl (end_of (length (held ++ (b ∷ []))) bs) refl (ended (held ++ (b ∷ [])) bs) k e

-- LOOKING FOR THE END

onward_some : (n : ℕ) (o : Option ℕ) → o ≡ Some n → onward o ≡ Some (suc n)
onward_some n o e = ap onward e

-- the first 0x17 of a list is its last byte
first_end : (k : ℕ) (xs : List ℕ) (i : ℕ) → i < length xs → k + i ≤ 40 → get_or xs i 0 ≡ 0x17 → ((j : ℕ) → j < i → get_or xs j 0 ≡ 0x17 → ⊥) → end_of k xs ≡ Some (suc i)
unfolding end_of
first_end k [] i l s e n = absurd (omega arith)
first_end k (x ∷ xs) zero l s e n = simp (eq-eqb x 0x17 e)
first_end k (x ∷ xs) (suc i) l s e n =
    simp (ne_eqb x 0x17 (n 0 (omega arith)), ne_eqb k 40 (λ q. omega arith))
    (onward_some (suc i) _ (first_end (suc k) xs i (omega arith) (omega arith) e (λ j h. n (suc j) (omega arith))))

-- a list without 0x17 up to the 41st byte ends there
full_end : (k m : ℕ) (xs : List ℕ) → k + m ≡ 40 → m < length xs → ((j : ℕ) → j ≤ m → get_or xs j 0 ≡ 0x17 → ⊥) → end_of k xs ≡ Some (suc m)
unfolding end_of
full_end k m [] e l n = absurd (omega arith)
full_end k zero (x ∷ xs) e l n = simp (ne_eqb x 0x17 (n 0 (omega arith)), eq-eqb k 40 (omega arith))
full_end k (suc m) (x ∷ xs) e l n =
    simp (ne_eqb x 0x17 (n 0 (omega arith)), ne_eqb k 40 (λ q. omega arith))
    (onward_some (suc m) _ (full_end (suc k) m xs (omega arith) (omega arith) (λ j h. n (suc j) (omega arith))))

-- and a shorter one does not end
no_end : (k : ℕ) (xs : List ℕ) → k + length xs ≤ 40 → ((j : ℕ) → j < length xs → get_or xs j 0 ≡ 0x17 → ⊥) → end_of k xs ≡ None
unfolding end_of
no_end k [] l n = refl
no_end k (x ∷ xs) l n =
    simp (ne_eqb x 0x17 (n 0 (omega arith)), ne_eqb k 40 (λ q. omega arith))
    (ap onward (no_end (suc k) xs (omega arith) (λ j h. n (suc j) (omega arith))))

-- the first m bytes, as far as the piece can go
module _ (held : ℕ) (xs : List ℕ) (m : ℕ) (l : held ≤ 40) (few : m ≡ min (length xs) (41 - held)) where
  count : length (take m xs) ≡ m
  count = length-take-le m xs (omega arith)

  pub found_end : (i : ℕ) → i < length (take m xs) → get_or (take m xs) i 0 ≡ 0x17 → ((j : ℕ) → j < i → get_or (take m xs) j 0 ≡ 0x17 → ⊥) → Some (i + 1) ≡ end_of held xs
  found_end i h e n =
      ap Some (add-one i)
      ∙ sym (first_end held xs i (omega (arith, count)) (omega (arith, count)) (sym (get_or-take m xs i 0 (omega (arith, count))) ∙ e)
      (λ j b q. n j b (get_or-take m xs j 0 (omega (arith, count)) ∙ q)))

  pub found_full : held + length (take m xs) ≡ 41 → ((j : ℕ) → j < length (take m xs) → get_or (take m xs) j 0 ≡ 0x17 → ⊥) → Some (length (take m xs)) ≡ end_of held xs
  found_full h n =
      ap Some (let q : length (take m xs) ≡ suc (40 - held) = omega arith in q)
      ∙ sym (full_end held (40 - held) xs (omega arith) (omega (arith, count)) (λ j b q. n j (omega arith) (get_or-take m xs j 0 (omega (arith, count)) ∙ q)))

  pub found_none : (held + length (take m xs) ≡ 41 → ⊥) → ((j : ℕ) → j < length (take m xs) → get_or (take m xs) j 0 ≡ 0x17 → ⊥) → None ≡ end_of held xs
  found_none h n =
      let short : held + length xs ≤ 40 = omega (arith, count) in
      sym (no_end held xs short (λ j b q. n j (omega (arith, count)) (get_or-take m xs j 0 (omega (arith, count)) ∙ q)))
