-- The loop of listing: which lines stand in the row and how many bytes are taken, piece by piece. Assumes nothing.
use Prim.Native.Nat.{ℕ, suc, ◌+◌, ◌-◌, ◌≤◌, ◌<◌}
use mathlib.Core.Path.{◌≡◌, refl, sym, ap, ap₂, subst, ◌∙◌}
use mathlib.Core.Bool.{Bool, true, false}
use mathlib.Core.List.{List, [], ◌∷◌, ◌++◌, append_assoc, append-nil}
use mathlib.Core.Logic.{◌⊎◌, inl, inr, ⊎_elim}
use native.Mathlib.Numerals.{add-one}
use native.Mathlib.Omega.{arith}
use Rattle.std.specs.Prelude.{Option, None, Some}
use lib.Dec.{ltb, leb}
use lib.ListN.{length, take, drop, length-append, length-drop}
use lib.Seq.{take-add, drop-drop, take_all}
use borrow.Author.Tests.{ltb-true, leb-true}
use Rattle.wire.proofs.digits.Laws.{and_left, and_right}
use Rattle.listing.specs.Listing.{pieces, rest, answer_of, line, lines, goes_on, takes, placed, PutLine, end_of, next_end, Lined, Going, Begins, ListsOn, Lists}
use Rattle.listing.proofs.lines.Laws.{placed_twice, placed_length, put_none}
use Rattle.listing.proofs.feeding.Laws.{rest_append, pieces_append, lines_append}
use Rattle.listing.proofs.feeding.Ends.{some_none, some_same, Ended, ended}

-- there is a number, and room for a line
pub goes_number : (n room : ℕ) → goes_on n room ≡ true → n < 18446744073709551615
unfolding goes_on
goes_number n room e = ltb-true n 18446744073709551615 (and_left (ltb n 18446744073709551615) (leb 25 room) e)

pub goes_room : (n room : ℕ) → goes_on n room ≡ true → 25 ≤ room
unfolding goes_on
goes_room n room e = leb-true 25 room (and_right (ltb n 18446744073709551615) (leb 25 room) e)

-- a list from a place on, as it is lent
pub behind_all : (i : ℕ) (xs : List ℕ) → take (length xs - i) (drop i xs) ≡ drop i xs
behind_all i xs = take_all (length xs - i) (drop i xs) (omega (arith, length-drop i xs))

-- LINES ONE BEHIND THE OTHER

pub lined_none : (n : ℕ) (row : List ℕ) (at : ℕ) → at ≤ length row → Lined n row at row n at []
unfolding lines
lined_none n row at h = record { row = sym (put_none row at); number = omega arith; written = omega arith; fits = h }

module _ (n : ℕ) (before : List ℕ) (at : ℕ) (now : List ℕ) (m w : ℕ) (ps : List (List ℕ)) (l : Lined n before at now m w ps) where
  pub lined_length : length now ≡ length before
  lined_length = ap length l.row ∙ placed_length before at (lines n ps) (omega (arith, l.written, l.fits))

  -- one line more
  pub lined_more : (p : List ℕ) (a : ℕ) → a ≡ answer_of p → goes_on m (length before - w) ≡ true → (row : List ℕ) (v : ℕ) → PutLine now w m a row v
      → Lined n before at row (m + 1) v (ps ++ (p ∷ []))
  unfolding lines
  lined_more p a ea go row v put =
      let text = line m (answer_of p) in
      let t : lines n (ps ++ (p ∷ [])) ≡ lines n ps ++ text =
      lines_append n ps (p ∷ []) ∙ ap (λ (x : List ℕ). lines n ps ++ x) (append-nil (line (n + length ps) (answer_of p)) ∙ ap (λ (x : ℕ). line x (answer_of p)) (sym l.number)) in
      let behind : v ≡ w + length text = put.put.behind ∙ ap (λ (x : ℕ). w + length (line m x)) ea in
      let room : 25 ≤ length before - w = goes_room m (length before - w) go in
      record {
        row =
            put.put.row
            ∙ ap (λ (x : ℕ). placed now w (line m x)) ea
            ∙ ap₂ (λ (x : List ℕ) (y : ℕ). placed x y text) l.row l.written
            ∙ placed_twice before at (lines n ps) text (omega (arith, l.written, behind, put.short))
            ∙ ap (placed before at) (sym t);
        number = omega (arith, l.number, length-append ps (p ∷ []));
        written = omega (arith, behind, l.written, ap length t, length-append (lines n ps) text);
        fits = omega (arith, put.short);
      }

-- PIECE BY PIECE

-- before the first byte
pub going_none : (qs : List (List ℕ)) (n : ℕ) (input before : List ℕ) (at : ℕ) (now : List ℕ) (m w : ℕ) → Lined n before at now m w qs → Going qs n input before at now m w 0
unfolding rest pieces
going_none qs n input before at now m w l =
    record {
      within = omega arith;
      none = refl;
      lined = rw append-nil l;
      left =
          ap₂ (λ (x y : ℕ). takes [] x (length before - y) input) (sym l.number) (sym l.written)
          ∙ (let e : takes [] m (length before - w) input ≡ 0 + takes [] m (length before - w) input = omega arith in e);
    }

-- one piece more
module _ (qs : List (List ℕ)) (n : ℕ) (input before : List ℕ) (at : ℕ) (now : List ℕ) (m w i : ℕ) (g : Going qs n input before at now m w i) (k : ℕ) (u : Ended [] (drop i input) k) where
  pub going_more : (a : ℕ) → a ≡ answer_of (take k (drop i input)) → goes_on m (length before - w) ≡ true → (row : List ℕ) (v : ℕ) → PutLine now w m a row v
      → Going qs n input before at row (m + 1) v (i + k)
  unfolding pieces rest
  going_more a ea go row v put =
      let p = take k (drop i input) in
      let c : pieces [] (take (i + k) input) ≡ pieces [] (take i input) ++ (p ∷ []) =
      ap (pieces []) (take-add i k input) ∙ pieces_append [] (take i input) p ∙ ap (λ (held : List ℕ). pieces [] (take i input) ++ pieces held p) g.none ∙ ap (λ (ps : List (List ℕ)). pieces [] (take i input) ++ ps) u.pieces in
      let l : Lined n before at row (m + 1) v (qs ++ pieces [] (take (i + k) input)) =
      rw (c, ← append_assoc qs (pieces [] (take i input)) (p ∷ [])) (lined_more n before at now m w (qs ++ pieces [] (take i input)) g.lined p a ea go row v put) in
      let behind : v ≡ w + length (line m (answer_of p)) = put.put.behind ∙ ap (λ (x : ℕ). w + length (line m x)) ea in
      record {
        within = omega (arith, g.within, u.within, length-drop i input);
        none = ap (rest []) (take-add i k input) ∙ rest_append [] (take i input) p ∙ ap (λ (held : List ℕ). rest held p) g.none ∙ u.rest;
        lined = l;
        left =
            g.left
            ∙ ap (λ (x : ℕ). i + x)
            (u.takes m (length before - w) go
            ∙ ap₂ (λ (x : ℕ) (xs : List ℕ). k + takes [] (suc m) x xs) (let e : length before - w - length (line m (answer_of p)) ≡ length before - v = omega (arith, behind) in e) (drop-drop k i input)
            ∙ ap (λ (x : ℕ). k + takes [] x (length before - v) (drop (i + k) input)) (sym (add-one m)))
            ∙ (let t = takes [] (m + 1) (length before - v) (drop (i + k) input) in let e : i + (k + t) ≡ i + k + t = omega arith in e);
      }

-- THE LOOP

-- a next piece has room for its line, ends in the input, and is its front
module _ (n room : ℕ) (xs : List ℕ) where
  next_by : (t : Bool) → goes_on n room ≡ t → (k : ℕ) → next_end n room xs ≡ Some k → (goes_on n room ≡ true) × (end_of 0 xs ≡ Some k)
  unfolding next_end
  next_by true e k h = (e, (let q : next_end n room xs ≡ end_of 0 xs = simp e in sym q ∙ h))
  next_by false e k h = some_none k (let q : next_end n room xs ≡ None = simp e in sym h ∙ q)

  pub next_goes : (k : ℕ) → next_end n room xs ≡ Some k → goes_on n room ≡ true
  next_goes k h = (next_by (goes_on n room) refl k h).0

  pub next_ends : (k : ℕ) → next_end n room xs ≡ Some k → Ended [] xs k
  next_ends k h = ended [] xs k (next_by (goes_on n room) refl k h).1

pub begins_next : (xs : List ℕ) (front : Option ℕ) (n : ℕ) (row : List ℕ) (at : ℕ) → at ≤ length row → front ≡ next_end n (length row - at) xs → Begins xs front n row at
begins_next xs front n row at h e =
    record {
      place = h;
      some = λ k z. (next_ends n (length row - at) xs k (sym e ∙ z)).some;
      within = λ k z. (next_ends n (length row - at) xs k (sym e ∙ z)).within;
      goes = λ k z. next_goes n (length row - at) xs k (sym e ∙ z);
    }

-- the first piece, of `size` bytes, is listed, and others behind it
pub record On (input : List ℕ) (front : Option ℕ) (n : ℕ) (before : List ℕ) (at : ℕ) (now : List ℕ) (m w i : ℕ) (k : Option ℕ) : Type 0 where
  pub size : ℕ
  pub is : front ≡ Some size
  pub behind : ℕ
  pub taken : i ≡ size + behind
  pub going : Going (take size input ∷ []) n (drop size input) before at now m w behind
  pub next : k ≡ next_end m (length before - w) (drop i input)

-- after i bytes, with the next piece, if there is one
pub record Turn (input : List ℕ) (front : Option ℕ) (n : ℕ) (before : List ℕ) (at : ℕ) (now : List ℕ) (m w i : ℕ) (k : Option ℕ) : Type 0 where
  pub within : i ≤ length input
  pub same : length now ≡ length before
  pub begins : Begins (drop i input) k m before w
  pub far : ((i ≡ 0) × (k ≡ front) × (m ≡ n) × (w ≡ at) × (now ≡ before)) ⊎ On input front n before at now m w i k

pub turn_first : (input : List ℕ) (front : Option ℕ) (n : ℕ) (before : List ℕ) (at : ℕ) → Begins input front n before at → Turn input front n before at before n at 0 front
turn_first input front n before at b = record { within = omega arith; same = refl; begins = b; far = inl (refl, refl, refl, refl, refl) }

module _ (input : List ℕ) (front : Option ℕ) (n : ℕ) (before : List ℕ) (at : ℕ) (now : List ℕ) (m w i : ℕ) (k : Option ℕ) (t : Turn input front n before at now m w i k) where
  module _ (p : ℕ) (h : k ≡ Some p) where
    pub turn_within : i + p ≤ length input
    turn_within = omega (arith, t.begins.within p h, length-drop i input, t.within)

    pub turn_number : m < 18446744073709551615
    turn_number = goes_number m (length before - w) (t.begins.goes p h)

    pub turn_room : w + 25 ≤ length now
    turn_room = omega (arith, goes_room m (length before - w) (t.begins.goes p h), t.same, t.begins.place)

    module _ (a : ℕ) (ea : a ≡ answer_of (take p (drop i input))) (row : List ℕ) (v : ℕ) (put : PutLine now w m a row v) where
      -- the first piece
      begun : i ≡ 0 → m ≡ n → w ≡ at → now ≡ before → Going (take p input ∷ []) n (drop p input) before at row (m + 1) v 0
      begun ei em ew en =
          let l : Lined n before at before n at [] = lined_none n before at (omega (arith, t.begins.place)) in
          going_none (take p input ∷ []) n (drop p input) before at row (m + 1) v
          (rw em
          (lined_more n before at before n at [] l (take p input) a (ea ∙ ap (λ (x : ℕ). answer_of (take p (drop x input))) ei) (rw (em, ew) at (t.begins.goes p h)) row v
          (rw (em, ew, en) at put)))

      -- one behind it
      continues : (o : On input front n before at now m w i k) → Going (take o.size input ∷ []) n (drop o.size input) before at row (m + 1) v (o.behind + p)
      continues o =
          let e : drop i input ≡ drop o.behind (drop o.size input) = ap (λ (x : ℕ). drop x input) o.taken ∙ sym (drop-drop o.behind o.size input) in
          going_more (take o.size input ∷ []) n (drop o.size input) before at now m w o.behind o.going p (rw e at (next_ends m (length before - w) (drop i input) p (sym o.next ∙ h))) a
          (ea ∙ ap (λ (xs : List ℕ). answer_of (take p xs)) e) (t.begins.goes p h) row v put

      turned : (size behind : ℕ) → front ≡ Some size → i + p ≡ size + behind → Going (take size input ∷ []) n (drop size input) before at row (m + 1) v behind
          → (j : Option ℕ) → j ≡ next_end (m + 1) (length row - v) (drop (i + p) input) → Turn input front n before at row (m + 1) v (i + p) j
      turned size behind is taken going j ej =
          let same : length row ≡ length before = lined_length n before at row (m + 1) v _ going.lined in
          let e : j ≡ next_end (m + 1) (length before - v) (drop (i + p) input) = ej ∙ ap (λ (x : ℕ). next_end (m + 1) (x - v) (drop (i + p) input)) same in
          record {
            within = turn_within;
            same = same;
            begins = begins_next (drop (i + p) input) j (m + 1) before v going.lined.fits e;
            far = inr (record { size = size; is = is; behind = behind; taken = taken; going = going; next = e });
          }

      pub turn_more : (j : Option ℕ) → j ≡ next_end (m + 1) (length row - v) (drop (i + p) input) → Turn input front n before at row (m + 1) v (i + p) j
      turn_more =
          ⊎_elim
          (λ b. turned p 0 (sym b.1 ∙ h) (omega (arith, b.0)) (begun b.0 b.2 b.3 b.4))
          (λ o. turned o.size (o.behind + p) o.is (omega (arith, o.taken)) (continues o))
          t.far

  -- no next piece
  pub turn_last : k ≡ None → Lists input front n before at now (record { taken = i; number = m; written = w })
  turn_last z =
      record {
        none = λ f. ⊎_elim (λ b. (b.4, rw (b.0, b.2, b.3) refl)) (λ o. some_none o.size (sym o.is ∙ f)) t.far;
        some = λ s f.
            ⊎_elim
            (λ b. some_none s (sym f ∙ sym b.1 ∙ z))
            (λ o. subst (λ (x : ℕ). ListsOn input x n before at now (record { taken = i; number = m; written = w })) (some_same o.size s (sym o.is ∙ f))
            (record { behind = o.behind; taken = o.taken; going = o.going; over = ap (λ (x : ℕ). next_end m (length before - w) (drop x input)) (sym o.taken) ∙ sym o.next ∙ z }))
            t.far;
      }
