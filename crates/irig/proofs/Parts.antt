-- A stream that is handed over in parts, cut anywhere, gives the frames of the whole: nothing is lost or found twice at a cut. By what any run of calls finds, and that each call takes
-- something. Assumes nothing.
use Prim.Native.Nat.{ℕ, zero, suc, ◌-◌, ◌≤◌}
use mathlib.Core.Path.{◌≡◌, refl, sym, ◌∙◌, ap, ap₂}
use mathlib.Core.Bool.{Bool, true, false}
use mathlib.Core.List.{List, [], ◌∷◌, ◌++◌, append_assoc}
use native.Mathlib.Nat.{le_refl}
use native.Mathlib.Omega.{arith}
use lib.Dec.{eqb}
use lib.ListN.{length, take, drop, length-drop, take-append-drop}
use Rattle.wire.specs.Digits.{pick}
use Rattle.wire.specs.declared.numbers.Refusal.{Refusal}
use Rattle.wire.specs.declared.words.Moment.{Moment}
use Rattle.irig.specs.declared.stream.Stream.{Stream}
use Rattle.std.specs.Prelude.{Option, Result, Some, None}
use Rattle.wire.specs.declared.numbers.Answer.{Answer}
use Rattle.irig.specs.declared.stream.RowTaken.{RowTaken}
use Rattle.irig.specs.Reading.{read_frame}
use Rattle.irig.specs.Streams.{fresh_stream, lawful, next, frame_ends, behind, one_by_one, take_row, taking}
use Rattle.irig.specs.Finding.{frames, after_all, taken_all, found_by, found_all, handed, in_parts, joined}
use Rattle.irig.proofs.stream.Laws.{take_lawful}
use Rattle.irig.proofs.Finding.{run_finds}
use Rattle.irig.proofs.Reached.{Sound, fresh_sound, keeps_all}

-- WHAT A CALL TAKES

frame_is_something : (t : Result Moment Refusal) → ◌≡◌ {A = Option (Result Moment Refusal)} (Some t) None → ⊥
frame_is_something t e = let q : ◌≡◌ {A = ℕ} 1 0 = ap (λ (f : Option (Result Moment Refusal)). length (found_by 0 f)) e in omega arith

some : (s : Stream) (e : ℕ) (es : List ℕ) → 1 ≤ (one_by_one s (e ∷ es)).taken
unfolding one_by_one
some s e es = by (eqb (next s e).held 100)
  where
    by : (t : Bool) → 1 ≤ (pick t (frame_ends (next s e) e) (behind 1 (one_by_one (next s e) es))).taken
    by true = omega arith
    by false = omega arith

takes_rest : (row : List ℕ) (s : Stream) → (one_by_one s row).finished ≡ None → (one_by_one s row).taken ≡ length row
unfolding one_by_one
takes_rest [] s f = refl
takes_rest (e ∷ es) s f = by (eqb (next s e).held 100) f (takes_rest es (next s e))
  where
    by : (t : Bool) → (pick t (frame_ends (next s e) e) (behind 1 (one_by_one (next s e) es))).finished ≡ None
        → ((one_by_one (next s e) es).finished ≡ None → (one_by_one (next s e) es).taken ≡ length es)
        → (pick t (frame_ends (next s e) e) (behind 1 (one_by_one (next s e) es))).taken ≡ suc (length es)
    by true g r = absurd (frame_is_something (read_frame (next s e).elements) g)
    by false g r = let q = r g in omega arith

-- a call on a lawful record takes at least one element of a row that has one
pub takes_some : (s : Stream) (e : ℕ) (es : List ℕ) → lawful s ≡ true → 1 ≤ (taking (take_row s (e ∷ es))).taken
takes_some s e es h = rw (sym (take_lawful s (e ∷ es) h)) (some s e es)

-- and all of it, if it finishes no frame
pub takes_all : (s : Stream) (row : List ℕ) → lawful s ≡ true → (taking (take_row s row)).finished ≡ None → (taking (take_row s row)).taken ≡ length row
takes_all s row h f = ap (λ (a : Answer Stream RowTaken). (taking a).taken) (sym (take_lawful s row h)) ∙ takes_rest row s (ap (λ (a : Answer Stream RowTaken). (taking a).finished) (take_lawful s row h) ∙ f)

-- WHAT CALLS TAKE TOGETHER

take_both : (rows rows' : List (List ℕ)) (s : Stream) → taken_all (rows ++ rows') s ≡ taken_all rows s ++ taken_all rows' (after_all rows s)
take_both [] rows' s = refl
take_both (row ∷ rows) rows' s =
    ap (λ (l : List ℕ). take (taking (take_row s row)).taken row ++ l) (take_both rows rows' (take_row s row).after)
    ∙ sym (append_assoc (take (taking (take_row s row)).taken row) (taken_all rows (take_row s row).after) (taken_all rows' (after_all rows (take_row s row).after)))

-- a part is taken whole
handed_taken : (n : ℕ) (part : List ℕ) (s : Stream) → length part ≤ n → Sound s → taken_all (handed n s part) s ≡ part
unfolding handed
handed_taken zero [] s l k = refl
handed_taken zero (e ∷ es) s l k = absurd (omega arith)
handed_taken (suc n) [] s l k = refl
handed_taken (suc n) (e ∷ es) s l k =
    let t : ℕ = (taking (take_row s (e ∷ es))).taken in
    let q : length (drop t (e ∷ es)) ≡ suc (length es) - t = length-drop t (e ∷ es) in
    let m = takes_some s e es k.is_lawful in
    ap (λ (r : List ℕ). take t (e ∷ es) ++ r) (handed_taken n (drop t (e ∷ es)) (take_row s (e ∷ es)).after (omega arith) (keeps_all ((e ∷ es) ∷ []) s k))
    ∙ take-append-drop t (e ∷ es)

parts_taken : (parts : List (List ℕ)) (s : Stream) → Sound s → taken_all (in_parts parts s) s ≡ joined parts
unfolding in_parts
parts_taken [] s k = refl
parts_taken (part ∷ parts) s k =
    let rows : List (List ℕ) = handed (length part) s part in
    take_both rows (in_parts parts (after_all rows s)) s
    ∙ ap₂ ◌++◌ (handed_taken (length part) part s (le_refl (length part)) k) (parts_taken parts (after_all rows s) (keeps_all rows s k))

-- a stream that is handed over in parts, cut anywhere, gives the frames of the whole: nothing is lost or found twice at a cut
pub parts_find : (parts : List (List ℕ)) → found_all 0 (in_parts parts fresh_stream) fresh_stream ≡ frames (joined parts)
parts_find parts = run_finds (in_parts parts fresh_stream) ∙ ap frames (parts_taken parts fresh_stream fresh_sound)
