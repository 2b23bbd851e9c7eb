-- The event input: its ranges, what a matching edge leaves of it, and that it stays lawful; and the words of latches. Assumes nothing.
use Prim.Native.Nat.{ℕ, zero, suc, ◌/◌, ◌%◌}
use mathlib.Core.Path.{◌≡◌, refl, sym, ap, ap₂, ◌∙◌}
use mathlib.Core.Bool.{Bool, true, false, ◌&&◌, ◌||◌, not, beq, or-true}
use mathlib.Core.List.{List, [], ◌∷◌}
use native.Mathlib.Omega.{arith}
use lib.Bits.{bit_and}
use lib.Dec.{ltb, eqb, eqb-suc-zero}
use lib.ListN.{length, replicate}
use borrow.Author.Tests.{lt-ltb, le-ltb, ne_eqb}
use Rattle.std.specs.Cmp.Lexicographic.{pointwise}
use Rattle.wire.specs.Digits.{below, pick}
use Rattle.wire.specs.declared.words.Moment.{Moment}
use Rattle.std.specs.Prelude.{Ok}
use Rattle.wire.specs.Words.{zero_words, read_words}
use Rattle.wire.proofs.digits.Laws.{and_both, zeros_below}
use Rattle.parts.specs.declared.event.Event.{Event}
use Rattle.parts.specs.Events.{keeps_first, clear_event, latch_lawful, control_lawful, event_lawful, control_written, opened, captured, counted, matching, edge_taken}
use Rattle.parts.specs.Pending.{bit}
use Rattle.parts.proofs.pending.Bits.{bit_0_by_and, bit_1_by_and}

-- words are all zero exactly if they equal as many zeros
zero_word : (w : ℕ) → eqb w 0 ≡ ltb w 1
zero_word zero = refl
zero_word (suc w) = eqb-suc-zero w ∙ sym (le-ltb (suc w) 1 (omega arith))

equal_zeros : (ws : List ℕ) → pointwise eqb ws (replicate (length ws) 0) ≡ below 1 ws
unfolding below
equal_zeros [] = refl
equal_zeros (w ∷ ws) = ap₂ ◌&&◌ (zero_word w) (equal_zeros ws)

pub five_zeros : (ws : List ℕ) → length ws ≡ 5 → pointwise eqb ws zero_words ≡ below 1 ws
five_zeros ws l = ap (λ (n : ℕ). pointwise eqb ws (replicate n 0)) (sym l) ∙ equal_zeros ws

-- two latches of zeros are lawful
pub latches_zero : (ws vs : List ℕ) → below 1 ws ≡ true → below 1 vs ≡ true → (latch_lawful ws && latch_lawful vs) ≡ true
unfolding latch_lawful
latches_zero ws vs e f = simp (e, f)

-- with capture on, the kind of edge decides
chosen : (t falling : Bool) → beq t falling ≡ pick falling t (not t)
chosen true true = refl
chosen true false = refl
chosen false true = refl
chosen false false = refl

pub kind_decides : (control : ℕ) (falling : Bool) → (bit_and control 1 ≡ 0 → ⊥) → beq (not (eqb (bit_and control 2) 0)) falling ≡ matching control falling
unfolding matching
kind_decides control falling h =
    let on : bit 1 control ≡ true = sym (bit_0_by_and control) ∙ ap not (ne_eqb (bit_and control 1) 0 h) in
    rw (bit_1_by_and control) (chosen (bit 2 control) falling ∙ ap (λ (t : Bool). t && pick falling (bit 2 control) (not (bit 2 control))) (sym on))

-- the event input's ranges
pub event_is : (e : Event) → event_lawful e ≡ (control_lawful e.control e.closed && latch_lawful e.latch)
unfolding event_lawful
event_is e = refl

pub event_parts : (e : Event) → event_lawful e ≡ true → (control_lawful e.control e.closed ≡ true) × (latch_lawful e.latch ≡ true)
unfolding event_lawful
event_parts e h = and_both (control_lawful e.control e.closed) (latch_lawful e.latch) h

pub event_lawful_lem : (e : Event) → control_lawful e.control e.closed ≡ true → latch_lawful e.latch ≡ true → event_lawful e ≡ true
unfolding event_lawful
event_lawful_lem e k l = simp (k, l)

-- CONTROL's own range, and bit 2 beside a closed latch
control_parts : (control : ℕ) (closed : Bool) → control_lawful control closed ≡ true → (ltb control 8 ≡ true) × ((not closed || keeps_first control) ≡ true)
unfolding control_lawful
control_parts control closed h = and_both (ltb control 8) (not closed || keeps_first control) h

pub closed_keeps : (e : Event) → event_lawful e ≡ true → e.closed ≡ true → keeps_first e.control ≡ true
closed_keeps e h k = go e.closed k (control_parts e.control e.closed (event_parts e h).0).1
  where
    go : (t : Bool) → t ≡ true → (not t || keeps_first e.control) ≡ true → keeps_first e.control ≡ true
    go true k f = f
    go false k f = absurd (let z : ◌≡◌ {A = ℕ} 0 1 = cc in omega arith)

-- an open latch is lawful beside any CONTROL in its range, and so is one that is closed just with bit 2
open_fits : (control : ℕ) → ltb control 8 ≡ true → control_lawful control false ≡ true
unfolding control_lawful
open_fits control l = simp l

own_fits : (t : Bool) → (not t || t) ≡ true
own_fits true = refl
own_fits false = refl

kept_fits : (control : ℕ) → ltb control 8 ≡ true → control_lawful control (keeps_first control) ≡ true
unfolding control_lawful
kept_fits control l = simp l (own_fits (keeps_first control))

-- bit 2 of a value is that of the CONTROL that it leaves
pub bit_written : (v : ℕ) → keeps_first (v % 8) ≡ keeps_first v
bit_written v = ap (λ (n : ℕ). eqb n 1) {x = v % 8 / 4 % 2} {y = v / 4 % 2} (omega arith)

written_fits : (closed : Bool) (v : ℕ) → control_lawful (v % 8) (closed && keeps_first v) ≡ true
written_fits true v = ap (control_lawful (v % 8)) (sym (bit_written v)) ∙ kept_fits (v % 8) (lt-ltb (v % 8) 8 (omega arith))
written_fits false v = open_fits (v % 8) (lt-ltb (v % 8) 8 (omega arith))

-- words that read are lawful in a latch, and so are five zero words
pub read_lawful : (ws : List ℕ) (m : Moment) → read_words ws ≡ Ok m → latch_lawful ws ≡ true
unfolding latch_lawful
read_lawful ws m e = simp (e, or-true)

pub zero_lawful : latch_lawful zero_words ≡ true
unfolding latch_lawful
zero_lawful = simp (zeros_below 5)

-- so is what a reset leaves
pub reset_lawful : event_lawful clear_event ≡ true
reset_lawful = event_lawful_lem _ (open_fits 0 refl) zero_lawful

-- what a matching edge leaves of a closed latch, and of an open one
module _ (e : Event) (ws : List ℕ) where
  pub edge_counts : e.closed ≡ true → edge_taken e ws ≡ counted e
  unfolding edge_taken
  edge_counts h = ap (λ (t : Bool). pick t (counted e) (captured e ws)) h

  pub edge_captures : e.closed ≡ false → edge_taken e ws ≡ captured e ws
  unfolding edge_taken
  edge_captures h = ap (λ (t : Bool). pick t (counted e) (captured e ws)) h

-- a lawful event input stays lawful: CONTROL written, the latch opened, an edge taken
module _ (e : Event) (h : event_lawful e ≡ true) where
  abbrev small : ltb e.control 8 ≡ true
  small = (control_parts e.control e.closed (event_parts e h).0).0

  pub control_lawful_lem : (v : ℕ) → event_lawful (control_written e v) ≡ true
  control_lawful_lem v =
      event_lawful_lem _ (written_fits e.closed v) (event_parts e h).1

  pub opened_lawful : event_lawful (opened e) ≡ true
  opened_lawful = event_lawful_lem _ (open_fits e.control small) (event_parts e h).1

  pub edge_lawful : (ws : List ℕ) → latch_lawful ws ≡ true → event_lawful (edge_taken e ws) ≡ true
  unfolding edge_taken
  edge_lawful ws l = go e.closed refl
    where
      go : (t : Bool) → e.closed ≡ t → event_lawful (pick t (counted e) (captured e ws)) ≡ true
      go true k = event_lawful_lem _ (event_parts e h).0 (event_parts e h).1
      go false k = event_lawful_lem _ (kept_fits e.control small) l
