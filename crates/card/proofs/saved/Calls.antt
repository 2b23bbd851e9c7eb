-- What the calls that save and load rest on: the tables of their refusals, line by line. Assumes nothing.
use Prim.Native.Nat.{ℕ, ◌≤◌}
use mathlib.Core.Path.{◌≡◌, refl, sym, ◌∙◌, ap}
use mathlib.Core.Bool.{Bool, true, false, ◌&&◌, not}
use mathlib.Core.List.{List, [], ◌∷◌, ◌++◌}
use lib.Dec.{eqb, ltb}
use lib.ListN.{length, drop}
use borrow.Author.Tests.{eq-eqb, eqb-false, le-ltb, not-false}
use Rattle.wire.specs.Digits.{pick, unpacked}
use Rattle.wire.specs.Numbers.{◌if◌, given, answered, number_of, granted}
use Rattle.std.specs.Prelude.{Result, Err, Some, None, ⊤}
use Rattle.wire.specs.declared.numbers.Refusal.{Refusal}
use Rattle.wire.proofs.numbers.Names.{given_number, number_refusal, unlawful_named, not_saved_named}
use native.Mathlib.Omega.{arith}
use Rattle.wire.proofs.numbers.Laws.{given_zero, quiet_first}
use Rattle.card.specs.declared.card.Card.{Card}
use Rattle.wire.specs.declared.numbers.Answer.{Answer}
use Rattle.parts.specs.declared.settings.Settings.{Settings}
use Rattle.parts.specs.Settings.{jam_fits}
use Rattle.card.specs.Lawful.{lawful}
use Rattle.card.specs.Cards.{answer, with_settings}
use Rattle.card.proofs.lawful.Laws.{parts}
use Rattle.parts.specs.Saved.{meaningful, settings_in, saved_form, saved_refusal, put_refusal, row_put, read_saved}
use Rattle.parts.proofs.saved.Calls.{put_known, loaded, refusal_given}
use Rattle.card.specs.Saved.{save_refusal, row_saved, save_lines, load_lines, load, settings_kept}

-- SAVING

module _ (card : Card) (row : List ℕ) where
  pub save_18 : lawful card ≡ false → Err Refusal.Unlawful ≡ answered {A = ⊤} (save_refusal card (length row)) tt
  unfolding save_refusal
  save_18 e = simp (e, unlawful_named)

  pub row_18 : lawful card ≡ false → row ≡ row_saved card row
  unfolding save_refusal row_saved
  row_18 e = simp e

  -- of a lawful card, its settings are put
  pub save_puts : lawful card ≡ true → (r : Result ⊤ Refusal) (after : List ℕ) → r ≡ answered (put_refusal card.settings (length row)) tt → after ≡ row_put card.settings row
      → (r ≡ answered (save_refusal card (length row)) tt) × (after ≡ row_saved card row)
  unfolding save_refusal row_saved
  save_puts e r after h a =
      let k = put_known card.settings row (parts card e).settings in
      (h ∙ ap (λ (n : ℕ). answered n tt) (k.0 ∙ simp e), a ∙ k.1 ∙ simp e)

-- the number that saving answers is that of its table
pub save_told : (card : Card) (room : ℕ) → number_of (answered {A = ⊤} (save_refusal card room) tt) ≡ save_refusal card room
unfolding save_refusal
save_told card room = given_number (save_lines card room) tt refl

-- LOADING

module _ (card : Card) (bytes : List ℕ) where
  pub load_18 : lawful card ≡ false → record { after = card; outcome = Err Refusal.Unlawful } ≡ load card bytes
  unfolding load
  load_18 e = simp (e, unlawful_named)

  -- bytes that are loaded as nothing are refused, and settings are kept
  pub load_none : lawful card ≡ true → read_saved bytes ≡ None → record { after = card; outcome = Err Refusal.NotSaved } ≡ load card bytes
  unfolding load
  load_none l = go (eqb (length bytes) 5 && meaningful (unpacked 2 8 bytes)) refl
    where
      go : (t : Bool) → eqb (length bytes) 5 && meaningful (unpacked 2 8 bytes) ≡ t → read_saved bytes ≡ None → record { after = card; outcome = Err Refusal.NotSaved } ≡ load card bytes
      go true h e = absurd (let q = loaded bytes true h in cc)
      go false h e = simp (l, h, not_saved_named)

  pub load_some : lawful card ≡ true → (s : Settings) → read_saved bytes ≡ Some s → settings_kept card s ≡ load card bytes
  unfolding load
  load_some l s = go (eqb (length bytes) 5 && meaningful (unpacked 2 8 bytes)) refl
    where
      go : (t : Bool) → eqb (length bytes) 5 && meaningful (unpacked 2 8 bytes) ≡ t → read_saved bytes ≡ Some s → settings_kept card s ≡ load card bytes
      go true h e = let q = loaded bytes true h in let i : settings_in (unpacked 2 8 bytes) ≡ s = cc in simp (l, h, i)
      go false h e = absurd (let q = loaded bytes false h in cc)

-- FOR THE LAWS ABOVE

-- by whether the jam may stand beside settings
pub kept_by : (card : Card) (s : Settings) → settings_kept card s ≡ pick (jam_fits card.jam s) (answer (with_settings card s) 0) (answer card 25)
kept_by card s = go (jam_fits card.jam s)
  where
    go : (t : Bool) → granted (25 if not t ∷ []) card (with_settings card s) tt ≡ pick t (answer (with_settings card s) 0) (answer card 25)
    go true = refl
    go false = refl

module _ (card : Card) (room : ℕ) where
  pub saves : lawful card ≡ true → 5 ≤ room → save_refusal card room ≡ 0
  unfolding save_refusal
  saves e h = simp (e, le-ltb room 5 h)

  by_known : (t s : Bool) → given (18 if not t ∷ 14 if s ∷ []) ≡ 0 → t ≡ true
  by_known t s e = not-false t (quiet_first (not t) _ ((given_zero (18 if not t ∷ 14 if s ∷ []) refl).0 e)).0

  pub saves_lawful : save_refusal card room ≡ 0 → lawful card ≡ true
  unfolding save_refusal
  saves_lawful e = by_known (lawful card) (ltb room 5) e

pub row_is : (card : Card) (row : List ℕ) → save_refusal card (length row) ≡ 0 → row_saved card row ≡ saved_form card.settings ++ drop 5 row
unfolding row_saved
row_is card row e = simp (eq-eqb (save_refusal card (length row)) 0 e)

module _ (card : Card) (bytes : List ℕ) (l : lawful card ≡ true) where
  abbrev formed : Bool
  formed = eqb (length bytes) 5 && meaningful (unpacked 2 8 bytes)

  -- bytes that are a saved form: their settings are the card's, or 25
  pub loads : saved_refusal bytes ≡ 0 → load card bytes ≡ pick (jam_fits card.jam (settings_in (unpacked 2 8 bytes))) (answer (with_settings card (settings_in (unpacked 2 8 bytes))) 0) (answer card 25)
  unfolding load
  loads e = go formed refl (sym (refusal_given bytes) ∙ e) ∙ kept_by card (settings_in (unpacked 2 8 bytes))
    where
      go : (t : Bool) → formed ≡ t → given (19 if not t ∷ []) ≡ 0 → load card bytes ≡ settings_kept card (settings_in (unpacked 2 8 bytes))
      go true h z = simp (l, h)
      go false h z = absurd (eqb-false 19 0 refl z)

  -- and bytes that are loaded are one
  pub load_refusal : number_of (load card bytes).outcome ≡ 0 → saved_refusal bytes ≡ 0
  unfolding load
  load_refusal e = refusal_given bytes ∙ go formed (jam_fits card.jam (settings_in (unpacked 2 8 bytes))) (rw l at (sym (given_number (load_lines card bytes) tt refl) ∙ e))
    where
      go : (t j : Bool) → given (19 if not t ∷ 25 if not j ∷ []) ≡ 0 → given (19 if not t ∷ []) ≡ 0
      go true j z = refl
      go false j z = z

  -- and then their settings are the card's
  pub load_settings_lem : number_of (load card bytes).outcome ≡ 0 → (load card bytes).after.settings ≡ settings_in (unpacked 2 8 bytes)
  load_settings_lem e =
      let q = loads (load_refusal e) in
      ap (λ (a : Answer Card ⊤). a.after.settings) q ∙ go (jam_fits card.jam (settings_in (unpacked 2 8 bytes))) (sym (ap (λ (a : Answer Card ⊤). number_of a.outcome) q) ∙ e)
    where
      go : (j : Bool) → number_of (pick j (answer (with_settings card (settings_in (unpacked 2 8 bytes))) 0) (answer card 25)).outcome ≡ 0
          → (pick j (answer (with_settings card (settings_in (unpacked 2 8 bytes))) 0) (answer card 25)).after.settings ≡ settings_in (unpacked 2 8 bytes)
      go true z = refl
      go false z = absurd (eqb-false 25 0 refl (sym (number_refusal 25 (omega arith) (omega arith)) ∙ z))
