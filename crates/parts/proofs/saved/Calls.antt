-- Saving and loading, by the tables of their refusals. Assumes nothing.
use Prim.Native.Nat.{ℕ}
use mathlib.Core.Path.{◌≡◌, refl}
use mathlib.Core.Bool.{Bool, true, false, ◌&&◌, not}
use mathlib.Core.List.{List, [], ◌∷◌, ◌++◌}
use lib.Dec.{eqb, ltb}
use lib.ListN.{length, drop}
use borrow.Author.Tests.{ne_eqb}
use Rattle.wire.specs.Digits.{pick, unpacked}
use Rattle.wire.specs.Numbers.{◌if◌, given, answered, number_of}
use Rattle.wire.proofs.digits.Laws.{picked}
use Rattle.wire.proofs.numbers.Names.{given_number}
use Rattle.parts.specs.declared.settings.Settings.{Settings}
use Rattle.std.specs.Prelude.{Some, None, ⊤}
use Rattle.parts.specs.Settings.{settings_lawful}
use Rattle.parts.specs.Saved.{saved_form, meaningful, saved_lines, saved_refusal, settings_in, put_refusal, row_put, read_saved, number_loaded, settings_loaded}

-- SAVING

module _ (s : Settings) (row : List ℕ) where
  -- of lawful settings, the row alone decides
  pub put_known : settings_lawful s ≡ true
      → (put_refusal s (length row) ≡ given (14 if ltb (length row) 5 ∷ []))
      × (row_put s row ≡ pick (eqb (given (14 if ltb (length row) 5 ∷ [])) 0) (saved_form s ++ drop 5 row) row)
  unfolding put_refusal row_put
  put_known e = (simp e, simp e)

-- and the number of what saving answers is the one that its lines give
pub put_told : (s : Settings) (room : ℕ) → number_of (answered {A = ⊤} (put_refusal s room) tt) ≡ put_refusal s room
unfolding put_refusal
put_told s room = given_number (18 if not (settings_lawful s) ∷ 14 if ltb room 5 ∷ []) tt refl

-- LOADING

-- bytes are loaded as settings exactly if they are five, and mean something
pub loaded : (bytes : List ℕ) (t : Bool) → eqb (length bytes) 5 && meaningful (unpacked 2 8 bytes) ≡ t
    → read_saved bytes ≡ pick t (Some (settings_in (unpacked 2 8 bytes))) None
unfolding read_saved saved_refusal
loaded bytes true h = simp h
loaded bytes false h = simp h

-- the refusal is that of the lines
pub refusal_given : (bytes : List ℕ) → saved_refusal bytes ≡ given (saved_lines bytes)
unfolding saved_refusal
refusal_given bytes = refl

-- and the number of what bytes are loaded as is the number that their lines give
pub number_loaded_lem : (bytes : List ℕ) → number_loaded (read_saved bytes) ≡ saved_refusal bytes
unfolding read_saved saved_refusal
number_loaded_lem bytes = go (eqb (length bytes) 5 && meaningful (unpacked 2 8 bytes))
  where
    go : (t : Bool) → number_loaded (pick (eqb (given (19 if not t ∷ [])) 0) (Some (settings_in (unpacked 2 8 bytes))) None) ≡ given (19 if not t ∷ [])
    go true = refl
    go false = refl

-- and its settings are what the bytes say, if no line holds
pub settings_loaded_lem : (these : Settings) (bytes : List ℕ) → settings_loaded these (read_saved bytes) ≡ pick (eqb (saved_refusal bytes) 0) (settings_in (unpacked 2 8 bytes)) these
unfolding read_saved
settings_loaded_lem these bytes = picked (settings_loaded these) (eqb (saved_refusal bytes) 0) (Some (settings_in (unpacked 2 8 bytes))) None

-- a refused saving leaves the row
pub put_stays : (s : Settings) (row : List ℕ) → (put_refusal s (length row) ≡ 0 → ⊥) → row_put s row ≡ row
unfolding row_put
put_stays s row h = simp (ne_eqb (put_refusal s (length row)) 0 h)
