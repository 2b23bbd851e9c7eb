-- The table is the page's, said in the page's own ranges: computed over all hundred elements. Assumes nothing.
use Prim.Native.Nat.{ℕ, ◌+◌, ◌%◌}
use mathlib.Core.Path.{◌≡◌, refl}
use mathlib.Core.Bool.{Bool, true, false, ◌&&◌, ◌||◌, not}
use lib.Dec.{leb, eqb}
use Rattle.wire.specs.Digits.{pick}
use Rattle.irig.specs.Table.{Field, Element, field_number, table, at, all_to}
use Rattle.irig.specs.Reading.{same}

abbrev is_marker : Element → Bool
is_marker Element.marker = true
is_marker Element.spare = false
is_marker (Element.bit f i) = false

abbrev is_spare : Element → Bool
is_spare Element.marker = false
is_spare Element.spare = true
is_spare (Element.bit f i) = false

abbrev is_bit : Field → ℕ → Element → Bool
is_bit f i Element.marker = false
is_bit f i Element.spare = false
is_bit f i (Element.bit g k) = same f g && eqb i k

-- two tests come to the same
abbrev agree : Bool → Bool → Bool
agree s t = pick s t (not t)

-- markers at element 0 and at 9, 19 and so on to 99
pub markers : all_to 100 (λ (j : ℕ). agree (is_marker (at j)) (eqb j 0 || eqb (j % 10) 9)) ≡ true
unfolding all_to at table
markers = refl

-- n bits of a field stand from an element on, lowest first, the first of them being bit i
abbrev stands_at : Field → ℕ → ℕ → ℕ → Bool
stands_at f i from n = all_to n (λ (k : ℕ). is_bit f (i + k) (at (from + k)))

-- seconds units at 1 to 4 and tens at 6 to 8; minutes 10 to 13 and 15 to 17; hours 20 to 23 and 25 to 26; days 30 to 33, 35 to 38 and 40 to 41; binary seconds at 80 to 88 and 90 to 97
pub fields :
    (stands_at Field.second_units 0 1 4 && (stands_at Field.second_tens 0 6 3
    && (stands_at Field.minute_units 0 10 4 && (stands_at Field.minute_tens 0 15 3
    && (stands_at Field.hour_units 0 20 4 && (stands_at Field.hour_tens 0 25 2
    && (stands_at Field.day_units 0 30 4 && (stands_at Field.day_tens 0 35 4 && (stands_at Field.day_hundreds 0 40 2
    && (stands_at Field.binary_seconds 0 80 9 && stands_at Field.binary_seconds 9 90 8)))))))))) ≡ true
unfolding all_to at table field_number
fields = refl

-- an element from one place to another
abbrev within : ℕ → ℕ → ℕ → Bool
within from to j = leb from j && leb j to

-- all others are spare
pub others :
    all_to 100 (λ (j : ℕ). agree (is_spare (at j))
    (not (eqb j 0 || (eqb (j % 10) 9
    || (within 1 4 j || (within 6 8 j || (within 10 13 j || (within 15 17 j || (within 20 23 j || (within 25 26 j
    || (within 30 33 j || (within 35 38 j || (within 40 41 j || (within 80 88 j || within 90 97 j)))))))))))))) ≡ true
unfolding all_to at table
others = refl
