-- `feeding::feed_whole` meets its contract: what listing left over is held, or no byte more is taken.
-- Assumes nothing.
use Prim.Native.Nat.{ℕ, ◌-◌}
use mathlib.Core.Path.{◌≡◌, sym, ap, ◌∙◌}
use mathlib.Core.Bool.{Bool}
use mathlib.Core.List.{List}
use native.Mathlib.Omega.{arith}
use lib.ListN.{length, take, drop}
use Rattle.card.specs.declared.card.Card.{Card}
use Rattle.laws.specs.Calls.{fed}
use Rattle.listing.specs.Listing.{goes_on}
use Rattle.listing.proofs.feeding.Going.{begins_next, behind_all, lined_length}
use Rattle.listing.proofs.feeding.Whole.{listed, whole_held, whole_over}
use Rattle.listing.proofs.feeding.feed_whole.Goals as goal

-- whether a line more could be put
goes : (number written : ℕ) (new old : List ℕ) (t : Bool) → length new ≡ length old → t ≡ goes_on number (length new - written)
    → goes_on number (length old - written) ≡ t
goes number written new old t s e = ap (λ (n : ℕ). goes_on number (n - written)) (sym s) ∙ sym e

pub list-listed-requires : goal.list-listed-requires
list-listed-requires c = (c.fresh_card-fresh.ensures, begins_next _ _ _ _ _ c.requires c.next_end-front.ensures)

pub overflow_sub-row-2 : goal.overflow_sub-row-2
overflow_sub-row-2 c =
    let s = (listed _ _ _ _ _ _ _ c.list-listed.ensures c.next_end-front.ensures c.requires) in
    omega (arith, s.going.lined.fits, lined_length _ _ _ _ _ _ _ s.going.lined)

pub slice_bounds-hold-count : goal.slice_bounds-hold-count
slice_bounds-hold-count c = let s = (listed _ _ _ _ _ _ _ c.list-listed.ensures c.next_end-front.ensures c.requires) in s.going.within

pub slice_bounds-hold-start : goal.slice_bounds-hold-start
slice_bounds-hold-start c = let s = (listed _ _ _ _ _ _ _ c.list-listed.ensures c.next_end-front.ensures c.requires) in s.going.within

pub returns-then-not-goes_on : goal.returns-then-not-goes_on
returns-then-not-goes_on c =
    let s = (listed _ _ _ _ _ _ _ c.list-listed.ensures c.next_end-front.ensures c.requires) in
    let g = goes _ _ _ _ _ (lined_length _ _ _ _ _ _ _ s.going.lined) c.goes_on.ensures in
    whole_over _ _ _ _ _ _ _ _ s (g ∙ c.if-not-goes_on.true) c.fresh_card-fresh.result c.fresh_card-fresh.ensures _ c.stop.ensures

pub returns : goal.returns
returns c =
    let i = c.list-listed.result.taken in
    let xs = c.args.input.now in
    let s = (listed _ _ _ _ _ _ _ c.list-listed.ensures c.next_end-front.ensures c.requires) in
    let g = goes _ _ _ _ _ (lined_length _ _ _ _ _ _ _ s.going.lined) c.goes_on.ensures in
    whole_held _ _ _ _ _ _ _ _ s (g ∙ c.if-not-goes_on.false) _ (behind_all i xs) c.hold-card.result
    (c.hold-card.ensures.card ∙ ap (λ (k : Card). fed k (take (length xs - i) (drop i xs))) c.fresh_card-fresh.ensures) c.hold-card.ensures.bytes _ c.stop-2.ensures
