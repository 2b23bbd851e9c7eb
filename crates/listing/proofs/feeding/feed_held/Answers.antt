-- `feeding::feed_held` meets its contract: no byte is taken, all join the ones held, or they end the piece, and what is behind it is fed.
-- Assumes nothing.
use Prim.Native.Nat.{ℕ, ◌≤◌}
use mathlib.Core.Path.{◌≡◌, refl, sym, ap, ◌∙◌}
use mathlib.Core.List.{List}
use native.Mathlib.Omega.{arith}
use lib.Seq.{length-take-le}
use Rattle.std.specs.Prelude.{Option}
use Rattle.listing.specs.Listing.{end_of}
use Rattle.listing.proofs.feeding.Ends.{ended}
use Rattle.listing.proofs.feeding.Going.{behind_all}
use Rattle.listing.proofs.feeding.Whole.{held_off, held_more, held_ends, ended_fill, ended_lined}
use Rattle.listing.proofs.feeding.feed_held.Goals as goal

-- the bytes held are no more than a piece can have before its end
at_most_lem : (n fill : ℕ) → n ≡ fill → fill ≤ 40 → n ≤ 40
at_most_lem n fill e h = omega arith

-- where the piece ends, or does not
counted : (o : Option ℕ) (k fill : ℕ) (xs : List ℕ) → o ≡ end_of fill xs → k ≡ fill → end_of k xs ≡ o
counted o k fill xs e f = ap (λ (j : ℕ). end_of j xs) f ∙ sym e

pub returns-then-not-goes_on : goal.returns-then-not-goes_on
returns-then-not-goes_on c =
    held_off _ _ _ _ _ _ c.refill-card.ensures.held.card c.refill-card.ensures.held.bytes (at_most_lem _ _ c.refill-card.ensures.count c.requires) refl (sym c.goes_on.ensures ∙ c.if-not-goes_on.true) c.stop.ensures

pub returns-in_default : goal.returns-in_default
returns-in_default c =
    held_more _ _ _ _ _ _ c.refill-card.ensures.held.card c.refill-card.ensures.held.bytes (at_most_lem _ _ c.refill-card.ensures.count c.requires) refl (sym c.goes_on.ensures ∙ c.if-not-goes_on.false) (counted _ _ _ _ c.end_of.ensures c.refill-card.ensures.count ∙ c.in_default.is) _ c.hold-card.ensures.card c.hold-card.ensures.bytes c.stop-in_default.ensures

pub slice_bounds-hold-end : goal.slice_bounds-hold-end
slice_bounds-hold-end c =
    let u = ended _ _ _ (counted _ _ _ _ c.end_of.ensures c.refill-card.ensures.count ∙ c.in-Some.is) in
    sym (length-take-le c.in-Some.n c.args.input.now u.within)

pub list_held-listed-requires : goal.list_held-listed-requires
list_held-listed-requires c =
    let u = ended _ _ _ (counted _ _ _ _ c.end_of.ensures c.refill-card.ensures.count ∙ c.in-Some.is) in
    let s = at_most_lem _ _ c.refill-card.ensures.count c.requires in
    let f = ended_fill _ _ _ u s _ _ c.refill-card.ensures.held.card c.refill-card.ensures.held.bytes _ refl c.hold-card-2.ensures.card c.hold-card-2.ensures.bytes in
    (omega (arith, f, u.short s), (sym c.goes_on.ensures ∙ c.if-not-goes_on.false))

pub slice_bounds-feed_whole-count : goal.slice_bounds-feed_whole-count
slice_bounds-feed_whole-count c = let u = ended _ _ _ (counted _ _ _ _ c.end_of.ensures c.refill-card.ensures.count ∙ c.in-Some.is) in u.within

pub slice_bounds-feed_whole-start : goal.slice_bounds-feed_whole-start
slice_bounds-feed_whole-start c = let u = ended _ _ _ (counted _ _ _ _ c.end_of.ensures c.refill-card.ensures.count ∙ c.in-Some.is) in u.within

pub returns : goal.returns
returns c =
    let u = ended _ _ _ (counted _ _ _ _ c.end_of.ensures c.refill-card.ensures.count ∙ c.in-Some.is) in
    let s = at_most_lem _ _ c.refill-card.ensures.count c.requires in
    let l = ended_lined _ _ _ u s _ _ c.refill-card.ensures.held.card c.refill-card.ensures.held.bytes _ refl c.hold-card-2.ensures.card c.hold-card-2.ensures.bytes _ _ _ _ c.list_held-listed.ensures in
    held_ends _ _ _ _ _ _ c.refill-card.ensures.held.card c.refill-card.ensures.held.bytes s (sym c.goes_on.ensures ∙ c.if-not-goes_on.false) _ u _ _ _ l _ (behind_all c.in-Some.n c.args.input.now) _ c.feed_whole-fed.ensures refl
