-- `feeding::list` meets its contract, by the laws of the loop. Assumes nothing.
use Prim.Native.Nat.{ℕ, suc, ◌+◌, ◌-◌}
use mathlib.Core.Path.{◌≡◌, ap, ap₂, ◌∙◌}
use mathlib.Core.List.{List}
use native.Mathlib.Omega.{arith}
use lib.ListN.{take}
use Rattle.wire.specs.Numbers.{number_of}
use Rattle.card.specs.declared.card.Card.{Card}
use Rattle.card.specs.Registers.{write_register}
use Rattle.card.specs.Reset.{fresh_card}
use Rattle.laws.specs.Calls.{fed}
use Rattle.listing.specs.Listing.{answer_of, next_end, PutLine}
use Rattle.listing.proofs.feeding.Going.{turn_first, turn_number, turn_room, turn_more, behind_all}
use Rattle.listing.proofs.feeding.list.Goals as goal

-- the answer of the next piece
answers : (fresh : Card) (xs : List ℕ) (k n a : ℕ) → a ≡ number_of (write_register (fed fresh (take k xs)) 12 0x80).outcome → fresh ≡ fresh_card → k ≡ n → a ≡ answer_of (take n xs)
unfolding answer_of
answers fresh xs k n a e f g = e ∙ ap₂ (λ (c : Card) (j : ℕ). number_of (write_register (fed c (take j xs)) 12 0x80).outcome) f g

-- a line with the numeral's number has the next number
numbered : (n m : ℕ) → n ≡ m → (before : List ℕ) (at answer : ℕ) (after : List ℕ) (r : ℕ) → PutLine before at n answer after r → PutLine before at m answer after r
numbered n m e before at answer after r t = rw e at t

pub loop-next-init : goal.loop-next-init
loop-next-init c = (turn_first _ _ _ _ _ c.requires.1, c.of-numeral.ensures)

pub put_line-written-requires : goal.put_line-written-requires
put_line-written-requires c = turn_room _ _ _ _ _ _ _ _ _ _ c.loop-next.invariant.0 _ c.in-Some.is

pub overflow_add-number : goal.overflow_add-number
overflow_add-number c = omega (arith, turn_number _ _ _ _ _ _ _ _ _ _ c.loop-next.invariant.0 _ c.in-Some.is)

pub loop-next-preserved : goal.loop-next-preserved
loop-next-preserved c =
    let l = c.loop-next in
    let n = c.in-Some.n in (
      turn_more _ _ _ _ _ _ _ _ _ _ l.invariant.0 n c.in-Some.is _
          (answers _ _ _ _ _ c.answer_of-answer.ensures c.requires.0 (let e : l.taken + n - l.taken ≡ n = omega arith in e))
          _ _ (numbered _ _ l.invariant.1 _ _ _ _ _ c.put_line-written.ensures) _
          (c.next_end-next.ensures ∙ ap (next_end _ _) (behind_all (l.taken + n) c.args.input.now)),
      c.count_up.ensures ∙ ap suc l.invariant.1 ∙ (let e : suc l.number ≡ l.number + 1 = omega arith in e),
    )
