-- `blocks::write_block` meets its contract: refused by 18, or as many bytes stored as find a free place.
-- Assumes nothing.
use Prim.Native.Nat.{ℕ, ◌≤◌}
use mathlib.Core.Path.{◌≡◌, sym, ap, ◌∙◌}
use native.Mathlib.Omega.{arith}
use lib.ListN.{length, length-take}
use Rattle.std.specs.Prelude.{Result, ⊤}
use Rattle.wire.specs.declared.numbers.Refusal.{Refusal}
use Rattle.wire.proofs.digits.Laws.{below_each}
use Rattle.card.proofs.registers.Laws.{queue_within}
use Rattle.card.proofs.blocks.Laws.{block_18, block_3, block_0}
use borrow.Author.Rules.{rules}
use Rattle.card.proofs.blocks.write_block.Goals as goal
use Rattle.card.proofs.blocks.write_block.Goals.{then-free-row, else-free-row}

pub overflow_sub-free : goal.overflow_sub-free
overflow_sub-free c = queue_within _ (sym c.is_lawful.ensures ∙ c.if-not-is_lawful.false)

pub store_row-requires : goal.store_row-requires
store_row-requires c =
    let l : length c.args.card.queue.bytes ≡ 64 = search rules in
    let f : c.args.card.queue.fill ≤ 64 = queue_within _ (sym c.is_lawful.ensures ∙ c.if-not-is_lawful.false) in
    let n = length-take c.if-free-row.taken.0 c.args.row.now in (
      l,
      elim c.if-free-row.branch [
        | then-free-row w ↦ let t = ap (λ (p : ℕ × Result ⊤ Refusal). p.0) w.taken-is in omega (arith, n, t)
        | else-free-row w ↦ let t = ap (λ (p : ℕ × Result ⊤ Refusal). p.0) w.taken-is in omega (arith, n, t)
      ],
    )

pub returns : goal.returns
returns c =
    let a = c.args in
    let k = sym c.is_lawful.ensures ∙ c.if-not-is_lawful.false in
    let l : length a.card.queue.bytes ≡ 64 = search rules in
    let s = below_each 256 a.row.now (λ i. search rules) in
    let taken = λ (p : ℕ × Result ⊤ Refusal). p.0 in
    let outcome = λ (p : ℕ × Result ⊤ Refusal). p.1 in
    elim c.if-free-row.branch [
      | then-free-row w ↦ block_3 a.card a.row.now k l s _ _ c.store_row.ensures w.if-free-row.true _ (ap outcome w.taken-is) (ap taken w.taken-is)
      | else-free-row w ↦ block_0 a.card a.row.now k l s _ _ c.store_row.ensures w.if-free-row.false _ (ap outcome w.taken-is) (ap taken w.taken-is)
    ]

pub returns-then-not-is_lawful : goal.returns-then-not-is_lawful
returns-then-not-is_lawful c = block_18 _ _ (sym c.is_lawful.ensures ∙ c.if-not-is_lawful.true)
