-- `stream::only_zeros` meets its contract. Assumes nothing.
use Prim.Native.Nat.{ℕ}
use mathlib.Core.Path.{◌≡◌, ap, ◌∙◌}
use lib.Dec.{eqb}
use borrow.Author.Rules.{rules}
use Rattle.std.specs.Prelude.{sum_by}
use Rattle.irig.proofs.stream.Laws.{no_sum}
use Rattle.irig.proofs.stream.only_zeros.Goals as goal

pub returns : goal.returns
returns c =
    let q : c.sum.result ≡ sum_by (λ (e : ℕ). e) c.args.elements.now = search rules in
    ap (λ (n : ℕ). eqb n 0) q ∙ no_sum c.args.elements.now
