-- What a call takes stays within its row.
use mathlib.Core.Path.{◌≡◌, subst}
use Rattle.std.specs.Prelude.{ℕ, List, ◌≤◌, length, Result, Ok}
use Rattle.wire.specs.Numbers.{given_or}
use Rattle.wire.specs.declared.numbers.Answer.{Answer}
use Rattle.wire.specs.declared.numbers.Refusal.{Refusal}
use Rattle.irig.specs.declared.stream.RowTaken.{RowTaken}
use Rattle.irig.specs.declared.stream.Stream.{Stream}
use Rattle.irig.specs.Streams.{take_row, none_taken}
use Rattle.irig.proofs.Finding.{taken_within}

pub given_within : (s : Stream) (row : List ℕ) (a : Answer Stream RowTaken) (t : RowTaken) → a.outcome ≡ Ok t → a ≡ take_row s row → t.taken ≤ length row
given_within s row a t o e = subst (λ (r : Result RowTaken Refusal). (given_or none_taken r).taken ≤ length row) o (taken_within s row a e)
