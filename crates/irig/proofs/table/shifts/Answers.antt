-- `table::shifts` meets its contract: both tables are computed and are the same.
-- Assumes nothing.
use mathlib.Core.Path.{refl}
use Rattle.irig.specs.Table.{field_number, table, field_shift, shift_of}
use Rattle.irig.proofs.table.shifts.Goals as goal

pub returns : goal.returns
unfolding table shift_of field_shift field_number
returns c = refl
