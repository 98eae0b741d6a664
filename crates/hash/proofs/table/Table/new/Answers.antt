-- `hash::table::Table::new` makes the definition's table. Assumes nothing.
use Rattle.std.proofs.Common.{refl}
use Rattle.hash.specs.Table.{k64}
use Rattle.hash.proofs.table.Table.new.Goals as goal

pub invariant_of-result : goal.invariant_of-result
unfolding k64
invariant_of-result c = record { is = refl }
