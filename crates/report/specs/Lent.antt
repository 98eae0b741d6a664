-- Believed: the columns of sites as the code is lent them. Assumes nothing.
use Rattle.report.specs.Writing.{Columns, columns}
use Rattle.report.specs.declared.columns.Columns as lent

abbrev pub columns_in : lent.Columns → Columns
columns_in c = columns c.labels.now c.lengths.now c.live.now c.blocks.now
