-- `report::filling::put_site`: one part after the other. Assumes nothing.
use Rattle.std.proofs.Common.{◌∙◌, append_assoc, arith}
use Rattle.report.specs.Layout.{site_bytes}
use Rattle.report.proofs.Parts.{no_parts, number_part, list_part}
use Rattle.report.proofs.filling.put_site.Goals as goal

pub returns : goal.returns
unfolding site_bytes
returns c =
    let size = number_part (no_parts c.args.out.now) 1 _ (omega arith) c.put_number.ensures in
    let label = list_part size c.args.label.now c.copy_prefix.new.out (omega arith) c.copy_prefix.ensures in
    let live = number_part label 8 _ (omega arith) c.put_number-2.ensures in
    let blocks = number_part live 4 _ (omega arith) c.put_number-3.ensures in
    blocks.is ∙ simp append_assoc
