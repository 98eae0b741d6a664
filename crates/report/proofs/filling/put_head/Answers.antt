-- `report::filling::put_head`: one number after the other. Assumes nothing.
use Rattle.std.proofs.Common.{◌∙◌, append_assoc, arith}
use Rattle.report.specs.Writing.Inside.{head_bytes}
use Rattle.report.proofs.Parts.{no_parts, number_part}
use Rattle.report.proofs.filling.put_head.Goals as goal

pub returns : goal.returns
unfolding head_bytes
returns c =
    let count = number_part (no_parts c.args.out.now) 4 _ (omega arith) c.put_number.ensures in
    let version = number_part count 1 _ (omega arith) c.put_number-2.ensures in
    let hash = number_part version 1 _ (omega arith) c.put_number-3.ensures in
    let tenant = number_part hash 4 _ (omega arith) c.put_number-4.ensures in
    let machine = number_part tenant 8 _ (omega arith) c.put_number-5.ensures in
    let report = number_part machine 8 _ (omega arith) c.put_number-6.ensures in
    let sent = number_part report 8 _ (omega arith) c.put_number-7.ensures in
    let attempt = number_part sent 1 _ (omega arith) c.put_number-8.ensures in
    let memory = number_part attempt 8 _ (omega arith) c.put_number-9.ensures in
    let sites = number_part memory 2 _ (omega arith) c.put_number-10.ensures in
    sites.is ∙ simp append_assoc
