-- `report::reading::read`: by what the checks say. Assumes nothing.
use Rattle.std.proofs.Common.{sym, ap, ◌∙◌}
use Rattle.report.specs.Calls.Laws.{read_refused, read_passes}
use Rattle.report.specs.Inside.{refused_reading, head_reading}
use Rattle.report.proofs.Checked.{number, refuses, read}
use Rattle.algorithm.specs.Answers.Laws.{passed_on}
use Rattle.report.proofs.reading.read.Goals as goal

pub returns-in_err-checked : goal.returns-in_err-checked
returns-in_err-checked c =
    let s = c.args.report.now in
    let f = c.in_err-checked.field-0.0 in
    let e = c.in_err-checked.ensures in
    rw (passed_on c.from_residual.ensures.1) (ap refused_reading (number s f e) ∙ sym (read_refused s (refuses s f e)))

pub returns : goal.returns
returns c =
    let s = c.args.report.now in
    let p = read s c.in_ok-checked.checked c.in_ok-checked.ensures in
    c.fields.ensures ∙ ap (head_reading s) p.live ∙ sym (read_passes s p.passes)
