-- `report::walk::pass_site`: each way that a site can end is the definition's at that place. Assumes nothing.
use Rattle.std.proofs.Common.{◌+◌, ◌-◌, ◌≤◌, length, get_or, refl, arith}
use Rattle.algorithm.specs.declared.refusals.Refusal.TheVariants.{LabelLengthOutOfRange, SitesMisplaced}
use Rattle.report.proofs.Walking.{refused_step, none_left, no_label, long_label, no_room, fits}
use Rattle.report.proofs.walk.pass_site.Goals.{then-size-lt1-via-then-size-lt1, then-size-lt1-via-else-size-lt1+then-size-gt-LONGEST_LABEL}
use Rattle.report.proofs.walk.pass_site.Goals as goal

pub returns-then-body-at : goal.returns-then-body-at
returns-then-body-at c = refused_step c.args.body.now c.args.at SitesMisplaced (none_left c.args.body.now c.args.at c.if-body-at.true)

pub returns-then-size-lt1 : goal.returns-then-size-lt1
returns-then-size-lt1 c =
    let b = c.args.body.now in
    let h = c.if-body-at.false in
    refused_step b c.args.at LabelLengthOutOfRange
    (elim c.then-size-lt1.branch [
      | then-size-lt1-via-then-size-lt1 w ↦ no_label b c.args.at h w.if-size-lt1.true
      | then-size-lt1-via-else-size-lt1+then-size-gt-LONGEST_LABEL w ↦ long_label b c.args.at h w.if-size-lt1.false w.if-size-gt-LONGEST_LABEL.true
    ])

pub returns-then-body-at-2 : goal.returns-then-body-at-2
returns-then-body-at-2 c =
    refused_step c.args.body.now c.args.at SitesMisplaced
    (no_room c.args.body.now c.args.at c.if-body-at.false c.if-size-lt1.false c.if-size-gt-LONGEST_LABEL.false c.if-body-at-2.true)

pub returns : goal.returns
returns c =
    let b = c.args.body.now in
    let l : get_or b c.args.at 0 + 13 ≤ length b - c.args.at = omega arith in
    record {
      refuses = λ z n. absurd (z refl);
      fits = λ e. fits b c.args.at c.if-body-at.false c.if-size-lt1.false c.if-size-gt-LONGEST_LABEL.false l;
      next = λ e. refl;
      live = λ e. c.u64_at.ensures;
    }
