-- `report::walk::walk_sites` meets its contract. The loop's invariant says how far the walk is. Assumes nothing.
use Rattle.std.proofs.Common.{refl}
use Rattle.std.proofs.lemmas.Result.{err_from_is_err_and}
use Rattle.algorithm.specs.Answers.Laws.{refusal_not_done}
use Rattle.report.proofs.Walking.{far_start, far_refused, far_more, far_end, refused_walk}
use Rattle.report.proofs.walk.walk_sites.Goals as goal

pub loop-init : goal.loop-init
loop-init c = far_start c.args.body.now c.args.sites c.requires

pub pass_site-requires : goal.pass_site-requires
pass_site-requires c = c.loop.invariant.inside

pub returns-in_err-site : goal.returns-in_err-site
returns-in_err-site c =
    let l = c.loop in
    let e = c.in_err-site.field-0.0 in
    let p = err_from_is_err_and c.from_residual.result c.from_residual.ensures.1 in
    rw (p.1, p.2) (refused_walk c.args.body.now c.args.sites e
    (far_refused c.args.body.now c.args.sites l.at l.sum l.counter l.invariant _ c.in_err-site.ensures c.loop-test.true (refusal_not_done e)))

pub loop-preserved : goal.loop-preserved
loop-preserved c =
    let l = c.loop in
    rw c.plus-sum.ensures
    (far_more c.args.body.now c.args.sites l.at l.sum l.counter l.invariant _ c.in_ok-site.ensures c.loop-test.true refl)

pub returns : goal.returns
returns c =
    let l = c.loop in
    far_end c.args.body.now c.args.sites l.at l.sum l.counter l.invariant c.loop-test.false _ c.end.ensures
