-- `hash::starting::start`: by what the number names. Assumes nothing.
use Rattle.std.proofs.Common.{sym}
use Rattle.std.proofs.lemmas.Result.{err_from_is_err_and}
use Rattle.algorithm.specs.Calls.Laws.{which_unknown, which_is}
use Rattle.hash.proofs.Proved.Calls.Laws.{start_accepted, start_refused}
use Rattle.hash.proofs.starting.start.Goals as goal

pub returns-in_err-hash : goal.returns-in_err-hash
returns-in_err-hash c =
    let n = c.args.hash_number in
    let p = err_from_is_err_and c.from_residual.result c.from_residual.ensures.1 in
    let u = which_unknown n c.try_from.ensures _ c.in_err-hash.was in
    rw (p.1, p.2, u.1) (sym (start_refused n u.0))

pub returns : goal.returns
returns c =
    let n = c.args.hash_number in
    let known = which_is n c.try_from.ensures _ c.in_ok-hash.was in
    rw (c.fresh.ensures, ← known.1) (sym (start_accepted n known.0))
