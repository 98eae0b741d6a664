-- `hkdf::expanding::expand`: its checks in their order, then the output that is filled. Assumes nothing.
use mathlib.Core.Path.{refl, sym, ap, ◌∙◌}
use native.Mathlib.Omega.{arith}
use Rattle.algorithm.specs.Answers.Laws.{passed_on}
use Rattle.algorithm.specs.Calls.Laws.{which_unknown}
use Rattle.algorithm.specs.Checks.{written}
use Rattle.algorithm.specs.Refusals.{done}
use Rattle.hkdf.specs.Calls.Laws.{expand_unknown, expand_prk_too_long, expand_prk_too_short, expand_info_too_long, expand_output_too_long, expand_accepted}
use Rattle.hkdf.proofs.Named.{sized}
use Rattle.hkdf.proofs.expanding.expand.Goals as goal

pub returns-in_err-hash : goal.returns-in_err-hash
returns-in_err-hash c =
    let unknown = which_unknown c.args.hash_number c.in_err-hash.ensures _ refl in
    rw (passed_on c.from_residual.ensures.1, unknown.1)
    (sym (expand_unknown c.args.hash_number c.args.prk.now c.args.info.now c.args.out.now unknown.0))

pub returns-then-prk-gt-MOST_BYTES : goal.returns-then-prk-gt-MOST_BYTES
returns-then-prk-gt-MOST_BYTES c =
    let named = sized c.args.hash_number c.in_ok-hash.hash c.in_ok-hash.ensures c.digest_size-size.ensures in
    sym (expand_prk_too_long _ _ _ _ named.0 (omega arith))

pub returns-then-prk-size : goal.returns-then-prk-size
returns-then-prk-size c =
    let named = sized c.args.hash_number c.in_ok-hash.hash c.in_ok-hash.ensures c.digest_size-size.ensures in
    sym (expand_prk_too_short _ _ _ _ named.0 (omega arith) (omega arith))

pub returns-then-info-gt-MOST_INFO : goal.returns-then-info-gt-MOST_INFO
returns-then-info-gt-MOST_INFO c =
    let named = sized c.args.hash_number c.in_ok-hash.hash c.in_ok-hash.ensures c.digest_size-size.ensures in
    sym (expand_info_too_long _ _ _ _ named.0 (omega arith) (omega arith) (omega arith))

pub returns-then-size-out : goal.returns-then-size-out
returns-then-size-out c =
    let named = sized c.args.hash_number c.in_ok-hash.hash c.in_ok-hash.ensures c.digest_size-size.ensures in
    sym (expand_output_too_long _ _ _ _ named.0 (omega arith) (omega arith) (omega arith) (omega arith))

pub fill-requires : goal.fill-requires
fill-requires c =
    let named = sized c.args.hash_number c.in_ok-hash.hash c.in_ok-hash.ensures c.digest_size-size.ensures in
    record { known = named.0; whole = named.1; key = omega arith; short = omega arith; room = omega arith }

pub returns : goal.returns
returns c =
    let named = sized c.args.hash_number c.in_ok-hash.hash c.in_ok-hash.ensures c.digest_size-size.ensures in
    ap (written done) c.fill.ensures
    ∙ sym (expand_accepted _ _ _ _ named.0 (omega arith) (omega arith) (omega arith) (omega arith))
