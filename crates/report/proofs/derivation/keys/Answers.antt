-- `report::derivation::keys`: its checks in their order, then both keys. Assumes nothing.
use Rattle.std.proofs.Common.{sym, ap, ◌∙◌, arith}
use Rattle.algorithm.specs.declared.hashes.Hash.{Hash}
use Rattle.algorithm.specs.declared.refusals.Refusal.{Refusal}
use Rattle.algorithm.specs.Answers.{number_of}
use Rattle.algorithm.specs.Hashes.{size_of}
use Rattle.algorithm.specs.Refusals.{done}
use Rattle.algorithm.specs.Checks.{written}
use Rattle.report.specs.Keys.{keys_of}
use Rattle.report.specs.Calls.Laws.{named_unknown, named_is, keys_unknown, keys_too_long, keys_wrong_size, keys_too_short, keys_accepted}
use Rattle.algorithm.specs.Answers.Laws.{passed_on}
use Rattle.report.proofs.derivation.keys.Goals as goal

pub returns-in_err-hash : goal.returns-in_err-hash
returns-in_err-hash c =
    let n = c.args.hash_number in
    let out = c.args.out.now in
    let unknown = named_unknown n c.in_err-hash.field-0.0 (sym c.in_err-hash.ensures) in
    rw (passed_on c.from_residual.ensures.1)
    (ap (λ (f : Refusal). written (number_of f) out) unknown.1 ∙ sym (keys_unknown n c.args.prk.now c.args.tenant c.args.machine out unknown.0))

pub returns-then-prk-gt-MOST_BYTES : goal.returns-then-prk-gt-MOST_BYTES
returns-then-prk-gt-MOST_BYTES c =
    let n = c.args.hash_number in
    let known = named_is n c.in_ok-hash.hash (sym c.in_ok-hash.ensures) in
    sym (keys_too_long n c.args.prk.now c.args.tenant c.args.machine c.args.out.now known.0 (omega arith))

pub returns-then-out-size : goal.returns-then-out-size
returns-then-out-size c =
    let n = c.args.hash_number in
    let known = named_is n c.in_ok-hash.hash (sym c.in_ok-hash.ensures) in
    let size = c.digest_size-size.ensures ∙ ap size_of (sym known.1) in
    sym (keys_wrong_size n c.args.prk.now c.args.tenant c.args.machine c.args.out.now known.0 (omega arith) (omega arith))

pub returns-then-prk-size : goal.returns-then-prk-size
returns-then-prk-size c =
    let n = c.args.hash_number in
    let known = named_is n c.in_ok-hash.hash (sym c.in_ok-hash.ensures) in
    let size = c.digest_size-size.ensures ∙ ap size_of (sym known.1) in
    sym (keys_too_short n c.args.prk.now c.args.tenant c.args.machine c.args.out.now known.0 (omega arith) (omega arith) (omega arith))

pub returns : goal.returns
returns c =
    let n = c.args.hash_number in
    let prk = c.args.prk.now in
    let tenant = c.args.tenant in
    let machine = c.args.machine in
    let known = named_is n c.in_ok-hash.hash (sym c.in_ok-hash.ensures) in
    let size = c.digest_size-size.ensures ∙ ap size_of (sym known.1) in
    ap (written done) (c.derive.ensures ∙ ap (λ (x : Hash). keys_of x prk tenant machine) (sym known.1))
    ∙ sym (keys_accepted n prk tenant machine c.args.out.now known.0 (omega arith) (omega arith) (omega arith))
