-- `hmac::starting::start`: by what the number names, the key's length, and the tag's. Assumes nothing.
use Rattle.std.proofs.Common.{refl, sym, ap, ◌∙◌, arith}
use Rattle.algorithm.specs.declared.hashes.Hash.{Hash}
use Rattle.algorithm.specs.Calls.Laws.{which_unknown, which_is}
use Rattle.algorithm.specs.Hashes.{allowed}
use Rattle.algorithm.specs.Refusals.{done}
use Rattle.hmac.specs.Keyed.{fresh_keyed}
use Rattle.hmac.specs.Calls.{started}
use Rattle.hmac.specs.Calls.Laws.{start_unknown, start_too_long, start_not_allowed, start_accepted}
use Rattle.algorithm.specs.Answers.Laws.{passed_on}
use Rattle.hmac.proofs.starting.start.Goals as goal

pub returns-in_err-hash : goal.returns-in_err-hash
returns-in_err-hash c =
    let n = c.args.hash_number in
    let unknown = which_unknown n c.in_err-hash.ensures _ refl in
    rw (passed_on c.from_residual.ensures.1, unknown.1)
    (sym (start_unknown n c.args.key.now c.args.tag_length unknown.0))

pub returns-then-key-gt-MOST_BYTES : goal.returns-then-key-gt-MOST_BYTES
returns-then-key-gt-MOST_BYTES c =
    let n = c.args.hash_number in
    sym (start_too_long n c.args.key.now c.args.tag_length (which_is n c.in_ok-hash.ensures _ refl).0 (omega arith))

pub returns-then-not-length_allowed : goal.returns-then-not-length_allowed
returns-then-not-length_allowed c =
    let n = c.args.hash_number in
    let t = c.args.tag_length in
    let known = which_is n c.in_ok-hash.ensures _ refl in
    sym (start_not_allowed n c.args.key.now t known.0 (omega arith)
    (ap (λ (h : Hash). allowed h t) known.1 ∙ sym c.if-not-length_allowed.ensures))

pub returns : goal.returns
returns c =
    let n = c.args.hash_number in
    let key = c.args.key.now in
    let t = c.args.tag_length in
    let known = which_is n c.in_ok-hash.ensures _ refl in
    ap (started done) (c.keyed_by.ensures ∙ ap (λ (h : Hash). fresh_keyed h key t) (sym known.1))
    ∙ sym (start_accepted n key t known.0 (omega arith) (ap (λ (h : Hash). allowed h t) known.1 ∙ sym c.if-not-length_allowed.ensures))
