-- `hkdf::extracting::extract`: by what the number names, and whether the salt is empty. Assumes nothing.
use mathlib.Core.Path.{◌≡◌, refl, sym, ap, ◌∙◌}
use lib.ListN.{length}
use Rattle.std.proofs.lemmas.Bool.{eqb-true, eqb-false}
use Rattle.algorithm.specs.Answers.Laws.{passed_on}
use Rattle.algorithm.specs.Calls.Laws.{which_unknown}
use Rattle.algorithm.specs.Hashes.{hash_of}
use Rattle.hkdf.specs.Hkdf.{salt_of}
use Rattle.hkdf.specs.Hkdf.Laws.{salt_given}
use Rattle.hkdf.specs.Calls.Laws.{extract_unknown}
use Rattle.hkdf.proofs.Named.{sized}
use Rattle.hkdf.proofs.Extracts.{zeros_key, extracts}
use Rattle.hkdf.proofs.extracting.extract.Goals as goal
use Rattle.hkdf.proofs.extracting.extract.Goals.{then-is_empty, else-is_empty}

pub returns-in_err-hash : goal.returns-in_err-hash
returns-in_err-hash c =
    let unknown = which_unknown c.args.hash_number c.in_err-hash.ensures _ refl in
    rw (passed_on c.from_residual.ensures.1, unknown.1)
    (sym (extract_unknown c.args.hash_number c.args.salt.now c.args.ikm.now c.args.out.now unknown.0))

pub returns : goal.returns
returns c =
    let n = c.args.hash_number in
    let salt = c.args.salt.now in
    let named = sized c.args.hash_number c.in_ok-hash.hash c.in_ok-hash.ensures c.digest_size-size.ensures in
    let key : c.if-is_empty.key.now ≡ salt_of (hash_of n) salt =
    elim c.if-is_empty.branch [
      | then-is_empty w ↦ ap (λ k. k.now) w.key-is ∙ zeros_key (hash_of n) salt named.1 (eqb-true (length salt) 0 (sym w.if-is_empty.ensures))
      | else-is_empty w ↦ ap (λ k. k.now) w.key-is ∙ sym (salt_given (hash_of n) salt (eqb-false (length salt) 0 (sym w.if-is_empty.ensures)))
    ] in
    extracts n salt c.args.ikm.now c.args.out.now named.0 key named.1 c.tag_message.ensures
