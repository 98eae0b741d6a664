-- `hmac::form::block_form`: the key as it is, or its digest. Assumes nothing.
use Rattle.std.proofs.Common.{sym, ap, ◌∙◌, arith}
use Rattle.algorithm.specs.Hashes.{block_of}
use Rattle.algorithm.specs.Hashes.Laws.{block_most, digest_fits_block}
use Rattle.hash.specs.Digest.{digest_of}
use Rattle.hash.specs.Digest.Laws.{digest_length}
use Rattle.octets.specs.Zeros.{zeros_to}
use Rattle.hmac.specs.Form.Laws.{form_short, form_long}
use Rattle.octets.specs.Zeros.Laws.{zeros_twice}
use Rattle.hmac.proofs.form.block_form.Goals as goal

pub returns-then-key-block_size : goal.returns-then-key-block_size
returns-then-key-block_size c =
    let h = c.args.hash in
    let key = c.args.key.now in
    c.copied.ensures
    ∙ sym (ap (zeros_to 128) (form_short h key (omega arith)) ∙ zeros_twice 128 (block_of h) key (omega arith) (block_most h))

pub returns-else-key-block_size : goal.returns-else-key-block_size
returns-else-key-block_size c =
    let h = c.args.hash in
    let key = c.args.key.now in
    c.digested.ensures
    ∙ sym (ap (zeros_to 128) (form_long h key (omega arith)) ∙ zeros_twice 128 (block_of h) (digest_of h key) (omega (arith, digest_length h key, digest_fits_block h)) (block_most h))
