-- `hmac::ending::ended`: over zeros. Assumes nothing.
use Rattle.std.proofs.Common.{◌≡◌, length, ◌∙◌, arith}
use Rattle.hash.specs.State.{end_of}
use Rattle.hash.specs.State.Laws.{end_length}
use Rattle.octets.specs.Zeros.Laws.{over_zeros}
use Rattle.algorithm.specs.Hashes.Laws.{digest_most}
use Rattle.hmac.proofs.ending.ended.Goals as goal

pub returns : goal.returns
returns c =
    let s = c.args.state in
    let eight : length s.words ≡ 8 = omega arith in
    c.end_into.ensures ∙ over_zeros 64 (end_of s) (omega (arith, end_length s eight, digest_most s.hash))
