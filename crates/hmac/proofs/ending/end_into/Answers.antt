-- `hmac::ending::end_into`: the hash writes into the part of its size. Assumes nothing.
use Rattle.std.proofs.Common.{ℕ, List, ◌++◌, take, drop, sym, ap, ◌∙◌, arith, length-take-le, Ok}
use Rattle.octets.specs.Copy.Laws.{over_short}
use Rattle.algorithm.specs.Answers.Laws.{number_unique}
use Rattle.hash.specs.State.{end_of}
use Rattle.hash.specs.State.Laws.{end_length}
use Rattle.hash.proofs.Proved.Calls.Laws.{finish_accepted}
use Rattle.hmac.proofs.ending.end_into.Goals as goal

pub unwrap-requires : goal.unwrap-requires
unwrap-requires c =
    let out = c.args.out.now in
    let size = c.digest_size-size in
    let full = length-take-le size.result out (omega (arith, size.ensures, c.requires.room)) ∙ size.ensures in
    let e = ap (λ (p : ℕ × List ℕ). p.0) (c.finish.ensures ∙ finish_accepted c.args.state (take size.result out) c.requires.sound full) in
    rw (number_unique c.finish.result (Ok tt) e)

pub returns : goal.returns
returns c =
    let s = c.args.state in
    let out = c.args.out.now in
    let size = c.digest_size-size in
    let full = length-take-le size.result out (omega (arith, size.ensures, c.requires.room)) ∙ size.ensures in
    let n = end_length s (omega arith) ∙ sym size.ensures in
    let e = ap (λ (p : ℕ × List ℕ). p.1) (c.finish.ensures ∙ finish_accepted s (take size.result out) c.requires.sound full) in
    (λ i. e i ++ drop (sym n i) out) ∙ sym (over_short (end_of s) out (omega arith))
