-- `hmac::tags::full`: the outer hash over the inner digest. Assumes nothing.
use Rattle.std.specs.Result.{is_ok}
use Rattle.std.proofs.Common.{◌≡◌, true, take, sym, ap, ◌∙◌, arith}
use Rattle.algorithm.specs.Hashes.Laws.{block_most, digest_most}
use Rattle.hash.specs.State.{after_of, end_of}
use Rattle.hash.specs.State.Laws.{end_length, after_held}
use Rattle.hash.specs.declared.state.State.{State}
use Rattle.octets.specs.Zeros.{zeros_to}
use Rattle.octets.specs.Zeros.Laws.{take_whole}
use Rattle.hmac.specs.Keyed.{inner_of, outer_of}
use Rattle.hmac.specs.Keyed.Laws.{sound_inner, outer_held}
use Rattle.hmac.specs.Keyed.Open.{full_is}
use Rattle.hmac.proofs.Starts.{takes}
use Rattle.hmac.proofs.Typed.{typed_held}
use Rattle.hmac.proofs.tags.full.Goals as goal
use Rattle.hmac.proofs.tags.full.Goals.{After-update}

pub ended-digest-requires : goal.ended-digest-requires
ended-digest-requires c = rw c.inner.ensures (sound_inner c.args.keyed c.requires)

-- the outer hash takes the inner digest
last_is : (c : After-update)
    → (is_ok c.update.result ≡ true) × (c.update.new.state ≡ after_of (outer_of c.args.keyed) (end_of (inner_of c.args.keyed)))
last_is c =
    let k = c.args.keyed in
    let h = typed_held k (omega arith) (omega arith) (omega arith) c.requires in
    let size = c.digest_size-size in
    let n = end_length (inner_of k) h.eight in
    takes (outer_of k) (end_of (inner_of k)) (outer_held k h).sound (omega (arith, n, digest_most k.hash, block_most k.hash)) c.update.result c.outer-outer.ensures
    (ap (take size.result) (c.ended-digest.ensures ∙ ap (λ (s : State). zeros_to 64 (end_of s)) c.inner.ensures)
    ∙ take_whole 64 size.result (end_of (inner_of k)) (n ∙ sym size.ensures))
    c.update.ensures

pub unwrap-requires : goal.unwrap-requires
unwrap-requires c = (last_is c).0

pub ended-requires : goal.ended-requires
ended-requires c =
    let k = c.args.keyed in
    let h = typed_held k (omega arith) (omega arith) (omega arith) c.requires in
    let n = end_length (inner_of k) h.eight in
    rw (last_is (goal.at.ended-requires c).After-update).1
    (after_held (outer_of k) (end_of (inner_of k)) (outer_held k h) (omega (arith, n, digest_most k.hash, block_most k.hash))).sound

pub returns : goal.returns
returns c =
    let k = c.args.keyed in
    c.ended.ensures
    ∙ ap (λ (x : State). zeros_to 64 (end_of x)) (last_is (goal.at.returns c).After-update).1
    ∙ ap (zeros_to 64) (sym (full_is k))
