-- `hmac::form::digested`: a start that took the key, and its end. Assumes nothing.
use Rattle.std.proofs.Common.{◌≡◌, ap, ◌∙◌, arith}
use Rattle.hash.specs.Digest.{digest_of}
use Rattle.hash.specs.State.{fresh_of, after_of, end_of}
use Rattle.hash.specs.State.Laws.{end_fresh}
use Rattle.hash.specs.declared.state.State.{State}
use Rattle.octets.specs.Zeros.{zeros_to}
use Rattle.octets.specs.Zeros.Laws.{zeros_twice}
use Rattle.hmac.proofs.Starts.{took, took_sound, digest_room}
use Rattle.hmac.proofs.form.digested.Goals as goal
use Rattle.hmac.proofs.form.digested.Goals.{After-update}

pub unwrap-requires : goal.unwrap-requires
unwrap-requires c = (took c.args.hash c.args.key.now c.requires c.update.result c.fresh-state.ensures c.update.ensures).0

taken_is : (c : After-update) → c.update.new.state ≡ after_of (fresh_of c.args.hash) c.args.key.now
taken_is c = (took c.args.hash c.args.key.now c.requires c.update.result c.fresh-state.ensures c.update.ensures).1

pub ended-digest-requires : goal.ended-digest-requires
ended-digest-requires c = rw (taken_is (goal.at.ended-digest-requires c).After-update) (took_sound c.args.hash c.args.key.now c.requires)

pub returns : goal.returns
returns c =
    let key = c.args.key.now in
    let s = taken_is (goal.at.returns c).After-update in
    c.copied.ensures
    ∙ ap (zeros_to 128) (c.ended-digest.ensures ∙ ap (λ (x : State). zeros_to 64 (end_of x)) s ∙ ap (zeros_to 64) (end_fresh c.args.hash key))
    ∙ zeros_twice 128 64 (digest_of c.args.hash key) (digest_room c.args.hash key) (omega arith)
