-- `hmac::form::after_pad`: a start that took the masked form. Assumes nothing.
use Rattle.std.specs.Result.{is_ok}
use Rattle.std.proofs.Common.{◌≡◌, true, take, ◌∙◌, arith, length-take-le}
use Rattle.algorithm.specs.Hashes.Laws.{block_most}
use Rattle.hash.specs.State.{fresh_of, after_of}
use Rattle.hmac.proofs.Starts.{took}
use Rattle.hmac.proofs.form.after_pad.Goals as goal
use Rattle.hmac.proofs.form.after_pad.Goals.{After-update}

pad_taken : (c : After-update)
    → (is_ok c.update.result ≡ true)
    × (c.update.new.state ≡ after_of (fresh_of c.args.hash) (take c.block_size-size.result c.mask-pad.result))
pad_taken c =
    took c.args.hash _ (omega (arith, length-take-le c.block_size-size.result c.mask-pad.result, block_most c.args.hash)) c.update.result c.fresh-state.ensures c.update.ensures

pub unwrap-requires : goal.unwrap-requires
unwrap-requires c = (pad_taken c).0

pub returns : goal.returns
returns c =
    (pad_taken (goal.at.returns c).After-update).1
    ∙ (λ i. after_of (fresh_of c.args.hash) (take (c.block_size-size.ensures i) (c.mask-pad.ensures i)))
