-- `hmac::form::mask`: one byte a turn. Assumes nothing.
use Rattle.std.proofs.Common.{arith, bit_xor, get_or}
use Rattle.std.proofs.lemmas.List.{get_or_default}
use Rattle.std.proofs.lemmas.List.Edits.{map_over_more}
use Rattle.hmac.proofs.form.mask.Goals as goal

pub loop-byte-preserved : goal.loop-byte-preserved
loop-byte-preserved c =
    let l = c.loop-byte in
    let y = get_or l.byte-items l.byte-index 0 in
    map_over_more (λ b. bit_xor b c.args.x) c.args.form l.byte-items l.byte-index y (omega arith) l.invariant (get_or_default l.byte-items l.byte-index 0 y (omega arith))
