-- `hash::ending::put_last_blocks`: the waiting bytes, the mark, zeros, the length. Assumes nothing.
use Rattle.std.proofs.Common.{ℕ, ◌+◌, ◌-◌, List, ◌∷◌, ◌++◌, length, replicate, refl, ap, ◌∙◌, length-set}
use lib.Seq.{paste}
use Rattle.octets.specs.Number.Laws.{bytes_length}
use Rattle.hash.proofs.LastBlocks.{last_is}
use Rattle.hash.proofs.ending.put_last_blocks.Goals as goal

pub returns : goal.returns
returns c =
    let end = c.args.end in
    let front = c.args.waiting.now in
    let field = c.eight_bytes in
    let begun = c.put_at in
    let size = c.put_at-2.auto.out ∙ length-set begun.new.out (length front) 128 ∙ begun.auto.out ∙ ap length c.requires.0 in
    let is =
    last_is front field.result begun.new.out c.put_at-2.new.out (length front) end refl
    (ap length field.ensures ∙ bytes_length 8 c.args.bits) c.requires.1 c.requires.2
    (begun.ensures ∙ ap (λ (l : List ℕ). paste l 0 front (length front)) c.requires.0) c.put_at-2.ensures
    in
    record {
      last_len = size;
      last_after = is ∙ ap (λ (r : List ℕ). front ++ (128 ∷ replicate (end - (length front + 9)) 0 ++ r)) field.ensures;
    }
