-- `hash::step::word_at` reads a word where the definition does. Assumes nothing.
use Rattle.std.proofs.Common.{ℕ, ◌*◌, take, drop, ◌∙◌, ap₂}
use Rattle.octets.specs.Number.{number}
use Rattle.hash.specs.Sha2.{word}
use Rattle.hash.proofs.Sizes.{word_within}
use Rattle.hash.proofs.step.word_at.Goals as goal

pub read-requires : goal.read-requires
read-requires g c = word_within g.met.W.Word.sizes c.BYTES.ensures c.requires.0 c.requires.1

pub returns : goal.returns
unfolding word
returns g c =
    let size = g.met.W.Word.sizes.bytes_is in
    c.read.ensures
    ∙ ap₂ (λ (m n : ℕ). number (take m (drop (n * c.args.t) c.args.b.now))) size (c.BYTES.ensures ∙ size)
