-- `hash::pieces::filled`: the block that the piece tops up, and what comes after it. Assumes nothing.
use Rattle.std.proofs.Common.{◌≡◌, ℕ, ◌+◌, ◌≤◌, ◌++◌, length, take, sym, ap, ◌∙◌, arith, length-take-le}
use Rattle.octets.specs.Parts.{take_pasted}
use Rattle.algorithm.specs.Hashes.{block_of}
use Rattle.algorithm.specs.Hashes.Laws.{block_most}
use Rattle.hash.specs.Blocks.Laws.{run_block}
use Rattle.hash.specs.State.Open.{filled_after}
use Rattle.hash.proofs.pieces.filled.Goals as goal

pub onward-requires : goal.onward-requires
onward-requires c =
    let s = c.args.state.now in
    let block = c.put_at in
    let l = length-take-le (c.args.at + c.args.room) block.new.out (omega (arith, block_most s.hash, c.requires.fills, block.auto.out)) in
    (c.requires.words, run_block (block_of s.hash) (take (c.args.at + c.args.room) block.new.out) (l ∙ c.requires.fills))

pub returns : goal.returns
returns c =
    let s = c.args.state.now in
    let at = c.args.at in
    let room = c.args.room in
    let piece = c.args.piece.now in
    let put = c.put_at in
    let block = take (at + room) put.new.out in
    let l = length-take-le room piece c.requires.within in
    let fits : at + length (take room piece) ≤ length s.waiting = omega (arith, block_most s.hash, c.requires.fills) in
    let e : block ≡ take at s.waiting ++ take room piece =
    ap (λ (n : ℕ). take (at + n) put.new.out) (sym l)
    ∙ ap (take (at + length (take room piece))) put.ensures
    ∙ take_pasted s.waiting at (take room piece) fits
    in
    let n = length-take-le (at + room) put.new.out (omega (arith, put.auto.out)) in
    c.onward.ensures ∙ filled_after s at room piece block c.requires e (run_block (block_of s.hash) block (n ∙ c.requires.fills))
