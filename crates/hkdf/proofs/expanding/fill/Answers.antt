-- `hkdf::expanding::fill`: the output filled block after block. Assumes nothing.
use mathlib.Core.Path.{◌≡◌, sym, ap, ◌∙◌}
use native.Mathlib.Omega.{arith}
use lib.ListN.{length, length-take, length-drop}
use Rattle.std.specs.Prelude.{ℕ, ◌*◌, ◌<◌, Ok}
use Rattle.std.specs.Int.{div_ceil}
use Rattle.algorithm.specs.Hashes.{hash_of}
use Rattle.algorithm.specs.Hashes.Laws.{digest_most, digest_positive}
use Rattle.hmac.specs.Keyed.{fresh_keyed}
use Rattle.hkdf.proofs.Stretches.{told}
use Rattle.hkdf.proofs.Filling.{none_filled, started, filled, full, room, last_is, begins_before, reach_end, few}
use Rattle.hkdf.proofs.expanding.fill.Goals as goal
use Rattle.hkdf.proofs.expanding.fill.Goals.{After-start}

-- the start under the key is accepted
accepted : (c : After-start) → c.start.result ≡ Ok (fresh_keyed (hash_of c.args.hash_number) c.args.prk.now c.args.size)
accepted c =
    started c.args.hash_number c.args.prk.now c.requires.known c.requires.key c.requires.whole c.start.result c.start.ensures

pub unwrap-keyed-requires : goal.unwrap-keyed-requires
unwrap-keyed-requires c = rw (accepted (goal.at.unwrap-keyed-requires c).After-start)

pub loop-i-init : goal.loop-i-init
loop-i-init c = sym (none_filled (hash_of c.args.hash_number) c.args.prk.now c.args.info.now c.args.out.now)

pub stretch-block-requires : goal.stretch-block-requires
stretch-block-requires c =
    let n = c.args.hash_number in
    let made = told (accepted (goal.at.stretch-block-requires c).After-start) c.unwrap-keyed.ensures in
    room (hash_of n) c.args.prk.now c.args.info.now c.requires.whole made _ (simp (length-take, length-drop) (omega (arith, digest_most (hash_of n)))) (omega arith)

pub loop-i-preserved : goal.loop-i-preserved
loop-i-preserved c =
    let n = c.args.hash_number in
    let h = hash_of n in
    let prk = c.args.prk.now in
    let info = c.args.info.now in
    let out = c.args.out.now in
    let made = told (accepted (goal.at.loop-i-preserved c).After-start) c.unwrap-keyed.ensures in
    let within = begins_before (length out) c.args.size (omega (arith, digest_positive h)) c.loop-i.i (omega arith) in
    let front = c.split_at_mut-done.ensures.front in
    let last = last_is h prk info c.requires.whole made out c.loop-i.i within c.loop-i.invariant front c.saturating_sub.ensures in
    filled h prk info c.requires.whole made out c.loop-i.i within c.loop-i.invariant front last c.stretch-block.ensures c.split_at_mut-done.ensures.back c.copy_prefix.ensures

pub returns : goal.returns
returns c =
    let n = c.args.hash_number in
    let h = hash_of n in
    let prk = c.args.prk.now in
    let info = c.args.info.now in
    let out = c.args.out.now in
    let some : 0 < c.args.size = omega (arith, digest_positive h) in
    let end : c.loop-i.i ≡ div_ceil (length out) c.args.size = omega arith in
    c.loop-i.invariant
    ∙ full h prk info out c.requires.whole c.loop-i.i
    (omega (arith, end, few (length out) c.args.size some (omega arith)))
    (omega (arith, ap (λ (i : ℕ). i * c.args.size) end, reach_end (length out) c.args.size some))
