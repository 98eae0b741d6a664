-- `report::fingerprints::fingerprint`: reading, the key's checks, the output's, then the tag of both pieces. Assumes nothing.
use Rattle.std.proofs.Common.{◌≡◌, sym, ap, ◌∙◌, List, ◌++◌, ℕ, ◌-◌, length, take, drop, length-take, length-drop, length-take-le, arith}
use Rattle.std.proofs.Math.Seq.{slice}
use Rattle.octets.specs.Parts.{part_slice}
use Rattle.algorithm.specs.Answers.Laws.{refusal_not_done, passed_on}
use Rattle.algorithm.specs.Hashes.Laws.{block_most}
use Rattle.algorithm.specs.Refusals.{done}
use Rattle.algorithm.specs.Checks.{first_failing, written}
use Rattle.hmac.specs.Hmac.{tag_of}
use Rattle.report.specs.Reading.{tag_start, before_tag}
use Rattle.report.specs.Reading.Laws.{short}
use Rattle.report.specs.Fingerprint.{gap_start, gap_end, message_of, fingerprint_of}
use Rattle.report.specs.Calls.{key_checks}
use Rattle.report.specs.Calls.Laws.{key_fits, fingerprint_refused, fingerprint_key_lem, fingerprint_wrong_size, fingerprint_accepted}
use Rattle.report.specs.Inside.{TwoPieces}
use Rattle.report.specs.declared.checks.Checked.{Checked}
use Rattle.report.proofs.Checked.{Read, number, refuses, read, end_low, end_high}
use Rattle.report.proofs.fingerprints.fingerprint.Goals as goal

-- the two pieces of a report that passes, and the tag of both
module _ (s key : List ℕ) {r : Checked} (p : Read s r) where
  pieces : (at : ℕ) (out : List ℕ) → first_failing (key_checks key) ≡ done → length out ≡ 32
      → TwoPieces r.hash key (take (gap_start - 4) (drop 4 s)) (take (r.end - at) (drop at s)) out
  pieces at out d e =
      let low = end_low s p in
      let high = end_high s p in
      let few = short s p.passes in
      let before : length (before_tag s) ≡ r.end = length-take-le (tag_start s) s (omega arith) ∙ sym p.end in
      let first : length (take (gap_start - 4) (drop 4 s)) ≡ gap_start - 4 = length-take-le (gap_start - 4) (drop 4 s) (rw length-drop (omega arith)) in
      let second = length-take (r.end - at) (drop at s) in
      record {
        key_fits = key_fits key d;
        fits = omega (arith, block_most r.hash, second);
        size = e;
      }

  tagged : {o : List ℕ} → o ≡ tag_of r.hash key 32 (take (gap_start - 4) (drop 4 s) ++ take (r.end - gap_end) (drop gap_end s)) → o ≡ fingerprint_of s key
  unfolding message_of
  tagged e =
      e
      ∙ (λ j. tag_of (p.hash j) key 32 (part_slice 4 gap_start s j ++ (part_slice gap_end r.end s ∙ ap (λ (t : ℕ). slice gap_end t s) p.end) j))

pub returns-in_err-checked : goal.returns-in_err-checked
returns-in_err-checked c =
    let s = c.args.report.now in
    let out = c.args.out.now in
    let f = c.in_err-checked.field-0.0 in
    let e = c.in_err-checked.ensures in
    rw (passed_on c.from_residual.ensures.1)
    (ap (λ (n : ℕ). written n out) (number s f e) ∙ sym (fingerprint_refused s c.args.fingerprint_key.now out (refuses s f e)))

pub returns-in_err-check_key : goal.returns-in_err-check_key
returns-in_err-check_key c =
    let s = c.args.report.now in
    let out = c.args.out.now in
    let p = read s c.in_ok-checked.checked c.in_ok-checked.ensures in
    let f = c.in_err-check_key.field-0.0 in
    let e = c.in_err-check_key.ensures in
    rw (passed_on c.from_residual-in_err-check_key.ensures.1)
    (ap (λ (n : ℕ). written n out) e
    ∙ sym (fingerprint_key_lem s c.args.fingerprint_key.now out p.passes (λ d. refusal_not_done f (e ∙ d))))

pub returns-then-out-ne-FINGERPRINT : goal.returns-then-out-ne-FINGERPRINT
returns-then-out-ne-FINGERPRINT c =
    let s = c.args.report.now in
    let p = read s c.in_ok-checked.checked c.in_ok-checked.ensures in
    sym (fingerprint_wrong_size s c.args.fingerprint_key.now c.args.out.now p.passes (sym c.in_ok-check_key.ensures) c.if-out-ne-FINGERPRINT.true)

pub tag_pieces-requires : goal.tag_pieces-requires
tag_pieces-requires c =
    let s = c.args.report.now in
    let p = read s c.in_ok-checked.checked c.in_ok-checked.ensures in
    pieces s c.args.fingerprint_key.now p _ c.args.out.now (sym c.in_ok-check_key.ensures) c.if-out-ne-FINGERPRINT.false

pub returns : goal.returns
returns c =
    let s = c.args.report.now in
    let key = c.args.fingerprint_key.now in
    let p = read s c.in_ok-checked.checked c.in_ok-checked.ensures in
    ap (written done) (tagged s key p c.tag_pieces.ensures)
    ∙ sym (fingerprint_accepted s key c.args.out.now p.passes (sym c.in_ok-check_key.ensures) c.if-out-ne-FINGERPRINT.false)
