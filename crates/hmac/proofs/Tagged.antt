-- Laws of tag and verify once the checks that they share have passed, from what full and the copy or the comparison gave.
-- Assumes nothing.
use Rattle.std.proofs.Common.{◌≡◌, ℕ, ◌≤◌, Bool, cond, true, List, length, take, sym, ap, ◌∙◌, arith}
use Rattle.octets.specs.Copy.{over}
use Rattle.octets.specs.Same.{equal, Tells}
use Rattle.octets.specs.Same.Laws.{tells_equal}
use Rattle.octets.specs.Zeros.{zeros_to}
use Rattle.octets.specs.Zeros.Laws.{take_zeros, over_buffer}
use Rattle.algorithm.specs.Checks.{first_failing, written}
use Rattle.algorithm.specs.Checks.Laws.{done_passes}
use Rattle.algorithm.specs.Hashes.Laws.{digest_most}
use Rattle.algorithm.specs.Refusals.{done, tag_differs}
use Rattle.hmac.specs.Keyed.{sound_keyed, HeldKeyed, full_tag, keyed_tag}
use Rattle.hmac.specs.Keyed.Laws.{full_length, length_fits, length_most}
use Rattle.hmac.specs.Calls.{tag_checks, tag_answer, verify_answer}
use Rattle.hmac.specs.Calls.Laws.{tag_refusing, tag_passes, tag_accepted, verify_compared}
use Rattle.hmac.specs.declared.keyed.Keyed.{Keyed}

-- a sound keyed state, and bytes of its tag length
pub record Taggable (k : Keyed) (bytes : List ℕ) : Type 0 where
  pub sound : sound_keyed k ≡ true
  pub size : length bytes ≡ k.tag_length

pub taggable : (k : Keyed) (bytes : List ℕ) → done ≡ first_failing (tag_checks k bytes) → Taggable k bytes
taggable k bytes e =
    let p = tag_passes k bytes (done_passes (tag_checks k bytes) (tag_refusing k bytes) (sym e)) in record { sound = p.0; size = p.1 }

-- so a full tag's room holds the tag
pub tag_fits : (k : Keyed) (bytes : List ℕ) → done ≡ first_failing (tag_checks k bytes) → k.tag_length ≤ 64
tag_fits k bytes e = length_fits k (taggable k bytes e).sound

module _ {k : Keyed} {bytes : List ℕ} (T : Taggable k bytes) (h : HeldKeyed k) {whole : List ℕ} (w : whole ≡ zeros_to 64 (full_tag k)) where
  short : k.tag_length ≤ length (full_tag k)
  short = omega (arith, length_most k T.sound, full_length k h)

  -- the tag is written
  pub tagged : {out : List ℕ} → out ≡ over whole bytes → written done out ≡ tag_answer k bytes
  tagged e =
      ap (written done)
      (e
      ∙ ap (λ (l : List ℕ). over l bytes) w
      ∙ over_buffer 64 k.tag_length (full_tag k) bytes T.size short (omega (arith, full_length k h, digest_most k.hash)))
      ∙ sym (tag_accepted k bytes T.sound T.size)

  -- the tag is compared
  pub compared : {r : Bool} → Tells r bytes (take k.tag_length whole) → cond r done tag_differs ≡ verify_answer k bytes
  compared {r} tells =
      let t : ℕ = k.tag_length in
      let s : take t whole ≡ keyed_tag k = ap (take t) w ∙ take_zeros 64 t (full_tag k) short in
      ap (λ (b : Bool). cond b done tag_differs) (tells_equal bytes (take t whole) tells ∙ ap (equal bytes) s)
      ∙ sym (verify_compared k bytes T.sound T.size)
