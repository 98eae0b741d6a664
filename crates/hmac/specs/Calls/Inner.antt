-- Proved: what the inner hash's answer to a piece says of the keyed state, from what `hash` promises alone. Assumes nothing.
use Rattle.std.specs.Prelude.{◌≡◌, true, List, ℕ, ◌+◌, length}
use Rattle.std.proofs.Common.{sym, ap, ◌∙◌, arith}
use Rattle.std.proofs.Math.Decide.{dec_le}
use Rattle.algorithm.specs.Refusals.{done, message_too_long, most_bytes}
use Rattle.hash.specs.Calls as hash
use Rattle.hash.proofs.Proved.Calls.Laws as hash-laws
use Rattle.hmac.specs.Keyed.{inner_of, joined, sound_keyed}
use Rattle.hmac.specs.Keyed.Laws.{sound_inner}
use Rattle.hmac.specs.Keyed.Open.{after_is}
use Rattle.hmac.specs.Calls.{update_of, fed}
use Rattle.hmac.specs.Calls.Laws.{update_too_long, update_accepted}
use Rattle.hmac.specs.declared.keyed.Keyed.{Keyed}

module _ (k : Keyed) (p : List ℕ) (ok : sound_keyed k ≡ true) {f : hash.Fed} (e : f ≡ hash.update_of (inner_of k) p) where
  -- it refused: too many bytes
  pub inner_refuses : (f.number ≡ done → ⊥) → fed f.number k ≡ update_of k p
  inner_refuses z = elim (dec_le (k.count + length p) most_bytes) [
    | yes l ↦ absurd (z (ap (λ (r : hash.Fed). r.number) (e ∙ hash-laws.update_accepted (inner_of k) p (sound_inner k ok) l)))
    | no l ↦
        ap (λ (r : hash.Fed). fed r.number k) (e ∙ hash-laws.update_too_long (inner_of k) p (sound_inner k ok) (omega arith))
        ∙ sym (update_too_long k p ok (omega arith))
  ]

  -- it took them
  pub inner_takes : f.number ≡ done → {r : Keyed} → r ≡ joined f.state k.tag_length k.outer → fed done r ≡ update_of k p
  inner_takes z {r} er = elim (dec_le (k.count + length p) most_bytes) [
    | yes l ↦
        ap (fed done)
        (er
        ∙ ap (λ (x : hash.Fed). joined x.state k.tag_length k.outer) (e ∙ hash-laws.update_accepted (inner_of k) p (sound_inner k ok) l)
        ∙ sym (after_is k p))
        ∙ sym (update_accepted k p ok l)
    | no l ↦
        let n : ◌≡◌ {A = ℕ} message_too_long done =
        sym (ap (λ (x : hash.Fed). x.number) (e ∙ hash-laws.update_too_long (inner_of k) p (sound_inner k ok) (omega arith))) ∙ z
        in
        absurd (omega arith)
  ]
