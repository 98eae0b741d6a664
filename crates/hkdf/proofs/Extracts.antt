-- Laws of the tag that extract asks for: what tag_message answers for it is what extract answers. Assumes nothing.
use mathlib.Core.Path.{◌≡◌, sym, ap, ◌∙◌}
use mathlib.Core.Bool.{true}
use mathlib.Core.List.{List}
use Prim.Native.Nat.{ℕ, ◌-◌, ◌≤◌}
use native.Mathlib.Decide.{dec_le, ℕ_discrete}
use native.Mathlib.Omega.{arith}
use lib.ListN.{length, take, replicate, length-replicate}
use Rattle.octets.specs.Parts.{take_replicate}
use Rattle.algorithm.specs.declared.hashes.Hash.{Hash}
use Rattle.algorithm.specs.Hashes.{names, hash_of, block_of, size_of}
use Rattle.algorithm.specs.Hashes.Laws.{digest_most, size_allowed}
use Rattle.algorithm.specs.Refusals.{done, most_bytes}
use Rattle.hmac.specs.Hmac.Laws.{tag_full}
use Rattle.hmac.specs.Calls.{tag_message_answer}
use Rattle.algorithm.specs.Checks.{written}
use Rattle.hmac.specs.Calls.Laws.{tag_message_accepted, tag_message_wrong_size, tag_message_key, tag_message_too_long}
use Rattle.hkdf.specs.Hkdf.{salt_of}
use Rattle.hkdf.specs.Hkdf.Open.{extract_is}
use Rattle.hkdf.specs.Hkdf.Laws.{salt_empty, salt_given}
use Rattle.hkdf.specs.Calls.{extract_answer}
use Rattle.hkdf.specs.Calls.Laws.{extract_salt_too_long, extract_too_long, extract_wrong_size, extract_accepted}

-- the key that a salt makes fits where the salt does
salt_fits : (h : Hash) (salt : List ℕ) → length salt ≤ most_bytes → length (salt_of h salt) ≤ most_bytes
salt_fits h salt l = elim (ℕ_discrete (length salt) 0) [
  | yes e ↦ omega (arith, ap length (salt_empty h salt e), length-replicate {A = ℕ} (size_of h) 0, digest_most h)
  | no ne ↦ omega (arith, ap length (salt_given h salt ne))
]

-- the first zeros of a buffer are the key that an empty salt makes
pub zeros_key : (h : Hash) (salt : List ℕ) {size : ℕ} → size ≡ size_of h → length salt ≡ 0 → take size (replicate 64 0) ≡ salt_of h salt
zeros_key h salt {size} s e =
    take_replicate size 64 0 (omega (arith, digest_most h)) ∙ ap (λ (k : ℕ). replicate k 0) s ∙ sym (salt_empty h salt e)

module _ (n : ℕ) (salt ikm out : List ℕ) (named : names n ≡ true) where
  -- the message is taken, and the output has a digest's size or not
  taken : length salt ≤ most_bytes → length ikm ≤ most_bytes - block_of (hash_of n)
      → tag_message_answer n (salt_of (hash_of n) salt) ikm (size_of (hash_of n)) out ≡ extract_answer n salt ikm out
  taken s l =
      let h : Hash = hash_of n in
      let key : List ℕ = salt_of h salt in
      elim (ℕ_discrete (length out) (size_of h)) [
        | yes e ↦
            tag_message_accepted n key ikm (size_of h) out named (salt_fits h salt s) l (size_allowed h) e
            ∙ ap (written done) (tag_full h key ikm ∙ sym (extract_is h salt ikm))
            ∙ sym (extract_accepted n salt ikm out named s l e)
        | no ne ↦
            tag_message_wrong_size n key ikm (size_of h) out named (salt_fits h salt s) (size_allowed h) l ne
            ∙ sym (extract_wrong_size n salt ikm out named s l ne)
      ]

  tag_extracts : tag_message_answer n (salt_of (hash_of n) salt) ikm (size_of (hash_of n)) out ≡ extract_answer n salt ikm out
  tag_extracts =
      let h : Hash = hash_of n in
      let key : List ℕ = salt_of h salt in
      elim (dec_le (length salt) most_bytes) [
        | no s ↦
            let given : key ≡ salt = salt_given h salt (λ z. omega arith) in
            tag_message_key n key ikm (size_of h) out named (omega (arith, ap length given))
            ∙ sym (extract_salt_too_long n salt ikm out named (omega arith))
        | yes s ↦ elim (dec_le (length ikm) (most_bytes - block_of h)) [
          | no l ↦
              tag_message_too_long n key ikm (size_of h) out named (salt_fits h salt s) (size_allowed h) (omega arith)
              ∙ sym (extract_too_long n salt ikm out named s (omega arith))
          | yes l ↦ taken s l
        ]
      ]

  -- so what it answered for the key that the salt makes and a digest's size
  pub extracts : {answer : ℕ × List ℕ} {key : List ℕ} {size : ℕ} → key ≡ salt_of (hash_of n) salt → size ≡ size_of (hash_of n)
      → answer ≡ tag_message_answer n key ikm size out → answer ≡ extract_answer n salt ikm out
  extracts k s e = e ∙ (λ j. tag_message_answer n (k j) ikm (s j) out) ∙ tag_extracts
