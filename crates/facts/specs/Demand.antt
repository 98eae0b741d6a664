-- Believed: Demand 3, as one statement: which keys and reports share the padded blocks that the fingerprint's inner hash is fed, which
-- keys share a form, and that the tag is no field. Its proof is in proofs/Proved/Demand/Laws.antt. Assumes nothing.
use Rattle.std.specs.Prelude.{◌≡◌, ◌↔◌, List, ℕ, ◌≤◌, ◌<◌, length}
use Rattle.algorithm.specs.declared.hashes.Hash.{Hash}
use Rattle.algorithm.specs.Hashes.{block_of}
use Rattle.algorithm.specs.Refusals.{most_bytes}
use Rattle.hash.specs.Digest.{digest_of}
use Rattle.hmac.specs.Form.{form_of, SameButZeros}
use Rattle.hmac.specs.Hmac.{inner_blocks_of}
use Rattle.report.specs.Layout.{AgreeButSendTimeAndAttempt}
use Rattle.report.specs.Reading.{hash_in, before_tag, read_of, WellFormed}
use Rattle.report.specs.Fingerprint.{message_of}

pub record Demand3 : Type 0 where
  -- Under one hash, take two pairs of a key that is not refused with 3 and a well-formed report that names this hash. The fingerprints'
  -- inner hashes are fed the same padded blocks exactly when the keys have one form and the reports agree in every field but the send
  -- time and the attempt.
  pub blocks : (h : Hash) (key key' s t : List ℕ)
      → length key ≤ most_bytes
      → length key' ≤ most_bytes
      → WellFormed s
      → WellFormed t
      → hash_in s ≡ h
      → hash_in t ≡ h
      → inner_blocks_of h key (message_of s) ≡ inner_blocks_of h key' (message_of t)
      ↔ ((form_of h key ≡ form_of h key') × AgreeButSendTimeAndAttempt (read_of s).1 (read_of t).1)
  -- Two keys of at most a block have one form exactly when only zeros at their ends set them apart.
  pub short_keys : (h : Hash) (key key' : List ℕ) → length key ≤ block_of h → length key' ≤ block_of h
      → form_of h key ≡ form_of h key' ↔ SameButZeros key key'
  -- A longer key has the form of its digest.
  pub long_key : (h : Hash) (key : List ℕ) → block_of h < length key → form_of h key ≡ form_of h (digest_of h key)
  -- The tag is no field: a well-formed report, and another with the same bytes before its tag, read alike.
  pub tag_no_field : (s t : List ℕ) → WellFormed s → before_tag s ≡ before_tag t → read_of s ≡ read_of t
