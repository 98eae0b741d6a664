-- Believed: both sides of the limit on hashed bytes, with the number written out and for every length. No run can feed that many bytes.
-- The proof is in proofs/Proved/Limit/Laws.antt. Assumes nothing.
use Rattle.std.specs.Prelude.{◌≡◌, ◌↔◌, true, false, ◌&&◌, cond, List, ℕ, ◌+◌, ◌*◌, ◌^◌, ◌≤◌, ◌<◌, length, drop}
use Rattle.octets.specs.Every.{all_zero}
use Rattle.octets.specs.Same.{equal}
use Rattle.octets.specs.Number.{number}
use Rattle.algorithm.specs.Hashes.{names, hash_of, block_of, size_of, allowed}
use Rattle.algorithm.specs.Refusals.{done, tag_differs, key_too_long, message_too_long, most_info, most_digests}
use Rattle.algorithm.specs.Checks.{written, first_failing, Pass}
use Rattle.hash.specs.Description.{narrow}
use Rattle.hash.specs.Sha2.{length_field}
use Rattle.hash.specs.Digest.{digest_of}
use Rattle.hash.specs.State.{waiting_count, fit, sound_of, after_of}
use Rattle.hash.specs.Calls as hash
use Rattle.hash.specs.declared.state.State.{State}
use Rattle.hmac.specs.Hmac.{tag_of}
use Rattle.hmac.specs.Keyed.{inner_of, outer_of, sound_keyed, fresh_keyed, zero_keyed, after_keyed}
use Rattle.hmac.specs.Calls as hmac
use Rattle.hmac.specs.declared.keyed.Keyed.{Keyed}
use Rattle.hkdf.specs.Hkdf.{extract_of, expand_of}
use Rattle.hkdf.specs.Calls.{extract_answer, expand_answer}
use Rattle.report.specs.Reading.{names_hash, hash_named, hash_in, tag_start, tag_size_in, before_tag, WellFormed}
use Rattle.report.specs.Fingerprint.{fingerprint_of}
use Rattle.report.specs.Keys.{keys_of}
use Rattle.report.specs.Writing.{Columns, sites_of, fields_from, report_of}
use Rattle.report.specs.Calls.{key_checks, column_checks, check_answer, fingerprint_answer, keys_answer, refused_write, wrote_report, write_answer}
use Rattle.report.specs.declared.writing.Heading.{Heading}

pub record Limit : Type 0 where
  -- SHA-256's length field says how many bits n bytes have exactly when n is below 2 ^ 61.
  pub length_field_lem : (n : ℕ) → number (length_field narrow n) ≡ 8 * n ↔ n < 2 ^ 61
  -- A message of fewer than 2 ^ 61 bytes is digested, and any other is refused with 4.
  pub digest_taken : (n : ℕ) (m out : List ℕ) → names n ≡ true → length out ≡ size_of (hash_of n) → length m < 2 ^ 61
      → hash.digest_answer n m out ≡ written done (digest_of (hash_of n) m)
  pub digest_refused : (n : ℕ) (m out : List ℕ) → names n ≡ true → 2 ^ 61 ≤ length m → hash.digest_answer n m out ≡ written message_too_long out
  -- A piece is taken where it makes fewer than 2 ^ 61 bytes with those that its state has taken, and else is refused with 4.
  pub piece_taken : (s : State) (p : List ℕ) → sound_of s ≡ true → s.count + length p < 2 ^ 61 → hash.update_of s p ≡ hash.fed done (after_of s p)
  pub piece_refused : (s : State) (p : List ℕ) → sound_of s ≡ true → 2 ^ 61 ≤ s.count + length p → hash.update_of s p ≡ hash.fed message_too_long s
  -- A state with 2 ^ 61 bytes or more is not sound, and with fewer the rest of the test decides.
  pub state_judged : (s : State) → s.count < 2 ^ 61 → sound_of s ≡ (all_zero (drop (waiting_count s) s.waiting) && fit s.hash s.words)
  pub state_unsound : (s : State) → 2 ^ 61 ≤ s.count → sound_of s ≡ false
  -- A start with a key of fewer than 2 ^ 61 bytes is accepted. With any other it is refused with 3, and so is a call on a whole message.
  pub key_taken : (n : ℕ) (key : List ℕ) (t : ℕ) → names n ≡ true → allowed (hash_of n) t ≡ true → length key < 2 ^ 61
      → hmac.start_of n key t ≡ hmac.started done (fresh_keyed (hash_of n) key t)
  pub key_refused : (n : ℕ) (key : List ℕ) (t : ℕ) → names n ≡ true → 2 ^ 61 ≤ length key → hmac.start_of n key t ≡ hmac.started key_too_long zero_keyed
  pub tag_key_refused : (n : ℕ) (key m : List ℕ) (t : ℕ) (out : List ℕ) → names n ≡ true → 2 ^ 61 ≤ length key
      → hmac.tag_message_answer n key m t out ≡ written key_too_long out
  pub verify_key_refused : (n : ℕ) (key m : List ℕ) (t : ℕ) (presented : List ℕ) → names n ≡ true → 2 ^ 61 ≤ length key
      → hmac.verify_message_answer n key m t presented ≡ key_too_long
  -- A piece of a keyed state is judged in the same way, with the block of the inner pad counted, and so is the keyed state itself.
  pub keyed_piece_taken : (k : Keyed) (p : List ℕ) → sound_keyed k ≡ true → k.count + length p < 2 ^ 61
      → hmac.update_of k p ≡ hmac.fed done (after_keyed k p)
  pub keyed_piece_refused : (k : Keyed) (p : List ℕ) → sound_keyed k ≡ true → 2 ^ 61 ≤ k.count + length p
      → hmac.update_of k p ≡ hmac.fed message_too_long k
  pub keyed_judged : (k : Keyed) → k.count < 2 ^ 61
      → sound_keyed k ≡ true
      ↔ (((all_zero (drop (waiting_count (inner_of k)) k.waiting) && fit k.hash k.words) ≡ true)
      × ((sound_of (outer_of k) ≡ true) × ((block_of k.hash ≤ k.count) × (allowed k.hash k.tag_length ≡ true))))
  pub keyed_unsound : (k : Keyed) → 2 ^ 61 ≤ k.count → sound_keyed k ≡ false
  -- Where a start with the key and the tag length is accepted, a whole message is tagged and compared if it has fewer than 2 ^ 61 bytes
  -- together with that block, and else is refused with 4.
  pub tag_taken : (n : ℕ) (key m : List ℕ) (t : ℕ) (out : List ℕ) → (hmac.start_of n key t).number ≡ done → length out ≡ t
      → block_of (hash_of n) + length m < 2 ^ 61
      → hmac.tag_message_answer n key m t out ≡ written done (tag_of (hash_of n) key t m)
  pub tag_refused : (n : ℕ) (key m : List ℕ) (t : ℕ) (out : List ℕ) → (hmac.start_of n key t).number ≡ done
      → 2 ^ 61 ≤ block_of (hash_of n) + length m
      → hmac.tag_message_answer n key m t out ≡ written message_too_long out
  pub verify_taken : (n : ℕ) (key m : List ℕ) (t : ℕ) (presented : List ℕ) → (hmac.start_of n key t).number ≡ done → length presented ≡ t
      → block_of (hash_of n) + length m < 2 ^ 61
      → hmac.verify_message_answer n key m t presented ≡ cond (equal presented (tag_of (hash_of n) key t m)) done tag_differs
  pub verify_refused : (n : ℕ) (key m : List ℕ) (t : ℕ) (presented : List ℕ) → (hmac.start_of n key t).number ≡ done
      → 2 ^ 61 ≤ block_of (hash_of n) + length m
      → hmac.verify_message_answer n key m t presented ≡ message_too_long
  -- Extract judges its salt as a key and its key material as a message, and expand its PRK as a key.
  pub extract_taken : (n : ℕ) (salt ikm out : List ℕ) → names n ≡ true → length out ≡ size_of (hash_of n) → length salt < 2 ^ 61
      → block_of (hash_of n) + length ikm < 2 ^ 61
      → extract_answer n salt ikm out ≡ written done (extract_of (hash_of n) salt ikm)
  pub salt_refused : (n : ℕ) (salt ikm out : List ℕ) → names n ≡ true → 2 ^ 61 ≤ length salt → extract_answer n salt ikm out ≡ written key_too_long out
  pub material_refused : (n : ℕ) (salt ikm out : List ℕ) → names n ≡ true → length salt < 2 ^ 61 → 2 ^ 61 ≤ block_of (hash_of n) + length ikm
      → extract_answer n salt ikm out ≡ written message_too_long out
  pub expand_taken : (n : ℕ) (prk info out : List ℕ) → names n ≡ true → size_of (hash_of n) ≤ length prk → length info ≤ most_info
      → length out ≤ most_digests * size_of (hash_of n)
      → length prk < 2 ^ 61
      → expand_answer n prk info out ≡ written done (expand_of (hash_of n) prk info (length out))
  pub expand_refused : (n : ℕ) (prk info out : List ℕ) → names n ≡ true → 2 ^ 61 ≤ length prk → expand_answer n prk info out ≡ written key_too_long out
  -- The call that makes a machine's two keys judges its PRK as a key too.
  pub keys_taken : (n : ℕ) (prk : List ℕ) (tenant machine : ℕ) (out : List ℕ) → names_hash n ≡ true → length out ≡ 2 * size_of (hash_named n)
      → size_of (hash_named n) ≤ length prk
      → length prk < 2 ^ 61
      → keys_answer n prk tenant machine out ≡ written done (keys_of (hash_named n) prk tenant machine)
  pub keys_refused : (n : ℕ) (prk : List ℕ) (tenant machine : ℕ) (out : List ℕ) → names_hash n ≡ true → 2 ^ 61 ≤ length prk
      → keys_answer n prk tenant machine out ≡ written key_too_long out
  -- So do the checks of a report's key, which comparing, the fingerprint, writing and the ledger share. To be taken, that key also needs
  -- 16 bytes.
  pub report_key_taken : (key : List ℕ) → 16 ≤ length key → length key < 2 ^ 61 → first_failing (key_checks key) ≡ done
  pub report_key_refused : (key : List ℕ) → 2 ^ 61 ≤ length key → first_failing (key_checks key) ≡ key_too_long
  -- The first three of these calls answer by them, once the checks before pass.
  pub compare_taken : (s key : List ℕ) → WellFormed s → 16 ≤ length key → length key < 2 ^ 61
      → check_answer s key ≡ cond (equal (drop (tag_start s) s) (tag_of (hash_in s) key (tag_size_in s) (before_tag s))) done tag_differs
  pub compare_refused : (s key : List ℕ) → WellFormed s → 2 ^ 61 ≤ length key → check_answer s key ≡ key_too_long
  pub fingerprint_taken : (s key out : List ℕ) → WellFormed s → length out ≡ 32 → 16 ≤ length key → length key < 2 ^ 61
      → fingerprint_answer s key out ≡ written done (fingerprint_of s key)
  pub fingerprint_refused : (s key out : List ℕ) → WellFormed s → 2 ^ 61 ≤ length key → fingerprint_answer s key out ≡ written key_too_long out
  pub write_taken : (h : Heading) (c : Columns) (key out : List ℕ) → names_hash h.hash ≡ true → Pass (column_checks c)
      → length (report_of (fields_from h (sites_of c)) key) ≤ length out
      → 16 ≤ length key
      → length key < 2 ^ 61
      → write_answer h c key out ≡ wrote_report (report_of (fields_from h (sites_of c)) key) out
  pub write_refused : (h : Heading) (c : Columns) (key out : List ℕ) → names_hash h.hash ≡ true → Pass (column_checks c) → 2 ^ 61 ≤ length key
      → write_answer h c key out ≡ (refused_write key_too_long, out)
