-- Proved: both sides of the limit on hashed bytes, from the laws by which each layer judges a length. Assumes nothing.
use Rattle.std.specs.Prelude.{◌≡◌, ◌↔◌, Bool, true, false, ◌&&◌, List, [], ◌∷◌, ◌++◌, ℕ, zero, suc, ◌*◌, ◌/◌, ◌%◌, ◌^◌, ◌≤◌, ◌<◌, leb, length, drop}
use Rattle.std.proofs.Common.{sym, ap, ◌∙◌, pow-suc, arith, le-leb}
use Rattle.octets.specs.Every.{all_zero}
use Rattle.octets.specs.Every.Laws.{refuted}
use Rattle.octets.specs.Number.{onto, number, bytes}
use Rattle.octets.specs.Number.Laws.{onto_append}
use Rattle.octets.specs.Number.Spelled.{number_bytes_lem}
use Rattle.algorithm.specs.Hashes.{names, hash_of, allowed}
use Rattle.algorithm.specs.Hashes.Laws.{block_most}
use Rattle.algorithm.specs.Refusals.{done, unknown_hash, key_too_long, buffer_too_short, most_bytes}
use Rattle.algorithm.specs.Checks.{Check, check, first_failing, Pass}
use Rattle.algorithm.specs.Checks.Pass.{and}
use Rattle.algorithm.specs.Checks.Laws.{passes_done, done_passes, append_passes, append_refuses}
use Rattle.hash.specs.Description.{narrow}
use Rattle.hash.specs.Sha2.{field_size, length_field}
use Rattle.hash.specs.State.{waiting_count, fit, sound_of}
use Rattle.hash.specs.State.Laws.{sound_is, sound_count}
use Rattle.hash.proofs.Proved.Calls.Laws as hash
use Rattle.hash.specs.declared.state.State.{State}
use Rattle.hmac.specs.Keyed.{inner_of}
use Rattle.hmac.specs.Keyed.Laws.{sound_exactly, unsound_inner}
use Rattle.hmac.specs.Calls.{start_of}
use Rattle.hmac.specs.Calls.Laws as hmac
use Rattle.hkdf.specs.Calls.Laws as hkdf
use Rattle.report.specs.Reading.{names_hash}
use Rattle.report.specs.Reading.Laws.{well_formed_passed}
use Rattle.report.specs.Writing.{Columns, sites_of, fields_from, report_of}
use Rattle.report.specs.Calls.{key_checks, column_checks, write_checks}
use Rattle.report.specs.Calls.Laws as report
use Rattle.report.specs.Calls.Write as writing
use Rattle.report.specs.declared.writing.Heading.{Heading}
use Rattle.facts.specs.Limit.{Limit}

-- the k lowest bytes of any number make one below 256 ^ k
number_below : (k n : ℕ) → number (bytes k n) < 256 ^ k
unfolding number onto bytes
number_below zero n = omega arith
number_below (suc k) n =
    omega (arith, number_below k (n / 256), onto_append 0 (bytes k (n / 256)) (n % 256 ∷ []), pow-suc 256 k)

field_holds : (n : ℕ) → number (length_field narrow n) ≡ 8 * n ↔ n < 2 ^ 61
unfolding length_field field_size narrow
field_holds n = (λ e. omega (arith, number_below 8 (8 * n)), λ l. number_bytes_lem 8 (8 * n) (omega arith))

judged : (s : State) → s.count < 2 ^ 61 → sound_of s ≡ (all_zero (drop (waiting_count s) s.waiting) && fit s.hash s.words)
judged s l =
    sound_is s ∙ ap (λ (b : Bool). b && (all_zero (drop (waiting_count s) s.waiting) && fit s.hash s.words)) (le-leb s.count most_bytes (omega arith))

unsound : (s : State) → 2 ^ 61 ≤ s.count → sound_of s ≡ false
unsound s l = refuted (sound_of s) (λ h. omega (arith, sound_count s h))

-- what an accepted start says
passed : (n : ℕ) (key : List ℕ) (t : ℕ) → (start_of n key t).number ≡ done
    → (names n ≡ true) × ((length key ≤ most_bytes) × (allowed (hash_of n) t ≡ true))
passed n key t accepted = hmac.start_passes n key t ((hmac.start_done n key t).0 accepted)

-- a report's key
key_passes : (key : List ℕ) → 16 ≤ length key → length key < 2 ^ 61 → first_failing (key_checks key) ≡ done
key_passes key k l = report.key_accepted key k (omega arith)

module _ (key : List ℕ) (l : 2 ^ 61 ≤ length key) where
  key_fails : first_failing (key_checks key) ≡ key_too_long
  key_fails = report.key_too_long_lem key (omega arith)

  not_done : first_failing (key_checks key) ≡ done → ⊥
  not_done d = omega (arith, sym key_fails ∙ d)

-- writing comes to it once the hash and the columns pass
write_fails : (h : Heading) (c : Columns) (key out : List ℕ) → names_hash h.hash ≡ true → Pass (column_checks c) → 2 ^ 61 ≤ length key
    → first_failing (write_checks h c key out) ≡ key_too_long
write_fails h c key out known p l =
    let first : List Check = check (names_hash h.hash) unknown_hash ∷ column_checks c in
    let room : Check = check (leb (length (report_of (fields_from h (sites_of c)) key)) (length out)) buffer_too_short in
    append_passes first (key_checks key ++ (room ∷ [])) (passes_done (and known p)) (writing.plan_refusing h.hash c)
    ∙ append_refuses (key_checks key) (room ∷ []) (not_done key l)
    ∙ key_fails key l

pub limit : Limit
limit = record {
  length_field_lem = field_holds;
  digest_taken = λ n m out h size l. hash.digest_accepted n m out h (omega arith) size;
  digest_refused = λ n m out h l. hash.digest_too_long n m out h (omega arith);
  piece_taken = λ s p h l. hash.update_accepted s p h (omega arith);
  piece_refused = λ s p h l. hash.update_too_long s p h (omega arith);
  state_judged = judged;
  state_unsound = unsound;
  key_taken = λ n key t h a l. hmac.start_accepted n key t h (omega arith) a;
  key_refused = λ n key t h l. hmac.start_too_long n key t h (omega arith);
  tag_key_refused = λ n key m t out h l. hmac.tag_message_key n key m t out h (omega arith);
  verify_key_refused = λ n key m t presented h l. hmac.verify_message_key n key m t presented h (omega arith);
  keyed_piece_taken = λ k p h l. hmac.update_accepted k p h (omega arith);
  keyed_piece_refused = λ k p h l. hmac.update_too_long k p h (omega arith);
  keyed_judged = λ k l.
      let inner = judged (inner_of k) l in (
        λ h. let parts = (sound_exactly k).0 h in (sym inner ∙ parts.0, parts.1),
        λ parts. (sound_exactly k).1 (inner ∙ parts.0, parts.1),
      );
  keyed_unsound = λ k l. unsound_inner k (unsound (inner_of k) l);
  tag_taken = λ n key m t out a size l.
      let p = passed n key t a in hmac.tag_message_accepted n key m t out p.0 p.1.0 (omega (arith, block_most (hash_of n))) p.1.1 size;
  tag_refused = λ n key m t out a l.
      let p = passed n key t a in hmac.tag_message_too_long n key m t out p.0 p.1.0 p.1.1 (omega (arith, block_most (hash_of n)));
  verify_taken = λ n key m t presented a size l.
      let p = passed n key t a in hmac.verify_message_compared n key m t presented p.0 p.1.0 (omega (arith, block_most (hash_of n))) p.1.1 size;
  verify_refused = λ n key m t presented a l.
      let p = passed n key t a in hmac.verify_message_too_long n key m t presented p.0 p.1.0 p.1.1 (omega (arith, block_most (hash_of n)));
  extract_taken = λ n salt ikm out h size s l. hkdf.extract_accepted n salt ikm out h (omega arith) (omega (arith, block_most (hash_of n))) size;
  salt_refused = λ n salt ikm out h l. hkdf.extract_salt_too_long n salt ikm out h (omega arith);
  material_refused = λ n salt ikm out h s l. hkdf.extract_too_long n salt ikm out h (omega arith) (omega (arith, block_most (hash_of n)));
  expand_taken = λ n prk info out h least i o l. hkdf.expand_accepted n prk info out h (omega arith) least i o;
  expand_refused = λ n prk info out h l. hkdf.expand_prk_too_long n prk info out h (omega arith);
  keys_taken = λ n prk tenant machine out h size least l. report.keys_accepted n prk tenant machine out h (omega arith) size least;
  keys_refused = λ n prk tenant machine out h l. report.keys_too_long n prk tenant machine out h (omega arith);
  report_key_taken = key_passes;
  report_key_refused = key_fails;
  compare_taken = λ s key w k l. report.check_compared s key (well_formed_passed s w) (key_passes key k l);
  compare_refused = λ s key w l. report.check_key s key (well_formed_passed s w) (not_done key l) ∙ key_fails key l;
  fingerprint_taken = λ s key out w size k l. report.fingerprint_accepted s key out (well_formed_passed s w) (key_passes key k l) size;
  fingerprint_refused = λ s key out w l.
      report.fingerprint_key_lem s key out (well_formed_passed s w) (not_done key l) ∙ ap (λ (r : ℕ). (r, out)) (key_fails key l);
  write_taken = λ h c key out known p room k l.
      writing.write_accepted h c key out (record {
        planned = writing.plan_parts h.hash c (and known p);
        key_passes = done_passes (key_checks key) (report.key_refusing key) (key_passes key k l);
        room = room;
      });
  write_refused = λ h c key out known p l. writing.write_refused h c key out key_too_long (write_fails h c key out known p l) (λ z. omega arith);
}
