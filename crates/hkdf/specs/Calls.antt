-- Believed: what each public call answers, for all arguments: its checks in their order, and the work where none fails. An outcome
-- predicate is what the call's contract says; Calls/Unique.antt shows that no second outcome meets it. Assumes nothing.
pub mod Laws
pub mod Unique
use Rattle.std.specs.Prelude.{◌≡◌, List, [], ◌∷◌, ℕ, ◌-◌, ◌*◌, leb, eqb, length}
use Rattle.algorithm.specs.Hashes.{names, hash_of, block_of, size_of}
use Rattle.algorithm.specs.Refusals.{unknown_hash, key_too_long, message_too_long, wrong_size, prk_too_short, info_too_long, output_too_long, most_bytes, most_info, most_digests}
use Rattle.algorithm.specs.Checks.{Check, check, answered}
use Rattle.hkdf.specs.Hkdf.{extract_of, expand_of}

-- extract(hash_number, salt, ikm, out)
abbrev pub extract_checks : ℕ → List ℕ → List ℕ → List ℕ → List Check
extract_checks n salt ikm out =
    check (names n) unknown_hash
    ∷ check (leb (length salt) most_bytes) key_too_long
    ∷ check (leb (length ikm) (most_bytes - block_of (hash_of n))) message_too_long
    ∷ check (eqb (length out) (size_of (hash_of n))) wrong_size
    ∷ []

pub extract_answer : ℕ → List ℕ → List ℕ → List ℕ → ℕ × List ℕ
extract_answer n salt ikm out = answered (extract_checks n salt ikm out) (extract_of (hash_of n) salt ikm) out

abbrev pub ExtractOutcome : ℕ → List ℕ → List ℕ → List ℕ → ℕ → List ℕ → Type 0
ExtractOutcome n salt ikm out r after = ◌≡◌ {A = ℕ × List ℕ} (r, after) (extract_answer n salt ikm out)

-- expand(hash_number, prk, info, out): as many bytes as the output has
abbrev pub expand_checks : ℕ → List ℕ → List ℕ → List ℕ → List Check
expand_checks n prk info out =
    check (names n) unknown_hash
    ∷ check (leb (length prk) most_bytes) key_too_long
    ∷ check (leb (size_of (hash_of n)) (length prk)) prk_too_short
    ∷ check (leb (length info) most_info) info_too_long
    ∷ check (leb (length out) (most_digests * size_of (hash_of n))) output_too_long
    ∷ []

pub expand_answer : ℕ → List ℕ → List ℕ → List ℕ → ℕ × List ℕ
expand_answer n prk info out = answered (expand_checks n prk info out) (expand_of (hash_of n) prk info (length out)) out

abbrev pub ExpandOutcome : ℕ → List ℕ → List ℕ → List ℕ → ℕ → List ℕ → Type 0
ExpandOutcome n prk info out r after = ◌≡◌ {A = ℕ × List ℕ} (r, after) (expand_answer n prk info out)
