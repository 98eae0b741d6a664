-- Proved: laws of the calls, for the layers above and for this crate's proofs: what each answers once its checks are known. Assumes
-- nothing.
use Rattle.std.specs.Prelude.{◌≡◌, ◌↔◌, true, false, List, ℕ, ◌-◌, ◌*◌, ◌≤◌, ◌<◌, length}
use borrow.Author.Tests.{le-leb, lt-leb, eq-eqb, ne_eqb}
use Rattle.algorithm.specs.Hashes.{names, hash_of, block_of, size_of}
use Rattle.algorithm.specs.Refusals.{done, unknown_hash, key_too_long, message_too_long, wrong_size, prk_too_short, info_too_long, output_too_long, most_bytes, most_info, most_digests}
use Rattle.algorithm.specs.Checks.{Fail, Pass, written}
use Rattle.algorithm.specs.Checks.Refusing.{none}
use Rattle.algorithm.specs.Checks.Laws.{exactly, exactly_done, refuses}
use Rattle.hkdf.specs.Hkdf.{extract_of, expand_of}
use Rattle.hkdf.specs.Calls.{expand_checks, extract_checks, extract_answer, expand_answer}

module _ (n : ℕ) (salt ikm out : List ℕ) where
  pub extract_unknown : names n ≡ false → extract_answer n salt ikm out ≡ written unknown_hash out
  unfolding extract_answer
  extract_unknown h = rw h

  module _ (h : names n ≡ true) where
    pub extract_salt_too_long : most_bytes < length salt → extract_answer n salt ikm out ≡ written key_too_long out
    unfolding extract_answer
    extract_salt_too_long s = rw (h, lt-leb (length salt) most_bytes s)

    module _ (s : length salt ≤ most_bytes) where
      pub extract_too_long : most_bytes - block_of (hash_of n) < length ikm → extract_answer n salt ikm out ≡ written message_too_long out
      unfolding extract_answer
      extract_too_long l = rw (h, le-leb (length salt) most_bytes s, lt-leb (length ikm) (most_bytes - block_of (hash_of n)) l)

      module _ (l : length ikm ≤ most_bytes - block_of (hash_of n)) where
        pub extract_wrong_size : (length out ≡ size_of (hash_of n) → ⊥) → extract_answer n salt ikm out ≡ written wrong_size out
        unfolding extract_answer
        extract_wrong_size ne =
            rw (h, le-leb (length salt) most_bytes s, le-leb (length ikm) (most_bytes - block_of (hash_of n)) l, ne_eqb (length out) (size_of (hash_of n)) ne)

        pub extract_accepted : length out ≡ size_of (hash_of n) → extract_answer n salt ikm out ≡ written done (extract_of (hash_of n) salt ikm)
        unfolding extract_answer
        extract_accepted e =
            rw (h, le-leb (length salt) most_bytes s, le-leb (length ikm) (most_bytes - block_of (hash_of n)) l, eq-eqb (length out) (size_of (hash_of n)) e)

module _ (n : ℕ) (prk info out : List ℕ) where
  pub expand_unknown : names n ≡ false → expand_answer n prk info out ≡ written unknown_hash out
  unfolding expand_answer
  expand_unknown h = rw h

  module _ (h : names n ≡ true) where
    pub expand_prk_too_long : most_bytes < length prk → expand_answer n prk info out ≡ written key_too_long out
    unfolding expand_answer
    expand_prk_too_long k = rw (h, lt-leb (length prk) most_bytes k)

    module _ (k : length prk ≤ most_bytes) where
      pub expand_prk_too_short : length prk < size_of (hash_of n) → expand_answer n prk info out ≡ written prk_too_short out
      unfolding expand_answer
      expand_prk_too_short l = rw (h, le-leb (length prk) most_bytes k, lt-leb (size_of (hash_of n)) (length prk) l)

      module _ (l : size_of (hash_of n) ≤ length prk) where
        pub expand_info_too_long : most_info < length info → expand_answer n prk info out ≡ written info_too_long out
        unfolding expand_answer
        expand_info_too_long i =
            rw (h, le-leb (length prk) most_bytes k, le-leb (size_of (hash_of n)) (length prk) l, lt-leb (length info) most_info i)

        module _ (i : length info ≤ most_info) where
          pub expand_output_too_long : most_digests * size_of (hash_of n) < length out → expand_answer n prk info out ≡ written output_too_long out
          unfolding expand_answer
          expand_output_too_long o =
              rw (h, le-leb (length prk) most_bytes k, le-leb (size_of (hash_of n)) (length prk) l, le-leb (length info) most_info i, lt-leb (length out) (most_digests * size_of (hash_of n)) o)

          pub expand_accepted : length out ≤ most_digests * size_of (hash_of n)
              → expand_answer n prk info out ≡ written done (expand_of (hash_of n) prk info (length out))
          unfolding expand_answer
          expand_accepted o =
              rw (h, le-leb (length prk) most_bytes k, le-leb (size_of (hash_of n)) (length prk) l, le-leb (length info) most_info i, le-leb (length out) (most_digests * size_of (hash_of n)) o)

-- each number comes back exactly when its check fails and every earlier one passes
module _ (r : ℕ) (refusal : r ≡ done → ⊥) where
  pub extract_exactly : (n : ℕ) (salt ikm out : List ℕ) → (extract_answer n salt ikm out).0 ≡ r ↔ Fail (extract_checks n salt ikm out) r
  unfolding extract_answer
  extract_exactly n salt ikm out = exactly (extract_checks n salt ikm out) r refusal

  pub expand_exactly : (n : ℕ) (prk info out : List ℕ) → (expand_answer n prk info out).0 ≡ r ↔ Fail (expand_checks n prk info out) r
  unfolding expand_answer
  expand_exactly n prk info out = exactly (expand_checks n prk info out) r refusal

-- a call is done exactly when every check passes
pub extract_done : (n : ℕ) (salt ikm out : List ℕ) → (extract_answer n salt ikm out).0 ≡ done ↔ Pass (extract_checks n salt ikm out)
unfolding extract_answer
extract_done n salt ikm out = exactly_done (extract_checks n salt ikm out) (refuses _ _ (refuses _ _ (refuses _ _ (refuses _ _ none))))

pub expand_done : (n : ℕ) (prk info out : List ℕ) → (expand_answer n prk info out).0 ≡ done ↔ Pass (expand_checks n prk info out)
unfolding expand_answer
expand_done n prk info out =
    exactly_done (expand_checks n prk info out) (refuses _ _ (refuses _ _ (refuses _ _ (refuses _ _ (refuses _ _ none)))))
