-- Proved: laws of the hashes that we make, for the layers above: their sizes are those of the algorithm crate, a digest has its size
-- and is bytes, the padded blocks are counted by the length and shared by no two messages. Assumes nothing.
use Rattle.std.specs.Prelude.{◌≡◌, ℕ, ◌+◌, ◌*◌, ◌/◌, ◌<◌, true, List, [], ◌∷◌, length, nat_lt}
use Rattle.std.proofs.Math.Path.{refl, ap, subst}
use Rattle.std.proofs.Common.{◌∙◌, arith, lit≤, length-take-le}
use mathlib.Core.List.{foldl}
use Rattle.octets.specs.Every.{every, all_bytes}
use Rattle.octets.specs.Every.Laws.{every_append, every_take}
use Rattle.octets.specs.Number.{bytes}
use Rattle.octets.specs.Number.Spelled.{bytes_all}
use Rattle.algorithm.specs.declared.hashes.Hash.{Hash}
use Rattle.algorithm.specs.declared.hashes.Hash.TheVariants.{Sha256, Sha512}
use Rattle.algorithm.specs.Hashes.{block_of, size_of}
use Rattle.hash.specs.Table.{first64, first32}
use Rattle.hash.specs.Description.{Core, describe, narrow, wide}
use Rattle.hash.specs.Blocks.{Sized}
use Rattle.hash.specs.Sha2.{word_size, block_size, field_size, zero_count, step, spell, keep, digest, digest_from, blocks}
use Rattle.hash.specs.Sha2.Laws.{step_length, spell_length}
use Rattle.hash.specs.Sha2.Padding.{blocks_count, blocks_sized, blocks_injective}
use Rattle.hash.specs.Digest.{blocks_of, from_blocks, digest_of, block_count_of, Described}

-- the description, by the hashes that we make
pub described : (h : Hash) → Described h
unfolding block_size every describe narrow wide first32 first64
described Sha256 =
    record { block_is = refl; kept_is = refl; word_least = lit≤ tt; word_most = lit≤ tt; kept_most = lit≤ tt; first_eight = refl; first_fits = refl }
described Sha512 =
    record { block_is = refl; kept_is = refl; word_least = lit≤ tt; word_most = lit≤ tt; kept_most = lit≤ tt; first_eight = refl; first_fits = refl }

positive : (h : Hash) → 0 < block_size (describe h).core
unfolding block_size
positive h = omega (arith, (described h).word_least)

-- eight words stay eight
pub fold_length : (C : Core) (bs : List (List ℕ)) (ws : List ℕ) → length ws ≡ 8 → length (foldl (step C) ws bs) ≡ 8
fold_length C [] ws e = e
fold_length C (b ∷ bs) ws e = fold_length C bs (step C ws b) (step_length C ws b)

-- eight words make a digest
pub keep_length : (h : Hash) (ws : List ℕ) → length ws ≡ 8 → length (keep (describe h) ws) ≡ size_of h
unfolding keep
keep_length h ws e =
    let w : ℕ = word_size (describe h).core in
    let l : length (spell w ws) ≡ 8 * w = spell_length w ws ∙ ap (λ (n : ℕ). n * w) e in
    length-take-le (describe h).kept (spell w ws) (omega (arith, (described h).kept_most)) ∙ (described h).kept_is

-- words that are spelled are bytes
spell_bytes : (k : ℕ) (ws : List ℕ) → all_bytes (spell k ws) ≡ true
unfolding spell every
spell_bytes k [] = refl
spell_bytes k (w ∷ ws) = every_append (λ x. nat_lt x 256) (bytes k w) (spell k ws) ∙ rw (bytes_all k w, spell_bytes k ws)

module _ (h : Hash) (m : List ℕ) where
  -- a digest is bytes
  pub digest_bytes : all_bytes (digest_of h m) ≡ true
  unfolding digest_of digest digest_from keep
  digest_bytes = every_take (λ x. nat_lt x 256) (describe h).kept _ (spell_bytes (word_size (describe h).core) _)

  -- every digest has its size
  pub digest_length : length (digest_of h m) ≡ size_of h
  unfolding digest_of digest digest_from
  digest_length = keep_length h _ (fold_length (describe h).core (blocks (describe h).core m) (describe h).first (described h).first_eight)

  -- it comes from its padded blocks and from nothing else
  pub digest_from_blocks : digest_of h m ≡ from_blocks h (blocks_of h m)
  unfolding digest_of from_blocks blocks_of digest
  digest_from_blocks = refl

  -- the padded blocks: how many, and each of its size
  pub count_of_blocks : length (blocks_of h m) ≡ block_count_of h (length m)
  unfolding blocks_of block_count_of
  count_of_blocks =
      blocks_count (describe h).core (positive h) m
      ∙ ap (λ (B : ℕ). (length m + 1 + zero_count (describe h).core (length m) + field_size (describe h).core) / B) (described h).block_is

  pub sized_blocks : Sized (block_of h) (blocks_of h m)
  unfolding blocks_of
  sized_blocks = subst (λ (B : ℕ). Sized B (blocks (describe h).core m)) (described h).block_is (blocks_sized (describe h).core (positive h) m)

-- no two messages share their padded blocks
pub padding_injective : (h : Hash) (m n : List ℕ) → blocks_of h m ≡ blocks_of h n → m ≡ n
unfolding blocks_of
padding_injective h m n e = blocks_injective (describe h).core (positive h) m n e
