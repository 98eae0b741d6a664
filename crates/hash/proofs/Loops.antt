-- The invariant of the loop over a run's blocks, which are taken one a turn, with its laws. Assumes nothing.
use Rattle.std.proofs.Common.{◌≡◌, ℕ, ◌<◌, List, ◌++◌, length, sym, ap, ◌∙◌, arith, length-append, take_at, drop_at}
use Rattle.hash.specs.Description.{Core}
use Rattle.hash.specs.Blocks.{words_after}
use Rattle.hash.specs.Blocks.Laws.{words_short, words_step}
use Rattle.hash.specs.Sha2.{block_size, step}

-- the words after the bytes that are left, from those so far, are the words after all; `size` is that of the blocks
pub record Taken (C : Core) (run first ws left : List ℕ) (size : ℕ) : Type 0 where
  pub size_is : size ≡ block_size C
  pub is : words_after (block_size C) (step C) ws left ≡ words_after (block_size C) (step C) first run

pub untaken : {C : Core} {run left : List ℕ} {size : ℕ} (ws : List ℕ) → size ≡ block_size C → left ≡ run → Taken C run ws ws left size
untaken {C} ws e f = record { size_is = e; is = ap (words_after (block_size C) (step C) ws) f }

module _ {C : Core} {run first ws left : List ℕ} {size : ℕ} (c : Taken C run first ws left size) where
  pub one_more : (block : List ℕ) {next rest : List ℕ} {same : ℕ} → 0 < block_size C → left ≡ block ++ rest → length block ≡ size → same ≡ size
      → next ≡ step C ws block → Taken C run first next rest same
  one_more block {next} {rest} p e h k s =
      let B : ℕ = block_size C in
      let n : length block ≡ B = h ∙ c.size_is in
      let one = words_step B (step C) ws (block ++ rest) p (omega (arith, length-append block rest)) in
      record {
        size_is = k ∙ c.size_is;
        is = cc (one, take_at block rest B n, drop_at block rest B n, e, s, c.is);
      }

  pub all_taken : length left < size → ws ≡ words_after (block_size C) (step C) first run
  all_taken h = sym (words_short (block_size C) (step C) ws left (omega (arith, c.size_is))) ∙ c.is
