-- `hash::blocks::after_run` goes by the width. Assumes nothing.
use Rattle.std.proofs.Common.{◌≡◌, ℕ, List, map, ap, ◌∙◌}
use mathlib.Core.List.{foldl}
use Rattle.algorithm.specs.declared.hashes.Hash.{Hash}
use Rattle.hash.specs.Description.{Core, describe, narrow, wide, core_of}
use Rattle.hash.specs.Blocks.{whole_blocks, words_after}
use Rattle.hash.specs.Sha2.{block_size, step}
use Rattle.hash.specs.State.{words_of}
use Rattle.hash.specs.Digest.Laws.{described}
use Rattle.hash.proofs.Rounds.{themselves}
use Rattle.hash.proofs.blocks.after_run.Goals as goal

-- a hash that works on a core: the words after a run are the core's
module _ (h : Hash) (C : Core) (e : (describe h).core ≡ C) (run : List ℕ) where
  words_by : (v ws : List ℕ) → map (λ (x : ℕ). x) v ≡ foldl (step C) (map (λ (x : ℕ). x) ws) (whole_blocks (block_size C) run)
      → v ≡ words_of h ws run
  unfolding words_after
  words_by v ws f = rw (← (described h).block_is, e) (themselves C v ws run f)

pub narrowed-requires : goal.narrowed-requires
unfolding core_of narrow
narrowed-requires c = rw (c.width_of.ensures, c.in-Narrow.is) at c.requires

pub returns-in-Narrow : goal.returns-in-Narrow
unfolding core_of
returns-in-Narrow c =
    let e = c.width_of.ensures ∙ ap core_of c.in-Narrow.is in
    c.widened.ensures
    ∙ words_by c.args.hash narrow e c.args.run.now c.after_run.result c.narrowed.result c.after_run.ensures
    ∙ ap (λ (ws : List ℕ). words_of c.args.hash ws c.args.run.now) c.narrowed.ensures

pub returns-in-Wide : goal.returns-in-Wide
unfolding core_of
returns-in-Wide c =
    let e = c.width_of.ensures ∙ ap core_of c.in-Wide.is in
    words_by c.args.hash wide e c.args.run.now c.after_run-in-Wide.result c.args.words c.after_run-in-Wide.ensures
