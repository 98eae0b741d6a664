-- `hash::blocks::narrowed` casts each word, which fits. Assumes nothing.
use Rattle.std.proofs.Common.{◌≡◌, ℕ, ◌^◌, ◌<◌, Bool, true, nat_lt, List, [], ◌∷◌, sym, ◌∙◌, arith, lit<, ltb-true, rules}
use Rattle.std.proofs.lemmas.List.{ext_get_or}
use Rattle.std.specs.Array.{list_steps}
use Rattle.std.specs.Iterator.{Yields}
use Rattle.octets.specs.Every.{every}
use Rattle.octets.specs.Every.Laws.{and_parts}
use Rattle.hash.proofs.blocks.narrowed.Goals as goal

-- a word that comes at some turn has what every word has
at_turn : (p : ℕ → Bool) (ws xs t u : List ℕ) (x : ℕ) → every p ws ≡ true → Yields list_steps ws xs t → t ≡ x ∷ u → p x ≡ true
unfolding every
at_turn p ws [] t u x h y e = (and_parts (p x) (every p u) (rw (y, e) at h)).0
at_turn p ws (z ∷ xs) t u x h y e = at_turn p y.0 xs t u x (and_parts (p z) (every p y.0) (rw y.1 at h)).1 y.2 e

pub map-requires : goal.map-requires
map-requires c = (
  lit< tt,
  (
    lit< tt,
    (
      lit< tt,
      record {
        at = λ xs t q x u y f z.
            let fits : x < 2 ^ 32 = ltb-true _ _ (at_turn (λ n. nat_lt n (2 ^ 32)) c.args.words xs t u x c.requires y z) in
            search rules;
      },
    ),
  ),
)

pub returns : goal.returns
returns c =
    let made = c.map.ensures.items in
    ext_get_or 0 c.map.result c.args.words (made.long ∙ sym c.well_formed.0.1.0.1)
    (λ i h. let call = (made.at i 0 0 (omega (arith, made.long))).2 in search rules)
