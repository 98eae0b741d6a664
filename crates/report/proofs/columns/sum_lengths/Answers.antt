-- `report::columns::sum_lengths`: what `sum` makes of so few lengths, each below 2 ^ 32. Assumes nothing.
use Rattle.std.proofs.Common.{◌≡◌, refl, ap, ◌∙◌, ◌+◌, ◌^◌, ℕ, List, [], ◌∷◌, arith, rules}
use Rattle.std.specs.List.{sum_by}
use Rattle.std.proofs.lemmas.List.Sums.{sum_by-cons}
use Rattle.std.proofs.lemmas.Iterator.{YieldsList-from_slice, YieldsList-from_map}
use Rattle.std.proofs.lemmas.Iterator.Adapters.{fits_from_length, at_most_from_yields_List}
use Rattle.std.proofs.lemmas.Iterator.Consumers.{sum_by_from_yields_List}
use Rattle.octets.specs.Sums.{sum_of}
use Rattle.report.proofs.columns.sum_lengths.Goals as goal

by_sum : (l : List ℕ) → sum_by (λ n. n) l ≡ sum_of l
unfolding sum_of
by_sum [] = refl
by_sum (n ∷ l) = sum_by-cons (λ n. n) n l ∙ ap (λ (k : ℕ). n + k) (by_sum l)

pub sum-requires-clause-fits : goal.sum-requires-clause-fits
sum-requires-clause-fits c =
    fits_from_length _ _ 64 (2 ^ 64) (at_most_from_yields_List (YieldsList-from_slice c.args.lengths.now cc) c.requires) c.map.ensures.closure (omega arith)
    (λ x r q k. search rules)

pub returns : goal.returns
returns c =
    let l = c.args.lengths.now in
    sum_by_from_yields_List (λ n. n) l c.map.result _ c.sum.ensures.ran
    (YieldsList-from_map _ (λ n. n) (YieldsList-from_slice l cc) c.map.ensures.closure (λ x r q k. search rules))
    ∙ by_sum l
