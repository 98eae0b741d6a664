-- `report::columns::sum_live`: what `fold` makes of all live bytes. Assumes nothing.
use Rattle.std.proofs.Common.{◌≡◌, refl, sym, subst, ℕ, ◌+◌, List, [], ◌∷◌, Option, arith, rules}
use Rattle.std.specs.List.{fold}
use Rattle.std.proofs.lemmas.Iterator.{YieldsList-from_slice}
use Rattle.std.proofs.lemmas.Iterator.Consumers.{fold_from_yields_List}
use Rattle.octets.specs.Sums.{sum_of, no_sum, plus_of, SumIs}
use Rattle.octets.specs.Sums.Laws.{plus_is}
use Rattle.report.proofs.columns.sum_live.Goals as goal

all_more : (l : List ℕ) (a : Option ℕ) (t u : ℕ) → u ≡ t + sum_of l → SumIs a t → SumIs (fold plus_of a l) u
unfolding sum_of
all_more [] a t u e h = let same : t ≡ u = omega (arith, e) in subst (SumIs a) same h
all_more (x ∷ l) a t u e h = all_more l (plus_of a x) (t + x) u (omega (arith, e)) (plus_is a x t h)

pub returns : goal.returns
returns c =
    let l = c.args.live.now in
    subst (λ (s : Option ℕ). SumIs s (sum_of l))
    (sym (fold_from_yields_List _ plus_of _ _ c.fold.ensures.ran (YieldsList-from_slice l cc) (λ a x b q k. search rules)))
    (all_more l no_sum 0 (sum_of l) (omega arith) refl)
