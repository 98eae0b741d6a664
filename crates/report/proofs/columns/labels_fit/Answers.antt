-- `report::columns::labels_fit`: what `all` answers of every length. Assumes nothing.
use Rattle.std.proofs.Common.{◌≡◌, refl, ap, ◌∙◌, Bool, ◌&&◌, ℕ, List, [], ◌∷◌, rules, tests}
use Rattle.std.specs.List.{list_all}
use Rattle.std.proofs.lemmas.Iterator.{YieldsList-from_slice}
use Rattle.std.proofs.lemmas.Iterator.Search.{all_from_yields_List}
use Rattle.octets.specs.Every.{every}
use Rattle.report.specs.Writing.{label_fits}
use Rattle.report.proofs.columns.labels_fit.Goals as goal

all_every : (p : ℕ → Bool) (l : List ℕ) → list_all p l ≡ every p l
unfolding every
all_every p [] = refl
all_every p (x ∷ l) = ap (λ (b : Bool). p x && b) (all_every p l)

pub returns : goal.returns
returns c =
    let l = c.args.lengths.now in
    all_from_yields_List label_fits _ _ _ c.all.ensures.ran (YieldsList-from_slice l cc) (λ x b q k. search (rules, tests))
    ∙ all_every label_fits l
