-- `octets::zero::all_zero` meets its contract: the bits gathered so far are 0 exactly where every byte so far is. Assumes nothing.
use Rattle.std.proofs.Common.{◌≡◌, subst, refl, eqb, rules}
use Rattle.std.proofs.lemmas.Fn.{fold_over, slice_gives, fronts}
use Rattle.octets.specs.Every.{every, all_zero}
use Rattle.octets.proofs.Bits.{or_more}
use Rattle.octets.proofs.zero.all_zero.Goals as goal

pub returns : goal.returns
unfolding every
returns c =
    subst (λ l. eqb c.fold.result 0 ≡ all_zero l) c.iter.ensures.rest
    (fold_over fronts (λ y. y.now) _ (λ ys bits. eqb bits 0 ≡ all_zero ys) _ (λ ys a x b f' j k. let more = or_more a ys x.now j in search rules)
    _ _ _ _ (slice_gives c.iter.result) refl c.fold.ensures.ran)
