-- `report::sites::label`: the part that `site` points to. Assumes nothing.
use Rattle.std.proofs.Common.{◌≡◌, sym, ap, subst, ◌∙◌, List, ℕ, ◌+◌, ◌-◌, take, drop, arith}
use Rattle.report.specs.Calls.{SiteAt, label_answer, site_answer, Points}
use Rattle.report.specs.Calls.Laws.{label_number, label_points}
use Rattle.algorithm.specs.Answers.Laws.{passed_on}
use Rattle.report.proofs.sites.label.Goals as goal

-- what `site` answered has the number of the label, and points to it
module _ (s : List ℕ) (place : ℕ) {r : SiteAt} (e : r ≡ site_answer s place) where
  number_is : r.number ≡ (label_answer s place).0
  number_is = ap (λ (x : SiteAt). x.number) e ∙ sym (label_number s place)

  points : Points s (label_answer s place).1 r
  points = subst (Points s (label_answer s place).1) (sym e) (label_points s place)

pub returns-in_err-at : goal.returns-in_err-at
returns-in_err-at c =
    let s = c.args.report.now in
    let n = number_is s c.args.place c.in_err-at.ensures in
    let none = (points s c.args.place c.in_err-at.ensures).is in
    rw (passed_on c.from_residual.ensures.1) (λ i. (n i, none i))

pub overflow_add-result : goal.overflow_add-result
overflow_add-result c = omega (arith, (points c.args.report.now c.args.place c.in_ok-at.ensures).room)

pub slice_bounds-result-end : goal.slice_bounds-result-end
slice_bounds-result-end c = omega (arith, (points c.args.report.now c.args.place c.in_ok-at.ensures).room)

pub returns : goal.returns
returns c =
    let s = c.args.report.now in
    let r = c.in_ok-at.at in
    let n = number_is s c.args.place c.in_ok-at.ensures in
    let size : (r.start + r.length) - r.start ≡ r.length = omega arith in
    let part = ap (λ (k : ℕ). take k (drop r.start s)) size ∙ (points s c.args.place c.in_ok-at.ensures).is in
    λ i. (n i, part i)
