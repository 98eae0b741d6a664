-- `report::lists::site_into`: what `site` answers, then the size of the list. Assumes nothing.
use Rattle.std.proofs.Common.{◌≡◌, sym, ap, ◌∙◌, List, ℕ, length, take, arith}
use Rattle.octets.specs.Copy.{over}
use Rattle.octets.specs.Copy.Laws.{over_long}
use Rattle.algorithm.specs.Answers.Laws.{refusal_not_done, passed_on}
use Rattle.algorithm.specs.Refusals.{done}
use Rattle.algorithm.specs.Checks.{first_failing, written}
use Rattle.report.specs.Reading.{sites_in}
use Rattle.report.specs.Calls.{SiteAt, place_checks, site_answer, site_list, site_numbers}
use Rattle.report.specs.Calls.Laws.{site_number, site_found, site_into_refused, site_into_wrong_size, site_into_accepted}
use Rattle.report.proofs.lists.site_into.Goals as goal

module _ (s : List ℕ) (place : ℕ) {r : SiteAt} (e : r ≡ site_answer s place) where
  number_is : r.number ≡ first_failing (place_checks s place)
  number_is = ap (λ (x : SiteAt). x.number) e ∙ site_number s place

  -- the list of a site that is found fills four places
  filled : (numbers : List ℕ) → length numbers ≡ 4 → first_failing (place_checks s place) ≡ done → over (site_list r) numbers ≡ site_numbers (sites_in s).1 place
  filled numbers n d =
      over_long (site_list r) numbers (omega arith)
      ∙ ap (λ (k : ℕ). take k (site_list r)) n
      ∙ ap site_list (e ∙ site_found s place d)

pub returns-in_err-found : goal.returns-in_err-found
returns-in_err-found c =
    let s = c.args.report.now in
    let f = c.in_err-found.field-0.0 in
    let e = number_is s c.args.place c.in_err-found.ensures in
    rw (passed_on c.from_residual.ensures.1)
    (ap (λ (n : ℕ). written n c.args.numbers.now) e ∙ sym (site_into_refused s c.args.place c.args.numbers.now (λ d. refusal_not_done f (e ∙ d))))

pub returns-then-numbers-ne-SITE : goal.returns-then-numbers-ne-SITE
returns-then-numbers-ne-SITE c =
    let s = c.args.report.now in
    sym (site_into_wrong_size s c.args.place c.args.numbers.now (sym (number_is s c.args.place c.in_ok-found.ensures)) c.if-numbers-ne-SITE.true)

pub returns : goal.returns
returns c =
    let s = c.args.report.now in
    let numbers = c.args.numbers.now in
    let d = sym (number_is s c.args.place c.in_ok-found.ensures) in
    let size = c.if-numbers-ne-SITE.false in
    ap (written done) (rw c.from.ensures at c.copy_prefix.ensures ∙ filled s c.args.place c.in_ok-found.ensures numbers size d)
    ∙ sym (site_into_accepted s c.args.place numbers d size)
