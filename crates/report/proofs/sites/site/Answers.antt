-- `report::sites::site`: by what the checks say, then by whether there is such a place. Assumes nothing.
use Rattle.std.proofs.Common.{◌≡◌, sym, ap, ◌∙◌, List, ℕ, ◌<◌, length, take, arith}
use Rattle.octets.specs.Number.{number_at}
use Rattle.octets.specs.Number.Laws.{number_front}
use Rattle.report.specs.Layout.{Site}
use Rattle.report.specs.Reading.{sites_in}
use Rattle.report.specs.Calls.Laws.{site_refused, site_none, site_there, sites_body}
use Rattle.report.specs.Calls.{refused_site, found_site}
use Rattle.report.specs.Inside.{body_sites, Standing}
use Rattle.report.specs.declared.checks.Checked.{Checked}
use Rattle.report.proofs.Checked.{Read, number, refuses, read, end_low}
use Rattle.algorithm.specs.Answers.Laws.{passed_on}
use Rattle.report.proofs.sites.site.Goals as goal

-- the sites of the body that is lent are those of the report
lent : (s : List ℕ) {r : Checked} → Read s r → body_sites (take r.end s) ≡ sites_in s
lent s p = ap (λ (n : ℕ). body_sites (take n s)) p.end ∙ sites_body s p.passes

standing : (s : List ℕ) {r : Checked} (place : ℕ) → Read s r → place < r.sites → Standing (take r.end s) place
standing s {r} place p l =
    let n : number_at (take r.end s) 43 2 ≡ number_at s 43 2 = number_front r.end 43 2 s (end_low s p) in
    record { reads = ap (λ (w : ℕ × List Site). w.0) (lent s p) ∙ p.passes.placed; there = omega (arith, n, p.sites) }

pub returns-in_err-checked : goal.returns-in_err-checked
returns-in_err-checked c =
    let s = c.args.report.now in
    let f = c.in_err-checked.field-0.0 in
    let e = c.in_err-checked.ensures in
    rw (passed_on c.from_residual.ensures.1) (ap refused_site (number s f e) ∙ sym (site_refused s c.args.place (refuses s f e)))

pub returns-then-checked-place : goal.returns-then-checked-place
returns-then-checked-place c =
    let s = c.args.report.now in
    let p = read s c.in_ok-checked.checked c.in_ok-checked.ensures in
    sym (site_none s c.args.place p.passes (omega (arith, p.sites, p.passes.sites)))

pub found-requires : goal.found-requires
found-requires c =
    let s = c.args.report.now in
    standing s c.args.place (read s c.in_ok-checked.checked c.in_ok-checked.ensures) (omega arith)

pub returns : goal.returns
returns c =
    let s = c.args.report.now in
    let p = read s c.in_ok-checked.checked c.in_ok-checked.ensures in
    let there : c.args.place < length (sites_in s).1 = omega (arith, p.sites, p.passes.sites) in
    c.found.ensures ∙ ap (λ (w : ℕ × List Site). found_site w.1 c.args.place) (lent s p) ∙ sym (site_there s c.args.place p.passes there)
