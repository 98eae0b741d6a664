-- What the answer of `check_report` says of a report: of one that it refuses, and of one that it lets pass. Assumes nothing.
use Rattle.std.specs.Prelude.{◌≡◌, List, ℕ, ◌-◌, ◌≤◌, length, Ok}
use Rattle.std.proofs.Common.{sym, ap, ◌∙◌, arith}
use Rattle.octets.specs.Number.{number_at}
use Rattle.algorithm.specs.declared.hashes.Hash.TheVariants.{Sha256}
use Rattle.algorithm.specs.Answers.{number_of}
use Rattle.algorithm.specs.Answers.Laws.{refusal_not_done}
use Rattle.algorithm.specs.declared.refusals.Refusal.{Refusal}
use Rattle.algorithm.specs.Refusals.{done}
use Rattle.algorithm.specs.Checks.{first_failing}
use Rattle.algorithm.specs.Checks.Laws.{done_work}
use Rattle.report.specs.Layout.{live_of}
use Rattle.report.specs.Reading.{hash_in, tag_size_in, tag_start, sites_in, read_checks}
use Rattle.report.specs.Inside.{Passed, Checked, stopped, checked_by, checked_of}
use Rattle.report.specs.Reading.Laws.{passed}
use Rattle.report.specs.declared.checks.Checked as checks

-- a report that is refused
module _ (s : List ℕ) (f : Refusal) (e : stopped (number_of f) ≡ checked_of s) where
  pub number : number_of f ≡ first_failing (read_checks s)
  number = ap (λ (x : Checked). x.number) e

  pub refuses : first_failing (read_checks s) ≡ done → ⊥
  refuses d = refusal_not_done f (number ∙ d)

-- it passed, and this was found out
pub record Read (s : List ℕ) (r : checks.Checked) : Type 0 where
  pub passes : Passed s
  pub hash : r.hash ≡ hash_in s
  pub end : r.end ≡ tag_start s
  pub sites : r.sites ≡ number_at s 43 2
  pub live : r.live ≡ live_of (sites_in s).1

pub read : (s : List ℕ) (r : checks.Checked) → checked_by (Ok r) ≡ checked_of s → Read s r
read s r e =
    let n : first_failing (read_checks s) ≡ done = sym (ap (λ (x : Checked). x.number) e) in
    record {
      passes = passed s n;
      hash = ap (λ (x : Checked). x.hash) e ∙ done_work (read_checks s) (hash_in s) Sha256 n;
      end = ap (λ (x : Checked). x.end) e ∙ done_work (read_checks s) (tag_start s) 0 n;
      sites = ap (λ (x : Checked). x.sites) e ∙ done_work (read_checks s) (number_at s 43 2) 0 n;
      live = ap (λ (x : Checked). x.live) e ∙ done_work (read_checks s) (live_of (sites_in s).1) 0 n;
    }

-- the tag of such a report stands after 45 bytes
module _ (s : List ℕ) {r : checks.Checked} (p : Read s r) where
  pub end_low : 45 ≤ r.end
  end_low = omega (arith, p.end, p.passes.tag_fits)

  pub end_high : r.end ≤ length s
  end_high = omega (arith, p.end)

  pub tag_size_lem : length s - tag_start s ≡ tag_size_in s
  tag_size_lem = omega (arith, p.passes.tag_fits)
