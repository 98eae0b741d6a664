-- Proved: no second outcome: what meets the outcome predicate of a call, as its contract cites it, is one; and no second answer of the
-- code comes to one outcome. Assumes nothing.
use Rattle.std.specs.Prelude.{◌≡◌, List, ℕ, Result, Ok, Err}
use Rattle.std.proofs.Common.{sym, ap}
use Rattle.algorithm.specs.declared.refusals.Refusal.{Refusal}
use Rattle.algorithm.specs.Answers.Laws.{refusal_not_done, refusal_unique, valued_unique}
use Rattle.algorithm.specs.Checks.Laws.{one_outcome}
use Rattle.report.specs.Calls.{Reading, SiteAt, Written, reading_by, site_by, written_by, ReadOutcome, ReadIntoOutcome, SiteOutcome, SiteIntoOutcome, LabelOutcome, CheckOutcome, FingerprintOutcome, KeysOutcome, WriteOutcome}
use Rattle.report.specs.Writing.{Columns}
use Rattle.report.specs.declared.reading.Reading as reading
use Rattle.report.specs.declared.sites.SiteAt as sites
use Rattle.report.specs.declared.writing.Heading.{Heading}

pub read_unique : (s : List ℕ) (r r' : Reading) → ReadOutcome s r → ReadOutcome s r' → r ≡ r'
read_unique s r r' = one_outcome

pub read_into_unique : (s fields : List ℕ) (r r' : ℕ) (o o' : List ℕ)
    → ReadIntoOutcome s fields r o → ReadIntoOutcome s fields r' o' → ◌≡◌ {A = ℕ × List ℕ} (r, o) (r', o')
read_into_unique s fields r r' o o' = one_outcome

pub site_into_unique : (s : List ℕ) (place : ℕ) (numbers : List ℕ) (r r' : ℕ) (o o' : List ℕ)
    → SiteIntoOutcome s place numbers r o → SiteIntoOutcome s place numbers r' o' → ◌≡◌ {A = ℕ × List ℕ} (r, o) (r', o')
site_into_unique s place numbers r r' o o' = one_outcome

pub site_unique : (s : List ℕ) (place : ℕ) (r r' : SiteAt) → SiteOutcome s place r → SiteOutcome s place r' → r ≡ r'
site_unique s place r r' = one_outcome

pub label_unique : (s : List ℕ) (place r r' : ℕ) (part part' : List ℕ)
    → LabelOutcome s place r part → LabelOutcome s place r' part' → ◌≡◌ {A = ℕ × List ℕ} (r, part) (r', part')
label_unique s place r r' part part' = one_outcome

pub check_unique : (s key : List ℕ) (r r' : ℕ) → CheckOutcome s key r → CheckOutcome s key r' → r ≡ r'
check_unique s key r r' = one_outcome

pub fingerprint_unique : (s key out : List ℕ) (r r' : ℕ) (o o' : List ℕ)
    → FingerprintOutcome s key out r o → FingerprintOutcome s key out r' o' → ◌≡◌ {A = ℕ × List ℕ} (r, o) (r', o')
fingerprint_unique s key out r r' o o' = one_outcome

pub keys_unique : (n : ℕ) (prk : List ℕ) (tenant machine : ℕ) (out : List ℕ) (r r' : ℕ) (o o' : List ℕ)
    → KeysOutcome n prk tenant machine out r o → KeysOutcome n prk tenant machine out r' o' → ◌≡◌ {A = ℕ × List ℕ} (r, o) (r', o')
keys_unique n prk tenant machine out r r' o o' = one_outcome

pub write_unique : (h : Heading) (c : Columns) (key out : List ℕ) (r r' : Written) (o o' : List ℕ)
    → WriteOutcome h c key out r o → WriteOutcome h c key out r' o' → ◌≡◌ {A = Written × List ℕ} (r, o) (r', o')
write_unique h c key out r r' o o' = one_outcome

-- two answers of the code that are one reading, one site, or one number and length, are one
pub read_answer_unique : (r r' : Result reading.Reading Refusal) → reading_by r ≡ reading_by r' → r ≡ r'
read_answer_unique (Ok x) (Ok y) h =
    ap (λ (v : Reading). Ok (record {
      count = v.count;
      version = v.version;
      hash = v.hash;
      tenant = v.tenant;
      machine = v.machine;
      report = v.report;
      sent = v.sent;
      attempt = v.attempt;
      memory = v.memory;
      sites = v.sites;
      live = v.live;
    })) h
read_answer_unique (Ok x) (Err f) h = absurd (refusal_not_done f (sym (ap (λ (v : Reading). v.number) h)))
read_answer_unique (Err e) (Ok y) h = absurd (refusal_not_done e (ap (λ (v : Reading). v.number) h))
read_answer_unique (Err e) (Err f) h = ap Err (refusal_unique e f (ap (λ (v : Reading). v.number) h))

pub site_answer_unique : (r r' : Result sites.SiteAt Refusal) → site_by r ≡ site_by r' → r ≡ r'
site_answer_unique (Ok x) (Ok y) h = ap (λ (v : SiteAt). Ok (record { start = v.start; length = v.length; live = v.live; blocks = v.blocks })) h
site_answer_unique (Ok x) (Err f) h = absurd (refusal_not_done f (sym (ap (λ (v : SiteAt). v.number) h)))
site_answer_unique (Err e) (Ok y) h = absurd (refusal_not_done e (ap (λ (v : SiteAt). v.number) h))
site_answer_unique (Err e) (Err f) h = ap Err (refusal_unique e f (ap (λ (v : SiteAt). v.number) h))

pub write_answer_unique : (r r' : Result ℕ Refusal) → written_by r ≡ written_by r' → r ≡ r'
write_answer_unique r r' h = valued_unique 0 r r' (ap (λ (w : Written). (w.number, w.length)) h)
