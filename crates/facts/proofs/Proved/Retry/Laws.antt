-- Proved: a retry keeps its fingerprint, the bytes that its tag covers change with the send time and the attempt, and an example shows
-- that there are such reports. Assumes nothing.
use Rattle.std.specs.Prelude.{◌≡◌, refl, ◌↔◌, List, ℕ, length}
use Rattle.std.proofs.Common.{sym, ap, ◌∙◌}
use Rattle.std.proofs.Math.Decide.{ℕ_discrete}
use Rattle.octets.specs.Number.{number, onto}
use Rattle.octets.specs.Every.{every}
use Rattle.algorithm.specs.declared.hashes.Hash.{Hash}
use Rattle.algorithm.specs.Refusals.{done}
use Rattle.algorithm.specs.Checks.{first_failing, written}
use Rattle.hmac.specs.Hmac.{tag_of}
use Rattle.report.specs.Layout.{Fields, bytes_of, live_of}
use Rattle.report.specs.Reading.{hash_named, hash_in, before_tag, read_sites, read_of}
use Rattle.report.specs.Reading.Laws.{read_fields, well_formed_passed, layout}
use Rattle.report.specs.Fingerprint.{message_of, fingerprint_of}
use Rattle.report.proofs.Proved.Fingerprint.Laws.{messages_same}
use Rattle.report.specs.Calls.{key_checks, fingerprint_answer}
use Rattle.report.specs.Calls.Laws.{fingerprint_key_lem, fingerprint_wrong_size, fingerprint_accepted}
use Rattle.facts.proofs.Proved.Demand.Laws.{demand_3}
use Rattle.facts.specs.Retry.{SentAgain, Retry, smallest_with}

module _ (s t : List ℕ) (a : SentAgain s t) where
  -- both name one hash and share the fingerprint's message, and so the fingerprint
  hash_same : hash_in s ≡ hash_in t
  hash_same =
      let named : Fields → Hash = λ f. hash_named f.hash in
      ap named (sym (read_fields s a.first.reads)) ∙ ap hash_named a.agree.hash ∙ ap named (read_fields t a.second.reads)

  fingerprint_same : (key : List ℕ) → fingerprint_of s key ≡ fingerprint_of t key
  fingerprint_same key =
      let messages : message_of s ≡ message_of t = (messages_same s t a.first a.second).1 a.agree in
      λ i. tag_of (hash_same i) key 32 (messages i)

  -- the checks of the key and of the output, in which the report plays no part, decide for both alike
  answer_same : (key out : List ℕ) → fingerprint_answer s key out ≡ fingerprint_answer t key out
  answer_same key out =
      let p = well_formed_passed s a.first in
      let q = well_formed_passed t a.second in
      elim (ℕ_discrete (first_failing (key_checks key)) done) [
        | no z ↦ fingerprint_key_lem s key out p z ∙ sym (fingerprint_key_lem t key out q z)
        | yes d ↦ elim (ℕ_discrete (length out) 32) [
          | no z ↦ fingerprint_wrong_size s key out p d z ∙ sym (fingerprint_wrong_size t key out q d z)
          | yes e ↦
              fingerprint_accepted s key out p d e ∙ ap (written done) (fingerprint_same key) ∙ sym (fingerprint_accepted t key out q d e)
        ]
      ]

  -- the bytes before a tag are read as all fields, and all fields spell them
  tagged_same : before_tag s ≡ before_tag t ↔ (((read_of s).1.sent ≡ (read_of t).1.sent) × ((read_of s).1.attempt ≡ (read_of t).1.attempt))
  tagged_same = (
    λ e. let reads = demand_3.tag_no_field s t a.first e in (λ i. (reads i).1.sent, λ i. (reads i).1.attempt),
    λ e.
        let fields : (read_of s).1 ≡ (read_of t).1 =
        λ i. record {
          count = a.agree.count i;
          version = a.agree.version i;
          hash = a.agree.hash i;
          tenant = a.agree.tenant i;
          machine = a.agree.machine i;
          report = a.agree.report i;
          sent = e.0 i;
          attempt = e.1 i;
          memory = a.agree.memory i;
          sites = a.agree.sites i;
        }
        in
        layout s a.first
        ∙ ap bytes_of (sym (read_fields s a.first.reads) ∙ fields ∙ read_fields t a.second.reads)
        ∙ sym (layout t a.second),
  )

pub retry : Retry
retry = record {
  fingerprint = λ s t key a. fingerprint_same s t a key;
  answer = λ s t key out a. answer_same s t a key out;
  tagged = tagged_same;
}

-- a report, and the same one sent again later with a raised attempt
pub raised_attempt : SentAgain (smallest_with 0 0) (smallest_with 1 1)
unfolding read_of read_sites live_of number onto every
raised_attempt = record {
  first = record { bytes = refl; reads = refl };
  second = record { bytes = refl; reads = refl };
  agree = record {
    count = refl;
    version = refl;
    hash = refl;
    tenant = refl;
    machine = refl;
    report = refl;
    memory = refl;
    sites = refl;
  };
}
