-- `report::derivation::derive`: one key in each half of the output. Assumes nothing.
use Rattle.std.proofs.Common.{◌≡◌, ap, ◌∙◌, List, ◌++◌, ℕ, length, rules, arith}
use Rattle.algorithm.specs.declared.hashes.Hash.{Hash}
use Rattle.algorithm.specs.Hashes.{hash_number, hash_of, size_of}
use Rattle.algorithm.specs.Hashes.Laws.{number_names, number_back}
use Rattle.algorithm.specs.Refusals.{done}
use Rattle.algorithm.specs.Checks.{written}
use Rattle.algorithm.specs.Answers.Laws.{done_ok}
use Rattle.hkdf.specs.Hkdf.{expand_of}
use Rattle.hkdf.specs.Calls.{expand_answer}
use Rattle.hkdf.specs.Calls.Laws.{expand_accepted}
use Rattle.report.specs.Keys.{for_tag, for_fingerprint, info_of, key_of}
use Rattle.report.specs.Inside.{Derivable}
use Rattle.report.proofs.derivation.derive.Goals as goal

-- what expand answers, and writes into an output of a digest's size
one_key : {h : Hash} {prk out : List ℕ} → Derivable h prk out → (purpose tenant machine : ℕ) {n : ℕ} → n ≡ hash_number h
    → {info : List ℕ} → info ≡ info_of purpose tenant machine → length info ≡ 16 → (part : List ℕ) → length part ≡ size_of h → {r : ℕ} {a : List ℕ}
    → ◌≡◌ {A = ℕ × List ℕ} (r, a) (expand_answer n prk info part) → (r ≡ done) × (a ≡ key_of h prk purpose tenant machine)
one_key {h} {prk} d purpose tenant machine en {info} w i part long e =
    let back : hash_of (hash_number h) ≡ h = number_back h in
    let size = ap size_of back in
    let is =
    e
    ∙ ap (λ (k : ℕ). expand_answer k prk info part) en
    ∙ expand_accepted (hash_number h) prk info part (number_names h) d.fits (omega (arith, d.long, size)) (omega arith) (omega (arith, size))
    ∙ (λ j. written done (expand_of (back j) prk (w j) (long j)))
    in (ap (λ (x : ℕ × List ℕ). x.0) is, ap (λ (x : ℕ × List ℕ). x.1) is)

pub unwrap-requires : goal.unwrap-requires
unwrap-requires c =
    done_ok c.expand.result
    (one_key c.requires for_tag c.args.tenant c.args.machine c.into.ensures c.info-tag_info.ensures (search rules) _
    (omega (arith, c.split_at_mut-tag_key.ensures.front_len, c.digest_size.ensures)) c.expand.ensures).0

pub unwrap-requires-2 : goal.unwrap-requires-2
unwrap-requires-2 c =
    done_ok c.expand-2.result
    (one_key c.requires for_fingerprint c.args.tenant c.args.machine c.into-2.ensures c.info-fingerprint_info.ensures (search rules) _
    (omega (arith, c.split_at_mut-tag_key.ensures.back_len, c.digest_size.ensures, c.requires.room)) c.expand-2.ensures).0

pub returns : goal.returns
returns c =
    let tag = one_key c.requires for_tag c.args.tenant c.args.machine c.into.ensures c.info-tag_info.ensures (search rules) _
    (omega (arith, c.split_at_mut-tag_key.ensures.front_len, c.digest_size.ensures)) c.expand.ensures
    in
    let fingerprint = one_key c.requires for_fingerprint c.args.tenant c.args.machine c.into-2.ensures c.info-fingerprint_info.ensures (search rules) _
    (omega (arith, c.split_at_mut-tag_key.ensures.back_len, c.digest_size.ensures, c.requires.room)) c.expand-2.ensures
    in
    λ i. (tag.1 i) ++ (fingerprint.1 i)
