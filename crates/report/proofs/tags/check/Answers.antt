-- `report::tags::check`: reading, the key's checks, then the tag. Assumes nothing.
use Rattle.std.proofs.Common.{◌≡◌, refl, sym, ap, ◌∙◌, true, cond, List, ℕ, ◌-◌, ◌≤◌, length, take, drop, length-drop, arith}
use Rattle.octets.specs.Number.{number_at}
use Rattle.octets.specs.Parts.{part_all}
use Rattle.octets.specs.Same.{equal}
use Rattle.algorithm.specs.declared.hashes.Hash.{Hash}
use Rattle.algorithm.specs.Answers.Laws.{refusal_not_done, passed_on}
use Rattle.algorithm.specs.Hashes.{hash_number, hash_of, block_of, allowed}
use Rattle.algorithm.specs.Hashes.Laws.{block_most, number_names, number_back}
use Rattle.algorithm.specs.Refusals.{done, tag_differs, most_bytes}
use Rattle.algorithm.specs.Checks.{first_failing}
use Rattle.hmac.specs.Hmac.{tag_of}
use Rattle.hmac.specs.Calls.{verify_message_answer}
use Rattle.hmac.specs.Calls.Laws.{verify_message_compared}
use Rattle.report.specs.Reading.{hash_in, tag_size_in, tag_start, before_tag}
use Rattle.report.specs.Reading.Laws.{short}
use Rattle.report.specs.Calls.{key_checks, check_answer}
use Rattle.report.specs.Calls.Laws.{tag_allowed, key_fits, check_refused, check_key, check_compared}
use Rattle.report.specs.declared.checks.Checked.{Checked}
use Rattle.report.proofs.Checked.{Read, number, refuses, read, tag_size_lem}
use Rattle.report.proofs.tags.check.Goals as goal

-- what HMAC says of a report that passes and a key that does
verified : (s key : List ℕ) {r : Checked} → Read s r → first_failing (key_checks key) ≡ done → {v : ℕ}
    → {n : ℕ} → n ≡ hash_number r.hash → v ≡ verify_message_answer n key (take (r.end - 0) s) (length s - r.end) (take (length s - r.end) (drop r.end s)) → v ≡ check_answer s key
verified s key {r} p d en e =
    let all : r.end - 0 ≡ tag_start s = omega (arith, p.end) in
    let n : ℕ = hash_number r.hash in
    let at : ℕ = tag_start s in
    let t : ℕ = tag_size_in s in
    let tag : List ℕ = drop at s in
    let h : hash_of n ≡ hash_in s = number_back r.hash ∙ p.hash in
    let fits : length (before_tag s) ≤ most_bytes - block_of (hash_of n) = omega (arith, short s p.passes, block_most (hash_of n)) in
    let asked : allowed (hash_of n) t ≡ true = ap (λ (x : Hash). allowed x t) h ∙ tag_allowed (number_at s 5 1) in
    e
    ∙ (λ j. verify_message_answer (en j) key (take (all j) s) (length s - p.end j) (take (length s - p.end j) (drop (p.end j) s)))
    ∙ (λ j. verify_message_answer n key (before_tag s) (tag_size_lem s p j) (part_all s (length s) at refl j))
    ∙ verify_message_compared n key (before_tag s) t tag (number_names r.hash) (key_fits key d) fits asked (length-drop at s ∙ tag_size_lem s p)
    ∙ ap (λ (x : Hash). cond (equal tag (tag_of x key t (before_tag s))) done tag_differs) h
    ∙ sym (check_compared s key p.passes d)

pub returns-in_err-checked : goal.returns-in_err-checked
returns-in_err-checked c =
    let s = c.args.report.now in
    let f = c.in_err-checked.field-0.0 in
    let e = c.in_err-checked.ensures in
    rw (passed_on c.from_residual.ensures.1) (number s f e ∙ sym (check_refused s c.args.tag_key.now (refuses s f e)))

pub returns-in_err-check_key : goal.returns-in_err-check_key
returns-in_err-check_key c =
    let s = c.args.report.now in
    let p = read s c.in_ok-checked.checked c.in_ok-checked.ensures in
    let f = c.in_err-check_key.field-0.0 in
    let e = c.in_err-check_key.ensures in
    rw (passed_on c.from_residual-in_err-check_key.ensures.1) (e ∙ sym (check_key s c.args.tag_key.now p.passes (λ d. refusal_not_done f (e ∙ d))))

pub returns : goal.returns
returns c =
    let s = c.args.report.now in
    let p = read s c.in_ok-checked.checked c.in_ok-checked.ensures in
    verified s c.args.tag_key.now p (sym c.in_ok-check_key.ensures) c.into.ensures c.verify_message.ensures
