-- Laws of a message in one piece, from what start and update gave: the checks that refuse it, or the keyed state that has taken it.
-- Assumes nothing.
use Rattle.std.proofs.Common.{◌≡◌, ℕ, ◌+◌, ◌-◌, ◌≤◌, ◌<◌, true, List, length, Ok, Err, sym, ap, subst, ◌∙◌, arith}
use Rattle.std.proofs.Math.Decide.{dec_le}
use borrow.Author.Tests.{le-leb, lt-leb}
use Rattle.algorithm.specs.declared.refusals.Refusal.{Refusal}
use Rattle.algorithm.specs.declared.refusals.Refusal.TheVariants.{MessageTooLong}
use Rattle.algorithm.specs.Answers.{number_of}
use Rattle.algorithm.specs.Answers.Laws.{refusal_not_done}
use Rattle.algorithm.specs.Checks.{first_failing, written}
use Rattle.algorithm.specs.Checks.Laws.{append_refuses}
use Rattle.algorithm.specs.Hashes.Laws.{block_most}
use Rattle.algorithm.specs.Hashes.{names, hash_of, block_of, allowed}
use Rattle.algorithm.specs.Refusals.{done, message_too_long, most_bytes}
use Rattle.hmac.specs.Keyed.{fresh_keyed, after_keyed}
use Rattle.hmac.specs.Keyed.Laws.{keyed_held, keyed_count}
use Rattle.hmac.specs.Calls.{Started, Fed, fed, started_by, start_checks, fit_checks, taken_checks, update_of, tag_message_answer, verify_message_answer, StartOutcome, UpdateOutcome}
use Rattle.hmac.specs.Calls.Laws.{start_number, start_fresh, start_done, start_passes, update_too_long, update_accepted, tag_message_refused, verify_message_refused}
use Rattle.hmac.specs.Pieces.Laws.{fresh_message}
use Rattle.hmac.specs.Inside.{Message, Taken}
use Rattle.hmac.specs.declared.keyed.Keyed.{Keyed}

-- the keyed state of a start that took the key and the tag length, and what becomes of the message there
module _ (n : ℕ) (key m : List ℕ) (t : ℕ) {k : Keyed} (o : StartOutcome n key t (started_by (Ok k))) where
  abbrev f : Keyed
  f = fresh_keyed (hash_of n) key t

  passes : (names n ≡ true) × ((length key ≤ most_bytes) × (allowed (hash_of n) t ≡ true))
  passes = start_passes n key t ((start_done n key t).0 (sym (ap (λ (s : Started). s.number) o)))

  given : {r : Fed} → r ≡ update_of k m → r ≡ update_of f m
  given u = u ∙ ap (λ (x : Keyed). update_of x m) (ap (λ (s : Started). s.keyed) o ∙ start_fresh n key t (sym (ap (λ (s : Started). s.number) o)))

  accepted : f.count + length m ≤ most_bytes → update_of f m ≡ fed done (after_keyed f m)
  accepted g = update_accepted f m (keyed_held (hash_of n) key t passes.1.1).sound g

  too_long : most_bytes < f.count + length m → update_of f m ≡ fed message_too_long f
  too_long g = update_too_long f m (keyed_held (hash_of n) key t passes.1.1).sound g

  counted : f.count ≡ block_of (hash_of n)
  counted = keyed_count (hash_of n) key t

module _ {n : ℕ} {key m : List ℕ} {t : ℕ} where
  -- a start that refused
  pub start_refuses : {e : Refusal} → StartOutcome n key t (started_by (Err e)) → Taken n key m t (Err e)
  start_refuses {e} o =
      let i = ap (λ (r : Started). r.number) o ∙ start_number n key t in
      record {
        number = i ∙ sym (append_refuses (start_checks n key t) (fit_checks n m) (λ d. refusal_not_done e (i ∙ d)));
        whole = λ k q. cc;
      }

  -- one that did not
  module _ {k : Keyed} (o : StartOutcome n key t (started_by (Ok k))) where
    -- that takes the message
    pub message_taken : {k' : Keyed} → UpdateOutcome k m (fed done k') → Taken n key m t (Ok k')
    message_taken {k'} u =
        let room = block_most (hash_of n) in
        let c = counted n key m t o in
        let p = passes n key m t o in
        elim (dec_le ((f n key m t o).count + length m) most_bytes) [
          | yes g ↦
              let fits : length m ≤ most_bytes - block_of (hash_of n) = omega arith in
              let is : k' ≡ after_keyed (f n key m t o) m = ap (λ (r : Fed). r.keyed) (given n key m t o u ∙ accepted n key m t o g) in
              record {
                number = rw (p.0, le-leb (length key) most_bytes p.1.0, p.1.1, le-leb (length m) (most_bytes - block_of (hash_of n)) fits);
                whole = λ x q.
                    let same : k' ≡ x = cc in
                    subst (λ (y : Keyed). Message y n key m t) (sym is ∙ same) (fresh_message n key m t p.0 p.1.0 p.1.1 fits);
              }
          | no g ↦ absurd (refusal_not_done MessageTooLong (sym (ap (λ (r : Fed). r.number) (given n key m t o u ∙ too_long n key m t o (omega arith)))))
        ]

    -- or refuses it
    pub message_refused : {k' : Keyed} {e : Refusal} → UpdateOutcome k m (fed (number_of e) k') → Taken n key m t (Err e)
    message_refused {k'} {e} u =
        let room = block_most (hash_of n) in
        let c = counted n key m t o in
        let p = passes n key m t o in
        elim (dec_le ((f n key m t o).count + length m) most_bytes) [
          | yes g ↦ absurd (refusal_not_done e (ap (λ (r : Fed). r.number) (given n key m t o u ∙ accepted n key m t o g)))
          | no g ↦
              let long : message_too_long ≡ first_failing (taken_checks n key m t) =
              rw (p.0, le-leb (length key) most_bytes p.1.0, p.1.1, lt-leb (length m) (most_bytes - block_of (hash_of n)) (omega arith))
              in
              record { number = ap (λ (r : Fed). r.number) (given n key m t o u ∙ too_long n key m t o (omega arith)) ∙ long; whole = λ x q. cc }
        ]

-- so a refusal is the answer of either call on the message
module _ {n : ℕ} {key m : List ℕ} {t : ℕ} {e : Refusal} (T : Taken n key m t (Err e)) where
  pub tag_refuses : (out : List ℕ) → written (number_of e) out ≡ tag_message_answer n key m t out
  tag_refuses out = sym (tag_message_refused n key m t out T.number (refusal_not_done e))

  pub verify_refuses : (presented : List ℕ) → number_of e ≡ verify_message_answer n key m t presented
  verify_refuses presented = sym (verify_message_refused n key m t presented T.number (refusal_not_done e))
