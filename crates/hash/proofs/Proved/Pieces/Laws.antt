-- Proved: laws of a run of pieces: refused ones change nothing, and from a start it ends as the one-piece digest of the bytes taken.
-- Assumes nothing.
use Rattle.std.specs.Prelude.{◌≡◌, ℕ, ◌+◌, ◌≤◌, true, cond, List, [], ◌∷◌, ◌++◌, length, drop, ◌==◌, ◌≢◌}
use Rattle.std.proofs.Common.{sym, ◌∙◌, zero-add, arith}
use Rattle.std.proofs.Math.Path.{ap}
use mathlib.Core.List.{append-nil}
use Rattle.std.proofs.Math.Decide.{ℕ_discrete, dec_le}
use Rattle.algorithm.specs.declared.hashes.Hash.{Hash}
use Rattle.algorithm.specs.Hashes.{names, hash_of, size_of}
use Rattle.algorithm.specs.Refusals.{done, most_bytes}
use Rattle.hash.specs.Digest.{digest_of}
use Rattle.hash.specs.State.{sound_of, Held, fresh_of, after_of, end_of}
use Rattle.hash.specs.State.Laws.{after_nothing, after_append, after_held, after_hash, after_count, fresh_hash, fresh_count, sound_count, end_fresh}
use Rattle.hash.specs.Calls.{Started, Fed, started, fed, start_checks, digest_checks, start_of, update_of, finish_of, digest_answer}
use Rattle.algorithm.specs.Checks.{first_failing, written}
use Rattle.algorithm.specs.Checks.Pass.{and}
use Rattle.algorithm.specs.Checks.Laws.{append_refuses, answered_refused}
use Rattle.hash.proofs.Proved.Calls.Laws.{start_accepted, start_done, start_held, update_accepted, update_too_long, finish_accepted, finish_wrong_size, digest_too_long, digest_accepted, digest_wrong_size}
use Rattle.algorithm.specs.Pieces.{Taking, after_all, taken_of, Cut}
use Rattle.algorithm.specs.Pieces.Laws.{after_all_lem, all_held, cut_taken}
use Rattle.hash.specs.Pieces.{given, work}
use Rattle.hash.specs.declared.state.State.{State}

-- what the laws of a run need to know of a state
pub taking : Taking work
taking = record {
  taken = λ s p h l. ap both (update_accepted s p h.sound l);
  too_long = λ s p h l. ap both (update_too_long s p h.sound l);
  after_nothing = after_nothing;
  after_append = λ s p q h. after_append s p h.waiting_size q;
  after_count = after_count;
  after_held = after_held;
}
  where
    both : Fed → ℕ × State
    both r = (r.number, r.state)

-- from an accepted start, after any pieces, finish answers what the one-piece call answers for the bytes taken
pub pieces_finish : (n : ℕ) (ps : List (List ℕ)) (out : List ℕ) → names n ≡ true
    → finish_of (after_all given (start_of n).state ps) out ≡ digest_answer n (taken_of given (start_of n).state ps) out
pieces_finish n ps out named =
    let h : Hash = hash_of n in
    let s : State = (start_of n).state in
    let m : List ℕ = taken_of given s ps in
    let f : s ≡ fresh_of h = ap (λ (r : Started). r.state) (start_accepted n named) in
    let held : Held (after_all given s ps) = all_held taking ps s (start_held n) in
    let e : after_all given s ps ≡ after_of (fresh_of h) m = after_all_lem taking ps s (start_held n) ∙ ap (λ (t : State). after_of t m) f in
    let hash : (after_all given s ps).hash ≡ h = ap (λ (t : State). t.hash) e ∙ after_hash (fresh_of h) m ∙ fresh_hash h in
    let count : (after_all given s ps).count ≡ length m =
    ap (λ (t : State). t.count) e ∙ after_count (fresh_of h) m ∙ ap (λ (k : ℕ). k + length m) (fresh_count h) ∙ zero-add (length m)
    in
    let fits : length m ≤ most_bytes = omega (arith, sound_count (after_all given s ps) held.sound) in
    let size : size_of (after_all given s ps).hash ≡ size_of h = ap size_of hash in
    elim (ℕ_discrete (length out) (size_of h)) [
      | yes l ↦
          finish_accepted (after_all given s ps) out held.sound (l ∙ sym size)
          ∙ ap (written done) (ap end_of e ∙ end_fresh h m)
          ∙ sym (digest_accepted n m out named fits l)
      | no l ↦
          finish_wrong_size (after_all given s ps) out held.sound (λ q. l (q ∙ size))
          ∙ sym (digest_wrong_size n m out named fits l)
    ]

-- a message that fits, cut anywhere, with refused pieces between, has the digest that it has in one piece
pub cut_digest : (n : ℕ) → names n ≡ true → {ps : List (List ℕ)} {m : List ℕ} → Cut 0 ps m → (out : List ℕ)
    → finish_of (after_all given (start_of n).state ps) out ≡ digest_answer n m out
cut_digest n named {ps} cut out =
    let none : (start_of n).state.count ≡ 0 = ap (λ (r : Started). r.state.count) (start_accepted n named) ∙ fresh_count (hash_of n) in
    pieces_finish n ps out named ∙ ap (λ (l : List ℕ). digest_answer n l out) (cut_taken taking cut (start_of n).state (start_held n) none)

-- a message in one piece, by a start, a piece and the end, as each answers: what the first refusal leaves, and what the end answers
module _ (n : ℕ) (m out : List ℕ) where
  pub start_refuses : {k : ℕ} {s : State} → (k ≢ done) → started k s ≡ start_of n → written k out ≡ digest_answer n m out
  unfolding start_of digest_answer
  start_refuses {k} z e =
      let f : k ≡ first_failing (start_checks n) = ap (λ (r : Started). r.number) e in
      let first = append_refuses (start_checks n) (drop 1 (digest_checks n m out)) (λ d. z (f ∙ d)) in
      sym (answered_refused (digest_checks n m out) (digest_of (hash_of n) m) out k (first ∙ sym f) z)

  started_names : (start_of n).number ≡ done → names n ≡ true
  started_names z = elim ((start_done n).0 z) [ and h p ↦ h ]

  module _ {s : State} (e : started done s ≡ start_of n) where
    named : names n ≡ true
    named = started_names (sym (ap (λ (r : Started). r.number) e))

    began : s ≡ (start_of n).state
    began = ap (λ (r : Started). r.state) e

    pub piece_refuses : {k : ℕ} {t : State} → (k ≢ done) → fed k t ≡ update_of s m → written k out ≡ digest_answer n m out
    piece_refuses z u =
        let sound : sound_of s ≡ true = rw began (start_held n).sound in
        let none : s.count ≡ 0 = ap (λ (r : Started). r.state.count) (e ∙ start_accepted n named) ∙ fresh_count (hash_of n) in
        elim (dec_le (s.count + length m) most_bytes) [
          | yes l ↦ absurd (z (ap (λ (r : Fed). r.number) (u ∙ update_accepted s m sound l)))
          | no l ↦
              ap (λ (r : Fed). written r.number out) (u ∙ update_too_long s m sound (omega arith))
              ∙ sym (digest_too_long n m out named (omega arith))
        ]

    pub end_answers : {t : State} → fed done t ≡ update_of s m → finish_of t out ≡ digest_answer n m out
    unfolding after_all taken_of
    end_answers {t} u =
        let g : fed done t ≡ update_of (start_of n).state m = rw began at u in
        let all : cond ((update_of (start_of n).state m).number == done) m [] ++ [] ≡ m =
        ap (λ (r : Fed). cond (r.number == done) m [] ++ []) (sym g) ∙ append-nil m
        in
        ap (λ (r : Fed). finish_of r.state out) g ∙ pieces_finish n (m ∷ []) out named ∙ ap (λ (l : List ℕ). digest_answer n l out) all
