-- Laws of the hash after some bytes from the start on, from what its calls ensure. Assumes nothing.
use Rattle.std.specs.Result.{is_ok}
use Rattle.std.proofs.Common.{◌≡◌, ℕ, ◌+◌, ◌≤◌, true, List, length, Result, ap, arith, ◌∙◌}
use Rattle.algorithm.specs.Answers.{number}
use Rattle.algorithm.specs.Answers.Laws.{done_ok}
use Rattle.algorithm.specs.declared.hashes.Hash.{Hash}
use Rattle.algorithm.specs.declared.refusals.Refusal.{Refusal}
use Rattle.algorithm.specs.Hashes.Laws.{digest_most}
use Rattle.algorithm.specs.Refusals.{done, most_bytes}
use Rattle.hash.specs.Digest.{digest_of}
use Rattle.hash.specs.Digest.Laws.{digest_length}
use Rattle.hash.specs.State.{sound_of, fresh_of, after_of}
use Rattle.hash.specs.State.Laws.{fresh_held, fresh_count, after_held}
use Rattle.hash.specs.Calls.{Fed, fed, UpdateOutcome, update_of}
use Rattle.hash.proofs.Proved.Calls.Laws.{update_accepted}
use Rattle.hash.specs.declared.state.State.{State}

-- a piece that fits is taken, from a state that is known by another name
pub takes : (s : State) (p : List ℕ) → sound_of s ≡ true → s.count + length p ≤ most_bytes
    → {s' : State} {p' : List ℕ} (r : Result Unit Refusal) {t : State} → s' ≡ s → p' ≡ p → UpdateOutcome s' p' (fed (number r) t)
    → (is_ok r ≡ true) × (t ≡ after_of s p)
takes s p sound fits {s'} {p'} r {t} es ep o =
    let e : fed (number r) t ≡ fed done (after_of s p) = o ∙ (λ i. update_of (es i) (ep i)) ∙ update_accepted s p sound fits in
    (done_ok r (ap (λ (f : Fed). f.number) e), ap (λ (f : Fed). f.state) e)

-- and so is one from the start on
pub took : (h : Hash) (m : List ℕ) → length m ≤ most_bytes → {s : State} (r : Result Unit Refusal) {t : State} → s ≡ fresh_of h
    → UpdateOutcome s m (fed (number r) t)
    → (is_ok r ≡ true) × (t ≡ after_of (fresh_of h) m)
took h m l r es o = takes (fresh_of h) m (fresh_held h).sound (omega (arith, fresh_count h)) r es (λ i. m) o

pub took_sound : (h : Hash) (m : List ℕ) → length m ≤ most_bytes → sound_of (after_of (fresh_of h) m) ≡ true
took_sound h m l = (after_held (fresh_of h) m (fresh_held h) (omega (arith, fresh_count h))).sound

pub digest_room : (h : Hash) (m : List ℕ) → length (digest_of h m) ≤ 64
digest_room h m = omega (arith, digest_length h m, digest_most h)
