-- Proved: laws of the calls, for the layers above and for this crate's proofs: what each answers once its checks are known. Assumes
-- nothing.
use Rattle.std.specs.Prelude.{◌≡◌, ℕ, ◌+◌, ◌<◌, ◌≤◌, Bool, true, false, ◌↔◌, List, length, ◌≢◌, refl}
use Rattle.std.proofs.Common.{sym, subst}
use borrow.Author.Tests.{le-leb, lt-leb, eq-eqb, ne_eqb}
use Rattle.algorithm.specs.Hashes.{names, hash_of, size_of}
use Rattle.algorithm.specs.Refusals.{done, unknown_hash, message_too_long, wrong_size, state_not_sound, most_bytes}
use Rattle.hash.specs.Digest.{digest_of}
use Rattle.hash.specs.State.{sound_of, Held, fresh_of, zero_state, after_of, end_of}
use Rattle.hash.specs.State.Laws.{fresh_held, zero_held}
use Rattle.algorithm.specs.Checks.{Fail, Pass, written}
use Rattle.algorithm.specs.Checks.Refusing.{none}
use Rattle.algorithm.specs.Checks.Laws.{exactly, exactly_done, refuses, refused_given}
use Rattle.hash.specs.Calls.{Started, started, fed, start_checks, update_checks, finish_checks, digest_checks, start_of, update_of, finish_of, digest_answer}
use Rattle.hash.specs.declared.state.State.{State}

module _ (n : ℕ) where
  pub start_accepted : names n ≡ true → start_of n ≡ started done (fresh_of (hash_of n))
  unfolding start_of
  start_accepted h = rw h

  pub start_refused : names n ≡ false → start_of n ≡ started unknown_hash zero_state
  unfolding start_of
  start_refused h = rw h

module _ (s : State) (p : List ℕ) where
  pub update_not_sound : sound_of s ≡ false → update_of s p ≡ fed state_not_sound s
  unfolding update_of
  update_not_sound h = rw h

  pub update_too_long : sound_of s ≡ true → most_bytes < s.count + length p → update_of s p ≡ fed message_too_long s
  unfolding update_of
  update_too_long h l = rw (h, lt-leb (s.count + length p) most_bytes l)

  pub update_accepted : sound_of s ≡ true → s.count + length p ≤ most_bytes → update_of s p ≡ fed done (after_of s p)
  unfolding update_of
  update_accepted h l = rw (h, le-leb (s.count + length p) most_bytes l)

  -- a refused piece leaves the given state as it was
  pub refused_same : ((update_of s p).number ≢ done) → (update_of s p).state ≡ s
  unfolding update_of
  refused_same z = refused_given (update_checks s p) (after_of s p) s z

module _ (s : State) (out : List ℕ) where
  pub finish_not_sound : sound_of s ≡ false → finish_of s out ≡ written state_not_sound out
  unfolding finish_of
  finish_not_sound h = rw h

  pub finish_wrong_size : sound_of s ≡ true → (length out ≢ size_of s.hash) → finish_of s out ≡ written wrong_size out
  unfolding finish_of
  finish_wrong_size h n = rw (h, ne_eqb (length out) (size_of s.hash) n)

  pub finish_accepted : sound_of s ≡ true → length out ≡ size_of s.hash → finish_of s out ≡ written done (end_of s)
  unfolding finish_of
  finish_accepted h n = rw (h, eq-eqb (length out) (size_of s.hash) n)

module _ (n : ℕ) (m out : List ℕ) where
  pub digest_unknown : names n ≡ false → digest_answer n m out ≡ written unknown_hash out
  unfolding digest_answer
  digest_unknown h = rw h

  pub digest_too_long : names n ≡ true → most_bytes < length m → digest_answer n m out ≡ written message_too_long out
  unfolding digest_answer
  digest_too_long h l = rw (h, lt-leb (length m) most_bytes l)

  pub digest_wrong_size : names n ≡ true → length m ≤ most_bytes → (length out ≢ size_of (hash_of n)) → digest_answer n m out ≡ written wrong_size out
  unfolding digest_answer
  digest_wrong_size h l e = rw (h, le-leb (length m) most_bytes l, ne_eqb (length out) (size_of (hash_of n)) e)

  pub digest_accepted : names n ≡ true → length m ≤ most_bytes → length out ≡ size_of (hash_of n) → digest_answer n m out ≡ written done (digest_of (hash_of n) m)
  unfolding digest_answer
  digest_accepted h l e = rw (h, le-leb (length m) most_bytes l, eq-eqb (length out) (size_of (hash_of n)) e)

-- each number comes back exactly when its check fails and every earlier one passes
module _ (k : ℕ) (refusal : k ≡ done → ⊥) where
  pub start_exactly : (n : ℕ) → (start_of n).number ≡ k ↔ Fail (start_checks n) k
  unfolding start_of
  start_exactly n = exactly (start_checks n) k refusal

  pub update_exactly : (s : State) (p : List ℕ) → (update_of s p).number ≡ k ↔ Fail (update_checks s p) k
  unfolding update_of
  update_exactly s p = exactly (update_checks s p) k refusal

  pub finish_exactly : (s : State) (out : List ℕ) → (finish_of s out).0 ≡ k ↔ Fail (finish_checks s out) k
  unfolding finish_of
  finish_exactly s out = exactly (finish_checks s out) k refusal

  pub digest_exactly : (n : ℕ) (m out : List ℕ) → (digest_answer n m out).0 ≡ k ↔ Fail (digest_checks n m out) k
  unfolding digest_answer
  digest_exactly n m out = exactly (digest_checks n m out) k refusal

-- a call is done exactly when every check passes
pub start_done : (n : ℕ) → (start_of n).number ≡ done ↔ Pass (start_checks n)
unfolding start_of
start_done n = exactly_done (start_checks n) (refuses _ _ none)

pub update_done : (s : State) (p : List ℕ) → (update_of s p).number ≡ done ↔ Pass (update_checks s p)
unfolding update_of
update_done s p = exactly_done (update_checks s p) (refuses _ _ (refuses _ _ none))

pub finish_done : (s : State) (out : List ℕ) → (finish_of s out).0 ≡ done ↔ Pass (finish_checks s out)
unfolding finish_of
finish_done s out = exactly_done (finish_checks s out) (refuses _ _ (refuses _ _ none))

pub digest_done : (n : ℕ) (m out : List ℕ) → (digest_answer n m out).0 ≡ done ↔ Pass (digest_checks n m out)
unfolding digest_answer
digest_done n m out = exactly_done (digest_checks n m out) (refuses _ _ (refuses _ _ (refuses _ _ none)))

-- the state of every start is sound, and so is what stands for that of a refused one
pub start_held : (n : ℕ) → Held (start_of n).state
start_held n = by_case (names n) refl
  where
    by_case : (b : Bool) → names n ≡ b → Held (start_of n).state
    by_case true h = subst (λ (r : Started). Held r.state) (sym (start_accepted n h)) (fresh_held (hash_of n))
    by_case false h = subst (λ (r : Started). Held r.state) (sym (start_refused n h)) zero_held
