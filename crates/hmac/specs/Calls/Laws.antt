-- Proved: laws of the calls, for the layers above and for this crate's proofs: what each answers once its checks are known. Assumes
-- nothing.
use Rattle.std.specs.Prelude.{◌≡◌, ◌↔◌, true, false, cond, List, ◌++◌, ℕ, ◌+◌, ◌-◌, ◌≤◌, ◌<◌, take}
use Rattle.std.proofs.Math.Path.{refl, sym}
use Rattle.std.proofs.Common.{subst, ◌∙◌}
use Rattle.std.proofs.Math.ListN.{length}
use borrow.Author.Tests.{le-leb, lt-leb, leb-true, eq-eqb, ne_eqb, eqb-true}
use Rattle.octets.specs.Same.{equal}
use Rattle.octets.specs.Same.Laws.{equal_tells}
use Rattle.algorithm.specs.Hashes.{names, hash_of, block_of, allowed}
use Rattle.algorithm.specs.Hashes.Laws.{allowed_exactly}
use Rattle.algorithm.specs.Refusals.{done, tag_differs, unknown_hash, key_too_long, message_too_long, tag_length_out_of_range, wrong_size, state_not_sound, most_bytes}
use Rattle.algorithm.specs.Checks.{Check, Fail, Pass, Refusing, written, first_failing, answered}
use Rattle.algorithm.specs.Checks.Pass.{all, and}
use Rattle.algorithm.specs.Checks.Refusing.{none}
use Rattle.algorithm.specs.Checks.Laws.{exactly, exactly_done, passes_done, done_passes, pass_append, refuses, done_work, refused_given, answered_refused, append_refuses, refusing_append}
use Rattle.hmac.specs.Hmac.{tag_of}
use Rattle.hmac.specs.Hmac.Laws.{tag_length_lem}
use Rattle.hmac.specs.Keyed.{HeldKeyed, sound_keyed, fresh_keyed, zero_keyed, after_keyed, keyed_tag}
use Rattle.hmac.specs.Keyed.Laws.{keyed_held, keyed_tag_length}
use Rattle.hmac.specs.Calls.{started, fed, start_checks, update_checks, size_checks, compare_checks, tag_checks, verify_checks, fit_checks, taken_checks, message_checks, verify_message_checks, start_of, update_of, tag_answer, verify_answer, tag_message_answer, verify_message_answer}
use Rattle.hmac.specs.Inside.{Message}
use Rattle.hmac.specs.declared.keyed.Keyed.{Keyed}

module _ (n : ℕ) (key : List ℕ) (t : ℕ) where
  pub start_unknown : names n ≡ false → start_of n key t ≡ started unknown_hash zero_keyed
  unfolding start_of
  start_unknown h = rw h

  pub start_too_long : names n ≡ true → most_bytes < length key → start_of n key t ≡ started key_too_long zero_keyed
  unfolding start_of
  start_too_long h l = rw (h, lt-leb (length key) most_bytes l)

  pub start_not_allowed : names n ≡ true → length key ≤ most_bytes → allowed (hash_of n) t ≡ false
      → start_of n key t ≡ started tag_length_out_of_range zero_keyed
  unfolding start_of
  start_not_allowed h l a = rw (h, le-leb (length key) most_bytes l, a)

  pub start_accepted : names n ≡ true → length key ≤ most_bytes → allowed (hash_of n) t ≡ true
      → start_of n key t ≡ started done (fresh_keyed (hash_of n) key t)
  unfolding start_of
  start_accepted h l a = rw (h, le-leb (length key) most_bytes l, a)

  pub start_number : (start_of n key t).number ≡ first_failing (start_checks n key t)
  unfolding start_of
  start_number = refl

  -- an accepted start has taken its key and its tag length, and a refused one hands zeros back
  pub start_fresh : (start_of n key t).number ≡ done → (start_of n key t).keyed ≡ fresh_keyed (hash_of n) key t
  unfolding start_of
  start_fresh d = done_work (start_checks n key t) (fresh_keyed (hash_of n) key t) zero_keyed d

  pub start_zeros : ((start_of n key t).number ≡ done → ⊥) → (start_of n key t).keyed ≡ zero_keyed
  unfolding start_of
  start_zeros z = refused_given (start_checks n key t) (fresh_keyed (hash_of n) key t) zero_keyed z

module _ (k : Keyed) (p : List ℕ) where
  pub update_not_sound : sound_keyed k ≡ false → update_of k p ≡ fed state_not_sound k
  unfolding update_of
  update_not_sound h = rw h

  pub update_too_long : sound_keyed k ≡ true → most_bytes < k.count + length p → update_of k p ≡ fed message_too_long k
  unfolding update_of
  update_too_long h l = rw (h, lt-leb (k.count + length p) most_bytes l)

  pub update_accepted : sound_keyed k ≡ true → k.count + length p ≤ most_bytes → update_of k p ≡ fed done (after_keyed k p)
  unfolding update_of
  update_accepted h l = rw (h, le-leb (k.count + length p) most_bytes l)

  -- an accepted piece is taken, and a refused one leaves the given state as it was
  pub taken_after : (update_of k p).number ≡ done → (update_of k p).keyed ≡ after_keyed k p
  unfolding update_of
  taken_after d = done_work (update_checks k p) (after_keyed k p) k d

  pub refused_same : ((update_of k p).number ≡ done → ⊥) → (update_of k p).keyed ≡ k
  unfolding update_of
  refused_same z = refused_given (update_checks k p) (after_keyed k p) k z

-- tag and verify: by the number that the checks which they share gave, and by each of these checks
module _ (k : Keyed) (bytes : List ℕ) where
  module _ {r : ℕ} (e : r ≡ first_failing (tag_checks k bytes)) (refusal : r ≡ done → ⊥) where
    pub tag_refused : tag_answer k bytes ≡ written r bytes
    unfolding tag_answer
    tag_refused = answered_refused (tag_checks k bytes) (keyed_tag k) bytes _ (sym e) refusal

    pub verify_refused : verify_answer k bytes ≡ r
    unfolding verify_answer
    verify_refused = append_refuses (tag_checks k bytes) (compare_checks bytes (keyed_tag k)) (λ d. refusal (e ∙ d)) ∙ sym e

  module _ (unsound : sound_keyed k ≡ false) where
    pub tag_not_sound : tag_answer k bytes ≡ written state_not_sound bytes
    unfolding tag_answer
    tag_not_sound = rw unsound

    pub verify_not_sound : verify_answer k bytes ≡ state_not_sound
    unfolding verify_answer
    verify_not_sound = rw unsound

  module _ (sound : sound_keyed k ≡ true) where
    module _ (other : length bytes ≡ k.tag_length → ⊥) where
      pub tag_wrong_size : tag_answer k bytes ≡ written wrong_size bytes
      unfolding tag_answer
      tag_wrong_size = rw (sound, ne_eqb (length bytes) k.tag_length other)

      pub verify_wrong_size : verify_answer k bytes ≡ wrong_size
      unfolding verify_answer
      verify_wrong_size = rw (sound, ne_eqb (length bytes) k.tag_length other)

    module _ (size : length bytes ≡ k.tag_length) where
      pub tag_accepted : tag_answer k bytes ≡ written done (keyed_tag k)
      unfolding tag_answer
      tag_accepted = rw (sound, eq-eqb (length bytes) k.tag_length size)

      pub verify_compared : verify_answer k bytes ≡ cond (equal bytes (keyed_tag k)) done tag_differs
      unfolding verify_answer
      verify_compared = rw (sound, eq-eqb (length bytes) k.tag_length size)

-- a message that a keyed state has taken is tagged and compared as the one-piece calls do it
module _ {k : Keyed} {n : ℕ} {key m : List ℕ} {t : ℕ} (M : Message k n key m t) where
  pub message_tag : (out : List ℕ) → tag_answer k out ≡ tag_message_answer n key m t out
  unfolding tag_answer tag_message_answer
  message_tag out =
      rw (M.named, M.sound, le-leb (length key) most_bytes M.key_fits, M.asked, le-leb (length m) (most_bytes - block_of (hash_of n)) M.fits)
      (λ i. answered (size_checks (M.carried i) out) (take (M.carried i) (M.tag i)) out)

  pub message_verify : (presented : List ℕ) → verify_answer k presented ≡ verify_message_answer n key m t presented
  unfolding verify_answer verify_message_answer
  message_verify presented =
      rw (M.named, M.sound, le-leb (length key) most_bytes M.key_fits, M.asked, le-leb (length m) (most_bytes - block_of (hash_of n)) M.fits)
      (λ i. first_failing (size_checks (M.carried i) presented ++ compare_checks presented (take (M.carried i) (M.tag i))))

-- the one-piece calls where a check fails: by the number that a message which is not taken got, and by each check
module _ (n : ℕ) (key m : List ℕ) (t : ℕ) (bytes : List ℕ) where
  module _ {r : ℕ} (e : r ≡ first_failing (taken_checks n key m t)) (refusal : r ≡ done → ⊥) where
    refuses_first : (rest : List Check) → r ≡ first_failing (taken_checks n key m t ++ rest)
    refuses_first rest = e ∙ sym (append_refuses (taken_checks n key m t) rest (λ d. refusal (e ∙ d)))

    pub tag_message_refused : tag_message_answer n key m t bytes ≡ written r bytes
    unfolding tag_message_answer
    tag_message_refused =
        answered_refused (message_checks n key m t bytes) (tag_of (hash_of n) key t m) bytes _ (sym (refuses_first (size_checks t bytes))) refusal

    pub verify_message_refused : verify_message_answer n key m t bytes ≡ r
    unfolding verify_message_answer
    verify_message_refused = sym (refuses_first (size_checks t bytes ++ compare_checks bytes (tag_of (hash_of n) key t m)))

  module _ (h : names n ≡ true) (l : most_bytes < length key) where
    pub tag_message_key : tag_message_answer n key m t bytes ≡ written key_too_long bytes
    unfolding tag_message_answer
    tag_message_key = rw (h, lt-leb (length key) most_bytes l)

    pub verify_message_key : verify_message_answer n key m t bytes ≡ key_too_long
    unfolding verify_message_answer
    verify_message_key = rw (h, lt-leb (length key) most_bytes l)

  -- once hash and key pass, a tag length out of range is refused whatever the message is, too long or not
  module _ (h : names n ≡ true) (l : length key ≤ most_bytes) (a : allowed (hash_of n) t ≡ false) where
    pub tag_message_not_allowed : tag_message_answer n key m t bytes ≡ written tag_length_out_of_range bytes
    unfolding tag_message_answer
    tag_message_not_allowed = rw (h, le-leb (length key) most_bytes l, a)

    pub verify_message_not_allowed : verify_message_answer n key m t bytes ≡ tag_length_out_of_range
    unfolding verify_message_answer
    verify_message_not_allowed = rw (h, le-leb (length key) most_bytes l, a)

  module _ (h : names n ≡ true) (l : length key ≤ most_bytes) (a : allowed (hash_of n) t ≡ true) (g : most_bytes - block_of (hash_of n) < length m) where
    pub tag_message_too_long : tag_message_answer n key m t bytes ≡ written message_too_long bytes
    unfolding tag_message_answer
    tag_message_too_long = rw (h, le-leb (length key) most_bytes l, a, lt-leb (length m) (most_bytes - block_of (hash_of n)) g)

    pub verify_message_too_long : verify_message_answer n key m t bytes ≡ message_too_long
    unfolding verify_message_answer
    verify_message_too_long = rw (h, le-leb (length key) most_bytes l, a, lt-leb (length m) (most_bytes - block_of (hash_of n)) g)

  pub tag_message_wrong_size : names n ≡ true → length key ≤ most_bytes → allowed (hash_of n) t ≡ true → length m ≤ most_bytes - block_of (hash_of n)
      → (length bytes ≡ t → ⊥)
      → tag_message_answer n key m t bytes ≡ written wrong_size bytes
  unfolding tag_message_answer
  tag_message_wrong_size h l a g other =
      rw (h, le-leb (length key) most_bytes l, a, le-leb (length m) (most_bytes - block_of (hash_of n)) g, ne_eqb (length bytes) t other)

-- each number comes back exactly when its check fails and every earlier one passes
module _ (r : ℕ) (refusal : r ≡ done → ⊥) where
  pub start_exactly : (n : ℕ) (key : List ℕ) (t : ℕ) → (start_of n key t).number ≡ r ↔ Fail (start_checks n key t) r
  unfolding start_of
  start_exactly n key t = exactly (start_checks n key t) r refusal

  pub update_exactly : (k : Keyed) (p : List ℕ) → (update_of k p).number ≡ r ↔ Fail (update_checks k p) r
  unfolding update_of
  update_exactly k p = exactly (update_checks k p) r refusal

  pub tag_exactly : (k : Keyed) (out : List ℕ) → (tag_answer k out).0 ≡ r ↔ Fail (tag_checks k out) r
  unfolding tag_answer
  tag_exactly k out = exactly (tag_checks k out) r refusal

  pub verify_exactly : (k : Keyed) (presented : List ℕ) → verify_answer k presented ≡ r ↔ Fail (verify_checks k presented) r
  unfolding verify_answer
  verify_exactly k presented = exactly (verify_checks k presented) r refusal

  pub tag_message_exactly : (n : ℕ) (key m : List ℕ) (t : ℕ) (out : List ℕ)
      → (tag_message_answer n key m t out).0 ≡ r ↔ Fail (message_checks n key m t out) r
  unfolding tag_message_answer
  tag_message_exactly n key m t out = exactly (message_checks n key m t out) r refusal

  pub verify_message_exactly : (n : ℕ) (key m : List ℕ) (t : ℕ) (presented : List ℕ)
      → verify_message_answer n key m t presented ≡ r ↔ Fail (verify_message_checks n key m t presented) r
  unfolding verify_message_answer
  verify_message_exactly n key m t presented = exactly (verify_message_checks n key m t presented) r refusal

-- no check has the number of a call that is done
start_refusing : (n : ℕ) (key : List ℕ) (t : ℕ) → Refusing (start_checks n key t)
start_refusing n key t = refuses _ _ (refuses _ _ (refuses _ _ none))

pub tag_refusing : (k : Keyed) (bytes : List ℕ) → Refusing (tag_checks k bytes)
tag_refusing k bytes = refuses _ _ (refuses _ _ none)

taken_refusing : (n : ℕ) (key m : List ℕ) (t : ℕ) → Refusing (taken_checks n key m t)
taken_refusing n key m t = refusing_append (start_checks n key t) (fit_checks n m) (start_refusing n key t) (refuses _ _ none)

message_refusing : (n : ℕ) (key m : List ℕ) (t : ℕ) (bytes : List ℕ) → Refusing (message_checks n key m t bytes)
message_refusing n key m t bytes = refusing_append (taken_checks n key m t) _ (taken_refusing n key m t) (refuses _ _ none)

-- a call is done exactly when every check passes
pub start_done : (n : ℕ) (key : List ℕ) (t : ℕ) → (start_of n key t).number ≡ done ↔ Pass (start_checks n key t)
unfolding start_of
start_done n key t = exactly_done (start_checks n key t) (start_refusing n key t)

-- those of a start pass for a number that names a hash, a key that fits and a tag length in range alone
pub start_passes : (n : ℕ) (key : List ℕ) (t : ℕ) → Pass (start_checks n key t)
    → (names n ≡ true) × ((length key ≤ most_bytes) × (allowed (hash_of n) t ≡ true))
start_passes n key t (and h (and l (and a all))) = (h, (leb-true (length key) most_bytes l, a))

-- so what an accepted start hands back is sound
pub start_held : (n : ℕ) (key : List ℕ) (t : ℕ) → (start_of n key t).number ≡ done → HeldKeyed (start_of n key t).keyed
start_held n key t d =
    subst HeldKeyed (sym (start_fresh n key t d)) (keyed_held (hash_of n) key t (start_passes n key t ((start_done n key t).0 d)).1.1)

pub update_done : (k : Keyed) (p : List ℕ) → (update_of k p).number ≡ done ↔ Pass (update_checks k p)
unfolding update_of
update_done k p = exactly_done (update_checks k p) (refuses _ _ (refuses _ _ none))

pub tag_done : (k : Keyed) (out : List ℕ) → (tag_answer k out).0 ≡ done ↔ Pass (tag_checks k out)
unfolding tag_answer
tag_done k out = exactly_done (tag_checks k out) (tag_refusing k out)

pub verify_done : (k : Keyed) (presented : List ℕ) → verify_answer k presented ≡ done ↔ Pass (verify_checks k presented)
unfolding verify_answer
verify_done k presented =
    exactly_done (verify_checks k presented) (refusing_append (tag_checks k presented) _ (tag_refusing k presented) (refuses _ _ none))

pub tag_message_done : (n : ℕ) (key m : List ℕ) (t : ℕ) (out : List ℕ)
    → (tag_message_answer n key m t out).0 ≡ done ↔ Pass (message_checks n key m t out)
unfolding tag_message_answer
tag_message_done n key m t out = exactly_done (message_checks n key m t out) (message_refusing n key m t out)

pub verify_message_done : (n : ℕ) (key m : List ℕ) (t : ℕ) (presented : List ℕ)
    → verify_message_answer n key m t presented ≡ done ↔ Pass (verify_message_checks n key m t presented)
unfolding verify_message_answer
verify_message_done n key m t presented =
    exactly_done (verify_message_checks n key m t presented)
    (refusing_append (message_checks n key m t presented) _ (message_refusing n key m t presented) (refuses _ _ none))

-- checks that end in a comparison let a call be done exactly when all others pass and the two are equal
pub compared_done : (cs : List Check) → Refusing cs → (a b : List ℕ) → first_failing (cs ++ compare_checks a b) ≡ done ↔ (Pass cs × (a ≡ b))
compared_done cs r a b =
    let parts = pass_append cs (compare_checks a b) in
    let refusing : Refusing (cs ++ compare_checks a b) = refusing_append cs (compare_checks a b) r (refuses _ _ none) in (
      λ e. let p = parts.0 (done_passes (cs ++ compare_checks a b) refusing e) in (p.0, same p.1),
      λ p. passes_done (parts.1 (p.0, and ((equal_tells a b).equal_true p.1) all)),
    )
  where
    same : Pass (compare_checks a b) → a ≡ b
    same (and e all) = (equal_tells a b).true_equal e

-- every check of the tag passes for a sound state and bytes of its length alone
pub tag_passes : (k : Keyed) (bytes : List ℕ) → Pass (tag_checks k bytes) → (sound_keyed k ≡ true) × (length bytes ≡ k.tag_length)
tag_passes k bytes (and s (and l all)) = (s, eqb-true (length bytes) k.tag_length l)

-- so verify says yes exactly when every check of the tag passes and what is presented is the tag
pub verify_tag : (k : Keyed) (presented : List ℕ) → verify_answer k presented ≡ done ↔ (Pass (tag_checks k presented) × (presented ≡ keyed_tag k))
unfolding verify_answer
verify_tag k presented = compared_done (tag_checks k presented) (tag_refusing k presented) presented (keyed_tag k)

-- and to its own tag it says yes, whether a call made the keyed state or not
pub verify_yes : (k : Keyed) → HeldKeyed k → verify_answer k (keyed_tag k) ≡ done
verify_yes k h =
    (verify_tag k (keyed_tag k)).1
    (and h.sound (and (eq-eqb (length (keyed_tag k)) k.tag_length (keyed_tag_length k h)) all), refl)

module _ (n : ℕ) (key m : List ℕ) (t : ℕ) where
  pub verify_message_tag : (presented : List ℕ)
      → verify_message_answer n key m t presented ≡ done ↔ (Pass (message_checks n key m t presented) × (presented ≡ tag_of (hash_of n) key t m))
  unfolding verify_message_answer
  verify_message_tag presented =
      compared_done (message_checks n key m t presented) (message_refusing n key m t presented) presented (tag_of (hash_of n) key t m)

  -- and to the tag itself wherever it may be asked for: its length is the one asked for
  pub verify_message_yes : Pass (taken_checks n key m t) → verify_message_answer n key m t (tag_of (hash_of n) key t m) ≡ done
  verify_message_yes taken =
      let tag : List ℕ = tag_of (hash_of n) key t m in
      let asked = (start_passes n key t ((pass_append (start_checks n key t) (fit_checks n m)).0 taken).0).1.1 in
      let size : length tag ≡ t = tag_length_lem (hash_of n) key t m ((allowed_exactly (hash_of n) t).0 asked).1 in
      (verify_message_tag tag).1 ((pass_append (taken_checks n key m t) (size_checks t tag)).1 (taken, and (eq-eqb (length tag) t size) all), refl)

-- what the calls on a whole message answer once every other check passes
module _ (n : ℕ) (key m : List ℕ) (t : ℕ) (presented : List ℕ) (h : names n ≡ true) (l : length key ≤ most_bytes)
    (g : length m ≤ most_bytes - block_of (hash_of n)) (a : allowed (hash_of n) t ≡ true) (e : length presented ≡ t) where
  pub verify_message_compared : verify_message_answer n key m t presented ≡ cond (equal presented (tag_of (hash_of n) key t m)) done tag_differs
  unfolding verify_message_answer
  verify_message_compared =
      rw (h, le-leb (length key) most_bytes l, a, le-leb (length m) (most_bytes - block_of (hash_of n)) g, eq-eqb (length presented) t e)

  pub tag_message_accepted : tag_message_answer n key m t presented ≡ written done (tag_of (hash_of n) key t m)
  unfolding tag_message_answer
  tag_message_accepted =
      rw (h, le-leb (length key) most_bytes l, a, le-leb (length m) (most_bytes - block_of (hash_of n)) g, eq-eqb (length presented) t e)
