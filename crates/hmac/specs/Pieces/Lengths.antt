-- Proved: a tag length belongs to the start that was made with it: pieces keep it, taken or refused, and verify says yes to presented bytes
-- of that length alone. So a verifier that was made for one length takes no tag of another. Assumes nothing.
use Rattle.std.specs.Prelude.{◌≡◌, refl, false, List, [], ◌∷◌, ℕ, length}
use Rattle.std.proofs.Common.{sym, ap, ◌∙◌, arith, eqb-true}
use Rattle.std.proofs.Math.Decide.{ℕ_discrete}
use Rattle.algorithm.specs.Hashes.{hash_of}
use Rattle.algorithm.specs.Refusals.{done, wrong_size, state_not_sound}
use Rattle.algorithm.specs.Checks.{Pass}
use Rattle.algorithm.specs.Checks.Pass.{all, and}
use Rattle.algorithm.specs.Pieces.{after_all}
use Rattle.algorithm.specs.Pieces.Laws.{all_held}
use Rattle.hmac.specs.Keyed.{sound_keyed}
use Rattle.hmac.specs.Keyed.Laws.{keyed_length, keyed_after_length, zero_not_sound}
use Rattle.hmac.specs.Calls.{Fed, message_checks, start_of, update_of, verify_answer, verify_message_answer}
use Rattle.hmac.specs.Calls.Laws.{start_fresh, start_held, start_zeros, taken_after, refused_same, update_not_sound, tag_passes, verify_tag, verify_not_sound, verify_wrong_size, verify_message_tag}
use Rattle.hmac.specs.Pieces.{given}
use Rattle.hmac.specs.Pieces.Laws.{taking}
use Rattle.hmac.specs.declared.keyed.Keyed.{Keyed}

-- a piece keeps the length of any keyed state, taken or refused, and so do any pieces
pub update_length : (k : Keyed) (p : List ℕ) → (update_of k p).keyed.tag_length ≡ k.tag_length
update_length k p = elim (ℕ_discrete (update_of k p).number done) [
  | yes d ↦ ap (λ (x : Keyed). x.tag_length) (taken_after k p d) ∙ keyed_after_length k p
  | no z ↦ ap (λ (x : Keyed). x.tag_length) (refused_same k p z)
]

pub pieces_length : (ps : List (List ℕ)) (k : Keyed) → (after_all given k ps).tag_length ≡ k.tag_length
unfolding after_all
pieces_length [] k = refl
pieces_length (p ∷ ps) k = pieces_length ps (update_of k p).keyed ∙ update_length k p

-- one that is not sound stays as it is
pieces_unsound : (ps : List (List ℕ)) (k : Keyed) → sound_keyed k ≡ false → after_all given k ps ≡ k
unfolding after_all
pieces_unsound [] k e = refl
pieces_unsound (p ∷ ps) k e =
    let same : (update_of k p).keyed ≡ k = ap (λ (r : Fed). r.keyed) (update_not_sound k p e) in
    ap (λ (x : Keyed). after_all given x ps) same ∙ pieces_unsound ps k e

-- verify says yes to bytes of the keyed state's own length alone, whether a call made that state or not
pub yes_length : (k : Keyed) (presented : List ℕ) → verify_answer k presented ≡ done → length presented ≡ k.tag_length
yes_length k presented e = (tag_passes k presented ((verify_tag k presented).0 e).0).1

module _ (n : ℕ) (key : List ℕ) (t : ℕ) (ps : List (List ℕ)) where
  -- an accepted start carries its length through any pieces, and a refused one stays unsound, so that every later call answers 10
  pub start_carries : (start_of n key t).number ≡ done → (after_all given (start_of n key t).keyed ps).tag_length ≡ t
  start_carries d =
      pieces_length ps (start_of n key t).keyed ∙ ap (λ (k : Keyed). k.tag_length) (start_fresh n key t d) ∙ keyed_length (hash_of n) key t

  pub refused_unsound : ((start_of n key t).number ≡ done → ⊥) → sound_keyed (after_all given (start_of n key t).keyed ps) ≡ false
  refused_unsound z =
      let k : Keyed = (start_of n key t).keyed in
      let zero : sound_keyed k ≡ false = ap sound_keyed (start_zeros n key t z) ∙ zero_not_sound in
      ap sound_keyed (pieces_unsound ps k zero) ∙ zero

  module _ (presented : List ℕ) where
    -- what a start says yes to, after any pieces, has the length that the start was made with
    pub start_yes_length : verify_answer (after_all given (start_of n key t).keyed ps) presented ≡ done → length presented ≡ t
    start_yes_length e = elim (ℕ_discrete (start_of n key t).number done) [
      | yes d ↦ yes_length (after_all given (start_of n key t).keyed ps) presented e ∙ start_carries d
      | no z ↦
          let ten : ◌≡◌ {A = ℕ} state_not_sound done =
          sym (verify_not_sound (after_all given (start_of n key t).keyed ps) presented (refused_unsound z)) ∙ e
          in
          absurd (omega arith)
    ]

    -- an accepted start refuses bytes of every other length with 6
    pub other_length_refused : (start_of n key t).number ≡ done → (length presented ≡ t → ⊥)
        → verify_answer (after_all given (start_of n key t).keyed ps) presented ≡ wrong_size
    other_length_refused d other =
        verify_wrong_size (after_all given (start_of n key t).keyed ps) presented (all_held taking ps (start_of n key t).keyed (start_held n key t d)).sound
        (λ e. other (e ∙ start_carries d))

-- so two starts with different lengths, of one key or of two, never both say yes to the same bytes, whatever pieces they were given
pub lengths_apart : (n n' : ℕ) (key key' : List ℕ) (t t' : ℕ) (ps ps' : List (List ℕ)) (presented : List ℕ) → (t ≡ t' → ⊥)
    → verify_answer (after_all given (start_of n key t).keyed ps) presented ≡ done
    → verify_answer (after_all given (start_of n' key' t').keyed ps') presented ≡ done
    → ⊥
lengths_apart n n' key key' t t' ps ps' presented other e e' =
    other (sym (start_yes_length n key t ps presented e) ∙ start_yes_length n' key' t' ps' presented e')

-- and a verifier that was made for 32 bytes refuses a tag of 16 with 6
pub sixteen_refused : (n : ℕ) (key : List ℕ) (ps : List (List ℕ)) (presented : List ℕ) → (start_of n key 32).number ≡ done → length presented ≡ 16
    → verify_answer (after_all given (start_of n key 32).keyed ps) presented ≡ wrong_size
sixteen_refused n key ps presented d e = other_length_refused n key 32 ps presented d (λ f. omega arith)

-- of a whole message too, two calls with different lengths never both say yes to the same bytes
message_size : (n : ℕ) (key m : List ℕ) (t : ℕ) (bytes : List ℕ) → Pass (message_checks n key m t bytes) → length bytes ≡ t
message_size n key m t bytes (and h (and l (and a (and g (and e all))))) = eqb-true (length bytes) t e

pub message_yes_length : (n : ℕ) (key m : List ℕ) (t : ℕ) (presented : List ℕ) → verify_message_answer n key m t presented ≡ done
    → length presented ≡ t
message_yes_length n key m t presented e = message_size n key m t presented ((verify_message_tag n key m t presented).0 e).0

pub message_lengths_apart : (n n' : ℕ) (key key' m m' : List ℕ) (t t' : ℕ) (presented : List ℕ) → (t ≡ t' → ⊥)
    → verify_message_answer n key m t presented ≡ done
    → verify_message_answer n' key' m' t' presented ≡ done
    → ⊥
message_lengths_apart n n' key key' m m' t t' presented other e e' =
    other (sym (message_yes_length n key m t presented e) ∙ message_yes_length n' key' m' t' presented e')
