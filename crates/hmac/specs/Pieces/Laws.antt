-- Proved: laws of a run of pieces under a key: those that fit lead to the keyed state after their bytes in one, refused ones change
-- nothing, and from a start tag and verify answer what the one-piece calls answer for the bytes taken. Assumes nothing.
use Rattle.std.specs.Prelude.{◌≡◌, true, List, ℕ, ◌+◌, ◌-◌, ◌≤◌, length}
use Rattle.std.proofs.Common.{sym, ap, subst, ◌∙◌, arith, length-append}
use Rattle.algorithm.specs.Hashes.Laws.{block_most}
use Rattle.algorithm.specs.declared.hashes.Hash.{Hash}
use Rattle.algorithm.specs.Hashes.{names, hash_of, block_of, allowed}
use Rattle.algorithm.specs.Refusals.{done, most_bytes}
use Rattle.hash.specs.State.Laws.{sound_count}
use Rattle.hmac.specs.Keyed.{inner_of, HeldKeyed, fresh_keyed, after_keyed}
use Rattle.hmac.specs.Keyed.Laws.{sound_inner, keyed_count, keyed_length, keyed_held, keyed_after_length, keyed_after_count, keyed_after_held, keyed_after_append, keyed_after_nothing, full_fresh}
use Rattle.hmac.specs.Calls.{Fed, start_of, update_of, tag_answer, verify_answer, tag_message_answer, verify_message_answer}
use Rattle.hmac.specs.Calls.Laws.{start_fresh, start_done, start_passes, start_held, update_too_long, update_accepted, message_tag, message_verify}
use Rattle.algorithm.specs.Pieces.{Taking, after_all, taken_of, Cut}
use Rattle.algorithm.specs.Pieces.Laws.{after_all_lem, all_held, cut_taken}
use Rattle.hmac.specs.Inside.{Message}
use Rattle.hmac.specs.Pieces.{given, work, Leads}
use Rattle.hmac.specs.Pieces.Leads.{one, more}
use Rattle.hmac.specs.declared.keyed.Keyed.{Keyed}

-- what the laws of a run need to know of a keyed state
pub taking : Taking work
taking = record {
  taken = λ k p h l. ap both (update_accepted k p h.sound l);
  too_long = λ k p h l. ap both (update_too_long k p h.sound l);
  after_nothing = keyed_after_nothing;
  after_append = λ k p q h. keyed_after_append k p q h.waiting_size;
  after_count = keyed_after_count;
  after_held = keyed_after_held;
}
  where
    both : Fed → ℕ × Keyed
    both r = (r.number, r.keyed)

-- a piece that fits is taken
piece_after : (k : Keyed) (p : List ℕ) → HeldKeyed k → k.count + length p ≤ most_bytes → {f : Fed} → f ≡ update_of k p → f.keyed ≡ after_keyed k p
piece_after k p h l e = ap (λ (f : Fed). f.keyed) (e ∙ update_accepted k p h.sound l)

-- pieces that fit together lead to the keyed state after their bytes in one, and it is sound
pub leads_after : {k last : Keyed} {m : List ℕ} → Leads k m last → HeldKeyed k → k.count + length m ≤ most_bytes → last ≡ after_keyed k m
leads_after {k} {m = m} (one e) h l = piece_after k m h l e
leads_after {k} (more p {m = m} {f = f} e rest) h l =
    let n = length-append p m in
    let first : f.keyed ≡ after_keyed k p = piece_after k p h (omega arith) e in
    let held : HeldKeyed f.keyed = subst HeldKeyed (sym first) (keyed_after_held k p h (omega arith)) in
    let count : f.keyed.count ≡ k.count + length p = ap (λ (x : Keyed). x.count) first ∙ keyed_after_count k p in
    leads_after rest held (omega arith) ∙ ap (λ (x : Keyed). after_keyed x m) first ∙ keyed_after_append k p m h.waiting_size

pub leads_held : {k last : Keyed} {m : List ℕ} → Leads k m last → HeldKeyed k → k.count + length m ≤ most_bytes → HeldKeyed last
leads_held {k} {m = m} r h l = subst HeldKeyed (sym (leads_after r h l)) (keyed_after_held k m h l)

-- a keyed start that took a message
pub fresh_message : (n : ℕ) (key m : List ℕ) (t : ℕ) → names n ≡ true → length key ≤ most_bytes → allowed (hash_of n) t ≡ true
    → length m ≤ most_bytes - block_of (hash_of n)
    → Message (after_keyed (fresh_keyed (hash_of n) key t) m) n key m t
fresh_message n key m t named short asked fits =
    let h : Hash = hash_of n in
    let k : Keyed = fresh_keyed h key t in
    record {
      named = named;
      key_fits = short;
      asked = asked;
      fits = fits;
      sound = (keyed_after_held k m (keyed_held h key t asked) (omega (arith, keyed_count h key t, block_most h))).sound;
      carried = keyed_after_length k m ∙ keyed_length h key t;
      tag = full_fresh h key t m;
    }

-- from an accepted start, after any pieces, tag and verify answer what the one-piece calls answer for the bytes taken
module _ (n : ℕ) (key : List ℕ) (t : ℕ) (accepted : (start_of n key t).number ≡ done) where
  pieces_message : (ps : List (List ℕ)) → Message (after_all given (start_of n key t).keyed ps) n key (taken_of given (start_of n key t).keyed ps) t
  pieces_message ps =
      let h : Hash = hash_of n in
      let k : Keyed = (start_of n key t).keyed in
      let m : List ℕ = taken_of given k ps in
      let passes = start_passes n key t ((start_done n key t).0 accepted) in
      let held : HeldKeyed (after_all given k ps) = all_held taking ps k (start_held n key t accepted) in
      let e : after_all given k ps ≡ after_keyed (fresh_keyed h key t) m =
      after_all_lem taking ps k (start_held n key t accepted) ∙ ap (λ (x : Keyed). after_keyed x m) (start_fresh n key t accepted)
      in
      let count : (after_all given k ps).count ≡ block_of h + length m =
      ap (λ (x : Keyed). x.count) e ∙ keyed_after_count (fresh_keyed h key t) m ∙ ap (λ (c : ℕ). c + length m) (keyed_count h key t)
      in
      let most = sound_count (inner_of (after_all given k ps)) (sound_inner (after_all given k ps) held.sound) in
      subst (λ (x : Keyed). Message x n key m t) (sym e) (fresh_message n key m t passes.0 passes.1.0 passes.1.1 (omega arith))

  pub pieces_tag : (ps : List (List ℕ)) (out : List ℕ)
      → tag_answer (after_all given (start_of n key t).keyed ps) out ≡ tag_message_answer n key (taken_of given (start_of n key t).keyed ps) t out
  pieces_tag ps out = message_tag (pieces_message ps) out

  pub pieces_verify : (ps : List (List ℕ)) (presented : List ℕ)
      → verify_answer (after_all given (start_of n key t).keyed ps) presented ≡ verify_message_answer n key (taken_of given (start_of n key t).keyed ps) t presented
  pieces_verify ps presented = message_verify (pieces_message ps) presented

  -- a message that fits, cut anywhere, with refused pieces between, is tagged and compared as in one piece
  module _ {ps : List (List ℕ)} {m : List ℕ} (cut : Cut (block_of (hash_of n)) ps m) where
    cut_is : taken_of given (start_of n key t).keyed ps ≡ m
    cut_is =
        cut_taken taking cut (start_of n key t).keyed (start_held n key t accepted)
        (ap (λ (k : Keyed). k.count) (start_fresh n key t accepted) ∙ keyed_count (hash_of n) key t)

    pub cut_tag : (out : List ℕ) → tag_answer (after_all given (start_of n key t).keyed ps) out ≡ tag_message_answer n key m t out
    cut_tag out = pieces_tag ps out ∙ ap (λ (l : List ℕ). tag_message_answer n key l t out) cut_is

    pub cut_verify : (presented : List ℕ) → verify_answer (after_all given (start_of n key t).keyed ps) presented ≡ verify_message_answer n key m t presented
    cut_verify presented = pieces_verify ps presented ∙ ap (λ (l : List ℕ). verify_message_answer n key l t presented) cut_is
