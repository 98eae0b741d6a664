-- `report::fingerprints::tag_pieces`: two pieces taken, and a tag of 32 bytes. Assumes nothing.
use Rattle.std.proofs.Common.{◌≡◌, Result, sym, ap, ◌∙◌, true, List, ◌++◌, ℕ, ◌+◌, ◌-◌, ◌≤◌, length, length-append, arith}
use Rattle.algorithm.specs.declared.hashes.Hash.{Hash}
use Rattle.algorithm.specs.declared.refusals.Refusal.{Refusal}
use Rattle.algorithm.specs.Answers.{number}
use Rattle.algorithm.specs.Hashes.{hash_number, names, hash_of, block_of, allowed}
use Rattle.algorithm.specs.Hashes.Laws.{block_most, number_names, number_back}
use Rattle.algorithm.specs.Refusals.{done, most_bytes}
use Rattle.algorithm.specs.Checks.{written}
use Rattle.hmac.specs.Hmac.{tag_of}
use Rattle.hmac.specs.Keyed.{HeldKeyed, fresh_keyed, zero_keyed, after_keyed}
use Rattle.hmac.specs.Keyed.Laws.{keyed_count, keyed_held, keyed_after_count, keyed_after_held, keyed_after_append}
use Rattle.hmac.specs.Calls.{Started, Fed, started, fed, start_of, update_of, tag_answer}
use Rattle.hmac.specs.Calls.Laws.{start_accepted, update_accepted, message_tag, tag_message_accepted}
use Rattle.hmac.specs.Pieces.Laws.{fresh_message}
use Rattle.hmac.specs.declared.keyed.Keyed.{Keyed}
use Rattle.report.specs.Calls.Laws.{fingerprint_fits}
use Rattle.report.specs.Inside.{TwoPieces}
use Rattle.algorithm.specs.Answers.Laws.{done_ok, valued_ok}
use Rattle.report.proofs.fingerprints.tag_pieces.Goals as goal

-- the start and both pieces are taken, and the tag is that of both
module _ {h : Hash} {n : ℕ} (en : n ≡ hash_number h) {key a b out : List ℕ} (p : TwoPieces h key a b out) where
  made : names n ≡ true
  made = ap names en ∙ number_names h

  hash_is : hash_of n ≡ h
  hash_is = ap hash_of en ∙ number_back h

  pieces_fit : length a + length b ≤ most_bytes - block_of (hash_of n)
  pieces_fit = omega (arith, p.fits, ap block_of hash_is)

  asked : allowed (hash_of n) 32 ≡ true
  asked = fingerprint_fits (hash_of n)

  abbrev fresh : Keyed
  fresh = fresh_keyed (hash_of n) key 32

  held : HeldKeyed fresh
  held = keyed_held (hash_of n) key 32 asked

  count : fresh.count + (length a + length b) ≤ most_bytes
  count = omega (arith, pieces_fit, keyed_count (hash_of n) key 32, block_most (hash_of n))

  start_is : start_of n key 32 ≡ started done fresh
  start_is = start_accepted n key 32 made p.key_fits asked

  first_is : {k : Keyed} → started done k ≡ start_of n key 32 → update_of k a ≡ fed done (after_keyed fresh a)
  first_is e = ap (λ (x : Started). update_of x.keyed a) (e ∙ start_is) ∙ update_accepted fresh a held.sound (omega (arith, count))

  second_is : {k l : Keyed} → started done k ≡ start_of n key 32 → fed done l ≡ update_of k a → update_of l b ≡ fed done (after_keyed fresh (a ++ b))
  second_is e f =
      let first : HeldKeyed (after_keyed fresh a) = keyed_after_held fresh a held (omega (arith, count)) in
      ap (λ (x : Fed). update_of x.keyed b) (f ∙ first_is e)
      ∙ update_accepted (after_keyed fresh a) b first.sound (omega (arith, count, keyed_after_count fresh a))
      ∙ ap (fed done) (keyed_after_append fresh a b held.waiting_size)

  tag_is : {k l m : Keyed} → started done k ≡ start_of n key 32 → fed done l ≡ update_of k a → fed done m ≡ update_of l b
      → tag_answer m out ≡ written done (tag_of h key 32 (a ++ b))
  tag_is e f g =
      let fits : length (a ++ b) ≤ most_bytes - block_of (hash_of n) = rw length-append pieces_fit in
      ap (λ (x : Fed). tag_answer x.keyed out) (g ∙ second_is e f)
      ∙ message_tag (fresh_message n key (a ++ b) 32 made p.key_fits asked fits) out
      ∙ tag_message_accepted n key (a ++ b) 32 out made p.key_fits fits asked p.size
      ∙ ap (λ (x : Hash). written done (tag_of x key 32 (a ++ b))) hash_is

-- a piece that is taken has the number of a call that is done
as_done : (r : Result Unit Refusal) {t u : Keyed} {x : Fed} → fed (number r) t ≡ x → x ≡ fed done u → fed done t ≡ x
as_done r {t} e g = ap (λ (n : ℕ). fed n t) (sym (ap (λ (y : Fed). y.number) (e ∙ g))) ∙ e

pub unwrap-keyed-requires : goal.unwrap-keyed-requires
unwrap-keyed-requires c =
    valued_ok zero_keyed c.start.result (ap (λ (x : Started). x.number) (c.start.ensures ∙ start_is c.into.ensures c.requires))

pub unwrap-requires : goal.unwrap-requires
unwrap-requires c =
    let e = rw c.unwrap-keyed.ensures at c.start.ensures in
    done_ok c.update.result (ap (λ (x : Fed). x.number) (c.update.ensures ∙ first_is c.into.ensures c.requires e))

pub unwrap-requires-2 : goal.unwrap-requires-2
unwrap-requires-2 c =
    let e = rw c.unwrap-keyed.ensures at c.start.ensures in
    let f = as_done c.update.result c.update.ensures (first_is c.into.ensures c.requires e) in
    done_ok c.update-2.result (ap (λ (x : Fed). x.number) (c.update-2.ensures ∙ second_is c.into.ensures c.requires e f))

pub unwrap-requires-3 : goal.unwrap-requires-3
unwrap-requires-3 c =
    let e = rw c.unwrap-keyed.ensures at c.start.ensures in
    let f = as_done c.update.result c.update.ensures (first_is c.into.ensures c.requires e) in
    let g = as_done c.update-2.result c.update-2.ensures (second_is c.into.ensures c.requires e f) in
    done_ok c.tag.result (ap (λ (x : ℕ × List ℕ). x.0) (c.tag.ensures ∙ tag_is c.into.ensures c.requires e f g))

pub returns : goal.returns
returns c =
    let e = rw c.unwrap-keyed.ensures at c.start.ensures in
    let f = as_done c.update.result c.update.ensures (first_is c.into.ensures c.requires e) in
    let g = as_done c.update-2.result c.update-2.ensures (second_is c.into.ensures c.requires e f) in
    ap (λ (x : ℕ × List ℕ). x.1) (c.tag.ensures ∙ tag_is c.into.ensures c.requires e f g)
