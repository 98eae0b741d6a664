-- Laws of one block: the pieces that it is made of are taken one after the other, and then the tag is. Assumes nothing.
use mathlib.Core.Path.{◌≡◌, sym, ap, subst, ◌∙◌}
use mathlib.Core.List.{List, [], ◌∷◌, ◌++◌, append_assoc}
use Prim.Native.Nat.{ℕ, ◌+◌, ◌-◌, ◌≤◌}
use native.Mathlib.Omega.{arith}
use lib.ListN.{length, take, drop, replicate, length-append}
use lib.Seq.{length-take-le}
use Rattle.std.specs.Prelude.{Result, Ok}
use Rattle.std.specs.Result.{is_ok}
use mathlib.Core.Bool.{true}
use Rattle.octets.specs.Every.Laws.{drop_zeros}
use Rattle.octets.specs.Zeros.{zeros_to}
use Rattle.algorithm.specs.declared.refusals.Refusal.{Refusal}
use Rattle.algorithm.specs.Answers.{number}
use Rattle.algorithm.specs.Answers.Laws.{number_unique, done_ok}
use Rattle.algorithm.specs.Refusals.{done, most_bytes}
use Rattle.algorithm.specs.Checks.{written}
use Rattle.hmac.specs.Keyed.{HeldKeyed, after_keyed, keyed_tag}
use Rattle.hmac.specs.Keyed.Laws.{length_fits, keyed_tag_length, keyed_after_length, keyed_after_count, keyed_after_held, keyed_after_append}
use Rattle.hmac.specs.Calls.{Fed, fed, UpdateOutcome, tag_answer, TagOutcome}
use Rattle.hmac.specs.Calls.Laws.{update_accepted, tag_accepted}
use Rattle.hmac.specs.declared.keyed.Keyed.{Keyed}
use Rattle.hkdf.specs.Inside.{Stretchable}

-- a piece that fits is taken, also after others
taken : {k : Keyed} → HeldKeyed k → (p : List ℕ) → k.count + length p ≤ most_bytes → (r : Result Unit Refusal) {t : Keyed}
    → UpdateOutcome k p (fed (number r) t) → (is_ok r ≡ true) × (t ≡ after_keyed k p)
taken {k} h p l r {t} e =
    let q : fed (number r) t ≡ fed done (after_keyed k p) = e ∙ update_accepted k p h.sound l in
    (done_ok r (ap (λ (f : Fed). f.number) q), ap (λ (f : Fed). f.keyed) q)

taken_after : {k k' : Keyed} → HeldKeyed k → (m p : List ℕ) → k.count + (length m + length p) ≤ most_bytes → k' ≡ after_keyed k m
    → (r : Result Unit Refusal) {t : Keyed} → UpdateOutcome k' p (fed (number r) t) → (is_ok r ≡ true) × (t ≡ after_keyed k (m ++ p))
taken_after {k} {k'} h m p l at r e =
    let held : HeldKeyed k' = subst HeldKeyed (sym at) (keyed_after_held k m h (omega arith)) in
    let count : k'.count ≡ k.count + length m = ap (λ (x : Keyed). x.count) at ∙ keyed_after_count k m in
    let q = taken held p (omega arith) r e in
    (q.0, q.1 ∙ ap (λ (x : Keyed). after_keyed x p) at ∙ keyed_after_append k m p h.waiting_size)

-- so the last block is, then info, then the counter
module _ {k : Keyed} {last info : List ℕ} (s : Stretchable k last info) where
  pub last_fed : (r : Result Unit Refusal) {t : Keyed} → UpdateOutcome k last (fed (number r) t) → (is_ok r ≡ true) × (t ≡ after_keyed k last)
  last_fed r e = taken s.held last (omega (arith, s.room)) r e

  pub info_fed : {k' : Keyed} → k' ≡ after_keyed k last → (r : Result Unit Refusal) {t : Keyed} → UpdateOutcome k' info (fed (number r) t)
      → (is_ok r ≡ true) × (t ≡ after_keyed k (last ++ info))
  info_fed at r e = taken_after s.held last info (omega (arith, s.room)) at r e

  pub counter_fed : (i : ℕ) {k' : Keyed} → k' ≡ after_keyed k (last ++ info) → (r : Result Unit Refusal) {t : Keyed}
      → UpdateOutcome k' (i ∷ []) (fed (number r) t)
      → (is_ok r ≡ true) × (t ≡ after_keyed k (last ++ (info ++ (i ∷ []))))
  counter_fed i at r e =
      let q = taken_after s.held (last ++ info) (i ∷ []) (omega (arith, length-append last info, s.room)) at r e in
      (q.0, q.1 ∙ ap (after_keyed k) (append_assoc last info (i ∷ [])))

  -- the keyed state after them is sound, and its tag is taken into as many zeros
  all_held : (i : ℕ) → HeldKeyed (after_keyed k (last ++ (info ++ (i ∷ []))))
  all_held i = keyed_after_held k (last ++ (info ++ (i ∷ []))) s.held (simp length-append s.room)

  module _ (i : ℕ) {k' : Keyed} (at : k' ≡ after_keyed k (last ++ (info ++ (i ∷ [])))) (r : Result Unit Refusal) {out : List ℕ}
      (e : TagOutcome k' (take k.tag_length (replicate 64 0)) (number r) out) where
    tagged : ◌≡◌ {A = ℕ × List ℕ} (number r, out) (written done (keyed_tag (after_keyed k (last ++ (info ++ (i ∷ []))))))
    tagged =
        let part : List ℕ = take k.tag_length (replicate 64 0) in
        let m : List ℕ = last ++ (info ++ (i ∷ [])) in
        let size = length-take-le k.tag_length (replicate 64 0) (length_fits k s.held.sound) ∙ sym (keyed_after_length k m) in
        e ∙ ap (λ (x : Keyed). tag_answer x part) at ∙ tag_accepted (after_keyed k m) part (all_held i).sound size

    pub tag_ok : r ≡ Ok tt
    tag_ok = number_unique r (Ok tt) (ap (λ (p : ℕ × List ℕ). p.0) tagged)

    pub tag_written : out ++ drop k.tag_length (replicate 64 0) ≡ zeros_to 64 (keyed_tag (after_keyed k (last ++ (info ++ (i ∷ [])))))
    tag_written =
        let m : List ℕ = last ++ (info ++ (i ∷ [])) in
        let size : k.tag_length ≡ length (keyed_tag (after_keyed k m)) = sym (keyed_tag_length (after_keyed k m) (all_held i) ∙ keyed_after_length k m) in
        ap (λ (p : ℕ × List ℕ). p.1 ++ drop k.tag_length (replicate 64 0)) tagged
        ∙ ap (λ (z : List ℕ). keyed_tag (after_keyed k m) ++ z) (drop_zeros k.tag_length 64 ∙ ap (λ (t : ℕ). replicate (64 - t) 0) size)

-- so the keyed state that comes back is the one that was told
pub told : {r : Result Keyed Refusal} {k k' : Keyed} → r ≡ Ok k → r ≡ Ok k' → k' ≡ k
told e o = cc
