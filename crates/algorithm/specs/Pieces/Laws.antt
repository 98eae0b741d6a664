-- Proved: laws of a run of pieces, once over any state that takes them: refused pieces change nothing, and what stands after a run is what
-- stands after the bytes taken, given in one. Assumes nothing.
use Rattle.std.specs.Prelude.{◌≡◌, ℕ, ◌+◌, ◌≤◌}
use Rattle.std.proofs.Math.Path.{refl, sym}
use Rattle.std.proofs.Common.{ap, subst, ◌∙◌}
use mathlib.Core.List.{List, [], ◌∷◌, ◌++◌, flatten}
use native.Mathlib.Omega.{arith}
use Rattle.std.proofs.Math.Decide.{dec_le}
use Rattle.std.proofs.Math.ListN.{length, length-append}
use Rattle.algorithm.specs.Refusals.{message_too_long, most_bytes}
use Rattle.algorithm.specs.Pieces.{Work, Taking, after_all, taken_of, Cut}
use Rattle.algorithm.specs.Pieces.Cut.{end, piece, between}

module _ {S : Type 0} {w : Work S} (t : Taking w) where
  -- a piece keeps a sound state sound, taken or refused
  pub update_held : (s : S) (p : List ℕ) → w.Held s → w.Held (w.update s p).1
  update_held s p h = elim (dec_le (w.count s + length p) most_bytes) [
    | yes l ↦ subst (λ (r : ℕ × S). w.Held r.1) (sym (t.taken s p h l)) (t.after_held s p h l)
    | no l ↦ subst (λ (r : ℕ × S). w.Held r.1) (sym (t.too_long s p h (omega arith))) h
  ]

  -- after any pieces, refused ones among them, the state is the definition's for the bytes taken
  pub after_all_lem : (ps : List (List ℕ)) (s : S) → w.Held s → after_all w.update s ps ≡ w.after s (taken_of w.update s ps)
  unfolding after_all taken_of
  after_all_lem [] s h = sym (t.after_nothing s h)
  after_all_lem (p ∷ ps) s h = elim (dec_le (w.count s + length p) most_bytes) [
    | yes l ↦
        rw (t.taken s p h l) (after_all_lem ps (w.after s p) (t.after_held s p h l) ∙ t.after_append s p (taken_of w.update (w.after s p) ps) h)
    | no l ↦ let e : w.update s p ≡ (message_too_long, s) = t.too_long s p h (omega arith) in rw e (after_all_lem ps s h)
  ]

  -- and it is sound
  pub all_held : (ps : List (List ℕ)) (s : S) → w.Held s → w.Held (after_all w.update s ps)
  unfolding after_all
  all_held [] s h = h
  all_held (p ∷ ps) s h = all_held ps (w.update s p).1 (update_held s p h)

  -- pieces that fit the limit together are all taken
  pub all_taken : (ps : List (List ℕ)) (s : S) → w.Held s → w.count s + length (flatten ps) ≤ most_bytes → taken_of w.update s ps ≡ flatten ps
  unfolding taken_of flatten
  all_taken [] s h l = refl
  all_taken (p ∷ ps) s h l =
      let n : length (p ++ flatten ps) ≡ length p + length (flatten ps) = length-append p (flatten ps) in
      let f : w.count s + length p ≤ most_bytes = omega arith in
      let c : w.count (w.after s p) ≡ w.count s + length p = t.after_count s p in
      rw (t.taken s p h f) (ap (λ (r : List ℕ). p ++ r) (all_taken ps (w.after s p) (t.after_held s p h f) (omega arith)))

  -- so bytes cut anywhere lead to one state
  pub cut_anywhere : (ps qs : List (List ℕ)) (s : S) → w.Held s → flatten ps ≡ flatten qs → w.count s + length (flatten ps) ≤ most_bytes
      → after_all w.update s ps ≡ after_all w.update s qs
  cut_anywhere ps qs s h e l =
      after_all_lem ps s h
      ∙ ap (w.after s) (all_taken ps s h l ∙ e ∙ sym (all_taken qs s h (rw e at l)))
      ∙ sym (after_all_lem qs s h)

  -- a message in pieces, with others between that are refused: its bytes are taken and no others
  pub cut_taken : {n : ℕ} {ps : List (List ℕ)} {m : List ℕ} → Cut n ps m → (s : S) → w.Held s → w.count s ≡ n → taken_of w.update s ps ≡ m
  unfolding taken_of
  cut_taken end s h e = refl
  cut_taken (piece p {ps = ps} l c) s h e =
      let f : w.count s + length p ≤ most_bytes = omega arith in
      rw (t.taken s p h f) (ap (λ (r : List ℕ). p ++ r) (cut_taken c (w.after s p) (t.after_held s p h f) (omega (arith, t.after_count s p))))
  cut_taken (between p l c) s h e = rw (t.too_long s p h (omega arith)) (cut_taken c s h e)

-- any cut of bytes that fit is such a cut, with nothing between
pub cut_any : (n : ℕ) (ps : List (List ℕ)) → n + length (flatten ps) ≤ most_bytes → Cut n ps (flatten ps)
unfolding flatten
cut_any n [] l = end
cut_any n (p ∷ ps) l =
    let e : length (p ++ flatten ps) ≡ length p + length (flatten ps) = length-append p (flatten ps) in
    piece {n = n} p (omega arith) (cut_any (n + length p) ps (omega arith))
