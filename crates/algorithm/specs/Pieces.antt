-- Believed: a run of pieces, over any state: what stands after it, which bytes were taken, and which runs are a message cut anywhere.
-- `update` is the call that is given one piece: the number that it answers, and the state. The laws are in Pieces/Laws.antt. Assumes
-- nothing.
pub mod Laws
use Rattle.std.specs.Prelude.{◌≡◌, cond, List, [], ◌∷◌, ◌++◌, ℕ, ◌+◌, ◌≤◌, ◌<◌, eqb, length}
use Rattle.algorithm.specs.Refusals.{done, message_too_long, most_bytes}

-- work in pieces: the call that is given a piece, the state after bytes that it takes, the bytes taken so far, and what a sound state is
-- that the code can hold
pub record Work (S : Type 0) : Type 1 where
  pub update : S → List ℕ → ℕ × S
  pub after : S → List ℕ → S
  pub count : S → ℕ
  pub Held : S → Type 0

-- what a layer shows of its work in pieces, for the laws of a run
pub record Taking {S : Type 0} (w : Work S) : Type 0 where
  pub taken : (s : S) (p : List ℕ) → w.Held s → w.count s + length p ≤ most_bytes → w.update s p ≡ (done, w.after s p)
  pub too_long : (s : S) (p : List ℕ) → w.Held s → most_bytes < w.count s + length p → w.update s p ≡ (message_too_long, s)
  pub after_nothing : (s : S) → w.Held s → w.after s [] ≡ s
  pub after_append : (s : S) (p q : List ℕ) → w.Held s → w.after (w.after s p) q ≡ w.after s (p ++ q)
  pub after_count : (s : S) (p : List ℕ) → w.count (w.after s p) ≡ w.count s + length p
  pub after_held : (s : S) (p : List ℕ) → w.Held s → w.count s + length p ≤ most_bytes → w.Held (w.after s p)

-- the state after pieces that were given one after the other, each taken or refused
unfoldable pub after_all : {S : Type 0} → (S → List ℕ → ℕ × S) → S → List (List ℕ) → S
after_all update s [] = s
after_all update s (p ∷ ps) = after_all update (update s p).1 ps

-- the bytes of the pieces that were taken
unfoldable pub taken_of : {S : Type 0} → (S → List ℕ → ℕ × S) → S → List (List ℕ) → List ℕ
taken_of update s [] = []
taken_of update s (p ∷ ps) = cond (eqb (update s p).0 done) p [] ++ taken_of update (update s p).1 ps

-- a message that follows n bytes, cut into pieces that all fit the limit, with any pieces between them that would pass it
pub data Cut : ℕ → List (List ℕ) → List ℕ → Type 0 where
  end : {n : ℕ} → Cut n [] []
  piece : {n : ℕ} (p : List ℕ) {ps : List (List ℕ)} {m : List ℕ} → n + length p ≤ most_bytes → Cut (n + length p) ps m → Cut n (p ∷ ps) (p ++ m)
  between : {n : ℕ} (p : List ℕ) {ps : List (List ℕ)} {m : List ℕ} → most_bytes < n + length p → Cut n ps m → Cut n (p ∷ ps) m
