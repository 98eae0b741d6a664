-- Proved: laws of the beginning of one list written over that of another. Assumes nothing.
use Rattle.std.specs.Prelude.{◌≡◌, refl, List, [], ◌∷◌, ◌++◌, ℕ, zero, suc, ◌+◌, ◌≤◌, ◌<◌, length, take, drop, set, get_or}
use Rattle.std.proofs.Common.{ap, append-nil, not-suc-le-zero, le_of_suc-le-suc, add-one, arith, drop_of_length-le, length-append, length-take, length-drop, take_all}
use Rattle.std.proofs.Math.Seq.{take-length, drop-length}
use Rattle.octets.specs.Copy.{over}

module _ (s o : List ℕ) where
  -- what is written over keeps its length
  pub over_length : length (over s o) ≡ length o
  over_length = simp (length-append, length-take, length-drop) (omega arith)

  -- all of s where it fits
  pub over_short : length s ≤ length o → over s o ≡ s ++ drop (length s) o
  over_short h = rw (take_all (length o) s h)

  -- all of o where s goes at least as far
  pub over_long : length o ≤ length s → over s o ≡ take (length o) s
  over_long h = rw (drop_of_length-le o h, append-nil)

-- one element more, copied to its own place
copied : {A : Type 0} (d : A) (i : ℕ) (s o : List A) → i < length s → i < length o
    → set (take i s ++ drop i o) i (get_or s i d) ≡ take (suc i) s ++ drop (suc i) o
copied d i [] o h k = absurd (not-suc-le-zero h)
copied d i (a ∷ s) [] h k = absurd (not-suc-le-zero k)
copied d zero (a ∷ s) (b ∷ o) h k = refl
copied d (suc i) (a ∷ s) (b ∷ o) h k = ap (λ (t : List _). a ∷ t) (copied d i s o (le_of_suc-le-suc h) (le_of_suc-le-suc k))

pub copy_next : {A : Type 0} (d : A) (i : ℕ) (s o : List A) → i < length s → i < length o
    → set (take i s ++ drop i o) i (get_or s i d) ≡ take (i + 1) s ++ drop (i + 1) o
copy_next d i s o h k = rw (add-one i) (copied d i s o h k)

pub copy_more : (i : ℕ) (s o : List ℕ) → i < length s → i < length o
    → set (take i s ++ drop i o) i (get_or s i 0) ≡ take (i + 1) s ++ drop (i + 1) o
copy_more = copy_next 0

-- the copy has reached the end of s, or that of o
pub copied_src : {A : Type 0} (i : ℕ) (s o : List A) → i ≡ length s → i ≤ length o → take i s ++ drop i o ≡ over s o
copied_src i s o e k =
    let h : length s ≤ length o = omega arith in
    rw (e, take-length, take_all (length o) s h)

pub copied_out : {A : Type 0} (i : ℕ) (s o : List A) → i ≡ length o → i ≤ length s → take i s ++ drop i o ≡ over s o
copied_out i s o e k =
    let h : length o ≤ length s = omega arith in
    rw (e, drop-length, drop_of_length-le o h)
