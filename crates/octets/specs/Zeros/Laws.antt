-- Proved: laws of bytes in a longer buffer of zeros. Assumes nothing.
use Rattle.std.specs.Prelude.{◌≡◌, List, ◌++◌, ℕ, ◌+◌, ◌-◌, ◌≤◌, length, take, replicate}
use Rattle.std.proofs.Common.{sym, ap, ◌∙◌, append_assoc, arith, length-append}
use Rattle.std.proofs.lemmas.List.{length-replicate, replicate-append-replicate, take-append-le}
use Rattle.std.proofs.Math.Seq.{take-append_seam}
use Rattle.octets.specs.Copy.{over}
use Rattle.octets.specs.Copy.Laws.{over_short, over_long}
use Rattle.octets.specs.Every.Laws.{drop_zeros}
use Rattle.octets.specs.Zeros.{zeros_to}

-- bytes written over the beginning of zeros
pub over_zeros : (n : ℕ) (l : List ℕ) → length l ≤ n → over l (replicate n 0) ≡ zeros_to n l
over_zeros n l h =
    over_short l (replicate n 0) (omega (arith, length-replicate {A = ℕ} n 0)) ∙ ap (λ (r : List ℕ). l ++ r) (drop_zeros (length l) n)

pub zeros_length : (n : ℕ) (l : List ℕ) → length l ≤ n → length (zeros_to n l) ≡ n
zeros_length n l h = omega (arith, length-append l (replicate (n - length l) 0), length-replicate {A = ℕ} (n - length l) 0)

-- zeros after zeros
pub zeros_twice : (n k : ℕ) (l : List ℕ) → length l ≤ k → k ≤ n → zeros_to n (zeros_to k l) ≡ zeros_to n l
zeros_twice n k l h g =
    let e : (k - length l) + (n - length (zeros_to k l)) ≡ n - length l = omega (arith, zeros_length k l h) in
    append_assoc l (replicate (k - length l) 0) (replicate (n - length (zeros_to k l)) 0)
    ∙ ap (λ (r : List ℕ). l ++ r) (replicate-append-replicate (k - length l) (n - length (zeros_to k l)) 0 ∙ ap (λ (i : ℕ). replicate i 0) e)

-- the bytes again
pub take_zeros : (n t : ℕ) (l : List ℕ) → t ≤ length l → take t (zeros_to n l) ≡ take t l
take_zeros n t l h = take-append-le t l (replicate (n - length l) 0) h

pub take_whole : (n t : ℕ) (l : List ℕ) → length l ≡ t → take t (zeros_to n l) ≡ l
take_whole n t l e = ap (λ (k : ℕ). take k (zeros_to n l)) (sym e) ∙ take-append_seam l (replicate (n - length l) 0)

-- the beginning of bytes with zeros after them, over a buffer that it fills
pub over_buffer : (n t : ℕ) (l out : List ℕ) → length out ≡ t → t ≤ length l → length l ≤ n → over (zeros_to n l) out ≡ take t l
over_buffer n t l out e h g =
    over_long (zeros_to n l) out (omega (arith, zeros_length n l g))
    ∙ ap (λ (k : ℕ). take k (zeros_to n l)) e
    ∙ take_zeros n t l h
