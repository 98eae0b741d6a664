-- Proved: laws of the block step and of words as bytes, over the core of a hash. Assumes nothing.
use Rattle.std.specs.Prelude.{◌≡◌, ℕ, ◌+◌, ◌-◌, ◌*◌, ◌^◌, true, ◌&&◌, ltb, List, [], ◌∷◌, length, nat_lt, slice_index}
use Rattle.std.proofs.Math.Path.{refl}
use Rattle.std.proofs.Common.{sym, mod-lt, zero-mul, suc-mul, arith, length-append, pow_pos, lt-ltb}
use Rattle.octets.specs.Number.{bytes}
use Rattle.octets.specs.Number.Laws.{bytes_length}
use Rattle.octets.specs.Every.{every}
use Rattle.hash.specs.Word.{add}
use Rattle.hash.specs.Description.{Core}
use Rattle.hash.specs.Sha2.{sums, step, spell, rounds, schedule}

module _ (C : Core) where
  -- eight words come out, and each fits the width
  pub step_length : (h b : List ℕ) → length (step C h b) ≡ 8
  unfolding step sums
  step_length h b = refl

  sum_fits : (x y : ℕ) → nat_lt (add C.width x y) (2 ^ C.width) ≡ true
  sum_fits x y = lt-ltb _ _ (mod-lt (x + y) (pow_pos C.width))

  pub step_fits : (h b : List ℕ) → every (λ x. ltb x (2 ^ C.width)) (step C h b) ≡ true
  unfolding step sums every
  step_fits h b =
      let v : List ℕ = rounds C (schedule C b (C.rounds - 16)) h C.rounds in
      let e : (i : ℕ) → nat_lt (add C.width (slice_index h i) (slice_index v i)) (2 ^ C.width) ≡ true = λ i. sum_fits (slice_index h i) (slice_index v i) in
      λ i. e 0 i && (e 1 i && (e 2 i && (e 3 i && (e 4 i && (e 5 i && (e 6 i && (e 7 i && true)))))))

-- k bytes for each word
pub spell_length : (k : ℕ) (ws : List ℕ) → length (spell k ws) ≡ length ws * k
unfolding spell
spell_length k [] = sym (zero-mul k)
spell_length k (x ∷ ws) =
    omega (arith, length-append (bytes k x) (spell k ws), bytes_length k x, spell_length k ws, suc-mul (length ws) k)
