-- Bits gathered from several numbers: none is set exactly where none is set in any. Assumes nothing.
use Rattle.std.proofs.Common.{◌≡◌, ap, sym, ◌∙◌, Bool, ◌&&◌, ℕ, zero, suc, List, [], ◌∷◌, ◌++◌, arith, bit_or, bit_xor, eqb}
use lib.Bits.{and_le_l, and_le_r, or_zero_l, or_add_and, xor_add_and}
use borrow.Author.Tests.{ne_eqb}
use Rattle.std.proofs.Math.Bool.{and-true}
use Rattle.octets.specs.Every.{every, all_zero}
use Rattle.octets.specs.Every.Laws.{every_append}

module _ (a b : ℕ) where
  -- no bit of either
  pub or_zero : bit_or a b ≡ 0 → (a ≡ 0) × (b ≡ 0)
  or_zero e = (omega (arith, or_add_and a b, and_le_r a b), omega (arith, or_add_and a b, and_le_l a b))

  -- no bit in which they differ
  pub xor_zero : bit_xor a b ≡ 0 → a ≡ b
  xor_zero e = omega (arith, xor_add_and a b, and_le_l a b, and_le_r a b)

-- a test of the gathered bits is a test of each
or_tests : (a b : ℕ) → eqb (bit_or a b) 0 ≡ (eqb a 0 && eqb b 0)
or_tests zero b = ap (λ (n : ℕ). eqb n 0) (or_zero_l b)
or_tests (suc a) b =
    ne_eqb (bit_or (suc a) b) 0 (λ e. let z : suc a ≡ 0 = (or_zero (suc a) b e).0 in omega arith)
    ∙ ap (λ (t : Bool). t && eqb b 0) (sym (ne_eqb (suc a) 0 (λ e. omega arith)))

-- Where the gathered bits tell whether a list is all zero, they do so with one number more.
pub or_more : (bits : ℕ) (l : List ℕ) (x : ℕ) → eqb bits 0 ≡ all_zero l → eqb (bit_or bits x) 0 ≡ all_zero (l ++ (x ∷ []))
unfolding every
or_more bits l x e =
    or_tests bits x
    ∙ ap (λ (t : Bool). t && eqb x 0) e
    ∙ sym (every_append (λ x. eqb x 0) l (x ∷ []) ∙ ap (λ (t : Bool). all_zero l && t) (and-true (eqb x 0)))
