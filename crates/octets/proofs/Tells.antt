-- Laws of two lists compared. Assumes nothing.
use Rattle.std.proofs.Common.{◌≡◌, ap, sym, ◌∙◌, List, ℕ, ◌+◌, ◌<◌, length, take, get_or, take-suc, take-take, get_or-take, add-one, arith, bit_or, bit_xor, eqb, eqb-true, eq-eqb}
use lib.Bits.{xor_self, or_zero_l}
use Rattle.octets.specs.Same.{Tells}
use Rattle.octets.proofs.Bits.{or_zero, xor_zero}

-- one element more: the bits in which the two lists differ so far, and those in which the next elements do
module _ (a b : List ℕ) (i bits : ℕ) (h : i < length a) (k : i < length b) where
  pub tells_more : Tells (eqb bits 0) (take i a) (take i b)
      → Tells (eqb (bit_or bits (bit_xor (get_or a i 0) (get_or b i 0))) 0) (take (i + 1) a) (take (i + 1) b)
  tells_more t =
      let x = get_or a i 0 in
      let y = get_or b i 0 in
      record {
        true_equal = λ r.
            let z = or_zero bits (bit_xor x y) (eqb-true (bit_or bits (bit_xor x y)) 0 r) in
            let e : take i a ≡ take i b = t.true_equal (eq-eqb bits 0 z.0) in
            let f : x ≡ y = xor_zero x y z.1 in
            rw (add-one i, take-suc a i 0 h, take-suc b i 0 k, e, f);
        equal_true = λ e.
            let f : take i a ≡ take i b =
            sym (take-take i (i + 1) a (omega arith)) ∙ ap (take i) e ∙ take-take i (i + 1) b (omega arith)
            in
            let g : x ≡ y =
            sym (get_or-take (i + 1) a i 0 (omega arith))
            ∙ ap (λ (l : List ℕ). get_or l i 0) e
            ∙ get_or-take (i + 1) b i 0 (omega arith)
            in
            let z : bits ≡ 0 = eqb-true bits 0 (t.equal_true f) in
            eq-eqb (bit_or bits (bit_xor x y)) 0 (rw (z, g, xor_self) (or_zero_l 0));
      }
