-- Proved: laws of parts of a list: read from a place, or lent from a place onward, written over and given back. Assumes nothing.
use Rattle.std.specs.Prelude.{◌≡◌, List, [], ◌∷◌, ◌++◌, ℕ, zero, suc, ◌+◌, ◌-◌, ◌≤◌, length, take, drop, replicate}
use Rattle.std.proofs.Common.{sym, ap, ◌∙◌, append_assoc, append-nil, zero-add, le_refl, arith, length-append, length-drop, drop_of_length-le, take_all, take_at, drop_at, take-take, drop-drop}
use Rattle.std.proofs.lemmas.List.{length-replicate, replicate-append-replicate}
use Rattle.std.proofs.Math.Seq.{take-length, take-nil, paste, slice}
use Rattle.std.proofs.lemmas.List.Edits.{take-paste}
use borrow.Rule.Slice.PartMut.{put_mid}
use Rattle.octets.specs.Copy.{over}
use Rattle.octets.specs.Copy.Laws.{over_length, over_short}
use Rattle.octets.specs.Every.Laws.{drop_zeros}

-- a part from a place to the end, as a loan has it
pub part_all : (l : List ℕ) (n at : ℕ) → length l ≡ n → take (n - at) (drop at l) ≡ drop at l
part_all l n at e = take_all (n - at) (drop at l) (rw length-drop (omega arith))

-- a part in the middle, as a loan has it
pub part_slice : (f t : ℕ) (l : List ℕ) → take (t - f) (drop f l) ≡ slice f t l
part_slice zero t l = let e : t - 0 ≡ t = omega arith in ap (λ (n : ℕ). take n l) e
part_slice (suc f) zero l = let e : 0 - suc f ≡ 0 = omega arith in ap (λ (n : ℕ). take n (drop (suc f) l)) e
part_slice (suc f) (suc t) [] = take-nil (suc t - suc f)
part_slice (suc f) (suc t) (x ∷ l) = let e : suc t - suc f ≡ t - f = omega arith in ap (λ (n : ℕ). take n (drop f l)) e ∙ part_slice f t l

-- so many elements from a place on, as part of those up to their end
pub part_is : (at n : ℕ) (l : List ℕ) → drop at (take (at + n) l) ≡ take n (drop at l)
part_is at n l = let e : (at + n) - at ≡ n = omega arith in sym (part_slice at (at + n) l) ∙ ap (λ (k : ℕ). take k (drop at l)) e

-- and the same elements of the list up to any later place
pub part_front : (top at n : ℕ) (l : List ℕ) → at + n ≤ top → take n (drop at (take top l)) ≡ take n (drop at l)
part_front top at n l h = sym (part_is at n (take top l)) ∙ ap (drop at) (take-take (at + n) top l h) ∙ part_is at n l

-- the part from `at` onward, lent to a copy of q and given back
pub part_put : (l q y : List ℕ) (at n : ℕ) → n ≡ length l - at → at + length q ≤ length l → y ≡ over q (take n (drop at l))
    → put_mid at n l y ≡ paste l at q (length q)
part_put l q y at n en room ey =
    let p : take n (drop at l) ≡ drop at l = take_all n (drop at l) (rw length-drop (omega arith)) in
    let fits : length q ≤ length (drop at l) = rw length-drop (omega arith) in
    let e : y ≡ q ++ drop (at + length q) l =
    ey ∙ ap (over q) p ∙ over_short q (drop at l) fits ∙ ap (λ (r : List ℕ). q ++ r) (drop-drop (length q) at l)
    in
    let none : drop n (drop at l) ≡ [] = drop_of_length-le (drop at l) {i = n} (rw length-drop (omega arith)) in
    rw (none, e, append-nil, take-length q) (sym (append_assoc (take at l) q (drop (at + length q) l)))

-- a second part, written after a first one
pub over_paste : (a b o p : List ℕ) (at : ℕ) → length a ≡ at → at + length b ≤ length o → p ≡ over a o → paste p at b (length b) ≡ over (a ++ b) o
over_paste a b o p at ea room ep =
    let both : length (a ++ b) ≤ length o = omega (arith, length-append a b) in
    let is : p ≡ a ++ drop (length a) o = ep ∙ over_short a o (omega arith) in
    let front : take at p ≡ a = ap (take at) is ∙ take_at a (drop (length a) o) at ea in
    let back : drop (at + length b) p ≡ drop (length (a ++ b)) o =
    sym (drop-drop (length b) at p)
    ∙ ap (drop (length b)) (ap (drop at) is ∙ drop_at a (drop (length a) o) at ea)
    ∙ drop-drop (length b) (length a) o
    ∙ ap (λ (k : ℕ). drop k o) (sym (length-append a b))
    in
    (λ i. (front i ++ take-length b i) ++ back i) ∙ sym (over_short (a ++ b) o both)

-- and the same where the part from there onward is lent to a copy
pub over_more : (a b o p y : List ℕ) (at n : ℕ) → length a ≡ at → at + length b ≤ length o → p ≡ over a o → n ≡ length p - at
    → y ≡ over b (take n (drop at p)) → put_mid at n p y ≡ over (a ++ b) o
over_more a b o p y at n ea room ep en ey =
    part_put p b y at n en (omega (arith, ap length ep, over_length a o)) ey ∙ over_paste a b o p at ea room ep

-- what stands up to the end of what was written
pub take_pasted : (l : List ℕ) (at : ℕ) (q : List ℕ) → at + length q ≤ length l
    → take (at + length q) (paste l at q (length q)) ≡ take at l ++ q
take_pasted l at q h = take-paste l at q (length q) (omega arith) (le_refl (length q)) ∙ ap (λ (r : List ℕ). take at l ++ r) (take-length q)

-- zeros, with a list written over their beginning
pub paste_zeros : (n : ℕ) (q : List ℕ) → paste (replicate n 0) 0 q (length q) ≡ q ++ replicate (n - length q) 0
paste_zeros n q = rw (zero-add, take-length q, drop_zeros (length q) n)

-- the beginning of one element repeated
pub take_replicate : (k n a : ℕ) → k ≤ n → take k (replicate n a) ≡ replicate k a
take_replicate k n a h =
    let e : n ≡ k + (n - k) = omega arith in
    ap (λ (m : ℕ). take k (replicate m a)) e
    ∙ ap (take k) (sym (replicate-append-replicate k (n - k) a))
    ∙ take_at (replicate k a) (replicate (n - k) a) k (length-replicate k a)
