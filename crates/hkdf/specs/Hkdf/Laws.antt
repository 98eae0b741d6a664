-- Proved: laws of HKDF: the key that a salt makes, the lengths, and that a shorter expand is the beginning of a longer one. Assumes
-- nothing.
use Rattle.std.specs.Prelude.{◌≡◌, List, [], ◌∷◌, ◌++◌, ℕ, zero, suc, ◌+◌, ◌-◌, ◌*◌, ◌≤◌, length, take, replicate}
use Rattle.std.proofs.Math.Path.{refl}
use Rattle.std.proofs.Common.{sym, ap, ◌∙◌, suc-mul, add-mul, add-one, arith, length-append, length-take-le, take-take, eq-eqb, ne_eqb}
use Rattle.std.proofs.lemmas.List.{take-append-le}
use Rattle.algorithm.specs.declared.hashes.Hash.{Hash}
use Rattle.algorithm.specs.Hashes.{size_of}
use Rattle.algorithm.specs.Refusals.{most_digests}
use Rattle.hmac.specs.Hmac.{hmac_of}
use Rattle.hmac.specs.Hmac.Laws.{hmac_length}
use Rattle.hkdf.specs.Hkdf.{salt_of, extract_of, stretch, stretches, expand_of}
use Rattle.hkdf.specs.Hkdf.Open.{extract_is, expand_is}

-- the key that a salt makes, by whether it is empty
module _ (h : Hash) (salt : List ℕ) where
  pub salt_empty : length salt ≡ 0 → salt_of h salt ≡ replicate (size_of h) 0
  unfolding salt_of
  salt_empty e = rw (eq-eqb (length salt) 0 e)

  pub salt_given : (length salt ≡ 0 → ⊥) → salt_of h salt ≡ salt
  unfolding salt_of
  salt_given ne = rw (ne_eqb (length salt) 0 ne)

  -- what extract makes has a digest's bytes
  pub extract_length : (ikm : List ℕ) → length (extract_of h salt ikm) ≡ size_of h
  extract_length ikm = ap length (extract_is h salt ikm) ∙ hmac_length h (salt_of h salt) ikm

module _ (h : Hash) (prk info : List ℕ) where
  -- T(0) is empty, and T(i + 1) is the tag of T(i), info and the counter
  pub stretch_none : stretch h prk info 0 ≡ []
  unfolding stretch
  stretch_none = refl

  pub stretch_more : (i : ℕ) → stretch h prk info (i + 1) ≡ hmac_of h prk (stretch h prk info i ++ (info ++ ((i + 1) ∷ [])))
  unfolding stretch
  stretch_more i = rw (add-one i)

  pub stretches_none : stretches h prk info 0 ≡ []
  unfolding stretches
  stretches_none = refl

  pub stretches_more : (n : ℕ) → stretches h prk info (n + 1) ≡ stretches h prk info n ++ stretch h prk info (n + 1)
  unfolding stretches
  stretches_more n = rw (add-one n)

  -- each from T(1) on has a digest's bytes
  pub stretch_length : (i : ℕ) → length (stretch h prk info (i + 1)) ≡ size_of h
  stretch_length i = ap length (stretch_more i) ∙ hmac_length h prk (stretch h prk info i ++ (info ++ ((i + 1) ∷ [])))

  pub stretches_length : (n : ℕ) → length (stretches h prk info n) ≡ n * size_of h
  stretches_length zero = let e : 0 ≡ 0 * size_of h = omega arith in ap length stretches_none ∙ e
  stretches_length (suc n) =
      let e : length (stretches h prk info (suc n)) ≡ length (stretches h prk info n) + length (stretch h prk info (n + 1)) =
      ap (λ (m : ℕ). length (stretches h prk info m)) (sym (add-one n))
      ∙ ap length (stretches_more n)
      ∙ length-append (stretches h prk info n) (stretch h prk info (n + 1))
      in
      omega (arith, e, stretches_length n, stretch_length n, suc-mul n (size_of h))

  -- fewer of them are the beginning of more
  stretches_begin : (m i k : ℕ) → m ≤ i * size_of h → take m (stretches h prk info (i + k)) ≡ take m (stretches h prk info i)
  stretches_begin m i zero l = let e : i + 0 ≡ i = omega arith in ap (λ (j : ℕ). take m (stretches h prk info j)) e
  stretches_begin m i (suc k) l =
      let e : i + suc k ≡ i + k + 1 = omega arith in
      let g : m ≤ length (stretches h prk info (i + k)) = omega (arith, stretches_length (i + k), add-mul i k (size_of h)) in
      ap (λ (j : ℕ). take m (stretches h prk info j)) e
      ∙ ap (take m) (stretches_more (i + k))
      ∙ take-append-le m (stretches h prk info (i + k)) (stretch h prk info (i + k + 1)) g
      ∙ stretches_begin m i k l

  -- so as many as cover the output are enough
  pub expand_within : (n i : ℕ) → i ≤ most_digests → n ≤ i * size_of h → expand_of h prk info n ≡ take n (stretches h prk info i)
  expand_within n i b l =
      let e : most_digests ≡ i + (most_digests - i) = omega arith in
      expand_is h prk info n ∙ ap (λ (j : ℕ). take n (stretches h prk info j)) e ∙ stretches_begin n i (most_digests - i) l

  -- a shorter expand is the beginning of a longer one
  pub expand_begins : (m n : ℕ) → m ≤ n → expand_of h prk info m ≡ take m (expand_of h prk info n)
  expand_begins m n l =
      expand_is h prk info m ∙ sym (take-take m n (stretches h prk info most_digests) l) ∙ ap (take m) (sym (expand_is h prk info n))

  -- up to the most digests, expand makes as many bytes as asked for
  pub expand_length : (n : ℕ) → n ≤ most_digests * size_of h → length (expand_of h prk info n) ≡ n
  expand_length n l =
      ap length (expand_is h prk info n) ∙ length-take-le n (stretches h prk info most_digests) (omega (arith, stretches_length most_digests))
