-- Proved: laws of the hashes that we make, for the layers above. Assumes nothing.
use Rattle.std.specs.Prelude.{◌≡◌, refl, ◌↔◌, Bool, true, false, cond, ◌&&◌, ℕ, ◌*◌, ◌≤◌, ◌<◌, leb, Result, Ok, Err}
use Rattle.std.proofs.Common.{sym, ap, ◌∙◌, true≢false, le_refl, arith, lit<, lit≤, le-leb}
use Rattle.std.proofs.Math.Bool.{and-false}
use Rattle.std.proofs.Math.Decide.{dec_le}
use Rattle.std.proofs.lemmas.Bool.{lt-leb}
use Rattle.algorithm.specs.Hashes.{hash_number, block_of, size_of, shortest_of, allowed, names, hash_of, which_of, Sizes}
use Rattle.algorithm.specs.declared.hashes.Hash.{Hash}
use Rattle.algorithm.specs.declared.hashes.Hash.TheVariants.{Sha256, Sha512}
use Rattle.algorithm.specs.declared.refusals.Refusal.{Refusal}
use Rattle.algorithm.specs.declared.refusals.Refusal.TheVariants.{UnknownHash}

-- an answer by a test, a hash or a refusal, says how the test came out, and which hash or refusal it was
pub unknown : (b : Bool) (h : Hash) (e f : Refusal) → cond b (Ok h) (Err e) ≡ Err f → (b ≡ false) × (e ≡ f)
unknown true h e f q = let z : ◌≡◌ {A = ℕ} 0 1 = cc in absurd (omega arith)
unknown false h e f q = (refl, cc)

pub known : (b : Bool) (g h : Hash) (e : Refusal) → cond b (Ok g) (Err e) ≡ Ok h → (b ≡ true) × (g ≡ h)
known true g h e q = (refl, cc)
known false g h e q = let z : ◌≡◌ {A = ℕ} 0 1 = cc in absurd (omega arith)

-- the sizes, by the hashes that we make
pub sizes : (h : Hash) → Sizes h
sizes Sha256 = record { half = refl; some = lit< tt; most = lit≤ tt; fits = lit≤ tt; block = lit≤ tt }
sizes Sha512 = record { half = refl; some = lit< tt; most = lit≤ tt; fits = lit≤ tt; block = lit≤ tt }

module _ (h : Hash) where
  -- the shortest tag is half a digest, and a digest is at most a block
  pub half_digest : 2 * shortest_of h ≡ size_of h
  half_digest = (sizes h).half

  pub digest_fits_block : size_of h ≤ block_of h
  digest_fits_block = (sizes h).fits

  -- a digest and a block have a byte; the largest digest and the largest block
  pub digest_positive : 0 < size_of h
  digest_positive = (sizes h).some

  pub block_positive : 0 < block_of h
  block_positive = omega (arith, (sizes h).some, (sizes h).fits)

  pub digest_most : size_of h ≤ 64
  digest_most = (sizes h).most

  pub block_most : block_of h ≤ 128
  block_most = (sizes h).block

-- a tag length in its range, below it and above it
module _ (h : Hash) (t : ℕ) where
  pub length_allowed : shortest_of h ≤ t → t ≤ size_of h → allowed h t ≡ true
  length_allowed l u = rw (le-leb (shortest_of h) t l) (le-leb t (size_of h) u)

  pub length_below : t < shortest_of h → allowed h t ≡ false
  length_below l = rw (lt-leb (shortest_of h) t l)

  pub length_above : size_of h < t → allowed h t ≡ false
  length_above u = ap (λ (b : Bool). leb (shortest_of h) t && b) (lt-leb t (size_of h) u) ∙ and-false (leb (shortest_of h) t)

  -- so it may be asked for exactly when it is in its range
  allowed_range : allowed h t ≡ true → (shortest_of h ≤ t) × (t ≤ size_of h)
  allowed_range e = elim (dec_le (shortest_of h) t) [
    | no l ↦ absurd (true≢false (sym e ∙ length_below (omega arith)))
    | yes l ↦ elim (dec_le t (size_of h)) [
      | no u ↦ absurd (true≢false (sym e ∙ length_above (omega arith)))
      | yes u ↦ (l, u)
    ]
  ]

  pub allowed_exactly : allowed h t ≡ true ↔ ((shortest_of h ≤ t) × (t ≤ size_of h))
  allowed_exactly = (allowed_range, λ p. length_allowed p.0 p.1)

-- the full tag may be asked for
pub size_allowed : (h : Hash) → allowed h (size_of h) ≡ true
size_allowed h = length_allowed h (size_of h) (omega (arith, half_digest h)) (le_refl (size_of h))

-- the number of a hash names that hash
pub number_names : (h : Hash) → names (hash_number h) ≡ true
number_names Sha256 = refl
number_names Sha512 = refl

pub number_back : (h : Hash) → hash_of (hash_number h) ≡ h
number_back Sha256 = refl
number_back Sha512 = refl

pub number_which : (h : Hash) → which_of (hash_number h) ≡ Ok h
number_which Sha256 = refl
number_which Sha512 = refl
