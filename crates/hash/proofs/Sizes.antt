-- The sizes that the block step works with: where its words lie in a block, and that what it works on fits the memory. Assumes nothing.
use Rattle.std.proofs.Common.{◌≡◌, ℕ, ◌+◌, ◌-◌, ◌*◌, ◌%◌, ◌^◌, ◌<◌, ◌≤◌, max, ap, ◌∙◌, arith}
use Rattle.std.proofs.Math.Nat.{mul-le-mul_left, mod-le}
use denote.Memory.{lone}
use denote.RattleType.{RattleType}
use prog.Memory.{size, align, up}
use Rattle.hash.specs.Description.{Core}
use Rattle.hash.specs.Sha2.{block_size}
use Rattle.hash.specs.Sizes.{Sizes, Room}

module _ {C : Core} {bytes rounds : ℕ} (s : Sizes C bytes rounds) where
  pub block_is : {n : ℕ} → n ≡ bytes → 16 * n ≡ block_size C
  unfolding block_size
  block_is e = ap (λ (n : ℕ). 16 * n) (e ∙ s.bytes_is)

  pub block_some : 0 < block_size C
  unfolding block_size
  block_some = omega (arith, s.bytes_is, s.some)

  -- the word t lies within a block
  pub word_within : {t n l : ℕ} → n ≡ bytes → t < 16 → block_size C ≤ l → n * t + bytes ≤ l
  unfolding block_size
  word_within {t} e h k = rw e (omega (arith, mul-le-mul_left bytes h, s.bytes_is, k))

-- what is aligned ends at most one alignment later
up_le : (k n : ℕ) → k ≤ 8 → up k n ≤ n + 8
up_le k n h = omega (arith, mod-le (k - n % k) k)

module _ {R : RattleType} (r : Room R) where
  -- eight words, and the eight with the sixteen of a ring
  pub words_fit : 8 * size (lone R.mir) < 2 ^ 63
  words_fit = omega (arith, r.size)

  pub progress_fits : up (max (align (lone R.mir)) (max (align (lone R.mir)) 1))
      (up (align (lone R.mir)) (up (align (lone R.mir)) 0 + 8 * size (lone R.mir)) + 16 * size (lone R.mir))
      < 2 ^ 63
  progress_fits =
      let a : ℕ = align (lone R.mir) in
      let s : ℕ = size (lone R.mir) in
      let ring : ℕ = up a (up a 0 + 8 * s) in
      omega (
        arith,
        r.size,
        up_le a 0 r.align,
        up_le a (up a 0 + 8 * s) r.align,
        up_le (max a (max a 1)) (ring + 16 * s) (omega (arith, r.align)),
      )
