-- What the library's `from_be_bytes` makes of the bytes from a place on is the number there. Assumes nothing.
use Rattle.std.specs.Int.{w8, w16, w32, w64, from_be_bytes}
use Rattle.std.proofs.Common.{◌≡◌, ◌∙◌, ap, arith, List, ℕ, ◌+◌, ◌≤◌, length, take, drop, take_all, length-drop, length-take-le}
use Rattle.octets.specs.Number.{number, number_at}
use Rattle.octets.specs.Number.Laws.{number_none, number_more}

-- bytes that are so many make the number of so many
all_of : (l : List ℕ) (n : ℕ) → length l ≡ n → number_at l 0 n ≡ number l
all_of l n e = ap number (take_all n l (omega (arith, e)))

one_byte : (l : List ℕ) → length l ≡ 1 → from_be_bytes w8 l ≡ number l
one_byte l e = grind (arith, e, number_none l 0, number_more l 0 0) ∙ all_of l 1 e

two_bytes : (l : List ℕ) → length l ≡ 2 → from_be_bytes w16 l ≡ number l
two_bytes l e = grind (arith, e, number_none l 0, number_more l 0 0, number_more l 0 1) ∙ all_of l 2 e

four_bytes : (l : List ℕ) → length l ≡ 4 → from_be_bytes w32 l ≡ number l
four_bytes l e =
    let more = number_more l 0 in
    grind (arith, e, number_none l 0, more 0, more 1, more 2, more 3) ∙ all_of l 4 e

eight_bytes : (l : List ℕ) → length l ≡ 8 → from_be_bytes w64 l ≡ number l
eight_bytes l e =
    let more = number_more l 0 in
    grind (arith, e, number_none l 0, more 0, more 1, more 2, more 3, more 4, more 5, more 6, more 7) ∙ all_of l 8 e

module _ (s : List ℕ) (at : ℕ) where
  so_many : (n : ℕ) → at + n ≤ length s → length (take n (drop at s)) ≡ n
  so_many n h = length-take-le n (drop at s) (omega (arith, length-drop at s))

  pub one : at + 1 ≤ length s → from_be_bytes w8 (take 1 (drop at s)) ≡ number_at s at 1
  one h = one_byte (take 1 (drop at s)) (so_many 1 h)

  pub two : at + 2 ≤ length s → from_be_bytes w16 (take 2 (drop at s)) ≡ number_at s at 2
  two h = two_bytes (take 2 (drop at s)) (so_many 2 h)

  pub four : at + 4 ≤ length s → from_be_bytes w32 (take 4 (drop at s)) ≡ number_at s at 4
  four h = four_bytes (take 4 (drop at s)) (so_many 4 h)

  pub eight : at + 8 ≤ length s → from_be_bytes w64 (take 8 (drop at s)) ≡ number_at s at 8
  eight h = eight_bytes (take 8 (drop at s)) (so_many 8 h)
