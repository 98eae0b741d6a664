-- Proved: the starred cases hold: each is a theorem about the definitions. Assumes nothing.
use Rattle.std.specs.Prelude.{◌≡◌, refl, List, [], ◌∷◌, ◌++◌, ℕ, ◌+◌, ◌-◌, length, get_or, take, drop, replicate}
use Rattle.std.proofs.Common.{sym, ap, ◌∙◌, arith, length-append}
use Rattle.std.proofs.Math.Seq.{slice}
use Rattle.octets.specs.Number.{number, onto, bytes}
use Rattle.octets.specs.Every.{every}
use Rattle.algorithm.specs.declared.hashes.Hash.{Hash}
use Rattle.algorithm.specs.declared.hashes.Hash.TheVariants.{Sha256, Sha512}
use Rattle.algorithm.specs.Hashes.{block_of}
use Rattle.algorithm.specs.Refusals.{done}
use Rattle.hash.specs.Description.{describe, narrow, wide}
use Rattle.hash.specs.Sha2.{block_size, field_size, zero_count}
use Rattle.hash.specs.Digest.{blocks_of, block_count_of}
use Rattle.hash.specs.Digest.Laws.{count_of_blocks}
use Rattle.hmac.specs.Form.{form_of, inner_pad, outer_pad}
use Rattle.report.specs.Layout.{Fields, live_of}
use Rattle.report.specs.Reading.{before_tag, read_sites, read_of, WellFormed}
use Rattle.report.specs.Fingerprint.{gap_start, gap_end, message_of}
use Rattle.report.specs.Keys.{info_of}
use Rattle.facts.proofs.Proved.Demand.Laws.{demand_3}
use Rattle.facts.specs.Starred.{worked, worked_fields, Starred}

-- how many padded blocks a message of one length has
counted : (h : Hash) (n k : ℕ) (m : List ℕ) → block_count_of h n ≡ k → length m ≡ n → length (blocks_of h m) ≡ k
counted h n k m c e = count_of_blocks h m ∙ ap (block_count_of h) e ∙ c

-- whatever its tag, the worked report's other bytes stand before it
before_tag_lem : (tag : List ℕ) → length tag ≡ 16 → before_tag (worked ++ tag) ≡ worked
unfolding number onto
before_tag_lem tag e = ap (λ (n : ℕ). take (n - 16) (worked ++ tag)) (length-append worked tag ∙ ap (λ (n : ℕ). 60 + n) e)

-- so it reads as it does with a tag of zeros
abbrev zero_tag : List ℕ
zero_tag = replicate 16 0

zero_reads : read_of (worked ++ zero_tag) ≡ (done, worked_fields)
unfolding read_of read_sites live_of number onto
zero_reads = refl

zero_well_formed : WellFormed (worked ++ zero_tag)
unfolding every
zero_well_formed = record { bytes = refl; reads = ap (λ (r : ℕ × Fields). r.0) zero_reads }

-- and its message has 22 bytes before the gap, and 25 after it
worked_length : (tag : List ℕ) → length tag ≡ 16 → length (message_of (worked ++ tag)) ≡ 47
unfolding message_of
worked_length tag e = ap (λ (l : List ℕ). length (slice 4 gap_start (worked ++ tag) ++ drop gap_end l)) (before_tag_lem tag e)

-- the forms, for each hash
zero_after : (h : Hash) → form_of h (0x01 ∷ []) ≡ form_of h (0x01 ∷ 0x00 ∷ [])
unfolding form_of
zero_after Sha256 = refl
zero_after Sha512 = refl

zero_before : (h : Hash) → form_of h (0x01 ∷ []) ≡ form_of h (0x00 ∷ 0x01 ∷ []) → ⊥
unfolding form_of
zero_before Sha256 e = omega (arith, ap (λ (l : List ℕ). get_or l 0 0) e)
zero_before Sha512 e = omega (arith, ap (λ (l : List ℕ). get_or l 0 0) e)

empty_key : (h : Hash) → form_of h [] ≡ replicate (block_of h) 0
unfolding form_of
empty_key Sha256 = refl
empty_key Sha512 = refl

pub starred : Starred
unfolding block_count_of zero_count block_size field_size describe narrow wide form_of inner_pad outer_pad info_of bytes
starred = record {
  narrow_0 = λ m. counted Sha256 0 1 m refl;
  narrow_55 = λ m. counted Sha256 55 1 m refl;
  narrow_56 = λ m. counted Sha256 56 2 m refl;
  narrow_64 = λ m. counted Sha256 64 2 m refl;
  wide_111 = λ m. counted Sha512 111 1 m refl;
  wide_112 = λ m. counted Sha512 112 2 m refl;
  zero_after = zero_after;
  zero_before = zero_before;
  empty_key = empty_key;
  inner_starts = refl;
  outer_starts = refl;
  info = refl;
  worked_reads = λ tag e.
      sym (demand_3.tag_no_field (worked ++ zero_tag) (worked ++ tag) zero_well_formed (before_tag_lem zero_tag refl ∙ sym (before_tag_lem tag e))) ∙ zero_reads;
  worked_message = worked_length;
}
