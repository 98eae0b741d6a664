-- Believed: the twelve starred cases, as one table: the pads and the worked report take two fields each. Its proof is in
-- proofs/Proved/Starred/Laws.antt. Assumes nothing.
use Rattle.std.specs.Prelude.{◌≡◌, List, [], ◌∷◌, ◌++◌, ℕ, ◌^◌, length, take, replicate}
use Rattle.algorithm.specs.declared.hashes.Hash.{Hash}
use Rattle.algorithm.specs.declared.hashes.Hash.TheVariants.{Sha256, Sha512}
use Rattle.algorithm.specs.Hashes.{block_of}
use Rattle.algorithm.specs.Refusals.{done}
use Rattle.hash.specs.Digest.{blocks_of}
use Rattle.hmac.specs.Form.{form_of, inner_pad, outer_pad}
use Rattle.report.specs.Layout.{Fields}
use Rattle.report.specs.Reading.{read_of}
use Rattle.report.specs.Fingerprint.{message_of}
use Rattle.report.specs.Keys.{info_of}

-- the worked report, but for its tag of 16 bytes
abbrev pub worked : List ℕ
worked =
    0x00 ∷ 0x00 ∷ 0x00 ∷ 0x48 ∷ 0x01 ∷ 0x01
    ∷ 0x00 ∷ 0x00 ∷ 0x00 ∷ 0x07
    ∷ 0x00 ∷ 0x00 ∷ 0x00 ∷ 0x00 ∷ 0x00 ∷ 0x00 ∷ 0x01 ∷ 0x02
    ∷ 0x00 ∷ 0x00 ∷ 0x00 ∷ 0x00 ∷ 0x00 ∷ 0x00 ∷ 0x00 ∷ 0x09
    ∷ 0x00 ∷ 0x00 ∷ 0x00 ∷ 0x00 ∷ 0x00 ∷ 0x00 ∷ 0x03 ∷ 0xe8
    ∷ 0x00
    ∷ 0x00 ∷ 0x00 ∷ 0x00 ∷ 0x00 ∷ 0x80 ∷ 0x00 ∷ 0x00 ∷ 0x00
    ∷ 0x00 ∷ 0x01
    ∷ 0x02 ∷ 0x61 ∷ 0x62
    ∷ 0x00 ∷ 0x00 ∷ 0x00 ∷ 0x00 ∷ 0x00 ∷ 0x00 ∷ 0x10 ∷ 0x00
    ∷ 0x00 ∷ 0x00 ∷ 0x00 ∷ 0x02
    ∷ []

-- and its fields
abbrev pub worked_fields : Fields
worked_fields = record {
  count = 0x48;
  version = 1;
  hash = 1;
  tenant = 7;
  machine = 258;
  report = 9;
  sent = 1000;
  attempt = 0;
  memory = 2 ^ 31;
  sites = record { label = 0x61 ∷ 0x62 ∷ []; live = 4096; blocks = 2 } ∷ [];
}

pub record Starred : Type 0 where
  -- hash 1: a message of 0 bytes has 1 padded block, of 55 bytes 1, of 56 bytes 2, of 64 bytes 2
  pub narrow_0 : (m : List ℕ) → length m ≡ 0 → length (blocks_of Sha256 m) ≡ 1
  pub narrow_55 : (m : List ℕ) → length m ≡ 55 → length (blocks_of Sha256 m) ≡ 1
  pub narrow_56 : (m : List ℕ) → length m ≡ 56 → length (blocks_of Sha256 m) ≡ 2
  pub narrow_64 : (m : List ℕ) → length m ≡ 64 → length (blocks_of Sha256 m) ≡ 2
  -- hash 2: a message of 111 bytes has 1 padded block, of 112 bytes 2
  pub wide_111 : (m : List ℕ) → length m ≡ 111 → length (blocks_of Sha512 m) ≡ 1
  pub wide_112 : (m : List ℕ) → length m ≡ 112 → length (blocks_of Sha512 m) ≡ 2
  -- a zero after key 01 leaves its form, one before it does not, and the empty key has zeros for a form
  pub zero_after : (h : Hash) → form_of h (0x01 ∷ []) ≡ form_of h (0x01 ∷ 0x00 ∷ [])
  pub zero_before : (h : Hash) → form_of h (0x01 ∷ []) ≡ form_of h (0x00 ∷ 0x01 ∷ []) → ⊥
  pub empty_key : (h : Hash) → form_of h [] ≡ replicate (block_of h) 0
  -- key 01, hash 1: how the pads start
  pub inner_starts : take 2 (inner_pad Sha256 (0x01 ∷ [])) ≡ 0x37 ∷ 0x36 ∷ []
  pub outer_starts : take 2 (outer_pad Sha256 (0x01 ∷ [])) ≡ 0x5d ∷ 0x5c ∷ []
  -- the info for purpose 1, tenant 7, machine 258
  pub info :
      info_of 1 7 258
      ≡ 0x00 ∷ 0x0e ∷ 0x01 ∷ 0x01 ∷ 0x00 ∷ 0x00 ∷ 0x00 ∷ 0x07 ∷ 0x00 ∷ 0x00 ∷ 0x00 ∷ 0x00 ∷ 0x00 ∷ 0x00 ∷ 0x01 ∷ 0x02 ∷ []
  -- the worked report reads as its fields whatever its tag, and its fingerprint's message has 47 bytes
  pub worked_reads : (tag : List ℕ) → length tag ≡ 16 → read_of (worked ++ tag) ≡ (done, worked_fields)
  pub worked_message : (tag : List ℕ) → length tag ≡ 16 → length (message_of (worked ++ tag)) ≡ 47
