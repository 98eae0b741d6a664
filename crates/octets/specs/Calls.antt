-- Believed: what each public function promises: the outcome predicate that its contract cites. proofs/Proved/Calls/Unique.antt shows
-- that no second outcome meets it. Assumes nothing.
use Rattle.std.specs.Prelude.{◌≡◌, Bool, List, ℕ, Option}
use Rattle.octets.specs.Copy.{over}
use Rattle.octets.specs.Every.{all_zero}
use Rattle.octets.specs.Number.{bytes}
use Rattle.octets.specs.Same.{Tells}
use Rattle.octets.specs.Sums.{plus_of}

-- copy_prefix(src, out)
abbrev pub CopyOutcome : {A : Type 0} → List A → List A → List A → Type 0
CopyOutcome src out after = after ≡ over src out

-- all_zero(bytes)
abbrev pub AllZeroOutcome : List ℕ → Bool → Type 0
AllZeroOutcome l r = r ≡ all_zero l

-- same(a, b)
abbrev pub SameOutcome : List ℕ → List ℕ → Bool → Type 0
SameOutcome a b r = Tells r a b

-- eight_bytes(x)
abbrev pub EightBytesOutcome : ℕ → List ℕ → Type 0
EightBytesOutcome x r = r ≡ bytes 8 x

-- plus(sum, summand)
abbrev pub PlusOutcome : Option ℕ → ℕ → Option ℕ → Type 0
PlusOutcome sum x r = r ≡ plus_of sum x
