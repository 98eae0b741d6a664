-- Proved: no second outcome: what meets the outcome predicate of a function, as its contract cites it, is one. Assumes nothing.
use Rattle.std.specs.Prelude.{◌≡◌, Bool, List, ℕ, Option}
use Rattle.std.proofs.Common.{sym, ◌∙◌}
use Rattle.octets.specs.Same.Laws.{tells_one}
use Rattle.octets.specs.Calls.{CopyOutcome, AllZeroOutcome, SameOutcome, EightBytesOutcome, PlusOutcome}

pub copy_unique : {A : Type 0} (src out o o' : List A) → CopyOutcome src out o → CopyOutcome src out o' → o ≡ o'
copy_unique src out o o' e f = e ∙ sym f

pub all_zero_unique : (l : List ℕ) (r r' : Bool) → AllZeroOutcome l r → AllZeroOutcome l r' → r ≡ r'
all_zero_unique l r r' e f = e ∙ sym f

pub same_unique : (a b : List ℕ) (r r' : Bool) → SameOutcome a b r → SameOutcome a b r' → r ≡ r'
same_unique a b r r' = tells_one r r'

pub eight_bytes_unique : (x : ℕ) (r r' : List ℕ) → EightBytesOutcome x r → EightBytesOutcome x r' → r ≡ r'
eight_bytes_unique x r r' e f = e ∙ sym f

pub plus_unique : (sum : Option ℕ) (x : ℕ) (r r' : Option ℕ) → PlusOutcome sum x r → PlusOutcome sum x r' → r ≡ r'
plus_unique sum x r r' e f = e ∙ sym f
