-- Believed: what each public function promises: the outcome predicate that its contract cites. Of a reader they
-- say what it has left before and after a call, where that is known, and of the value that is answered; of a read that is refused nothing
-- is said, since any read may fail. proofs/Proved/Calls/Unique.antt shows that no second outcome meets one that reads. Assumes nothing.
use Rattle.std.specs.Prelude.{◌≡◌, Bool, true, false, List, ℕ, ◌++◌, ◌≤◌, ◌<◌, ◌^◌, length, flat_map, Option, Result, Ok, Err, IfOk}
use Rattle.std.specs.declared.io.Error.{Error}
use Rattle.std.specs.Io.KnownBytes.{Consumes}
use Rattle.octets.specs.Number.{bytes}
use Rattle.cases.specs.declared.stops.Stop.{Stop}
use Rattle.cases.specs.declared.stops.Stop.TheVariants.{NoRecord, Failed}

-- u8::read_from(from), and that of u32 and u64: the reader gave the k bytes of the number, and no more
abbrev pub NumberOutcome : ℕ → Option (List ℕ) → Option (List ℕ) → ℕ → Type 0
NumberOutcome k before after n = Consumes before after (bytes k n)

-- size(from, most)
abbrev pub SizeOutcome : ℕ → Option (List ℕ) → Option (List ℕ) → ℕ → Type 0
SizeOutcome most before after n = (n ≤ most) × (n < 2 ^ 32) × Consumes before after (bytes 4 n)

-- list(from, space): how many there are, in four bytes, and then the bytes of each
abbrev pub ListOutcome : {A : Type 0} → (A → List ℕ) → ℕ → Option (List ℕ) → Option (List ℕ) → List A → Type 0
ListOutcome spelled room before after l =
    (length l ≤ room) × (length l < 2 ^ 32) × Consumes before after (bytes 4 (length l) ++ flat_map spelled l)

-- string(from, space): how many bytes there are, in four bytes, and then the bytes
abbrev pub StringOutcome : ℕ → Option (List ℕ) → Option (List ℕ) → List ℕ → Type 0
StringOutcome room before after s = (length s ≤ room) × (length s < 2 ^ 32) × Consumes before after (bytes 4 (length s) ++ s)

-- goes_on(rt, ended): yes after a record that was run to its end, and the failure itself where one ended it. Of a record that is none a
-- line is written: no if it could be, and else an error, of which nothing is said
abbrev pub GoesOnOutcome : Result Unit Stop → Result Bool Error → Type 0
GoesOnOutcome (Ok done) answer = answer ≡ Ok true
GoesOnOutcome (Err NoRecord) answer = IfOk answer (λ more. more ≡ false)
GoesOnOutcome (Err (Failed error)) answer = answer ≡ Err error
