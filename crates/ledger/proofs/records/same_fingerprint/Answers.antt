-- `ledger::records::same_fingerprint` meets its contract: two fingerprints whose first words differ are not the same. Assumes nothing.
use Rattle.std.specs.Prelude.{◌≡◌, refl, Bool, true, false, List, ℕ}
use Rattle.std.proofs.Common.{ap, ne_eqb}
use Rattle.octets.specs.Same.{equal}
use Rattle.octets.specs.Same.Laws.{equal_tells, tells_equal}
use Rattle.ledger.specs.Inside.{first_word}
use Rattle.ledger.proofs.records.same_fingerprint.Goals as goal

words_differ : (a b : List ℕ) → (first_word a ≡ first_word b → ⊥) → false ≡ equal a b
words_differ a b z = by_case (equal a b) refl
  where
    by_case : (t : Bool) → equal a b ≡ t → false ≡ t
    by_case true e = absurd (z (ap first_word ((equal_tells a b).true_equal e)))
    by_case false e = refl

pub returns-then-first_word : goal.returns-then-first_word
returns-then-first_word c = tells_equal _ _ c.same.ensures

pub returns-else-first_word : goal.returns-else-first_word
returns-else-first_word c =
    let z = c.if-first_word.false in
    rw (ne_eqb _ _ z) (words_differ _ _ (rw (c.first_word.ensures, c.first_word-2.ensures) at z))
