-- Proved: laws of the pass over the records: how far it came, and what it tells in the end. Assumes nothing.
use Rattle.std.specs.Prelude.{◌≡◌, refl, Bool, true, false, not, cond, ◌&&◌, ◌||◌, List, [], ◌∷◌, ℕ, suc, ◌+◌, ◌++◌, ◌≤◌, ◌<◌, leb, length, take, get_or, Some, None, Result, Ok, Err}
use Rattle.std.specs.Option.{ok_or}
use Rattle.std.specs.Result.{is_ok}
use Rattle.std.proofs.Common.{sym, ap, ◌∙◌, add-one, arith, take-suc}
use Rattle.std.proofs.Math.Bool.{or_assoc, or-false}
use Rattle.std.proofs.lemmas.Bool.{not-true}
use Rattle.octets.specs.Every.Laws.{and_parts}
use Rattle.octets.specs.Same.{equal}
use Rattle.algorithm.specs.declared.refusals.Refusal.{Refusal}
use Rattle.algorithm.specs.declared.refusals.Refusal.TheVariants.{StateNotSound}
use Rattle.ledger.specs.Records.{used, zero_record, all_used, all_free, used_first, taken, total_of, sound}
use Rattle.ledger.specs.Inside.{among, count_of, tally_of, with_record, sum_in}
use Rattle.ledger.specs.Inside.Surveying.{tally_with}
use Rattle.ledger.specs.declared.records.Record.{Record}

-- among used records it is one that is taken
among_taken : (f : List ℕ) (rs : List Record) → all_used rs ≡ true → among f rs ≡ taken f rs
unfolding taken all_used
among_taken f [] e = refl
among_taken f (r ∷ rs) e = let p = and_parts (used r) (all_used rs) e in rw (p.0, among_taken f rs p.1)

-- the fingerprint among the first records: none, and one more
pub among_none : (f : List ℕ) (rs : List Record) → among f (take 0 rs) ≡ false
among_none f rs = refl

among_append : (f : List ℕ) (a b : List Record) → among f (a ++ b) ≡ (among f a || among f b)
among_append f [] b = refl
among_append f (r ∷ a) b = rw (among_append f a b) (sym (or_assoc (equal r.fingerprint f) (among f a) (among f b)))

pub among_more : (f : List ℕ) (rs : List Record) (i : ℕ) → i < length rs
    → among f (take (i + 1) rs) ≡ (among f (take i rs) || equal (get_or rs i zero_record).fingerprint f)
among_more f rs i h =
    ap (λ (n : ℕ). among f (take n rs)) (add-one i)
    ∙ ap (among f) (take-suc rs i zero_record h)
    ∙ among_append f (take i rs) (get_or rs i zero_record ∷ [])
    ∙ ap (λ (b : Bool). among f (take i rs) || b) (or-false (equal (get_or rs i zero_record).fingerprint f))

-- no more are used than there are
pub count_within : (rs : List Record) → count_of rs ≤ length rs
unfolding count_of
count_within [] = omega arith
count_within (r ∷ rs) = by_used (used r) (count_within rs)
  where
    by_used : (u : Bool) → count_of rs ≤ length rs → cond u (suc (count_of rs)) (count_of rs) ≤ suc (length rs)
    by_used true h = omega arith
    by_used false h = omega arith

-- so a tally counts no more
pub used_within : (rs : List Record) → (tally_of rs).used ≤ length rs
unfolding tally_of
used_within rs = count_within rs

-- one record more
pub tally_more : (rs : List Record) (i : ℕ) (d : Record) → i < length rs
    → tally_of (take (i + 1) rs) ≡ with_record (tally_of (take i rs)) (get_or rs i d) (among (get_or rs i d).fingerprint (take i rs))
tally_more rs i d h =
    let r : Record = get_or rs i d in
    ap (λ (n : ℕ). tally_of (take n rs)) (add-one i)
    ∙ ap tally_of (take-suc rs i d h)
    ∙ tally_with r (take i rs) (among r.fingerprint (take i rs)) (λ u. among_taken r.fingerprint (take i rs))

-- a pass tells the sum of a sound slice, and so whether it is sound
pub sum_is : (rs : List Record) → sum_in (tally_of rs) ≡ cond (sound rs) (Ok (total_of rs)) (Err StateNotSound)
unfolding tally_of
sum_is rs = by_sound (sound rs)
  where
    by_sound : (b : Bool) → ok_or (cond b (Some (total_of rs)) None) StateNotSound ≡ cond b (Ok (total_of rs)) (Err StateNotSound)
    by_sound true = refl
    by_sound false = refl

pub sound_is : (rs : List Record) → is_ok (sum_in (tally_of rs)) ≡ sound rs
sound_is rs = rw (sum_is rs) (by_sound (sound rs))
  where
    by_sound : (b : Bool) → is_ok (cond {A = Result ℕ Refusal} b (Ok (total_of rs)) (Err StateNotSound)) ≡ b
    by_sound true = refl
    by_sound false = refl

pub sound_sum : (rs : List Record) → sound rs ≡ true → (tally_of rs).sum ≡ Some (total_of rs)
unfolding tally_of
sound_sum rs s = rw s

-- where no record is used, none is counted and no fingerprint is taken
pub free_count : (rs : List Record) → all_free rs ≡ true → count_of rs ≡ 0
unfolding all_free count_of
free_count [] e = refl
free_count (r ∷ rs) e = let p = and_parts (not (used r)) (all_free rs) e in rw (not-true (used r) p.0) (free_count rs p.1)

free_taken : (f : List ℕ) (rs : List Record) → all_free rs ≡ true → taken f rs ≡ false
unfolding all_free taken
free_taken f [] e = refl
free_taken f (r ∷ rs) e = let p = and_parts (not (used r)) (all_free rs) e in rw (not-true (used r) p.0) (free_taken f rs p.1)

-- where the used records stand first, a fingerprint among the first of them is taken
pub among_first : (f : List ℕ) (rs : List Record) → used_first rs ≡ true → among f (take (count_of rs) rs) ≡ taken f rs
unfolding taken used_first count_of
among_first f [] e = refl
among_first f (r ∷ rs) e = by_used (used r) e (among_first f rs)
  where
    by_used : (u : Bool) → cond u (used_first rs) (all_free rs) ≡ true → (used_first rs ≡ true → among f (take (count_of rs) rs) ≡ taken f rs)
        → among f (take (cond u (suc (count_of rs)) (count_of rs)) (r ∷ rs)) ≡ (u && equal r.fingerprint f || taken f rs)
    by_used true h more = ap (λ (b : Bool). equal r.fingerprint f || b) (more h)
    by_used false h more = rw (free_count rs h, free_taken f rs h)
