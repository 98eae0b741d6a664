-- Private: what the private functions ask and promise. Assumes nothing.
pub mod Surveying
use Rattle.std.specs.Prelude.{Bool, true, false, not, cond, ◌&&◌, List, [], ◌∷◌, ℕ, suc, ◌+◌, eqb, leb, length, take, set, Option, Some, None, Result, Err}
use Rattle.std.specs.Int.{w64, from_be_bytes}
use Rattle.std.specs.List.{list_any}
use Rattle.std.specs.Option.{is_some, ok_or}
use Rattle.std.specs.Result.{is_ok}
use Rattle.octets.specs.Same.{equal}
use Rattle.octets.specs.Sums.{largest_total, plus_of}
use Rattle.algorithm.specs.Answers.{valued}
use Rattle.algorithm.specs.Refusals.{done, state_not_sound, ledger_full, total_too_large}
use Rattle.algorithm.specs.Checks.{first_failing, decided}
use Rattle.algorithm.specs.declared.refusals.Refusal.{Refusal}
use Rattle.algorithm.specs.declared.refusals.Refusal.TheVariants.{StateNotSound}
use Rattle.ledger.specs.Records.{used, is_zero, zero_record, all_used, taken, total_of, sound, entered}
use Rattle.ledger.specs.Calls.{Answer, Submission, record_of, report_checks}
use Rattle.ledger.specs.Calls.Answer.{New, Seen, Refused}
use Rattle.ledger.specs.declared.records.Record.{Record}
use Rattle.ledger.specs.declared.surveying.Tally.{Tally}

-- the number of a fingerprint's first eight bytes, the highest first: it takes no other
unfoldable pub first_word : List ℕ → ℕ
first_word f = from_be_bytes w64 f

-- a report that was judged: the number, and the record that would be entered for it, of zeros where it is refused
abbrev pub judged_by : Result Record Refusal → ℕ × Record
judged_by = valued zero_record

unfoldable pub judged_of : Submission → ℕ × Record
judged_of x = (first_failing (report_checks x), decided (report_checks x) (record_of x) zero_record)

-- one of some records, used or free, has the fingerprint
abbrev pub among : List ℕ → List Record → Bool
among f rs = list_any (λ (r : Record). equal r.fingerprint f) rs

-- how many records are used
unfoldable pub count_of : List Record → ℕ
count_of [] = 0
count_of (r ∷ rs) = cond (used r) (suc (count_of rs)) (count_of rs)

-- what a pass over some records found out
unfoldable pub tally_of : List Record → Tally
tally_of rs = record {
  free = not (all_used rs);
  used = count_of rs;
  sum = cond (sound rs) (Some (total_of rs)) None;
}

abbrev pub with_used : Tally → ℕ → Bool → Tally
with_used t live repeated = record {
  free = t.free;
  used = t.used + 1;
  sum = cond (not t.free && not repeated) (plus_of t.sum live) None;
}

abbrev pub with_free : Tally → Bool → Tally
with_free t zero = record { free = true; used = t.used; sum = cond zero t.sum None }

abbrev pub with_record : Tally → Record → Bool → Tally
with_record t r repeated = cond (used r) (with_used t r.live repeated) (with_free t (is_zero r))

-- what a tally says of the whole slice: the sum of a sound one
abbrev pub sum_in : Tally → Result ℕ Refusal
sum_in t = ok_or t.sum StateNotSound

-- a report that was judged for the records of a tally
abbrev pub judged_in : Tally → Submission → ℕ × Record
judged_in t x = cond (is_ok (sum_in t)) (judged_of x) (state_not_sound, zero_record)

-- what becomes of a record in some records by a tally of them, whose used ones stand first
abbrev pub enter_of : Tally → Record → List Record → Answer × List Record
enter_of t r rs =
    cond (among r.fingerprint (take t.used rs)) (Seen, rs)
    (cond (leb (length rs) t.used) (Refused ledger_full, rs)
    (cond (is_some (plus_of t.sum r.live)) (New, set rs t.used r)
    (Refused total_too_large, rs)))

-- what becomes of a report that was judged, by its number
abbrev pub entered_judged : Tally → ℕ × Record → List Record → Answer × List Record
entered_judged t j rs = cond (eqb j.0 done) (enter_of t j.1 rs) (Refused j.0, rs)

-- what becomes of it in sound ones
abbrev pub settled : List Record → Record → Answer × List Record
settled rs r =
    cond (taken r.fingerprint rs) (Seen, rs)
    (cond (all_used rs) (Refused ledger_full, rs)
    (cond (leb (total_of rs + r.live) largest_total) (New, entered r rs)
    (Refused total_too_large, rs)))
