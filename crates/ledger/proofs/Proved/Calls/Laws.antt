-- Proved: laws of the calls: each number comes back exactly when its check fails and every earlier one passes, a report is new or seen
-- exactly when it should be, what a submission leaves of the records, and what the total is. Assumes nothing.
use Rattle.std.specs.Prelude.{◌≡◌, ◌↔◌, ◌⊎◌, Bool, not, cond, ◌||◌, leb, length, get_or, set}
use Rattle.std.proofs.Math.Path.{refl, ap}
use Rattle.std.proofs.Common.{sym, subst, ◌∙◌, inl, inr, ⊎_elim, true≢false, arith, get_or-set_other, leb-true, le-leb}
use Rattle.std.proofs.Math.Logic.{⊎_map}
use Rattle.std.proofs.Math.Bool.{true, false}
use mathlib.Core.List.{List, [], ◌∷◌, ◌++◌}
use Prim.Native.Nat.{ℕ, ◌+◌, ◌≤◌, ◌<◌}
use Rattle.std.proofs.Math.Decide.{ℕ_discrete}
use Rattle.std.proofs.lemmas.Bool.{not-true}
use Rattle.octets.specs.Same.Laws.{equal_tells}
use Rattle.octets.specs.Sums.{largest_total}
use Rattle.algorithm.specs.Refusals.{done, state_not_sound, ledger_full, total_too_large, key_too_short}
use Rattle.algorithm.specs.Checks.{Check, check, first_failing, Pass, Fail, Refusing}
use Rattle.algorithm.specs.Checks.Pass.{all, and}
use Rattle.algorithm.specs.Checks.Fail.{here, later}
use Rattle.algorithm.specs.Checks.Refusing.{none, more}
use Rattle.algorithm.specs.Checks.Laws.{exactly, fails_number, number_fails, done_passes, passes_done, refuses, pass_append, append_number, other_number, refusing_append, done_work, refused_given}
use Rattle.report.specs.Reading.{read_checks}
use Rattle.report.specs.Calls.{key_checks, tag_checks}
use Rattle.report.specs.Calls.Laws.{key_refusing, key_parts, key_too_short_lem, tag_refusing}
use Rattle.report.specs.Calls.Short.{tag_too_short}
use Rattle.ledger.specs.Records.{used, zero_record, all_used, taken, total_of, sound, FirstFree, entered}
use Rattle.ledger.proofs.Proved.Records.Laws.{entered_length, entered_keeps, entered_one, entered_taken, entered_sound}
use Rattle.ledger.specs.Calls.{Answer, Submission, fingerprint_in, live_in, record_of, report_checks, room_checks, submit_checks, submit_answer, IsSeen, IsNew, answer_of, total_answer}
use Rattle.ledger.specs.Calls.Answer.{New, Seen, Refused}
use Rattle.ledger.specs.declared.records.Record.{Record}

-- no check of a report or its keys that fails has the number of a call that is done
pub report_refusing : (x : Submission) → Refusing (report_checks x)
report_refusing x =
    refusing_append _ (key_checks x.fingerprint_key) (tag_refusing x.report x.tag_key) (key_refusing x.fingerprint_key)

-- both keys of a good submission have 16 bytes at least
pub good_keys : (x : Submission) → Pass (report_checks x) → (16 ≤ length x.tag_key) × (16 ≤ length x.fingerprint_key)
good_keys x p =
    let both = (pass_append (tag_checks x.report x.tag_key) (key_checks x.fingerprint_key)).0 p in
    let tag = (pass_append (read_checks x.report) _).0 both.0 in
    let first = (pass_append (key_checks x.tag_key) _).0 tag.1 in
    ((key_parts x.tag_key first.0).1, (key_parts x.fingerprint_key both.1).1)

-- the number of a check that fails is never the one of a call that is done
fail_refuses : {cs : List Check} {n : ℕ} → Refusing cs → Fail cs n → n ≡ done → ⊥
fail_refuses {n = n} none x3 = elim x3 [ ]
fail_refuses (more z r) (here e) = z e
fail_refuses (more z r) (later e f) = fail_refuses r f

module _ (rs : List Record) (x : Submission) where
  -- no check of a submission that fails has the number of a call that is done
  pub submit_refusing : Refusing (submit_checks rs x)
  submit_refusing = refuses _ _ (refusing_append (report_checks x) (room_checks rs x) (report_refusing x) (refuses _ _ (refuses _ _ none)))

  -- the checks pass exactly where the slice is sound, those of the report pass and those of the room do
  pass_parts : Pass (submit_checks rs x) → (sound rs ≡ true) × Pass (report_checks x) × Pass (room_checks rs x)
  pass_parts (and s p) = let q = (pass_append (report_checks x) (room_checks rs x)).0 p in (s, q.0, q.1)

  pass_all : sound rs ≡ true → Pass (report_checks x) → first_failing (room_checks rs x) ≡ done → first_failing (submit_checks rs x) ≡ done
  pass_all s p e =
      let q : Pass (room_checks rs x) = done_passes (room_checks rs x) (refuses _ _ (refuses _ _ none)) e in
      passes_done {cs = submit_checks rs x} (and s ((pass_append (report_checks x) (room_checks rs x)).1 (p, q)))

  room_parts : taken (fingerprint_in x) rs ≡ false → Pass (room_checks rs x) → (all_used rs ≡ false) × (total_of rs + live_in x ≤ largest_total)
  room_parts t (and f (and l all)) = (not-true (all_used rs) (rw t at f), leb-true (total_of rs + live_in x) largest_total (rw t at l))

  -- so no check fails of a report that is seen, and none of a new one
  seen_done : IsSeen rs x → first_failing (submit_checks rs x) ≡ done
  seen_done h = pass_all h.state h.good (rw h.known)

  new_done : IsNew rs x → first_failing (submit_checks rs x) ≡ done
  new_done h = pass_all h.state h.good (rw (h.unknown, h.room, le-leb (total_of rs + live_in x) largest_total h.fits))

  -- what an answer says, and what it leaves of the records
  abbrev Says : Answer → Type 0
  Says New = IsNew rs x
  Says Seen = IsSeen rs x
  Says (Refused n) = Fail (submit_checks rs x) n

  abbrev left : Answer → List Record
  left New = entered (record_of x) rs
  left Seen = rs
  left (Refused n) = rs

  abbrev accepted : Answer × List Record
  accepted = cond (taken (fingerprint_in x) rs) (Seen, rs) (New, entered (record_of x) rs)

  abbrev refused : Answer × List Record
  refused = (Refused (first_failing (submit_checks rs x)), rs)

  -- where it holds it comes back
  comes : (a : Answer) → Says a → submit_answer rs x ≡ (a, left a)
  unfolding submit_answer
  comes New h = done_work (submit_checks rs x) accepted refused (new_done h) ∙ rw h.unknown
  comes Seen h = done_work (submit_checks rs x) accepted refused (seen_done h) ∙ rw h.known
  comes (Refused n) f =
      let e = fails_number f in
      refused_given (submit_checks rs x) accepted refused (λ d. fail_refuses submit_refusing f (sym e ∙ d))
      ∙ rw e

  -- and one of them holds
  one : (a : Answer) × Says a
  one = elim (ℕ_discrete (first_failing (submit_checks rs x)) done) [
    | no z ↦ (Refused (first_failing (submit_checks rs x)), number_fails (submit_checks rs x) (first_failing (submit_checks rs x)) z refl)
    | yes e ↦
        let p = pass_parts (done_passes (submit_checks rs x) submit_refusing e) in
        either (taken (fingerprint_in x) rs) refl p.0 p.1 p.2
  ]
    where
      either : (b : Bool) → taken (fingerprint_in x) rs ≡ b → sound rs ≡ true → Pass (report_checks x) → Pass (room_checks rs x)
          → (a : Answer) × Says a
      either true t s p q = (Seen, record { state = s; good = p; known = t })
      either false t s p q =
          let l = room_parts t q in
          (New, record { state = s; good = p; unknown = t; room = l.0; fits = l.1 })

  says : Says (submit_answer rs x).0
  says = rw (comes one.0 one.1) one.1

  leaves : (submit_answer rs x).1 ≡ left (submit_answer rs x).0
  leaves = rw (comes one.0 one.1)

  exactly_says : (a : Answer) → (submit_answer rs x).0 ≡ a ↔ Says a
  exactly_says a = (λ e. subst Says e says, λ h. ap (λ (p : Answer × List Record). p.0) (comes a h))

  -- a submission is refused with a number exactly when the number's check fails and every earlier one passes
  pub submit_refused : (n : ℕ) → (submit_answer rs x).0 ≡ Refused n ↔ Fail (submit_checks rs x) n
  submit_refused n = exactly_says (Refused n)

  -- it is refused with 21 exactly when the slice is sound and either reading passes and the tag key has fewer than 16 bytes, or reading,
  -- the tag key and the tag pass and the fingerprint key has fewer
  pub submit_too_short : (submit_answer rs x).0 ≡ Refused key_too_short
      ↔ ((sound rs ≡ true)
      × ((Pass (read_checks x.report) × (length x.tag_key < 16))
      ⊎ (Pass (tag_checks x.report x.tag_key) × (length x.fingerprint_key < 16))))
  submit_too_short =
      let s : List ℕ = x.report in
      let state : Check = check (sound rs) state_not_sound in
      let free : Check = check (taken (fingerprint_in x) rs || not (all_used rs)) ledger_full in
      let fits : Check = check (taken (fingerprint_in x) rs || leb (total_of rs + live_in x) largest_total) total_too_large in
      let called = exactly (submit_checks rs x) key_too_short (λ z. omega arith) in
      let all-checks = append_number (state ∷ []) (report_checks x ++ room_checks rs x) key_too_short (λ z. omega arith) (refuses _ _ none) in
      let report = append_number (report_checks x) (room_checks rs x) key_too_short (λ z. omega arith) (report_refusing x) in
      let keys = append_number (tag_checks s x.tag_key) (key_checks x.fingerprint_key) key_too_short (λ z. omega arith) (tag_refusing s x.tag_key) in
      let tag = tag_too_short s x.tag_key in
      let key = key_too_short_lem x.fingerprint_key in (
        λ e. ⊎_elim
            (λ d. absurd (other_number state [] key_too_short (λ z. omega arith) (λ z. omega arith) d))
            (λ p. (
              sound_passes p.0,
              ⊎_elim (λ d. ⊎_map tag.0 (λ q. (q.0, key.0 q.1)) (keys.0 d))
                  (λ q. absurd (other_number free (fits ∷ []) key_too_short (λ z. omega arith) (other_number fits [] key_too_short (λ z. omega arith) (λ z. omega arith)) q.1))
                  (report.0 p.1),
            ))
            (all-checks.0 (called.1 ((submit_refused key_too_short).0 e))),
        λ p.
            let number = keys.1 (⊎_map tag.1 (λ q. (q.0, key.1 q.1)) p.1) in
            (submit_refused key_too_short).1 (called.0 (all-checks.1 (inr (and p.0 all, report.1 (inl number))))),
      )
    where
      sound_passes : Pass (check (sound rs) state_not_sound ∷ []) → sound rs ≡ true
      sound_passes (and s all) = s

  -- a report is seen exactly when the slice is sound, the report and its keys are good, and its fingerprint is taken
  pub submit_seen : (submit_answer rs x).0 ≡ Seen ↔ IsSeen rs x
  submit_seen = exactly_says Seen

  -- a report is new exactly when the slice is sound, the report and its keys are good, its fingerprint is not taken, a record is free and
  -- the sum fits
  pub submit_new : (submit_answer rs x).0 ≡ New ↔ IsNew rs x
  submit_new = exactly_says New

  -- the number that comes back is that of the first check that fails
  pub submit_number : (answer_of (submit_answer rs x).0).0 ≡ first_failing (submit_checks rs x)
  submit_number = number (submit_answer rs x).0 says
    where
      number : (a : Answer) → Says a → (answer_of a).0 ≡ first_failing (submit_checks rs x)
      number New h = sym (new_done h)
      number Seen h = sym (seen_done h)
      number (Refused n) f = sym (fails_number f)

  -- no submission is refused with the number of one that is not
  pub submit_never_zero : (submit_answer rs x).0 ≡ Refused done → ⊥
  submit_never_zero e = fail_refuses submit_refusing ((submit_refused done).0 e) refl

  -- so the two numbers that C sees tell the answers apart: 1 is beside a report that is seen, and only there
  pub shown_seen : (answer_of (submit_answer rs x).0).1 ≡ 1 ↔ IsSeen rs x
  shown_seen = (λ e. tells (submit_answer rs x).0 says e, λ h. ap (λ (a : Answer). (answer_of a).1) (submit_seen.1 h))
    where
      tells : (a : Answer) → Says a → (answer_of a).1 ≡ 1 → IsSeen rs x
      tells New h e = absurd (omega arith)
      tells Seen h e = h
      tells (Refused n) h e = absurd (omega arith)

  -- 0 and 0 say that it is new
  pub shown_new : (((answer_of (submit_answer rs x).0).0 ≡ done) × ((answer_of (submit_answer rs x).0).1 ≡ 0)) ↔ IsNew rs x
  shown_new = (
    λ e. tells (submit_answer rs x).0 says e.0 e.1,
    λ h. let e = submit_new.1 h in (ap (λ (a : Answer). (answer_of a).0) e, ap (λ (a : Answer). (answer_of a).1) e),
  )
    where
      tells : (a : Answer) → Says a → (answer_of a).0 ≡ done → (answer_of a).1 ≡ 0 → IsNew rs x
      tells New h e z = h
      tells Seen h e z = absurd (omega arith)
      tells (Refused n) f e z = absurd (fail_refuses submit_refusing f e)

  -- any other number comes back exactly when its check fails and every earlier one passes
  pub shown_refused : (n : ℕ) → (n ≡ done → ⊥) → (answer_of (submit_answer rs x).0).0 ≡ n ↔ Fail (submit_checks rs x) n
  shown_refused n z = subst (λ (m : ℕ). m ≡ n ↔ Fail (submit_checks rs x) n) (sym submit_number) (exactly (submit_checks rs x) n z)

  -- a report that is refused or seen leaves the records as they were
  pub submit_keeps : ((submit_answer rs x).0 ≡ New → ⊥) → (submit_answer rs x).1 ≡ rs
  submit_keeps z = leaves ∙ keeps (submit_answer rs x).0 z
    where
      keeps : (a : Answer) → (a ≡ New → ⊥) → left a ≡ rs
      keeps New z = absurd (z refl)
      keeps Seen z = refl
      keeps (Refused n) z = refl

  -- a new report is entered
  pub submit_enters : (submit_answer rs x).0 ≡ New → (submit_answer rs x).1 ≡ entered (record_of x) rs
  submit_enters e = leaves ∙ ap left e

  -- a new report changes one record: the first free one
  pub submit_one : (submit_answer rs x).0 ≡ New → (i : ℕ) × FirstFree rs i × ((submit_answer rs x).1 ≡ set rs i (record_of x))
  submit_one e =
      let (i, f, s) = entered_one (record_of x) rs (submit_new.0 e).room in
      (i, f, submit_enters e ∙ s)

  -- a record that is used stays as it is
  pub submit_stays : (i : ℕ) → used (get_or rs i zero_record) ≡ true → get_or (submit_answer rs x).1 i zero_record ≡ get_or rs i zero_record
  submit_stays i u = ap (λ (l : List Record). get_or l i zero_record) leaves ∙ stays (submit_answer rs x).0 says
    where
      stays : (a : Answer) → Says a → get_or (left a) i zero_record ≡ get_or rs i zero_record
      stays New h =
          let (j, f, s) = entered_one (record_of x) rs h.room in
          ap (λ (l : List Record). get_or l i zero_record) s
          ∙ get_or-set_other rs j i (record_of x) zero_record
          (λ e. true≢false (sym u ∙ ap (λ (k : ℕ). used (get_or rs k zero_record)) e ∙ f.free))
      stays Seen h = refl
      stays (Refused n) f = refl

  -- a slice keeps its length
  pub submit_length : length (submit_answer rs x).1 ≡ length rs
  submit_length = ap length leaves ∙ long (submit_answer rs x).0
    where
      long : (a : Answer) → length (left a) ≡ length rs
      long New = entered_length (record_of x) rs
      long Seen = refl
      long (Refused n) = refl

  -- a sound slice stays sound
  pub submit_sound : sound rs ≡ true → sound (submit_answer rs x).1 ≡ true
  unfolding used
  submit_sound s = ap sound leaves ∙ stays (submit_answer rs x).0 says
    where
      stays : (a : Answer) → Says a → sound (left a) ≡ true
      stays New h = entered_sound (record_of x) refl rs s h.unknown h.room h.fits
      stays Seen h = s
      stays (Refused n) f = s

  -- a fingerprint that is taken stays so: no record is freed
  pub submit_taken : (f : List ℕ) → taken f rs ≡ true → taken f (submit_answer rs x).1 ≡ true
  submit_taken f t = ap (taken f) leaves ∙ stays (submit_answer rs x).0
    where
      stays : (a : Answer) → taken f (left a) ≡ true
      stays New = entered_keeps (record_of x) f rs t
      stays Seen = t
      stays (Refused n) = t

  -- the fingerprint of a new report is taken after it
  pub submit_known : (submit_answer rs x).0 ≡ New → taken (fingerprint_in x) (submit_answer rs x).1 ≡ true
  unfolding used
  submit_known e =
      let f : List ℕ = fingerprint_in x in
      let h : IsNew rs x = submit_new.0 e in
      ap (taken f) (submit_enters e)
      ∙ entered_taken (record_of x) refl f rs h.room
      ∙ rw h.unknown ((equal_tells f f).equal_true refl)

module _ (rs : List Record) where
  -- the total is refused exactly where the slice is not sound
  pub total_exactly : (total_answer rs).number ≡ state_not_sound ↔ sound rs ≡ false
  unfolding total_answer
  total_exactly = either (sound rs)
    where
      either : (b : Bool) → first_failing (check b state_not_sound ∷ []) ≡ state_not_sound ↔ b ≡ false
      either true = (λ e. absurd (omega arith), λ e. absurd (true≢false e))
      either false = (λ e. refl, λ e. refl)

  -- the total is given exactly where the slice is sound
  pub total_done : (total_answer rs).number ≡ done ↔ sound rs ≡ true
  unfolding total_answer
  total_done = either (sound rs)
    where
      either : (b : Bool) → first_failing (check b state_not_sound ∷ []) ≡ done ↔ b ≡ true
      either true = (λ e. refl, λ e. refl)
      either false = (λ e. absurd (omega arith), λ e. absurd (true≢false (sym e)))

  -- beside the refusal stands 0
  pub total_refused : sound rs ≡ false → total_answer rs ≡ record { number = state_not_sound; total = 0 }
  unfolding total_answer
  total_refused s = rw s

  -- where it is given, it is the sum of the used records' live bytes
  pub total_sum : sound rs ≡ true → total_answer rs ≡ record { number = done; total = total_of rs }
  unfolding total_answer
  total_sum s = rw s
