-- Proved: laws of what is counted: after any sequence of submissions the records are sound and hold what the sequence counts, and a good
-- submission is seen once one with its fingerprint was new or seen. Assumes nothing.
use Rattle.std.specs.Prelude.{◌≡◌, ◌⊎◌, Bool, not, cond, ◌&&◌, ◌||◌, List, [], ◌∷◌, ◌++◌, ℕ, ◌+◌, ◌<◌, leb, length, replicate}
use Rattle.std.proofs.Math.Path.{refl, ap}
use Rattle.std.proofs.Common.{sym, ◌∙◌, ⊎_elim, arith, leb-true, le-leb, eqb-true}
use Rattle.std.proofs.Math.Bool.{true, false, true≢false}
use Rattle.std.proofs.lemmas.List.{length-replicate}
use Rattle.std.proofs.lemmas.Bool.{not-true}
use Rattle.octets.specs.Every.Laws.{and_parts, refuted}
use Rattle.octets.specs.Same.{equal}
use Rattle.octets.specs.Sums.{largest_total}
use Rattle.algorithm.specs.Refusals.{done}
use Rattle.algorithm.specs.Checks.{first_failing, Pass}
use Rattle.algorithm.specs.Checks.Laws.{done_passes, passes_done}
use Rattle.ledger.specs.Records.{used, zero_record, all_used, taken, total_of, fingerprints_of, sound}
use Rattle.ledger.proofs.Proved.Records.Laws.{sound_exactly, entered_total, entered_fingerprints, used_count, zeros_total, zeros_fingerprints, zeros_sound}
use Rattle.ledger.specs.Calls.{Submission, fingerprint_in, live_in, record_of, report_checks, submit_answer, after_all, IsSeen, IsNew, total_answer}
use Rattle.ledger.specs.Calls.Answer.{New, Seen}
use Rattle.ledger.proofs.Proved.Calls.Laws.{report_refusing, good_keys, submit_seen, submit_new, submit_keeps, submit_enters, submit_length, submit_sound, submit_taken, submit_known, total_sum}
use Rattle.ledger.specs.Counted.{Count, nothing, is_among, is_good, takes, with_one, count_from, taken_in, counted}
use Rattle.ledger.specs.declared.records.Record.{Record}

-- a fingerprint is taken where it is one of the used records'
pub taken_among : (f : List ℕ) (rs : List Record) → taken f rs ≡ is_among f (fingerprints_of rs)
unfolding taken is_among fingerprints_of
taken_among f [] = refl
taken_among f (r ∷ rs) = rw (taken_among f rs) (either (used r))
  where
    either : (b : Bool)
        → (b && equal r.fingerprint f || is_among f (fingerprints_of rs)) ≡ is_among f (cond b (r.fingerprint ∷ fingerprints_of rs) (fingerprints_of rs))
    either true = refl
    either false = refl

-- four tests that a report passes
four : (a b c d : Bool) → (a && (not b && (not c && d))) ≡ true → (a ≡ true) × (b ≡ false) × (c ≡ false) × (d ≡ true)
four a b c d h =
    let p = and_parts a (not b && (not c && d)) h in
    let q = and_parts (not b) (not c && d) p.1 in
    let l = and_parts (not c) d q.1 in
    (p.0, not-true b q.0, not-true c l.0, l.1)

-- what a slice holds
abbrev held : List Record → Count
held rs = record { fingerprints = fingerprints_of rs; sum = total_of rs }

-- one submission
module _ (rs : List Record) (x : Submission) where
  -- what the sequence alone says of it, said of the slice
  takes_is : takes (length rs) (held rs) x
      ≡ (is_good x && (not (taken (fingerprint_in x) rs) && (not (all_used rs) && leb (total_of rs + live_in x) largest_total)))
  takes_is = rw (taken_among (fingerprint_in x) rs, used_count rs)

  new_takes : (submit_answer rs x).0 ≡ New → takes (length rs) (held rs) x ≡ true
  new_takes e =
      let h : IsNew rs x = (submit_new rs x).0 e in
      takes_is
      ∙ rw (passes_done h.good, h.unknown, h.room) (le-leb (total_of rs + live_in x) largest_total h.fits)

  takes_new : sound rs ≡ true → takes (length rs) (held rs) x ≡ true → (submit_answer rs x).0 ≡ New
  takes_new s t =
      let fitting : Bool = leb (total_of rs + live_in x) largest_total in
      let (good, unknown, room, fits) = four (is_good x) (taken (fingerprint_in x) rs) (all_used rs) fitting (sym takes_is ∙ t) in
      (submit_new rs x).1 (record {
        state = s;
        good = done_passes (report_checks x) (report_refusing x) (eqb-true (first_failing (report_checks x)) done good);
        unknown = unknown;
        room = room;
        fits = leb-true (total_of rs + live_in x) largest_total fits;
      })

  holds : sound rs ≡ true → (b : Bool) → takes (length rs) (held rs) x ≡ b → held (submit_answer rs x).1 ≡ cond b (with_one (held rs) x) (held rs)
  unfolding used
  holds s true t =
      let e : (submit_answer rs x).0 ≡ New = takes_new s t in
      let h : IsNew rs x = (submit_new rs x).0 e in
      ap held (submit_enters rs x e)
      ∙ cc (entered_fingerprints (record_of x) refl rs ((sound_exactly rs).0 s).0 h.room, entered_total (record_of x) refl rs h.room)
  holds s false t = ap held (submit_keeps rs x (λ e. true≢false (sym (new_takes e) ∙ t)))

-- a slice keeps its length through any submissions
pub stays_long : (xs : List Submission) (rs : List Record) → length (after_all xs rs) ≡ length rs
unfolding after_all
stays_long [] rs = refl
stays_long (x ∷ xs) rs = stays_long xs (submit_answer rs x).1 ∙ submit_length rs x

-- a sound slice stays sound
pub sound_stays : (xs : List Submission) (rs : List Record) → sound rs ≡ true → sound (after_all xs rs) ≡ true
unfolding after_all
sound_stays [] rs s = s
sound_stays (x ∷ xs) rs s = sound_stays xs (submit_answer rs x).1 (submit_sound rs x s)

-- a fingerprint that is taken stays so
pub taken_stays : (f : List ℕ) (xs : List Submission) (rs : List Record) → taken f rs ≡ true → taken f (after_all xs rs) ≡ true
unfolding after_all
taken_stays f [] rs t = t
taken_stays f (x ∷ xs) rs t = taken_stays f xs (submit_answer rs x).1 (submit_taken rs x f t)

-- a sound slice holds what the sequence counts from what it held
pub counts_from : (xs : List Submission) (rs : List Record) → sound rs ≡ true → held (after_all xs rs) ≡ count_from (length rs) (held rs) xs
unfolding after_all count_from
counts_from [] rs s = refl
counts_from (x ∷ xs) rs s =
    let after : List Record = (submit_answer rs x).1 in
    counts_from xs after (submit_sound rs x s)
    ∙ ap (λ (n : ℕ). count_from n (held after) xs) (submit_length rs x)
    ∙ ap (λ (c : Count). count_from (length rs) c xs) (holds rs x s (takes (length rs) (held rs) x) refl)

-- a sequence of submissions to n records of zeros
module _ (n : ℕ) (xs : List Submission) where
  from_zeros : held (after_all xs (replicate n zero_record)) ≡ count_from n nothing xs
  from_zeros =
      counts_from xs (replicate n zero_record) (zeros_sound n)
      ∙ rw (length-replicate n zero_record, zeros_fingerprints n, zeros_total n)

  -- the records are sound after it
  pub stays_sound : sound (after_all xs (replicate n zero_record)) ≡ true
  stays_sound = sound_stays xs (replicate n zero_record) (zeros_sound n)

  -- they hold the fingerprints that the sequence takes, in order
  pub counts_fingerprints : fingerprints_of (after_all xs (replicate n zero_record)) ≡ taken_in n xs
  unfolding taken_in
  counts_fingerprints = ap (λ (c : Count). c.fingerprints) from_zeros

  -- their sum is what the sequence counts
  pub counts : total_of (after_all xs (replicate n zero_record)) ≡ counted n xs
  unfolding counted
  counts = ap (λ (c : Count). c.sum) from_zeros

  -- so that is what `total` answers
  pub total_answers : total_answer (after_all xs (replicate n zero_record)) ≡ record { number = done; total = counted n xs }
  total_answers = total_sum (after_all xs (replicate n zero_record)) stays_sound ∙ rw counts

-- after a submission that was answered as seen and any others, every good one with the same fingerprint is seen
pub retry_stays : (rs : List Record) (x y : Submission) (xs : List Submission) → (submit_answer rs x).0 ≡ Seen
    → fingerprint_in y ≡ fingerprint_in x → Pass (report_checks y) → (submit_answer (after_all xs rs) y).0 ≡ Seen
retry_stays rs x y xs e f p =
    let h : IsSeen rs x = (submit_seen rs x).0 e in
    (submit_seen (after_all xs rs) y).1 (record {
      state = sound_stays xs rs h.state;
      good = p;
      known = taken_stays (fingerprint_in y) xs rs (ap (λ (g : List ℕ). taken g rs) f ∙ h.known);
    })

-- and so after one that was answered as new
pub retry_later : (rs : List Record) (x y : Submission) (xs : List Submission) → (submit_answer rs x).0 ≡ New
    → fingerprint_in y ≡ fingerprint_in x → Pass (report_checks y) → (submit_answer (after_all xs (submit_answer rs x).1) y).0 ≡ Seen
retry_later rs x y xs e f p =
    let h : IsNew rs x = (submit_new rs x).0 e in
    let after : List Record = (submit_answer rs x).1 in
    (submit_seen (after_all xs after) y).1 (record {
      state = sound_stays xs after (submit_sound rs x h.state);
      good = p;
      known = taken_stays (fingerprint_in y) xs after (ap (λ (g : List ℕ). taken g after) f ∙ submit_known rs x e);
    })

-- the same submission again is one of them
pub seen_stays : (rs : List Record) (x : Submission) (xs : List Submission)
    → (submit_answer rs x).0 ≡ Seen → (submit_answer (after_all xs rs) x).0 ≡ Seen
seen_stays rs x xs e = retry_stays rs x x xs e refl ((submit_seen rs x).0 e).good

pub seen_later : (rs : List Record) (x : Submission) (xs : List Submission)
    → (submit_answer rs x).0 ≡ New → (submit_answer (after_all xs (submit_answer rs x).1) x).0 ≡ Seen
seen_later rs x xs e = retry_later rs x x xs e refl ((submit_new rs x).0 e).good

-- a submission whose report or keys are refused counts nothing, wherever it stands
pub refused_uncounted : (n : ℕ) (x : Submission) (xs ys : List Submission) → is_good x ≡ false → counted n (xs ++ (x ∷ ys)) ≡ counted n (xs ++ ys)
unfolding counted count_from
refused_uncounted n x xs ys g = ap (λ (c : Count). c.sum) (passed_over xs nothing)
  where
    passed_over : (xs : List Submission) (c : Count) → count_from n c (xs ++ (x ∷ ys)) ≡ count_from n c (xs ++ ys)
    passed_over [] c =
        let taken : takes n c x ≡ false = rw g in
        ap (λ (b : Bool). count_from n (cond b (with_one c x) c) ys) taken
    passed_over (y ∷ xs) c = passed_over xs (cond (takes n c y) (with_one c y) c)

-- so one with a key of fewer than 16 bytes counts nothing
pub short_uncounted : (n : ℕ) (x : Submission) (xs ys : List Submission) → (length x.tag_key < 16) ⊎ (length x.fingerprint_key < 16)
    → counted n (xs ++ (x ∷ ys)) ≡ counted n (xs ++ ys)
short_uncounted n x xs ys short =
    refused_uncounted n x xs ys (refuted (is_good x) (λ g.
    let (tag, fingerprint) = good_keys x (done_passes (report_checks x) (report_refusing x) (eqb-true (first_failing (report_checks x)) done g)) in
    ⊎_elim (λ l. omega arith) (λ l. omega arith) short))
