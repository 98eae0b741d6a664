-- Proved: no second outcome: what meets the outcome predicate of a call, as its contract cites it, is one. Assumes nothing.
use mathlib.Core.HLevel.{is_prop→PathP}
use native.Mathlib.Bridge.{le_prop}
use Rattle.std.specs.Prelude.{◌≡◌, ◌<◌, refl, List, ℕ, Option, Some, None, Result, Ok, Err}
use Rattle.std.proofs.Common.{ap, arith}
use Rattle.std.specs.declared.num.NonZeroUsize.{NonZeroUsize}
use Rattle.algorithm.specs.Answers.Laws.{refusal_unique}
use Rattle.algorithm.specs.Checks.Laws.{one_outcome}
use Rattle.algorithm.specs.declared.refusals.Refusal.{Refusal}
use Rattle.stream.specs.Stream.{Answer}
use Rattle.stream.specs.Calls.{Fed, answer_by, length_by, fed_by, FeedOutcome, AnswerNumberOutcome, FeedShownOutcome}
use Rattle.stream.specs.declared.answers.State.{State}
use Rattle.stream.specs.declared.answers.Answer as answers
use Rattle.stream.specs.declared.answers.Fed as feds

pub feed_unique : (state : State) (buffer piece : List ℕ) (r r' : Fed) (o o' : List ℕ)
    → FeedOutcome state buffer piece r o → FeedOutcome state buffer piece r' o' → ◌≡◌ {A = Fed × List ℕ} (r, o) (r', o')
feed_unique state buffer piece r r' o o' = one_outcome

pub answer_number_unique : (a : Answer) (r r' : ℕ) → AnswerNumberOutcome a r → AnswerNumberOutcome a r' → r ≡ r'
answer_number_unique a r r' = one_outcome

pub feed_shown_unique : (state : State) (buffer piece : List ℕ) (r r' used used' length length' : ℕ) (s s' : State) (o o' : List ℕ)
    → FeedShownOutcome state buffer piece r used length s o → FeedShownOutcome state buffer piece r' used' length' s' o'
    → ◌≡◌ {A = (ℕ × ℕ × ℕ) × State × List ℕ} ((r, used, length), s, o) ((r', used', length'), s', o')
feed_shown_unique state buffer piece r r' used used' length length' s s' o o' = one_outcome

-- nor does a second answer of the code have one view
pub answer_unique : (r r' : Result answers.Answer Refusal) → answer_by r ≡ answer_by r' → r ≡ r'
answer_unique (Ok answers.TheVariants.More) (Ok answers.TheVariants.More) h = refl
answer_unique (Ok answers.TheVariants.More) (Ok answers.TheVariants.Whole) h = cc
answer_unique (Ok answers.TheVariants.More) (Err f) h = cc
answer_unique (Ok answers.TheVariants.Whole) (Ok answers.TheVariants.More) h = cc
answer_unique (Ok answers.TheVariants.Whole) (Ok answers.TheVariants.Whole) h = refl
answer_unique (Ok answers.TheVariants.Whole) (Err f) h = cc
answer_unique (Err e) (Ok answers.TheVariants.More) h = cc
answer_unique (Err e) (Ok answers.TheVariants.Whole) h = cc
answer_unique (Err e) (Err f) h = ap Err (refusal_unique e f (cc))

-- a length that is given is never 0
length_unique : (r r' : Option NonZeroUsize) → length_by r ≡ length_by r' → r ≡ r'
length_unique None None h = refl
length_unique None (Some n) h = absurd (omega (arith, n.ok, h))
length_unique (Some n) None h = absurd (omega (arith, n.ok, h))
length_unique (Some n) (Some m) h =
    λ i. Some (record { value = h i; ok = is_prop→PathP (λ j. 0 < h j) (λ j. le_prop) n.ok m.ok i })

pub feed_answer_unique : (r r' : feds.Fed) → fed_by r ≡ fed_by r' → r ≡ r'
feed_answer_unique r r' h =
    let answer = answer_unique r.answer r'.answer (ap (λ (f : Fed). f.answer) h) in
    λ i. record {
      answer = answer i;
      used = ap (λ (f : Fed). f.used) h i;
      length = length_unique r.length r'.length (ap (λ (f : Fed). f.length) h) i;
      state = ap (λ (f : Fed). f.state) h i;
    }
