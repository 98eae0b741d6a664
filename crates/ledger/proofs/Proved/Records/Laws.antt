-- Proved: laws of the records of a ledger: what entering a record does to a slice, how many records are used, and that a slice of zeros
-- is sound. Assumes nothing.
use Rattle.std.specs.Prelude.{◌≡◌, ◌↔◌, Bool, not, ◌&&◌, ◌||◌, leb, ltb, length, get_or, set, replicate}
use Rattle.std.proofs.Math.Path.{refl}
use Rattle.std.proofs.Common.{sym, ap, ◌∙◌, true≢false, arith, leb-true, le-leb, lt-ltb, le-ltb, ltb-false}
use Rattle.std.proofs.Math.Bool.{true, false, or_assoc, or_comm, or-true}
use mathlib.Core.List.{List, [], ◌∷◌, ◌++◌}
use Prim.Native.Nat.{ℕ, zero, suc, ◌+◌, ◌≤◌, ◌<◌}
use Rattle.std.proofs.Math.Dec.{leb-suc-suc}
use Rattle.std.proofs.lemmas.Bool.{not-false}
use Rattle.octets.specs.Every.{every}
use Rattle.octets.specs.Every.Laws.{and_parts}
use Rattle.octets.specs.Same.{equal}
use Rattle.octets.specs.Same.Laws.{equal_sym}
use Rattle.octets.specs.Sums.{largest_total}
use Rattle.algorithm.specs.Cases.Laws.{test}
use Rattle.algorithm.specs.Cases.Test.{yes, no}
use Rattle.ledger.specs.Records.{used, is_zero, zero_record, all_used, all_free, used_first, free_zero, taken, none_twice, total_of, fingerprints_of, sound, FirstFree, entered}
use Rattle.ledger.specs.declared.records.Record.{Record}

or_parts : (a b : Bool) → (a || b) ≡ false → (a ≡ false) × (b ≡ false)
or_parts true b h = absurd (true≢false h)
or_parts false b h = (refl, h)

-- a slice is sound exactly when its used records stand first, its free ones are all zero, no fingerprint stands twice and the sum fits
pub sound_exactly : (rs : List Record)
    → sound rs ≡ true ↔ ((used_first rs ≡ true) × (free_zero rs ≡ true) × (none_twice rs ≡ true) × (total_of rs ≤ largest_total))
unfolding sound
sound_exactly rs = (parts, λ p. rw (p.0, p.1, p.2) (le-leb (total_of rs) largest_total p.3))
  where
    parts : (used_first rs && (free_zero rs && (none_twice rs && leb (total_of rs) largest_total))) ≡ true
        → (used_first rs ≡ true) × (free_zero rs ≡ true) × (none_twice rs ≡ true) × (total_of rs ≤ largest_total)
    parts h =
        let p = and_parts (used_first rs) (free_zero rs && (none_twice rs && leb (total_of rs) largest_total)) h in
        let q = and_parts (free_zero rs) (none_twice rs && leb (total_of rs) largest_total) p.1 in
        let l = and_parts (none_twice rs) (leb (total_of rs) largest_total) q.1 in
        (p.0, q.0, l.0, leb-true (total_of rs) largest_total l.1)

-- a slice whose records are all free
pub free_first : (rs : List Record) → all_free rs ≡ true → used_first rs ≡ true
unfolding all_free used_first
free_first [] h = refl
free_first (r ∷ rs) h = elim (test (used r)) [
  | yes t ↦ absurd (true≢false (sym (rw t at h)))
  | no t ↦ rw t (rw t at h)
]

free_none : (rs : List Record) → all_free rs ≡ true → fingerprints_of rs ≡ []
unfolding all_free fingerprints_of
free_none [] h = refl
free_none (r ∷ rs) h = elim (test (used r)) [
  | yes t ↦ absurd (true≢false (sym (rw t at h)))
  | no t ↦ rw t (free_none rs (rw t at h))
]

module _ {r : Record} {rs : List Record} where
  first_here : used r ≡ false → FirstFree (r ∷ rs) 0
  first_here t = record { within = omega arith; free = t; earlier = λ j l. absurd (omega arith) }

  first_later : {i : ℕ} → used r ≡ true → FirstFree rs i → FirstFree (r ∷ rs) (suc i)
  first_later {i} t f = record { within = omega (arith, f.within); free = f.free; earlier = at }
    where
      at : (j : ℕ) → j < suc i → used (get_or (r ∷ rs) j zero_record) ≡ true
      at zero l = t
      at (suc j) l = f.earlier j (omega arith)

module _ (x : Record) where
  -- a slice keeps its length
  pub entered_length : (rs : List Record) → length (entered x rs) ≡ length rs
  unfolding entered
  entered_length [] = refl
  entered_length (r ∷ rs) = elim (test (used r)) [
    | yes t ↦ rw t (ap suc (entered_length rs))
    | no t ↦ rw t
  ]

  -- no record that is used is lost
  pub entered_keeps : (f : List ℕ) (rs : List Record) → taken f rs ≡ true → taken f (entered x rs) ≡ true
  unfolding entered taken
  entered_keeps f [] h = h
  entered_keeps f (r ∷ rs) h = elim (test (used r)) [
    | yes t ↦ rw (t, t) (either (equal r.fingerprint f) (entered_keeps f rs) (rw t at h))
    | no t ↦ rw (t, rw t at h, or-true)
  ]
    where
      either : (a : Bool) {b c : Bool} → (b ≡ true → c ≡ true) → (a || b) ≡ true → (a || c) ≡ true
      either true k h = refl
      either false k h = k h

  -- where a record is free, one record changes: the first free one
  pub entered_one : (rs : List Record) → all_used rs ≡ false → (i : ℕ) × FirstFree rs i × (entered x rs ≡ set rs i x)
  unfolding entered all_used
  entered_one [] h = absurd (true≢false h)
  entered_one (r ∷ rs) h = elim (test (used r)) [
    | yes t ↦
        let (i, f, e) = entered_one rs (rw t at h) in
        (suc i, first_later t f, rw t (ap (λ (l : List Record). r ∷ l) e))
    | no t ↦ (0, first_here t, rw t)
  ]

-- a used record is entered
module _ (x : Record) (u : used x ≡ true) where
  -- the used records still stand first
  pub entered_first : (rs : List Record) → used_first rs ≡ true → used_first (entered x rs) ≡ true
  unfolding entered used_first
  entered_first [] h = refl
  entered_first (r ∷ rs) h = elim (test (used r)) [
    | yes t ↦ rw (t, t) (entered_first rs (rw t at h))
    | no t ↦ rw (t, u) (free_first rs (rw t at h))
  ]

  -- the free records are still all zero
  pub entered_zero : (rs : List Record) → free_zero rs ≡ true → free_zero (entered x rs) ≡ true
  unfolding entered free_zero
  entered_zero [] h = refl
  entered_zero (r ∷ rs) h = elim (test (used r)) [
    | yes t ↦ rw (t, t) (entered_zero rs (rw t at h))
    | no t ↦ rw (t, u) (and_parts (used r || is_zero r) (free_zero rs) h).1
  ]

  -- the fingerprints taken are those before and its own
  pub entered_taken : (f : List ℕ) (rs : List Record) → all_used rs ≡ false → taken f (entered x rs) ≡ (taken f rs || equal x.fingerprint f)
  unfolding entered taken all_used
  entered_taken f [] h = absurd (true≢false h)
  entered_taken f (r ∷ rs) h = elim (test (used r)) [
    | yes t ↦
        rw (t, t, entered_taken f rs (rw t at h)) (sym (or_assoc (equal r.fingerprint f) (taken f rs) (equal x.fingerprint f)))
    | no t ↦ rw (t, u) (or_comm (equal x.fingerprint f) (taken f rs))
  ]

  -- any other fingerprint is taken as before
  pub entered_others : (f : List ℕ) (rs : List Record) → equal x.fingerprint f ≡ false → taken f (entered x rs) ≡ taken f rs
  unfolding entered taken
  entered_others f [] e = refl
  entered_others f (r ∷ rs) e = elim (test (used r)) [
    | yes t ↦ rw (t, t, entered_others f rs e)
    | no t ↦ rw (t, u, e)
  ]

  -- where its fingerprint was not taken, none stands twice
  pub entered_none_twice : (rs : List Record) → taken x.fingerprint rs ≡ false → none_twice rs ≡ true → none_twice (entered x rs) ≡ true
  unfolding entered taken none_twice
  entered_none_twice [] f h = refl
  entered_none_twice (r ∷ rs) f h = elim (test (used r)) [
    | yes t ↦
        let p = and_parts (not (taken r.fingerprint rs)) (none_twice rs) (rw t at h) in
        let q = or_parts (equal r.fingerprint x.fingerprint) (taken x.fingerprint rs) (rw t at f) in
        rw (t, t, entered_others r.fingerprint rs (equal_sym x.fingerprint r.fingerprint ∙ q.0), p.0)
        (entered_none_twice rs q.1 p.1)
    | no t ↦ rw (t, u, rw t at f) (rw t at h)
  ]

  -- the sum grows by its live bytes
  pub entered_total : (rs : List Record) → all_used rs ≡ false → total_of (entered x rs) ≡ total_of rs + x.live
  unfolding entered total_of all_used
  entered_total [] h = absurd (true≢false h)
  entered_total (r ∷ rs) h = elim (test (used r)) [
    | yes t ↦ rw (t, t, entered_total rs (rw t at h)) (omega arith)
    | no t ↦ rw (t, u) (omega arith)
  ]

  -- its fingerprint comes last
  pub entered_fingerprints : (rs : List Record) → used_first rs ≡ true → all_used rs ≡ false
      → fingerprints_of (entered x rs) ≡ fingerprints_of rs ++ (x.fingerprint ∷ [])
  unfolding entered fingerprints_of used_first all_used
  entered_fingerprints [] o h = absurd (true≢false h)
  entered_fingerprints (r ∷ rs) o h = elim (test (used r)) [
    | yes t ↦ rw (t, t, entered_fingerprints rs (rw t at o) (rw t at h))
    | no t ↦ rw (t, u, free_none rs (rw t at o))
  ]

  -- a sound slice stays sound, where the fingerprint was not taken, a record is free and the sum fits
  pub entered_sound : (rs : List Record) → sound rs ≡ true → taken x.fingerprint rs ≡ false → all_used rs ≡ false
      → total_of rs + x.live ≤ largest_total → sound (entered x rs) ≡ true
  entered_sound rs s f h l =
      let p = (sound_exactly rs).0 s in
      (sound_exactly (entered x rs)).1
      (entered_first rs p.0, entered_zero rs p.1, entered_none_twice rs f p.2, omega (arith, entered_total rs h))

-- no more fingerprints stand in a slice than records
pub used_most : (rs : List Record) → length (fingerprints_of rs) ≤ length rs
unfolding fingerprints_of
used_most [] = omega arith
used_most (r ∷ rs) = elim (test (used r)) [
  | yes t ↦ rw t (omega (arith, used_most rs))
  | no t ↦ rw t (omega (arith, used_most rs))
]

-- fewer exactly where a record is free
pub used_count : (rs : List Record) → ltb (length (fingerprints_of rs)) (length rs) ≡ not (all_used rs)
unfolding fingerprints_of all_used
used_count [] = refl
used_count (r ∷ rs) = elim (test (used r)) [
  | yes t ↦ rw t (leb-suc-suc (suc (length (fingerprints_of rs))) (length rs) ∙ used_count rs)
  | no t ↦ rw t (lt-ltb (length (fingerprints_of rs)) (suc (length rs)) (omega (arith, used_most rs)))
]

-- as many exactly where every record is used
pub used_all : (rs : List Record) → length (fingerprints_of rs) ≡ length rs ↔ all_used rs ≡ true
used_all rs =
    let n : ℕ = length (fingerprints_of rs) in (
      λ e. not-false (all_used rs) (sym (used_count rs) ∙ le-ltb n (length rs) (omega arith)),
      λ h. omega (arith, used_most rs, ltb-false n (length rs) (used_count rs ∙ ap not h)),
    )

-- zeros
pub zeros_free : (n : ℕ) → all_free (replicate n zero_record) ≡ true
unfolding all_free used
zeros_free zero = refl
zeros_free (suc n) = zeros_free n

pub zeros_zero : (n : ℕ) → free_zero (replicate n zero_record) ≡ true
unfolding free_zero used is_zero every
zeros_zero zero = refl
zeros_zero (suc n) = zeros_zero n

pub zeros_once : (n : ℕ) → none_twice (replicate n zero_record) ≡ true
unfolding none_twice used
zeros_once zero = refl
zeros_once (suc n) = zeros_once n

-- the sum of zeros is zero
pub zeros_total : (n : ℕ) → total_of (replicate n zero_record) ≡ 0
unfolding total_of used
zeros_total zero = refl
zeros_total (suc n) = rw (zeros_total n)

-- no fingerprint stands in zeros
pub zeros_fingerprints : (n : ℕ) → fingerprints_of (replicate n zero_record) ≡ []
zeros_fingerprints n = free_none (replicate n zero_record) (zeros_free n)

-- zeros are sound
pub zeros_sound : (n : ℕ) → sound (replicate n zero_record) ≡ true
zeros_sound n =
    let rs : List Record = replicate n zero_record in
    (sound_exactly rs).1 (free_first rs (zeros_free n), zeros_zero n, zeros_once n, omega (arith, zeros_total n))
