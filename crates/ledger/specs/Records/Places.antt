-- Proved: what each rule of soundness says of the records at their places. Assumes nothing.
use Rattle.std.specs.Prelude.{◌≡◌, refl, ◌↔◌, true, false, not, ◌&&◌, ◌||◌, length, get_or}
use Rattle.std.proofs.Common.{sym, ◌∙◌, true≢false}
use Rattle.std.proofs.Math.Bool.{or-true}
use mathlib.Core.List.{List, [], ◌∷◌}
use Prim.Native.Nat.{ℕ, zero, suc, ◌<◌}
use native.Mathlib.Omega.{arith}
use Rattle.std.proofs.lemmas.Bool.{not-true}
use Rattle.octets.specs.Every.Laws.{and_parts}
use Rattle.octets.specs.Same.{equal}
use Rattle.algorithm.specs.Cases.Laws.{test}
use Rattle.algorithm.specs.Cases.Test.{yes, no}
use Rattle.ledger.specs.Records.{used, is_zero, zero_record, all_free, used_first, free_zero, taken, none_twice}
use Rattle.ledger.specs.declared.records.Record.{Record}

-- every record is free, place by place
free_at : (rs : List Record) → all_free rs ≡ true → (i : ℕ) → i < length rs → used (get_or rs i zero_record) ≡ false
unfolding all_free
free_at [] h i l = absurd (omega arith)
free_at (r ∷ rs) h zero l = not-true (used r) (and_parts (not (used r)) (all_free rs) h).0
free_at (r ∷ rs) h (suc i) l = free_at rs (and_parts (not (used r)) (all_free rs) h).1 i (omega arith)

free_all : (rs : List Record) → ((i : ℕ) → i < length rs → used (get_or rs i zero_record) ≡ false) → all_free rs ≡ true
unfolding all_free
free_all [] k = refl
free_all (r ∷ rs) k =
    let t : used r ≡ false = k 0 (omega arith) in
    rw t (free_all rs (λ i l. k (suc i) (omega arith)))

first_at : (rs : List Record) → used_first rs ≡ true
    → (i j : ℕ) → i < j → j < length rs → used (get_or rs j zero_record) ≡ true → used (get_or rs i zero_record) ≡ true
unfolding used_first
first_at [] h i j l m u = absurd (omega arith)
first_at (r ∷ rs) h i zero l m u = absurd (omega arith)
first_at (r ∷ rs) h zero (suc j) l m u = elim (test (used r)) [
  | yes t ↦ t
  | no t ↦ absurd (true≢false (sym u ∙ free_at rs (rw t at h) j (omega arith)))
]
first_at (r ∷ rs) h (suc i) (suc j) l m u = elim (test (used r)) [
  | yes t ↦ first_at rs (rw t at h) i j (omega arith) (omega arith) u
  | no t ↦ absurd (true≢false (sym u ∙ free_at rs (rw t at h) j (omega arith)))
]

first_all : (rs : List Record)
    → ((i j : ℕ) → i < j → j < length rs → used (get_or rs j zero_record) ≡ true → used (get_or rs i zero_record) ≡ true)
    → used_first rs ≡ true
unfolding used_first
first_all [] k = refl
first_all (r ∷ rs) k = elim (test (used r)) [
  | yes t ↦ rw t (first_all rs (λ i j l m. k (suc i) (suc j) (omega arith) (omega arith)))
  | no t ↦ rw t (free_all rs (later t))
]
  where
    later : used r ≡ false → (i : ℕ) → i < length rs → used (get_or rs i zero_record) ≡ false
    later t i l = elim (test (used (get_or rs i zero_record))) [
      | yes u ↦ absurd (true≢false (sym (k 0 (suc i) (omega arith) (omega arith) u) ∙ t))
      | no u ↦ u
    ]

-- the used records stand first exactly where every record before a used one is used
pub used_first_exactly : (rs : List Record)
    → used_first rs ≡ true
    ↔ ((i j : ℕ) → i < j → j < length rs → used (get_or rs j zero_record) ≡ true → used (get_or rs i zero_record) ≡ true)
used_first_exactly rs = (first_at rs, first_all rs)

zero_at : (rs : List Record) → free_zero rs ≡ true
    → (i : ℕ) → i < length rs → used (get_or rs i zero_record) ≡ false → is_zero (get_or rs i zero_record) ≡ true
unfolding free_zero
zero_at [] h i l t = absurd (omega arith)
zero_at (r ∷ rs) h zero l t = rw t at (and_parts (used r || is_zero r) (free_zero rs) h).0
zero_at (r ∷ rs) h (suc i) l t = zero_at rs (and_parts (used r || is_zero r) (free_zero rs) h).1 i (omega arith) t

zero_all : (rs : List Record)
    → ((i : ℕ) → i < length rs → used (get_or rs i zero_record) ≡ false → is_zero (get_or rs i zero_record) ≡ true)
    → free_zero rs ≡ true
unfolding free_zero
zero_all [] k = refl
zero_all (r ∷ rs) k =
    let e : free_zero rs ≡ true = zero_all rs (λ i l. k (suc i) (omega arith)) in
    elim (test (used r)) [
      | yes t ↦ rw t e
      | no t ↦ let z : is_zero r ≡ true = k 0 (omega arith) t in rw (t, z) e
    ]

-- the free records are all zero exactly where each free one is
pub free_zero_exactly : (rs : List Record)
    → free_zero rs ≡ true ↔ ((i : ℕ) → i < length rs → used (get_or rs i zero_record) ≡ false → is_zero (get_or rs i zero_record) ≡ true)
free_zero_exactly rs = (zero_at rs, zero_all rs)

module _ (f : List ℕ) where
  taken_at : (rs : List Record) → taken f rs ≡ true
      → (i : ℕ) × (i < length rs) × (used (get_or rs i zero_record) ≡ true) × (equal (get_or rs i zero_record).fingerprint f ≡ true)
  unfolding taken
  taken_at [] h = absurd (true≢false (sym h))
  taken_at (r ∷ rs) h = elim (test (used r && equal r.fingerprint f)) [
    | yes t ↦ let p = and_parts (used r) (equal r.fingerprint f) t in (0, omega arith, p.0, p.1)
    | no t ↦ let (i, l, u, e) = taken_at rs (rw t at h) in (suc i, omega (arith, l), u, e)
  ]

  taken_of : (rs : List Record) (i : ℕ) → i < length rs → used (get_or rs i zero_record) ≡ true
      → equal (get_or rs i zero_record).fingerprint f ≡ true → taken f rs ≡ true
  unfolding taken
  taken_of [] i l u e = absurd (omega arith)
  taken_of (r ∷ rs) zero l u e = rw (u, e)
  taken_of (r ∷ rs) (suc i) l u e = rw (taken_of rs i (omega arith) u e, or-true)

  -- a fingerprint is taken exactly where a used record stands that has it
  pub taken_exactly : (rs : List Record)
      → taken f rs ≡ true
      ↔ ((i : ℕ) × (i < length rs) × (used (get_or rs i zero_record) ≡ true) × (equal (get_or rs i zero_record).fingerprint f ≡ true))
  taken_exactly rs = (taken_at rs, λ p. taken_of rs p.0 p.1 p.2 p.3)

once_at : (rs : List Record) → none_twice rs ≡ true
    → (i j : ℕ) → i < j → j < length rs → used (get_or rs i zero_record) ≡ true → used (get_or rs j zero_record) ≡ true
    → equal (get_or rs j zero_record).fingerprint (get_or rs i zero_record).fingerprint ≡ false
unfolding none_twice
once_at [] h i j l m u v = absurd (omega arith)
once_at (r ∷ rs) h i zero l m u v = absurd (omega arith)
once_at (r ∷ rs) h zero (suc j) l m u v = elim (test (equal (get_or rs j zero_record).fingerprint r.fingerprint)) [
  | yes e ↦ absurd (true≢false (sym (rw (u, taken_of r.fingerprint rs j (omega arith) v e) at h)))
  | no e ↦ e
]
once_at (r ∷ rs) h (suc i) (suc j) l m u v =
    once_at rs (and_parts (not (used r && taken r.fingerprint rs)) (none_twice rs) h).1 i j (omega arith) (omega arith) u v

once_all : (rs : List Record)
    → ((i j : ℕ) → i < j → j < length rs → used (get_or rs i zero_record) ≡ true → used (get_or rs j zero_record) ≡ true
    → equal (get_or rs j zero_record).fingerprint (get_or rs i zero_record).fingerprint ≡ false)
    → none_twice rs ≡ true
unfolding none_twice
once_all [] k = refl
once_all (r ∷ rs) k = elim (test (used r && taken r.fingerprint rs)) [
  | yes t ↦
      let p = and_parts (used r) (taken r.fingerprint rs) t in
      let (i, l, u, e) = taken_at r.fingerprint rs p.1 in
      absurd (true≢false (sym e ∙ k 0 (suc i) (omega arith) (omega (arith, l)) p.0 u))
  | no t ↦ rw t (once_all rs (λ i j l m. k (suc i) (suc j) (omega arith) (omega arith)))
]

-- no fingerprint stands twice exactly where no two used records have the same one
pub none_twice_exactly : (rs : List Record)
    → none_twice rs ≡ true
    ↔ ((i j : ℕ) → i < j → j < length rs → used (get_or rs i zero_record) ≡ true → used (get_or rs j zero_record) ≡ true
    → equal (get_or rs j zero_record).fingerprint (get_or rs i zero_record).fingerprint ≡ false)
none_twice_exactly rs = (once_at rs, once_all rs)
