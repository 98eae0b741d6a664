-- Proved: laws of a tally: one number more in its sum, and one record more after the others. Assumes nothing.
use Rattle.std.proofs.Math.Path.{◌≡◌, refl, sym}
use Rattle.std.specs.Prelude.{Bool, ◌&&◌, ◌||◌, ℕ, suc, ◌+◌, ◌-◌, ◌≤◌, leb, ltb, Option, Some, None}
use Rattle.std.specs.Option.{is_some}
use Rattle.std.proofs.Math.Bool.{true, false, not, cond, and-true, and-false, and_assoc, or-false, or_assoc}
use mathlib.Core.List.{List, [], ◌∷◌, ◌++◌}
use Rattle.std.proofs.Math.Nat.{add-zero}
use native.Mathlib.Omega.{arith}
use Rattle.std.proofs.Common.{leb-true, leb-false, le-leb, ltb-true, ltb-false}
use Rattle.std.proofs.lemmas.Bool.{lt-leb}
use Rattle.octets.specs.Same.{equal}
use Rattle.octets.specs.Same.Laws.{equal_sym}
use Rattle.octets.specs.Sums.{largest_total, plus_of}
use Rattle.ledger.specs.Records.{used, is_zero, all_used, all_free, used_first, free_zero, taken, none_twice, total_of, sound}
use Rattle.ledger.specs.Inside.{count_of, tally_of, with_record, with_used, with_free}
use Rattle.ledger.specs.declared.records.Record.{Record}
use Rattle.ledger.specs.declared.surveying.Tally.{Tally}

-- a sum of live bytes, and one number more: none where it passes the largest total
abbrev within : ℕ → Option ℕ
within t = cond (leb t largest_total) (Some t) None

pub plus_within : (t x : ℕ) → t ≤ largest_total → plus_of (Some t) x ≡ within (t + x)
plus_within t x h = by_test (ltb (largest_total - t) x) refl
  where
    by_test : (b : Bool) → ltb (largest_total - t) x ≡ b → cond b None (Some (t + x)) ≡ within (t + x)
    by_test true e = rw (lt-leb (t + x) largest_total (omega (arith, ltb-true (largest_total - t) x e)))
    by_test false e = rw (le-leb (t + x) largest_total (omega (arith, ltb-false (largest_total - t) x e)))

plus_as : (t x : ℕ) → plus_of (within t) x ≡ within (t + x)
plus_as t x = by_test (leb t largest_total) refl
  where
    by_test : (b : Bool) → leb t largest_total ≡ b → plus_of (cond b (Some t) None) x ≡ within (t + x)
    by_test true e = plus_within t x (leb-true t largest_total e)
    by_test false e = rw (lt-leb (t + x) largest_total (omega (arith, leb-false t largest_total e)))

pub some_as : (t : ℕ) → is_some (within t) ≡ leb t largest_total
some_as t = by_test (leb t largest_total)
  where
    by_test : (b : Bool) → is_some (cond b (Some t) None) ≡ b
    by_test true = refl
    by_test false = refl

none_either : (b : Bool) → cond {A = Option ℕ} b None None ≡ None
none_either true = refl
none_either false = refl

-- one record more, after the others
module _ (r : Record) where
  abbrev with : List Record → List Record
  with rs = rs ++ (r ∷ [])

  all_used_with : (rs : List Record) → all_used (with rs) ≡ (all_used rs && used r)
  unfolding all_used
  all_used_with [] = and-true (used r)
  all_used_with (x ∷ rs) = rw (all_used_with rs) (sym (and_assoc (used x) (all_used rs) (used r)))

  all_free_with : (rs : List Record) → all_free (with rs) ≡ (all_free rs && not (used r))
  unfolding all_free
  all_free_with [] = and-true (not (used r))
  all_free_with (x ∷ rs) = rw (all_free_with rs) (sym (and_assoc (not (used x)) (all_free rs) (not (used r))))

  used_first_with : (rs : List Record) → used_first (with rs) ≡ (used_first rs && (not (used r) || all_used rs))
  unfolding used_first all_used all_free
  used_first_with [] = either (used r)
    where
      either : (u : Bool) → cond u true true ≡ (not u || true)
      either true = refl
      either false = refl
  used_first_with (x ∷ rs) = rw (used_first_with rs, all_free_with rs) (by_used (used x) (used r))
    where
      by_used : (u v : Bool)
          → cond u (used_first rs && (not v || all_used rs)) (all_free rs && not v) ≡ (cond u (used_first rs) (all_free rs) && (not v || u && all_used rs))
      by_used true v = refl
      by_used false v = rw (or-false (not v))

  free_zero_with : (rs : List Record) → free_zero (with rs) ≡ (free_zero rs && (used r || is_zero r))
  unfolding free_zero
  free_zero_with [] = and-true (used r || is_zero r)
  free_zero_with (x ∷ rs) = rw (free_zero_with rs) (sym (and_assoc (used x || is_zero x) (free_zero rs) (used r || is_zero r)))

  taken_with : (f : List ℕ) (rs : List Record) → taken f (with rs) ≡ (taken f rs || used r && equal r.fingerprint f)
  unfolding taken
  taken_with f [] = or-false (used r && equal r.fingerprint f)
  taken_with f (x ∷ rs) = rw (taken_with f rs) (sym (or_assoc (used x && equal x.fingerprint f) (taken f rs) (used r && equal r.fingerprint f)))

  none_twice_with : (rs : List Record) → none_twice (with rs) ≡ (none_twice rs && not (used r && taken r.fingerprint rs))
  unfolding none_twice taken
  none_twice_with [] = and-true (not (used r && false))
  none_twice_with (x ∷ rs) =
      rw (taken_with x.fingerprint rs, none_twice_with rs, equal_sym r.fingerprint x.fingerprint)
      (by_tests (used x) (taken x.fingerprint rs) (used r) (equal x.fingerprint r.fingerprint) (none_twice rs) (taken r.fingerprint rs))
    where
      by_tests : (a t u e n o : Bool) → (not (a && (t || u && e)) && (n && not (u && o))) ≡ ((not (a && t) && n) && not (u && (a && e || o)))
      by_tests false t u e n o = refl
      by_tests true true u e n o = refl
      by_tests true false false e n o = refl
      by_tests true false true true n o = sym (and-false n)
      by_tests true false true false n o = refl

  count_with : (rs : List Record) → count_of (with rs) ≡ count_of rs + cond (used r) 1 0
  unfolding count_of
  count_with [] = omega arith
  count_with (x ∷ rs) = rw (count_with rs) (by_used (used x))
    where
      by_used : (u : Bool) → cond u (suc (count_of rs + cond (used r) 1 0)) (count_of rs + cond (used r) 1 0) ≡ cond u (suc (count_of rs)) (count_of rs) + cond (used r) 1 0
      by_used true = omega arith
      by_used false = refl

  total_with : (rs : List Record) → total_of (with rs) ≡ total_of rs + cond (used r) r.live 0
  unfolding total_of
  total_with [] = omega arith
  total_with (x ∷ rs) = omega (arith, total_with rs)

  -- the tally of it, where `repeated` says whether an earlier record has its fingerprint
  module _ (rs : List Record) (repeated : Bool) (e : used r ≡ true → all_used rs ≡ true → repeated ≡ taken r.fingerprint rs) where
    sum_used : (u a f n : Bool) {t m : Bool} → (a ≡ true → m ≡ t)
        → cond ((u && a) && ((f && true) && ((n && not t) && leb (total_of rs + r.live) largest_total))) (Some (total_of rs + r.live)) None
        ≡ cond (not (not a) && not m) (plus_of (cond (u && (f && (n && leb (total_of rs) largest_total))) (Some (total_of rs)) None) r.live) None
    sum_used false a f n {m = m} h = sym (none_either (not (not a) && not m))
    sum_used true false f n h = refl
    sum_used true true false n {m = m} h = sym (none_either (not m))
    sum_used true true true false {m = m} h = sym (none_either (not m))
    sum_used true true true true {t = true} h = rw (h refl)
    sum_used true true true true {t = false} h = rw (h refl, plus_as (total_of rs) r.live)

    sum_free : (u f n z l : Bool)
        → cond ((u && true) && ((f && z) && ((n && true) && l))) (Some (total_of rs)) None ≡ cond z (cond (u && (f && (n && l))) (Some (total_of rs)) None) None
    sum_free false f n z l = sym (none_either z)
    sum_free true false n z l = sym (none_either z)
    sum_free true true n false l = refl
    sum_free true true n true l = rw (and-true n)

    pub tally_with : tally_of (with rs) ≡ with_record (tally_of rs) r repeated
    unfolding tally_of sound
    tally_with =
        rw (all_used_with rs, used_first_with rs, free_zero_with rs, none_twice_with rs, count_with rs, total_with rs) (by_used (used r) e)
      where
        by_used : (u : Bool) → (u ≡ true → all_used rs ≡ true → repeated ≡ taken r.fingerprint rs) → ◌≡◌ {A = Tally} (record {
          free = not (all_used rs && u);
          used = count_of rs + cond u 1 0;
          sum = cond
              ((used_first rs && (not u || all_used rs))
              && ((free_zero rs && (u || is_zero r))
              && ((none_twice rs && not (u && taken r.fingerprint rs)) && leb (total_of rs + cond u r.live 0) largest_total)))
              (Some (total_of rs + cond u r.live 0)) None;
        }) (cond u (with_used (tally_of rs) r.live repeated) (with_free (tally_of rs) (is_zero r)))
        by_used true h = λ i. record {
          free = not (and-true (all_used rs) i);
          used = count_of rs + 1;
          sum = sum_used (used_first rs) (all_used rs) (free_zero rs) (none_twice rs) (h refl) i;
        }
        by_used false h = rw (add-zero (total_of rs)) (λ i. record {
          free = not (and-false (all_used rs) i);
          used = add-zero (count_of rs) i;
          sum = sum_free (used_first rs) (free_zero rs) (none_twice rs) (is_zero r) (leb (total_of rs) largest_total) i;
        })
