-- Proved: laws of entering a record in sound ones by their tally. Assumes nothing.
use Rattle.std.specs.Prelude.{◌≡◌, refl, true, false, ◌&&◌, List, [], ◌∷◌, ℕ, suc, ◌+◌, ◌<◌, eqb, leb, length, take, set}
use Rattle.std.proofs.Common.{ap, true≢false, arith, le-leb}
use Rattle.std.proofs.Math.Bool.{Bool, cond}
use Rattle.std.specs.Option.{is_some}
use Rattle.std.proofs.lemmas.Bool.{lt-leb, leb-false}
use borrow.Author.Tests.{ne_eqb}
use Rattle.octets.specs.Every.Laws.{and_parts}
use Rattle.octets.specs.Sums.{plus_of}
use Rattle.algorithm.specs.Refusals.{done, ledger_full, total_too_large}
use Rattle.ledger.specs.Records.{used, all_used, all_free, used_first, total_of, sound, entered}
use Rattle.ledger.proofs.Proved.Records.Laws.{sound_exactly}
use Rattle.ledger.specs.Calls.{Answer}
use Rattle.ledger.specs.Calls.Answer.{New, Seen, Refused}
use Rattle.ledger.specs.Inside.{among, count_of, tally_of, enter_of, entered_judged, settled}
use Rattle.ledger.specs.Inside.Surveying.{plus_within, some_as}
use Rattle.ledger.proofs.Proved.Inside.Laws.{count_within, free_count, among_first, sound_sum}
use Rattle.ledger.specs.declared.records.Record.{Record}
use Rattle.ledger.specs.declared.surveying.Tally.{Tally}

-- where all records are used as many are used as there are, and otherwise fewer
count_all : (rs : List Record) → all_used rs ≡ true → count_of rs ≡ length rs
unfolding all_used count_of
count_all [] e = refl
count_all (r ∷ rs) e = let p = and_parts (used r) (all_used rs) e in rw p.0 (ap suc (count_all rs p.1))

count_room : (rs : List Record) → all_used rs ≡ false → count_of rs < length rs
unfolding all_used count_of
count_room [] e = absurd (true≢false e)
count_room (r ∷ rs) e = by_used (used r) e (count_room rs)
  where
    by_used : (u : Bool) → (u && all_used rs) ≡ false → (all_used rs ≡ false → count_of rs < length rs) → cond u (suc (count_of rs)) (count_of rs) < suc (length rs)
    by_used true h room = omega (arith, room h)
    by_used false h room = omega (arith, count_within rs)

full_is : (rs : List Record) → leb (length rs) (count_of rs) ≡ all_used rs
full_is rs = by_test (all_used rs) refl
  where
    by_test : (b : Bool) → all_used rs ≡ b → leb (length rs) (count_of rs) ≡ b
    by_test true e = le-leb (length rs) (count_of rs) (omega (arith, count_all rs e))
    by_test false e = lt-leb (length rs) (count_of rs) (count_room rs e)

-- where the used records stand first, a record is entered after them
entered_is : (x : Record) (rs : List Record) → used_first rs ≡ true → entered x rs ≡ set rs (count_of rs) x
unfolding used_first entered count_of
entered_is x [] e = refl
entered_is x (r ∷ rs) e = by_used (used r) e (entered_is x rs)
  where
    by_used : (u : Bool) → cond u (used_first rs) (all_free rs) ≡ true → (used_first rs ≡ true → entered x rs ≡ set rs (count_of rs) x)
        → cond u (r ∷ entered x rs) (x ∷ rs) ≡ set (r ∷ rs) (cond u (suc (count_of rs)) (count_of rs)) x
    by_used true h more = ap (λ (l : List Record). r ∷ l) (more h)
    by_used false h more = rw (free_count rs h)

-- a tally counts the used records
used_is : (rs : List Record) → (tally_of rs).used ≡ count_of rs
unfolding tally_of
used_is rs = refl

-- what becomes of a record by the tally of sound records
pub enter_accepted : (rs : List Record) → sound rs ≡ true → (r : Record) → enter_of (tally_of rs) r rs ≡ settled rs r
enter_accepted rs s r =
    rw (
      used_is rs,
      sound_sum rs s,
      among_first r.fingerprint rs ((sound_exactly rs).0 s).0,
      full_is rs,
      plus_within (total_of rs) r.live ((sound_exactly rs).0 s).3,
      some_as (total_of rs + r.live),
      entered_is r rs ((sound_exactly rs).0 s).0,
    )

-- where a new record is written there is room for it
pub writes_within : (t : Tally) (r : Record) (rs : List Record) → (enter_of t r rs).0 ≡ New → t.used < length rs
writes_within t r rs = by_tests (among r.fingerprint (take t.used rs)) (leb (length rs) t.used) (is_some (plus_of t.sum r.live)) refl
  where
    by_tests : (a b c : Bool) → leb (length rs) t.used ≡ b
        → ◌≡◌ {A = Answer} (cond {A = Answer × List Record} a (Seen, rs) (cond b (Refused ledger_full, rs) (cond c (New, set rs t.used r) (Refused total_too_large, rs)))).0 New
        → t.used < length rs
    by_tests true b c e n = let z : ◌≡◌ {A = ℕ} 0 1 = cc in absurd (omega arith)
    by_tests false true c e n = let z : ◌≡◌ {A = ℕ} 0 1 = cc in absurd (omega arith)
    by_tests false false true e n = leb-false (length rs) t.used e
    by_tests false false false e n = let z : ◌≡◌ {A = ℕ} 0 1 = cc in absurd (omega arith)

-- what becomes of a report that was judged, and refused
pub enter_refused : (t : Tally) (rs : List Record) (j : ℕ × Record) → (j.0 ≡ done → ⊥) → entered_judged t j rs ≡ (Refused j.0, rs)
enter_refused t rs j z = rw (ne_eqb j.0 done z)
