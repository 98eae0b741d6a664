-- Proved: laws of the calls, for the layers above and for this crate's proofs: what each answers once its checks are known. Assumes
-- nothing.
use Rattle.std.specs.Prelude.{◌≡◌, refl, ◌↔◌, Bool, true, false, cond, ◌||◌, leb, ltb, eqb, drop, Ok, Err}
use Rattle.std.proofs.Math.Path.{sym, ap}
use Rattle.std.proofs.Common.{subst, ◌∙◌, true≢false, add-one, length-take-le, drop-drop}
use mathlib.Core.List.{List, [], ◌∷◌, ◌++◌}
use Prim.Native.Nat.{ℕ, zero, suc, ◌+◌, ◌*◌, ◌≤◌, ◌<◌}
use Rattle.std.proofs.Math.Decide.{ℕ_discrete, dec_lt}
use native.Mathlib.Omega.{arith}
use Rattle.std.proofs.Math.ListN.{length, take, get_or, length-drop}
use Rattle.std.proofs.Math.Seq.{get_or-drop}
use borrow.Author.Tests.{leb-true, le-leb, lt-leb, le-ltb, lt-ltb, eqb-true, eq-eqb, ne_eqb}
use Rattle.octets.specs.Number.{number, number_at}
use Rattle.octets.specs.Number.Laws.{number_front}
use Rattle.octets.specs.Parts.{part_front}
use Rattle.octets.specs.Same.{equal}
use Rattle.algorithm.specs.declared.hashes.Hash.{Hash}
use Rattle.algorithm.specs.declared.hashes.Hash.TheVariants.{Sha256, Sha512}
use Rattle.algorithm.specs.declared.refusals.Refusal.{Refusal}
use Rattle.algorithm.specs.declared.refusals.Refusal.TheVariants.{UnknownHash}
use Rattle.algorithm.specs.Hashes.{names, hash_of, size_of, allowed}
use Rattle.algorithm.specs.Hashes.Laws.{unknown, known}
use Rattle.algorithm.specs.Refusals.{done, tag_differs, unknown_hash, key_too_long, key_too_short, wrong_size, prk_too_short, no_such_site, most_bytes}
use Rattle.algorithm.specs.Checks.{Check, check, first_failing, Pass, Refusing, Fail, written}
use Rattle.algorithm.specs.Checks.Pass.{all, and}
use Rattle.algorithm.specs.Checks.Refusing.{none}
use Rattle.algorithm.specs.Checks.Laws.{exactly, exactly_done, done_passes, refuses, pass_append, other_number, append_refuses, append_passes, refusing_append, answered_refused, answered_done}
use Rattle.hmac.specs.Hmac.{tag_of}
use Rattle.hmac.specs.Calls.{compare_checks}
use Rattle.hmac.specs.Calls.Laws.{compared_done}
use Rattle.report.specs.Reading.{names_hash, hash_named, named_in, hash_in, tag_size_in, tag_start, before_tag, first_site, read_sites, sites_in, read_checks, fields_of, read_of}
use Rattle.report.specs.Inside.{First, Passed, site_here, Stands, body_sites, refused_reading, head_reading}
use Rattle.report.specs.Reading.Laws.{read_refusing, first, passed, passes, passes_then}
use Rattle.report.specs.Fingerprint.{fingerprint_of}
use Rattle.report.specs.Keys.{keys_of}
use Rattle.report.specs.Layout.{Site, tag_size_of, live_of}
use Rattle.report.specs.Calls.{SiteAt, reading_of, numbers_of, read_into_checks, read_into_answer, site_numbers, site_into_checks, site_into_answer, site_of, before, found_site, refused_site, Points, place_checks, site_answer, label_answer, key_checks, tag_checks, check_answer, fingerprint_checks, fingerprint_answer, keys_checks, keys_answer}

-- what a report's number says: whether a report names a hash by it, and which
module _ (n : ℕ) where
  pub named_unknown : (f : Refusal) → named_in n ≡ Err f → (names_hash n ≡ false) × (f ≡ UnknownHash)
  named_unknown f e = let u = unknown (names_hash n) (hash_named n) UnknownHash f e in (u.0, sym u.1)

  pub named_is : (h : Hash) → named_in n ≡ Ok h → (names_hash n ≡ true) × (hash_named n ≡ h)
  named_is h e = known (names_hash n) (hash_named n) h UnknownHash e

-- a hash that a report names is made, under the same number
pub report_hash : (n : ℕ) → names_hash n ≡ true → (names n ≡ true) × (hash_of n ≡ hash_named n)
report_hash n e = either (eqb n 1) (eqb n 2) refl refl e
  where
    same : ℕ → Type 0
    same m = (names m ≡ true) × (hash_of m ≡ hash_named m)

    either : (a b : Bool) → eqb n 1 ≡ a → eqb n 2 ≡ b → (a || b) ≡ true → same n
    either true b one two h = subst same (sym (eqb-true n 1 one)) (refl, refl)
    either false true one two h = subst same (sym (eqb-true n 2 two)) (refl, refl)
    either false false one two h = absurd (true≢false (sym h))

-- the tag of a report's hash may be asked for, and so may a fingerprint
pub tag_allowed : (n : ℕ) → allowed (hash_named n) (tag_size_of n) ≡ true
tag_allowed n = asked (eqb n 2)
  where
    asked : (b : Bool) → allowed (cond b Sha512 Sha256) (cond b 32 16) ≡ true
    asked true = refl
    asked false = refl

pub fingerprint_fits : (h : Hash) → allowed h 32 ≡ true
fingerprint_fits Sha256 = refl
fingerprint_fits Sha512 = refl

pub fingerprint_allowed : (n : ℕ) → allowed (hash_named n) 32 ≡ true
fingerprint_allowed n = fingerprint_fits (hash_named n)

-- a report's key: what its checks say on both sides of each limit
module _ (key : List ℕ) where
  pub key_refusing : Refusing (key_checks key)
  key_refusing = refuses _ _ (refuses _ _ none)

  pub key_accepted : 16 ≤ length key → length key ≤ most_bytes → first_failing (key_checks key) ≡ done
  key_accepted k l = rw (le-leb (length key) most_bytes l, le-leb 16 (length key) k)

  pub key_too_long_lem : most_bytes < length key → first_failing (key_checks key) ≡ key_too_long
  key_too_long_lem l = rw (lt-leb (length key) most_bytes l)

  pub key_too_short_lem : first_failing (key_checks key) ≡ key_too_short ↔ length key < 16
  key_too_short_lem = (
    λ e. elim (dec_lt (length key) 16) [
      | yes l ↦ l
      | no z ↦ absurd (other_number (check (leb (length key) most_bytes) key_too_long) [] key_too_short (λ z. omega arith) (λ z. omega arith) (rw (le-leb 16 (length key) (omega arith)) at e))
    ],
    λ l. rw (le-leb (length key) most_bytes (omega arith), lt-leb 16 (length key) l),
  )

  pub key_parts : Pass (key_checks key) → (length key ≤ most_bytes) × (16 ≤ length key)
  key_parts (and l (and k all)) = (leb-true (length key) most_bytes l, leb-true 16 (length key) k)

  pub key_fits : first_failing (key_checks key) ≡ done → length key ≤ most_bytes
  key_fits e = (key_parts (done_passes (key_checks key) key_refusing e)).0

-- no check of a report's tag that fails has the number of a call that is done
pub tag_refusing : (s key : List ℕ) → Refusing (tag_checks s key)
tag_refusing s key =
    refusing_append (read_checks s) _ (read_refusing s) (refusing_append (key_checks key) _ (key_refusing key) (refuses _ _ none))

-- what is checked after reading and the key decides where both pass
keyed_then : (s key : List ℕ) → Passed s → first_failing (key_checks key) ≡ done → (cs : List Check)
    → first_failing (read_checks s ++ (key_checks key ++ cs)) ≡ first_failing cs
keyed_then s key p d cs = passes_then s p (key_checks key ++ cs) ∙ append_passes (key_checks key) cs d (key_refusing key)

-- read
module _ (s : List ℕ) where
  pub read_refused : (first_failing (read_checks s) ≡ done → ⊥) → reading_of (read_of s) ≡ refused_reading (first_failing (read_checks s))
  unfolding read_of
  read_refused z = rw (ne_eqb (first_failing (read_checks s)) done z)

  pub read_passes : Passed s → reading_of (read_of s) ≡ head_reading s (live_of (sites_in s).1)
  unfolding read_of
  read_passes p = rw (passes s p, p.sites)

-- the site that starts at a place, with bytes before it left out
here_shift : (k at : ℕ) (l : List ℕ) → site_here (drop k l) at ≡ site_here l (k + at)
here_shift k at l =
    let size : get_or (drop k l) at 0 ≡ get_or l (k + at) 0 = get_or-drop k l at 0 in
    let after : (n : ℕ) (j : ℕ) → k + n ≡ j → drop n (drop k l) ≡ drop j l = λ n j e. drop-drop n k l ∙ ap (λ (i : ℕ). drop i l) e in
    let label = after (at + 1) (k + at + 1) (omega arith) in
    let live = after (at + get_or (drop k l) at 0 + 1) (k + at + get_or l (k + at) 0 + 1) (omega arith) in
    let blocks = after (at + get_or (drop k l) at 0 + 9) (k + at + get_or l (k + at) 0 + 9) (omega arith) in
    λ i. record { label = take (size i) (label i); live = number (take 8 (live i)); blocks = number (take 4 (blocks i)) }

-- the first one, and one after it
module _ (size : ℕ) (l : List ℕ) (room : size + 12 ≤ length l) (xs : List Site) where
  label_size : length (take size l) ≡ size
  label_size = length-take-le size l (omega arith)

  first_stands : Stands (size ∷ l) (first_site size l ∷ xs) 0
  unfolding before
  first_stands =
      let live : suc size ≡ 0 + size + 1 = omega arith in
      let blocks : suc (size + 8) ≡ 0 + size + 9 = omega arith in
      record {
        here = λ i.
            record { label = take size l; live = number_at (size ∷ l) (live i) 8; blocks = number_at (size ∷ l) (blocks i) 4 };
        room = omega arith;
        next = omega (arith, label_size);
      }

  later_stands : (i : ℕ) → Stands (drop (size + 12) l) xs i → Stands (size ∷ l) (first_site size l ∷ xs) (suc i)
  unfolding before
  later_stands i s =
      let at : ℕ = before xs i in
      let j : ℕ = length (take size l) + 13 + at in
      let e : suc (size + 12) + at ≡ j = omega (arith, label_size) in
      let same : get_or (drop (size + 12) l) at 0 ≡ get_or (size ∷ l) j 0 =
      get_or-drop (suc (size + 12)) (size ∷ l) at 0 ∙ ap (λ (k : ℕ). get_or (size ∷ l) k 0) e
      in
      record {
        here = s.here ∙ here_shift (suc (size + 12)) at (size ∷ l) ∙ ap (site_here (size ∷ l)) e;
        room = omega (arith, s.room, same, label_size, length-drop (size + 12) l);
        next = omega (arith, s.next, same);
      }

pub stands : (n : ℕ) (l : List ℕ) → (read_sites n l).0 ≡ done → (i : ℕ) → i < n → Stands l (read_sites n l).1 i
unfolding read_sites
stands zero l e i h = absurd (omega arith)
stands (suc n) [] e i h = absurd (omega arith)
stands (suc n) (size ∷ l) e zero h =
    let f : First n size l = first n size l e in
    subst (λ (w : ℕ × List Site). Stands (size ∷ l) w.1 0) (sym f.is) (first_stands size l f.room _)
stands (suc n) (size ∷ l) e (suc i) h =
    let f : First n size l = first n size l e in
    let rest = stands n (drop (size + 12) l) f.rest i (omega arith) in
    subst (λ (w : ℕ × List Site). Stands (size ∷ l) w.1 (suc i)) (sym f.is) (later_stands size l f.room _ i rest)

-- the sites of a body stand in it after its first 45 bytes
module _ (body : List ℕ) (e : (body_sites body).0 ≡ done) (i : ℕ) (h : i < number_at body 43 2) {at : ℕ} (a : at ≡ 45 + before (body_sites body).1 i) where
  byte : get_or (drop 45 body) (before (body_sites body).1 i) 0 ≡ get_or body at 0
  byte = get_or-drop 45 body (before (body_sites body).1 i) 0 ∙ ap (λ (k : ℕ). get_or body k 0) (sym a)

  rest : Stands (drop 45 body) (body_sites body).1 i
  rest = stands (number_at body 43 2) (drop 45 body) e i h

  pub body_here : site_of (body_sites body).1 i ≡ site_here body at
  body_here = rest.here ∙ here_shift 45 (before (body_sites body).1 i) body ∙ ap (site_here body) (sym a)

  pub body_room : at + get_or body at 0 + 13 ≤ length body
  body_room = omega (arith, rest.room, byte, length-drop 45 body)

  pub body_next : at + get_or body at 0 + 13 ≡ 45 + before (body_sites body).1 (i + 1)
  body_next =
      let k : before (body_sites body).1 (i + 1) ≡ before (body_sites body).1 (suc i) = ap (before (body_sites body).1) (add-one i) in
      omega (arith, k, rest.next, byte)

-- the sites of a report that passes are those of its body
pub sites_body : (s : List ℕ) → Passed s → body_sites (before_tag s) ≡ sites_in s
sites_body s p = ap (λ (n : ℕ). read_sites n (drop 45 (before_tag s))) (number_front (tag_start s) 43 2 s (omega (arith, p.tag_fits)))

-- the numbers of a site that is found point to its label
found_points : (s : List ℕ) (place : ℕ) → Passed s → place < length (sites_in s).1
    → Points s (site_of (sites_in s).1 place).label (found_site (sites_in s).1 place)
found_points s place p l =
    let body : List ℕ = before_tag s in
    let xs : List Site = (body_sites body).1 in
    let top : tag_start s ≤ length s = omega arith in
    let long : length body ≡ tag_start s = length-take-le (tag_start s) s top in
    let done_here : (body_sites body).0 ≡ done = ap (λ (w : ℕ × List Site). w.0) (sites_body s p) ∙ p.placed in
    let count : number_at body 43 2 ≡ number_at s 43 2 = number_front (tag_start s) 43 2 s (omega (arith, p.tag_fits)) in
    let below : place < number_at body 43 2 = omega (arith, p.sites) in
    let at : ℕ = 45 + before xs place in
    let size : ℕ = get_or body at 0 in
    let here : site_of xs place ≡ site_here body at = body_here body done_here place below refl in
    let room : at + size + 13 ≤ length body = body_room body done_here place below refl in
    let after : at + 1 ≡ 46 + before xs place = omega arith in
    let label : (site_of xs place).label ≡ take size (drop (46 + before xs place) body) =
    ap (λ (x : Site). x.label) here ∙ ap (λ (k : ℕ). take size (drop k body)) after
    in
    let fits : size ≤ length (drop (46 + before xs place) body) = omega (arith, length-drop (46 + before xs place) body) in
    let long_label : length (site_of xs place).label ≡ size = ap length label ∙ length-take-le size (drop (46 + before xs place) body) fits in
    let inside : (46 + before xs place) + size ≤ tag_start s = omega arith in
    subst (λ (w : ℕ × List Site). Points s (site_of w.1 place).label (found_site w.1 place)) (sites_body s p)
    (record {
      room = omega arith;
      is =
          ap (λ (k : ℕ). take k (drop (46 + before xs place) s)) long_label
          ∙ sym (part_front (tag_start s) (46 + before xs place) size s inside)
          ∙ sym label;
    })

-- site
module _ (s : List ℕ) (place : ℕ) where
  abbrev there : Check
  there = check (ltb place (length (sites_in s).1)) no_such_site

  stopped_site : (n : ℕ) → first_failing (place_checks s place) ≡ n → (n ≡ done → ⊥) → site_answer s place ≡ refused_site n
  unfolding site_answer
  stopped_site n e z = rw (e, ne_eqb n done z)

  pub site_number : (site_answer s place).number ≡ first_failing (place_checks s place)
  unfolding site_answer
  site_number = elim (ℕ_discrete (first_failing (place_checks s place)) done) [
    | yes e ↦ rw e
    | no z ↦ rw (ne_eqb (first_failing (place_checks s place)) done z)
  ]

  -- the numbers of a site that is found
  pub site_found : first_failing (place_checks s place) ≡ done → site_answer s place ≡ found_site (sites_in s).1 place
  unfolding site_answer
  site_found e = rw e

  pub site_refused : (first_failing (read_checks s) ≡ done → ⊥) → site_answer s place ≡ refused_site (first_failing (read_checks s))
  site_refused z = stopped_site (first_failing (read_checks s)) (append_refuses (read_checks s) (there ∷ []) z) z

  module _ (p : Passed s) where
    pub site_none : length (sites_in s).1 ≤ place → site_answer s place ≡ refused_site no_such_site
    site_none l = stopped_site no_such_site (passes_then s p (there ∷ []) ∙ rw (le-ltb place (length (sites_in s).1) l)) (λ z. omega arith)

    pub there_done : place < length (sites_in s).1 → first_failing (place_checks s place) ≡ done
    there_done l = passes_then s p (there ∷ []) ∙ rw (lt-ltb place (length (sites_in s).1) l)

    pub site_there : place < length (sites_in s).1 → site_answer s place ≡ found_site (sites_in s).1 place
    site_there l = site_found (there_done l)

  pub place_refusing : Refusing (place_checks s place)
  place_refusing = refusing_append (read_checks s) (there ∷ []) (read_refusing s) (refuses _ _ none)

  -- the label is the part of the report that `site` points to, and the number is that of `site`
  pub label_number : (label_answer s place).0 ≡ (site_answer s place).number
  unfolding label_answer
  label_number = sym site_number

  label_stops : (n : ℕ) → first_failing (place_checks s place) ≡ n → (n ≡ done → ⊥) → (label_answer s place).1 ≡ []
  unfolding label_answer
  label_stops n e z = ap (λ (r : ℕ × List ℕ). r.1) (answered_refused (place_checks s place) (site_of (sites_in s).1 place).label [] n e z)

  pub label_there : first_failing (place_checks s place) ≡ done → (label_answer s place).1 ≡ (site_of (sites_in s).1 place).label
  unfolding label_answer
  label_there e = ap (λ (r : ℕ × List ℕ). r.1) (answered_done (place_checks s place) (site_of (sites_in s).1 place).label [] e)

  nowhere : (n : ℕ) → first_failing (place_checks s place) ≡ n → (n ≡ done → ⊥) → Points s (label_answer s place).1 (site_answer s place)
  nowhere n e z = subst (λ (r : SiteAt). Points s (label_answer s place).1 r) (sym (stopped_site n e z)) (record { room = omega arith; is = sym (label_stops n e z) })

  pub label_points : Points s (label_answer s place).1 (site_answer s place)
  label_points = elim (ℕ_discrete (first_failing (read_checks s)) done) [
    | no z ↦ nowhere (first_failing (read_checks s)) (append_refuses (read_checks s) (there ∷ []) z) z
    | yes e ↦ elim (dec_lt place (length (sites_in s).1)) [
      | yes l ↦
          let p : Passed s = passed s e in
          subst (λ (r : SiteAt). Points s (label_answer s place).1 r) (sym (site_there p l))
          (subst (λ (label : List ℕ). Points s label (found_site (sites_in s).1 place)) (sym (label_there (there_done p l))) (found_points s place p l))
      | no l ↦
          nowhere no_such_site (passes_then s (passed s e) (there ∷ []) ∙ rw (le-ltb place (length (sites_in s).1) (omega arith))) (λ z. omega arith)
    ]
  ]

-- read_into
module _ (s fields : List ℕ) where
  abbrev eleven : Check
  eleven = check (eqb (length fields) 11) wrong_size

  pub read_into_refused : (first_failing (read_checks s) ≡ done → ⊥) → read_into_answer s fields ≡ written (first_failing (read_checks s)) fields
  unfolding read_into_answer
  read_into_refused z =
      answered_refused (read_into_checks s fields) (numbers_of (fields_of s)) fields (first_failing (read_checks s)) (append_refuses (read_checks s) (eleven ∷ []) z) z

  module _ (p : Passed s) where
    pub read_into_wrong_size : (length fields ≡ 11 → ⊥) → read_into_answer s fields ≡ written wrong_size fields
    unfolding read_into_answer
    read_into_wrong_size n =
        answered_refused (read_into_checks s fields) (numbers_of (fields_of s)) fields wrong_size (passes_then s p (eleven ∷ []) ∙ rw (ne_eqb (length fields) 11 n)) (λ z. omega arith)

    pub read_into_accepted : length fields ≡ 11 → read_into_answer s fields ≡ written done (numbers_of (fields_of s))
    unfolding read_into_answer
    read_into_accepted e =
        answered_done (read_into_checks s fields) (numbers_of (fields_of s)) fields (passes_then s p (eleven ∷ []) ∙ rw (eq-eqb (length fields) 11 e))

-- site_into, by the number of `site`
module _ (s : List ℕ) (place : ℕ) (numbers : List ℕ) where
  abbrev four : Check
  four = check (eqb (length numbers) 4) wrong_size

  pub site_into_refused : (first_failing (place_checks s place) ≡ done → ⊥) → site_into_answer s place numbers ≡ written (first_failing (place_checks s place)) numbers
  unfolding site_into_answer
  site_into_refused z =
      answered_refused (site_into_checks s place numbers) (site_numbers (sites_in s).1 place) numbers (first_failing (place_checks s place))
      (append_refuses (place_checks s place) (four ∷ []) z) z

  module _ (d : first_failing (place_checks s place) ≡ done) where
    then : first_failing (site_into_checks s place numbers) ≡ first_failing (four ∷ [])
    then = append_passes (place_checks s place) (four ∷ []) d (place_refusing s place)

    pub site_into_wrong_size : (length numbers ≡ 4 → ⊥) → site_into_answer s place numbers ≡ written wrong_size numbers
    unfolding site_into_answer
    site_into_wrong_size n =
        answered_refused (site_into_checks s place numbers) (site_numbers (sites_in s).1 place) numbers wrong_size (then ∙ rw (ne_eqb (length numbers) 4 n)) (λ z. omega arith)

    pub site_into_accepted : length numbers ≡ 4 → site_into_answer s place numbers ≡ written done (site_numbers (sites_in s).1 place)
    unfolding site_into_answer
    site_into_accepted e =
        answered_done (site_into_checks s place numbers) (site_numbers (sites_in s).1 place) numbers (then ∙ rw (eq-eqb (length numbers) 4 e))

-- check
module _ (s key : List ℕ) where
  abbrev compares : List Check
  compares = compare_checks (drop (tag_start s) s) (tag_of (hash_in s) key (tag_size_in s) (before_tag s))

  pub check_refused : (first_failing (read_checks s) ≡ done → ⊥) → check_answer s key ≡ first_failing (read_checks s)
  unfolding check_answer
  check_refused z = append_refuses (read_checks s) (key_checks key ++ compares) z

  module _ (p : Passed s) where
    pub check_key : (first_failing (key_checks key) ≡ done → ⊥) → check_answer s key ≡ first_failing (key_checks key)
    unfolding check_answer
    check_key z = passes_then s p (key_checks key ++ compares) ∙ append_refuses (key_checks key) compares z

    pub check_compared : first_failing (key_checks key) ≡ done
        → check_answer s key
        ≡ cond (equal (drop (tag_start s) s) (tag_of (hash_in s) key (tag_size_in s) (before_tag s))) done tag_differs
    unfolding check_answer
    check_compared d = keyed_then s key p d compares

  -- it says yes exactly when the checks of reading and of the key pass, and the tag is that of all bytes before it
  pub check_tag : check_answer s key ≡ done
      ↔ ((Pass (read_checks s) × Pass (key_checks key)) × (drop (tag_start s) s ≡ tag_of (hash_in s) key (tag_size_in s) (before_tag s)))
  unfolding check_answer
  check_tag =
      let first = pass_append (read_checks s) (key_checks key) in
      let whole =
      compared_done (read_checks s ++ key_checks key) (refusing_append (read_checks s) (key_checks key) (read_refusing s) (key_refusing key)) (drop (tag_start s) s)
      (tag_of (hash_in s) key (tag_size_in s) (before_tag s))
      in (
        λ e. let p = whole.0 e in (first.0 p.0, p.1),
        λ p. whole.1 (first.1 p.0, p.1),
      )

-- fingerprint
module _ (s key out : List ℕ) where
  abbrev room : Check
  room = check (eqb (length out) 32) wrong_size

  pub fingerprint_refused : (first_failing (read_checks s) ≡ done → ⊥) → fingerprint_answer s key out ≡ written (first_failing (read_checks s)) out
  unfolding fingerprint_answer
  fingerprint_refused z =
      answered_refused (fingerprint_checks s key out) (fingerprint_of s key) out (first_failing (read_checks s))
      (append_refuses (read_checks s) (key_checks key ++ (room ∷ [])) z)
      z

  module _ (p : Passed s) where
    pub fingerprint_key_lem : (first_failing (key_checks key) ≡ done → ⊥) → fingerprint_answer s key out ≡ written (first_failing (key_checks key)) out
    unfolding fingerprint_answer
    fingerprint_key_lem z =
        answered_refused (fingerprint_checks s key out) (fingerprint_of s key) out (first_failing (key_checks key))
        (passes_then s p (key_checks key ++ (room ∷ [])) ∙ append_refuses (key_checks key) (room ∷ []) z)
        z

    module _ (d : first_failing (key_checks key) ≡ done) where
      pub fingerprint_wrong_size : (length out ≡ 32 → ⊥) → fingerprint_answer s key out ≡ written wrong_size out
      unfolding fingerprint_answer
      fingerprint_wrong_size ne =
          answered_refused (fingerprint_checks s key out) (fingerprint_of s key) out wrong_size
          (keyed_then s key p d (room ∷ []) ∙ rw (ne_eqb (length out) 32 ne))
          (λ z. omega arith)

      pub fingerprint_accepted : length out ≡ 32 → fingerprint_answer s key out ≡ written done (fingerprint_of s key)
      unfolding fingerprint_answer
      fingerprint_accepted e =
          answered_done (fingerprint_checks s key out) (fingerprint_of s key) out
          (keyed_then s key p d (room ∷ []) ∙ rw (eq-eqb (length out) 32 e))

-- keys
module _ (n : ℕ) (prk : List ℕ) (tenant machine : ℕ) (out : List ℕ) where
  pub keys_unknown : names_hash n ≡ false → keys_answer n prk tenant machine out ≡ written unknown_hash out
  unfolding keys_answer
  keys_unknown h = rw h

  module _ (h : names_hash n ≡ true) where
    pub keys_too_long : most_bytes < length prk → keys_answer n prk tenant machine out ≡ written key_too_long out
    unfolding keys_answer
    keys_too_long k = rw (h, lt-leb (length prk) most_bytes k)

    module _ (k : length prk ≤ most_bytes) where
      pub keys_wrong_size : (length out ≡ 2 * size_of (hash_named n) → ⊥) → keys_answer n prk tenant machine out ≡ written wrong_size out
      unfolding keys_answer
      keys_wrong_size ne = rw (h, le-leb (length prk) most_bytes k, ne_eqb (length out) (2 * size_of (hash_named n)) ne)

      module _ (e : length out ≡ 2 * size_of (hash_named n)) where
        pub keys_too_short : length prk < size_of (hash_named n) → keys_answer n prk tenant machine out ≡ written prk_too_short out
        unfolding keys_answer
        keys_too_short l =
            rw (h, le-leb (length prk) most_bytes k, eq-eqb (length out) (2 * size_of (hash_named n)) e, lt-leb (size_of (hash_named n)) (length prk) l)

        pub keys_accepted : size_of (hash_named n) ≤ length prk
            → keys_answer n prk tenant machine out ≡ written done (keys_of (hash_named n) prk tenant machine)
        unfolding keys_answer
        keys_accepted l =
            rw (h, le-leb (length prk) most_bytes k, eq-eqb (length out) (2 * size_of (hash_named n)) e, le-leb (size_of (hash_named n)) (length prk) l)

-- each number comes back exactly when its check fails and every earlier one passes
module _ (r : ℕ) (refusal : r ≡ done → ⊥) where
  pub read_exactly : (s : List ℕ) → (read_of s).0 ≡ r ↔ Fail (read_checks s) r
  unfolding read_of
  read_exactly s = exactly (read_checks s) r refusal

  pub site_exactly : (s : List ℕ) (place : ℕ) → (site_answer s place).number ≡ r ↔ Fail (place_checks s place) r
  site_exactly s place =
      subst (λ (n : ℕ). n ≡ r ↔ Fail (place_checks s place) r) (sym (site_number s place)) (exactly (place_checks s place) r refusal)

  pub read_into_exactly : (s fields : List ℕ) → (read_into_answer s fields).0 ≡ r ↔ Fail (read_into_checks s fields) r
  unfolding read_into_answer
  read_into_exactly s fields = exactly (read_into_checks s fields) r refusal

  pub site_into_exactly : (s : List ℕ) (place : ℕ) (numbers : List ℕ) → (site_into_answer s place numbers).0 ≡ r ↔ Fail (site_into_checks s place numbers) r
  unfolding site_into_answer
  site_into_exactly s place numbers = exactly (site_into_checks s place numbers) r refusal

  pub label_exactly : (s : List ℕ) (place : ℕ) → (label_answer s place).0 ≡ r ↔ Fail (place_checks s place) r
  unfolding label_answer
  label_exactly s place = exactly (place_checks s place) r refusal

  pub check_exactly : (s key : List ℕ) → check_answer s key ≡ r ↔ Fail (tag_checks s key) r
  unfolding check_answer
  check_exactly s key = exactly (tag_checks s key) r refusal

  pub fingerprint_exactly : (s key out : List ℕ) → (fingerprint_answer s key out).0 ≡ r ↔ Fail (fingerprint_checks s key out) r
  unfolding fingerprint_answer
  fingerprint_exactly s key out = exactly (fingerprint_checks s key out) r refusal

  pub keys_exactly : (n : ℕ) (prk : List ℕ) (tenant machine : ℕ) (out : List ℕ)
      → (keys_answer n prk tenant machine out).0 ≡ r ↔ Fail (keys_checks n prk out) r
  unfolding keys_answer
  keys_exactly n prk tenant machine out = exactly (keys_checks n prk out) r refusal

-- a call is done exactly when every check passes
pub read_done : (s : List ℕ) → (read_of s).0 ≡ done ↔ Pass (read_checks s)
unfolding read_of
read_done s = exactly_done (read_checks s) (read_refusing s)

pub site_done : (s : List ℕ) (place : ℕ) → (site_answer s place).number ≡ done ↔ Pass (place_checks s place)
site_done s place =
    subst (λ (n : ℕ). n ≡ done ↔ Pass (place_checks s place)) (sym (site_number s place)) (exactly_done (place_checks s place) (place_refusing s place))

pub read_into_done : (s fields : List ℕ) → (read_into_answer s fields).0 ≡ done ↔ Pass (read_into_checks s fields)
unfolding read_into_answer
read_into_done s fields =
    exactly_done (read_into_checks s fields) (refusing_append (read_checks s) _ (read_refusing s) (refuses _ _ none))

pub site_into_done : (s : List ℕ) (place : ℕ) (numbers : List ℕ) → (site_into_answer s place numbers).0 ≡ done ↔ Pass (site_into_checks s place numbers)
unfolding site_into_answer
site_into_done s place numbers =
    exactly_done (site_into_checks s place numbers) (refusing_append (place_checks s place) _ (place_refusing s place) (refuses _ _ none))

pub label_done : (s : List ℕ) (place : ℕ) → (label_answer s place).0 ≡ done ↔ Pass (place_checks s place)
unfolding label_answer
label_done s place = exactly_done (place_checks s place) (place_refusing s place)

pub check_done : (s key : List ℕ) → check_answer s key ≡ done ↔ Pass (tag_checks s key)
unfolding check_answer
check_done s key = exactly_done (tag_checks s key) (tag_refusing s key)

pub fingerprint_done : (s key out : List ℕ) → (fingerprint_answer s key out).0 ≡ done ↔ Pass (fingerprint_checks s key out)
unfolding fingerprint_answer
fingerprint_done s key out =
    exactly_done (fingerprint_checks s key out)
    (refusing_append (read_checks s) _ (read_refusing s) (refusing_append (key_checks key) _ (key_refusing key) (refuses _ _ none)))

pub keys_done : (n : ℕ) (prk : List ℕ) (tenant machine : ℕ) (out : List ℕ)
    → (keys_answer n prk tenant machine out).0 ≡ done ↔ Pass (keys_checks n prk out)
unfolding keys_answer
keys_done n prk tenant machine out = exactly_done (keys_checks n prk out) (refuses _ _ (refuses _ _ (refuses _ _ (refuses _ _ none))))
