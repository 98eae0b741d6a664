-- The parts of a report, written one after the other over the beginning of an output. Assumes nothing.
use mathlib.Core.Path.{◌≡◌, refl, sym, ap, ◌∙◌}
use mathlib.Core.List.{List, [], ◌∷◌, ◌++◌, append_assoc, append-nil}
use mathlib.Core.Bool.{true}
use Prim.Native.Nat.{ℕ, zero, suc, ◌+◌, ◌-◌, ◌*◌, ◌≤◌, ◌<◌}
use native.Mathlib.Numerals.{add-one}
use native.Mathlib.Omega.{arith}
use lib.Dec.{leb}
use lib.ListN.{length, take, drop, get_or, length-append, length-drop}
use lib.Seq.{paste, take_at, take-length, drop-drop, length-take-le, take_all}
use borrow.Author.Tests.{leb-true}
use borrow.Rule.Slice.PartMut.{put_mid}
use Rattle.octets.specs.Copy.{over}
use Rattle.octets.specs.Copy.Laws.{over_length, over_short}
use Rattle.octets.specs.Every.{every}
use Rattle.octets.specs.Every.Laws.{and_parts}
use Rattle.octets.specs.Parts.{part_put, over_paste, over_more}
use Rattle.octets.specs.Number.{bytes}
use Rattle.octets.specs.Number.Laws.{bytes_length}
use Rattle.octets.specs.Sums.{sum_of}
use Rattle.octets.specs.Sums.Laws.{sum_more, sum_part}
use Rattle.algorithm.specs.declared.hashes.Hash.{Hash}
use Rattle.algorithm.specs.Hashes.{hash_number, hash_of, block_of, allowed}
use Rattle.algorithm.specs.Hashes.Laws.{half_digest, block_most, length_allowed, number_names, number_back}
use Rattle.algorithm.specs.Refusals.{done, most_bytes}
use Rattle.algorithm.specs.Checks.{written}
use Rattle.hmac.specs.Hmac.{tag_of}
use Rattle.hmac.specs.Hmac.Laws.{tag_length_lem}
use Rattle.hmac.specs.Calls.{tag_message_answer}
use Rattle.hmac.specs.Calls.Laws.{tag_message_accepted}
use Rattle.report.specs.Layout.{Site, site_bytes, sites_bytes}
use Rattle.report.specs.Writing.{Columns, site_from, sites_from, sites_of, label_fits}
use Rattle.report.specs.Writing.Reads.{site_length}
use Rattle.report.specs.Writing.Inside.{ColumnsFit, Next, site_next, NextPut, Room, tagged, Taggable}
use Rattle.report.specs.declared.plans.Plan.{Plan}

-- lengths in their range add up to little
sum_most : (l : List ℕ) → every label_fits l ≡ true → sum_of l ≤ length l * 48
unfolding sum_of every
sum_most [] e = omega arith
sum_most (n ∷ l) e =
    let p = and_parts (label_fits n) (every label_fits l) e in
    omega (arith, leb-true n 48 (and_parts (leb 1 n) (leb n 48) p.0).1, sum_most l p.1)

pub labels_most : {c : Columns} → ColumnsFit c → length c.labels ≤ 3072
labels_most {c} r = omega (arith, r.labels_add_up, r.few, sum_most c.lengths r.lengths_fit)

-- what was written over the beginning of an output, in parts that end at a place
pub record Parts (o a : List ℕ) (at : ℕ) (p : List ℕ) : Type 0 where
  pub ends : length a ≡ at
  pub is : p ≡ over a o

pub no_parts : (o : List ℕ) → Parts o [] 0 o
no_parts o = record { ends = refl; is = sym (over_short [] o (omega arith)) }

-- one part more: the bytes of a number, or a list
module _ {o a : List ℕ} {at : ℕ} {p : List ℕ} (r : Parts o a at p) where
  pub number_part : (size n : ℕ) {q : List ℕ} → at + size ≤ length o → q ≡ paste p at (bytes size n) size
      → Parts o (a ++ bytes size n) (at + size) q
  number_part size n room e =
      let long : length (bytes size n) ≡ size = bytes_length size n in
      record {
        ends = omega (arith, length-append a (bytes size n), r.ends);
        is =
            e
            ∙ ap (paste p at (bytes size n)) (sym long)
            ∙ over_paste a (bytes size n) o p at r.ends (omega arith) r.is;
      }

  pub list_part : (b y : List ℕ) → at + length b ≤ length o → y ≡ over b (take (length p - at) (drop at p))
      → Parts o (a ++ b) (at + length b) (put_mid at (length p - at) p y)
  list_part b y room e = record {
    ends = omega (arith, length-append a b, r.ends);
    is = over_more a b o p y at (length p - at) r.ends room r.is refl e;
  }

-- one site more
sites_more : (labels lengths live blocks : List ℕ) (i : ℕ) → i < length lengths → i < length live → i < length blocks
    → sites_from labels (take (suc i) lengths) (take (suc i) live) (take (suc i) blocks)
    ≡ sites_from labels (take i lengths) (take i live) (take i blocks)
    ++ (site_from (take (get_or lengths i 0) (drop (sum_of (take i lengths)) labels)) (get_or live i 0) (get_or blocks i 0) ∷ [])
unfolding sites_from sum_of
sites_more labels [] live blocks i h k l = absurd (omega arith)
sites_more labels (n ∷ lengths) [] blocks i h k l = absurd (omega arith)
sites_more labels (n ∷ lengths) (a ∷ live) [] i h k l = absurd (omega arith)
sites_more labels (n ∷ lengths) (a ∷ live) (b ∷ blocks) zero h k l = refl
sites_more labels (n ∷ lengths) (a ∷ live) (b ∷ blocks) (suc i) h k l =
    let x : Site = site_from (take n labels) a b in
    let at : drop (sum_of (take i lengths)) (drop n labels) ≡ drop (n + sum_of (take i lengths)) labels = drop-drop (sum_of (take i lengths)) n labels in
    ap (λ (r : List Site). x ∷ r) (sites_more (drop n labels) lengths live blocks i (omega arith) (omega arith) (omega arith))
    ∙ (λ j.
    x
    ∷ (sites_from (drop n labels) (take i lengths) (take i live) (take i blocks)
    ++ (site_from (take (get_or lengths i 0) (at j)) (get_or live i 0) (get_or blocks i 0) ∷ [])))

bytes_more : (xs : List Site) (x : Site) → sites_bytes (xs ++ (x ∷ [])) ≡ sites_bytes xs ++ site_bytes x
unfolding sites_bytes
bytes_more [] x = append-nil (site_bytes x)
bytes_more (y ∷ xs) x =
    ap (λ (r : List ℕ). site_bytes y ++ r) (bytes_more xs x) ∙ sym (append_assoc (site_bytes y) (sites_bytes xs) (site_bytes x))

-- the bytes of sites whose labels are there
pub sites_size : (labels lengths live blocks : List ℕ) → length live ≡ length lengths → length blocks ≡ length lengths → sum_of lengths ≤ length labels
    → length (sites_bytes (sites_from labels lengths live blocks)) ≡ sum_of lengths + 13 * length lengths
unfolding sites_from sites_bytes sum_of
sites_size labels [] live blocks a b h = refl
sites_size labels (n ∷ lengths) [] blocks a b h = absurd (omega arith)
sites_size labels (n ∷ lengths) (x ∷ live) [] a b h = absurd (omega arith)
sites_size labels (n ∷ lengths) (x ∷ live) (k ∷ blocks) a b h =
    let rest = sites_size (drop n labels) lengths live blocks (omega arith) (omega arith) (omega (arith, length-drop n labels)) in
    let y : Site = site_from (take n labels) x k in
    let label : length (take n labels) ≡ n = length-take-le n labels (omega arith) in
    omega (arith, rest, label, site_length y, length-append (site_bytes y) (sites_bytes (sites_from (drop n labels) lengths live blocks)))

-- how far the sites are written: those up to a place, whose labels end at `from`
pub record Far (c : Columns) (out₀ : List ℕ) (place from : ℕ) (out : List ℕ) : Type 0 where
  pub inside : place ≤ length c.lengths
  pub from_is : from ≡ sum_of (take place c.lengths)
  pub size : length out ≡ length out₀
  pub is : out ≡ over (sites_bytes (sites_from c.labels (take place c.lengths) (take place c.live) (take place c.blocks))) out₀

pub far_start : (c : Columns) (out : List ℕ) → Far c out 0 0 out
unfolding sites_from sites_bytes sum_of
far_start c out = record { inside = omega arith; from_is = refl; size = refl; is = sym (over_short [] out (omega arith)) }

module _ {c : Columns} {out₀ : List ℕ} (r : Room c out₀) {i from : ℕ} {out : List ℕ} (f : Far c out₀ i from out) where
  -- the next site
  module _ (h : i < length c.lengths) where
    label_there : from + get_or c.lengths i 0 ≤ length c.labels
    label_there = omega (arith, f.from_is, sum_more c.lengths i h, sum_part c.lengths (i + 1), r.columns_fit.labels_add_up)

    -- fits
    pub next : Next c i from out
    next = record {
      below = h;
      few = r.columns_fit.few;
      live_many = r.columns_fit.live_many;
      blocks_many = r.columns_fit.blocks_many;
      there = label_there;
      room = omega (arith, label_there, f.size, r.room);
    }

    written_size : length (sites_bytes (sites_from c.labels (take i c.lengths) (take i c.live) (take i c.blocks))) ≡ from + 13 * i
    written_size =
        let n : length (take i c.lengths) ≡ i = length-take-le i c.lengths (omega arith) in
        let a : length (take i c.live) ≡ i = length-take-le i c.live (omega (arith, r.columns_fit.live_many)) in
        let b : length (take i c.blocks) ≡ i = length-take-le i c.blocks (omega (arith, r.columns_fit.blocks_many)) in
        sites_size c.labels (take i c.lengths) (take i c.live) (take i c.blocks) (omega arith) (omega arith)
        (omega (arith, sum_part c.lengths i, r.columns_fit.labels_add_up))
        ∙ omega (arith, f.from_is)

    -- and is written
    pub far_more : {end : ℕ} {after : List ℕ} → NextPut c i from out end after → Far c out₀ (i + 1) end after
    far_more {end} {after} put =
        let x : Site = site_next c i from in
        let xs : List Site = sites_from c.labels (take i c.lengths) (take i c.live) (take i c.blocks) in
        let size : length x.label ≡ get_or c.lengths i 0 =
        length-take-le (get_or c.lengths i 0) (drop from c.labels) (omega (arith, label_there, length-drop from c.labels))
        in
        let room : from + 13 * i + length (site_bytes x) ≤ length out₀ = omega (arith, site_length x, next.room, f.size) in
        let is : after ≡ over (sites_bytes xs ++ site_bytes x) out₀ =
        put.put ∙ over_paste (sites_bytes xs) (site_bytes x) out₀ out (from + 13 * i) written_size room f.is
        in
        let more : sites_bytes xs ++ site_bytes x ≡ sites_bytes (sites_from c.labels (take (suc i) c.lengths) (take (suc i) c.live) (take (suc i) c.blocks)) =
        sym (bytes_more xs x)
        ∙ (λ j. sites_bytes (xs ++ (site_next c i (f.from_is j) ∷ [])))
        ∙ ap sites_bytes (sym (sites_more c.labels c.lengths c.live c.blocks i h (omega (arith, r.columns_fit.live_many)) (omega (arith, r.columns_fit.blocks_many))))
        in
        let one : suc i ≡ i + 1 = sym (add-one i) in
        record {
          inside = omega arith;
          from_is = omega (arith, put.end_is, f.from_is, sum_more c.lengths i h);
          size = ap length is ∙ over_length (sites_bytes xs ++ site_bytes x) out₀;
          is =
              is
              ∙ ap (λ (l : List ℕ). over l out₀) more
              ∙ ap (λ (k : ℕ). over (sites_bytes (sites_from c.labels (take k c.lengths) (take k c.live) (take k c.blocks))) out₀) one;
        }

  -- all sites are written
  pub far_end : length c.lengths ≤ i → out ≡ over (sites_bytes (sites_of c)) out₀
  far_end h =
      let n : take i c.lengths ≡ c.lengths = take_all i c.lengths h in
      let a : take i c.live ≡ c.live = take_all i c.live (omega (arith, r.columns_fit.live_many)) in
      let b : take i c.blocks ≡ c.blocks = take_all i c.blocks (omega (arith, r.columns_fit.blocks_many)) in
      f.is ∙ (λ j. over (sites_bytes (sites_from c.labels (n j) (a j) (b j))) out₀)

-- the label of the next site, as it is lent, and the site written after those before it
module _ {c : Columns} {i from : ℕ} {out : List ℕ} (x : Next c i from out) where
  abbrev lent : List ℕ
  lent = take (from + get_or c.lengths i 0 - from) (drop from c.labels)

  lent_label : lent ≡ (site_next c i from).label
  lent_label =
      let e : from + get_or c.lengths i 0 - from ≡ get_or c.lengths i 0 = omega arith in
      ap (λ (k : ℕ). take k (drop from c.labels)) e

  pub lent_size : length lent ≡ get_or c.lengths i 0
  lent_size =
      ap length lent_label
      ∙ length-take-le (get_or c.lengths i 0) (drop from c.labels) (omega (arith, x.there, length-drop from c.labels))

  pub next_put : (n : ℕ) (y : List ℕ) → n ≡ length out - (from + 13 * i)
      → y ≡ over (site_bytes (site_from lent (get_or c.live i 0) (get_or c.blocks i 0))) (take n (drop (from + 13 * i) out))
      → put_mid (from + 13 * i) n out y
      ≡ paste out (from + 13 * i) (site_bytes (site_next c i from)) (length (site_bytes (site_next c i from)))
  next_put n y en ey =
      let same : site_from lent (get_or c.live i 0) (get_or c.blocks i 0) ≡ site_next c i from =
      ap (λ (l : List ℕ). site_from l (get_or c.live i 0) (get_or c.blocks i 0)) lent_label
      in
      part_put out (site_bytes (site_next c i from)) y (from + 13 * i) n en
      (omega (arith, x.room, site_length (site_next c i from), ap length lent_label, lent_size))
      (ey ∙ ap (λ (z : Site). over (site_bytes z) (take n (drop (from + 13 * i) out))) same)

-- the tag that HMAC writes, and its place after the first bytes
module _ {key : List ℕ} {p : Plan} {out : List ℕ} (t : Taggable key p out) where
  abbrev at : ℕ
  at = p.body_size

  abbrev size : ℕ
  size = p.tag_size

  abbrev tag_is : List ℕ
  tag_is = tag_of p.hash key size (take at out)

  -- of all bytes up to there, as they are lent
  module _ (z : List ℕ) (ez : length z ≡ size) {n r : ℕ} {a : List ℕ} (en : n ≡ hash_number p.hash)
      (e : ◌≡◌ {A = ℕ × List ℕ} (r, a) (tag_message_answer n key (take (at - 0) out) size z)) where
    answer : ◌≡◌ {A = ℕ × List ℕ} (r, a) (written done tag_is)
    answer =
        let m : ℕ = hash_number p.hash in
        let back : hash_of m ≡ p.hash = number_back p.hash in
        let lent : at - 0 ≡ at = omega arith in
        let body : length (take at out) ≡ at = length-take-le at out (omega (arith, t.room)) in
        let fits : length (take at out) ≤ most_bytes - block_of (hash_of m) = omega (arith, t.short, block_most (hash_of m)) in
        let asked : allowed (hash_of m) size ≡ true =
        ap (λ (h : Hash). allowed h size) back ∙ length_allowed p.hash size (omega (arith, t.tag, half_digest p.hash)) (omega (arith, t.tag))
        in
        e
        ∙ (λ i. tag_message_answer (en i) key (take (lent i) out) size z)
        ∙ tag_message_accepted m key (take at out) size z (number_names p.hash) t.key_fits fits asked ez
        ∙ ap (λ (h : Hash). written done (tag_of h key size (take at out))) back

    pub tag_done : r ≡ done
    tag_done = ap (λ (w : ℕ × List ℕ). w.0) answer

    pub tag_made : a ≡ tag_is
    tag_made = ap (λ (w : ℕ × List ℕ). w.1) answer

  made_size : {a : List ℕ} → a ≡ tag_is → length a ≡ size
  made_size e = ap length e ∙ tag_length_lem p.hash key size (take at out) (omega (arith, t.tag))

  pub tag_put : (a d y : List ℕ) → a ≡ tag_is → y ≡ over (take size (a ++ d)) (take (length out - at) (drop at out))
      → put_mid at (length out - at) out y ≡ tagged key p out
  tag_put a d y ea ey =
      let long : length tag_is ≡ size = made_size refl in
      let e : take size (a ++ d) ≡ tag_is = take_at a d size (made_size ea) ∙ ea in
      part_put out tag_is y at (length out - at) refl (omega (arith, t.room)) (ey ∙ ap (λ (l : List ℕ). over l (take (length out - at) (drop at out))) e)
      ∙ (λ i. (take at out ++ take-length tag_is i) ++ drop (at + long i) out)
      ∙ append_assoc (take at out) tag_is (drop (at + size) out)
