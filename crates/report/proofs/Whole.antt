-- The whole report: its parts together, and what the plan says of it. Assumes nothing.
use mathlib.Core.Path.{◌≡◌, refl, sym, ap, ◌∙◌}
use mathlib.Core.Bool.{false}
use mathlib.Core.List.{List, [], ◌∷◌, ◌++◌, append_assoc}
use Prim.Native.Nat.{ℕ, ◌+◌, ◌-◌, ◌*◌, ◌≤◌, ◌<◌}
use native.Mathlib.Omega.{arith}
use lib.Dec.{leb}
use lib.ListN.{length, take, drop, length-append}
use lib.Seq.{take_at, drop_at, drop-drop}
use borrow.Author.Tests.{lt-leb}
use borrow.Rule.Slice.PartMut.{put_mid}
use Rattle.std.specs.Prelude.{Ok, Err}
use Rattle.octets.specs.Copy.{over}
use Rattle.octets.specs.Copy.Laws.{over_length, over_short}
use Rattle.octets.specs.Parts.{over_more}
use Rattle.octets.specs.Number.Laws.{bytes_length}
use Rattle.algorithm.specs.Hashes.{size_of}
use Rattle.algorithm.specs.Refusals.{done, buffer_too_short}
use Rattle.algorithm.specs.Checks.{Check, check, first_failing}
use Rattle.algorithm.specs.Checks.Laws.{append_refuses, append_passes, done_passes}
use Rattle.algorithm.specs.Answers.{number_of}
use Rattle.algorithm.specs.Answers.Laws.{refusal_not_done}
use Rattle.algorithm.specs.declared.refusals.Refusal.{Refusal}
use Rattle.algorithm.specs.declared.refusals.Refusal.TheVariants.{BufferTooShort}
use Rattle.hmac.specs.Hmac.{tag_of}
use Rattle.report.specs.Layout.{Site, Fields, sites_bytes, bytes_of, tag_size_of}
use Rattle.report.specs.Reading.{hash_named}
use Rattle.report.specs.Reading.Laws.{tag_half}
use Rattle.report.specs.Writing.{Columns, sites_of, fields_from, tag_for, report_of}
use Rattle.report.specs.Writing.Reads.{body_length}
use Rattle.report.specs.Writing.Inside.{ColumnsFit, Planned, Accepted, plan_checks, body_size_of, Plan, plan_by, plan_of, head_bytes, tagged, Taggable, Filling}
use Rattle.report.specs.Calls.{key_checks, write_checks, written_by, WriteOutcome}
use Rattle.report.specs.Calls.Laws.{key_fits, key_refusing}
use Rattle.report.specs.Calls.RoundTrip.{tag_size_lem, sites_length}
use Rattle.report.specs.Calls.Write.{plan_refusing, planned, write_accepted, write_refused}
use Rattle.report.specs.declared.plans.Plan as plans
use Rattle.report.specs.declared.writing.Heading.{Heading}
use Rattle.report.proofs.Parts.{labels_most, sites_size}

-- the head has 45 bytes, and with the sites it is what the fields spell
head_length : (h : Heading) (count sites : ℕ) → length (head_bytes h count sites) ≡ 45
unfolding head_bytes
head_length h count sites = simp (length-append, bytes_length)

head_spelled : (h : Heading) (xs : List Site)
    → head_bytes h (fields_from h xs).count (length xs) ++ sites_bytes xs ≡ bytes_of (fields_from h xs)
unfolding head_bytes bytes_of
head_spelled h xs = simp append_assoc

-- the sizes of the parts
module _ (h : Heading) (c : Columns) (key : List ℕ) (r : ColumnsFit c) where
  abbrev made : Fields
  made = fields_from h (sites_of c)

  sites_are : length (sites_bytes (sites_of c)) ≡ length c.labels + 13 * length c.lengths
  sites_are = sites_size c.labels c.lengths c.live c.blocks r.live_many r.blocks_many (omega (arith, r.labels_add_up)) ∙ omega (arith, r.labels_add_up)

  body_is : length (bytes_of made) ≡ body_size_of c
  body_is = omega (arith, body_length made, sites_are)

  report_size : length (report_of made key) ≡ body_size_of c + tag_size_of h.hash
  unfolding report_of
  report_size = omega (arith, length-append (bytes_of made) (tag_for made key), body_is, tag_size_lem made key)

-- a report that may be written
module _ {h : Heading} {c : Columns} {key : List ℕ} {p : plans.Plan} {out : List ℕ} (F : Filling h c key p out) where
  abbrev body : ℕ
  body = p.body_size

  abbrev tag : ℕ
  tag = p.tag_size

  abbrev fit : ColumnsFit c
  fit = F.planned.columns_fit

  abbrev made_fields : Fields
  made_fields = fields_from h (sites_of c)

  -- the parts, one after the other: the head, then the sites
  module _ (o y : List ℕ) (eo : o ≡ over (head_bytes h (body + tag - 4) (length c.lengths)) out)
      (ey : y ≡ over (sites_bytes (sites_of c)) (take (length o - 45) (drop 45 o))) where
    abbrev before_tag_lem : List ℕ
    before_tag_lem = put_mid 45 (length o - 45) o y

    body_put : before_tag_lem ≡ over (bytes_of made_fields) out
    body_put =
        let xs : List Site = sites_of c in
        let sites : length (sites_bytes xs) ≡ length c.labels + 13 * length c.lengths = sites_are h c key fit in
        let count : body + tag - 4 ≡ made_fields.count = omega (arith, F.before, F.after, sites) in
        let number : length c.lengths ≡ length xs = sym (sites_length c.labels c.lengths c.live c.blocks fit.live_many fit.blocks_many) in
        let head : List ℕ = head_bytes h (body + tag - 4) (length c.lengths) in
        let spelled : head ++ sites_bytes xs ≡ bytes_of made_fields =
        (λ i. head_bytes h (count i) (number i) ++ sites_bytes xs) ∙ head_spelled h xs
        in
        let long : length head ≡ 45 = head_length h (body + tag - 4) (length c.lengths) in
        over_more head (sites_bytes xs) out o y 45 (length o - 45) long (omega (arith, sites, F.before, F.room)) eo refl ey
        ∙ ap (λ (l : List ℕ). over l out) spelled

    -- the tag has room after them
    pub taggable : Taggable key p before_tag_lem
    taggable = record {
      key_fits = F.key_fits;
      tag = omega (arith, F.after, tag_half h.hash, ap size_of F.hash);
      least = omega (arith, F.before);
      short = omega (arith, F.before, fit.few, labels_most fit);
      room = omega (arith, F.room, ap length body_put, over_length (bytes_of made_fields) out);
    }

    -- and with it they are the report
    pub filled : (z : List ℕ) → z ≡ tagged key p before_tag_lem → z ≡ over (report_of made_fields key) out
    unfolding report_of
    filled z ez =
        let text : List ℕ = bytes_of made_fields in
        let long : length text ≡ body = body_is h c key fit ∙ sym F.before in
        let fits : length text ≤ length out = omega (arith, F.room) in
        let is : before_tag_lem ≡ text ++ drop (length text) out = body_put ∙ over_short text out fits in
        let front : take body before_tag_lem ≡ text = ap (take body) is ∙ take_at text (drop (length text) out) body long in
        let whole : length (text ++ tag_for made_fields key) ≡ body + tag =
        omega (arith, length-append text (tag_for made_fields key), tag_size_lem made_fields key, F.after)
        in
        let back : drop (body + tag) before_tag_lem ≡ drop (length (text ++ tag_for made_fields key)) out =
        sym (drop-drop tag body before_tag_lem)
        ∙ ap (drop tag) (ap (drop body) is ∙ drop_at text (drop (length text) out) body long)
        ∙ drop-drop tag (length text) out
        ∙ ap (λ (k : ℕ). drop k out) (ap (λ (k : ℕ). k + tag) long ∙ sym whole)
        in
        ez
        ∙ (λ i. front i ++ (tag_of (F.hash i) key (F.after i) (front i) ++ back i))
        ∙ sym (append_assoc text (tag_for made_fields key) (drop (length (text ++ tag_for made_fields key)) out))
        ∙ sym (over_short (text ++ tag_for made_fields key) out (omega (arith, F.room)))

-- what a write answers, by its plan and its last checks
module _ (h : Heading) (c : Columns) (key out : List ℕ) where
  abbrev report : List ℕ
  report = report_of (fields_from h (sites_of c)) key

  abbrev buffer : List Check
  buffer = check (leb (length report) (length out)) buffer_too_short ∷ []

  refused : (e : Refusal) → first_failing (write_checks h c key out) ≡ number_of e → WriteOutcome h c key out (written_by (Err e)) out
  refused e n = sym (write_refused h c key out (number_of e) n (refusal_not_done e))

  pub plan_refused : (e : Refusal) → plan_by (Err e) ≡ plan_of h.hash c → WriteOutcome h c key out (written_by (Err e)) out
  plan_refused e is =
      let n : number_of e ≡ first_failing (plan_checks h.hash c) = ap (λ (x : Plan). x.number) is in
      refused e (append_refuses (plan_checks h.hash c) (key_checks key ++ buffer) (λ d. refusal_not_done e (n ∙ d)) ∙ sym n)

  module _ {p : plans.Plan} (is : plan_by (Ok p) ≡ plan_of h.hash c) where
    passes : first_failing (plan_checks h.hash c) ≡ done
    passes = sym (ap (λ (x : Plan). x.number) is)

    plan : Planned h.hash c
    plan = planned h.hash c passes

    hash : p.hash ≡ hash_named h.hash
    hash = ap (λ (x : Plan). x.hash) is ∙ rw passes

    before : p.body_size ≡ body_size_of c
    before = ap (λ (x : Plan). x.body_size) is ∙ rw passes

    after : p.tag_size ≡ tag_size_of h.hash
    after = ap (λ (x : Plan). x.tag_size) is ∙ rw passes

    size : length report ≡ p.body_size + p.tag_size
    size = report_size h c key plan.columns_fit ∙ sym (λ i. before i + after i)

    last : first_failing (write_checks h c key out) ≡ first_failing (key_checks key ++ buffer)
    last = append_passes (plan_checks h.hash c) (key_checks key ++ buffer) passes (plan_refusing h.hash c)

    pub key_refused : (e : Refusal) → number_of e ≡ first_failing (key_checks key) → WriteOutcome h c key out (written_by (Err e)) out
    key_refused e n = refused e (last ∙ append_refuses (key_checks key) buffer (λ d. refusal_not_done e (n ∙ d)) ∙ sym n)

    module _ (k : done ≡ first_failing (key_checks key)) where
      pub too_short : length out < p.body_size + p.tag_size → WriteOutcome h c key out (written_by (Err BufferTooShort)) out
      too_short l =
          let fails : leb (length report) (length out) ≡ false = lt-leb (length report) (length out) (omega (arith, size)) in
          refused BufferTooShort (last ∙ append_passes (key_checks key) buffer (sym k) (key_refusing key) ∙ rw fails)

      pub filling : p.body_size + p.tag_size ≤ length out → Filling h c key p out
      filling fits = record { planned = plan; key_fits = key_fits key (sym k); hash = hash; before = before; after = after; room = fits }

      pub wrote : p.body_size + p.tag_size ≤ length out → {z : List ℕ} → z ≡ over report out → WriteOutcome h c key out (written_by (Ok (p.body_size + p.tag_size))) z
      wrote fits {z} ez =
          let key_passes = done_passes (key_checks key) (key_refusing key) (sym k) in
          let a : Accepted h c key out = record { planned = plan; key_passes = key_passes; room = omega (arith, size) } in
          let is : z ≡ report ++ drop (length report) out = ez ∙ over_short report out a.room in
          (λ i. (record { number = done; length = sym size i }, is i)) ∙ sym (write_accepted h c key out a)
