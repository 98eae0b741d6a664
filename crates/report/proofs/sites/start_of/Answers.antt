-- `report::sites::start_of` meets its contract. The loop's invariant: the site after so many starts here. Assumes nothing.
use Rattle.std.proofs.Common.{◌≡◌, refl, ap, ◌∙◌, List, ℕ, ◌+◌, ◌≤◌, length, get_or, arith}
use Rattle.report.specs.Calls.{before}
use Rattle.report.specs.Calls.Laws.{body_here, body_room, body_next}
use Rattle.report.specs.Inside.{body_sites, Standing}
use Rattle.report.proofs.sites.start_of.Goals as goal

-- the site at a place that the walk passes fits into the body
room : (body : List ℕ) (place at i : ℕ) → Standing body place → i ≤ place → at ≡ 45 + before (body_sites body).1 i → at + get_or body at 0 + 13 ≤ length body
room body place at i s l e = body_room body s.reads i (omega (arith, s.there)) e

pub loop-init : goal.loop-init
unfolding before
loop-init c = refl

pub bounds-body-at : goal.bounds-body-at
bounds-body-at c =
    let l = c.loop in
    omega (arith, room c.args.body.now c.args.place l.at l.counter c.requires (omega arith) l.invariant)

pub overflow_add-at-in-loop : goal.overflow_add-at-in-loop
overflow_add-at-in-loop c =
    let l = c.loop in
    omega (arith, room c.args.body.now c.args.place l.at l.counter c.requires (omega arith) l.invariant)

pub loop-preserved : goal.loop-preserved
loop-preserved c = body_next c.args.body.now c.requires.reads c.loop.counter (omega arith) c.loop.invariant

pub returns : goal.returns
returns c =
    let body = c.args.body.now in
    let l = c.loop in
    let e : l.counter ≡ c.args.place = omega arith in
    let at : l.at ≡ 45 + before (body_sites body).1 c.args.place = l.invariant ∙ ap (λ (i : ℕ). 45 + before (body_sites body).1 i) e in
    record {
      is = at;
      here = body_here body c.requires.reads c.args.place c.requires.there at;
      room = body_room body c.requires.reads c.args.place c.requires.there at;
    }
