-- `octets::compare::same` meets its contract. The loop's invariant: the gathered bits tell whether the bytes passed are equal.
-- Assumes nothing.
use Rattle.std.proofs.Common.{length, rules}
use Rattle.std.proofs.lemmas.List.{length_push}
use Rattle.std.proofs.lemmas.Slice.Zip.{zip_turn}
use Rattle.octets.proofs.Tells.{tells_more}
use Rattle.octets.proofs.compare.same.Goals as goal

pub loop-x-preserved : goal.loop-x-preserved
loop-x-preserved c =
    let a = c.args.a.now in
    let b = c.args.b.now in
    let begun = c.into_iter-x-iterator.result in
    let turn = zip_turn a b _ begun _ c.next.new.self _ (search rules) (search rules) c.loop-x.yielded_by _ c.in-Some.is c.next.ensures.steps in
    rw (length_push, turn.2 0, turn.3 0) (tells_more a b (length c.loop-x.yielded) c.loop-x.bits turn.0 turn.1 c.loop-x.invariant)
