-- `report::filling::put_tag`: the tag in an array of its own, then after the bytes that it is of. Assumes nothing.
use Rattle.std.proofs.Common.{◌≡◌, ℕ, List, length, take, drop, replicate, arith, length-take-le}
use Rattle.algorithm.specs.Hashes.Laws.{digest_most}
use Rattle.report.specs.declared.plans.Plan.{Plan}
use Rattle.report.specs.Writing.Inside.{Taggable}
use Rattle.algorithm.specs.Answers.Laws.{done_ok}
use Rattle.report.proofs.Parts.{tag_done, tag_made, tag_put}
use Rattle.report.proofs.filling.put_tag.Goals as goal

abbrev zeros : List ℕ
zeros = replicate 32 0

-- the array has room for the tag
room : {key : List ℕ} {p : Plan} {out : List ℕ} → Taggable key p out → length (take p.tag_size zeros) ≡ p.tag_size
room {key} {p} t = length-take-le p.tag_size zeros (omega (arith, t.tag, digest_most p.hash))

pub unwrap-requires : goal.unwrap-requires
unwrap-requires c =
    let t = c.requires in
    done_ok c.tag_message.result (tag_done t (take c.args.plan.tag_size zeros) (room t) c.into.ensures c.tag_message.ensures)

pub returns : goal.returns
returns c =
    let t = c.requires in
    let size = c.args.plan.tag_size in
    tag_put t c.tag_message.new.out (drop size zeros) c.copy_prefix.new.out
    (tag_made t (take size zeros) (room t) c.into.ensures c.tag_message.ensures) c.copy_prefix.ensures
