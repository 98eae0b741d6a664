-- `report::filling::fill`: the head, the sites after it, the tag after both. Assumes nothing.
use Rattle.report.proofs.Whole.{taggable, filled}
use Rattle.report.proofs.filling.fill.Goals as goal

pub put_tag-requires : goal.put_tag-requires
put_tag-requires c =
    let F = c.requires in
    taggable F c.put_head.new.out c.put_sites.new.out c.put_head.ensures c.put_sites.ensures

pub returns : goal.returns
returns c =
    let F = c.requires in
    filled F c.put_head.new.out c.put_sites.new.out c.put_head.ensures c.put_sites.ensures
    c.put_tag.new.out c.put_tag.ensures
