-- `hkdf::expanding::stretch`: three pieces taken, and the tag over zeros. Assumes nothing.
use mathlib.Core.Path.{sym}
use lib.ListN.{replicate}
use lib.Seq.{length-take-le}
use Rattle.hmac.specs.Keyed.Laws.{length_fits}
use Rattle.hkdf.proofs.Stretches.{last_fed, info_fed, counter_fed, tag_ok, tag_written}
use Rattle.hkdf.proofs.expanding.stretch.Goals as goal

pub unwrap-requires : goal.unwrap-requires
unwrap-requires c = (last_fed c.requires c.update.result c.update.ensures).0

pub unwrap-requires-2 : goal.unwrap-requires-2
unwrap-requires-2 c =
    let last = last_fed c.requires c.update.result c.update.ensures in
    (info_fed c.requires last.1 c.update-2.result c.update-2.ensures).0

pub unwrap-requires-3 : goal.unwrap-requires-3
unwrap-requires-3 c =
    let last = last_fed c.requires c.update.result c.update.ensures in
    let info = info_fed c.requires last.1 c.update-2.result c.update-2.ensures in
    (counter_fed c.requires c.args.counter info.1 c.update-3.result c.update-3.ensures).0

pub slice_bounds-block-end : goal.slice_bounds-block-end
slice_bounds-block-end c = length_fits c.args.keyed c.requires.held.sound

pub slice_bounds-tag-end : goal.slice_bounds-tag-end
slice_bounds-tag-end c = sym (length-take-le c.args.keyed.tag_length (replicate 64 0) (length_fits c.args.keyed c.requires.held.sound))

pub unwrap-requires-4 : goal.unwrap-requires-4
unwrap-requires-4 c =
    let last = last_fed c.requires c.update.result c.update.ensures in
    let info = info_fed c.requires last.1 c.update-2.result c.update-2.ensures in
    let counter = counter_fed c.requires c.args.counter info.1 c.update-3.result c.update-3.ensures in
    rw (tag_ok c.requires c.args.counter counter.1 c.tag.result c.tag.ensures)

pub returns : goal.returns
returns c =
    let last = last_fed c.requires c.update.result c.update.ensures in
    let info = info_fed c.requires last.1 c.update-2.result c.update-2.ensures in
    let counter = counter_fed c.requires c.args.counter info.1 c.update-3.result c.update-3.ensures in
    tag_written c.requires c.args.counter counter.1 c.tag.result c.tag.ensures
