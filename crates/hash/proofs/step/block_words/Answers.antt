-- `hash::step::block_words` reads one word after the other. Assumes nothing.
use Rattle.hash.proofs.Schedule.{words_sixteen}
use Rattle.hash.proofs.step.block_words.Goals as goal

pub returns : goal.returns
returns g c =
    words_sixteen g.W.Word.core c.args.b.now c.word_at.ensures c.word_at-2.ensures c.word_at-3.ensures
    c.word_at-4.ensures c.word_at-5.ensures c.word_at-6.ensures c.word_at-7.ensures c.word_at-8.ensures
    c.word_at-9.ensures c.word_at-10.ensures c.word_at-11.ensures c.word_at-12.ensures c.word_at-13.ensures
    c.word_at-14.ensures c.word_at-15.ensures c.word_at-16.ensures
