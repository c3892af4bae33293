use Rattle.std.proofs.Common.{lit<}
use Rattle.l4_ipc.proofs.Unmaps.{word_more, word_room}
use Rattle.l4_ipc.proofs.constructors.fpage_words.Goals as goal

pub push-requires : goal.push-requires
push-requires c = (lit< tt, word_room c.args.fpages.now c.loop-fpage.fpage-index c.loop-fpage.words.items c.loop-fpage-test.true c.requires c.loop-fpage.invariant)

pub loop-fpage-preserved : goal.loop-fpage-preserved
loop-fpage-preserved c = word_more c.args.fpages.now c.loop-fpage.fpage-index c.fpage-item.result c.loop-fpage.words.items c.push.new.self.items c.word.result
    c.loop-fpage-test.true c.fpage-item.is c.push.ensures.items c.loop-fpage.invariant c.word.ensures.reads
