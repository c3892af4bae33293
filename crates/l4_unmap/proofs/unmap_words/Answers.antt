use Rattle.std.proofs.Common.{arith, take}
use Rattle.l4_unmap.proofs.OneByOne.{first_taken, more_taken}
use Rattle.l4_unmap.proofs.UnmapKeeps.{unmaps_keep}
use Rattle.l4_unmap.proofs.unmap_words.Goals as goal

pub loop-i-init : goal.loop-i-init
loop-i-init c = λ fpages reads. first_taken c.args.size c.args.space c.means_own-own.result fpages c.args.forest.now c.requires.forest

pub unmap_word-requires : goal.unmap_word-requires
unmap_word-requires c =
    unmaps_keep c.args.size c.args.space c.means_own-own.result (take c.loop-i.i c.requires.read.0) c.args.forest.now c.loop-i.forest c.requires.forest
    (c.loop-i.invariant c.requires.read.0 c.requires.read.1)

pub loop-i-preserved : goal.loop-i-preserved
loop-i-preserved c = λ fpages reads.
    more_taken c.args.size c.args.space c.means_own-own.result c.args.control c.args.words.now fpages c.loop-i.i c.args.forest.now c.loop-i.forest c.unmap_word.new.forest
    c.requires.forest reads (omega (arith, reads.count, c.loop-i-test.true, c.register_count-i-end.ensures)) (c.loop-i.invariant fpages reads) c.unmap_word.ensures
