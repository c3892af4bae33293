use Rattle.l4_segments.proofs.Kept.{none_by, lost_by, some_by, put_kept, put_lost}
use Rattle.l4_segments.proofs.writing.SegmentWriterSegmentSink.keep.Goals as goal

pub returns-clause-kept : goal.returns-clause-kept
returns-clause-kept g c = λ kept.
    put_kept g.W.Write.contents c.args.self.now c.put-self.new.self c.args.segment c.put-self.result (some_by _ _ c.is_some.ensures c.if-is_some.false) (none_by _ _ c.is_none.ensures kept) c.put-self.ensures

pub returns-clause-not : goal.returns-clause-not
returns-clause-not g c = λ lost.
    put_lost g.W.Write.contents c.args.self.now c.put-self.new.self c.args.segment c.put-self.result (lost_by _ _ c.is_none.ensures lost) c.put-self.ensures
