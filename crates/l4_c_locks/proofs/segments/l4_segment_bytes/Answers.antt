use Rattle.std.proofs.Common.{Option, sym, subst}
use Rattle.l4_seated_lock.specs.declared.handed.HandedSegment.{HandedSegment}
use Rattle.l4_c_queries.specs.Files.{WritesFile, TellsFile}
use Rattle.l4_c_locks.proofs.segments.l4_segment_bytes.Goals as goal

pub returns-clause-told : goal.returns-clause-told
returns-clause-told c =
    subst (λ (old : Option HandedSegment). TellsFile old c.args.out.now c.write_file-told.result c.write_file-told.new.out) (sym c.in-Some.ensures.taken)
    (subst (λ (s : HandedSegment). WritesFile s c.args.out.now c.write_file-told.result c.write_file-told.new.out) c.deref.ensures c.write_file-told.ensures)
