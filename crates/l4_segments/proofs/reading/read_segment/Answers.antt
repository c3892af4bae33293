use Rattle.std.proofs.Common.{inl, inr, refl}
use Rattle.l4_segments.specs.declared.faults.FaultKind.TheVariants.{Extra}
use Rattle.l4_segments.specs.declared.faults.FileFault.{FileFault}
use Rattle.l4_segments.proofs.Departing.{no_file}
use Rattle.l4_segments.proofs.Several.{only_file, extra_follows}
use Rattle.l4_segments.proofs.reading.read_segment.Goals as goal

pub returns-in-Err-clause-departs : goal.returns-in-Err-clause-departs
returns-in-Err-clause-departs c = elim c.in-Err.ensures.err [ inl lacks ↦ inl lacks | inr departs ↦ inr departs.0 ]

pub returns-in-Err-clause-none : goal.returns-in-Err-clause-none
returns-in-Err-clause-none c = elim c.in-Err.ensures.err [ inl lacks ↦ inl lacks | inr departs ↦ inr (no_file c.args.bytes.now c.in-Err.fault departs.0) ]

pub returns-then-end-bytes-clause-none : goal.returns-then-end-bytes-clause-none
returns-then-end-bytes-clause-none c =
    let fault : FileFault = record { position = c.in-Ok.read.1; kind = Extra } in
    inr (no_file c.args.bytes.now fault (inr (inr (extra_follows c.args.bytes.now c.in-Ok.read.0.heading c.in-Ok.read.0.entries c.in-Ok.read.1 fault c.in-Ok.ensures.ok c.if-end-bytes.true refl refl))))

pub returns-clause-ok : goal.returns-clause-ok
returns-clause-ok c = only_file c.args.bytes.now c.in-Ok.read.0 c.in-Ok.read.1 c.in-Ok.ensures.ok c.if-end-bytes.false
