use Rattle.std.proofs.Common.{inl, inr}
use Rattle.l4_segments.proofs.Departing.{end_is}
use Rattle.l4_segments.proofs.Several.{heading_within, entry_other}
use Rattle.l4_segments.proofs.reading.read_front.Goals as goal

pub returns-in-Err-clause-err : goal.returns-in-Err-clause-err
returns-in-Err-clause-err c = inr (inl c.in-Err.ensures.err, (heading_within c.args.bytes.now c.in-Err.fault c.in-Err.ensures.err).1)

pub returns-in-Err-clause-within : goal.returns-in-Err-clause-within
returns-in-Err-clause-within c = (heading_within c.args.bytes.now c.in-Err.fault c.in-Err.ensures.err).0

pub returns-in-Err-read_entries-clause-err : goal.returns-in-Err-read_entries-clause-err
returns-in-Err-read_entries-clause-err c =
    elim c.in-Err-read_entries.ensures.err [ inl lacks ↦ inl lacks | inr fails ↦ inr (inr (inl fails), entry_other c.args.bytes.now c.in-Err-read_entries.fault fails) ]

pub returns-in-Err-check_sum-clause-err : goal.returns-in-Err-check_sum-clause-err
returns-in-Err-check_sum-clause-err c =
    let read = c.in-Ok-read_entries.ensures.ok in inr (
      inr (inr (end_is c.args.bytes.now c.in-Ok.heading c.read_entries.new.entries.items c.in-Ok-read_entries.at c.in-Err-check_sum.fault read.0 read.1 c.in-Err-check_sum.ensures.err)),
      c.in-Err-check_sum.ensures.place.1,
    )
