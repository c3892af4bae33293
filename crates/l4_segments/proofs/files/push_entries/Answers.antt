use Rattle.std.proofs.Common.{◌++◌, ℕ, List, sym, ap, ◌∙◌, subst, arith}
use Rattle.std.specs.List.{All}
use Rattle.std.proofs.lemmas.List.{take_all}
use Rattle.l4_journal.specs.Codes.{counted}
use Rattle.l4_segments.specs.Entries.{IsWritable}
use Rattle.l4_segments.specs.Files.{bytes_of}
use Rattle.l4_segments.proofs.Bytes.{entry_more, each_more}
use Rattle.l4_segments.proofs.files.push_entries.Goals as goal

pub loop-place-preserved : goal.loop-place-preserved
loop-place-preserved c = (
  entry_more c.loop-place.out.items c.push_record.new.out.items _ c.args.history.now.entries c.loop-place.place c.in-Some.entry (sym c.in-Some.ensures)
      (c.in_ok-push_record.ensures.items ∙ ap (λ (words : List ℕ). c.loop-place.out.items ++ bytes_of (counted words)) c.put_entry.ensures.items) c.loop-place.invariant.0,
  each_more c.args.history.now.entries c.loop-place.place c.in-Some.entry (sym c.in-Some.ensures) c.put_entry.new.out.items c.put_entry.ensures.items c.put_entry.ensures.fits c.push_record.ensures.words
      c.loop-place.invariant.1,
)

pub returns-clause-each : goal.returns-clause-each
returns-clause-each c =
    let past = c.loop-place-test.false in
    let end = c.len-place-end.ensures in
    subst (All IsWritable) (take_all c.loop-place.place c.args.history.now.entries (omega (arith, past, end))) c.loop-place.invariant.1
