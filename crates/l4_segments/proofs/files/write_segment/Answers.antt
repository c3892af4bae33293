use Rattle.std.proofs.Common.{◌∙◌}
use Rattle.l4_segments.proofs.Bytes.{written}
use Rattle.l4_segments.proofs.files.write_segment.Goals as goal

pub returns-clause-file : goal.returns-clause-file
returns-clause-file c =
    written
    (record { frames = c.args.frames; size = c.args.size; first = c.args.segment.now.first; count = c.len.result })
    (record { frames = c.args.frames; size = c.args.size; first = c.args.segment.now.first; count = _ })
    c.args.segment.now.history.entries c.new-out.result.items c.as_slice.result.now c.push_words.new.out.items c.push_entries.new.out.items c.as_slice-2.result.now c.digest-digest.result
    c.extend_from_slice.new.self.items c.new-out.ensures.items (c.as_slice.ensures.words ∙ c.put_heading.ensures) c.in_ok-push_words.ensures c.in_ok-push_entries.ensures.items
    c.as_slice-2.ensures.value c.digest-digest.ensures c.in_ok-extend_from_slice.ensures.items
    (λ i. record { frames = c.args.frames; size = c.args.size; first = c.args.segment.now.first; count = c.len.ensures i })
