use Rattle.std.proofs.Common.{length, ◌∙◌}
use Rattle.l4_checkpoints.specs.Checkpoints.{heading_words}
use Rattle.l4_checkpoints.proofs.Written.{whole}
use Rattle.l4_checkpoints.proofs.files.file_of.Goals as goal

pub returns-clause-file : goal.returns-clause-file
returns-clause-file c =
    whole c.args.words.now (heading_words c.args.frames c.args.size c.args.entries (length c.args.words.now)) c.new-out.result.items c.as_slice.result.now c.push_words.new.out.items
    c.push_words-2.new.out.items c.as_slice-2.result.now c.digest-digest.result c.extend_from_slice.new.self.items c.new-out.ensures.items
    (c.as_slice.ensures.words ∙ c.put_heading.ensures) c.in_ok-push_words.ensures c.in_ok-push_words-2.ensures c.as_slice-2.ensures.value c.digest-digest.ensures
    c.in_ok-extend_from_slice.ensures.items
