use Rattle.std.proofs.Common.{subst}
use Rattle.std.proofs.lemmas.Result.{IfErr-weaker}
use Rattle.l4_checkpoints.specs.Inside.Reading.{AreNoHeading}
use Rattle.l4_checkpoints.proofs.Refusing.{other_heading}
use Rattle.l4_checkpoints.proofs.headings.read_heading.Goals as goal

pub returns-clause-err : goal.returns-clause-err
returns-clause-err c =
    IfErr-weaker c.heading_of.result _ _ (λ _ f. other_heading c.args.bytes.now c.read_words.new.out.items c.read_words.ensures.count c.read_words.ensures.words c.read_words.ensures.items
    (subst AreNoHeading c.as_slice.ensures.words f)) c.heading_of.ensures.err
