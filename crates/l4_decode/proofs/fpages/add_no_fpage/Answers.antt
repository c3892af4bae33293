use Rattle.std.proofs.Common.{codes}
use Rattle.std.specs.Fmt.{decimal}
use Rattle.l4_fpage.specs.Fpages.{size_field}
use Rattle.l4_decode.specs.Fpages.{no_fpage_text}
use Rattle.l4_decode.proofs.Pieces.{text_more}
use Rattle.l4_decode.proofs.fpages.add_no_fpage.Goals as goal

pub returns-clause-value : goal.returns-clause-value
unfolding no_fpage_text
returns-clause-value c =
    text_more c.args.text.now c.add.new.self c.add_count.new.text (codes "not an fpage: its size field is ") (decimal (size_field c.args.word)) c.add.ensures.value c.add_count.ensures.value
