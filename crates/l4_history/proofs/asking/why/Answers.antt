use Rattle.std.proofs.Common.{refl}
use Rattle.l4_history.proofs.Found.{all_told, some_told, refused_told, none_told}
use Rattle.l4_history.proofs.asking.why.Goals as goal

pub returns-in-Err : goal.returns-in-Err
returns-in-Err g c =
    none_told c.args.frames c.args.size c.args.question (g.R.Read.remaining c.args.reader.now) (g.R.Read.remaining c.record_script.new.reader) (g.W.Write.contents c.args.writer.now)
    (g.W.Write.contents c.args.writer.now) c.in-Some.read c.in-Some.history.entries c.in-Some.ensures c.in-Err.fault c.in-Err.is refl

pub returns-in-Some-refused : goal.returns-in-Some-refused
returns-in-Some-refused g c =
    refused_told c.args.frames c.args.size c.args.question (g.R.Read.remaining c.args.reader.now) (g.R.Read.remaining c.record_script.new.reader) (g.W.Write.contents c.args.writer.now)
    (g.W.Write.contents c.args.writer.now) c.in-Some.read c.in-Some.history.entries c.in-Some.ensures c.in-Ok.ended c.in-Ok.is c.in-Some-refused.reason c.in-Some-refused.is refl

pub returns-in-Ok-why_page : goal.returns-in-Ok-why_page
returns-in-Ok-why_page g c =
    all_told c.args.frames c.args.size c.args.question (g.R.Read.remaining c.args.reader.now) (g.R.Read.remaining c.record_script.new.reader) (g.W.Write.contents c.args.writer.now)
    (g.W.Write.contents c.why_page.new.writer) c.in-Some.read c.in-Some.history.entries c.in-Some.ensures c.in-Ok.ended c.in-Ok.is c.in_default-refused.is c.in-Ok-why_page.found c.in-Ok-why_page.ensures

pub returns : goal.returns
returns g c =
    some_told c.args.frames c.args.size c.args.question (g.R.Read.remaining c.args.reader.now) (g.R.Read.remaining c.record_script.new.reader) (g.W.Write.contents c.args.writer.now)
    (g.W.Write.contents c.why_page.new.writer) c.in-Some.read c.in-Some.history.entries c.in-Some.ensures c.in-Ok.ended c.in-Ok.is c.in_default-refused.is c.in-Err-why_page.fault c.in-Err-why_page.ensures
