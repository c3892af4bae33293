use Rattle.std.proofs.Common.{sym, subst, ◌∙◌}
use Rattle.l4_c_queries.specs.Files.{WritesFile}
use Rattle.l4_c_queries.specs.declared.descending.CountResult.{CountResult}
use Rattle.l4_c_queries.proofs.Told.{told_file}
use Rattle.l4_c_queries.proofs.files.write_file.Goals as goal

pub returns-in-Ok : goal.returns-in-Ok
returns-in-Ok c =
    subst (λ (r : CountResult). WritesFile c.args.handed.now c.args.out.now r c.write_bytes.new.out) (sym c.counted.ensures)
    (told_file c.args.handed.now c.in-Ok.file.items c.as_slice.result.now c.len.result c.args.out.now c.write_bytes.new.out
    c.in-Ok.ensures.file c.as_slice.ensures.value (c.len.ensures ∙ c.in-Ok.file.ok.0) c.write_bytes.ensures)
