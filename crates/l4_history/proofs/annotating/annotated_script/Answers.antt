use Rattle.l4_history.proofs.AnnotatedScript.{script_out, script_lost}
use Rattle.l4_history.proofs.annotating.annotated_script.Goals as goal

pub returns-in-Ok : goal.returns-in-Ok
returns-in-Ok g c =
    script_out _ _ _ c.in-Some.annotated _ _ _ _ _ _ _ c.in-Some.ensures c.new-out.ensures c.annotate_lines-answered.result c.annotate_lines-answered.ensures c.in-Ok.ensures.open.0 c.in-Ok.ensures.ok

pub returns : goal.returns
returns g c =
    script_lost _ _ _ c.in-Some.annotated _ _ _ _ _ _ _ c.in-Some.ensures c.new-out.ensures c.annotate_lines-answered.result c.annotate_lines-answered.ensures c.in-Err.ensures.err.1
