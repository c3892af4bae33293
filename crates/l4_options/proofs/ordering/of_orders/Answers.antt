use Rattle.std.proofs.Common.{codes, refl}
use Rattle.std.proofs.lemmas.Result.{IfOk-weaker}
use Rattle.clap.specs.Simple.{new_shape}
use Rattle.l4_options.proofs.Lines.{described, more}
use Rattle.l4_options.proofs.ordering.of_orders.Goals as goal

pub returns : goal.returns
returns c = IfOk-weaker c.arg-9.result _ _ (λ new adds. more _ _ _ new _ (more _ _ _ _ _ (more _ _ _ _ _ (more _ _ _ _ _ (more _ _ _ _ _ (more _ _ _ _ _ (more _ _ _ _ _ (more _ _ _ _ _ (more _ _ _ _ _ (described (new_shape (codes "orders")) c.about.result c.after_help.result _ (described (new_shape (codes "orders")) c.new.result c.about.result _ (c.new.ensures.app, c.new.ensures.local) c.about.ensures refl refl) c.after_help.ensures refl refl)
    c.file_argument.ensures c.in_ok-arg.ensures)
    c.frames_option.ensures c.in_ok-arg-2.ensures)
    c.size_option.ensures c.in_ok-arg-3.ensures)
    c.most_option.ensures c.in_ok-arg-4.ensures)
    c.witness_option.ensures c.in_ok-arg-5.ensures)
    c.outcomes_option.ensures c.in_ok-arg-6.ensures)
    c.dot_option.ensures c.in_ok-arg-7.ensures)
    c.explain_option.ensures c.in_ok-arg-8.ensures)
    c.lenient_option.ensures adds) c.arg-9.ensures
