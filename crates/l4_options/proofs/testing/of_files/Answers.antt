use Rattle.std.proofs.Common.{codes, refl}
use Rattle.std.proofs.lemmas.Result.{IfOk-weaker}
use Rattle.clap.specs.Simple.{new_shape}
use Rattle.l4_options.proofs.Lines.{described, more}
use Rattle.l4_options.proofs.testing.of_files.Goals as goal

pub returns : goal.returns
returns c = IfOk-weaker c.arg-4.result _ _ (λ new adds. more _ _ _ new _ (more _ _ _ _ _ (more _ _ _ _ _ (more _ _ _ _ _ (described (new_shape (codes "test")) c.about.result c.after_help.result _ (described (new_shape (codes "test")) c.new.result c.about.result _ (c.new.ensures.app, c.new.ensures.local) c.about.ensures refl refl) c.after_help.ensures refl refl)
    c.words_argument.ensures c.in_ok-arg.ensures)
    c.tap_option.ensures c.in_ok-arg-2.ensures)
    c.write_option.ensures c.in_ok-arg-3.ensures)
    c.lenient_option.ensures adds) c.arg-4.ensures
