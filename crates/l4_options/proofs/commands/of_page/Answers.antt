use Rattle.std.proofs.Common.{codes, refl}
use Rattle.std.proofs.lemmas.Result.{IfOk-weaker}
use Rattle.clap.specs.Simple.{new_shape}
use Rattle.l4_options.proofs.Lines.{described, more}
use Rattle.l4_options.proofs.commands.of_page.Goals as goal

pub returns : goal.returns
returns c = IfOk-weaker c.arg-7.result _ _ (λ new adds. more _ _ _ new _ (more _ _ _ _ _ (more _ _ _ _ _ (more _ _ _ _ _ (more _ _ _ _ _ (more _ _ _ _ _ (more _ _ _ _ _ (described (new_shape (codes "why")) c.about.result c.after_help.result _ (described (new_shape (codes "why")) c.new.result c.about.result _ (c.new.ensures.app, c.new.ensures.local) c.about.ensures refl refl) c.after_help.ensures refl refl)
    c.needed_word.ensures c.in_ok-arg.ensures)
    c.needed_word-2.ensures c.in_ok-arg-2.ensures)
    c.file_argument.ensures c.in_ok-arg-3.ensures)
    c.frames_option.ensures c.in_ok-arg-4.ensures)
    c.size_option.ensures c.in_ok-arg-5.ensures)
    c.strict_option.ensures c.in_ok-arg-6.ensures)
    c.from_option.ensures adds) c.arg-7.ensures
