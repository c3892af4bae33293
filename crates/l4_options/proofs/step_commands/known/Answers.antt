use Rattle.std.proofs.Common.{◌≡◌, ◌∙◌, codes, true, ap, ap₂}
use Rattle.std.proofs.lemmas.Result.{IfOk-weaker}
use Rattle.clap.specs.Simple.{Shape, app_of, app_of_fields, new_app, on_top, with_rule}
use Rattle.l4_options.proofs.step_commands.known.Goals as goal

pub returns : goal.returns
returns c =
    let about_is : app_of c.about.result ≡ new_app (codes "l4_steps") = ap app_of_fields c.about.ensures ∙ c.new.ensures.app in
    let version_is : app_of c.version.result ≡ on_top (λ s. record s { has_version = true }) (new_app (codes "l4_steps")) = ap app_of_fields c.version.ensures ∙ ap (on_top (λ (s : Shape). record s { has_version = true })) about_is in
    let help_is : app_of c.after_help.result ≡ on_top (λ s. record s { has_version = true }) (new_app (codes "l4_steps")) = ap app_of_fields c.after_help.ensures ∙ version_is in
    let filed = c.in_ok-arg.ensures.shape c.file_argument.ensures.1 ∙ ap₂ with_rule help_is c.file_argument.ensures.0 in
    let framed = c.in_ok-arg-2.ensures.shape c.frames_option.ensures.1 ∙ ap₂ with_rule filed c.frames_option.ensures.0 in
    IfOk-weaker c.arg-3.result _ _ (λ new adds. adds.shape c.size_option.ensures.1 ∙ ap₂ with_rule framed c.size_option.ensures.0) c.arg-3.ensures
