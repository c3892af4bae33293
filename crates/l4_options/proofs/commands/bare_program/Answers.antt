use Rattle.std.proofs.Common.{◌≡◌, ◌∙◌, codes, true, ap}
use Rattle.clap.specs.Simple.{Shape, app_of, app_of_fields, new_app, on_top}
use Rattle.l4_options.proofs.commands.bare_program.Goals as goal

pub returns : goal.returns
returns c =
    let about_is : app_of c.about.result ≡ new_app (codes "l4") = ap app_of_fields c.about.ensures ∙ c.new.ensures.app in
    let version_is : app_of c.version.result ≡ on_top (λ s. record s { has_version = true }) (new_app (codes "l4")) = ap app_of_fields c.version.ensures ∙ ap (on_top (λ (s : Shape). record s { has_version = true })) about_is in
    let help_is : app_of c.after_help.result ≡ on_top (λ s. record s { has_version = true }) (new_app (codes "l4")) = ap app_of_fields c.after_help.ensures ∙ version_is in
    ap app_of_fields c.subcommand_required.ensures ∙ ap (on_top (λ (s : Shape). record s { subcommand_required = true })) help_is
