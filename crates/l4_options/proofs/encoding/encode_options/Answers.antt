use Rattle.std.proofs.Common.{List, refl, subst}
use Rattle.clap.specs.Walk.{Text}
use Rattle.l4_options.specs.Spelled.{Encodes}
use Rattle.l4_options.proofs.Words.{words_are}
use Rattle.l4_options.proofs.encoding.encode_options.Goals as goal

pub returns-in-Ok : goal.returns-in-Ok
returns-in-Ok c =
    let named = subst (λ (tokens : List Text). Encodes c.in_ok-kind.kind c.in_ok-size.size tokens c.in-Ok.words.items) (words_are _ _ c.in-Some.ensures) c.in-Ok.ensures in
    (refl, (c.in_ok-size.size, c.in_ok-kind.kind, c.in_ok-size.ensures, c.in_ok-kind.ensures, named))
