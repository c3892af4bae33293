use Rattle.std.proofs.Common.{◌≡◌, ◌∷◌, ℕ, List, IfSome, subst, sym, ◌∙◌}
use Rattle.l4_text.specs.Tokens.{tokens_of}
use Rattle.l4_text.proofs.Names.{after_space}
use Rattle.l4_text.proofs.tokens.after_spaced_name.Goals as goal

pub returns : goal.returns
returns g c =
    subst (λ (ts : List (List ℕ)). IfSome c.after_name.result (λ rest. ts ≡ c.args.name ∷ tokens_of rest.now))
    (sym (after_space c.args.line.now _ (sym c.is_empty.ensures ∙ c.if-is_empty.false) c.if-line-ne32.false)) c.after_name.ensures
