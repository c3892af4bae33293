use Rattle.std.proofs.Common.{◌≡◌, ℕ, ◌∷◌, List, Option, drop, length, subst, sym, ap, ◌∙◌, arith}
use Rattle.l4_symbols.specs.Rows.{row_of, row_words, tag_in}
use Rattle.l4_symbols.proofs.MessageRows.{labelled_words, given_words}
use Rattle.l4_symbols.proofs.rows.MessageTokens.words.Goals as goal

pub returns-in-None : goal.returns-in-None
returns-in-None c =
    let m = c.args.self.now.message.message in
    subst (λ (o : Option ℕ). c.words.result.items ≡ row_words (row_of (tag_in o m.label) m)) (sym c.in-None.is) (c.words.ensures.value ∙ labelled_words m)

pub with_tag-requires : goal.with_tag-requires
with_tag-requires c = omega (arith, ap (λ (ws : List ℕ). length ws) c.words-in-Some.ensures.value)

pub returns-in-Some : goal.returns-in-Some
returns-in-Some c =
    let m = c.args.self.now.message.message in
    subst (λ (o : Option ℕ). c.with_tag.result.items ≡ row_words (row_of (tag_in o m.label) m)) (sym c.in-Some.is)
    (c.with_tag.ensures ∙ ap (λ (ws : List ℕ). c.in-Some.tag ∷ drop 1 ws) c.words-in-Some.ensures.value ∙ given_words c.in-Some.tag m)
