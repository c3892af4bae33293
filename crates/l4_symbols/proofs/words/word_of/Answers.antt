use Rattle.std.proofs.Common.{◌≡◌, ℕ, Ok, subst, sym}
use Rattle.l4_symbols.specs.Words.{NamesWord}
use Rattle.l4_symbols.specs.declared.words.WordKind.{WordKind}
use Rattle.l4_symbols.proofs.words.word_of.Goals as goal

pub returns-in-Fpage-clause-only : goal.returns-in-Fpage-clause-only
returns-in-Fpage-clause-only c =
    subst (λ (kind : WordKind). (word : ℕ) → NamesWord kind c.args.size c.args.token.now word → c.fpage_word.result ≡ Ok word) (sym c.in-Fpage.is) c.fpage_word.ensures.only

pub returns-in-Window-clause-only : goal.returns-in-Window-clause-only
returns-in-Window-clause-only c =
    subst (λ (kind : WordKind). (word : ℕ) → NamesWord kind c.args.size c.args.token.now word → c.window_word.result ≡ Ok word) (sym c.in-Window.is) c.window_word.ensures.only
