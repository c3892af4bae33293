-- The first token of a line as an fpage.
use Rattle.std.specs.Prelude.{◌≡◌, ℕ, List, ◌∷◌, Option}
use Rattle.l4_fpage.specs.declared.sizes.PageSize.{PageSize}
use Rattle.l4_commands.specs.Commands.{symbol_of}
use Rattle.l4_symbols.specs.declared.words.WordKind.TheVariants.{Fpage}
use Rattle.l4_text.specs.Tokens.{tokens_of}

-- the word of the fpage that a line's first token spells, None if it spells none, and the rest of the line after the token
abbrev pub FirstFpage : PageSize → List ℕ → Option ℕ → List ℕ → Type 0
FirstFpage size line word after = (token : List ℕ) × (tokens_of line ≡ token ∷ tokens_of after) × (word ≡ symbol_of Fpage size token)
