-- Laws of the names of threads (this profile's own).
use Rattle.std.specs.Prelude.{◌≡◌, ℕ, true, false, List, [], ◌∷◌, Some, Err}
use Rattle.l4_fpage.specs.declared.sizes.PageSize.{PageSize}
use Rattle.std.specs.Str.{bytes_eq}
use Rattle.l4_names.specs.Names.{Names, thread_named, given}
use Rattle.l4_commands.specs.declared.kinds.TokenKind.{TokenKind}
use Rattle.l4_commands.specs.declared.kinds.TokenKind.TheVariants.{NewName}
use Rattle.l4_commands.specs.declared.commands.ScriptFault.TheVariants.{UnknownCommand}
use Rattle.l4_commands.specs.Commands.{new_name_of, command_of}
use Rattle.l4_commands.specs.Kinds.{is_of}

-- a token that may become a name is no token of any other kind before it has become one, and the name of no command
abbrev pub HideNoWord : Type 0
HideNoWord =
    ((size : PageSize) (kind : TokenKind) (token name : List ℕ) → new_name_of token ≡ Some name → is_of size [] kind token ≡ true → kind ≡ NewName)
    × ((size : PageSize) (names : Names) (token name : List ℕ) (tokens : List (List ℕ)) → new_name_of token ≡ Some name
    → command_of size names (token ∷ tokens) ≡ Err UnknownCommand)

-- a name that was given stands for its thread, and each other name for the thread for which it stood
abbrev pub StandForThreads : Type 0
StandForThreads =
    (names new : Names) (name : List ℕ) (number : ℕ) → given names name number ≡ Some new
    → (thread_named new name ≡ Some number) × ((other : List ℕ) → bytes_eq name other ≡ false → thread_named new other ≡ thread_named names other)
