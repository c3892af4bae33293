-- The kinds of tokens that commands take (this profile's own).
use Rattle.std.specs.Prelude.{ℕ, Bool, List, is_some}
use Rattle.l4_fpage.specs.declared.sizes.PageSize.{PageSize}
use Rattle.l4_names.specs.Names.{Names}
use Rattle.l4_text.specs.Numbers.{number_of}
use Rattle.l4_commands.specs.declared.kinds.TokenKind.{TokenKind}
use Rattle.l4_commands.specs.declared.kinds.TokenKind.TheVariants.{ThreadNumber, ThreadOrNew, ThreadOrNil, ThreadNilOrAny, Number, Symbol, Rights, NewName}
use Rattle.l4_commands.specs.Commands.{thread_of, nil_or_thread_of, partner_of, new_space_of, symbol_of, rights_of, new_name_of}

-- whether a token is of this kind, where pages have this size and threads these names
unfoldable pub is_of : PageSize → Names → TokenKind → List ℕ → Bool
is_of size names ThreadNumber token = is_some (thread_of names token)
is_of size names ThreadOrNew token = is_some (new_space_of names token)
is_of size names ThreadOrNil token = is_some (nil_or_thread_of names token)
is_of size names ThreadNilOrAny token = is_some (partner_of names token)
is_of size names Number token = is_some (number_of token)
is_of size names (Symbol kind) token = is_some (symbol_of kind size token)
is_of size names Rights token = is_some (rights_of token)
is_of size names NewName token = is_some (new_name_of token)
