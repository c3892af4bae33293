-- The token at which a line stops being a command, and what would be right there (this profile's own).
use Rattle.std.specs.Prelude.{◌≡◌, ℕ, zero, suc, ◌+◌, ◌-◌, ◌==◌, nat_lt, ◌&&◌, ◌||◌, Bool, not, List, [], ◌∷◌, ◌++◌, length, Option, Some, None, Result, Ok, Err, IsOk, option_map, if◌then◌else◌, codes}
use Rattle.l4_fpage.specs.declared.sizes.PageSize.{PageSize}
use Rattle.l4_msg.specs.Sizes.{max_words}
use Rattle.l4_names.specs.Names.{Names, is_name}
use Rattle.l4_symbols.specs.Computed.{word_in}
use Rattle.l4_symbols.specs.Rows.{Row, row_begun, row_added}
use Rattle.l4_symbols.specs.declared.reasons.Reason.{Reason}
use Rattle.l4_symbols.specs.declared.reasons.Reason.TheVariants.{NoTag, Unknown, Window as NoWindow, Fpage as NoFpage, Timeouts as NoTimeouts, Control as NoControl}
use Rattle.l4_symbols.specs.declared.words.WordKind.TheVariants.{Fpage, Window, Timeouts, Control}
use Rattle.l4_commands.specs.declared.kinds.TokenKind.{TokenKind}
use Rattle.l4_commands.specs.declared.kinds.TokenKind.TheVariants.{ThreadNumber, ThreadOrNew, ThreadOrNil, ThreadNilOrAny, Number, Symbol, Rights, NewName}
use Rattle.l4_commands.specs.Commands.{is_number, is_word, symbol_of, command_of}
use Rattle.l4_commands.specs.Kinds.{is_of}
use Rattle.l4_sinks.specs.declared.stops.Expected.{Expected}
use Rattle.l4_sinks.specs.declared.stops.Expected.TheVariants.{CommandName, Token, Because, OtherName, TagOrEnd, WordOrEnd, FpageOrEnd, CountedFpage, CountedEnd, LineEnd, AnyAnswer}
use Rattle.l4_sinks.specs.declared.stops.Form.{Form}
use Rattle.l4_sinks.specs.declared.stops.Rest.{Rest}
use Rattle.l4_sinks.specs.declared.stops.Rest.TheVariants.{Nothing, Message, Unmap, Answer}
use Rattle.l4_sinks.specs.declared.stops.Stop.{Stop}
use Rattle.l4_unmap.specs.Unmap.{fpage_count}

-- the tokens behind a command's name: these in turn, and then the rest
pub record Shape : Type 0 where
  pub kinds : List TokenKind
  pub rest : Rest

-- a line stops at the token of this number, from 1, or ends before it; what would be right there
pub record Place : Type 0 where
  pub number : ℕ
  pub token : Option (List ℕ)
  pub expected : Expected

-- THE FORM OF EACH COMMAND

abbrev pub with_rest : List TokenKind → Rest → Option Shape
with_rest kinds rest = Some (record { kinds = kinds; rest = rest })

abbrev pub just : List TokenKind → Option Shape
just kinds = with_rest kinds Nothing

abbrev pub pager_shape_of : List ℕ → Option Shape
pager_shape_of name =
    if is_word (codes "fault") name then just (ThreadNumber ∷ Number ∷ Number ∷ Rights ∷ [])
    else (if is_word (codes "region") name then just (ThreadNumber ∷ Number ∷ Number ∷ Number ∷ Rights ∷ [])
    else (if is_word (codes "serve") name then just (ThreadNumber ∷ [])
    else (if is_word (codes "name") name then just (NewName ∷ ThreadNumber ∷ [])
    else (if is_word (codes "reply") name then just (ThreadNumber ∷ [])
    else (if is_word (codes "timeout") name then just (ThreadNumber ∷ [])
    else (if is_word (codes "cancel") name then just (ThreadNumber ∷ [])
    else (if is_word (codes "steps") name then just []
    else (if is_word (codes "unordered") name then just []
    else (if is_word (codes "finally") name then just []
    else (if is_word (codes "never") name then with_rest [] Answer
    else (if is_word (codes "always") name then with_rest [] Answer
    else None)))))))))))

-- by the command's name; None where there is no such command
abbrev pub shape_of : List ℕ → Option Shape
shape_of name =
    if is_word (codes "thread") name then just (ThreadNumber ∷ ThreadOrNew ∷ ThreadOrNil ∷ [])
    else (if is_word (codes "setpager") name then just (ThreadNumber ∷ ThreadOrNil ∷ [])
    else (if is_word (codes "delete") name then just (ThreadNumber ∷ [])
    else (if is_word (codes "recv") name then just (ThreadNumber ∷ ThreadNilOrAny ∷ Symbol Window ∷ [])
    else (if is_word (codes "send") name then with_rest (ThreadNumber ∷ ThreadNilOrAny ∷ []) Message
    else (if is_word (codes "ipc") name then with_rest (ThreadNumber ∷ ThreadNilOrAny ∷ ThreadNilOrAny ∷ Symbol Timeouts ∷ Symbol Window ∷ []) Message
    else (if is_word (codes "delegate") name then just (ThreadNumber ∷ ThreadNilOrAny ∷ Number ∷ Number ∷ Number ∷ Rights ∷ [])
    else (if is_word (codes "part") name then just (ThreadNumber ∷ ThreadNilOrAny ∷ Number ∷ Number ∷ Number ∷ Number ∷ Rights ∷ [])
    else (if is_word (codes "unmap") name then with_rest (ThreadNumber ∷ []) Unmap
    else (if is_word (codes "show") name then just (ThreadNumber ∷ Number ∷ Number ∷ [])
    else (if is_word (codes "parent") name then just (ThreadNumber ∷ Number ∷ [])
    else pager_shape_of name))))))))))

-- THE STOP

abbrev pub wrong : ℕ → List ℕ → Expected → Option Place
wrong number token expected = Some (record { number = number; token = Some token; expected = expected })

abbrev pub missing : ℕ → Expected → Option Place
missing number expected = Some (record { number = number; token = None; expected = expected })

-- what would be right in place of a token that is refused for this reason: what else stands there if the token has another form, and otherwise
-- what the reason says
abbrev pub expected_for : Expected → Reason → Expected
expected_for otherwise NoTag = otherwise
expected_for otherwise Unknown = otherwise
expected_for otherwise NoWindow = otherwise
expected_for otherwise NoFpage = otherwise
expected_for otherwise NoTimeouts = otherwise
expected_for otherwise NoControl = otherwise
expected_for otherwise reason = Because reason

abbrev pub symbol_expected : Expected → Result ℕ Reason → Expected
symbol_expected otherwise (Ok word) = otherwise
symbol_expected otherwise (Err reason) = expected_for otherwise reason

-- what would be right in place of a token that may not become a name
abbrev pub expected_name : List ℕ → Expected
expected_name token = if is_name token then OtherName else Token NewName

-- what would be right in place of a token that is not of this kind
abbrev pub expected_at : PageSize → TokenKind → List ℕ → Expected
expected_at size (Symbol word) token = symbol_expected (Token (Symbol word)) (word_in word size token)
expected_at size NewName token = expected_name token
expected_at size kind token = Token kind

-- no more tokens
abbrev pub end_stop : ℕ → List (List ℕ) → Option Place
end_stop number [] = None
end_stop number (token ∷ tokens) = wrong number token LineEnd

-- A control word counts fpages. If it or one of the fpages is symbolic, the line has as many as it counts: `left` more of them.

-- what would be right in place of a token that is not the next fpage, where `symbolic` says whether it or a token before it is symbolic
abbrev pub fpage_wrong : PageSize → Names → Bool → ℕ → List ℕ → Option Expected
fpage_wrong size names symbolic left token =
    if is_of size names (Symbol Fpage) token then (if symbolic && left == 0 then Some CountedEnd else None)
    else Some (symbol_expected FpageOrEnd (word_in Fpage size token))

-- the end of the fpages
abbrev pub short_stop : Bool → ℕ → ℕ → Option Place
short_stop symbolic left number = if symbolic && nat_lt 0 left then missing number CountedFpage else None

-- a token of this number is wrong, or else what follows it
abbrev pub token_or_stop : ℕ → List ℕ → Option Expected → Option Place → Option Place
token_or_stop number token (Some expected) later = wrong number token expected
token_or_stop number token None later = later

-- whether this token or one before it is symbolic
abbrev pub is_symbolic : Bool → List ℕ → Bool
is_symbolic symbolic token = symbolic || not (is_number token)

-- at most this number of fpages, the first of which is the token of this number; None if that is right to the end
abbrev pub fpages_stop : PageSize → Names → Bool → ℕ → ℕ → ℕ → List (List ℕ) → Option Place
fpages_stop size names symbolic left number most [] = short_stop symbolic left number
fpages_stop size names symbolic left number zero (token ∷ tokens) = wrong number token LineEnd
fpages_stop size names symbolic left number (suc most) (token ∷ tokens) =
    token_or_stop number token (fpage_wrong size names (is_symbolic symbolic token) left token)
    (fpages_stop size names (is_symbolic symbolic token) (left - 1) (number + 1) most tokens)

-- behind a token in the place of a control word: the fpages, or that the token is wrong
abbrev pub control_or_stop : PageSize → Names → ℕ → List ℕ → List (List ℕ) → Option ℕ → Option Place
control_or_stop size names number token tokens None = wrong number token (expected_at size (Symbol Control) token)
control_or_stop size names number token tokens (Some control) =
    fpages_stop size names (not (is_number token)) (fpage_count control) (number + 1) max_words tokens

-- a control word, and the fpages
abbrev pub unmap_stop : PageSize → Names → ℕ → List (List ℕ) → Option Place
unmap_stop size names number [] = missing number (Token (Symbol Control))
unmap_stop size names number (token ∷ tokens) = control_or_stop size names number token tokens (symbol_of Control size token)

-- behind a token of this number: what follows it, or that it is wrong
abbrev pub row_or_stop : ℕ → List ℕ → Expected → Result Row Reason → (Row → Option Place) → Option Place
row_or_stop number token otherwise (Ok row) later = later row
row_or_stop number token otherwise (Err reason) later = wrong number token (expected_for otherwise reason)

-- the tokens of a message behind those of a row
abbrev pub row_stop : PageSize → ℕ → List (List ℕ) → Row → Option Place
row_stop size number [] row = None
row_stop size number (token ∷ tokens) row = row_or_stop number token WordOrEnd (row_added size token row) (λ next. row_stop size (number + 1) tokens next)

-- the tokens of a message, or none
abbrev pub message_stop : PageSize → ℕ → List (List ℕ) → Option Place
message_stop size number [] = None
message_stop size number (token ∷ tokens) = row_or_stop number token TagOrEnd (row_begun token) (λ row. row_stop size (number + 1) tokens row)

-- one token or more; any tokens may be an answer
abbrev pub answer_stop : ℕ → List (List ℕ) → Option Place
answer_stop number [] = missing number AnyAnswer
answer_stop number (token ∷ tokens) = None

abbrev pub rest_stop : PageSize → Names → ℕ → Rest → List (List ℕ) → Option Place
rest_stop size names number Nothing tokens = end_stop number tokens
rest_stop size names number Message tokens = message_stop size number tokens
rest_stop size names number Unmap tokens = unmap_stop size names number tokens
rest_stop size names number Answer tokens = answer_stop number tokens

-- tokens of these kinds, and then the rest
abbrev pub kinds_stop : PageSize → Names → ℕ → List TokenKind → Rest → List (List ℕ) → Option Place
kinds_stop size names number [] rest tokens = rest_stop size names number rest tokens
kinds_stop size names number (kind ∷ kinds) rest [] = missing number (Token kind)
kinds_stop size names number (kind ∷ kinds) rest (token ∷ tokens) =
    if is_of size names kind token then kinds_stop size names (number + 1) kinds rest tokens else wrong number token (expected_at size kind token)

abbrev pub shape_stop : PageSize → Names → Option Shape → List ℕ → List (List ℕ) → Option Place
shape_stop size names None name tokens = wrong 1 name CommandName
shape_stop size names (Some shape) name tokens = kinds_stop size names 2 shape.kinds shape.rest tokens

-- the first token that is not right where pages have this size and threads these names, or the first that is missing; None where the tokens are a command
abbrev pub stop_of : PageSize → Names → List (List ℕ) → Option Place
stop_of size names [] = missing 1 CommandName
stop_of size names (name ∷ tokens) = shape_stop size names (shape_of name) name tokens

-- WHAT THIS SAYS OF THE LANGUAGE

-- these tokens are a command, or begin one
abbrev pub BeginsCommand : PageSize → Names → List (List ℕ) → Type 0
BeginsCommand size names tokens = (more : List (List ℕ)) × IsOk (command_of size names (tokens ++ more))

-- the tokens before the stop begin a command, and with the token there they begin none
abbrev pub StopsThere : PageSize → Names → List (List ℕ) → Place → Option (List ℕ) → Type 0
StopsThere size names tokens place None = (place.number ≡ length tokens + 1) × BeginsCommand size names tokens × (¬ IsOk (command_of size names tokens))
StopsThere size names tokens place (Some token) =
    (before : List (List ℕ)) × (after : List (List ℕ)) × (tokens ≡ before ++ token ∷ after) × (place.number ≡ length before + 1)
    × BeginsCommand size names before × (BeginsCommand size names (before ++ token ∷ []) → ⊥)

-- A LINE'S STOP: none of a command; of any other line the one token, or the end, that no command has there
abbrev pub IsStop : PageSize → Names → List (List ℕ) → Option Place → Type 0
IsStop size names tokens None = IsOk (command_of size names tokens)
IsStop size names tokens (Some place) = StopsThere size names tokens place place.token

-- AS VALUES OF THE CODE

abbrev pub shape_in : Form → Shape
shape_in form = record { kinds = form.kinds.now; rest = form.rest }

abbrev pub place_in : Stop → Place
place_in stop = record { number = stop.number; token = option_map (λ t. t.now) stop.token; expected = stop.expected }
