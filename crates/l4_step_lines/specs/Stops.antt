-- The token at which a line stops being a step or a query, and what would be right there (this profile's own).
use Rattle.std.specs.Prelude.{ℕ, zero, suc, ◌+◌, ◌||◌, Bool, false, List, [], ◌∷◌, Option, Some, None, is_some, option_and_then, option_map, if◌then◌else◌, codes}
use Rattle.std.specs.Str.{bytes_eq}
use Rattle.l4_msg.specs.Sizes.{max_words}
use Rattle.l4_reasons.specs.Reasons.{line_says, token_says, missing_says}
use Rattle.l4_text.specs.Numbers.{number_of}
use Rattle.l4_step_lines.specs.declared.stops.Expected.{Expected}
use Rattle.l4_step_lines.specs.declared.stops.Expected.TheVariants.{StepName, CallName, Number, Access, NumberOrEnd, LineEnd}
use Rattle.l4_step_lines.specs.declared.stops.Form.{Form}
use Rattle.l4_step_lines.specs.declared.stops.Stop.{Stop}
use Rattle.l4_step_lines.specs.Requests.{access_of}

-- the tokens after a name: these in turn, and then at most so many numbers
pub record Shape : Type 0 where
  pub kinds : List Expected
  pub words : ℕ

-- a line stops at the token of this number, from 1, or ends before it; what would be right there
pub record Place : Type 0 where
  pub number : ℕ
  pub token : Option (List ℕ)
  pub expected : Expected

-- THE FORM OF EACH STEP AND QUERY

abbrev pub just : List Expected → Option Shape
just kinds = Some (record { kinds = kinds; words = 0 })

abbrev pub with_words : List Expected → Option Shape
with_words kinds = Some (record { kinds = kinds; words = max_words })

-- of a call, by its name; None if there is no such call
abbrev pub call_shape_of : List ℕ → Option Shape
call_shape_of name =
    if bytes_eq name (codes "ipc") then with_words (Number ∷ Number ∷ Number ∷ Number ∷ [])
    else (if bytes_eq name (codes "fault") then just (Number ∷ Number ∷ Access ∷ [])
    else (if bytes_eq name (codes "unmap") then with_words (Number ∷ [])
    else (if bytes_eq name (codes "create") then just (Number ∷ Number ∷ Number ∷ [])
    else (if bytes_eq name (codes "setpager") then just (Number ∷ Number ∷ [])
    else (if bytes_eq name (codes "delete") then just (Number ∷ [])
    else None)))))

-- of a query, or of another step than a start, by its name; None if there is no such step or query
abbrev pub shape_of : List ℕ → Option Shape
shape_of name =
    if bytes_eq name (codes "transfer") then just (Number ∷ Number ∷ [])
    else (if bytes_eq name (codes "expire") then just (Number ∷ [])
    else (if bytes_eq name (codes "timeout") then just (Number ∷ [])
    else (if bytes_eq name (codes "cancel") then just (Number ∷ [])
    else (if bytes_eq name (codes "reply") then just (Number ∷ [])
    else (if bytes_eq name (codes "space") then just (Number ∷ [])
    else (if bytes_eq name (codes "pages") then just (Number ∷ [])
    else (if bytes_eq name (codes "enabled") then just []
    else None)))))))

-- THE STOP

-- whether a token is right
unfoldable pub fits : Expected → List ℕ → Bool
fits StepName token = bytes_eq token (codes "start") || is_some (shape_of token)
fits CallName token = is_some (call_shape_of token)
fits Number token = is_some (number_of token)
fits Access token = is_some (option_and_then access_of (number_of token))
fits NumberOrEnd token = is_some (number_of token)
fits LineEnd token = false

abbrev pub wrong : ℕ → List ℕ → Expected → Option Place
wrong number token expected = Some (record { number = number; token = Some token; expected = expected })

abbrev pub missing : ℕ → Expected → Option Place
missing number expected = Some (record { number = number; token = None; expected = expected })

-- at most so many numbers, the first of which is the token of this number; None if that is right to the end
abbrev pub words_stop : ℕ → ℕ → List (List ℕ) → Option Place
words_stop number most [] = None
words_stop number zero (token ∷ tokens) = wrong number token LineEnd
words_stop number (suc most) (token ∷ tokens) = if fits NumberOrEnd token then words_stop (number + 1) most tokens else wrong number token NumberOrEnd

-- tokens of these kinds, and then so many numbers
abbrev pub kinds_stop : ℕ → List Expected → ℕ → List (List ℕ) → Option Place
kinds_stop number [] most tokens = words_stop number most tokens
kinds_stop number (kind ∷ kinds) most [] = missing number kind
kinds_stop number (kind ∷ kinds) most (token ∷ tokens) = if fits kind token then kinds_stop (number + 1) kinds most tokens else wrong number token kind

-- a name, which has this form, and the tokens after it
abbrev pub named_stop : ℕ → Expected → Option Shape → List ℕ → List (List ℕ) → Option Place
named_stop number expected None name tokens = wrong number name expected
named_stop number expected (Some shape) name tokens = kinds_stop (number + 1) shape.kinds shape.words tokens

-- the name of a call, and the tokens after it
abbrev pub call_stop : List (List ℕ) → Option Place
call_stop [] = missing 3 CallName
call_stop (name ∷ tokens) = named_stop 3 CallName (call_shape_of name) name tokens

-- the tokens after `start`
abbrev pub start_stop : List (List ℕ) → Option Place
start_stop [] = missing 2 Number
start_stop (caller ∷ tokens) = if fits Number caller then call_stop tokens else wrong 2 caller Number

-- the first token that is not right, or the first that is missing; None if the tokens are a step or a query
abbrev pub stop_of : List (List ℕ) → Option Place
stop_of [] = missing 1 StepName
stop_of (name ∷ tokens) = if bytes_eq name (codes "start") then start_stop tokens else named_stop 1 StepName (shape_of name) name tokens

-- AS TEXT

-- what is right at a place
unfoldable pub expected_says : Expected → List ℕ
expected_says StepName = codes "\"start\", \"transfer\", \"expire\", \"timeout\", \"cancel\", \"enabled\", \"reply\", \"space\" or \"pages\""
expected_says CallName = codes "\"ipc\", \"fault\", \"unmap\", \"create\", \"setpager\" or \"delete\""
expected_says Number = codes "a number from 0 to 0xffffffff"
expected_says Access = codes "a number from 0 to 7, the sum of r (4), w (2) and x (1)"
expected_says NumberOrEnd = codes "a number from 0 to 0xffffffff or the end of the line"
expected_says LineEnd = codes "the end of the line"

-- a token that is not right, or that is missing: its number, and what would be right
abbrev pub token_or_end_says : ℕ → ℕ → Option (List ℕ) → List ℕ → List ℕ
token_or_end_says line number None expected = missing_says line number expected
token_or_end_says line number (Some token) expected = token_says line number token expected

abbrev pub place_says : ℕ → Place → List ℕ
place_says line place = token_or_end_says line place.number place.token (expected_says place.expected)

abbrev pub stop_says : ℕ → Option Place → List ℕ
stop_says line None = line_says line
stop_says line (Some place) = place_says line place

-- why the line of this number cannot be read, by its tokens
unfoldable pub unread_says : ℕ → List (List ℕ) → List ℕ
unread_says line tokens = stop_says line (stop_of tokens)

-- AS VALUES OF THE CODE

abbrev pub shape_in : Form → Shape
shape_in form = record { kinds = form.kinds.now; words = form.words }

abbrev pub place_in : Stop → Place
place_in stop = record { number = stop.number; token = option_map (λ t. t.now) stop.token; expected = stop.expected }
