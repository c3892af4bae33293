-- The commands of a script, from the tokens of a line (this profile's own).
use Rattle.std.specs.Prelude.{ℕ, ◌==◌, ◌||◌, Bool, true, false, List, [], ◌∷◌, length, map, nat_le, slice_index, Option, Some, None, is_some, Result, Err, ok_or, if◌then◌else◌, codes}
use Rattle.std.specs.Str.{bytes_eq}
use Rattle.std.specs.List.{list_all, list_any}
use Rattle.std.specs.Option.{option_map_or, option_or}
use Rattle.std.specs.Result.{result_ok}
use Rattle.l4_fpage.specs.Rights.{RightsSet}
use Rattle.l4_fpage.specs.declared.sizes.PageSize.{PageSize}
use Rattle.l4_fpage.specs.declared.sizes.PageSize.TheVariants.{Kib4}
use Rattle.l4_msg.specs.Sizes.{max_words}
use Rattle.l4_threads.specs.Sizes.{numbers}
use Rattle.l4_names.specs.Names.{Names, thread_named, name_of}
use Rattle.l4_msg.specs.declared.regions.Region.{Region as Delegated}
use Rattle.l4_pager.specs.declared.regions.Entry.{Entry}
use Rattle.l4_commands.specs.declared.partners.Partner.{Partner}
use Rattle.l4_commands.specs.declared.partners.Partner.TheVariants.{Nil, Any, Thread as One}
use Rattle.l4_commands.specs.declared.partners.NewSpace.{NewSpace}
use Rattle.l4_commands.specs.declared.partners.NewSpace.TheVariants.{New, Of}
use Rattle.l4_commands.specs.declared.requests.Which.TheVariants.{Only, Message}
use Rattle.l4_commands.specs.declared.requests.Request.{Request}
use Rattle.l4_commands.specs.declared.requests.Request.TheVariants.{Enter, CreateThread, EndThread, SendPlan, ListPages, TellParent, AddRegion, ServeThread, GiveName, TellReply, TellSteps, BeginUnordered, BeginFinally, StateRule, CancelWait}
use Rattle.l4_commands.specs.Calls.{create_call, set_pager_call, receive_call, send_call, ipc_call, unmap_call, fault_call, root}
use Rattle.l4_commands.specs.declared.commands.ScriptFault.{ScriptFault}
use Rattle.l4_commands.specs.declared.commands.ScriptFault.TheVariants.{UnknownCommand, BadTokens}
use Rattle.l4_symbols.specs.Computed.{word_in}
use Rattle.l4_symbols.specs.Rows.{message_words_in}
use Rattle.l4_symbols.specs.declared.words.WordKind.{WordKind}
use Rattle.l4_symbols.specs.declared.words.WordKind.TheVariants.{Fpage, Window, Timeouts, Control}
use Rattle.l4_text.specs.Grammar.{◌>>=◌}
use Rattle.l4_text.specs.Numbers.{below, number_of}
use Rattle.l4_unmap.specs.Unmap.{fpage_count}
use Rattle.l4_ipc.specs.declared.steps.CancelCause.TheVariants.{Timeout, Canceled}

-- whether a token is this word
abbrev pub is_word : List ℕ → List ℕ → Bool
is_word word token = bytes_eq token word

-- a thread: its number, or its name
unfoldable pub thread_of : Names → List ℕ → Option ℕ
thread_of names token = option_map_or (λ n. below numbers (Some n)) (number_of token) (thread_named names token)

-- nil, or a thread
unfoldable pub nil_or_thread_of : Names → List ℕ → Option Partner
nil_or_thread_of names token = if is_word (codes "nil") token then Some Nil else (thread_of names token >>= λ n. Some (One n))

-- any, nil, or a thread
unfoldable pub partner_of : Names → List ℕ → Option Partner
partner_of names token = if is_word (codes "any") token then Some Any else nil_or_thread_of names token

-- new, or a thread
unfoldable pub new_space_of : Names → List ℕ → Option NewSpace
new_space_of names token = if is_word (codes "new") token then Some New else (thread_of names token >>= λ n. Some (Of n))

-- the letter of a right, or a hyphen in its place
abbrev pub right_of : ℕ → ℕ → Option Bool
right_of letter byte = if byte == letter then Some true else (if byte == 45 then Some false else None)

-- r, w and x in this order, or a hyphen in place of each
unfoldable pub rights_of : List ℕ → Option RightsSet
rights_of token = if length token == 3 then (do
  r ← right_of 114 (slice_index token 0)
  w ← right_of 119 (slice_index token 1)
  x ← right_of 120 (slice_index token 2)
  Some (record { r = r; w = w; x = x })) else None

-- a number, or else the word that a symbolic token of this kind names
unfoldable pub symbol_of : WordKind → PageSize → List ℕ → Option ℕ
symbol_of kind size token = option_or (number_of token) (result_ok (word_in kind size token))

-- the words of fpages, if each of the tokens is one
abbrev pub each_fpage : PageSize → List (List ℕ) → Option (List ℕ)
each_fpage size [] = Some []
each_fpage size (token ∷ tokens) = symbol_of Fpage size token >>= λ word. each_fpage size tokens >>= λ words. Some (word ∷ words)

-- the words of fpages, at most as many as there are message registers
unfoldable pub fpages_of : PageSize → List (List ℕ) → Option (List ℕ)
fpages_of size tokens = if nat_le (length tokens) max_words then each_fpage size tokens else None

-- whether a token is a number, and so the word itself
abbrev pub is_number : List ℕ → Bool
is_number token = is_some (number_of token)

-- the control word and the fpages of an Unmap: if one of the tokens is symbolic, there are as many fpages as the control word counts
abbrev pub counted : Bool → ℕ → List ℕ → Option (ℕ × List ℕ)
counted plain control fpages = if plain || length fpages == fpage_count control then Some (control, fpages) else None

unfoldable pub unmap_of : PageSize → List (List ℕ) → Option (ℕ × List ℕ)
unmap_of size [] = None
unmap_of size (token ∷ tokens) =
    symbol_of Control size token >>= λ control. fpages_of size tokens >>= λ fpages. counted (list_all is_number (token ∷ tokens)) control fpages

-- the words of a message: numbers, or symbolic tokens
unfoldable pub words_of : PageSize → List (List ℕ) → Option (List ℕ)
words_of size tokens = result_ok (message_words_in size tokens)

-- TOKENS IN ORDER

-- the value that the first token spells, and the tokens after it
abbrev pub first_by : {A : Type 0} → (List ℕ → Option A) → List (List ℕ) → Option (A × List (List ℕ))
first_by read [] = None
first_by read (token ∷ tokens) = read token >>= λ a. Some (a, tokens)

-- reads one token, gives its value to the function that makes the result, and then reads the tokens after it
infixr 10 ◌▹◌
abbrev pub ◌▹◌ : {A B C : Type 0} → (List ℕ → Option A) → (B → List (List ℕ) → Option C) → (A → B) → List (List ℕ) → Option C
(read ▹ rest) make tokens = first_by read tokens >>= λ a. rest (make a.0) a.1

-- there are no more tokens
abbrev pub no_more : {A : Type 0} → A → List (List ℕ) → Option A
no_more a [] = Some a
no_more a (token ∷ tokens) = None

-- a value made from all remaining tokens
abbrev pub all_by : {A B : Type 0} → (List (List ℕ) → Option A) → (A → B) → List (List ℕ) → Option B
all_by read make tokens = read tokens >>= λ a. Some (make a)

-- a rule: its answer is one token or more, and any tokens may be an answer
abbrev pub rule_of : List (List ℕ) → Option Request
rule_of [] = None
rule_of (token ∷ tokens) = Some StateRule

-- rights, with no token after them
abbrev pub last_rights_of : List (List ℕ) → Option RightsSet
last_rights_of tokens = (rights_of ▹ no_more) (λ r. r) tokens

-- SOURCE TARGET COUNT RIGHTS
unfoldable pub region_of : List (List ℕ) → Option Delegated
region_of tokens =
    (number_of ▹ number_of ▹ number_of ▹ all_by last_rights_of) (λ s t c r. record { source = s; target = t; count = c; rights = r }) tokens

-- THE COMMANDS

-- FIRST SOURCE COUNT RIGHTS
abbrev pub entry_with : ℕ → ℕ → ℕ → RightsSet → Entry
entry_with f s c r = record { first = f; source = s; count = c; rights = r }

-- Each command's name, the tokens after it, and what it requests, where a new name is read in this way, pages have this size and threads
-- these names. A thread's number is below 2^18; the first of the words of a message is its tag.
abbrev pub commands_by : (List ℕ → Option (List ℕ)) → PageSize → Names → List (List ℕ × (List (List ℕ) → Option Request))
commands_by new_name size names =
    -- thread N SPACE PAGER: root creates a thread of this number, in this space and with this pager
    (codes "thread", (thread_of names ▹ new_space_of names ▹ nil_or_thread_of names ▹ no_more) (λ n space pager. CreateThread n (create_call n space pager)))
    -- setpager N PAGER: root changes a thread's pager
    ∷ (codes "setpager", (thread_of names ▹ nil_or_thread_of names ▹ no_more) (λ n pager. Enter root (set_pager_call n pager)))
    -- delete N: root deletes a thread
    ∷ (codes "delete", (thread_of names ▹ no_more) EndThread)
    -- recv N FROM WINDOW: a thread receives from a partner, with this window
    ∷ (codes "recv", (thread_of names ▹ partner_of names ▹ symbol_of Window size ▹ no_more) (λ n «from» window. Enter n (receive_call «from» window)))
    -- send N TO WORD..: a thread sends these words to a partner
    ∷ (codes "send", (thread_of names ▹ partner_of names ▹ all_by (words_of size)) (λ n to words. Enter n (send_call to words)))
    -- ipc N TO FROM TIMEOUTS WINDOW WORD..: a thread sends these words to a partner, and then receives from another one, with these timeouts
    -- and this window
    ∷ (
      codes "ipc",
      (thread_of names ▹ partner_of names ▹ partner_of names ▹ symbol_of Timeouts size ▹ symbol_of Window size ▹ all_by (words_of size))
          (λ n to «from» timeouts window words. Enter n (ipc_call to «from» timeouts window words)),
    )
    -- delegate N TO SOURCE TARGET COUNT RIGHTS: a thread sends the only message of the region's plan to a partner
    ∷ (codes "delegate", (thread_of names ▹ partner_of names ▹ all_by region_of) (λ n to region. SendPlan n to Only region))
    -- part N TO K SOURCE TARGET COUNT RIGHTS: a thread sends the message with this number, from 0, of the region's plan to a partner
    ∷ (codes "part", (thread_of names ▹ partner_of names ▹ number_of ▹ all_by region_of) (λ n to k region. SendPlan n to (Message k) region))
    -- unmap N CONTROL FPAGE..: a thread revokes rights, by the control word and the fpages
    ∷ (codes "unmap", (thread_of names ▹ all_by (unmap_of size)) (λ n words. Enter n (unmap_call words.0 words.1)))
    -- show N FIRST COUNT: the present pages of a thread's space among this number of pages from a first one on
    ∷ (codes "show", (thread_of names ▹ number_of ▹ number_of ▹ no_more) ListPages)
    -- parent N PAGE: the parent of a page of a thread's space
    ∷ (codes "parent", (thread_of names ▹ number_of ▹ no_more) TellParent)
    -- fault N ADDRESS IP RIGHTS: a thread raises a page fault
    ∷ (codes "fault", (thread_of names ▹ number_of ▹ number_of ▹ all_by last_rights_of) (λ n address ip rights. Enter n (fault_call address ip rights)))
    -- region P FIRST SOURCE COUNT RIGHTS: a region is added to a thread's table
    ∷ (codes "region", (thread_of names ▹ number_of ▹ number_of ▹ number_of ▹ all_by last_rights_of) (λ n f s c r. AddRegion n (entry_with f s c r)))
    -- serve P: a thread is served
    ∷ (codes "serve", (thread_of names ▹ no_more) ServeThread)
    -- name NAME N: a name is given to a thread
    ∷ (codes "name", (new_name ▹ thread_of names ▹ no_more) GiveName)
    -- reply N: how the last call of a thread ended, or that it has not ended
    ∷ (codes "reply", (thread_of names ▹ no_more) TellReply)
    -- timeout N: the wait of a thread ends, as its timeout has passed by a clock outside the kernel
    ∷ (codes "timeout", (thread_of names ▹ no_more) (λ n. CancelWait n Timeout))
    -- cancel N: the wait of a thread is canceled
    ∷ (codes "cancel", (thread_of names ▹ no_more) (λ n. CancelWait n Canceled))
    -- how many entries the history has
    ∷ (codes "steps", no_more TellSteps)
    -- the lines from here on have no order, except that the lines of each thread keep theirs; a run executes them as they are written
    ∷ (codes "unordered", no_more BeginUnordered)
    -- the lines from here on are answered when no thread can execute its next line
    ∷ (codes "finally", no_more BeginFinally)
    -- never ANSWER, always ANSWER: no outcome of the plan has this answer, or each one has it; a run prints nothing
    ∷ (codes "never", rule_of)
    ∷ (codes "always", rule_of)
    ∷ []

-- NEW NAMES

-- the names of all commands, which are the same for each reader of new names, each size and all names
abbrev pub command_names : List (List ℕ)
command_names = map (λ row. row.0) (commands_by name_of Kib4 [])

-- the words that have the form of a name, and that stand for themselves in some place of a line or begin a symbolic token
abbrev pub token_words : List (List ℕ)
token_words =
    codes "nil" ∷ codes "any" ∷ codes "new" ∷ codes "all" ∷ codes "none" ∷ codes "never" ∷ codes "zero" ∷ codes "tag" ∷ codes "map" ∷ codes "grant"
    ∷ codes "rwx" ∷ codes "rw-" ∷ codes "r-x" ∷ codes "r--" ∷ []

-- whether a token is one of these words
abbrev pub is_one_of : List (List ℕ) → List ℕ → Bool
is_one_of words token = list_any (λ word. is_word word token) words

-- whether a token is a word of the language
unfoldable pub is_language_word : List ℕ → Bool
is_language_word token = if is_one_of command_names token then true else is_one_of token_words token

-- a token that may become a name: it has the form of one, and is no word of the language
unfoldable pub new_name_of : List ℕ → Option (List ℕ)
new_name_of token = if is_language_word token then None else name_of token

-- A LINE

-- the commands, where a new name is no word of the language
abbrev pub commands : PageSize → Names → List (List ℕ × (List (List ℕ) → Option Request))
commands size names = commands_by new_name_of size names

-- what a name and the tokens after it request, by these rows; or the reason why they cannot be read
abbrev pub command_in : List (List ℕ × (List (List ℕ) → Option Request)) → List ℕ → List (List ℕ) → Result Request ScriptFault
command_in [] name tokens = Err UnknownCommand
command_in (row ∷ rows) name tokens = if is_word row.0 name then ok_or (row.1 tokens) BadTokens else command_in rows name tokens

-- what a line that has tokens requests, where pages have this size and threads these names, or the reason why they cannot be read
unfoldable pub command_of : PageSize → Names → List (List ℕ) → Result Request ScriptFault
command_of size names [] = Err UnknownCommand
command_of size names (name ∷ tokens) = command_in (commands size names) name tokens

-- what the tokens after a name request by these rows, where they can be read
abbrev pub asked_in : List (List ℕ × (List (List ℕ) → Option Request)) → List ℕ → List (List ℕ) → Option Request
asked_in [] name tokens = None
asked_in (row ∷ rows) name tokens = if is_word row.0 name then row.1 tokens else asked_in rows name tokens

-- what the tokens after a command's name request, where pages have this size and threads these names
abbrev pub asked : PageSize → Names → List ℕ → List (List ℕ) → Option Request
asked size names name tokens = asked_in (commands size names) name tokens
