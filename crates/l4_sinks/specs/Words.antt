-- What answers mean, each in a sentence (this profile's own).
use Rattle.std.specs.Prelude.{ℕ, ◌==◌, List, [], ◌∷◌, ◌++◌, length, Option, None, Some, if◌then◌else◌, codes, decimal, bytes_eq}
use Rattle.l4_fpage.specs.declared.sizes.PageSize.{PageSize}
use Rattle.l4_ipc.specs.declared.steps.Outcome.{Outcome}
use Rattle.l4_ipc.specs.declared.steps.Outcome.TheVariants.{Started, Done, NoWindow, Entangled, NoMemory, Expired, Canceled as ByCancel}
use Rattle.l4_mapdb.specs.declared.Mapping.{Mapping}
use Rattle.l4_mapdb.specs.declared.Place.{Place}
use Rattle.l4_threads.specs.declared.IpcReply.{IpcReply}
use Rattle.l4_threads.specs.declared.Reply.{Reply}
use Rattle.l4_threads.specs.declared.Reply.TheVariants.{Ipc, Hit, Answered, FaultFailed, Unmapped, Controlled, Gone}
use Rattle.l4_answers.specs.Refusals.{Refusal}
use Rattle.l4_answers.specs.Reports.{Report, RefusedLine, UnreadLine, RefusedAct, Transferred, TimedOut, Canceled, Waits, Ended, NoneEnded, Page, Shown, Parent, AddedRegion, Named, StepCount}
use Rattle.l4_names.specs.Names.{Names}
use Rattle.l4_refusals.specs.Texts.{texts, text_in, spelled}
use Rattle.l4_reasons.specs.Reasons.{line_says, token_says, symbol_says, missing_says}
use Rattle.l4_symbols.specs.Reasons.{reason_text}
use Rattle.l4_symbols.specs.declared.words.WordKind.TheVariants.{Fpage, Window, Timeouts, Control, Id}
use Rattle.l4_ipc.specs.declared.steps.CancelCause.{CancelCause}
use Rattle.l4_ipc.specs.declared.steps.CancelCause.TheVariants.{Timeout, Canceled as ByRequest}
use Rattle.l4_text.specs.Tokens.{tokens_of}
use Rattle.l4_commands.specs.declared.kinds.TokenKind.{TokenKind}
use Rattle.l4_commands.specs.declared.kinds.TokenKind.TheVariants.{ThreadNumber, ThreadOrNew, ThreadOrNil, ThreadNilOrAny, Number, Symbol, Rights, NewName}
use Rattle.l4_sinks.specs.declared.stops.Expected.{Expected}
use Rattle.l4_sinks.specs.declared.stops.Expected.TheVariants.{CommandName, Token, Because, OtherName, TagOrEnd, WordOrEnd, FpageOrEnd, CountedFpage, CountedEnd, LineEnd, AnyAnswer}
use Rattle.l4_sinks.specs.Stops.{Place as Stopped, stop_of}

unfoldable pub transfer_says : Outcome → List ℕ
transfer_says Started = codes "the call started"
transfer_says Done = codes "the message of the first thread was delivered to the second"
transfer_says NoWindow = codes "the message was not delivered: it has map or grant items, but the receive window is nil"
transfer_says Entangled = codes "the message was not delivered: its items fill one page twice, move a granted page twice, or replace a page that they move or an ancestor of it"
transfer_says NoMemory = codes "the message was not delivered: there was not enough memory to map its pages"
transfer_says Expired = codes "the timeout expired"
transfer_says ByCancel = codes "the wait was canceled"

unfoldable pub origin_says : Option Place → List ℕ
origin_says None = codes "the page has no parent"
origin_says (Some place) = codes "the parent of the page: the number of its space, then its page number there"

unfoldable pub parent_says : Option Mapping → List ℕ
parent_says None = codes "the page is not present"
parent_says (Some mapping) = origin_says mapping.parent

-- why a fault failed, by its ErrorCode
unfoldable pub failed_says : ℕ → List ℕ
failed_says code =
    if code == 2 then codes "a timeout ended the send of the fault before the pager received it"
    else (if code == 3 then codes "a timeout ended the wait for the pager's answer"
    else (if code == 6 then codes "the send of the fault was canceled before the pager received it"
    else (if code == 7 then codes "the wait for the pager's answer was canceled"
    else (if code == 4 then codes "the pager does not exist, is the thread itself, or was deleted before it received the fault"
    else (if code == 5 then codes "the pager received the fault, but was deleted before it answered"
    else (if code == 9 then codes "the pages in the pager's answer could not be delivered"
    else codes "the fault failed"))))))

-- how an Ipc ended that received no message, by its ErrorCode
unfoldable pub ipc_says : ℕ → List ℕ
ipc_says code =
    if code == 0 then codes "the call ended without an error and received no message"
    else (if code == 2 then codes "the send timeout expired"
    else (if code == 3 then codes "the receive timeout expired"
    else (if code == 4 then codes "the thread to send to does not exist, is the caller itself, or was deleted"
    else (if code == 5 then codes "the thread to receive from does not exist, or was deleted"
    else (if code == 6 then codes "the send phase was canceled"
    else (if code == 7 then codes "the receive phase was canceled"
    else (if code == 8 then codes "the pages in the message could not be delivered to the receiver"
    else (if code == 9 then codes "the pages in a message to this thread could not be delivered"
    else codes "the call failed"))))))))

unfoldable pub gone_says : List ℕ
gone_says = codes "the thread was deleted before its call ended"

unfoldable pub reply_says : Option Reply → List ℕ
reply_says (Some (Ipc reply)) = ipc_says reply.error
reply_says (Some Hit) = codes "the page is present with the requested rights"
reply_says (Some Answered) = codes "the pager answered the fault"
reply_says (Some (FaultFailed code)) = failed_says code
reply_says (Some Unmapped) = codes "the Unmap completed"
reply_says (Some Controlled) = codes "root's call ended"
reply_says (Some Gone) = gone_says
reply_says None = gone_says

-- what a code means: of a line that can't be read, or of any other refusal
unfoldable pub code_says : List ℕ → List ℕ
code_says code =
    if bytes_eq code (codes "S1") then codes "the command is unknown"
    else (if bytes_eq code (codes "S2") then codes "the line has too few tokens, too many, or an invalid one"
    else (if bytes_eq code (codes "S3") then codes "the line is longer than 4,096 bytes"
    else (if bytes_eq code (codes "S4") then codes "the line does not end with a newline"
    else (if bytes_eq code (codes "S5") then codes "the script already has 64 names"
    else (text_in texts (spelled code)).1))))

-- what the number that a code carries is: of an item, of a word, or of the messages of a plan
unfoldable pub number_name : List ℕ → List ℕ
number_name code =
    if bytes_eq code (codes "U1") then codes "word "
    else (if bytes_eq code (codes "N5") then codes "messages "
    else (if bytes_eq code (codes "N6") then codes "messages "
    else codes "item "))

unfoldable pub number_says : List ℕ → Option ℕ → List ℕ
number_says code None = []
number_says code (Some number) = codes " (" ++ number_name code ++ decimal number ++ codes ")"

unfoldable pub refusal_says : Refusal → List ℕ
refusal_says refusal = code_says refusal.name ++ number_says refusal.name refusal.number

unfoldable pub expired_says : List ℕ
expired_says = codes "the thread's zero timeout expired"

unfoldable pub canceled_says : CancelCause → List ℕ
canceled_says Timeout = codes "a clock outside the kernel ended the thread's wait"
canceled_says ByRequest = codes "the thread's wait was canceled"

unfoldable pub waits_says : List ℕ
waits_says = codes "the call blocks until a later line ends it"

unfoldable pub none_says : List ℕ
none_says = codes "no call of this thread has ended yet"

unfoldable pub page_says : List ℕ
page_says = codes "a present page, its frame and its rights: r to read, w to write, x to execute"

unfoldable pub shown_says : List ℕ
shown_says = codes "the number of requested pages that are present"

unfoldable pub region_says : List ℕ
region_says = codes "the region was added to the table"

unfoldable pub named_says : List ℕ
named_says = codes "from the next line on, the name stands for this thread"

unfoldable pub steps_says : List ℕ
steps_says = codes "the number of steps so far: calls that started, transfers, expiries and canceled waits"

-- what a token of this kind is
unfoldable pub kind_says : TokenKind → List ℕ
kind_says ThreadNumber = codes "a thread number or a name"
kind_says ThreadOrNew = codes "a thread number, a name or \"new\""
kind_says ThreadOrNil = codes "a thread number, a name or \"nil\""
kind_says ThreadNilOrAny = codes "a thread number, a name, \"nil\" or \"any\""
kind_says Number = codes "a number from 0 to 0xffffffff"
kind_says (Symbol Window) = codes "a number, \"all\", \"none\" or pages, as \"32+4\""
kind_says (Symbol Timeouts) = codes "a number, \"never\", \"zero\" or two of these, as \"zero,never\""
kind_says (Symbol Fpage) = codes "a number or an fpage, as \"16+4:rwx\""
kind_says (Symbol Control) = codes "a number, or a count of fpages, as \"unmap:2\" or \"flush:2\""
kind_says (Symbol Id) = codes "a number or a thread id, as \"3,1\""
kind_says Rights = codes "rights, as \"rwx\" or \"r--\""
kind_says NewName = codes "a name: a letter, then letters, digits or hyphens, at most 24 in all"

-- what is right at a place of a line
unfoldable pub expected_says : Expected → List ℕ
expected_says CommandName = codes "a command"
expected_says (Token kind) = kind_says kind
expected_says (Because reason) = reason_text reason
expected_says OtherName = codes "a name that is not a word of the language"
expected_says TagOrEnd = codes "a number from 0 to 0xffffffff, a tag, as \"tag:7\", or the end of the line"
expected_says WordOrEnd = codes "a number from 0 to 0xffffffff, an item, as \"map:16+4>32:rwx\", or the end of the line"
expected_says FpageOrEnd = codes "a number from 0 to 0xffffffff, an fpage, as \"16+4:rwx\", or the end of the line"
expected_says CountedFpage = codes "an fpage, because CONTROL counts more of them"
expected_says CountedEnd = codes "the end of the line, because CONTROL counts fewer fpages"
expected_says LineEnd = codes "the end of the line"
expected_says AnyAnswer = codes "an answer, as \"3 waits\" or \"stuck 4 9\""

-- a token that is not right: its number, and what would be right
abbrev pub wrong_says : ℕ → ℕ → List ℕ → Expected → List ℕ
wrong_says line number token (Because reason) = symbol_says line number token (reason_text reason)
wrong_says line number token expected = token_says line number token (expected_says expected)

-- a token that is not right, or that is missing: its number, and what would be right
abbrev pub stop_says : ℕ → ℕ → Option (List ℕ) → Expected → List ℕ
stop_says line number None expected = missing_says line number (expected_says expected)
stop_says line number (Some token) expected = wrong_says line number token expected

-- why a line is refused
unfoldable pub line_refusal_says : ℕ → Refusal → List ℕ
line_refusal_says line refusal = line_says line ++ refusal_says refusal

-- where a line stops being a command, or else why it is refused
abbrev pub stopped_says : ℕ → Refusal → Option Stopped → List ℕ
stopped_says line refusal None = line_refusal_says line refusal
stopped_says line refusal (Some place) = stop_says line place.number place.token place.expected

-- why a line can't be read; of a line that is cut or too long there are no bytes
abbrev pub unread_says : PageSize → Names → ℕ → Refusal → List ℕ → List ℕ
unread_says size names line refusal bytes = if length bytes == 0 then line_refusal_says line refusal else stopped_says line refusal (stop_of size names (tokens_of bytes))

-- WHAT AN ANSWER MEANS, but for a message that was received
abbrev pub says : Report → List ℕ
says (RefusedLine line refusal) = line_refusal_says line refusal
says (UnreadLine size names line refusal bytes) = unread_says size names line refusal bytes
says (RefusedAct thread refusal) = refusal_says refusal
says (Transferred sender receiver outcome) = transfer_says outcome
says (TimedOut thread) = expired_says
says (Canceled thread cause) = canceled_says cause
says (Waits thread) = waits_says
says (Ended thread reply) = reply_says reply
says (NoneEnded thread) = none_says
says (Page page mapping) = page_says
says (Shown count) = shown_says
says (Parent mapping) = parent_says mapping
says AddedRegion = region_says
says (Named number) = named_says
says (StepCount count) = steps_says

-- the words of the message that an Ipc without an error received from a thread
abbrev pub words_of : IpcReply → Option (List ℕ)
words_of reply = if reply.error == 0 then (if reply.from.0 == 0 then None else Some (reply.tag ∷ reply.words.items)) else None

abbrev pub received : Option Reply → Option (List ℕ)
received (Some (Ipc reply)) = words_of reply
received reply = None
