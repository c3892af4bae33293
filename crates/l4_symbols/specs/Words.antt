-- The word that a symbolic token for a window, an fpage, timeouts, the control of Unmap or a thread's id names (this profile's own).
use Rattle.std.specs.Prelude.{◌≡◌, ℕ, ◌+◌, ◌-◌, ◌*◌, ◌%◌, ◌<◌, ◌⊎◌, ◌==◌, ◌&&◌, nat_lt, not, Bool, List, Result, Ok, Err, if◌then◌else◌, codes}
use Rattle.std.specs.Str.{bytes_eq}
use Rattle.l4_fpage.specs.Fpages.{fpage_word}
use Rattle.l4_fpage.specs.Pages.{space_pages}
use Rattle.l4_fpage.specs.Rights.{no_rights}
use Rattle.l4_fpage.specs.declared.fpages.Fpage.{Fpage}
use Rattle.l4_fpage.specs.declared.fpages.Fpage.TheVariants.{Nil}
use Rattle.l4_fpage.specs.declared.sizes.PageSize.{PageSize}
use Rattle.l4_ipc.specs.Constructors.{timeout_bits}
use Rattle.l4_ipc.specs.declared.constructors.Timeout.{Timeout}
use Rattle.l4_msg.specs.Moves.{complete}
use Rattle.l4_symbols.specs.Items.{IsFpageOf, IsOneOf, PagesFail}
use Rattle.l4_symbols.specs.Spelling.{◌>>=◌, control_in, fpage_in, id_in, window_in, timeouts_in}
use Rattle.l4_symbols.specs.declared.reasons.Reason.{Reason}
use Rattle.l4_symbols.specs.declared.reasons.Reason.TheVariants.{BadId}
use Rattle.l4_symbols.specs.declared.spelling.FpageParts.{FpageParts}
use Rattle.l4_symbols.specs.declared.spelling.WindowParts.{WindowParts}
use Rattle.l4_symbols.specs.declared.spelling.WindowParts.TheVariants.{All, Nothing, Run}
use Rattle.l4_symbols.specs.declared.words.WordKind.{WordKind}
use Rattle.l4_symbols.specs.declared.words.WordKind.TheVariants.{Fpage as AnFpage, Window, Timeouts, Control, Id}

-- THE FPAGE OF A TOKEN: the bytes of its pages, with its rights
abbrev pub NamesFpage : PageSize → List ℕ → Fpage → Type 0
NamesFpage size token fpage = (parts : FpageParts) × (fpage_in token ≡ Ok parts) × IsFpageOf size parts.pages parts.rights fpage

-- the word of that fpage
abbrev pub FpageWord : PageSize → List ℕ → ℕ → Type 0
FpageWord size token word = (fpage : Fpage) × NamesFpage size token fpage × (word ≡ fpage_word fpage)

-- WHY A TOKEN NAMES NO FPAGE: it cannot be read, or there is no fpage of its pages
abbrev pub FpageRefused : PageSize → List ℕ → Reason → Type 0
FpageRefused size token reason =
    (fpage_in token ≡ Err reason) ⊎ ((parts : FpageParts) × (fpage_in token ≡ Ok parts) × PagesFail size parts.pages reason)

-- the window accepts pages anywhere, nowhere, or in these pages; it names no rights
abbrev pub IsWindowOf : PageSize → WindowParts → Fpage → Type 0
IsWindowOf size All window = window ≡ complete
IsWindowOf size Nothing window = window ≡ Nil
IsWindowOf size (Run pages) window = IsFpageOf size pages no_rights window

-- the page is one of the window's
abbrev pub IsInWindow : PageSize → WindowParts → ℕ → Type 0
IsInWindow size All page = page < space_pages size
IsInWindow size Nothing page = ⊥
IsInWindow size (Run pages) page = IsOneOf pages page

-- THE RECEIVE WINDOW OF A TOKEN
abbrev pub NamesWindow : PageSize → List ℕ → Fpage → Type 0
NamesWindow size token window = (parts : WindowParts) × (window_in token ≡ Ok parts) × IsWindowOf size parts window

-- the acceptor word of that window, whose low four bits are zero
abbrev pub WindowWord : PageSize → List ℕ → ℕ → Type 0
WindowWord size token word = (window : Fpage) × NamesWindow size token window × (word ≡ fpage_word window)

-- why what a token spells is no window
abbrev pub WindowFails : PageSize → WindowParts → Reason → Type 0
WindowFails size All reason = ⊥
WindowFails size Nothing reason = ⊥
WindowFails size (Run pages) reason = PagesFail size pages reason

-- WHY A TOKEN NAMES NO WINDOW: it cannot be read, or there is no fpage of its pages
abbrev pub WindowRefused : PageSize → List ℕ → Reason → Type 0
WindowRefused size token reason =
    (window_in token ≡ Err reason) ⊎ ((parts : WindowParts) × (window_in token ≡ Ok parts) × WindowFails size parts reason)

-- the send timeout and the receive timeout in one word
abbrev pub word_of_timeouts : Timeout × Timeout → ℕ
word_of_timeouts timeouts = timeout_bits timeouts.0 * 65536 + timeout_bits timeouts.1

-- THE TIMEOUTS WORD OF A TOKEN, or the reason why it has none
abbrev pub timeouts_word : List ℕ → Result ℕ Reason
timeouts_word token = do
  timeouts ← timeouts_in token
  Ok (word_of_timeouts timeouts)

-- the control word of Unmap: the number of fpages, minus one, in bits 5 to 0, and bit 6 where the caller's own pages lose the rights too
abbrev pub word_of_control : Bool × ℕ → ℕ
word_of_control control = control.1 - 1 + (if control.0 then 64 else 0)

-- THE CONTROL WORD OF A TOKEN, or the reason why it has none
unfoldable pub control_word : List ℕ → Result ℕ Reason
control_word token = do
  control ← control_in token
  Ok (word_of_control control)

-- the global id of a thread with this number and this version, if a thread can have it (L4 X.2 manual, ThreadId: global thread ids): the
-- number is in bits 31 to 14, and is not 0; the low six bits of the version are not all 0; and the word is not that of anythread
abbrev pub id_with : ℕ × ℕ → Result ℕ Reason
id_with parts =
    if nat_lt 0 parts.0 && nat_lt parts.0 262144 && nat_lt parts.1 16384 && not (parts.1 % 64 == 0) && nat_lt (parts.0 * 16384 + parts.1) 0xffff_ffff
    then Ok (parts.0 * 16384 + parts.1)
    else Err BadId

-- THE WORD OF A THREAD'S ID by its token: nil, any, THREAD or THREAD,VERSION; or the reason why it has none
unfoldable pub id_word : List ℕ → Result ℕ Reason
id_word token =
    if bytes_eq token (codes "nil") then Ok 0
    else (if bytes_eq token (codes "any") then Ok 0xffff_ffff
    else (id_in token >>= id_with))

-- THE WORD OF A TOKEN that names one by itself
abbrev pub NamesWord : WordKind → PageSize → List ℕ → ℕ → Type 0
NamesWord AnFpage size token word = FpageWord size token word
NamesWord Window size token word = WindowWord size token word
NamesWord Timeouts size token word = timeouts_word token ≡ Ok word
NamesWord Control size token word = control_word token ≡ Ok word
NamesWord Id size token word = id_word token ≡ Ok word

-- why a token names no such word
abbrev pub WordRefused : WordKind → PageSize → List ℕ → Reason → Type 0
WordRefused AnFpage size token reason = FpageRefused size token reason
WordRefused Window size token reason = WindowRefused size token reason
WordRefused Timeouts size token reason = timeouts_word token ≡ Err reason
WordRefused Control size token reason = control_word token ≡ Err reason
WordRefused Id size token reason = id_word token ≡ Err reason
