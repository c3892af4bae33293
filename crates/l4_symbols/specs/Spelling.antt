-- How symbolic tokens are spelled (this profile's own).
use Rattle.std.specs.Prelude.{ℕ, ◌+◌, ◌*◌, ◌%◌, ◌==◌, ◌&&◌, nat_lt, nat_le, Bool, true, false, not, List, length, slice_index, take, drop, Option, Some, None, option_map, Result, Ok, Err, ok_or, if◌then◌else◌, codes}
use Rattle.std.specs.List.{position}
use Rattle.std.specs.Str.{bytes_eq}
use Rattle.l4_fpage.specs.Rights.{RightsSet}
use Rattle.l4_ipc.specs.declared.constructors.Timeout.{Timeout}
use Rattle.l4_ipc.specs.declared.constructors.Timeout.TheVariants.{Never, Zero}
use Rattle.l4_text.specs.Numbers.{number_of, below}
use Rattle.l4_symbols.specs.declared.reasons.Reason.{Reason}
use Rattle.l4_symbols.specs.declared.reasons.Reason.TheVariants.{NoTag, Label, Unknown, NoBase, NoRights, Number, Rights, Window, Fpage, Timeouts, Control, FpageCount, Id, BadId}
use Rattle.l4_symbols.specs.declared.spelling.Pages.{Pages}
use Rattle.l4_symbols.specs.declared.spelling.ItemParts.{ItemParts}
use Rattle.l4_symbols.specs.declared.spelling.FpageParts.{FpageParts}
use Rattle.l4_symbols.specs.declared.spelling.WindowParts.{WindowParts}
use Rattle.l4_symbols.specs.declared.spelling.WindowParts.TheVariants.{All, Nothing, Run}

-- one part after another, up to the first that is refused
infixl 10 ◌>>=◌
abbrev pub ◌>>=◌ : {A B : Type 0} → Result A Reason → (A → Result B Reason) → Result B Reason
Ok a >>= f = f a
Err reason >>= f = Err reason

-- the parts of a text before and behind the first of these bytes
unfoldable pub cut_at : ℕ → List ℕ → Option (List ℕ × List ℕ)
cut_at byte text = option_map (λ place. (take place text, drop (place + 1) text)) (position (λ b. b == byte) text)

-- a number, decimal or hexadecimal after 0x
unfoldable pub number_in : List ℕ → Result ℕ Reason
number_in text = ok_or (number_of text) Number

-- a right's letter, or a hyphen in its place
abbrev pub right_in : ℕ → ℕ → Result Bool Reason
right_in letter byte = if byte == letter then Ok true else (if byte == 45 then Ok false else Err Rights)

-- r, w and x in turn, each of them or a hyphen in its place
unfoldable pub rights_in : List ℕ → Result RightsSet Reason
rights_in text = if length text == 3 then (do
  r ← right_in 114 (slice_index text 0)
  w ← right_in 119 (slice_index text 1)
  x ← right_in 120 (slice_index text 2)
  Ok (record { r = r; w = w; x = x })) else Err Rights

-- FIRST and COUNT
unfoldable pub counted_in : List ℕ × List ℕ → Result Pages Reason
counted_in parts = do
  first ← number_in parts.0
  count ← number_in parts.1
  Ok (record { first = first; count = count })

-- FIRST alone, or FIRST and COUNT
abbrev pub pages_of : List ℕ → Option (List ℕ × List ℕ) → Result Pages Reason
pages_of text None = do
  first ← number_in text
  Ok (record { first = first; count = 1 })
pages_of text (Some parts) = counted_in parts

-- FIRST or FIRST+COUNT
unfoldable pub pages_in : List ℕ → Result Pages Reason
pages_in text = pages_of text (cut_at 43 text)

-- the name of an item's kind: whether it is a grant item
abbrev pub is_grant_in : List ℕ → Result Bool Reason
is_grant_in name = if bytes_eq name (codes "map") then Ok false else (if bytes_eq name (codes "grant") then Ok true else Err Unknown)

-- map:PAGES>BASE:RIGHTS or grant:PAGES>BASE:RIGHTS
unfoldable pub item_in : List ℕ → Result ItemParts Reason
item_in token = do
  named ← ok_or (cut_at 58 token) Unknown
  grant ← is_grant_in named.0
  placed ← ok_or (cut_at 62 named.1) NoBase
  granted ← ok_or (cut_at 58 placed.1) NoRights
  pages ← pages_in placed.0
  base ← number_in granted.0
  rights ← rights_in granted.1
  Ok (record { grant = grant; pages = pages; base = base; rights = rights })

-- tag:LABEL
unfoldable pub label_in : List ℕ → Result ℕ Reason
label_in token = do
  named ← ok_or (cut_at 58 token) NoTag
  if bytes_eq named.0 (codes "tag") then ok_or (below 65536 (number_of named.1)) Label else Err NoTag

-- PAGES:RIGHTS
unfoldable pub fpage_in : List ℕ → Result FpageParts Reason
fpage_in token = do
  granted ← ok_or (cut_at 58 token) Fpage
  pages ← pages_in granted.0
  rights ← rights_in granted.1
  Ok (record { pages = pages; rights = rights })

-- FIRST+COUNT; +COUNT cannot be left out, because a number alone is the word itself
unfoldable pub run_in : List ℕ → Result WindowParts Reason
run_in token = do
  parts ← ok_or (cut_at 43 token) Window
  pages ← counted_in parts
  Ok (Run pages)

-- all, none or FIRST+COUNT
unfoldable pub window_in : List ℕ → Result WindowParts Reason
window_in token = if bytes_eq token (codes "all") then Ok All else (if bytes_eq token (codes "none") then Ok Nothing else run_in token)

-- never or zero
unfoldable pub timeout_in : List ℕ → Result Timeout Reason
timeout_in text = if bytes_eq text (codes "never") then Ok Never else (if bytes_eq text (codes "zero") then Ok Zero else Err Timeouts)

-- one timeout for both phases, or one for each
abbrev pub timeouts_of : List ℕ → Option (List ℕ × List ℕ) → Result (Timeout × Timeout) Reason
timeouts_of text None = do
  both ← timeout_in text
  Ok (both, both)
timeouts_of text (Some parts) = do
  send ← timeout_in parts.0
  receive ← timeout_in parts.1
  Ok (send, receive)

-- BOTH, or SEND,RECEIVE
unfoldable pub timeouts_in : List ℕ → Result (Timeout × Timeout) Reason
timeouts_in token = timeouts_of token (cut_at 44 token)

-- the name of a control word: whether the caller's own pages lose the rights too
abbrev pub is_flush_in : List ℕ → Result Bool Reason
is_flush_in name = if bytes_eq name (codes "unmap") then Ok false else (if bytes_eq name (codes "flush") then Ok true else Err Control)

-- a number of fpages: there are 1 to 64 of them
abbrev pub fpage_count_of : Option ℕ → Result ℕ Reason
fpage_count_of None = Err FpageCount
fpage_count_of (Some count) = if nat_lt 0 count && nat_le count 64 then Ok count else Err FpageCount

-- unmap:COUNT or flush:COUNT: whether the caller's own pages lose the rights too, and the number of fpages
unfoldable pub control_in : List ℕ → Result (Bool × ℕ) Reason
control_in token = do
  named ← ok_or (cut_at 58 token) Control
  flush ← is_flush_in named.0
  count ← fpage_count_of (number_of named.1)
  Ok (flush, count)

-- a number of a thread or a version
unfoldable pub id_number_in : List ℕ → Result ℕ Reason
id_number_in text = ok_or (number_of text) Id

-- THREAD alone, whose version is 1, or THREAD and VERSION
abbrev pub id_parts : List ℕ → Option (List ℕ × List ℕ) → Result (ℕ × ℕ) Reason
id_parts text None = do
  number ← id_number_in text
  Ok (number, 1)
id_parts text (Some parts) = do
  number ← id_number_in parts.0
  version ← id_number_in parts.1
  Ok (number, version)

-- THREAD or THREAD,VERSION
unfoldable pub id_in : List ℕ → Result (ℕ × ℕ) Reason
id_in token = id_parts token (cut_at 44 token)
