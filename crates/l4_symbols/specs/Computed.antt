-- The words of symbolic tokens, computed from what they spell, or the first reason why there are none (this profile's own).
use Rattle.std.specs.Prelude.{ℕ, zero, suc, ◌+◌, ◌*◌, ◌%◌, ◌^◌, ◌==◌, nat_lt, nat_le, List, Option, Some, None, Result, Ok, Err, ok_or, if◌then◌else◌}
use Rattle.l4_fpage.specs.Pages.{page_log, page_bytes, space_log, space_pages}
use Rattle.l4_fpage.specs.Rights.{RightsSet, no_rights, bits_of}
use Rattle.l4_fpage.specs.declared.sizes.PageSize.{PageSize}
use Rattle.l4_symbols.specs.Spelling.{◌>>=◌, item_in, fpage_in, window_in}
use Rattle.l4_symbols.specs.Words.{control_word, id_word, timeouts_word}
use Rattle.l4_symbols.specs.declared.reasons.Reason.{Reason}
use Rattle.l4_symbols.specs.declared.reasons.Reason.TheVariants.{Count, Beyond, Unaligned, Base}
use Rattle.l4_symbols.specs.declared.spelling.Pages.{Pages}
use Rattle.l4_symbols.specs.declared.spelling.ItemParts.{ItemParts}
use Rattle.l4_symbols.specs.declared.spelling.WindowParts.{WindowParts}
use Rattle.l4_symbols.specs.declared.spelling.WindowParts.TheVariants.{All, Nothing, Run}
use Rattle.l4_symbols.specs.declared.words.WordKind.{WordKind}
use Rattle.l4_symbols.specs.declared.words.WordKind.TheVariants.{Fpage as AnFpage, Window, Timeouts, Control, Id}

-- the binary logarithm of a number, if it is one of the first n powers of two
abbrev pub log_below : ℕ → ℕ → Option ℕ
log_below zero count = None
log_below (suc n) count = if count == 2 ^ n then Some n else log_below n count

-- the binary logarithm of the number of pages, if they are a block of the space
unfoldable pub block_log : PageSize → Pages → Result ℕ Reason
block_log size pages = do
  log ← ok_or (log_below 32 pages.count) Count
  if nat_lt (space_pages size) (pages.first + pages.count) then Err Beyond else (if nat_lt 0 (pages.first % pages.count) then Err Unaligned else Ok log)

-- the word of 2 ^ log pages from `first` on, which is that of the complete fpage for the whole space
abbrev pub block_word : PageSize → ℕ → ℕ → RightsSet → ℕ
block_word size first log rights = (if log == space_log size then 16 else first * page_bytes size + (log + page_log size) * 16) + bits_of rights

-- THE WORD OF PAGES, with these rights
unfoldable pub pages_word : PageSize → Pages → RightsSet → Result ℕ Reason
pages_word size pages rights = do
  log ← block_log size pages
  Ok (block_word size pages.first log rights)

-- THE WORD OF AN FPAGE'S TOKEN
unfoldable pub fpage_word_in : PageSize → List ℕ → Result ℕ Reason
fpage_word_in size token = do
  parts ← fpage_in token
  pages_word size parts.pages parts.rights

-- the acceptor word of a window
abbrev pub window_word_of : PageSize → WindowParts → Result ℕ Reason
window_word_of size All = Ok 16
window_word_of size Nothing = Ok 0
window_word_of size (Run pages) = pages_word size pages no_rights

-- THE ACCEPTOR WORD OF A WINDOW'S TOKEN
unfoldable pub window_word_in : PageSize → List ℕ → Result ℕ Reason
window_word_in size token = do
  parts ← window_in token
  window_word_of size parts

-- THE WORD OF A TOKEN that names one by itself
abbrev pub word_in : WordKind → PageSize → List ℕ → Result ℕ Reason
word_in AnFpage size token = fpage_word_in size token
word_in Window size token = window_word_in size token
word_in Timeouts size token = timeouts_word token
word_in Control size token = control_word token
word_in Id size token = id_word token

-- the first word of an item after which none follows: the send base, and the kind
abbrev pub first_word : PageSize → ItemParts → ℕ
first_word size parts = parts.base * page_bytes size + (if parts.grant then 10 else 8)

-- the two words of an item, by what its token spells
unfoldable pub parts_words : PageSize → ItemParts → Result (ℕ × ℕ) Reason
parts_words size parts = do
  second ← pages_word size parts.pages parts.rights
  if nat_le (space_pages size) parts.base then Err Base else Ok (first_word size parts, second)

-- THE TWO WORDS OF AN ITEM'S TOKEN, after which no item follows
unfoldable pub item_words_in : PageSize → List ℕ → Result (ℕ × ℕ) Reason
item_words_in size token = do
  parts ← item_in token
  parts_words size parts
