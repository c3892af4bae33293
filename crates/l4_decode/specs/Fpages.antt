-- The texts of fpages and of receive windows (this profile's own).
use Rattle.std.specs.Prelude.{ℕ, ◌+◌, ◌-◌, ◌*◌, ◌/◌, ◌^◌, ◌==◌, ◌&&◌, ◌||◌, Bool, List, [], ◌++◌, nat_lt, nat_le, if◌then◌else◌, codes, decimal}
use Rattle.l4_fpage.specs.Rights.{RightsSet}
use Rattle.l4_fpage.specs.Fpages.{size_field, base_field, rights_field}
use Rattle.l4_fpage.specs.Pages.{page_log, page_bytes, space_pages}
use Rattle.l4_fpage.specs.declared.fpages.Fpage.{Fpage}
use Rattle.l4_fpage.specs.declared.fpages.Fpage.TheVariants.{Nil, Complete, Sized}
use Rattle.l4_fpage.specs.declared.sizes.PageSize.{PageSize}
use Rattle.l4_msg.specs.declared.messages.MsgFault.TheVariants.{BadWindow}
use Rattle.l4_answers.specs.Pages.{rights_text}
use Rattle.l4_decode.specs.Spelling.{hex_text, meaning_line}
use Rattle.l4_decode.specs.Refusals.{refusal_text}

-- a range of pages: its first page, its last page and their number
unfoldable pub pages_text : ℕ → ℕ → List ℕ
pages_text first count =
    if count == 1 then codes "page " ++ decimal first
    else codes "pages " ++ decimal first ++ codes " to " ++ decimal (first + count - 1) ++ codes " (" ++ decimal count ++ codes ")"

-- a range of bytes that is smaller than a page
unfoldable pub bytes_text : ℕ → ℕ → List ℕ
bytes_text base log = decimal (2 ^ log) ++ codes " bytes at " ++ hex_text base ++ codes ", less than a page"

-- 2 ^ log bytes from `base` on, as pages of this size
unfoldable pub extent_text : PageSize → ℕ → ℕ → List ℕ
extent_text size base log =
    if nat_lt log (page_log size) then bytes_text base log else pages_text (base / page_bytes size) (2 ^ (log - page_log size))

unfoldable pub complete_text : PageSize → List ℕ
complete_text size = codes "complete, " ++ pages_text 0 (space_pages size)

-- THE TEXT OF AN FPAGE: its pages, and its rights
unfoldable pub place_text : PageSize → Fpage → List ℕ
place_text size Nil = codes "nil"
place_text size (Complete rights) = complete_text size
place_text size (Sized e) = extent_text size e.base e.log

unfoldable pub granted_text : Fpage → List ℕ
granted_text Nil = []
granted_text (Complete rights) = codes ", " ++ rights_text rights
granted_text (Sized e) = codes ", " ++ rights_text e.rights

-- THE SAME FOR ITS WORD: the size field and the base determine what it is
unfoldable pub is_complete : ℕ → ℕ → Bool
is_complete log base = ((log == 1) && (base == 0)) || (log == 32)

unfoldable pub is_fpage : ℕ → ℕ → Bool
is_fpage log base = (log == 0) || (is_complete log base || (nat_le 10 log && nat_le log 31))

unfoldable pub place_of : PageSize → ℕ → ℕ → List ℕ
place_of size log base =
    if log == 0 then codes "nil" else (if is_complete log base then complete_text size else extent_text size (base / 2 ^ log * 2 ^ log) log)

unfoldable pub granted_of : ℕ → RightsSet → List ℕ
granted_of log rights = if log == 0 then [] else (codes ", " ++ rights_text rights)

unfoldable pub no_fpage_text : ℕ → List ℕ
no_fpage_text log = codes "not an fpage: its size field is " ++ decimal log

unfoldable pub fpage_text : PageSize → ℕ → List ℕ
fpage_text size word =
    if is_fpage (size_field word) (base_field word) then place_of size (size_field word) (base_field word) ++ granted_of (size_field word) (rights_field word)
    else no_fpage_text (size_field word)

unfoldable pub fpage_line : PageSize → ℕ → List ℕ
fpage_line size word = meaning_line (codes "fpage ") word (fpage_text size word)

-- THE TEXT OF A RECEIVE WINDOW, whose rights are ignored
unfoldable pub taken_text : PageSize → Fpage → List ℕ
taken_text size Nil = codes "nil, accepts no items"
taken_text size (Complete rights) = complete_text size
taken_text size (Sized e) = extent_text size e.base e.log

unfoldable pub taken_of : PageSize → ℕ → ℕ → List ℕ
taken_of size log base = if log == 0 then codes "nil, accepts no items" else place_of size log base

-- the word as which an acceptor is read: its low four bits are ignored
abbrev pub window_word : ℕ → ℕ
window_word word = word / 16 * 16

unfoldable pub window_text : PageSize → ℕ → List ℕ
window_text size word =
    if is_fpage (size_field (window_word word)) (base_field (window_word word)) then taken_of size (size_field (window_word word)) (base_field (window_word word))
    else refusal_text BadWindow

unfoldable pub window_line : PageSize → ℕ → List ℕ
window_line size word = meaning_line (codes "window ") word (window_text size word)
