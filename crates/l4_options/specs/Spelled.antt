-- What the words of a command line spell, by the rows that clap found under the names of its arguments (this profile's own).
use Rattle.std.specs.Prelude.{ℕ, ◌≡◌, ◌==◌, ◌||◌, ◌&&◌, ◌^◌, nat_le, Bool, true, false, List, [], ◌∷◌, length, map, codes, slice_index, Option, Some, None, option_map, option_and_then, unwrap_or, if◌then◌else◌}
use Rattle.std.specs.Str.{bytes_eq}
use Rattle.std.specs.String.{string_bytes}
use Rattle.clap.specs.Walk.{Row, Text, all_of, first_of}
use Rattle.l4_fpage.specs.Pages.{max_frames}
use Rattle.l4_fpage.specs.Rights.{RightsSet}
use Rattle.l4_fpage.specs.declared.sizes.PageSize.{PageSize}
use Rattle.l4_fpage.specs.declared.sizes.PageSize.TheVariants.{Kib4, Kib1}
use Rattle.l4_msg.specs.Messages.{message_words}
use Rattle.l4_msg.specs.declared.messages.Message.{Message}
use Rattle.l4_msg.specs.declared.regions.Region.{Region}
use Rattle.l4_text.specs.Numbers.{below, digit_of, number_of, value_from}
use Rattle.l4_symbols.specs.Messages.{IsMessageOf}
use Rattle.l4_symbols.specs.Words.{NamesWord}
use Rattle.l4_symbols.specs.declared.words.WordKind.{WordKind}
use Rattle.l4_symbols.specs.declared.words.WordKind.TheVariants.{Fpage as AnFpage, Window as AWindow, Timeouts, Control as AControl, Id as AnId}
use Rattle.l4_decode.specs.declared.decoding.Reading.{Reading}
use Rattle.l4_decode.specs.declared.decoding.Reading.TheVariants.{Each, Message as AMessage, Fpage, Window, Id, Control}
use Rattle.l4_options.specs.declared.requests.ScriptOptions.{ScriptOptions}

-- ---- words

-- the word of an argument; an empty one where there is none
abbrev pub word_at : List Row → Text → Text
word_at found id = unwrap_or (first_of id found) []

-- the words of an argument
abbrev pub words_at : List Row → Text → List Text
words_at found id = unwrap_or (all_of id found) []

-- the switch is on: clap gives its name to the word true where it was given, and to the word false elsewhere
abbrev pub is_on : List Row → Text → Bool
is_on found id = bytes_eq (word_at found id) (codes "true")

-- what the word of an option spells, or this where the option is left out
abbrev pub spelled_or : {A : Type 0} → A → (Text → Option A) → Option Text → Option A
spelled_or left_out spells None = Some left_out
spelled_or left_out spells (Some word) = spells word

-- ---- values

infixl 10 ◌>>=◌
abbrev pub ◌>>=◌ : {A B : Type 0} → Option A → (A → Option B) → Option B
o >>= f = option_and_then f o

-- a right's letter, or - or _ in its place
abbrev pub right_of : ℕ → ℕ → Option Bool
right_of letter byte = if byte == letter then Some true else (if byte == 45 || byte == 95 then Some false else None)

-- r, w and x in turn, each of them or - or _ in its place
unfoldable pub rights_of : Text → Option RightsSet
rights_of word = if length word == 3 then (do
  r ← right_of 114 (slice_index word 0)
  w ← right_of 119 (slice_index word 1)
  x ← right_of 120 (slice_index word 2)
  Some (record { r = r; w = w; x = x })) else None

-- a number below 2^32 in one or more decimal digits
unfoldable pub decimal_of : Text → Option ℕ
decimal_of word = below (2 ^ 32) (if length word == 0 then None else value_from 10 digit_of 0 word)

-- a number of frames: 1 to 4,096, in decimal
abbrev pub frame_count_of : Text → Option ℕ
frame_count_of word = option_and_then (λ n. if nat_le 1 n && nat_le n max_frames then Some n else None) (decimal_of word)

-- the bytes of a page: 4,096 or 1,024, in decimal
abbrev pub page_size_of : Text → Option PageSize
page_size_of word = option_and_then (λ n. if n == 4096 then Some Kib4 else (if n == 1024 then Some Kib1 else None)) (decimal_of word)

-- the name of a reading
abbrev pub reading_of : Text → Option Reading
reading_of word =
    if bytes_eq word (codes "message") then Some AMessage
    else (if bytes_eq word (codes "fpage") then Some Fpage
    else (if bytes_eq word (codes "window") then Some Window
    else (if bytes_eq word (codes "id") then Some Id
    else (if bytes_eq word (codes "control") then Some Control else None))))

-- the name of what tokens are encoded as: words of this kind, or a message
abbrev pub kind_of : Text → Option (Option WordKind)
kind_of word =
    if bytes_eq word (codes "message") then Some None
    else (if bytes_eq word (codes "fpage") then Some (Some AnFpage)
    else (if bytes_eq word (codes "window") then Some (Some AWindow)
    else (if bytes_eq word (codes "timeouts") then Some (Some Timeouts)
    else (if bytes_eq word (codes "control") then Some (Some AControl)
    else (if bytes_eq word (codes "id") then Some (Some AnId) else None)))))

-- the words spell these numbers, decimal or hexadecimal, one after another
abbrev pub Spell : List Text → List ℕ → Type 0
Spell words numbers = map number_of words ≡ map Some numbers

-- the words that the tokens name, each by itself, one after another
abbrev pub AreWords : WordKind → PageSize → List Text → List ℕ → Type 0
AreWords kind size [] words = words ≡ []
AreWords kind size (token ∷ tokens) words =
    (word : ℕ) × (rest : List ℕ) × NamesWord kind size token word × AreWords kind size tokens rest × (words ≡ word ∷ rest)

-- the words of the message that the tokens name, or of each token by itself
abbrev pub Encodes : Option WordKind → PageSize → List Text → List ℕ → Type 0
Encodes None size tokens words = (message : Message) × IsMessageOf size tokens message × (words ≡ message_words message)
Encodes (Some kind) size tokens words = AreWords kind size tokens words

-- ---- arguments

-- the word of the argument or of the option spells this number in decimal
abbrev pub IsDecimalAt : List Row → Text → ℕ → Type 0
IsDecimalAt found id n = decimal_of (word_at found id) ≡ Some n

-- the word rights spells these rights
abbrev pub AreRightsIn : List Row → RightsSet → Type 0
AreRightsIn found rights = rights_of (word_at found (codes "rights")) ≡ Some rights

-- the region that is spelled by the four words of a plan or a check
pub record IsRegionIn (found : List Row) (region : Region) : Type 0 where
  pub source : IsDecimalAt found (codes "source") region.source
  pub target : IsDecimalAt found (codes "target") region.target
  pub count : IsDecimalAt found (codes "count") region.count
  pub rights : AreRightsIn found region.rights

-- the number of frames: 256 where it is left out
abbrev pub AreFramesIn : List Row → ℕ → Type 0
AreFramesIn found frames = spelled_or 256 frame_count_of (first_of (codes "frames") found) ≡ Some frames

-- the size of pages: 4 KiB where it is left out
abbrev pub IsSizeIn : List Row → PageSize → Type 0
IsSizeIn found size = spelled_or Kib4 page_size_of (first_of (codes "page-size") found) ≡ Some size

-- the frames, the size and the file of a script
pub record IsScriptIn (found : List Row) (script : ScriptOptions) : Type 0 where
  pub frames : AreFramesIn found script.frames
  pub size : IsSizeIn found script.size
  pub file : option_map string_bytes script.file ≡ first_of (codes "file") found

-- the words to explain
abbrev pub AreNumbersIn : List Row → List ℕ → Type 0
AreNumbersIn found = Spell (words_at found (codes "words"))

-- how the words are read: where that is left out, a word alone is read in each way, and several are a message
abbrev pub IsReadingIn : List Row → ℕ → Reading → Type 0
IsReadingIn found words reading =
    spelled_or (if words == 1 then Each else AMessage) reading_of (first_of (codes "as") found) ≡ Some reading

-- what the tokens are encoded as: a message where that is left out
abbrev pub IsKindIn : List Row → Option WordKind → Type 0
IsKindIn found kind = spelled_or None kind_of (first_of (codes "as") found) ≡ Some kind

-- the words that the tokens name, for pages of that size
abbrev pub AreEncodedIn : List Row → List ℕ → Type 0
AreEncodedIn found words =
    (size : PageSize) × (kind : Option WordKind) × IsSizeIn found size × IsKindIn found kind × Encodes kind size (words_at found (codes "tokens")) words

-- the number of states: 1,000,000 where it is left out
abbrev pub IsCountAt : List Row → Text → ℕ → Type 0
IsCountAt found id most = spelled_or 1000000 decimal_of (first_of id found) ≡ Some most

-- the chosen outcome, if one is chosen
abbrev pub IsChosenAt : List Row → Text → Option ℕ → Type 0
IsChosenAt found id None = first_of id found ≡ None
IsChosenAt found id (Some number) = IsDecimalAt found id number

-- the names of the files to test
abbrev pub AreFilesIn : List Row → List Text → Type 0
AreFilesIn found files = files ≡ words_at found (codes "files")
