-- The words of the parts of a state (this profile's own).
use Rattle.std.specs.Prelude.{ℕ, ◌/◌, ◌%◌, ◌^◌, Bool, true, false, List, [], ◌∷◌, ◌++◌, length, Option, Some, None}
use Rattle.std.specs.List.{flat_map}
use Rattle.l4_fpage.specs.Fpages.{fpage_word}
use Rattle.l4_fpage.specs.Rights.{bits_of}
use Rattle.l4_fpage.specs.declared.sizes.PageSize.{PageSize}
use Rattle.l4_fpage.specs.declared.sizes.PageSize.TheVariants.{Kib4, Kib1}
use Rattle.l4_msg.specs.declared.items.Item.{Item}
use Rattle.l4_msg.specs.declared.items.Item.TheVariants.{Map, Grant}
use Rattle.l4_mapdb.specs.declared.Mapping.{Mapping}
use Rattle.l4_mapdb.specs.declared.Place.{Place}
use Rattle.l4_names.specs.Names.{Names}
use Rattle.l4_names.specs.declared.names.NamedThread.{NamedThread}
use Rattle.l4_pager.specs.Regions.{Regions}
use Rattle.l4_pager.specs.declared.regions.Entry.{Entry}
use Rattle.l4_threads.specs.declared.Later.{Later}
use Rattle.l4_threads.specs.declared.Receiving.{Receiving}
use Rattle.l4_threads.specs.declared.Reply.{Reply}
use Rattle.l4_threads.specs.declared.Reply.TheVariants.{Ipc, Hit, Answered, FaultFailed, Unmapped, Controlled, Gone}
use Rattle.l4_threads.specs.declared.Sending.{Sending}
use Rattle.l4_threads.specs.declared.Source.{Source}
use Rattle.l4_threads.specs.declared.Source.TheVariants.{Anyone, Thread as One}
use Rattle.l4_threads.specs.declared.State.{State}
use Rattle.l4_threads.specs.declared.State.TheVariants.{Running, Sending as Sends, Receiving as Receives}
use Rattle.l4_threads.specs.declared.Thread.{Thread}

-- 1 for true, and 0 for false
abbrev pub bit : Bool → ℕ
bit true = 1
bit false = 0

-- the two words of a number below 2 ^ 64
abbrev pub wide : ℕ → List ℕ
wide n = n % 2 ^ 32 ∷ n / 2 ^ 32 ∷ []

-- the number of words, and the words
abbrev pub counted : List ℕ → List ℕ
counted words = length words ∷ words

-- the number of counts, and the two words of each
abbrev pub counts_words : List ℕ → List ℕ
counts_words counts = length counts ∷ flat_map wide counts

-- the size of pages
abbrev pub size_word : PageSize → ℕ
size_word Kib4 = 0
size_word Kib1 = 1

-- THREADS

abbrev pub item_words : Item → List ℕ
item_words (Map base fpage) = 1 ∷ base ∷ fpage_word fpage ∷ []
item_words (Grant base fpage) = 2 ∷ base ∷ fpage_word fpage ∷ []

-- the number of items, and the items
abbrev pub items_words : List Item → List ℕ
items_words items = length items ∷ flat_map item_words items

abbrev pub reply_words : Reply → List ℕ
reply_words (Ipc reply) = 1 ∷ reply.tag ∷ reply.error ∷ reply.«from».0 ∷ counted reply.words.items
reply_words Hit = 2 ∷ []
reply_words Answered = 3 ∷ []
reply_words (FaultFailed code) = 4 ∷ code ∷ []
reply_words Unmapped = 5 ∷ []
reply_words Controlled = 6 ∷ []
reply_words Gone = 7 ∷ []

-- whom a thread receives from
abbrev pub source_words : Source → List ℕ
source_words Anyone = 0 ∷ []
source_words (One number) = 1 ∷ number ∷ []

abbrev pub receiving_words : Receiving → List ℕ
receiving_words r = 8 ∷ bit r.expires ∷ bit r.fault ∷ fpage_word r.window ∷ source_words r.«from»

-- the receive phase that follows a send phase
abbrev pub then_words : Option Later → List ℕ
then_words None = 0 ∷ []
then_words (Some later) = 1 ∷ later.«from».0 ∷ bit later.expires ∷ fpage_word later.window ∷ []

abbrev pub sending_words : Sending → List ℕ
sending_words s = 9 ∷ s.to ∷ bit s.expires ∷ bit s.fault ∷ then_words s.«then» ++ counted s.words.items ++ items_words s.items.items

-- the first word is 0 or that of a reply for a running thread, 8 for one that receives, and 9 for one that sends
abbrev pub state_words : State → List ℕ
state_words (Running None) = 0 ∷ []
state_words (Running (Some reply)) = reply_words reply
state_words (Sends sending) = sending_words sending
state_words (Receives receiving) = receiving_words receiving

abbrev pub thread_words : Thread → List ℕ
thread_words thread = thread.id.0 ∷ thread.pager.0 ∷ wide thread.space ++ state_words thread.state

-- PAGES

abbrev pub parent_words : Option Place → List ℕ
parent_words None = 0 ∷ []
parent_words (Some place) = 1 ∷ place.page ∷ wide place.space

abbrev pub mapping_words : Mapping → List ℕ
mapping_words mapping = mapping.frame ∷ bits_of mapping.rights ∷ parent_words mapping.parent

-- TABLES

abbrev pub entry_words : Entry → List ℕ
entry_words entry = entry.first ∷ entry.source ∷ entry.count ∷ bits_of entry.rights ∷ []

abbrev pub table_words : Regions → List ℕ
table_words table = size_word table.size ∷ length table.entries ∷ flat_map entry_words table.entries

-- NAMES

-- the number of a thread, and its name
abbrev pub name_words : NamedThread → List ℕ
name_words one = one.number ∷ counted one.name

-- the number of names, and each name with its thread
abbrev pub names_words : Names → List ℕ
names_words names = length names ∷ flat_map name_words names
