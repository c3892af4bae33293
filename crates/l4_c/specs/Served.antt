-- The tables of pagers and of sigma0, as C uses them (this profile's own).
use Rattle.std.specs.Prelude.{◌≡◌, ◌⊎◌, ℕ, ◌<◌, ◌≤◌, List, codes, Option, None, Some, MatchOption}
use Rattle.std.specs.FinMap as fin
use Rattle.l4_fpage.specs.Pages.{max_frames}
use Rattle.l4_fpage.specs.Rights.{set_of_bits}
use Rattle.l4_fpage.specs.declared.sizes.PageSize.{PageSize}
use Rattle.l4_msg.specs.Messages.{MessageReads}
use Rattle.l4_msg.specs.declared.messages.Message.{Message}
use Rattle.l4_pager.specs.Regions.{Regions, no_entries, with_entry, CanAdd, AddFails, code_of, entry_for, source_of, Answers as AnswersByTable}
use Rattle.l4_pager.specs.declared.regions.PagerRefusal.{PagerRefusal}
use Rattle.l4_pager.specs.declared.regions.PagerRefusal.TheVariants.{NoRegion}
use Rattle.l4_sigma0.specs.Owners.{Owners, Answers as AnswersByOwners}
use Rattle.l4_refusals.specs.Texts.{spelled}
use Rattle.l4_c_values.specs.Told.{no_page_result, page_result}
use Rattle.l4_c_values.specs.declared.regions.RegionGiven.{RegionGiven}
use Rattle.l4_c_values.specs.declared.results.PageResult.{PageResult}
use Rattle.l4_c_values.specs.declared.messages.MessageResult.{MessageResult}
use Rattle.l4_c_values.specs.Messages.{no_message_result, message_result, TellsUnread}
use Rattle.l4_c_values.specs.Regions.{entry_of}

abbrev pub entry_refusal : PagerRefusal → ℕ
entry_refusal refusal = spelled (code_of refusal)

-- An empty handle then holds a table without entries for pages of this size, unless an allocation failed. A handle that is not empty is
-- refused (B2) and unchanged.
abbrev pub MakesTable : Option Regions → PageSize → ℕ → Option Regions → Type 0
MakesTable (Some t) size number new = (number ≡ spelled (codes "B2")) × (new ≡ Some t)
MakesTable None size number new = ((number ≡ 0) × (new ≡ Some (no_entries size))) ⊎ ((number ≡ spelled (codes "NoMemory")) × (new ≡ None))

-- the region is added at the end of the table, or it is refused and nothing changes
abbrev pub Adds : Option Regions → RegionGiven → ℕ → Option Regions → Type 0
Adds None g number new = (number ≡ spelled (codes "B1")) × (new ≡ None)
Adds (Some t) g number new =
    (CanAdd t (entry_of g) × (number ≡ 0) × (new ≡ Some (with_entry t (entry_of g))))
    ⊎ ((refusal : PagerRefusal) × AddFails t (entry_of g) refusal × (number ≡ entry_refusal refusal) × (new ≡ Some t))

-- the source page of the page, by the entry whose rights include the access; or P2, if there is no such entry
abbrev pub FindsSource : Option Regions → ℕ → ℕ → PageResult → Type 0
FindsSource None page access r = r ≡ no_page_result (spelled (codes "B1"))
FindsSource (Some t) page access r =
    MatchOption (entry_for t.entries page (set_of_bits access)) (r ≡ no_page_result (entry_refusal NoRegion)) (λ e. r ≡ page_result (source_of e page))

-- the table's answer to the message, or the reason why the words are not a message
abbrev pub TellsTablesAnswer : Option Regions → List ℕ → MessageResult → Type 0
TellsTablesAnswer None words r = r ≡ no_message_result (spelled (codes "B1")) 0
TellsTablesAnswer (Some t) words r =
    TellsUnread words r
    ⊎ ((m : Message) × MessageReads words m × (answer : Message) × AnswersByTable t m answer × (r ≡ message_result answer))

-- An empty handle then holds a table of this many frames of this size, none of which has an owner, unless the number of frames is not 1 to
-- 4,096 (K6) or an allocation failed. A handle that is not empty is refused (B2) and unchanged.
abbrev pub MakesOwners : Option Owners → PageSize → ℕ → ℕ → Option Owners → Type 0
MakesOwners (Some old) size frames number new = (number ≡ spelled (codes "B2")) × (new ≡ Some old)
MakesOwners None size frames number new =
    ((1 ≤ frames) × (frames ≤ max_frames) × (number ≡ 0) × (new ≡ Some (record { size = size; frames = frames; owner = fin.empty })))
    ⊎ (((frames ≡ 0) ⊎ (max_frames < frames)) × (number ≡ spelled (codes "K6")) × (new ≡ None))
    ⊎ ((1 ≤ frames) × (frames ≤ max_frames) × (number ≡ spelled (codes "NoMemory")) × (new ≡ None))

-- sigma0's answer to the message from this space, or the reason why the words are not a message, after which nothing has changed
abbrev pub TellsSigma0sAnswer : Option Owners → ℕ → List ℕ → MessageResult → Option Owners → Type 0
TellsSigma0sAnswer None space words r new = (r ≡ no_message_result (spelled (codes "B1")) 0) × (new ≡ None)
TellsSigma0sAnswer (Some old) space words r new =
    (TellsUnread words r × (new ≡ Some old))
    ⊎ ((m : Message) × MessageReads words m × (answer : Message) × (after : Owners) × AnswersByOwners old space m answer after × (r ≡ message_result answer) × (new ≡ Some after))
