-- How the mapping of a present place got there: the chain of moves that led to it, defined by the steps of a run and not by the parents of
-- places (this profile's own).
use Rattle.std.specs.Prelude.{◌≡◌, ◌≢◌, ℕ, ◌⊎◌, List, [], ◌∷◌, ◌++◌, Some, Ok, slice_get}
use Rattle.std.specs.List.{All}
use Rattle.l4_fpage.specs.Rights.{Right, Within}
use Rattle.l4_fpage.specs.Fpages.{rights_of}
use Rattle.l4_fpage.specs.declared.fpages.Fpage.{Fpage}
use Rattle.l4_msg.specs.Moves.{fpage_of}
use Rattle.l4_msg.specs.declared.items.Item.{Item}
use Rattle.l4_mapdb.specs.declared.Place.{Place}
use Rattle.l4_mapdb.specs.declared.Mapping.{Mapping}
use Rattle.l4_mapdb.specs.Mappings.{Mappings, shown, IsPresent, Descends, rights_at}
use Rattle.l4_mapdb.specs.Transfer.{PageMove}
use Rattle.l4_unmap.specs.Unmap.{UnmapReads, with_own, LosesTo}
use Rattle.l4_threads.specs.declared.Receiving.{Receiving}
use Rattle.l4_threads.specs.declared.Sending.{Sending}
use Rattle.l4_threads.specs.declared.Thread.{Thread}
use Rattle.l4_threads.specs.Threads.{thread_at}
use Rattle.l4_ipc.specs.declared.calls.Call.TheVariants.{Unmap}
use Rattle.l4_ipc.specs.declared.calls.UnmapCall.{UnmapCall}
use Rattle.l4_ipc.specs.declared.steps.Step.TheVariants.{Start}
use Rattle.l4_ipc.specs.declared.steps.Answer.{Answer}
use Rattle.l4_ipc.specs.Moving.{IsUsedBy}
use Rattle.l4_ipc.specs.Events.{Event, IsDelivery}

-- CHAINS OF MOVES

-- One transfer of a chain: the move of a page, with the mapping of its source just before the transfer, and the item that named the page.
pub record Link : Type 0 where
  pub move : PageMove
  pub item : Item

-- the event is a delivered transfer, and this is one of its used moves with the item that named it
pub record Brings (event : Event) (link : Link) : Type 0 where
  pub «from» : Thread
  pub to : Thread
  pub sends : Sending
  pub takes : Receiving
  pub delivery : IsDelivery event «from» to sends takes
  pub used : IsUsedBy event.before.size event.before.mappings «from».space to.space sends.items.items takes.window link.move
  pub item : slice_get sends.items.items link.move.item ≡ Some link.item

-- the event neither removes the place nor writes it again
pub record LeavesAlone (event : Event) (place : Place) : Type 0 where
  pub before : IsPresent event.before.mappings place
  pub after : IsPresent event.after.mappings place
  pub not_written : (link : Link) → Brings event link → link.move.target ≢ place

-- Over these events, in order, the links lead from the first place to the last. Each event leaves the place that was reached alone, or it
-- is a delivered transfer, and one of its used moves continues from that place.
abbrev pub Leads : List Event → Place → List Link → Place → Type 0
Leads [] first links last = (links ≡ []) × (first ≡ last)
Leads (event ∷ events) first links last =
    (LeavesAlone event first × Leads events first links last)
    ⊎ ((link : Link) × (later : List Link) × (links ≡ link ∷ later)
    × Brings event link × (link.move.source ≡ first) × Leads events link.move.target later last)

-- A place that is present after the events has exactly one provenance: the links lead to it from a place of sigma0 that was present before
-- all events, and no other links and no other place do. Its frame is that of the place of sigma0. Its rights are within those that each
-- link's source had just before the transfer, those that each link's item named, and those of each place from which it now descends.
pub record HasProvenance (start : Mappings) (events : List Event) (now : Mappings) (place : Place) (shows : Mapping) : Type 0 where
  pub origin : Place
  pub of_sigma0 : origin.space ≡ 0
  pub first : Mapping
  pub at_start : shown start origin ≡ Some first
  pub links : List Link
  pub leads : Leads events origin links place
  pub only : (other : Place) (others : List Link) → Leads events other others place → (other ≡ origin) × (others ≡ links)
  pub frame : shows.frame ≡ first.frame
  pub within_sources : All (λ link. Within shows.rights link.move.shows.rights) links
  pub within_items : All (λ link. Within shows.rights (rights_of (fpage_of link.item))) links
  pub within_above : (above : Place) → Descends now place above → Within shows.rights (rights_at now above)

-- each place that is present after the events has a provenance
abbrev pub HaveProvenance : Mappings → List Event → Mappings → Type 0
HaveProvenance start events now = (place : Place) (shows : Mapping) → shown now place ≡ Some shows → HasProvenance start events now place shows

-- WHAT A FLUSH ENDS

-- The event is an Unmap that removes all three rights of the place, whether or not it has them, and so the place.
pub record Flushes (event : Event) (place : Place) : Type 0 where
  pub number : ℕ
  pub call : UnmapCall
  pub step : event.step ≡ Start number (Unmap call)
  pub answer : Answer
  pub ok : event.answer ≡ Ok answer
  pub caller : Thread
  pub caller_at : thread_at event.before.threads number ≡ Some caller
  pub fpages : List Fpage
  pub reads : UnmapReads call.control call.words.items fpages
  pub loses : (right : Right) → LosesTo event.before.size event.before.mappings caller.space (with_own call.control) fpages place right

-- Links lead to the last place through this one, as it was before `rest`: no event of `since` removed this place or wrote it again, and
-- further links lead on from it. How this place got its page does not matter.
pub record LeadsThrough (since rest : List Event) (through last : Place) : Type 0 where
  pub stands : All (λ event. LeavesAlone event through) since
  pub further : List Link
  pub on : Leads (since ++ rest) through further last

-- after a flush, no present place has a provenance through a place that was flushed, as that place was just before
abbrev pub NoneThroughFlushed : List Event → Mappings → Type 0
NoneThroughFlushed events now =
    (earlier since later : List Event) (event : Event) → events ≡ earlier ++ (since ++ event ∷ later)
    → (flushed : Place) → Flushes event flushed → (place : Place) → IsPresent now place → ¬ (LeadsThrough since (event ∷ later) flushed place)
