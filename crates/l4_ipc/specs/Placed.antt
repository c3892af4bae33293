-- The effect of a delivered message of a region's delegation, place by place (this profile's own).
use Rattle.std.specs.Prelude.{◌≡◌, ◌≢◌, ◌⊎◌, ◌↔◌, ℕ, ◌+◌, ◌<◌, List, Some}
use Rattle.l4_fpage.specs.Rights.{common, no_rights}
use Rattle.l4_msg.specs.Regions.{part_of_region}
use Rattle.l4_msg.specs.declared.items.Item.{Item}
use Rattle.l4_msg.specs.declared.regions.Region.{Region}
use Rattle.l4_mapdb.specs.declared.Place.{Place}
use Rattle.l4_mapdb.specs.declared.Mapping.{Mapping}
use Rattle.l4_mapdb.specs.Mappings.{Mappings, shown, IsPresent, IsOrDescends}
use Rattle.l4_threads.specs.declared.Receiving.{Receiving}
use Rattle.l4_threads.specs.declared.Sending.{Sending}
use Rattle.l4_threads.specs.declared.Thread.{Thread}
use Rattle.l4_ipc.specs.Events.{Event}
use Rattle.l4_ipc.specs.Delegation.{IsDelegation}

-- the page of the region with this number, in the sender's space and in the receiver's
abbrev pub source_at : ℕ → Region → ℕ → Place
source_at «from» r index = record { space = «from»; page = r.source + index }

abbrev pub target_at : ℕ → Region → ℕ → Place
target_at to r index = record { space = to; page = r.target + index }

-- the page of the region with this number is present in the sender's space, has this mapping, and shares a right with the region
pub record IsHandedOn (old : Mappings) («from» : ℕ) (r : Region) (index : ℕ) (shows : Mapping) : Type 0 where
  pub within : index < r.count
  pub at : shown old (source_at «from» r index) ≡ Some shows
  pub some_right : common shows.rights r.rights ≢ no_rights

-- the place is where such a page goes: its mapping has the page's frame, the common rights, and the sender's page as parent
pub record IsNewPlace (old : Mappings) («from» to : ℕ) (r : Region) (place : Place) (m : Mapping) : Type 0 where
  pub index : ℕ
  pub shows : Mapping
  pub handed_on : IsHandedOn old «from» r index shows
  pub place_is : place ≡ target_at to r index
  pub frame : m.frame ≡ shows.frame
  pub rights : m.rights ≡ common shows.rights r.rights
  pub parent : m.parent ≡ Some (source_at «from» r index)

-- Such a page goes to a present place, and this place is that place or descends from it.
pub record IsReplaced (old : Mappings) («from» to : ℕ) (r : Region) (place : Place) : Type 0 where
  pub index : ℕ
  pub shows : Mapping
  pub handed_on : IsHandedOn old «from» r index shows
  pub present : IsPresent old (target_at to r index)
  pub below : IsOrDescends old place (target_at to r index)

-- Afterwards the sender's pages of the region are at their new places. Every other place has the mapping that it had, except the replaced
-- places and their descendants, which are no longer present. Nothing else is new.
pub record IsPlaced (old : Mappings) («from» to : ℕ) (r : Region) (new : Mappings) : Type 0 where
  pub spaces : new.spaces ≡ old.spaces
  pub places : (place : Place) (m : Mapping) →
      (shown new place ≡ Some m) ↔ (IsNewPlace old «from» to r place m ⊎ ((shown old place ≡ Some m) × ¬ (IsReplaced old «from» to r place)))

-- every message of a delegation that the event delivers has this effect on its part of the region
abbrev pub PlacesDelegations : Event → Type 0
PlacesDelegations event =
    (r : Region) (items : List Item) (pages : List ℕ) (number : ℕ) («from» to : Thread) (sends : Sending) (takes : Receiving)
    → IsDelegation event r items pages number «from» to sends takes
    → IsPlaced event.before.mappings «from».space to.space (part_of_region r pages number) event.after.mappings
