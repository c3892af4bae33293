-- What the entries and the keys of the roots keep between two operations. (this profile's own)
use Rattle.std.specs.Prelude.{◌≡◌, ℕ, Some, None, List, Option, false, slice_get, length, ◌<◌}
use Rattle.l4_fpage.specs.Rights.{all_rights}
use Rattle.l4_links.specs.declared.Standing.{Standing}
use Rattle.l4_links.specs.declared.Entry.{Entry}
use Rattle.l4_links.specs.Entries.{Entries, entry_at, standing_at}
use Rattle.l4_mapdb.specs.declared.Place.{Place}
use Rattle.l4_mapdb.specs.Mappings.{Mappings, IsForest}
use Rattle.l4_mapdb.specs.Delivering.{IsClean, RootsKnown}
use Rattle.l4_forest.specs.declared.Forest.TheInside.{Inside}
use Rattle.l4_mapdb.specs.View.{mappings_of, link_place}

abbrev pub seen : Inside → Mappings
seen a = mappings_of a.links

pub record IsKept (a : Inside) : Type 0 where
  pub clean : IsClean a.links
  pub known : RootsKnown a.links.entries a.roots.items
  pub forest : IsForest (mappings_of a.links)

-- the key that is kept for a frame
abbrev pub kept_at : List ℕ → ℕ → Option ℕ
kept_at roots frame = slice_get roots frame

-- what stands under the key shows the frame and has no parent
pub record IsRootKey (s : Entries) (frame key : ℕ) (place : Place) : Type 0 where
  pub entry : Entry
  pub standing : Standing
  pub at : entry_at s key ≡ Some entry
  pub place_is : entry.place ≡ link_place place
  pub stands : entry.stands ≡ Some standing
  pub frame_is : standing.frame ≡ frame
  pub top : standing.parent ≡ None

abbrev pub NoRootKey : Entries → ℕ → ℕ → Type 0
NoRootKey s frame key = (t : Standing) → standing_at s key ≡ Some t → t.frame ≡ frame → t.parent ≡ None → ⊥

-- what is at the page of a frame's number at the start
abbrev pub own_entry : ℕ → Entry
own_entry frame = record {
  place = record { space = 0; page = frame };
  wanted = false;
  stands = Some (record { frame = frame; rights = all_rights; source = false; granted = None; parent = None });
}

-- the frames below this number are at the pages of their numbers, with the keys of the roots, and there is nothing else
pub record OwnsFirst (frames : ℕ) (s : Entries) (roots : List ℕ) : Type 0 where
  pub only : (key : ℕ) (e : Entry) → entry_at s key ≡ Some e → (frame : ℕ) × (frame < frames) × (e ≡ own_entry frame)
  pub each : (frame : ℕ) → frame < frames → (key : ℕ) × (entry_at s key ≡ Some (own_entry frame)) × (slice_get roots frame ≡ Some key)
  pub count : length roots ≡ frames
