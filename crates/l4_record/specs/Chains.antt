-- A chain of moves as data, and the provenance of a place in a history (this profile's own).
use Rattle.std.specs.Prelude.{◌≡◌, ℕ, suc, ◌⊎◌, List, [], ◌∷◌, Some}
use Rattle.l4_fpage.specs.Fpages.{rights_of}
use Rattle.l4_msg.specs.Moves.{fpage_of}
use Rattle.l4_mapdb.specs.declared.Place.{Place}
use Rattle.l4_mapdb.specs.declared.Mapping.{Mapping}
use Rattle.l4_mapdb.specs.Mappings.{shown, IsPresent}
use Rattle.l4_ipc.specs.Machine.{Machine}
use Rattle.l4_ipc.specs.Events.{Event, IsTrace}
use Rattle.l4_ipc.specs.Runs.{Run}
use Rattle.l4_ipc.specs.Provenance.{Link, Brings, LeavesAlone, HasProvenance}
use Rattle.l4_record.specs.declared.entries.Entry.{Entry}
use Rattle.l4_record.specs.History.{steps_of, answers_of}
use Rattle.l4_record.specs.declared.links.ChainLink.{ChainLink}

-- the link as data, if the entry with this number is its transfer
abbrev pub told : ℕ → Link → ChainLink
told number link =
    record { entry = number; source = link.move.source; target = link.move.target; grant = link.move.grant; source_rights = link.move.shows.rights; item_rights = rights_of (fpage_of link.item) }

-- the place at which a chain that ends at the last place begins
abbrev pub origin_of : List ChainLink → Place → Place
origin_of [] last = last
origin_of (link ∷ links) last = link.source

-- The links lead over these events from the first place to the last. The first event is the entry with this number. Each event leaves the
-- place that was reached unchanged, or it is a delivered transfer, and the next link is one of its used moves, from that place.
abbrev pub LeadsAsTold : ℕ → List Event → Place → List ChainLink → Place → Type 0
LeadsAsTold number [] first links last = (links ≡ []) × (first ≡ last)
LeadsAsTold number (event ∷ events) first links last =
    (LeavesAlone event first × LeadsAsTold (suc number) events first links last)
    ⊎ ((link : Link) × (later : List ChainLink) × (links ≡ told number link ∷ later)
    × Brings event link × (link.move.source ≡ first) × LeadsAsTold (suc number) events link.move.target later last)

-- The history is a run of the machine from boot, and the place is present at its end. The list has the links of its provenance: they lead
-- there from a page that sigma0 had at boot, and no other links do.
pub record IsProvenance (boot : Machine) (history : List Entry) (place : Place) (links : List ChainLink) : Type 0 where
  pub events : List Event
  pub now : Machine
  pub trace : IsTrace boot (steps_of history) (answers_of history) events now
  pub shows : Mapping
  pub at : shown now.mappings place ≡ Some shows
  pub has : HasProvenance boot.mappings events now.mappings place shows
  pub leads : LeadsAsTold 0 events has.origin links place

-- The history is a run of the machine from boot, and the place is not present at its end.
pub record IsAbsent (boot : Machine) (history : List Entry) (place : Place) : Type 0 where
  pub now : Machine
  pub run : Run boot (steps_of history) (answers_of history) now
  pub absent : ¬ (IsPresent now.mappings place)
