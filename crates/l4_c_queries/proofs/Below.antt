-- What descends from a page, as it is told.
use Rattle.std.proofs.Common.{◌≡◌, ℕ, List, length, map, ap, ◌∙◌, inl}
use Rattle.l4_mapdb.specs.declared.Place.{Place}
use Rattle.l4_forest.specs.Descendants.{AreDescendants}
use Rattle.l4_ipc.specs.Machine.{Machine}
use Rattle.l4_c_queries.specs.Placed.{placed}
use Rattle.l4_c_queries.specs.Descended.{place_result, ListsDescendants}
use Rattle.l4_c_queries.specs.declared.descending.PlaceResult.{PlaceResult}
use Rattle.l4_c_queries.specs.declared.descending.CountResult.{CountResult}

abbrev counted : ℕ → CountResult
counted count = record { refusal = 0; count = count }

pub told_below : (m : Machine) (space page : ℕ) (places seen : List Place) (count : ℕ) (old new : List PlaceResult) → AreDescendants m.mappings (record { space = space; page = page }) places
    → seen ≡ places → count ≡ length places → new ≡ placed (map place_result seen) old → ListsDescendants m space page old (record { refusal = 0; count = count }) new
told_below m space page places seen count old new found same all written =
    inl (places, found, ap counted all, written ∙ ap (λ (ps : List Place). placed (map place_result ps) old) same)
