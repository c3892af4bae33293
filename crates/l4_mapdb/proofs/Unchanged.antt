-- Where the same is under each key the mappings are the same.
use Rattle.std.proofs.Common.{◌≡◌, ℕ, sym, arith}
use Rattle.l4_links.specs.Entries.{Entries, Linked, entry_at, HavePlaces}
use Rattle.l4_mapdb.specs.declared.Place.{Place}
use Rattle.l4_mapdb.specs.declared.Mapping.{Mapping}
use Rattle.l4_mapdb.specs.View.{mappings_of}
use Rattle.l4_mapdb.specs.Inside.View.{IsShown}
use Rattle.l4_mapdb.proofs.View.{same_view}

same_shown : (a b : Entries) → ((key : ℕ) → entry_at b key ≡ entry_at a key) → (place : Place) (m : Mapping) → IsShown a place m → IsShown b place m
same_shown a b same place m u = grind arith

pub unchanged : (old new : Linked) → HavePlaces old → HavePlaces new → new.spaces ≡ old.spaces → ((key : ℕ) → entry_at new.entries key ≡ entry_at old.entries key) → mappings_of new ≡ mappings_of old
unchanged old new have_old have_new spaces same = grind (arith, same_view, same_shown, sym)
