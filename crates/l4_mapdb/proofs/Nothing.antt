-- Where nothing is lost nothing changes.
use Rattle.std.proofs.Common.{◌≡◌, Some, refl, sym, ap, ◌∙◌, ◌≢◌}
use Rattle.l4_fpage.specs.Rights.{Right, no_rights}
use Rattle.l4_mapdb.specs.declared.Place.{Place}
use Rattle.l4_mapdb.specs.declared.Mapping.{Mapping}
use Rattle.l4_mapdb.specs.Mappings.{Mappings, shown, IsForest}
use Rattle.l4_mapdb.specs.Losing.{IsLeft, LosesRights}
use Rattle.l4_mapdb.proofs.Unique.{same_rights, same_value}
use Rattle.l4_links.specs.Entries.{Linked, HavePlaces}
use Rattle.l4_links.specs.declared.Standing.{Standing}
use Rattle.l4_mapdb.specs.Delivering.{IsClean}
use Rattle.l4_mapdb.specs.Transfer.{PageMove, IsCut}
use Rattle.l4_mapdb.specs.View.{mappings_of}
use Rattle.l4_mapdb.proofs.View.{shown_by_key}

-- what is left of a mapping that loses nothing is that mapping
pub left_same : (Lost : Right → Type 0) (before m : Mapping) → ((k : Right) → ¬ (Lost k)) → IsLeft Lost before m → before ≡ m
left_same Lost before m none left =
    let frames : before.frame ≡ m.frame = sym left.frame in
    let parents : before.parent ≡ m.parent = sym left.parent in
    let rights : before.rights ≡ m.rights = same_rights before.rights m.rights (λ k. (λ h. (left.rights k).1 (h, none k), λ h. ((left.rights k).0 h).0)) in
    λ i. record { frame = frames i; rights = rights i; parent = parents i }

loses_nothing : (Lost : Place → Right → Type 0) (s : Mappings) → ((q : Place) (m : Mapping) → shown s q ≡ Some m → m.rights ≢ no_rights) → ((q : Place) (m : Mapping) → shown s q ≡ Some m → (k : Right) → ¬ (Lost q k)) → LosesRights Lost s s
loses_nothing Lost s some none = record {
  spaces = refl;
  places = λ q m. (
    λ at. (m, at, record { frame = refl; parent = refl; rights = λ k. (λ h. (h, none q m at k), λ h. h.0); some_right = some q m at }),
    λ h. h.1 ∙ ap (λ (x : Mapping). Some x) (left_same (Lost q) h.0 m (none q h.0 h.1) h.2),
  );
}

-- no place that shows something loses a right
pub loses_none : (Lost : Place → Right → Type 0) (s : Mappings) → IsForest s → ((q : Place) (m : Mapping) → shown s q ≡ Some m → (k : Right) → ¬ (Lost q k)) → LosesRights Lost s s
loses_none Lost s forest none = loses_nothing Lost s (λ q m at. forest.some_right q m at) none

-- what stands in clean entries has a right
pub clean_rights : (now : Linked) → HavePlaces now → IsClean now → (q : Place) (m : Mapping) → shown (mappings_of now) q ≡ Some m → m.rights ≢ no_rights
clean_rights now have clean q m h is_none =
    let u = (shown_by_key now have q m).0 h in
    let p = clean u.key u.entry u.at in
    let same : p.standing ≡ u.standing = same_value (sym p.stands ∙ u.stands) in
    p.some_right (ap (λ (x : Standing). x.rights) same ∙ ap (λ (x : Mapping). x.rights) u.mapping ∙ is_none)

-- so where nothing is cut nothing changes
pub cuts_none : (now : Linked) → HavePlaces now → IsClean now → (Used : PageMove → Type 0) → ((q : Place) (k : Right) → ¬ (IsCut Used (mappings_of now) q k)) → LosesRights (IsCut Used (mappings_of now)) (mappings_of now) (mappings_of now)
cuts_none now have clean Used none = loses_nothing (IsCut Used (mappings_of now)) (mappings_of now) (clean_rights now have clean) (λ q _ _ k. none q k)
