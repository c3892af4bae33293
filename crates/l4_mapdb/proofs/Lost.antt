-- Rights that keys lose, and rights that places lose.
use Rattle.std.proofs.Common.{◌≡◌, ◌≢◌, ℕ, Option, Some, None, IsTrue, ◌↔◌, refl, sym, ap, ◌∙◌, subst, option_and_then, option_map, arith}
use Rattle.l4_fpage.specs.Rights.{RightsSet, Right, has, no_rights}
use Rattle.l4_nodes.specs.declared.Place.{Place as LinkPlace}
use Rattle.l4_links.specs.declared.Standing.{Standing}
use Rattle.l4_links.specs.declared.Entry.{Entry}
use Rattle.l4_links.specs.Entries.{Entries, Linked, entry_at, HavePlaces, AreTrees}
use Rattle.l4_mapdb.specs.declared.Place.{Place}
use Rattle.l4_mapdb.specs.declared.Mapping.{Mapping}
use Rattle.l4_mapdb.specs.Mappings.{shown}
use Rattle.l4_mapdb.specs.Losing.{IsLeft, LosesRights}
use Rattle.l4_mapdb.proofs.Unique.{same_rights}
use Rattle.l4_mapdb.specs.View.{link_place, map_place, place_at, mapping_of, mappings_of}
use Rattle.l4_mapdb.proofs.View.{shown_by_key, stands_at, some_standing}

-- the second is the first without these rights, of which there is one
pub record HasLost (Lost : Right → Type 0) (old : Entry) (had : Standing) (new : Entry) (has_now : Standing) : Type 0 where
  pub place : new.place ≡ old.place
  pub frame : has_now.frame ≡ had.frame
  pub parent : has_now.parent ≡ had.parent
  pub rights : (right : Right) → IsTrue (has has_now.rights right) ↔ (IsTrue (has had.rights right) × ¬ (Lost right))
  pub some_right : has_now.rights ≢ no_rights

-- what stands under each key has lost just these rights, and went where none is left
pub record KeysLose (Lost : ℕ → Right → Type 0) (old new : Entries) : Type 0 where
  pub from : (key : ℕ) (e : Entry) (t : Standing) → entry_at new key ≡ Some e → e.stands ≡ Some t
      → (was : Entry) × (had : Standing) × (entry_at old key ≡ Some was) × (was.stands ≡ Some had) × HasLost (Lost key) was had e t
  pub to : (key : ℕ) (was : Entry) (had : Standing) → entry_at old key ≡ Some was → was.stands ≡ Some had
      → (rights : RightsSet) → ((right : Right) → IsTrue (has rights right) ↔ (IsTrue (has had.rights right) × ¬ (Lost key right))) → rights ≢ no_rights
      → (e : Entry) × (t : Standing) × (entry_at new key ≡ Some e) × (e.stands ≡ Some t) × HasLost (Lost key) was had e t

module _ (Lost : Place → Right → Type 0) (LostKey : ℕ → Right → Type 0) (old new : Linked) (have_old : HavePlaces old) (have_new : HavePlaces new) (trees : AreTrees new.entries)
    (loses : KeysLose LostKey old.entries new.entries) (spaces : new.spaces ≡ old.spaces)
    (same : (key : ℕ) (e : Entry) → entry_at old.entries key ≡ Some e → (right : Right) → LostKey key right ↔ Lost (map_place e.place) right) where
  -- the parent of what is left is at its page as before
  parent_same : (key : ℕ) (e : Entry) (t : Standing) → entry_at new.entries key ≡ Some e → e.stands ≡ Some t
      → (parent : Option ℕ) → t.parent ≡ parent → option_and_then (place_at new.entries) parent ≡ option_and_then (place_at old.entries) parent
  parent_same key e t at stands None up = refl
  parent_same key e t at stands (Some p) up =
      let above = trees.parents key t p (stands_at new.entries key e t at stands) up in
      let here = some_standing new.entries p above.above above.at in
      let was = loses.from p here.0 above.above here.1 here.2 in
      ap (option_map {T = Entry} (λ e. map_place e.place)) here.1
      ∙ ap (λ (q : LinkPlace). Some (map_place q)) was.4.place
      ∙ sym (ap (option_map {T = Entry} (λ e. map_place e.place)) was.2)

  lost_place : (key : ℕ) (e : Entry) (place : Place) → entry_at old.entries key ≡ Some e → e.place ≡ link_place place → (right : Right) → LostKey key right ↔ Lost place right
  lost_place key e place at at_place right = subst (λ (q : LinkPlace). LostKey key right ↔ Lost (map_place q) right) at_place (same key e at right)

  left_mapping : (key : ℕ) (was e : Entry) (had t : Standing) (place : Place) → entry_at old.entries key ≡ Some was → was.place ≡ link_place place
      → entry_at new.entries key ≡ Some e → e.stands ≡ Some t → HasLost (LostKey key) was had e t → IsLeft (Lost place) (mapping_of old.entries had) (mapping_of new.entries t)
  left_mapping key was e had t place at_was at_place at stands lost = grind (arith, parent_same, refl, ap, option_and_then, lost_place)

  forth : (place : Place) (m : Mapping) → shown (mappings_of new) place ≡ Some m → (before : Mapping) × (shown (mappings_of old) place ≡ Some before) × IsLeft (Lost place) before m
  forth place m h =
      let u = (shown_by_key new have_new place m).0 h in
      let was = loses.from u.key u.entry u.standing u.at u.stands in
      let at_place : was.0.place ≡ link_place place = sym was.4.place ∙ u.place_is in
      let left = left_mapping u.key was.0 u.entry was.1 u.standing place was.2 at_place u.at u.stands was.4 in (
        mapping_of old.entries was.1,
        (shown_by_key old have_old place (mapping_of old.entries was.1)).1 (record { key = u.key; entry = was.0; standing = was.1; at = was.2; place_is = at_place; stands = was.3; mapping = refl }),
        subst (λ (m : Mapping). IsLeft (Lost place) (mapping_of old.entries was.1) m) u.mapping left,
      )

  back : (place : Place) (m before : Mapping) → shown (mappings_of old) place ≡ Some before → IsLeft (Lost place) before m → shown (mappings_of new) place ≡ Some m
  back place m before h left =
      let u = (shown_by_key old have_old place before).0 h in
      let lost = lost_place u.key u.entry place u.at u.place_is in
      let rights : (right : Right) → IsTrue (has m.rights right) ↔ (IsTrue (has u.standing.rights right) × ¬ (LostKey u.key right)) = λ right. grind arith in
      let now = loses.to u.key u.entry u.standing u.at u.stands m.rights rights left.some_right in
      let is_left = left_mapping u.key u.entry now.0 u.standing now.1 place u.at u.place_is now.2 now.3 now.4 in
      let frame : now.1.frame ≡ m.frame = is_left.frame ∙ ap (λ (x : Mapping). x.frame) u.mapping ∙ sym left.frame in
      let parent : option_and_then (place_at new.entries) now.1.parent ≡ m.parent = is_left.parent ∙ ap (λ (x : Mapping). x.parent) u.mapping ∙ sym left.parent in
      let both : now.1.rights ≡ m.rights = same_rights now.1.rights m.rights (λ right. (λ h. (rights right).1 ((now.4.rights right).0 h), λ h. (now.4.rights right).1 ((rights right).0 h))) in
      let is : mapping_of new.entries now.1 ≡ m = λ i. record { frame = frame i; rights = both i; parent = parent i } in
      (shown_by_key new have_new place m).1 (record { key = u.key; entry = now.0; standing = now.1; at = now.2; place_is = now.4.place ∙ u.place_is; stands = now.3; mapping = is })

  -- so the places lose just these rights
  pub view_loses : LosesRights Lost (mappings_of old) (mappings_of new)
  view_loses = record {
    spaces = spaces;
    places = λ place m. (forth place m, λ h. back place m h.0 h.1 h.2);
  }
