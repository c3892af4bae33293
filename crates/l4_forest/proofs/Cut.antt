-- A revocation of keys is one of places, and leaves a forest.
use Rattle.std.proofs.Common.{◌≡◌, ℕ, ◌+◌, ◌^◌, Bool, Some, IsTrue, ◌↔◌, ◌⊎◌, inl, inr, sym, ap, ◌∙◌, slice_get, List, arith, option_map}
use Rattle.l4_fpage.specs.Rights.{RightsSet, Right, has}
use Rattle.l4_nodes.specs.declared.Place.{Place as LinkPlace}
use Rattle.l4_links.specs.declared.Entry.{Entry}
use Rattle.l4_links.specs.Entries.{Entries, Linked, entry_at, IsAt, HavePlaces, AreTrees}
use Rattle.l4_mapdb.specs.declared.Place.{Place}
use Rattle.l4_mapdb.specs.declared.Mapping.{Mapping}
use Rattle.l4_mapdb.specs.Mappings.{Mappings, shown, Descends, child, further, IsForest}
use Rattle.l4_forest.specs.Losing.{RevokedAt, Revokes, RevokedInBlock, RevokesBlock}
use Rattle.l4_mapdb.proofs.ForestKept.{forest_kept, forest_loose}
use Rattle.l4_mapdb.proofs.Nothing.{loses_none}
use Rattle.l4_mapdb.proofs.Unique.{same_value}
use Rattle.l4_forest.specs.declared.Forest.TheInside.{Inside}
use Rattle.l4_mapdb.specs.View.{link_place, map_place, mappings_of}
use Rattle.l4_mapdb.specs.Delivering.{IsClean, RootsKnown}
use Rattle.l4_forest.specs.Inside.Kept.{IsKept}
use Rattle.l4_forest.specs.Inside.Cuts.{IsOver, IsCovered, CutsKeys}
use Rattle.l4_mapdb.proofs.Lost.{view_loses}
use Rattle.l4_forest.proofs.Buried.{cut_clean, cut_loses}
use Rattle.l4_mapdb.proofs.View.{at_place, some_standing, stands_at, descends_by_key, key_above, shown_by_key}

-- the keys of the roots stay
pub roots_cut : (Covered : ℕ → Type 0) (rights : RightsSet) (old : Linked) (new : Entries) (roots : List ℕ) → IsClean old → CutsKeys Covered rights old.entries new
    → RootsKnown old.entries roots → RootsKnown new roots
roots_cut Covered rights old new roots clean cuts known key t at top =
    let e = some_standing new key t at in
    let w = (cut_loses Covered rights old new clean cuts).from key e.0 t e.1 e.2 in
    ap (slice_get roots) w.4.frame ∙ known key w.1 (stands_at old.entries key w.0 w.1 w.2 w.3) (sym w.4.parent ∙ top)

module _ (old : Linked) (have : HavePlaces old) (trees : AreTrees old.entries) where
  -- what a key loses its place does
  over_place : (with_self : Bool) (from : Place) (top : ℕ) → IsAt old.entries (link_place from) top → (key : ℕ) (e : Entry) → entry_at old.entries key ≡ Some e
      → IsOver old.entries with_self top key ↔ ((IsTrue with_self × (map_place e.place ≡ from)) ⊎ Descends (mappings_of old) (map_place e.place) from)
  over_place with_self from top at_top key e at = (
    λ h. elim h [
      | inl self ↦
          let both : Some e.place ≡ Some (link_place from) = sym (at_place old.entries key e at) ∙ ap (λ (k : ℕ). option_map {T = Entry} (λ e. e.place) (entry_at old.entries k)) self.1 ∙ at_top in
          inl (self.0, ap map_place (same_value both))
      | inr d ↦ inr ((descends_by_key old have trees key top (map_place e.place) from (at_place old.entries key e at) at_top).1 d)
    ],
    λ h. elim h [
      | inl self ↦ inl (self.0, have.once (link_place from) key top (at_place old.entries key e at ∙ ap (λ (p : Place). Some (link_place p)) self.1) at_top)
      | inr d ↦ inr ((descends_by_key old have trees key top (map_place e.place) from (at_place old.entries key e at) at_top).0 d)
    ],
  )

  pub forest_over : (from : Place) (rights : RightsSet) (with_self : Bool) (new : Mappings) → IsForest (mappings_of old) → Revokes from rights with_self (mappings_of old) new → IsForest new
  forest_over from rights with_self new forest revokes =
      forest_kept (RevokedAt (mappings_of old) from rights with_self) (mappings_of old) new
      (λ low high k up lost. (
        lost.0,
        inr (elim lost.1 [
          | inl self ↦ child (up ∙ ap (λ (p : Place). Some p) self.1)
          | inr below ↦ further up below
        ]),
      )) (forest_loose (RevokedAt (mappings_of old) from rights with_self) (mappings_of old) forest) revokes

  pub forest_block : (space first log : ℕ) (rights : RightsSet) (with_self : Bool) (new : Mappings) → IsForest (mappings_of old) → RevokesBlock space first log rights with_self (mappings_of old) new → IsForest new
  forest_block space first log rights with_self new forest revokes =
      forest_kept (RevokedInBlock (mappings_of old) space first log rights with_self) (mappings_of old) new
      (λ low high k up lost. (
        lost.0,
        lost.1,
        (
          lost.2.0,
          inr (elim lost.2.1 [
            | inl self ↦ child (up ∙ ap (λ (p : Place). Some p) self.1)
            | inr below ↦ further up below
          ]),
        ),
      )) (forest_loose (RevokedInBlock (mappings_of old) space first log rights with_self) (mappings_of old) forest) revokes

  -- a key of the page that a place is at
  own_key : (q : Place) (m : Mapping) → shown (mappings_of old) q ≡ Some m → (key : ℕ) × IsAt old.entries (link_place q) key
  own_key q m at =
      let u = (shown_by_key old have q m).0 at in
      (u.key, at_place old.entries u.key u.entry u.at ∙ ap (λ (p : LinkPlace). Some p) u.place_is)

  module _ (space first log end : ℕ) (with_self : Bool) (ends : end ≡ first + 2 ^ log) (rights : RightsSet) where
    covered_to : (key : ℕ) (e : Entry) → entry_at old.entries key ≡ Some e → (right : Right) → (IsTrue (has rights right) × IsCovered old.entries space first end with_self key)
        → RevokedInBlock (mappings_of old) space first log rights with_self (map_place e.place) right
    covered_to key e at right h =
        let c = h.1 in (
          c.1.page,
          record { from = c.1.from; below = omega (arith, c.1.below, ends) },
          (h.0, (over_place with_self (record { space = space; page = c.1.page }) c.0 c.1.at key e at).0 c.2),
        )

    covered_from : (key : ℕ) (e : Entry) → entry_at old.entries key ≡ Some e → (right : Right) → RevokedInBlock (mappings_of old) space first log rights with_self (map_place e.place) right
        → (IsTrue (has rights right) × IsCovered old.entries space first end with_self key)
    covered_from key e at right l =
        let page : Place = record { space = space; page = l.0 } in
        let own : (own : ℕ) × IsAt old.entries (link_place page) own = elim l.2.1 [
          | inl self ↦ (key, at_place old.entries key e at ∙ ap (λ (p : Place). Some (link_place p)) self.1)
          | inr chain ↦ let k = key_above old have chain key (at_place old.entries key e at) in (k.0, k.1)
        ] in (
          l.2.0,
          (
            own.0,
            record { page = l.0; from = l.1.from; below = omega (arith, l.1.below, ends); at = own.1 },
            (over_place with_self page own.0 own.1 key e at).1 l.2.1,
          ),
        )

  module _ (new : Linked) (have_new : HavePlaces new) (trees_new : AreTrees new.entries) (rights : RightsSet) (with_self : Bool) (clean : IsClean old) (spaces : new.spaces ≡ old.spaces) where
    pub revokes_key : (from : Place) (top : ℕ) → IsAt old.entries (link_place from) top → CutsKeys (IsOver old.entries with_self top) rights old.entries new.entries
        → Revokes from rights with_self (mappings_of old) (mappings_of new)
    revokes_key from top at cuts =
        view_loses (RevokedAt (mappings_of old) from rights with_self) (λ key right. IsTrue (has rights right) × IsOver old.entries with_self top key) old new have have_new trees_new
        (cut_loses (IsOver old.entries with_self top) rights old new.entries clean cuts) spaces
        (λ key e at_key right. (
          λ h. (h.0, (over_place with_self from top at key e at_key).0 h.1),
          λ h. (h.0, (over_place with_self from top at key e at_key).1 h.1),
        ))

    pub revokes_pages : (space first log end : ℕ) → end ≡ first + 2 ^ log → CutsKeys (IsCovered old.entries space first end with_self) rights old.entries new.entries
        → RevokesBlock space first log rights with_self (mappings_of old) (mappings_of new)
    revokes_pages space first log end ends cuts =
        view_loses (RevokedInBlock (mappings_of old) space first log rights with_self) (λ key right. IsTrue (has rights right) × IsCovered old.entries space first end with_self key) old new have have_new trees_new
        (cut_loses (IsCovered old.entries space first end with_self) rights old new.entries clean cuts) spaces
        (λ key e at_key right. (covered_to space first log end with_self ends rights key e at_key right, covered_from space first log end with_self ends rights key e at_key right))

  -- where the page has no key nothing is revoked
  pub revokes_none : (from : Place) (rights : RightsSet) (with_self : Bool) → IsForest (mappings_of old) → ((key : ℕ) → ¬ (IsAt old.entries (link_place from) key))
      → Revokes from rights with_self (mappings_of old) (mappings_of old)
  revokes_none from rights with_self forest none =
      loses_none (RevokedAt (mappings_of old) from rights with_self) (mappings_of old) forest
      (λ q m at k l. elim l.1 [
        | inl self ↦ let own = own_key q m at in none own.0 (own.1 ∙ ap (λ (p : Place). Some (link_place p)) self.1)
        | inr chain ↦ let own = own_key q m at in let above = key_above old have chain own.0 own.1 in none above.0 above.1
      ])

-- what is kept after a revocation
pub kept_cut : (a : Inside) (new : Linked) (Covered : ℕ → Type 0) (rights : RightsSet) → IsKept a → CutsKeys Covered rights a.links.entries new.entries → IsForest (mappings_of new) → IsKept (record { links = new; roots = a.roots })
kept_cut a new Covered rights kept cuts forest = record {
  clean = cut_clean Covered rights a.links new.entries kept.clean cuts;
  known = roots_cut Covered rights a.links new.entries a.roots.items kept.clean cuts kept.known;
  forest = forest;
}
