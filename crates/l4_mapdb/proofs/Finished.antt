-- What is left once a message is carried out and its marks are taken away.
use Rattle.std.proofs.Common.{◌≡◌, ◌≢◌, ℕ, Bool, true, false, List, length, Option, Some, None, option_and_then, option_map, inl, inr, ◌⊎◌, refl, sym, ap, ◌∙◌, subst, slice_get, arith}
use Rattle.l4_fpage.specs.Rights.{no_rights}
use Rattle.l4_links.specs.declared.Standing.{Standing}
use Rattle.l4_links.specs.declared.Entry.{Entry}
use Rattle.l4_links.specs.Entries.{IsPlain, Entries, Linked, entry_at, standing_at, HavePlaces, AreTrees, Buries}
use Rattle.l4_msg.specs.declared.items.ItemMove.{ItemMove}
use Rattle.l4_mapdb.specs.Transfer.{PageMove, Delivers}
use Rattle.l4_mapdb.proofs.Unique.{same_value}
use Rattle.l4_mapdb.specs.View.{link_place, mappings_of}
use Rattle.l4_mapdb.specs.Delivering.{IsClean, RootsKnown}
use Rattle.l4_mapdb.specs.Inside.Cutting.{bare, tidied, Tidies}
use Rattle.l4_mapdb.specs.Inside.Messages.{plain, OfItems}
use Rattle.l4_mapdb.specs.Inside.Placing.{IsStart, Used, Placed}
use Rattle.l4_mapdb.specs.Inside.Settling.{settled_standing, settled_entry, settled}
use Rattle.l4_mapdb.proofs.Moves.{found_of, is_at}
use Rattle.l4_mapdb.proofs.Arrived.{Arrived, arrived_moved, arrived_roots}
use Rattle.l4_mapdb.proofs.Moved.{at_settled, places_settled, IsGrantedHere, IsChildHere, IsLeftHere, stands_here, arrived_settled}
use Rattle.l4_mapdb.proofs.CutLoss.{cut_loses, before_burial, not_buried}
use Rattle.l4_mapdb.proofs.Caps.{rightless, IsSameBase, base_stands, turned}
use Rattle.l4_mapdb.proofs.Tidying.{bases}
use Rattle.l4_mapdb.proofs.Restored.{target_in, source_in}

-- an entry that was tidied
record WasTidied (o : Option Entry) (e : Entry) : Type 0 where
  entry : Entry
  standing : Standing
  was : o ≡ Some entry
  stood : entry.stands ≡ Some standing
  is : e ≡ record entry { wanted = false; stands = Some (plain standing) }

was_tidied : (o : Option Entry) (e : Entry) → tidied o ≡ Some e → WasTidied o e
was_tidied None e h = absurd (let z : ◌≡◌ {A = Option Entry} None (Some e) = h in cc)
was_tidied (Some x) e h = inside x.stands refl
  where
    inside : (s : Option Standing) → x.stands ≡ s → WasTidied (Some x) e
    inside None n = absurd (let z : ◌≡◌ {A = Option Entry} None (Some e) = sym (ap (option_map (λ (t : Standing). record x { wanted = false; stands = Some (plain t) })) n) ∙ h in cc)
    inside (Some t) s = record {
      entry = x;
      standing = t;
      was = refl;
      stood = s;
      is = sym (same_value (sym (ap (option_map (λ (t : Standing). record x { wanted = false; stands = Some (plain t) })) s) ∙ h));
    }

module _ (start now : Linked) (from to : ℕ) (items : List ItemMove) (ready : IsStart start from to items) (Done : PageMove → Type 0) (placed : Placed start from to items Done now) (have : HavePlaces now)
    (trees : AreTrees now.entries) (all : (move : PageMove) → Used start from to items move → Done move)
    (cur : Entries) (new : Linked) (tidies : Tidies (OfItems from to items (length items)) now.entries cur) (buries : Buries cur new.entries) where
  abbrev Moves : PageMove → Type 0
  Moves = Used start from to items

  -- what stands in the end, stood when all moves were done
  record Stood (key : ℕ) (e : Entry) (t : Standing) : Type 0 where
    entry : Entry
    standing : Standing
    at : entry_at now.entries key ≡ Some entry
    stands : entry.stands ≡ Some standing
    same : IsSameBase entry e standing t
    some_right : t.rights ≢ no_rights

  before : (key : ℕ) (e : Entry) → entry_at new.entries key ≡ Some e → entry_at cur key ≡ Some e
  before = before_burial start now from to items ready Done placed have trees all cur new tidies buries

  stood_before : (key : ℕ) (e : Entry) (t : Standing) → entry_at new.entries key ≡ Some e → e.stands ≡ Some t → Stood key e t
  stood_before key e t at stands =
      let n = not_buried start now from to items ready Done placed have trees all cur new tidies buries key e t at stands in
      let h = base_stands (entry_at cur key) (entry_at now.entries key) (sym (bases (OfItems from to items (length items)) now.entries cur tidies key)) e t n.0 stands in
      record { entry = h.0; standing = h.1; at = h.2; stands = h.3; same = turned h.4; some_right = n.1 }

  -- what is tidied is plain
  plain_tidied : (key : ℕ) (e : Entry) → entry_at new.entries key ≡ Some e → bare (Some e) ≡ tidied (bare (entry_at now.entries key)) → IsPlain e
  plain_tidied key e at tidy =
      let w = was_tidied (bare (entry_at now.entries key)) (record e { stands = rightless e.stands }) (sym tidy) in
      by_stands e.stands refl w.standing (ap (λ (x : Entry). x.stands) w.is) (ap (λ (x : Entry). x.wanted) w.is)
    where
      by_stands : (o : Option Standing) → e.stands ≡ o → (t : Standing) → rightless o ≡ Some (plain t) → e.wanted ≡ false → IsPlain e
      by_stands None none t is unwanted = absurd (let z : ◌≡◌ {A = Option Standing} None (Some (plain t)) = is in cc)
      by_stands (Some u) stands t is unwanted = record {
        standing = u;
        stands = stands;
        some_right = (stood_before key e u at stands).some_right;
        unwanted = unwanted;
        no_source = ap (λ (x : Standing). x.source) (same_value is);
        not_granted = ap (λ (x : Standing). x.granted) (same_value is);
      }

  -- a page that the items name is tidied
  plain_named : (key : ℕ) (e : Entry) (was : Entry) → entry_at new.entries key ≡ Some e → entry_at now.entries key ≡ Some was → OfItems from to items (length items) was.place → IsPlain e
  plain_named key e was at at_now named = plain_tidied key e at (ap bare (sym (before key e at)) ∙ tidies.here key (was.place, named, is_at now.entries key was was.place at_now refl))

  now_here : (key : ℕ) (e : Entry) → entry_at now.entries key ≡ Some e
      → IsGrantedHere start now from to items ready Done placed have all key e ⊎ (IsChildHere start now from to items ready Done placed have all e ⊎ IsLeftHere start now from to items ready Done placed have all key e)
  now_here = stands_here start now from to items ready Done placed have all

  -- where all moves are done there is no blank
  all_stand : (key : ℕ) (e : Entry) → entry_at now.entries key ≡ Some e → e.stands ≡ None → ⊥
  all_stand key e at blank = elim (now_here key e at) [
    | inl g ↦ stood (ap (λ (x : Entry). x.stands) g.is)
    | inr (inl c) ↦ stood (ap (λ (x : Entry). x.stands) c.is)
    | inr (inr l) ↦ stood (ap (λ (x : Entry). x.stands) l.is)
  ]
    where
      stood : {t : Standing} → e.stands ≡ Some t → ⊥
      stood {t} stands = let z : ◌≡◌ {A = Option Standing} None (Some t) = sym blank ∙ stands in cc

  -- nor is there one in the end
  no_blank : (key : ℕ) (e : Entry) → entry_at new.entries key ≡ Some e → e.stands ≡ None → ⊥
  no_blank key e at blank =
      let here : bare (entry_at cur key) ≡ Some (record e { stands = rightless e.stands }) = ap bare (before key e at) in
      elim (entry_at now.entries key) as (λ (o : Option Entry). entry_at now.entries key ≡ o → ⊥) [
        | None ↦ λ none. grind arith
        | Some f ↦ λ was. search (Option, None, all_stand, Some, base_stands, bases, length, sym, ap, same_value, before, refl, arith)
      ] refl

  -- what stands where it stood is unmarked, or was tidied
  kept_plain : (key : ℕ) (e : Entry) (t : Standing) → entry_at new.entries key ≡ Some e → e.stands ≡ Some t → (s : Stood key e t) → bare (Some e) ≡ bare (Some s.entry)
      → IsLeftHere start now from to items ready Done placed have all key s.entry → IsPlain e
  kept_plain key e t at stands s same l =
      let is : record e { stands = rightless e.stands } ≡ record s.entry { stands = rightless s.entry.stands } = same_value same in
      let one : record t { rights = no_rights } ≡ record s.standing { rights = no_rights } = same_value (sym (ap rightless stands) ∙ ap (λ (x : Entry). x.stands) is ∙ ap rightless s.stands) in
      let standing_is : s.standing ≡ record l.plain.standing { source = l.left.marked } = same_value (sym s.stands ∙ ap (λ (x : Entry). x.stands) l.is) in
      let source_is : t.source ≡ l.left.marked = ap (λ (x : Standing). x.source) one ∙ ap (λ (x : Standing). x.source) standing_is in
      record {
        standing = t;
        stands = stands;
        some_right = s.some_right;
        unwanted = ap (λ (x : Entry). x.wanted) is ∙ ap (λ (x : Entry). x.wanted) l.is ∙ l.plain.unwanted;
        no_source = source_is ∙ unmarked l.left.marked source_is l.left.plain;
        not_granted = ap (λ (x : Standing). x.granted) one ∙ ap (λ (x : Standing). x.granted) standing_is ∙ l.plain.not_granted;
      }
    where
      unmarked : (marked : Bool) → t.source ≡ marked → (((v : PageMove) → Moves v → link_place v.source ≢ l.before.place) → marked ≡ false) → marked ≡ false
      unmarked false source_is plain_if = refl
      unmarked true source_is plain_if = plain_if (λ v used place.
          let p = plain_named key e s.entry at s.at (subst (OfItems from to items (length items)) (place ∙ l.place) (source_in from to items v.item used.by v.target.page (link_place v.source) used.item used.from_space used.pages)) in
          let z : true ≡ false = sym source_is ∙ ap (λ (x : Standing). x.source) (same_value (sym stands ∙ p.stands)) ∙ p.no_source in
          cc)

  -- nothing is marked or blank in the end
  pub clean_in_the_end : IsClean new
  clean_in_the_end key e at = elim (tidies.each key) [
    | inr tidy ↦ plain_tidied key e at (ap bare (sym (before key e at)) ∙ tidy.1)
    | inl same ↦ untouched (ap bare (sym (before key e at)) ∙ same) e.stands refl
  ]
    where
      untouched : bare (Some e) ≡ bare (entry_at now.entries key) → (o : Option Standing) → e.stands ≡ o → IsPlain e
      untouched same None blank = absurd (no_blank key e at blank)
      untouched same (Some t) stands =
          let s = stood_before key e t at stands in
          elim (now_here key s.entry s.at) [
            | inl g ↦ target_named s g.move g.used (ap (λ (x : Entry). x.place) (sym g.is))
            | inr (inl c) ↦ target_named s c.move c.used (ap (λ (x : Entry). x.place) (sym c.is))
            | inr (inr l) ↦ kept_plain key e t at stands s (same ∙ ap bare s.at) l
          ]
        where
          target_named : (s : Stood key e t) → (u : PageMove) → Moves u → link_place u.target ≡ s.entry.place → IsPlain e
          target_named s u used target = plain_named key e s.entry at s.at (subst (OfItems from to items (length items)) target (target_in from to items u.item used.by u.source.page (link_place u.target) used.item used.to_space used.pages))

  abbrev arrives : Arrived start from to items (settled now)
  arrives = arrived_settled start now from to items ready Done placed have all

  -- the keys of roots that are kept are right in the end
  pub roots_in_the_end : (roots : List ℕ) → RootsKnown start.entries roots → RootsKnown new.entries roots
  roots_in_the_end roots known key t at top =
      let f = found_of new.entries key t at in
      let s = stood_before key f.entry t f.at f.stands in
      let settled_is : standing_at (settled now).entries key ≡ Some (settled_standing s.standing) = ap (option_and_then (λ (x : Entry). x.stands)) (at_settled now key ∙ ap settled_entry s.at) ∙ ap (option_map settled_standing) s.stands in
      ap (slice_get roots) s.same.frame ∙ arrived_roots start (settled now) from to items ready arrives (places_settled now have) roots known key (settled_standing s.standing) settled_is (sym s.same.parent ∙ top)

  -- the message is delivered
  pub delivers_in_the_end : HavePlaces new → AreTrees new.entries → new.spaces ≡ now.spaces → Delivers from to items (mappings_of start) (mappings_of new)
  delivers_in_the_end have_new trees_new spaces = record {
    middle = mappings_of (settled now);
    moved = arrived_moved start (settled now) from to items ready arrives (places_settled now have);
    cut = cut_loses start now from to items ready Done placed have trees all cur new tidies buries have_new trees_new spaces;
  }
