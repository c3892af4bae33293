-- What is cut below granted pages is what the transfer's definition cuts.
use Rattle.std.proofs.Common.{◌≡◌, ◌≢◌, ℕ, true, List, length, Option, Some, None, option_and_then, option_map, ◌↔◌, inl, inr, IsTrue, refl, sym, ap, ◌∙◌, subst, arith}
use Rattle.l4_fpage.specs.Rights.{RightsSet, Right, has, no_rights}
use Rattle.l4_nodes.specs.declared.Place.{Place as LinkPlace}
use Rattle.l4_links.specs.declared.Standing.{Standing}
use Rattle.l4_links.specs.declared.Entry.{Entry}
use Rattle.l4_links.specs.Leads.{step, steps}
use Rattle.l4_links.specs.Entries.{parent_of as links_parent, Entries, Linked, entry_at, standing_at, IsAt, Descends, HavePlaces, AreTrees, Buries}
use Rattle.l4_mapdb.specs.declared.Place.{Place}
use Rattle.l4_mapdb.specs.declared.Mapping.{Mapping}
use Rattle.l4_msg.specs.declared.items.ItemMove.{ItemMove}
use Rattle.l4_mapdb.specs.Mappings.{Mappings, shown, parent_of, Chain}
use Rattle.l4_mapdb.specs.Mappings as map
use Rattle.l4_mapdb.specs.Losing.{LosesRights}
use Rattle.l4_mapdb.specs.Transfer.{PageMove, IsCut}
use Rattle.l4_mapdb.proofs.Unique.{same_value, same_rights}
use Rattle.l4_mapdb.specs.View.{link_place, map_place, mappings_of}
use Rattle.l4_mapdb.specs.Inside.Cutting.{IsGrantedAt, IsOrBelow, LeavesRights, AtOneOf, Tidies}
use Rattle.l4_mapdb.specs.Inside.Messages.{OfItems}
use Rattle.l4_mapdb.specs.Inside.Placing.{IsStart, Used, Placed}
use Rattle.l4_mapdb.specs.Inside.Settling.{left_by, settled_standing, settled_entry, settled}
use Rattle.l4_mapdb.proofs.Leading.{leads_along}
use Rattle.l4_mapdb.proofs.View.{some_standing, descends_by_parents, parents_stand, parent_is}
use Rattle.l4_mapdb.proofs.Deciding.{none_or}
use Rattle.l4_mapdb.proofs.Caps.{has_common, base, IsSameBase, base_stands, turned}
use Rattle.l4_mapdb.proofs.Restored.{target_in}
use Rattle.l4_mapdb.proofs.Tidying.{bases}
use Rattle.l4_mapdb.proofs.EntriesLemmas.{decided}
use Rattle.l4_mapdb.proofs.Lost.{HasLost, KeysLose, view_loses}
use Rattle.l4_mapdb.proofs.Moved.{at_settled, is_at_settled, was_settled, places_settled, source_of, granted_to, IsGrantedHere, stands_here}

-- a right of what stands below is a right of what stands above
pub right_up : (s : Entries) → AreTrees s → (low high : ℕ) → Descends s low high → (t u : Standing) → standing_at s low ≡ Some t → standing_at s high ≡ Some u → (k : Right) → IsTrue (has t.rights k) → IsTrue (has u.rights k)
right_up s trees low high (step is) t u at_t at_u k h =
    let p = trees.parents low t high at_t (sym (parent_is s low t at_t) ∙ is) in
    let both : Some p.above ≡ Some u = sym p.at ∙ at_u in
    let same : p.above ≡ u = same_value both in
    subst (λ (x : Standing). IsTrue (has x.rights k)) same ((has_common t.rights p.above.rights k).0 (subst (λ (r : RightsSet). IsTrue (has r k)) (sym p.within) h)).1
right_up s trees low high (steps {middle = middle} is rest) t u at_t at_u k h =
    let p = trees.parents low t middle at_t (sym (parent_is s low t at_t) ∙ is) in
    right_up s trees middle high rest p.above u p.at at_u k ((has_common t.rights p.above.rights k).0 (subst (λ (r : RightsSet). IsTrue (has r k)) (sym p.within) h)).1

-- the parents of keys, with the rights of grants settled or not
parent_settled : (s : Linked) (key : ℕ) → links_parent (settled s).entries key ≡ links_parent s.entries key
parent_settled s key = ap (λ (o : Option Entry). option_and_then (λ (t : Standing). t.parent) (option_and_then (λ (e : Entry). e.stands) o)) (at_settled s key) ∙ over (entry_at s.entries key)
  where
    over : (o : Option Entry) → option_and_then (λ (t : Standing). t.parent) (option_and_then (λ (e : Entry). e.stands) (settled_entry o)) ≡ option_and_then (λ (t : Standing). t.parent) (option_and_then (λ (e : Entry). e.stands) o)
    over None = refl
    over (Some e) = elim e.stands as (λ (o : Option Standing). option_and_then (λ (t : Standing). t.parent) (option_map settled_standing o) ≡ option_and_then (λ (t : Standing). t.parent) o) [ None ↦ refl | Some t ↦ refl ]

settled_stand : (s : Linked) (key : ℕ) (t : Standing) → standing_at s.entries key ≡ Some t → standing_at (settled s).entries key ≡ Some (settled_standing t)
settled_stand s key t at = grind (arith, some_standing, ap, option_and_then, at_settled, option_map)

-- so a place descends from another where its key descends from that one's
settled_descends : (s : Linked) → HavePlaces s → AreTrees s.entries → (low high : ℕ) (p q : Place) → IsAt s.entries (link_place p) low → IsAt s.entries (link_place q) high → map.Descends (mappings_of (settled s)) p q ↔ Descends s.entries low high
settled_descends s have trees low high p q at_low at_high =
    let both = descends_by_parents (settled s) (places_settled s have)
    (λ k up is. let t = parents_stand s.entries trees k up (sym (parent_settled s k) ∙ is) in (settled_standing t.0, settled_stand s up t.0 t.1))
    low high p q ((is_at_settled s (link_place p) low).1 at_low) ((is_at_settled s (link_place q) high).1 at_high) in (
      λ d. leads_along (links_parent (settled s).entries) (links_parent s.entries) (parent_settled s) (both.0 d),
      λ d. both.1 (leads_along (links_parent s.entries) (links_parent (settled s).entries) (λ k. sym (parent_settled s k)) d),
    )

module _ (start now : Linked) (from to : ℕ) (items : List ItemMove) (ready : IsStart start from to items) (Done : PageMove → Type 0) (placed : Placed start from to items Done now) (have : HavePlaces now)
    (trees : AreTrees now.entries) (all : (move : PageMove) → Used start from to items move → Done move) where
  abbrev Moves : PageMove → Type 0
  Moves = Used start from to items

  abbrev GrantedHere : ℕ → Entry → Type 0
  GrantedHere top e = IsGrantedHere start now from to items ready Done placed have all top e

  -- the used move that granted what stands under a key
  grant_here : (top : ℕ) (e : Entry) (t : Standing) (cap : RightsSet) → entry_at now.entries top ≡ Some e → e.stands ≡ Some t → t.granted ≡ Some cap → (g : GrantedHere top e) × (g.used.by.rights ≡ cap)
  grant_here top e t cap at stands granted =
      let note : Entry → Option RightsSet = λ x. option_and_then (λ (y : Standing). y.granted) x.stands in
      let noted : note e ≡ Some cap = ap (option_and_then (λ (y : Standing). y.granted)) stands ∙ granted in
      elim (stands_here start now from to items ready Done placed have all top e at) [
        | inl g ↦ (g, same_value (ap note (sym g.is) ∙ noted))
        | inr (inl c) ↦ absurd (let z : ◌≡◌ {A = Option RightsSet} (Some cap) None = sym noted ∙ ap note c.is in cc)
        | inr (inr l) ↦ absurd (let z : ◌≡◌ {A = Option RightsSet} (Some cap) None = sym noted ∙ ap note l.is ∙ l.plain.not_granted in cc)
      ]

  -- the pages that the items name
  abbrev pub Named : LinkPlace → Type 0
  Named = OfItems from to items (length items)

  -- each grant is to one of them
  grant_named : (top : ℕ) (cap : RightsSet) → IsGrantedAt now.entries top cap → AtOneOf Named now.entries top
  grant_named top cap granted = by_standing (standing_at now.entries top) refl
    where
      by_standing : (o : Option Standing) → standing_at now.entries top ≡ o → AtOneOf Named now.entries top
      by_standing None h = absurd (let z : ◌≡◌ {A = Option RightsSet} None (Some cap) = sym (ap (option_and_then (λ (y : Standing). y.granted)) h) ∙ granted in cc)
      by_standing (Some t) h =
          let s = some_standing now.entries top t h in
          let g = (grant_here top s.0 t cap s.1 s.2 (sym (ap (option_and_then (λ (y : Standing). y.granted)) h) ∙ granted)).0 in (
            link_place g.move.target,
            target_in from to items g.move.item g.used.by g.move.source.page (link_place g.move.target) g.used.item g.used.to_space g.used.pages,
            ap (option_map {T = Entry} (λ x. x.place)) s.1 ∙ ap (λ (x : Entry). Some x.place) g.is,
          )

  -- a right that is lost under a key, by a grant above it
  pub record LostKey (key : ℕ) (right : Right) : Type 0 where
    pub top : ℕ
    pub cap : RightsSet
    pub above : Standing
    pub at : standing_at now.entries top ≡ Some above
    pub granted : above.granted ≡ Some cap
    pub had : IsTrue (has above.rights right)
    pub lacks : ¬ (IsTrue (has cap right))
    pub below : Descends now.entries key top

  -- what is lost under a key is what the definition cuts at its place
  module _ (key : ℕ) (e : Entry) (at_key : entry_at now.entries key ≡ Some e) (right : Right) where
    abbrev middle : Mappings
    middle = mappings_of (settled now)

    at_its_place : IsAt now.entries (link_place (map_place e.place)) key
    at_its_place = ap (option_map {T = Entry} (λ x. x.place)) at_key

    cut_of : LostKey key right → IsCut Moves middle (map_place e.place) right
    cut_of l =
        let s = some_standing now.entries l.top l.above l.at in
        let here = grant_here l.top s.0 l.above l.cap s.1 s.2 l.granted in
        let g = here.0 in
        let stood = source_of start now from to items ready Done placed have all g.move g.used in
        let above_is : l.above.rights ≡ g.move.shows.rights = ap (λ (x : Standing). x.rights) (same_value (sym s.2 ∙ ap (λ (x : Entry). x.stands) g.is)) ∙ ap (λ (m : Mapping). m.rights) stood.mapping in
        record {
          move = g.move;
          used = g.used;
          grant = g.grant;
          had = subst (λ (r : RightsSet). IsTrue (has r right)) above_is l.had;
          lacks = λ h. l.lacks (subst (λ (r : RightsSet). IsTrue (has r right)) here.1 ((has_common g.move.shows.rights g.used.by.rights right).0 (subst (λ (r : RightsSet). IsTrue (has r right)) g.used.rights h)).1);
          below = (settled_descends now have trees key l.top (map_place e.place) g.move.target at_its_place (ap (option_map {T = Entry} (λ x. x.place)) s.1 ∙ ap (λ (x : Entry). Some x.place) g.is)).1 l.below;
        }

    lost_of : IsCut Moves middle (map_place e.place) right → LostKey key right
    lost_of c =
        let at = granted_to start now from to items ready Done placed have all c.move c.used c.grant in
        let s = source_of start now from to items ready Done placed have all c.move c.used in
        record {
          top = s.key;
          cap = c.used.by.rights;
          above = record s.standing { source = true; granted = Some c.used.by.rights };
          at = ap (option_and_then (λ (x : Entry). x.stands)) at;
          granted = refl;
          had = subst (λ (m : Mapping). IsTrue (has m.rights right)) (sym s.mapping) c.had;
          lacks = λ h. c.lacks (subst (λ (r : RightsSet). IsTrue (has r right)) (sym c.used.rights) ((has_common c.move.shows.rights c.used.by.rights right).1 (c.had, h)));
          below = (settled_descends now have trees key s.key (map_place e.place) c.move.target at_its_place (ap (option_map {T = Entry} (λ x. x.place)) at)).0 c.below;
        }

    pub lost_is_cut : LostKey key right ↔ IsCut Moves middle (map_place e.place) right
    lost_is_cut = (cut_of, lost_of)

  -- the right stood there, and each item names it that granted what stands there or what it descends from
  abbrev KeepsRight : ℕ → Standing → Right → Type 0
  KeepsRight key t right =
      IsTrue (has t.rights right) × ((top : ℕ) (cap : RightsSet) → AtOneOf Named now.entries top → IsGrantedAt now.entries top cap → IsOrBelow now.entries key top → IsTrue (has cap right))

  -- the rights of what is capped
  rights_left : (cur : Entries) → LeavesRights (AtOneOf Named now.entries) now.entries cur → (key : ℕ) (t u : Standing) → standing_at now.entries key ≡ Some t → standing_at cur key ≡ Some u
      → (right : Right) → IsTrue (has u.rights right) ↔ (IsTrue (has (settled_standing t).rights right) × ¬ (LostKey key right))
  rights_left cur leaves key t u at_t at_u right =
      let r = leaves key t u at_t at_u right in
      (λ h. (own t.granted refl (r.0 h), not_lost (r.0 h)), λ h. r.1 (back t.granted refl h.0, λ top cap done granted below. above top cap granted below h))
    where
      noted : (cap : RightsSet) → t.granted ≡ Some cap → IsGrantedAt now.entries key cap
      noted cap g = ap (option_and_then (λ (y : Standing). y.granted)) at_t ∙ g

      own : (o : Option RightsSet) → t.granted ≡ o → KeepsRight key t right → IsTrue (has (left_by t.granted t.rights) right)
      own None g h = subst (λ (o : Option RightsSet). IsTrue (has (left_by o t.rights) right)) (sym g) h.0
      own (Some cap) g h = subst (λ (o : Option RightsSet). IsTrue (has (left_by o t.rights) right)) (sym g)
          ((has_common t.rights cap right).1 (h.0, h.1 key cap (grant_named key cap (noted cap g)) (noted cap g) (inl refl)))

      back : (o : Option RightsSet) → t.granted ≡ o → IsTrue (has (left_by t.granted t.rights) right) → IsTrue (has t.rights right)
      back None g h = subst (λ (o : Option RightsSet). IsTrue (has (left_by o t.rights) right)) g h
      back (Some cap) g h = ((has_common t.rights cap right).0 (subst (λ (o : Option RightsSet). IsTrue (has (left_by o t.rights) right)) g h)).0

      not_lost : KeepsRight key t right → ¬ (LostKey key right)
      not_lost h l = l.lacks (h.1 l.top l.cap (grant_named l.top l.cap (ap (option_and_then (λ (y : Standing). y.granted)) l.at ∙ l.granted)) (ap (option_and_then (λ (y : Standing). y.granted)) l.at ∙ l.granted) (inr l.below))

      above : (top : ℕ) (cap : RightsSet) → IsGrantedAt now.entries top cap → IsOrBelow now.entries key top → IsTrue (has (left_by t.granted t.rights) right) × ¬ (LostKey key right) → IsTrue (has cap right)
      above top cap granted (inl same) h =
          let g : t.granted ≡ Some cap = sym (ap (option_and_then (λ (y : Standing). y.granted)) at_t) ∙ ap (λ (k : ℕ). option_and_then (λ (y : Standing). y.granted) (standing_at now.entries k)) same ∙ granted in
          ((has_common t.rights cap right).0 (subst (λ (o : Option RightsSet). IsTrue (has (left_by o t.rights) right)) g h.0)).1
      above top cap granted (inr d) h = decided (has cap right) (λ there. there) (λ lacks. absurd (by_standing (standing_at now.entries top) refl lacks))
        where
          by_standing : (o : Option Standing) → standing_at now.entries top ≡ o → ¬ (IsTrue (has cap right)) → ⊥
          by_standing None n lacks = let z : ◌≡◌ {A = Option RightsSet} None (Some cap) = sym (ap (option_and_then (λ (y : Standing). y.granted)) n) ∙ granted in cc
          by_standing (Some u) at_top lacks = h.1 (record {
            top = top;
            cap = cap;
            above = u;
            at = at_top;
            granted = sym (ap (option_and_then (λ (y : Standing). y.granted)) at_top) ∙ granted;
            had = right_up now.entries trees key top d t u at_t at_top right (back t.granted refl h.0);
            lacks = lacks;
            below = d;
          })

  module _ (cur : Entries) (new : Linked) (tidies : Tidies Named now.entries cur) (buries : Buries cur new.entries) where
    -- apart from marks and rights each key is as it was
    pub same_base : (key : ℕ) → base (entry_at cur key) ≡ base (entry_at now.entries key)
    same_base = bases Named now.entries cur tidies

    -- what is there after the burial was there before it, and where something stands it has rights
    pub before_burial : (key : ℕ) (e : Entry) → entry_at new.entries key ≡ Some e → entry_at cur key ≡ Some e
    before_burial key e at = elim (standing_at cur key) as (λ (o : Option Standing). standing_at cur key ≡ o → entry_at cur key ≡ Some e) [
      | None ↦ λ none. sym (buries.kept key (λ t is. let z : ◌≡◌ {A = Option Standing} None (Some t) = sym none ∙ is in absurd cc)) ∙ at
      | Some w ↦ λ stands. elim (none_or w.rights) [
        | inl none ↦ absurd (let z : ◌≡◌ {A = Option Entry} (Some e) None = sym at ∙ buries.gone key w stands none in cc)
        | inr some ↦ sym (buries.kept key (λ t is. subst (λ (x : Standing). x.rights ≢ no_rights) (same_value (sym stands ∙ is)) some)) ∙ at
      ]
    ] refl

    pub not_buried : (key : ℕ) (f : Entry) (u : Standing) → entry_at new.entries key ≡ Some f → f.stands ≡ Some u → (entry_at cur key ≡ Some f) × (u.rights ≢ no_rights)
    not_buried key f u at stands =
        let here = before_burial key f at in
        (here, λ none. let z : ◌≡◌ {A = Option Entry} (Some f) None = sym at ∙ buries.gone key u (ap (option_and_then (λ (x : Entry). x.stands)) here ∙ stands) none in cc)

    settled_at : (key : ℕ) (e : Entry) → entry_at now.entries key ≡ Some e → entry_at (settled now).entries key ≡ Some (record e { stands = option_map settled_standing e.stands })
    settled_at key e at = at_settled now key ∙ ap settled_entry at

    lost_between : (key : ℕ) (e f : Entry) (t u : Standing) → entry_at now.entries key ≡ Some e → e.stands ≡ Some t → entry_at cur key ≡ Some f → f.stands ≡ Some u → IsSameBase e f t u → u.rights ≢ no_rights
        → HasLost (LostKey key) (record e { stands = option_map settled_standing e.stands }) (settled_standing t) f u
    lost_between key e f t u at_e at_t at_f at_u b some =
        record {
          place = b.place;
          frame = b.frame;
          parent = b.parent;
          rights = rights_left cur tidies.rights key t u (ap (option_and_then (λ (x : Entry). x.stands)) at_e ∙ at_t) (ap (option_and_then (λ (x : Entry). x.stands)) at_f ∙ at_u);
          some_right = some;
        }

    keys_lose : KeysLose LostKey (settled now).entries new.entries
    keys_lose = record {
      from = λ key f u at stands.
          let n = not_buried key f u at stands in
          let h = base_stands (entry_at cur key) (entry_at now.entries key) (sym (same_base key)) f u n.0 stands in
          (record h.0 { stands = option_map settled_standing h.0.stands }, settled_standing h.1, settled_at key h.0 h.2, ap (option_map settled_standing) h.3, lost_between key h.0 f h.1 u h.2 h.3 n.0 stands (turned h.4) n.1);
      to = λ key was had at stands rights rights_are some.
          let w = was_settled (entry_at now.entries key) was (sym (at_settled now key) ∙ at) in
          let s = settled_from w.entry.stands had (ap (λ (x : Entry). x.stands) (sym w.is) ∙ stands) in
          let a = base_stands (entry_at now.entries key) (entry_at cur key) (same_base key) w.entry s.0 w.was s.1 in
          let left = rights_left cur tidies.rights key s.0 a.1 (ap (option_and_then (λ (x : Entry). x.stands)) w.was ∙ s.1) (ap (option_and_then (λ (x : Entry). x.stands)) a.2 ∙ a.3) in
          let same : a.1.rights ≡ rights = same_rights a.1.rights rights (λ k. (
            λ h. (rights_are k).1 (let l = (left k).0 h in (subst (λ (x : Standing). IsTrue (has x.rights k)) (sym s.2) l.0, l.1)),
            λ h. (left k).1 (let l = (rights_are k).0 h in (subst (λ (x : Standing). IsTrue (has x.rights k)) s.2 l.0, l.1)),
          )) in
          let some_right : a.1.rights ≢ no_rights = λ none. some (sym same ∙ none) in
          let at_a : standing_at cur key ≡ Some a.1 = ap (option_and_then (λ (x : Entry). x.stands)) a.2 ∙ a.3 in
          let kept = buries.kept key (λ t st. subst (λ (x : Standing). x.rights ≢ no_rights) (same_value (sym at_a ∙ st)) some_right) in (
            a.0,
            a.1,
            kept ∙ a.2,
            a.3,
            subst (λ (x : Entry). HasLost (LostKey key) x had a.0 a.1) (sym w.is)
                (subst (λ (x : Standing). HasLost (LostKey key) (record w.entry { stands = option_map settled_standing w.entry.stands }) x a.0 a.1) (sym s.2) (lost_between key w.entry a.0 s.0 a.1 w.was s.1 a.2 a.3 a.4 some_right)),
          );
    }
      where
        settled_from : (o : Option Standing) (had : Standing) → option_map settled_standing o ≡ Some had → (t : Standing) × (o ≡ Some t) × (had ≡ settled_standing t)
        settled_from None had h = absurd (let z : ◌≡◌ {A = Option Standing} None (Some had) = h in cc)
        settled_from (Some t) had h = (t, refl, sym (same_value h))

    -- below granted places just the rights go that their items don't name
    pub cut_loses : HavePlaces new → AreTrees new.entries → new.spaces ≡ now.spaces → LosesRights (IsCut Moves (mappings_of (settled now))) (mappings_of (settled now)) (mappings_of new)
    cut_loses have_new trees_new spaces =
        view_loses (IsCut Moves (mappings_of (settled now))) LostKey (settled now) new (places_settled now have) have_new trees_new keys_lose spaces (λ key e at right. same_cut key e at right)
      where
        same_cut : (key : ℕ) (e : Entry) → entry_at (settled now).entries key ≡ Some e → (right : Right) → LostKey key right ↔ IsCut Moves (mappings_of (settled now)) (map_place e.place) right
        same_cut key e at right =
            let w = was_settled (entry_at now.entries key) e (sym (at_settled now key) ∙ at) in
            subst (λ (p : LinkPlace). LostKey key right ↔ IsCut Moves (mappings_of (settled now)) (map_place p) right) (ap (λ (x : Entry). x.place) (sym w.is)) (lost_is_cut key w.entry w.was right)
