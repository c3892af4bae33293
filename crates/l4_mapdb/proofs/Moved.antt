-- What stands once all used moves are done, while pages are marked and granted pages keep their rights.
use Rattle.std.proofs.Common.{◌≡◌, ◌≢◌, ℕ, ◌⊎◌, true, List, Option, Some, None, option_map, ◌↔◌, inl, inr, IsTrue, is_some, refl, sym, ap, ◌∙◌, subst, arith}
use Rattle.std.proofs.Math.ListN.{get_or-map}
use Rattle.l4_fpage.specs.Rights.{RightsSet, common}
use Rattle.l4_nodes.specs.declared.Place.{Place as LinkPlace}
use Rattle.l4_links.specs.declared.Standing.{Standing}
use Rattle.l4_links.specs.declared.Entry.{Entry}
use Rattle.l4_links.specs.Entries.{IsPlain, Linked, entry_at, IsAt, HavePlaces}
use Rattle.l4_mapdb.specs.declared.Mapping.{Mapping}
use Rattle.l4_msg.specs.declared.items.ItemMove.{ItemMove}
use Rattle.l4_mapdb.specs.Mappings.{Mappings, shown}
use Rattle.l4_mapdb.specs.Transfer.{PageMove, IsGone}
use Rattle.l4_mapdb.specs.View.{link_place, map_place, mappings_of}
use Rattle.l4_mapdb.specs.Inside.View.{IsShown}
use Rattle.l4_mapdb.proofs.EntriesLemmas.{decided}
use Rattle.l4_mapdb.specs.Inside.Placing.{IsStart, Used, HasGone, IsLeftAt, HasChild, Placed}
use Rattle.l4_mapdb.specs.Inside.Messages.{plain, stand_at}
use Rattle.l4_mapdb.specs.Inside.Settling.{left_by, settled_standing, settled_entry, settled}
use Rattle.l4_mapdb.proofs.View.{key_shows, one_entry}
use Rattle.l4_mapdb.proofs.Placed.{same_link, same_entry}
use Rattle.l4_mapdb.proofs.Sourced.{source_stays, stood, granted_for, child_for, granted_place}
use Rattle.l4_mapdb.proofs.Unique.{same_value}
use Rattle.l4_mapdb.proofs.Arrived.{child_of, Arrived}
use Rattle.l4_mapdb.proofs.Moves.{stand_of, stands_as}

pub at_settled : (s : Linked) (key : ℕ) → entry_at (settled s).entries key ≡ settled_entry (entry_at s.entries key)
at_settled s key = get_or-map settled_entry s.entries key None

place_settled : (o : Option Entry) → option_map {T = Entry} (λ e. e.place) (settled_entry o) ≡ option_map {T = Entry} (λ e. e.place) o
place_settled None = refl
place_settled (Some e) = refl

pub is_at_settled : (s : Linked) (place : LinkPlace) (key : ℕ) → IsAt (settled s).entries place key ↔ IsAt s.entries place key
is_at_settled s place key = grind (arith, option_map, ap, at_settled, place_settled, sym)

-- what was there before it was settled
pub record WasSettled (o : Option Entry) (e : Entry) : Type 0 where
  pub entry : Entry
  pub was : o ≡ Some entry
  pub is : e ≡ record entry { stands = option_map settled_standing entry.stands }

pub was_settled : (o : Option Entry) (e : Entry) → settled_entry o ≡ Some e → WasSettled o e
was_settled None e h = absurd (let z : ◌≡◌ {A = Option Entry} None (Some e) = h in cc)
was_settled (Some x) e h = record { entry = x; was = refl; is = sym (same h) }
  where
    same : ◌≡◌ {A = Option Entry} (Some (record x { stands = option_map settled_standing x.stands })) (Some e) → ◌≡◌ {A = Entry} (record x { stands = option_map settled_standing x.stands }) e
    same both = cc

pub places_settled : (s : Linked) → HavePlaces s → HavePlaces (settled s)
places_settled s have = record {
  housed = λ key e at. grind (arith, was_settled, sym, at_settled, subst, IsTrue);
  fits = λ key e at. grind (arith, was_settled, sym, at_settled, subst);
  once = λ place a b at_a at_b. have.once place a b ((is_at_settled s place a).0 at_a) ((is_at_settled s place b).0 at_b);
}

module _ (start now : Linked) (from to : ℕ) (items : List ItemMove) (ready : IsStart start from to items) (Done : PageMove → Type 0) (placed : Placed start from to items Done now) (have : HavePlaces now)
    (all : (move : PageMove) → Used start from to items move → Done move) where
  abbrev Moves : PageMove → Type 0
  Moves = Used start from to items

  abbrev before_all : Mappings
  before_all = mappings_of start

  -- no used move has its own source as target
  apart : (u : PageMove) → Moves u → u.target ≢ u.source
  apart u used e = source_stays start now from to items ready Done placed have u used (record { move = u; used = used; present = ap is_some (ap (shown before_all) e ∙ used.present); below = inl (sym e) })

  abbrev pub source_of : (u : PageMove) → Moves u → IsShown start.entries u.source u.shows
  source_of u used = stood start now from to items ready Done placed have u used

  pub granted_to : (u : PageMove) (used : Moves u) → IsTrue u.grant → entry_at now.entries (source_of u used).key ≡ Some (granted_for u used.by.rights (source_of u used).standing)
  granted_to u used grant = granted_place start now from to items ready Done placed have u used (all u used) grant

  -- a place that a move has granted is not where an entry of that key and that place stands
  not_granted_here : (key : ℕ) (e before : Entry) → entry_at now.entries key ≡ Some e → entry_at start.entries key ≡ Some before → before.place ≡ e.place → ¬ (HasGone start from to items Done before.place)
  not_granted_here key e before at at_start same g =
      let s = source_of g.move g.used in
      let key_is : s.key ≡ key = ready.places.once (link_place g.move.source) s.key key (ap (option_map {T = Entry} (λ x. x.place)) s.at ∙ ap Some s.place_is) (ap (option_map {T = Entry} (λ x. x.place)) at_start ∙ ap Some (sym g.source)) in
      let is : e ≡ granted_for g.move g.used.by.rights s.standing = same_entry now.entries key s.key e (granted_for g.move g.used.by.rights s.standing) at (granted_to g.move g.used g.grant) (sym key_is) in
      apart g.move g.used (same_link g.move.target g.move.source (ap (λ (x : Entry). x.place) (sym is) ∙ sym same ∙ sym g.source))

  -- what a used move has granted stands there
  pub record IsGrantedHere (key : ℕ) (e : Entry) : Type 0 where
    pub move : PageMove
    pub used : Moves move
    pub grant : IsTrue move.grant
    pub key_is : (source_of move used).key ≡ key
    pub is : e ≡ granted_for move used.by.rights (source_of move used).standing

  -- a child stands there
  pub record IsChildHere (e : Entry) : Type 0 where
    pub move : PageMove
    pub used : Moves move
    pub map : ¬ (IsTrue move.grant)
    pub there : HasChild start from to items now move
    pub is : e ≡ child_for move there.parent

  -- what stood there stands there still
  pub record IsLeftHere (key : ℕ) (e : Entry) : Type 0 where
    pub before : Entry
    pub at : entry_at start.entries key ≡ Some before
    pub place : before.place ≡ e.place
    pub stays : ¬ (IsGone Moves before_all (map_place before.place))
    pub not_granted : ¬ (HasGone start from to items Done before.place)
    pub plain : IsPlain before
    pub left : IsLeftAt start from to items now key before plain.standing
    pub is : e ≡ record before { stands = Some (record plain.standing { source = left.marked }) }

  -- so each entry is one of these
  pub stands_here : (key : ℕ) (e : Entry) → entry_at now.entries key ≡ Some e → IsGrantedHere key e ⊎ (IsChildHere e ⊎ IsLeftHere key e)
  stands_here key e at = elim (placed.only key e at) [
    | inl t ↦ decided t.move.grant
        (λ grant.
        let s = source_of t.move t.used in
        let here = granted_to t.move t.used grant in
        let key_is : s.key ≡ key = have.once (link_place t.move.target) s.key key (ap (option_map {T = Entry} (λ x. x.place)) here) (ap (option_map {T = Entry} (λ x. x.place)) at ∙ ap Some (sym t.target)) in
        inl (record { move = t.move; used = t.used; grant = grant; key_is = key_is; is = same_value (sym at ∙ ap (entry_at now.entries) (sym key_is) ∙ here) }))
        (λ map.
        let c = placed.mapped t.move t.used (all t.move t.used) map in
        inr (inl (record { move = t.move; used = t.used; map = map; there = c; is = one_entry now have key c.key e (child_for t.move c.parent) at c.at (sym t.target) })))
    | inr o ↦
        let plain = ready.clean key o.0 o.1 in
        let not_granted = not_granted_here key e o.0 at o.1 o.2 in
        let stays = λ (g : IsGone Moves before_all (map_place o.0.place)). o.3 (subst (λ (q : LinkPlace). IsGone Moves before_all (map_place q)) o.2 g) in
        let left = placed.kept key o.0 plain.standing o.1 plain.stands stays not_granted in
        inr (inr (record { before = o.0; at = o.1; place = o.2; stays = stays; not_granted = not_granted; plain = plain; left = left; is = same_value (sym at ∙ left.at) }))
  ]

  -- what stands, with the rights of grants settled
  settled_stand : (key : ℕ) (e : Entry) (t : Standing) → entry_at now.entries key ≡ Some e → e.stands ≡ Some t → stand_at (settled now).entries key ≡ Some (e.place, plain (settled_standing t))
  settled_stand key e t at stands = grind (arith, stands_as, option_map, at_settled, ap)

  pub arrived_settled : Arrived start from to items (settled now)
  arrived_settled = record {
    spaces = placed.spaces;
    mapped = λ u used map. let c = placed.mapped u used (all u used) map in (c.key, c.parent, c.parent_at, settled_stand c.key (child_for u c.parent) (child_of u c.parent) c.at refl);
    granted = λ u used grant key e t at stands place.
        let shows : t.rights ≡ u.shows.rights = ap (λ (x : Mapping). x.rights) (same_value (sym (key_shows start ready.places key e t at stands) ∙ ap (λ (p : LinkPlace). shown before_all (map_place p)) place ∙ used.present)) in
        let rights : common t.rights used.by.rights ≡ u.rights = ap (λ (r : RightsSet). common r used.by.rights) shows ∙ sym used.rights in
        settled_stand key (granted_for u used.by.rights t) (record t { source = true; granted = Some used.by.rights }) (placed.granted u used.by used (all u used) grant used.item key e t at place stands) refl
        ∙ ap (λ (r : RightsSet). Some (link_place u.target, record (plain t) { rights = r })) rights;
    kept = λ key e t at stands stays out.
        let p = ready.clean key e at in
        let l = placed.kept key e t at stands stays (λ g. out (record { move = g.move; used = g.used; grant = g.grant; source = ap map_place g.source })) in
        let granted : t.granted ≡ None = ap (λ (x : Standing). x.granted) (same_value (sym stands ∙ p.stands)) ∙ p.not_granted in
        settled_stand key (record e { stands = Some (record t { source = l.marked }) }) (record t { source = l.marked }) l.at refl
        ∙ ap (λ (o : Option RightsSet). Some (e.place, record (plain t) { rights = left_by o t.rights })) granted;
    only = λ key p t at.
        let o = stand_of (settled now).entries key p t at in
        let w = was_settled (entry_at now.entries key) o.entry (sym (at_settled now key) ∙ o.at) in
        let place : w.entry.place ≡ p = ap (λ (x : Entry). x.place) (sym w.is) ∙ o.place_is in
        elim (placed.only key w.entry w.was) [
          | inl f ↦ inl (record { move = f.move; used = f.used; target = f.target ∙ place })
          | inr b ↦ inr (b.0, b.1, b.2 ∙ place, λ g. b.3 (subst (λ (q : LinkPlace). IsGone Moves before_all (map_place q)) (sym place) g))
        ];
  }
