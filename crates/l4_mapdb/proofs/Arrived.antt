-- Once all used moves are made, the mappings are those in the middle of the transfer.
use Rattle.std.proofs.Common.{◌≡◌, ◌≢◌, ℕ, ◌⊎◌, false, List, Option, Some, None, option_and_then, option_map, inl, inr, IsTrue, is_some, refl, sym, ap, ◌∙◌, subst, slice_get, arith}
use Rattle.l4_fpage.specs.Rights.{Right}
use Rattle.l4_nodes.specs.declared.Place.{Place as LinkPlace}
use Rattle.l4_links.specs.declared.Standing.{Standing}
use Rattle.l4_links.specs.declared.Entry.{Entry}
use Rattle.l4_links.specs.Entries.{Linked, entry_at, IsAt, HavePlaces}
use Rattle.l4_mapdb.specs.declared.Place.{Place}
use Rattle.l4_mapdb.specs.declared.Mapping.{Mapping}
use Rattle.l4_msg.specs.declared.items.ItemMove.{ItemMove}
use Rattle.l4_mapdb.specs.Mappings.{Mappings, shown, parent_of, child, further}
use Rattle.l4_mapdb.specs.Transfer.{PageMove, IsGranted, IsGone, StandsAt, ParentLater, Becomes, Moved, IsCut}
use Rattle.l4_mapdb.specs.View.{link_place, map_place, place_at, mapping_of, mappings_of}
use Rattle.l4_mapdb.specs.Delivering.{IsClean, RootsKnown, IsDelivered}
use Rattle.l4_mapdb.specs.Inside.View.{IsShown}
use Rattle.l4_mapdb.specs.Inside.Messages.{plain, stand_at}
use Rattle.l4_mapdb.specs.Inside.Placing.{IsStart, Used, IsTarget}
use Rattle.l4_mapdb.proofs.EntriesLemmas.{decided}
use Rattle.l4_mapdb.proofs.Filled.{BecomesBy}
use Rattle.l4_mapdb.proofs.ForestKept.{decide}
use Rattle.l4_mapdb.proofs.Moves.{stand_of, stand_is_at, stand_place, stands_as, found_of}
use Rattle.l4_mapdb.proofs.Nothing.{cuts_none}
use Rattle.l4_mapdb.proofs.Placed.{same_link}
use Rattle.l4_mapdb.proofs.Single.{KnownMoves, one_target, one_grant, moved_by}
use Rattle.l4_mapdb.proofs.Unique.{same_value}
use Rattle.l4_mapdb.proofs.UsedMoves.{known_moves}
use Rattle.l4_mapdb.proofs.View.{key_shows, shown_by_key, stands_at}

-- the child of what is under the key, as the move makes it
abbrev pub child_of : PageMove → ℕ → Standing
child_of u parent = record { frame = u.shows.frame; rights = u.rights; source = false; granted = None; parent = Some parent }

-- what the move grants, with the rights that it has in common with the item
abbrev pub given_of : PageMove → Standing → Standing
given_of u t = record (plain t) { rights = u.rights }

-- At the target of each used move is the child of what is at the source or, if it grants, what was there. What is neither replaced nor granted is where it was. Marks
-- are not spoken of.
pub record Arrived (start : Linked) (from to : ℕ) (items : List ItemMove) (now : Linked) : Type 0 where
  pub spaces : now.spaces ≡ start.spaces
  pub mapped : (u : PageMove) → Used start from to items u → ¬ (IsTrue u.grant) → (key : ℕ) × (parent : ℕ) × IsAt start.entries (link_place u.source) parent × (stand_at now.entries key ≡ Some (link_place u.target, child_of u parent))
  pub granted : (u : PageMove) → Used start from to items u → IsTrue u.grant → (key : ℕ) (e : Entry) (t : Standing) → entry_at start.entries key ≡ Some e → e.stands ≡ Some t → e.place ≡ link_place u.source
      → stand_at now.entries key ≡ Some (link_place u.target, given_of u t)
  pub kept : (key : ℕ) (e : Entry) (t : Standing) → entry_at start.entries key ≡ Some e → e.stands ≡ Some t → ¬ (IsGone (Used start from to items) (mappings_of start) (map_place e.place)) → ¬ (IsGranted (Used start from to items) (map_place e.place))
      → stand_at now.entries key ≡ Some (e.place, plain t)
  pub only : (key : ℕ) (p : LinkPlace) (t : Standing) → stand_at now.entries key ≡ Some (p, t)
      → IsTarget start from to items p ⊎ ((before : Entry) × (entry_at start.entries key ≡ Some before) × (before.place ≡ p) × ¬ (IsGone (Used start from to items) (mappings_of start) (map_place p)))

module _ (start : Linked) (places : HavePlaces start) (from to : ℕ) (items : List ItemMove) where
  -- what stood at a used move's source
  pub stood_at : (u : PageMove) → Used start from to items u → IsShown start.entries u.source u.shows
  stood_at u used = (shown_by_key start places u.source u.shows).0 used.present

  -- a present target goes
  pub target_goes : (u : PageMove) → Used start from to items u → (key : ℕ) (e : Entry) (t : Standing) → entry_at start.entries key ≡ Some e → e.stands ≡ Some t → link_place u.target ≡ e.place
      → IsGone (Used start from to items) (mappings_of start) (map_place e.place)
  target_goes u used key e t at stands same = record {
    move = u;
    used = used;
    present = ap (λ (p : LinkPlace). is_some (shown (mappings_of start) (map_place p))) same ∙ ap is_some (key_shows start places key e t at stands);
    below = inl (ap map_place (sym same));
  }

module _ (start now : Linked) (from to : ℕ) (items : List ItemMove) (ready : IsStart start from to items) (arrived : Arrived start from to items now) (have : HavePlaces now) where
  abbrev Moves : PageMove → Type 0
  Moves = Used start from to items

  abbrev before_all : Mappings
  before_all = mappings_of start

  known : KnownMoves Moves
  known = known_moves before_all from to items

  abbrev stood : (u : PageMove) → Moves u → IsShown start.entries u.source u.shows
  stood u used = stood_at start ready.places from to items u used

  goes : (u : PageMove) → Moves u → (key : ℕ) (e : Entry) (t : Standing) → entry_at start.entries key ≡ Some e → e.stands ≡ Some t → link_place u.target ≡ e.place → IsGone Moves before_all (map_place e.place)
  goes = target_goes start ready.places from to items

  source_stays : (u : PageMove) → Moves u → ¬ (IsGone Moves before_all u.source)
  source_stays u used g = ready.free (record { one = g.move; other = u; one_used = g.used; other_used = used; clash = inr (g.present, g.below) })

  given : (u : PageMove) (used : Moves u) → IsTrue u.grant → stand_at now.entries (stood u used).key ≡ Some (link_place u.target, given_of u (stood u used).standing)
  given u used grant = let s = stood u used in arrived.granted u used grant s.key s.entry s.standing s.at s.stands s.place_is

  -- what stands at one page is one
  one_here : (j k : ℕ) (p q : LinkPlace) (t u : Standing) → stand_at now.entries j ≡ Some (p, t) → stand_at now.entries k ≡ Some (q, u) → p ≡ q → (j ≡ k) × (t ≡ u)
  one_here j k p q t u at_j at_k same =
      let key : j ≡ k = have.once q j k (stand_is_at now.entries j p t at_j ∙ ap (λ (x : LinkPlace). Some x) same) (stand_is_at now.entries k q u at_k) in
      (key, ap (λ (x : LinkPlace × Standing). x.1) (same_value (sym at_j ∙ ap (stand_at now.entries) key ∙ at_k)))

  place_now : (key : ℕ) (p : LinkPlace) (t : Standing) → stand_at now.entries key ≡ Some (p, t) → place_at now.entries key ≡ Some (map_place p)
  place_now = stand_place now.entries

  -- a child stands there, or what was granted, or what stood there
  record IsChildAt (p : LinkPlace) (t : Standing) : Type 0 where
    move : PageMove
    used : Moves move
    map : ¬ (IsTrue move.grant)
    target : link_place move.target ≡ p
    parent : ℕ
    parent_at : IsAt start.entries (link_place move.source) parent
    is : t ≡ child_of move parent

  record IsGivenAt (key : ℕ) (p : LinkPlace) (t : Standing) : Type 0 where
    move : PageMove
    used : Moves move
    grant : IsTrue move.grant
    target : link_place move.target ≡ p
    key_is : key ≡ (stood move used).key
    is : t ≡ given_of move (stood move used).standing

  record IsLeftAt (key : ℕ) (p : LinkPlace) (t : Standing) : Type 0 where
    before : Entry
    standing : Standing
    at : entry_at start.entries key ≡ Some before
    stands : before.stands ≡ Some standing
    place : before.place ≡ p
    stays : ¬ (IsGone Moves before_all (map_place before.place))
    not_granted : ¬ (IsGranted Moves (map_place before.place))
    is : t ≡ plain standing

  here : (key : ℕ) (p : LinkPlace) (t : Standing) → stand_at now.entries key ≡ Some (p, t) → IsChildAt p t ⊎ (IsGivenAt key p t ⊎ IsLeftAt key p t)
  here key p t at = elim (arrived.only key p t at) [
    | inl f ↦ decided f.move.grant
        (λ grant. let one = one_here key (stood f.move f.used).key p (link_place f.move.target) t (given_of f.move (stood f.move f.used).standing) at (given f.move f.used grant) (sym f.target) in
        inr (inl (record { move = f.move; used = f.used; grant = grant; target = f.target; key_is = one.0; is = one.1 })))
        (λ map. let c = arrived.mapped f.move f.used map in
        inl (record { move = f.move; used = f.used; map = map; target = f.target; parent = c.1; parent_at = c.2; is = (one_here key c.0 p (link_place f.move.target) t (child_of f.move c.1) at c.3 (sym f.target)).1 }))
    | inr o ↦
        let b = ready.clean key o.0 o.1 in
        let stays = λ (g : IsGone Moves before_all (map_place o.0.place)). o.3 (subst (λ (q : LinkPlace). IsGone Moves before_all (map_place q)) o.2 g) in
        let not_granted : ¬ (IsGranted Moves (map_place o.0.place)) = λ g.
        let there = arrived.granted g.move g.used g.grant key o.0 b.standing o.1 b.stands (ap link_place (sym g.source)) in
        stays (goes g.move g.used key o.0 b.standing o.1 b.stands (ap (λ (x : LinkPlace × Standing). x.0) (same_value (sym there ∙ at)) ∙ sym o.2)) in
        let left = arrived.kept key o.0 b.standing o.1 b.stands stays not_granted in
        inr (inr (record { before = o.0; standing = b.standing; at = o.1; stands = b.stands; place = o.2; stays = stays; not_granted = not_granted; is = ap (λ (x : LinkPlace × Standing). x.1) (same_value (sym at ∙ left)) }))
  ]

  -- where what stood under a key stands now
  later_place : (key : ℕ) (e : Entry) (t : Standing) → entry_at start.entries key ≡ Some e → e.stands ≡ Some t → ¬ (IsGone Moves before_all (map_place e.place)) → (q : Place) × StandsAt Moves (map_place e.place) q × (place_at now.entries key ≡ Some q)
  later_place key e t at stands there = go (stand_at now.entries key) refl
    where
      -- it is where it was granted to, or where it was
      by_grant : (o : Option (LinkPlace × Standing)) → stand_at now.entries key ≡ o → ((u : PageMove) → Moves u → IsTrue u.grant → o ≢ Some (link_place u.target, given_of u t)) → o ≢ Some (e.place, plain t) → ⊥
      by_grant o is not_given not_left = decide (IsGranted Moves (map_place e.place)) (λ d. elim d [
        | inl g ↦ not_given g.move g.used g.grant (sym is ∙ arrived.granted g.move g.used g.grant key e t at stands (ap link_place (sym g.source)))
        | inr n ↦ not_left (sym is ∙ arrived.kept key e t at stands there n)
      ])

      go : (o : Option (LinkPlace × Standing)) → stand_at now.entries key ≡ o → (q : Place) × StandsAt Moves (map_place e.place) q × (place_at now.entries key ≡ Some q)
      go None none = absurd (by_grant None none (λ u _ _ z. cc) (λ z. cc))
      go (Some x) is = elim (here key x.0 x.1 is) [
        | inl c ↦ absurd (by_grant (Some x) is
            (λ u used grant same.
            let target : u.target ≡ c.move.target = same_link u.target c.move.target (ap (λ (y : LinkPlace × Standing). y.0) (sym (same_value same)) ∙ sym c.target) in
            c.map (subst (λ (v : PageMove). IsTrue v.grant) (one_target Moves before_all known ready.free u c.move used c.used target) grant))
            (λ same. there (goes c.move c.used key e t at stands (c.target ∙ ap (λ (y : LinkPlace × Standing). y.0) (same_value same)))))
        | inr (inl g) ↦
            let s = stood g.move g.used in
            let same : e ≡ s.entry = same_value (sym at ∙ ap (entry_at start.entries) g.key_is ∙ s.at) in
            let source : g.move.source ≡ map_place e.place = ap map_place (sym s.place_is ∙ ap (λ (y : Entry). y.place) (sym same)) in
            (g.move.target, inl (g.move, g.used, g.grant, source, refl), place_now key x.0 x.1 is ∙ ap (λ (y : LinkPlace). Some (map_place y)) (sym g.target))
        | inr (inr l) ↦
            let same : l.before ≡ e = same_value (sym l.at ∙ at) in
            (map_place e.place, inr (subst (λ (y : Entry). ¬ (IsGranted Moves (map_place y.place))) same l.not_granted, refl), place_now key x.0 x.1 is ∙ ap (λ (y : LinkPlace). Some (map_place y)) (sym l.place ∙ ap (λ (y : Entry). y.place) same))
      ]

  -- the parent of what stood under a key
  parent_later : (key : ℕ) (e : Entry) (t : Standing) → entry_at start.entries key ≡ Some e → e.stands ≡ Some t → ¬ (IsGone Moves before_all (map_place e.place))
      → (up : Option ℕ) → t.parent ≡ up → ParentLater Moves (option_and_then (place_at start.entries) up) (option_and_then (place_at now.entries) up)
  parent_later key e t at stands there None is = refl
  parent_later key e t at stands there (Some p) is =
      let above = ready.trees.parents key t p (stands_at start.entries key e t at stands) is in
      let f = found_of start.entries p above.above above.at in
      let shows : place_at start.entries p ≡ Some (map_place f.entry.place) = ap (option_map {T = Entry} (λ y. map_place y.place)) f.at in
      let up : parent_of before_all (map_place e.place) ≡ Some (map_place f.entry.place) =
      ap (option_and_then (λ (m : Mapping). m.parent)) (key_shows start ready.places key e t at stands) ∙ ap (option_and_then (place_at start.entries)) is ∙ shows in
      let l = later_place p f.entry above.above f.at f.stands (λ g. there (record { move = g.move; used = g.used; present = g.present; below = inr (elim g.below [ inl same ↦ child (up ∙ ap Some same) | inr c ↦ further up c ]) })) in
      subst (λ (o : Option Place). ParentLater Moves o (place_at now.entries p)) (sym shows) (l.0, l.1, l.2)

  -- the source of a mapped page stands where it stood
  source_there : (u : PageMove) → Moves u → ¬ (IsTrue u.grant) → (key : ℕ) → IsAt start.entries (link_place u.source) key → place_at now.entries key ≡ Some u.source
  source_there u used map key at_source =
      let s = stood u used in
      let key_is : s.key ≡ key = ready.places.once (link_place u.source) s.key key (ap (option_map {T = Entry} (λ x. x.place)) s.at ∙ ap Some s.place_is) at_source in
      let l = arrived.kept s.key s.entry s.standing s.at s.stands
      (λ g. source_stays u used (subst (λ (q : LinkPlace). IsGone Moves before_all (map_place q)) s.place_is g))
      (λ g. map (ap (λ (x : PageMove). x.grant) (sym (one_grant Moves before_all known ready.free g.move u g.used used g.grant (g.source ∙ ap map_place s.place_is))) ∙ g.grant)) in
      ap (place_at now.entries) (sym key_is) ∙ place_now s.key s.entry.place (plain s.standing) l ∙ ap (λ (q : LinkPlace). Some (map_place q)) s.place_is

  becomes_of : (place : Place) (m : Mapping) → shown (mappings_of now) place ≡ Some m → Becomes Moves before_all place m
  becomes_of place m h =
      let u = (shown_by_key now have place m).0 h in
      elim (here u.key u.entry.place (plain u.standing) (stands_as now.entries u.key u.entry u.standing u.at u.stands)) [
        | inl c ↦
            let mapping : m ≡ mapping_of now.entries (child_of c.move c.parent) = sym u.mapping ∙ ap (mapping_of now.entries) c.is in
            inl (record {
              move = c.move;
              used = c.used;
              target = same_link c.move.target place (c.target ∙ u.place_is);
              frame = ap (λ (x : Mapping). x.frame) mapping;
              rights = ap (λ (x : Mapping). x.rights) mapping;
              parent = inl (c.map, ap (λ (x : Mapping). x.parent) mapping ∙ source_there c.move c.used c.map c.parent c.parent_at);
            })
        | inr (inl g) ↦
            let s = stood g.move g.used in
            let mapping : mapping_of now.entries (given_of g.move s.standing) ≡ m = ap (mapping_of now.entries) (sym g.is) ∙ u.mapping in
            let there = λ (gone : IsGone Moves before_all (map_place s.entry.place)). source_stays g.move g.used (subst (λ (q : LinkPlace). IsGone Moves before_all (map_place q)) s.place_is gone) in
            inl (record {
              move = g.move;
              used = g.used;
              target = same_link g.move.target place (g.target ∙ u.place_is);
              frame = ap (λ (x : Mapping). x.frame) (sym mapping) ∙ ap (λ (x : Mapping). x.frame) s.mapping;
              rights = ap (λ (x : Mapping). x.rights) (sym mapping);
              parent = inr (
                g.grant,
                subst (λ (o : Option Place). ParentLater Moves g.move.shows.parent o) (ap (λ (x : Mapping). x.parent) mapping)
                    (subst (λ (o : Option Place). ParentLater Moves o (option_and_then (place_at now.entries) s.standing.parent)) (ap (λ (x : Mapping). x.parent) s.mapping)
                    (parent_later s.key s.entry s.standing s.at s.stands there s.standing.parent refl)),
              );
            })
        | inr (inr l) ↦
            let mapping : mapping_of now.entries (plain l.standing) ≡ m = ap (mapping_of now.entries) (sym l.is) ∙ u.mapping in
            let place_is : map_place l.before.place ≡ place = ap map_place (l.place ∙ u.place_is) in
            inr (record {
              before = mapping_of start.entries l.standing;
              at = ap (shown before_all) (sym place_is) ∙ key_shows start ready.places u.key l.before l.standing l.at l.stands;
              not_gone = λ g. l.stays (subst (IsGone Moves before_all) (sym place_is) g);
              not_granted = λ g. l.not_granted (subst (IsGranted Moves) (sym place_is) g);
              frame = ap (λ (x : Mapping). x.frame) (sym mapping);
              rights = ap (λ (x : Mapping). x.rights) (sym mapping);
              parent = subst (λ (o : Option Place). ParentLater Moves (option_and_then (place_at start.entries) l.standing.parent) o) (ap (λ (x : Mapping). x.parent) mapping)
                  (parent_later u.key l.before l.standing l.at l.stands l.stays l.standing.parent refl);
            })
      ]

  -- what stands is shown
  shows_stand : (key : ℕ) (p : LinkPlace) (t : Standing) (place : Place) → stand_at now.entries key ≡ Some (p, t) → map_place p ≡ place → (k : Mapping) × (shown (mappings_of now) place ≡ Some k)
  shows_stand key p t place at is =
      let o = stand_of now.entries key p t at in
      (mapping_of now.entries o.standing, ap (shown (mappings_of now)) (sym is ∙ ap map_place (sym o.place_is)) ∙ key_shows now have key o.entry o.standing o.at o.stands)

  shown_by_kind : (place : Place) (m : Mapping) → BecomesBy Moves before_all place m → (k : Mapping) × (shown (mappings_of now) place ≡ Some k)
  shown_by_kind place m (inl x) = let c = arrived.mapped x.move x.used x.map in shows_stand c.0 (link_place x.move.target) (child_of x.move c.1) place c.3 x.target
  shown_by_kind place m (inr (inl x)) = let s = stood x.move x.used in shows_stand s.key (link_place x.move.target) (given_of x.move s.standing) place (given x.move x.used x.grant) x.target
  shown_by_kind place m (inr (inr x)) =
      let u = (shown_by_key start ready.places place x.before).0 x.at in
      let place_is : map_place u.entry.place ≡ place = ap map_place u.place_is in
      shows_stand u.key u.entry.place (plain u.standing) place
      (arrived.kept u.key u.entry u.standing u.at u.stands (λ g. x.not_gone (subst (IsGone Moves before_all) place_is g)) (λ g. x.not_granted (subst (IsGranted Moves) place_is g))) place_is

  pub arrived_moved : Moved Moves before_all (mappings_of now)
  arrived_moved = moved_by Moves before_all known ready.free (mappings_of now) arrived.spaces becomes_of shown_by_kind

  -- the keys of roots that are kept are right
  pub arrived_roots : (roots : List ℕ) → RootsKnown start.entries roots → RootsKnown now.entries roots
  arrived_roots roots known_roots key t at top =
      let f = found_of now.entries key t at in
      elim (here key f.entry.place (plain t) (stands_as now.entries key f.entry t f.at f.stands)) [
        | inl c ↦ absurd (let z : ◌≡◌ {A = Option ℕ} (Some c.parent) None = ap (λ (x : Standing). x.parent) (sym c.is) ∙ top in cc)
        | inr (inl g) ↦
            let s = stood g.move g.used in
            ap (slice_get roots) (ap (λ (x : Standing). x.frame) g.is) ∙ known_roots s.key s.standing (stands_at start.entries s.key s.entry s.standing s.at s.stands) (ap (λ (x : Standing). x.parent) (sym g.is) ∙ top) ∙ ap (λ (k : ℕ). Some k) (sym g.key_is)
        | inr (inr l) ↦ ap (slice_get roots) (ap (λ (x : Standing). x.frame) l.is) ∙ known_roots key l.standing (stands_at start.entries key l.before l.standing l.at l.stands) (ap (λ (x : Standing). x.parent) (sym l.is) ∙ top)
      ]

  -- where nothing is cut the message is delivered
  pub arrived_delivers : IsClean now → ((place : Place) (right : Right) → ¬ (IsCut Moves (mappings_of now) place right)) → IsDelivered from to items start now
  arrived_delivers clean uncut = search (arrived_moved, cuts_none, arrived_roots, arith)

-- what is delivered from the same entries is delivered from these
pub delivered_same : (from to : ℕ) (items : List ItemMove) (old mid new : Linked) → mappings_of mid ≡ mappings_of old → ((key : ℕ) → entry_at mid.entries key ≡ entry_at old.entries key)
    → IsDelivered from to items mid new → IsDelivered from to items old new
delivered_same from to items old mid new view same d = grind arith
