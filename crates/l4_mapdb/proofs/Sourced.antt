-- The used moves out of a page, and what stands at the page while moves are carried out.
use Rattle.std.proofs.Common.{◌≡◌, ℕ, ◌+◌, ◌-◌, ◌<◌, ◌≤◌, ◌^◌, Bool, true, false, List, Option, Some, None, option_and_then, option_map, inl, inr, IsTrue, refl, sym, ap, ◌∙◌, subst, slice_get, arith}
use Rattle.l4_fpage.specs.Rights.{RightsSet, common}
use Rattle.l4_nodes.specs.declared.Place.{Place as LinkPlace}
use Rattle.l4_links.specs.declared.Standing.{Standing}
use Rattle.l4_links.specs.declared.Entry.{Entry}
use Rattle.l4_links.specs.Entries.{Linked, entry_at, HavePlaces}
use Rattle.l4_msg.specs.declared.items.ItemMove.{ItemMove}
use Rattle.l4_mapdb.specs.Mappings.{shown}
use Rattle.l4_mapdb.specs.Transfer.{PageMove, IsGone}
use Rattle.l4_mapdb.specs.View.{link_place, map_place, mapping_of, mappings_of}
use Rattle.l4_mapdb.specs.Inside.View.{IsShown}
use Rattle.l4_mapdb.specs.Inside.Placing.{IsStart, Used, blank_for, IsTarget, HasGone, Placed, IsSourceAt, MovesNone, HasBlank}
use Rattle.l4_mapdb.proofs.View.{key_shows, shown_by_key, some_standing, some_entry, one_entry}
use Rattle.l4_mapdb.proofs.Unique.{same_value}

-- what stands at the target of a grant with these rights, and at that of a map item
abbrev pub granted_for : PageMove → RightsSet → Standing → Entry
granted_for u cap t = record { place = link_place u.target; wanted = false; stands = Some (record t { source = true; granted = Some cap }) }

abbrev pub child_for : PageMove → ℕ → Entry
child_for u parent = record { place = link_place u.target; wanted = true; stands = Some (record { frame = u.shows.frame; rights = u.rights; source = false; granted = None; parent = Some parent }) }

module _ (start now : Linked) (from to : ℕ) (items : List ItemMove) (ready : IsStart start from to items) (Done : PageMove → Type 0) (placed : Placed start from to items Done now) (have : HavePlaces now) where
  abbrev Moves : PageMove → Type 0
  Moves = Used start from to items

  -- no source is gone
  pub source_stays : (u : PageMove) → Moves u → ¬ (IsGone Moves (mappings_of start) u.source)
  source_stays u a g = ready.free (record { one = g.move; other = u; one_used = g.used; other_used = a; clash = inr (g.present, g.below) })

  -- what stood at a used move's source before the message
  pub stood : (u : PageMove) → Moves u → IsShown start.entries u.source u.shows
  stood u used = (shown_by_key start ready.places u.source u.shows).0 used.present

  -- one page has one entry
  one_here : (j k : ℕ) (a b : Entry) → entry_at now.entries j ≡ Some a → entry_at now.entries k ≡ Some b → a.place ≡ b.place → a ≡ b
  one_here = one_entry now have

  abbrev note : Entry → Option RightsSet
  note e = option_and_then (λ (x : Standing). x.granted) e.stands

  abbrev mark : Entry → Option Bool
  mark e = option_map (λ (x : Standing). x.source) e.stands

  -- what was granted stands at the target
  pub granted_place : (u : PageMove) (used : Moves u) → Done u → IsTrue u.grant → entry_at now.entries (stood u used).key ≡ Some (granted_for u used.by.rights (stood u used).standing)
  granted_place u used done grant = let s = stood u used in placed.granted u used.by used done grant used.item s.key s.entry s.standing s.at s.place_is s.stands

  -- where a source stands that is not granted, no used move has its target
  no_target : (key : ℕ) (e : Entry) (w : Standing) → entry_at now.entries key ≡ Some e → e.stands ≡ Some w → w.source ≡ true → w.granted ≡ None → IsTarget start from to items e.place → ⊥
  no_target key e w at stands source plain t = undone done
    where
      undone : ¬ (Done t.move) → ⊥
      undone n =
          let b = placed.blank t.move t.used n in
          let same : e ≡ blank_for start from to items t.move = one_here key b.0 e (blank_for start from to items t.move) at b.1 (sym t.target) in
          let z : ◌≡◌ {A = Option Standing} (Some w) None = sym stands ∙ ap (λ (x : Entry). x.stands) same in
          cc

      done : ¬ (Done t.move)
      done d = elim t.move.grant as (λ v. t.move.grant ≡ v → ⊥) [
        | true ↦ λ g.
            let p = stood t.move t.used in
            let same : e ≡ granted_for t.move t.used.by.rights p.standing = one_here key p.key e (granted_for t.move t.used.by.rights p.standing) at (granted_place t.move t.used d g) (sym t.target) in
            let z : ◌≡◌ {A = Option RightsSet} None (Some t.used.by.rights) = sym plain ∙ ap (option_and_then (λ (x : Standing). x.granted)) (sym stands) ∙ ap note same in
            cc
        | false ↦ search (false, true, sym, one_here, Option, Bool, Some, ap, option_map, arith)
      ] refl

  -- what stands at a page as a source that is not granted, stood there before the message
  pub record StoodHere (place : LinkPlace) (key : ℕ) (w : Standing) : Type 0 where
    pub before : Entry
    pub standing : Standing
    pub at : entry_at start.entries key ≡ Some before
    pub place_is : before.place ≡ place
    pub stands : before.stands ≡ Some standing
    pub unwanted : before.wanted ≡ false
    pub no_grant : standing.granted ≡ None
    pub is : w ≡ record standing { source = true }
    pub at_now : entry_at now.entries key ≡ Some (record before { stands = Some (record standing { source = true }) })

  pub stood_here : (place : LinkPlace) (rights : RightsSet) (key : ℕ) (h : IsSourceAt now.entries place rights key) → StoodHere place key h.standing
  stood_here place rights key h =
      let s = some_standing now.entries key h.standing h.stands in
      let p = some_entry now.entries place key h.at in
      let same : s.0 ≡ p.0 = same_value (sym s.1 ∙ p.1) in
      let here : s.0.place ≡ place = ap (λ (x : Entry). x.place) same ∙ p.2 in
      elim (placed.only key s.0 s.1) [
        | inl t ↦ absurd (no_target key s.0 h.standing s.1 s.2 h.source h.not_granted t)
        | inr o ↦ left s.0 s.1 s.2 here o.0 o.1 o.2 o.3
      ]
    where
      left : (e : Entry) → entry_at now.entries key ≡ Some e → e.stands ≡ Some h.standing → e.place ≡ place → (before : Entry) → entry_at start.entries key ≡ Some before → before.place ≡ e.place
          → ¬ (IsGone Moves (mappings_of start) (map_place e.place)) → StoodHere place key h.standing
      left e at stands here before at_start same there =
          let plain = ready.clean key before at_start in
          let l = placed.kept key before plain.standing at_start plain.stands (λ g. there (subst (λ (p : LinkPlace). IsGone Moves (mappings_of start) (map_place p)) same g)) granted in
          let is : e ≡ record before { stands = Some (record plain.standing { source = l.marked }) } = same_value (sym at ∙ l.at) in
          let stand_is : h.standing ≡ record plain.standing { source = l.marked } = same_value (sym stands ∙ ap (λ (x : Entry). x.stands) is) in
          let marked : l.marked ≡ true = ap (λ (x : Standing). x.source) (sym stand_is) ∙ h.source in
          grind arith
        where
          granted : ¬ (HasGone start from to items Done before.place)
          granted g =
              let p = stood g.move g.used in
              let key_is : p.key ≡ key = ready.places.once (link_place g.move.source) p.key key (ap (option_map {T = Entry} (λ x. x.place)) p.at ∙ ap Some p.place_is) (ap (option_map {T = Entry} (λ x. x.place)) at_start ∙ ap Some (sym g.source)) in
              let is : e ≡ granted_for g.move g.used.by.rights p.standing = same_value (sym at ∙ ap (entry_at now.entries) (sym key_is) ∙ granted_place g.move g.used g.done g.grant) in
              let z : ◌≡◌ {A = Option RightsSet} None (Some g.used.by.rights) = sym h.not_granted ∙ ap (option_and_then (λ (x : Standing). x.granted)) (sym stands) ∙ ap note is in
              cc

  -- a page of an item
  module _ (item : ℕ) (by : ItemMove) (item_at : slice_get items item ≡ Some by) (page : ℕ) (first : by.mv.source.first ≤ page) (last : page < by.mv.source.first + 2 ^ by.mv.source.log) where
    abbrev pub source_page : LinkPlace
    source_page = record { space = from; page = page }

    abbrev pub target_page : LinkPlace
    target_page = record { space = to; page = page - by.mv.source.first + by.mv.target.first }

    -- the used move of the item out of the page
    pub record MoveHere (key : ℕ) (w : Standing) : Type 0 where
      pub move : PageMove
      pub used : Moves move
      pub item_is : move.item ≡ item
      pub source : link_place move.source ≡ source_page
      pub target : link_place move.target ≡ target_page
      pub grant : move.grant ≡ by.grant
      pub stood : StoodHere source_page key w
      pub frame : w.frame ≡ move.shows.frame
      pub rights : common w.rights by.rights ≡ move.rights

    pub move_here : (key : ℕ) (h : IsSourceAt now.entries source_page by.rights key) → MoveHere key h.standing
    move_here key h =
        let s = stood_here source_page by.rights key h in
        record {
          move = move_of s.standing;
          used = record {
            by = by;
            item = item_at;
            from_space = refl;
            to_space = refl;
            pages = record { index = page - by.mv.source.first; within = omega (arith, first, last); source_is = omega (arith, first); target_is = omega arith };
            grant = refl;
            present = ap (shown (mappings_of start)) (ap map_place (sym s.place_is)) ∙ key_shows start ready.places key s.before s.standing s.at s.stands;
            rights = refl;
            some_right = λ none. h.some_right (ap (λ (x : Standing). common x.rights by.rights) s.is ∙ none);
          };
          item_is = refl;
          source = refl;
          target = refl;
          grant = refl;
          stood = s;
          frame = ap (λ (x : Standing). x.frame) s.is;
          rights = ap (λ (x : Standing). common x.rights by.rights) s.is;
        }
      where
        move_of : Standing → PageMove
        move_of t = record {
          item = item;
          source = record { space = from; page = page };
          target = record { space = to; page = page - by.mv.source.first + by.mv.target.first };
          grant = by.grant;
          shows = mapping_of start.entries t;
          rights = common t.rights by.rights;
        }

    -- no used move of the item that is still to be done comes from a page where nothing is to be moved
    pub none_here : MovesNone source_page by.rights now.entries → (v : PageMove) → Moves v → v.item ≡ item → v.source.page ≡ page → ¬ (HasGone start from to items Done (link_place v.source)) → ⊥
    none_here none v used item_is page_is there =
        let s = stood v used in
        let plain = ready.clean s.key s.entry s.at in
        let stays = λ (g : IsGone Moves (mappings_of start) (map_place s.entry.place)). source_stays v used (subst (λ (p : LinkPlace). IsGone Moves (mappings_of start) (map_place p)) s.place_is g) in
        let l = placed.kept s.key s.entry s.standing s.at s.stands stays (λ g. there (record { move = g.move; used = g.used; done = g.done; grant = g.grant; source = g.source ∙ s.place_is })) in
        let marked : l.marked ≡ true = l.source v used (sym s.place_is) in
        let same : plain.standing ≡ s.standing = same_value (sym plain.stands ∙ s.stands) in
        let by_is : used.by ≡ by = same_value (sym used.item ∙ ap (slice_get items) item_is ∙ item_at) in
        let place : link_place v.source ≡ source_page = (λ i. record { space = used.from_space i; page = page_is i }) in
        none s.key (record {
          standing = record s.standing { source = l.marked };
          at = ap (option_map {T = Entry} (λ e. e.place)) l.at ∙ ap Some (s.place_is ∙ place);
          stands = ap (option_and_then (λ (e : Entry). e.stands)) l.at;
          source = marked;
          not_granted = ap (λ (x : Standing). x.granted) (sym same) ∙ plain.not_granted;
          some_right = λ e. used.some_right (used.rights ∙ (λ i. common (sym s.mapping i).rights (by_is i).rights) ∙ e);
        })

    -- a blank waits for what is to be moved out of the page
    pub blank_here : ((v : PageMove) → Moves v → v.item ≡ item → v.source.page ≡ page → ¬ (Done v)) → HasBlank source_page target_page by.rights now.entries
    blank_here undone key h =
        let m = move_here key h in
        let b = placed.blank m.move m.used (undone m.move m.used m.item_is (ap (λ (p : LinkPlace). p.page) m.source)) in (
          b.0,
          ap (option_map {T = Entry} (λ e. e.place)) b.1 ∙ ap Some m.target,
          record {
            there = λ none. let z : ◌≡◌ {A = Option Entry} (Some (blank_for start from to items m.move)) None = sym b.1 ∙ none in cc;
            blank = ap (option_and_then (λ (e : Entry). e.stands)) b.1;
          },
        )
