-- One used move after another is carried out.
use Rattle.std.proofs.Common.{◌≡◌, ◌≢◌, ℕ, true, false, List, Option, Some, None, option_and_then, option_map, ◌↔◌, ◌⊎◌, inl, inr, IsTrue, refl, sym, ap, ◌∙◌, subst, slice_get, arith}
use Rattle.l4_fpage.specs.Rights.{RightsSet, common}
use Rattle.l4_nodes.specs.declared.Place.{Place as LinkPlace}
use Rattle.l4_links.specs.declared.Standing.{Standing}
use Rattle.l4_links.specs.declared.Entry.{Entry}
use Rattle.l4_links.specs.Entries.{Entries, Linked, entry_at, standing_at, IsAt, Sprouts, TakesOver}
use Rattle.l4_mapdb.specs.declared.Place.{Place}
use Rattle.l4_msg.specs.declared.items.ItemMove.{ItemMove}
use Rattle.l4_mapdb.specs.Transfer.{PageMove}
use Rattle.l4_mapdb.proofs.Single.{KnownMoves, one_target}
use Rattle.l4_mapdb.specs.View.{link_place, mappings_of}
use Rattle.l4_mapdb.specs.Inside.Placing.{IsStart, Used, blank_for, HasGone, HasChild, Placed}
use Rattle.l4_mapdb.proofs.Deciding.{same_or}
use Rattle.l4_mapdb.proofs.Unique.{same_value}

-- where something stands is no blank
pub not_blank : (s : Entries) (a b : ℕ) (e f : Entry) (t : Standing) → entry_at s a ≡ Some e → entry_at s b ≡ Some f → e.stands ≡ Some t → f.stands ≡ None → a ≢ b
not_blank s a b e f t at_a at_b stands blank same = grind arith

pub same_entry : (s : Entries) (a b : ℕ) (e f : Entry) → entry_at s a ≡ Some e → entry_at s b ≡ Some f → a ≡ b → e ≡ f
same_entry s a b e f at_a at_b same = let both : Some e ≡ Some f = sym at_a ∙ ap (entry_at s) same ∙ at_b in cc

pub same_link : (p q : Place) → link_place p ≡ link_place q → p ≡ q
same_link p q e = λ i. record { space = (e i).space; page = (e i).page }

module _ (start : Linked) (from to : ℕ) (items : List ItemMove) where
  -- the same moves, said in another way
  pub placed_as : (Done Other : PageMove → Type 0) (now : Linked) → ((move : PageMove) → Used start from to items move → Done move ↔ Other move) → Placed start from to items Done now → Placed start from to items Other now
  placed_as Done Other now how p = record {
    spaces = p.spaces;
    blank = λ v used undone. p.blank v used (λ d. undone ((how v used).0 d));
    mapped = λ v used done map. p.mapped v used ((how v used).1 done) map;
    granted = λ v by used done grant item. p.granted v by used ((how v used).1 done) grant item;
    kept = λ key e t at stands there gone. search arith;
    only = p.only;
  }

  module _ (known : KnownMoves (Used start from to items)) (ready : IsStart start from to items) (Done : PageMove → Type 0) (now new : Linked)
      (placed : Placed start from to items Done now) (spaces : new.spaces ≡ now.spaces)
      (u : PageMove) (used : Used start from to items u) (undone : ¬ (Done u)) (by : ItemMove) (item : slice_get items u.item ≡ Some by) where
    abbrev Later : PageMove → Type 0
    Later v = Done v ⊎ (v ≡ u)

    -- two used moves to one target are one
    one : (v : PageMove) → Used start from to items v → link_place v.target ≡ link_place u.target → v ≡ u
    one v v_used e = one_target (Used start from to items) (mappings_of start) known ready.free v u v_used used (same_link v.target u.target e)

    not_gone_yet : (place : LinkPlace) → ¬ (HasGone start from to items Later place) → ¬ (HasGone start from to items Done place)
    not_gone_yet place n g = n (record { move = g.move; used = g.used; done = inl g.done; grant = g.grant; source = g.source })

    -- the blank that waits for the move
    module _ (key : ℕ) (blank : entry_at now.entries key ≡ Some (blank_for start from to items u)) where
      other_blank : (v : PageMove) → Used start from to items v → ¬ (Later v) → (k : ℕ) → entry_at now.entries k ≡ Some (blank_for start from to items v) → k ≢ key
      other_blank v v_used later k at same =
          let e : blank_for start from to items v ≡ blank_for start from to items u = same_entry now.entries k key (blank_for start from to items v) (blank_for start from to items u) at blank same in
          later (inr (one v v_used (ap (λ (x : Entry). x.place) e)))

      stands_elsewhere : (k : ℕ) (e : Entry) (t : Standing) → entry_at now.entries k ≡ Some e → e.stands ≡ Some t → k ≢ key
      stands_elsewhere k e t at stands = not_blank now.entries k key e (blank_for start from to items u) t at blank stands refl

      pub placed_map : ¬ (IsTrue u.grant) → (parent : ℕ) → IsAt start.entries (link_place u.source) parent → (above : Standing) → standing_at now.entries parent ≡ Some above
          → above.frame ≡ u.shows.frame → common above.rights by.rights ≡ u.rights → Sprouts parent key by.rights now.entries new.entries → Placed start from to items Later new
      placed_map map parent parent_at above stands_above frame rights s = record {
        spaces = spaces ∙ placed.spaces;
        blank = λ v v_used later.
            let b = placed.blank v v_used (λ d. later (inl d)) in
            (b.0, s.stands.others b.0 (other_blank v v_used later b.0 b.1) ∙ b.1);
        mapped = λ v v_used done v_map. elim done [
          | inl d ↦ old_child v (placed.mapped v v_used d v_map)
          | inr e ↦ subst (λ (x : PageMove). HasChild start from to items new x) (sym e) new_child
        ];
        granted = λ v v_by v_used done grant v_item k e t at place stands. elim done [
          | inl d ↦
              let g = placed.granted v v_by v_used d grant v_item k e t at place stands in
              s.stands.others k (stands_elsewhere k (record { place = link_place v.target; wanted = false; stands = Some (record t { source = true; granted = Some v_by.rights }) }) (record t { source = true; granted = Some v_by.rights }) g refl) ∙ g
          | inr e ↦ absurd (map (ap (λ (x : PageMove). x.grant) (sym e) ∙ grant))
        ];
        kept = λ k e t at stands there gone.
            let l = placed.kept k e t at stands there (not_gone_yet e.place gone) in
            record {
              marked = l.marked;
              at = s.stands.others k (stands_elsewhere k (record e { stands = Some (record t { source = l.marked }) }) (record t { source = l.marked }) l.at refl) ∙ l.at;
              source = l.source;
              plain = l.plain;
            };
        only = λ k e at. elim (same_or k key) [
          | inl same ↦
              let is : e ≡ record { place = link_place u.target; wanted = true; stands = Some child } = same_value (sym at ∙ ap (entry_at new.entries) same ∙ here) in
              inl (record { move = u; used = used; target = sym (ap (λ (x : Entry). x.place) is) })
          | inr other ↦ placed.only k e (sym (s.stands.others k other) ∙ at)
        ];
      }
        where
          child : Standing
          child = record { frame = u.shows.frame; rights = u.rights; source = false; granted = None; parent = Some parent }

          same_above : s.above ≡ above
          same_above = let both : Some s.above ≡ Some above = sym s.at_parent ∙ stands_above in cc

          child_is : ◌≡◌ {A = Standing} (record { frame = s.above.frame; rights = common s.above.rights by.rights; source = false; granted = None; parent = Some parent }) child
          child_is = λ i. record {
            frame = (ap (λ (x : Standing). x.frame) same_above ∙ frame) i;
            rights = (ap (λ (x : Standing). common x.rights by.rights) same_above ∙ rights) i;
            source = false;
            granted = None;
            parent = Some parent;
          }

          here : entry_at new.entries key ≡ Some (record { place = link_place u.target; wanted = true; stands = Some child })
          here = s.stands.here ∙ ap (option_map {T = Entry} (λ e. record e { stands = Some (record { frame = s.above.frame; rights = common s.above.rights by.rights; source = false; granted = None; parent = Some parent }) })) blank
              ∙ ap (λ (t : Standing). Some (record { place = link_place u.target; wanted = true; stands = Some t })) child_is

          new_child : HasChild start from to items new u
          new_child = record { key = key; parent = parent; parent_at = parent_at; at = here }

          old_child : (v : PageMove) → HasChild start from to items now v → HasChild start from to items new v
          old_child v c = record {
            key = c.key;
            parent = c.parent;
            parent_at = c.parent_at;
            at = s.stands.others c.key (stands_elsewhere c.key (record { place = link_place v.target; wanted = true; stands = Some (record { frame = v.shows.frame; rights = v.rights; source = false; granted = None; parent = Some c.parent }) })
                (record { frame = v.shows.frame; rights = v.rights; source = false; granted = None; parent = Some c.parent }) c.at refl) ∙ c.at;
          }

      pub placed_grant : IsTrue u.grant → (source : ℕ) (before : Entry) (stood : Standing) → entry_at start.entries source ≡ Some before → before.place ≡ link_place u.source → before.stands ≡ Some stood
          → before.wanted ≡ false → stood.granted ≡ None → entry_at now.entries source ≡ Some (record before { stands = Some (record stood { source = true }) })
          → TakesOver source key by.rights now.entries new.entries → Placed start from to items Later new
      placed_grant grant source before stood at_start place_start stands_start unwanted no_grant at_now s = record {
        spaces = spaces ∙ placed.spaces;
        blank = λ v v_used later.
            let b = placed.blank v v_used (λ d. later (inl d)) in
            (b.0, s.others b.0 (λ same. not_blank now.entries source b.0 marked (blank_for start from to items v) (record stood { source = true }) at_now b.1 refl refl (sym same)) (other_blank v v_used later b.0 b.1) ∙ b.1);
        mapped = λ v v_used done v_map. elim done [
          | inl d ↦ old_child v (placed.mapped v v_used d v_map)
          | inr e ↦ absurd (v_map (ap (λ (x : PageMove). x.grant) e ∙ grant))
        ];
        granted = λ v v_by v_used done v_grant v_item k e t at place stands. elim done [
          | inl d ↦ old_grant v v_by k t (placed.granted v v_by v_used d v_grant v_item k e t at place stands)
          | inr same ↦ new_grant v v_by same v_item k e t at place stands
        ];
        kept = λ k e t at stands there gone.
            let l = placed.kept k e t at stands there (not_gone_yet e.place gone) in
            record {
              marked = l.marked;
              at = s.others k
                  (λ same. gone (record { move = u; used = used; done = inr refl; grant = grant; source = sym place_start ∙ ap (λ (x : Entry). x.place) (same_entry start.entries source k before e at_start at (sym same)) }))
                  (stands_elsewhere k (record e { stands = Some (record t { source = l.marked }) }) (record t { source = l.marked }) l.at refl) ∙ l.at;
              source = l.source;
              plain = l.plain;
            };
        only = λ k e at. elim (same_or k source) [
          | inl same ↦
              let is : e ≡ moved = same_value (sym at ∙ ap (entry_at new.entries) same ∙ here) in
              inl (record { move = u; used = used; target = sym (ap (λ (x : Entry). x.place) is) })
          | inr other ↦ elim (same_or k key) [
            | inl same ↦ absurd (let z : ◌≡◌ {A = Option Entry} (Some e) None = sym at ∙ ap (entry_at new.entries) same ∙ s.gone in cc)
            | inr apart ↦ placed.only k e (sym (s.others k other apart) ∙ at)
          ]
        ];
      }
        where
          marked : Entry
          marked = record before { stands = Some (record stood { source = true }) }

          moved : Entry
          moved = record { place = link_place u.target; wanted = false; stands = Some (record stood { source = true; granted = Some by.rights }) }

          page_is : s.page ≡ blank_for start from to items u
          page_is = let both : Some s.page ≡ Some (blank_for start from to items u) = sym s.was ∙ blank in cc

          here : entry_at new.entries source ≡ Some moved
          here = s.here ∙ ap (option_map {T = Entry} (λ e. record e { place = s.page.place; stands = option_map (λ (t : Standing). record t { granted = Some by.rights }) e.stands })) at_now
              ∙ (λ i. Some (record { place = (page_is i).place; wanted = unwanted i; stands = Some (record stood { source = true; granted = Some by.rights }) }))

          old_child : (v : PageMove) → HasChild start from to items now v → HasChild start from to items new v
          old_child v c = record {
            key = c.key;
            parent = c.parent;
            parent_at = c.parent_at;
            at = s.others c.key (λ same. no_child v c (same_entry now.entries c.key source (record { place = link_place v.target; wanted = true; stands = Some (record { frame = v.shows.frame; rights = v.rights; source = false; granted = None; parent = Some c.parent }) }) marked c.at at_now same))
                (stands_elsewhere c.key (record { place = link_place v.target; wanted = true; stands = Some (record { frame = v.shows.frame; rights = v.rights; source = false; granted = None; parent = Some c.parent }) })
                (record { frame = v.shows.frame; rights = v.rights; source = false; granted = None; parent = Some c.parent }) c.at refl) ∙ c.at;
          }
            where
              no_child : (w : PageMove) (d : HasChild start from to items now w) → ◌≡◌ {A = Entry} (record { place = link_place w.target; wanted = true; stands = Some (record { frame = w.shows.frame; rights = w.rights; source = false; granted = None; parent = Some d.parent }) }) marked → ⊥
              no_child w d e = let z : true ≡ false = ap (λ (x : Entry). x.wanted) e ∙ unwanted in cc

          old_grant : (v : PageMove) (v_by : ItemMove) (k : ℕ) (t : Standing) → entry_at now.entries k ≡ Some (record { place = link_place v.target; wanted = false; stands = Some (record t { source = true; granted = Some v_by.rights }) })
              → entry_at new.entries k ≡ Some (record { place = link_place v.target; wanted = false; stands = Some (record t { source = true; granted = Some v_by.rights }) })
          old_grant v v_by k t g = s.others k (λ same. no_grant_here (same_entry now.entries k source (record { place = link_place v.target; wanted = false; stands = Some (record t { source = true; granted = Some v_by.rights }) }) marked g at_now same))
              (stands_elsewhere k (record { place = link_place v.target; wanted = false; stands = Some (record t { source = true; granted = Some v_by.rights }) }) (record t { source = true; granted = Some v_by.rights }) g refl) ∙ g
            where
              note : Entry → Option RightsSet
              note e = option_and_then (λ (x : Standing). x.granted) e.stands

              no_grant_here : ◌≡◌ {A = Entry} (record { place = link_place v.target; wanted = false; stands = Some (record t { source = true; granted = Some v_by.rights }) }) marked → ⊥
              no_grant_here e = let z : ◌≡◌ {A = Option RightsSet} (Some v_by.rights) None = ap note e ∙ no_grant in cc

          new_grant : (v : PageMove) (v_by : ItemMove) → v ≡ u → slice_get items v.item ≡ Some v_by → (k : ℕ) (e : Entry) (t : Standing) → entry_at start.entries k ≡ Some e → e.place ≡ link_place v.source → e.stands ≡ Some t
              → entry_at new.entries k ≡ Some (record { place = link_place v.target; wanted = false; stands = Some (record t { source = true; granted = Some v_by.rights }) })
          new_grant v v_by same v_item k e t at place stands =
              let by_is : v_by ≡ by = same_value (sym v_item ∙ ap (λ (x : PageMove). slice_get items x.item) same ∙ item) in
              let key_is : k ≡ source = ready.places.once (link_place u.source) k source (ap (option_map {T = Entry} (λ x. x.place)) at ∙ ap Some (place ∙ ap (λ (x : PageMove). link_place x.source) same)) (ap (option_map {T = Entry} (λ x. x.place)) at_start ∙ ap Some place_start) in
              let entry_is : e ≡ before = same_entry start.entries k source e before at at_start key_is in
              let stood_is : t ≡ stood = same_value (sym stands ∙ ap (λ (x : Entry). x.stands) entry_is ∙ stands_start) in
              ap (entry_at new.entries) key_is ∙ here ∙ (λ i. Some (record { place = link_place (sym same i).target; wanted = false; stands = Some (record (sym stood_is i) { source = true; granted = Some (sym by_is i).rights }) }))
