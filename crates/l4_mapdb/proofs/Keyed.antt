-- The used moves by keys are those of the mappings, and what they entangle and take with them is the same.
use Rattle.std.proofs.Common.{◌≡◌, ◌≢◌, ℕ, IsTrue, true, false, List, Option, Some, None, is_some, option_map, refl, sym, ap, ◌∙◌, subst, inl, inr, ◌⊎◌}
use Rattle.l4_fpage.specs.Rights.{common}
use Rattle.l4_nodes.specs.declared.Place.{Place as LinkPlace}
use Rattle.l4_links.specs.declared.Standing.{Standing}
use Rattle.l4_links.specs.declared.Entry.{Entry}
use Rattle.l4_links.specs.Entries.{Linked, entry_at, standing_at, IsStanding, HavePlaces, AreTrees, IsAt}
use Rattle.l4_links.specs.Entries as links
use Rattle.l4_mapdb.specs.declared.Place.{Place}
use Rattle.l4_mapdb.specs.declared.Mapping.{Mapping}
use Rattle.l4_msg.specs.declared.items.ItemMove.{ItemMove}
use Rattle.l4_mapdb.specs.Mappings.{shown, IsPresent, IsOrDescends}
use Rattle.l4_mapdb.specs.Transfer.{PageMove, IsUsed, IsEntangled}
use Rattle.l4_mapdb.proofs.Unique.{same_value}
use Rattle.l4_mapdb.specs.declared.sources.UsedMove.{UsedMove}
use Rattle.l4_mapdb.specs.View.{link_place, map_place, mapping_of, mappings_of}
use Rattle.l4_mapdb.specs.Inside.Messages.{plain, IsMoved}
use Rattle.l4_mapdb.specs.Inside.Tangles.{HasTangle}
use Rattle.l4_mapdb.proofs.View.{key_shows, shown_by_key, descends_by_key, stands_at}
use Rattle.l4_mapdb.proofs.Moves.{stand_of, stands_as, found_of, is_at, entry_of, move_at}

module _ (s : Linked) (have : HavePlaces s) (trees : AreTrees s.entries) (from to : ℕ) (items : List ItemMove) where
  abbrev Moves : UsedMove → Type 0
  Moves = IsMoved s.entries from to items

  abbrev pub Used : PageMove → Type 0
  Used = IsUsed (mappings_of s) from to items

  -- the used move of the mappings
  abbrev pub page_move : (m : UsedMove) → Moves m → PageMove
  page_move m used = record {
    item = m.item;
    source = record { space = from; page = m.page };
    target = map_place m.target;
    grant = m.grant;
    shows = mapping_of s.entries used.standing;
    rights = common used.standing.rights used.by.rights;
  }

  pub used_of : (m : UsedMove) (used : Moves m) → Used (page_move m used)
  used_of m used =
      let o = stand_of s.entries m.source (record { space = from; page = m.page }) used.standing used.stands in
      let shows : shown (mappings_of s) (map_place o.entry.place) ≡ Some (mapping_of s.entries o.standing) = key_shows s have m.source o.entry o.standing o.at o.stands in
      record {
        by = used.by;
        item = used.item;
        from_space = refl;
        to_space = used.to_space;
        pages = used.pages;
        grant = used.grant;
        present = ap (λ (p : LinkPlace). shown (mappings_of s) (map_place p)) (sym o.place_is) ∙ shows ∙ ap (λ (t : Standing). Some (mapping_of s.entries t)) o.plain_is;
        rights = refl;
        some_right = used.some_right;
      }

  -- and the one by keys
  pub record KeyMove (u : PageMove) : Type 0 where
    pub move : UsedMove
    pub moves : Moves move
    pub item : move.item ≡ u.item
    pub page : move.page ≡ u.source.page
    pub space : u.source.space ≡ from
    pub target : move.target ≡ link_place u.target
    pub grant : move.grant ≡ u.grant

  pub key_of : (u : PageMove) → Used u → KeyMove u
  key_of u used =
      let h = (shown_by_key s have u.source u.shows).0 used.present in
      let place : ◌≡◌ {A = LinkPlace} h.entry.place (record { space = from; page = u.source.page }) = h.place_is ∙ (λ i. record { space = used.from_space i; page = u.source.page }) in
      let rights : u.shows.rights ≡ h.standing.rights = ap (λ (m : Mapping). m.rights) (sym h.mapping) in
      record {
        move = record { item = u.item; page = u.source.page; source = h.key; target = link_place u.target; grant = u.grant };
        moves = record {
          by = used.by;
          item = used.item;
          grant = used.grant;
          to_space = used.to_space;
          pages = used.pages;
          standing = plain h.standing;
          stands = stands_as s.entries h.key h.entry h.standing h.at h.stands ∙ ap (λ (p : LinkPlace). Some (p, plain h.standing)) place;
          some_right = λ none. used.some_right (used.rights ∙ (λ i. common (rights i) used.by.rights) ∙ none);
        };
        item = refl;
        page = refl;
        space = used.from_space;
        target = refl;
        grant = refl;
      }

  pub source_is : (u : PageMove) (k : KeyMove u) → record { space = from; page = k.move.page } ≡ u.source
  source_is u k = λ i. record { space = (sym k.space) i; page = k.page i }

  -- what stands under a key is present
  pub key_present : (place : LinkPlace) (key : ℕ) → IsAt s.entries place key → IsStanding s.entries key → IsPresent (mappings_of s) (map_place place)
  key_present place key at stands =
      let e = entry_of s.entries key place at in
      elim (standing_at s.entries key) as (λ (o : Option Standing). standing_at s.entries key ≡ o → IsPresent (mappings_of s) (map_place place)) [
        | None ↦ λ none. absurd (stands none)
        | Some t ↦ λ is.
            let f = found_of s.entries key t is in
            let same : f.entry ≡ e.0 = same_value (sym f.at ∙ e.1) in
            ap (λ (p : LinkPlace). is_some (shown (mappings_of s) (map_place p))) (sym e.2 ∙ ap (λ (x : Entry). x.place) (sym same)) ∙ ap is_some (key_shows s have key f.entry t f.at f.stands)
      ] refl

  -- a present place has a key where something stands
  pub record PresentKey (place : Place) : Type 0 where
    pub key : ℕ
    pub at : IsAt s.entries (link_place place) key
    pub stands : IsStanding s.entries key

  some_shown : (o : Option Mapping) → is_some o ≡ true → (m : Mapping) × (o ≡ Some m)
  some_shown None h = absurd (let k : false ≡ true = h in cc)
  some_shown (Some m) h = (m, refl)

  pub present_key : (place : Place) → IsPresent (mappings_of s) place → PresentKey place
  present_key place present =
      let m = some_shown (shown (mappings_of s) place) present in
      let h = (shown_by_key s have place m.0).0 m.1 in
      record {
        key = h.key;
        at = is_at s.entries h.key h.entry (link_place place) h.at h.place_is;
        stands = λ none. let k : ◌≡◌ {A = Option Standing} None (Some h.standing) = sym none ∙ stands_at s.entries h.key h.entry h.standing h.at h.stands in cc;
      }

  -- a key is or descends from another where its place is or descends from the other's
  pub above_place : (low high : ℕ) (p q : Place) → IsAt s.entries (link_place p) low → IsAt s.entries (link_place q) high → (low ≡ high) ⊎ links.Descends s.entries low high → IsOrDescends (mappings_of s) p q
  above_place low high p q at_low at_high (inl e) =
      let same : Some (link_place p) ≡ Some (link_place q) = sym at_low ∙ ap (λ (k : ℕ). option_map {T = Entry} (λ x. x.place) (entry_at s.entries k)) e ∙ at_high in
      inl (ap map_place (same_value same))
  above_place low high p q at_low at_high (inr d) = inr ((descends_by_key s have trees low high p q at_low at_high).1 d)

  pub above_key : (low high : ℕ) (p q : Place) → IsAt s.entries (link_place p) low → IsAt s.entries (link_place q) high → IsOrDescends (mappings_of s) p q → (low ≡ high) ⊎ links.Descends s.entries low high
  above_key low high p q at_low at_high (inl e) = inl (have.once (link_place q) low high (subst (λ (x : Place). IsAt s.entries (link_place x) low) e at_low) at_high)
  above_key low high p q at_low at_high (inr d) = inr ((descends_by_key s have trees low high p q at_low at_high).0 d)

  -- a message is entangled by places where it is by keys
  pub entangled_places : HasTangle Moves s.entries → IsEntangled Used (mappings_of s)
  entangled_places h = elim h.tangles [
    | inl clash ↦ elim clash [
      | inl f ↦ record {
        one = page_move h.move h.used;
        other = page_move f.other f.used;
        one_used = used_of h.move h.used;
        other_used = used_of f.other f.used;
        clash = inl (f.differ, inl (ap map_place (sym f.target)));
      }
      | inr g ↦ record {
        one = page_move h.move h.used;
        other = page_move g.1.other g.1.used;
        one_used = used_of h.move h.used;
        other_used = used_of g.1.other g.1.used;
        clash = inl (g.1.differ, inr (g.0, λ i. record { space = from; page = (sym g.1.page_is) i }));
      }
    ]
    | inr r ↦ record {
      one = page_move h.move h.used;
      other = page_move r.other r.used;
      one_used = used_of h.move h.used;
      other_used = used_of r.other r.used;
      clash = inr (
        key_present h.move.target r.key r.at r.stands,
        above_place r.other.source r.key (record { space = from; page = r.other.page }) (map_place h.move.target) (move_at s.entries from to items r.other r.used) r.at r.above,
      );
    }
  ]

  pub entangled_keys : IsEntangled Used (mappings_of s) → HasTangle Moves s.entries
  entangled_keys e = elim e.clash [
    | inl c ↦ elim c.1 [
      | inl target ↦ same_target e c.0 target
      | inr g ↦ same_source e c.0 g.0 g.1
    ]
    | inr c ↦ replaced e c.0 c.1
  ] where
    same_target : (e : IsEntangled Used (mappings_of s)) → e.one.item ≢ e.other.item → e.one.target ≡ e.other.target → HasTangle Moves s.entries
    same_target e differ target =
        let a = key_of e.one e.one_used in
        let b = key_of e.other e.other_used in
        record {
          move = a.move;
          used = a.moves;
          tangles = inl (inl (record {
            other = b.move;
            used = b.moves;
            differ = λ same. differ (sym a.item ∙ same ∙ b.item);
            target = b.target ∙ ap link_place (sym target) ∙ sym a.target;
          }));
        }

    same_source : (e : IsEntangled Used (mappings_of s)) → e.one.item ≢ e.other.item → IsTrue e.one.grant → e.one.source ≡ e.other.source → HasTangle Moves s.entries
    same_source e differ grant source =
        let a = key_of e.one e.one_used in
        let b = key_of e.other e.other_used in
        record {
          move = a.move;
          used = a.moves;
          tangles = inl (inr (
            a.grant ∙ grant,
            record {
              other = b.move;
              used = b.moves;
              differ = λ same. differ (sym a.item ∙ same ∙ b.item);
              page_is = b.page ∙ ap (λ (p : Place). p.page) (sym source) ∙ sym a.page;
            },
          ));
        }

    replaced : (e : IsEntangled Used (mappings_of s)) → IsPresent (mappings_of s) e.one.target → IsOrDescends (mappings_of s) e.other.source e.one.target → HasTangle Moves s.entries
    replaced e present above =
        let a = key_of e.one e.one_used in
        let b = key_of e.other e.other_used in
        let k = present_key e.one.target present in
        let low : IsAt s.entries (link_place e.other.source) b.move.source =
        subst (λ (p : Place). IsAt s.entries (link_place p) b.move.source) (source_is e.other b) (move_at s.entries from to items b.move b.moves) in
        record {
          move = a.move;
          used = a.moves;
          tangles = inr (record {
            key = k.key;
            at = subst (λ (p : LinkPlace). IsAt s.entries p k.key) (sym a.target) k.at;
            stands = k.stands;
            other = b.move;
            used = b.moves;
            above = above_key b.move.source k.key e.other.source e.one.target low k.at above;
          });
        }
