-- A message whose items have brought what they bring is delivered.
use Rattle.std.proofs.Common.{◌≡◌, ◌≢◌, ℕ, ◌+◌, ◌-◌, ◌^◌, ◌<◌, ◌≤◌, false, List, length, Option, Some, None, IsTrue, refl, sym, ◌∙◌, inl, inr, arith}
use Rattle.std.proofs.lemmas.Option.{slice_get_within}
use Rattle.std.specs.FinSet as set
use Rattle.l4_fpage.specs.Rights.{common, no_rights}
use Rattle.l4_links.specs.declared.Entry.{Entry}
use Rattle.l4_links.specs.Entries.{Linked, entry_at, IsAt, HavePlaces, AreTrees, pages_of, place_for, IsDue, IsUnder, IsFilled, Brings, AreOverLeaves, LoseNone, AreApart}
use Rattle.l4_links.proofs.Bringing.{rebound}
use Rattle.l4_links.proofs.BroughtParts.{PageBrings, page_due, some_brought}
use Rattle.l4_links.proofs.Low.{low_within}
use Rattle.l4_msg.specs.declared.items.ItemMove.{ItemMove}
use Rattle.l4_mapdb.specs.declared.sources.UsedMove.{UsedMove}
use Rattle.l4_mapdb.specs.Transfer.{PageMove, IsUsed, IsGranted, IsGone}
use Rattle.l4_mapdb.specs.View.{link_place, map_place, mapping_of, mappings_of}
use Rattle.l4_mapdb.specs.Delivering.{IsClean, IsDelivered}
use Rattle.l4_mapdb.specs.Inside.View.{IsShown}
use Rattle.l4_mapdb.specs.Inside.Messages.{IsMoved}
use Rattle.l4_mapdb.specs.Inside.Tangles.{Replaces}
use Rattle.l4_mapdb.proofs.Apart.{none_tangled}
use Rattle.l4_mapdb.proofs.Arrived.{Arrived, stood_at, target_goes, arrived_delivers}
use Rattle.l4_mapdb.proofs.Keyed.{page_move, used_of, present_key, above_key, entangled_keys}
use Rattle.l4_mapdb.proofs.Moves.{stand_of, stands_as, is_at, move_at}
use Rattle.l4_mapdb.proofs.View.{key_shows}

module _ (start : Linked) (places : HavePlaces start) (trees : AreTrees start.entries) (from to : ℕ) (items : List ItemMove) where
  abbrev Used : PageMove → Type 0
  Used = IsUsed (mappings_of start) from to items

  abbrev Due : Option ℕ → Entry → Type 0
  Due = IsDue from to items (length items) start.entries

  -- what a used move brings is due
  module _ (u : PageMove) (used : Used u) where
    abbrev s : IsShown start.entries u.source u.shows
    s = stood_at start places from to items u used

    source : s.entry.place ≡ record { space = from; page = u.source.page }
    source = grind arith

    source_at : IsAt start.entries (link_place u.source) s.key
    source_at = grind arith

    goes : place_for (pages_of from to used.by) u.source.page ≡ link_place u.target
    goes = grind arith

    rights : u.rights ≡ common s.standing.rights used.by.rights
    rights = grind arith

    shares : common s.standing.rights used.by.rights ≢ no_rights
    shares = grind arith

    -- the source is a page of the item
    inside : (used.by.mv.source.first ≤ s.entry.place.page) × (s.entry.place.page < used.by.mv.source.first + 2 ^ used.by.mv.source.log) × (u.source.page < used.by.mv.source.first + 2 ^ used.by.mv.source.log)
    inside = (grind arith, grind arith, grind arith)

    -- what the item makes of it
    abbrev IsMade : Option ℕ → Entry → Type 0
    IsMade = PageBrings (pages_of from to used.by) u.source.page start.entries s.key s.entry s.at source s.standing s.stands shares

    abbrev due_of : (own : Option ℕ) (e : Entry) → IsMade own e → Due own e
    due_of own e how =
        let of = pages_of from to used.by in
        let due = page_due of u.source.page start.entries s.key s.entry s.at source s.standing s.stands shares of.end inside.2 own e how in
        record { item = u.item; by = used.by; before = slice_get_within items u.item used.by used.item; item_is = used.item; brings = rebound of u.source.page of.end of.source.page of.end start.entries own e due inside.0 inside.1 }

    made : (own : Option ℕ) × (e : Entry) × IsMade own e
    made = some_brought (pages_of from to used.by) u.source.page start.entries s.key s.entry s.at source s.standing s.stands shares

    some_due : (own : Option ℕ) × (e : Entry) × Due own e × (e.place ≡ link_place u.target)
    some_due = (made.0, made.1, due_of made.0 made.1 made.2, grind (arith, goes))

  -- what is due is what a used move brings
  abbrev move_for : (own : Option ℕ) (e : Entry) → Due own e → PageMove
  move_for own e d = let h = d.brings.shared in let page = h.entry.place.page in record {
    item = d.item;
    source = record { space = from; page = page };
    target = record { space = to; page = page - d.by.mv.source.first + d.by.mv.target.first };
    grant = d.by.grant;
    shows = mapping_of start.entries h.standing;
    rights = common h.standing.rights d.by.rights;
  }

  move_used : (own : Option ℕ) (e : Entry) (d : Due own e) → Used (move_for own e d)
  move_used own e d = let h = d.brings.shared in record {
    by = d.by;
    item = d.item_is;
    from_space = refl;
    to_space = refl;
    pages = record { index = h.entry.place.page - d.by.mv.source.first; within = grind arith; source_is = grind arith; target_is = grind arith };
    grant = refl;
    present = grind (arith, key_shows start places d.brings.key h.entry h.standing h.at h.stands);
    rights = refl;
    some_right = h.shares;
  }

  module _ (clean : IsClean start) (differ : from ≢ to) (apart : AreApart items (length items)) (now : Linked) (spaces : now.spaces ≡ start.spaces) (brings : Brings Due start.entries now.entries) (over : AreOverLeaves Due start.entries)
      (whole : LoseNone from to items (length items) start.entries) where
    -- no source is at a target, nor below one
    spared : (m : UsedMove) → IsMoved start.entries from to items m → ¬ (Replaces (IsMoved start.entries from to items) start.entries m.target)
    spared m used r = let b = some_due (page_move start places trees from to items m used) (used_of start places trees from to items m used) in grind (arith, over b.0 b.1 b.2 r.key, move_at start.entries from to items r.other r.used)

    -- what goes is at a place of what is due
    filled : (key : ℕ) (e : Entry) → entry_at start.entries key ≡ Some e → IsGone Used (mappings_of start) (map_place e.place) → IsFilled Due e.place
    filled key e at g =
        let b = some_due g.move g.used in
        let p = present_key start places trees from to items g.move.target g.present in
        let above = above_key start places trees from to items key p.key (map_place e.place) g.move.target (is_at start.entries key e e.place at refl) p.at g.below in
        (b.0, b.1, b.2, grind (arith, above, over b.0 b.1 b.2 p.key))

    -- a granted page keeps its rights
    keeps : (u : PageMove) (used : Used u) → IsTrue u.grant → u.rights ≡ (s u used).standing.rights
    keeps u used grant =
        let m = made u used in
        let d = due_of u used m.0 m.1 m.2 in
        rights u used ∙ low_within (s u used).standing.rights used.by.rights (whole u.item used.by d.before used.item (sym used.grant ∙ grant) (s u used).key d.brings.shared)

    there : (u : PageMove) (used : Used u) → (key : ℕ) × IsUnder (made u used).0 key × (entry_at now.entries key ≡ Some (made u used).1)
    there u used = let m = made u used in brings.there m.0 m.1 (due_of u used m.0 m.1 m.2)

    -- what is due under a key is granted
    given_granted : (key : ℕ) (e x : Entry) → entry_at start.entries key ≡ Some e → Due (Some key) x → IsGranted Used (map_place e.place)
    given_granted key e x at d = record { move = move_for (Some key) x d; used = move_used (Some key) x d; grant = grind arith; source = grind arith }

    brought_arrived : Arrived start from to items now
    brought_arrived = record {
      spaces = spaces;
      mapped = λ u used map. let c = there u used in (c.0, (s u used).key, source_at u used, grind (arith, there u used, goes u used, rights u used));
      granted = λ u used grant key e t at stands place. let same = places.once (link_place u.source) (s u used).key key (source_at u used) (is_at start.entries key e (link_place u.source) at place) in
          grind (arith, there u used, goes u used, keeps u used grant);
      kept = λ key e t at stands stays out. stands_as now.entries key e t
          (brings.kept key e at (record { unfilled = λ f. stays (target_goes start places from to items (move_for f.0 f.1 f.2) (move_used f.0 f.1 f.2) key e t at stands (grind arith)); not_given = λ x due. out (given_granted key e x at due) })) stands;
      only = λ key p t at. let o = stand_of now.entries key p t at in elim (brings.only key o.entry o.at) [
        | inl due ↦ inl (record { move = move_for due.0 o.entry due.1; used = move_used due.0 o.entry due.1; target = grind arith })
        | inr was ↦ inr (o.entry, was.0, o.place_is, grind (arith, filled key o.entry was.0))
      ];
    }

    brought_clean : IsClean now
    brought_clean key e at = elim (brings.only key e at) [
      | inr was ↦ clean key e was.0
      | inl due ↦ (let b = due.1.brings in let h = b.shared in let p = clean b.key h.entry h.at in elim b.how [
        | inl c ↦ record {
          standing = record { frame = h.standing.frame; rights = common h.standing.rights due.1.by.rights; source = false; granted = None; parent = Some b.key };
          stands = grind arith;
          some_right = h.shares;
          unwanted = grind arith;
          no_source = refl;
          not_granted = refl;
        }
        | inr g ↦ record { standing = p.standing; stands = grind arith; some_right = p.some_right; unwanted = grind arith; no_source = p.no_source; not_granted = p.not_granted }
      ])
    ]

    pub brought_delivered : IsTrue (set.contains start.spaces to) → HavePlaces now → IsDelivered from to items start now
    brought_delivered exists have =
        arrived_delivers start now from to items
        (record { places = places; trees = trees; there = exists; clean = clean; free = λ e. none_tangled start.entries from to items apart spared (entangled_keys start places trees from to items e) })
        brought_arrived have brought_clean
        (λ place right c. grind (arith, keeps c.move c.used c.grant))
