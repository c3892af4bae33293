-- One page that moves from an entry of a table to an entry of another one, while both are read and written.
use Rattle.std.proofs.Common.{◌≡◌, ℕ, ◌+◌, ◌*◌, ◌-◌, ◌<◌, ◌≤◌, ◌⊎◌, ◌↔◌, List, Option, Some, None, true, false, IsTrue, slice_index_or, refl, sym, ap, ◌∙◌, subst, inl, inr, arith}
use Rattle.std.proofs.lemmas.Bool.{cases_eq}
use Rattle.std.specs.Option.{option_map, option_and_then}
use Rattle.std.specs.FinMap as map
use Rattle.std.specs.FinSet as set
use Rattle.l4_fpage.specs.Rights.{RightsSet, common, no_rights}
use Rattle.l4_spaces.specs.Tables.{Tables, key_of, table_pages, IsPage}
use Rattle.l4_spaces.specs.Rows.{IsRowOf}
use Rattle.l4_spaces.proofs.Aside.{put_other, put_away}
use Rattle.l4_spaces.proofs.RowAside.{put_row, still_row}
use Rattle.l4_nodes.specs.declared.Place.{Place}
use Rattle.l4_nodes.specs.declared.nodes.Node.{Node}
use Rattle.l4_nodes.specs.Slots.{Slots, Store, HasRoomFor, node_at}
use Rattle.l4_links.specs.Leads.{Leads, step, steps}
use Rattle.l4_links.specs.declared.Standing.{Standing}
use Rattle.l4_links.specs.declared.Entry.{Entry}
use Rattle.l4_links.specs.declared.blocks.Pages.{Pages}
use Rattle.l4_links.specs.Entries.{Entries, entry_at, standing_at, IsAt, place_for, child_entry, IsBrought, Brings}
use Rattle.l4_links.specs.Inside.Bringing.{IsSpare, IsLacking}
use Rattle.l4_links.specs.Inside.Nodes.{IsOf}
use Rattle.l4_links.specs.Inside.Keeping.{entries_of, standing_of}
use Rattle.l4_links.specs.Inside.Growing.{AddsAt, RenewsAt, GivesAt, AreRows, AreSameAround, SharesNone, SharesSome, Enters, Lacks, CanEnter, IsSpareNode, IsBareNode, RunsUpTo, CanRun, BringsRow}
use Rattle.l4_links.proofs.Adding.{blank_of}
use Rattle.l4_links.proofs.Bringing.{brings_none, brings_one, rebound}
use Rattle.l4_links.proofs.BroughtParts.{nothing_brought, PageBrings, page_due, page_brings, some_brought, parts_joined, fits_rest, lacking_rest, at_most_step, at_most_back, room_less}
use Rattle.l4_links.proofs.Giving.{is_in, rows_given, brings_given}
use Rattle.l4_links.proofs.Kept.{nodes_blank, live_nodes, live_child}
use Rattle.l4_links.proofs.Naming.{unnamed, indexed_same, indexed_added, find_is}
use Rattle.l4_links.proofs.Stacking.{stack_nodes, stack_comes}
use Rattle.l4_links.proofs.TableEntries.{entry_of_page}
use Rattle.l4_links.proofs.Views.{view_added}
use Rattle.l4_links.proofs.Seen.{standing_is, parent_same}
use Rattle.l4_links.proofs.Writes.{map_from, same_some, no_some}

pub same_around : (from high to other : ℕ) (all : Tables) → AreSameAround from high to other all all
same_around from high to other all = record { away = λ space page a b. refl; spaces = refl }

module _ (from high to other : ℕ) (source target source_new row : List (Option ℕ)) (old new : Slots) (first head : Option ℕ) (stamp : ℕ) (all : Tables) (r : AreRows from high to other source target old first head stamp all) (left : source_new ≡ source)
    (parent low : ℕ) (place : Place) (rights : RightsSet) (a : AddsAt parent place rights low old new target row) (to_is : place.space ≡ to) (page_is : place.page ≡ other * table_pages + low) (lt : low < table_pages) (fits : IsPage place.page) where
  pub same : (k : ℕ) → node_at a.adds.middle k ≡ node_at old k
  same = nodes_blank old a.adds.middle a.key (blank_of place) refl a.adds.blanks.vacant a.adds.blanks.filled a.adds.blanks.others

  pub free_before : (k : ℕ) → ¬ (IsOf old place k)
  free_before = unnamed old all r.indexed place (ap (λ (z : ℕ). key_of all z place.page) to_is ∙ ap (key_of all to) page_is ∙ r.target_row.keys_are low lt ∙ a.free)

  -- the tables once the page has this key
  abbrev named : Tables
  named = record all { pages = map.insert all.pages (to, other * table_pages + low) a.key }

  abbrev pub rows_added : (later : Tables) × AreRows from high to other source_new row new first head stamp later × AreSameAround from high to other all later
  rows_added = (
    named,
    record {
      live = live_child a.adds.middle new first stamp parent a.key a.above rights (live_nodes old a.adds.middle same first stamp r.live) (same parent ∙ a.stands) a.adds.sprouts a.adds.comes a.adds.forest;
      stack = stack_comes (record { frame = a.above.frame; rights = common a.above.rights rights; source = false; granted = None }) a.key a.adds.middle new head a.adds.comes a.shares (stack_nodes old a.adds.middle head same r.stack);
      source_row = subst (λ (z : List (Option ℕ)). IsRowOf named from high z) (sym left) (still_row all named from high source (λ page. put_away all to from (other * table_pages + low) r.apart a.key page) r.source_row);
      target_row = subst (λ (z : List (Option ℕ)). IsRowOf named to other z) (sym a.named) (put_row all to other target r.target_row low lt a.key);
      indexed =
          indexed_same a.adds.middle new named named a.adds.comes.spots_same refl refl
          (indexed_added old a.adds.middle all named place a.key (blank_of place) r.indexed free_before a.few a.adds.blanks.vacant refl a.adds.blanks.filled a.adds.blanks.others
          (subst (λ (z : ℕ). IsTrue (set.contains all.spaces z)) (sym to_is) r.there) fits (λ i. map.insert all.pages (sym to_is i, sym page_is i) a.key) refl);
      there = r.there;
      apart = r.apart;
    },
    record { away = λ space page off out. put_other all.pages (to, other * table_pages + low) (space, page) a.key (λ e. out (is_in to other low space page lt e)); spaces = refl },
  )

-- what is under the key shares no right with these, by the entries
pub shared_none : (slots : Slots) (rights : RightsSet) (k : ℕ) (e : Entry) (x : Standing) → entry_at (entries_of slots) k ≡ Some e → SharesNone k rights slots → e.stands ≡ Some x → common x.rights rights ≡ no_rights
shared_none slots rights k e x is none stands =
    let m = map_from standing_of (node_at slots k) x (sym (standing_is slots k) ∙ ap (option_and_then (λ (z : Entry). z.stands)) is ∙ stands) in
    ap (λ (y : Standing). common y.rights rights) (sym m.2) ∙ none m.0 m.1

-- what stands under the key, if it shares one
pub shared_stands : (slots : Slots) (rights : RightsSet) (k : ℕ) (e : Entry) → entry_at (entries_of slots) k ≡ Some e → (x : SharesSome k rights slots) → e.stands ≡ Some (standing_of x.0)
shared_stands slots rights k e at x = sym (ap (option_and_then (λ (z : Entry). z.stands)) at) ∙ standing_is slots k ∙ ap (option_map standing_of) x.1

last_step : {f : ℕ → Option ℕ} {low high : ℕ} → Leads f low high → (x : ℕ) × (f x ≡ Some high)
last_step {f} {low} {high} (step up) = (low, up)
last_step (steps up more) = last_step more

-- what can give its place to a child, by the slots
module _ (slots : Slots) (key : ℕ) (was : Entry) (at : entry_at (entries_of slots) key ≡ Some was) (s : IsSpare (entries_of slots) key was) where
  its_node : (n : Node) × (node_at slots key ≡ Some n) × (standing_of n ≡ s.plain.standing)
  its_node = map_from standing_of (node_at slots key) s.plain.standing (sym (standing_is slots key) ∙ ap (option_and_then (λ (z : Entry). z.stands)) at ∙ s.plain.stands)

  pub spare_node : IsSpareNode key slots
  spare_node = record {
    node = its_node.0;
    stands = its_node.1;
    parent = λ none. s.parent (sym (ap (λ (t : Standing). t.parent) its_node.2) ∙ none);
    leaf = λ low leads. (let up = last_step leads in s.leaf up.0 (parent_same slots up.0 ∙ up.1));
  }

  pub bare_node : IsBareNode key slots
  bare_node n is = grind (arith, same, ap, same_some, sym, its_node)

-- runs that follow each other
pub run_joined : (of : Pages) (page mid end high other : ℕ) (line row new_line new_row : List (Option ℕ)) (old now new : Store) (first head : Option ℕ) (stamp : ℕ) (all between later : Tables) → of.source.page ≤ page → page ≤ mid → mid ≤ end → end ≤ of.end
    → RunsUpTo of page mid high other line row old now first head stamp all between → RunsUpTo of mid end high other new_line new_row now new first head stamp between later
    → RunsUpTo of page end high other new_line new_row old new first head stamp all later
run_joined of page mid end high other line row new_line new_row old now new first head stamp all between later from more le within a b = search (parts_joined, arith, arith)

-- one entry
module _ (of : Pages) (page f t : ℕ) (line row : List (Option ℕ)) (now : Store) (c : CanRun of page f t 1 line row now) where
  abbrev here : Place
  here = record { space = of.source.space; page = page }

  abbrev there : Place
  there = place_for of page

  abbrev s : Entries
  s = entries_of now.slots

  f_lt : f < table_pages
  f_lt = let f_in = c.f_in in omega (arith, f_in)

  t_lt : t < table_pages
  t_lt = let t_in = c.t_in in omega (arith, t_in)

  lt : page < of.end
  lt = let before = c.before in omega (arith, before)

  -- what the two entries name
  source_is : (k : ℕ) → (slice_index_or line f None ≡ Some k) ↔ IsAt s here k
  source_is = find_is now.slots c.all here (slice_index_or line f None) c.rows.indexed (sym (ap (key_of c.all of.source.space) c.start.page_is ∙ c.rows.source_row.keys_are f f_lt))

  target_is : (k : ℕ) → (slice_index_or row t None ≡ Some k) ↔ IsAt s there k
  target_is = find_is now.slots c.all there (slice_index_or row t None) c.rows.indexed (sym (ap (key_of c.all of.target.space) c.start.there_is ∙ c.rows.target_row.keys_are t t_lt))

  differ : (o : Option ℕ) → slice_index_or line f None ≡ o → o ≡ slice_index_or row t None → o ≡ None
  differ None is same = refl
  differ (Some k) is same = absurd (c.rows.apart (ap (λ (p : Place). p.space) (same_some (sym ((source_is k).0 is) ∙ (target_is k).0 (sym same)))))

  -- what is on the page, if it shares a right
  module _ (k : ℕ) (is : slice_index_or line f None ≡ Some k) (x : SharesSome k of.rights now.slots) where
    its_entry : (e : Entry) × (entry_at s k ≡ Some e) × (e.place ≡ here)
    its_entry = entry_of_page s k here ((source_is k).0 is)

    stands : its_entry.0.stands ≡ Some (standing_of x.0)
    stands = shared_stands now.slots of.rights k its_entry.0 its_entry.1 x

    -- what it brings
    abbrev Its : Option ℕ → Entry → Type 0
    Its = PageBrings of page s k its_entry.0 its_entry.1 its_entry.2 (standing_of x.0) stands x.2

    abbrev its_due : (end : ℕ) → page < end → (own : Option ℕ) (e : Entry) → Its own e → IsBrought of page end s own e
    its_due = page_due of page s k its_entry.0 its_entry.1 its_entry.2 (standing_of x.0) stands x.2

    its_brings : (own : Option ℕ) (e : Entry) → Its own e → (new : Entries) → Brings (λ o y. (o ≡ own) × (y ≡ e)) s new → Brings (IsBrought of page (page + 1) s) s new
    its_brings = page_brings of page s k its_entry.0 its_entry.1 its_entry.2 (standing_of x.0) stands x.2 (λ j at. same_some (sym ((source_is j).1 at) ∙ is))

    -- the child of what is under the key
    child_same : (above : Standing) → standing_at s k ≡ Some above → ◌≡◌ {A = Entry} (child_entry there k above of.rights) (child_entry there k (standing_of x.0) of.rights)
    child_same above at = ap (λ (y : Standing). child_entry there k y of.rights) (same_some (sym at ∙ standing_is now.slots k ∙ ap (option_map standing_of) x.1))

    -- what is at its place can give it up, to a child
    module _ (taken : ℕ) (taken_is : slice_index_or row t None ≡ Some taken) where
      its_place : (e : Entry) × (entry_at s taken ≡ Some e) × (e.place ≡ there)
      its_place = entry_of_page s taken there ((target_is taken).0 taken_is)

      spare_there : (of.grant ≡ false) × IsSpare s taken its_place.0
      spare_there =
          let b = some_brought of page s k its_entry.0 its_entry.1 its_entry.2 (standing_of x.0) stands x.2 in
          let goes : b.1.place ≡ there = elim b.2 [ inl m ↦ ap (λ (y : Entry). y.place) m.2 | inr g ↦ ap (λ (y : Entry). y.place) g.2 ] in
          let fit = c.fits b.0 b.1 (its_due of.end lt b.0 b.1 b.2) taken its_place.0 its_place.1 (its_place.2 ∙ sym goes) in
          (elim b.2 [ inl m ↦ m.0 | inr g ↦ absurd (let z : ◌≡◌ {A = Option ℕ} (Some k) None = sym g.1 ∙ fit.0 in cc) ], fit.1)

  lacking_there : Lacks of (slice_index_or line f None) (slice_index_or row t None) now.slots → IsLacking of s page
  lacking_there l = lacks l.1.0 l.1.1 l.1.2 l.0 l.1.3
    where
      lacks : (k : ℕ) (is : slice_index_or line f None ≡ Some k) (x : SharesSome k of.rights now.slots) → of.grant ≡ false → slice_index_or row t None ≡ None → IsLacking of s page
      lacks k is x g free =
          let at : (its_entry k is x).0.place.page ≡ page = ap (λ (q : Place). q.page) (its_entry k is x).2 in
          let from = c.start.from in
          let before = lt in
          record {
            entry = child_entry there k (standing_of x.0) of.rights;
            due = rebound of page of.end of.source.page of.end s None (child_entry there k (standing_of x.0) of.rights) (its_due k is x of.end lt None (child_entry there k (standing_of x.0) of.rights) (inl (g, refl, refl)))
                (omega (arith, at, from)) (omega (arith, at, before));
            page_is = at;
            absent = λ other named. no_some other (sym free ∙ (target_is other).1 named);
          }

  -- what the entry needs
  pub can_enter : CanEnter of (slice_index_or line f None) (slice_index_or row t None) now
  can_enter = record {
    live = (c.first, c.stamp, c.rows.live);
    few = c.rows.indexed.few;
    bare = λ k z is x named. bare_node now.slots z (its_place k is x z named).0 (its_place k is x z named).1 (spare_there k is x z named).1;
    takes = λ k is x. takes k is x (slice_index_or row t None) refl;
    apart = λ same. differ (slice_index_or line f None) refl same;
    room = λ l. grind (arith, at_most_step, lt, inl, room_less, arith, inr, lacking_there);
  }
    where
      takes : (k : ℕ) → slice_index_or line f None ≡ Some k → SharesSome k of.rights now.slots → (o : Option ℕ) → slice_index_or row t None ≡ o → (o ≡ None) ⊎ ((of.grant ≡ false) × ((z : ℕ) × (o ≡ Some z) × IsSpareNode z now.slots))
      takes k is x None named = inl refl
      takes k is x (Some z) named = let spare = spare_there k is x z named in inr (spare.0, (z, refl, spare_node now.slots z (its_place k is x z named).0 (its_place k is x z named).1 spare.1))

  -- the entry was passed, or its page has moved
  module _ (new : Store) (new_line new_row : List (Option ℕ)) (fits_page : IsPage there.page) where
    abbrev Came : Type 0
    Came = (later : Tables) × AreRows of.source.space c.high of.target.space c.other new_line new_row new.slots c.first c.head c.stamp later × AreSameAround of.source.space c.high of.target.space c.other c.all later × Brings (IsBrought of page (page + 1) s) s (entries_of new.slots)

    passed : ((k : ℕ) → slice_index_or line f None ≡ Some k → SharesNone k of.rights now.slots) → new.slots ≡ now.slots → new_line ≡ line → new_row ≡ row → Came
    passed none slots_same line_same row_same = (
      c.all,
      subst (λ (z : Slots × (List (Option ℕ) × List (Option ℕ))). AreRows of.source.space c.high of.target.space c.other z.1.0 z.1.1 z.0 c.first c.head c.stamp c.all) (λ i. (sym slots_same i, (sym line_same i, sym row_same i))) c.rows,
      same_around of.source.space c.high of.target.space c.other c.all,
      subst (λ (z : Slots). Brings (IsBrought of page (page + 1) s) s (entries_of z)) (sym slots_same)
          (brings_none (IsBrought of page (page + 1) s) s
          (nothing_brought of page (page + 1) s (λ k e x at in_space ge before standing. shared_none now.slots of.rights k e x at
          (none k ((source_is k).1 (ap (option_map {T = Entry} (λ z. z.place)) at ∙ (λ i. Some (record { space = in_space i; page = (let same : e.place.page ≡ page = omega (arith, ge, before) in same i) }))))) standing))),
    )

    added : (k : ℕ) → slice_index_or line f None ≡ Some k → of.grant ≡ false → new_line ≡ line → AddsAt k there of.rights t now.slots new.slots row new_row → Came
    added k is g left a =
        let v = view_added now.slots new.slots k there a.above of.rights a.key a.stands a.adds in
        let x : SharesSome k of.rights now.slots = (a.above, a.stands, a.shares) in
        let r = rows_added of.source.space c.high of.target.space c.other line row new_line new_row now.slots new.slots c.first c.head c.stamp c.all c.rows left k t there of.rights a refl c.start.there_is t_lt fits_page in (
          r.0,
          r.1,
          r.2,
          its_brings k is x None (child_entry there k v.above of.rights) (inl (g, refl, child_same k is x v.above v.at_parent)) (entries_of new.slots)
              (brings_one a.key None (inl refl) (child_entry there k v.above of.rights) s (entries_of new.slots) v.filled v.others (λ y at. absurd (no_some y (sym v.vacant ∙ at)))
              (λ o at. absurd (no_some o (sym a.free ∙ (target_is o).1 at))) cases_eq),
        )

    renewed : (k : ℕ) → slice_index_or line f None ≡ Some k → of.grant ≡ false → new_line ≡ line → RenewsAt k of.rights t now.slots new.slots row new_row → Came
    renewed k is g left w =
        let was = its_place k is w.shares w.key w.taken in
        let spare = (spare_there k is w.shares w.key w.taken).1 in
        let p = w.renews.replaces in
        let here_now : entry_at (entries_of new.slots) w.key ≡ Some (child_entry there k p.above of.rights) =
        p.stands.here ∙ ap (option_map {T = Entry} (λ e. record e { stands = Some (record { frame = p.above.frame; rights = common p.above.rights of.rights; source = false; granted = None; parent = Some k }) })) was.1
        ∙ (λ i. Some (record { place = was.2 i; wanted = spare.plain.unwanted i; stands = Some (record { frame = p.above.frame; rights = common p.above.rights of.rights; source = false; granted = None; parent = Some k }) })) in (
          c.all,
          record {
            live = w.renews.live c.first c.stamp c.rows.live;
            stack = w.renews.stack c.head c.rows.stack;
            source_row = subst (λ (z : List (Option ℕ)). IsRowOf c.all of.source.space c.high z) (sym left) c.rows.source_row;
            target_row = subst (λ (z : List (Option ℕ)). IsRowOf c.all of.target.space c.other z) (sym w.same) c.rows.target_row;
            indexed = w.renews.indexed c.all c.rows.indexed;
            there = c.rows.there;
            apart = c.rows.apart;
          },
          same_around of.source.space c.high of.target.space c.other c.all,
          its_brings k is w.shares None (child_entry there k p.above of.rights) (inl (g, refl, child_same k is w.shares p.above p.at_parent)) (entries_of new.slots)
              (brings_one w.key None (inl refl) (child_entry there k p.above of.rights) s (entries_of new.slots) here_now p.stands.others (λ y at. inr (ap (λ (e : Entry). e.place) (same_some (sym at ∙ was.1)) ∙ was.2))
              (λ o at. same_some (sym ((target_is o).1 at) ∙ w.taken)) cases_eq),
        )

    granted : (k : ℕ) → slice_index_or line f None ≡ Some k → of.grant ≡ true → GivesAt k there of.rights f t now.slots new.slots line new_line row new_row → Came
    granted k is g w =
        let e = its_entry k is w.shares in
        let r = rows_given of.source.space c.high of.target.space c.other line row new_line new_row now.slots new.slots c.first c.head c.stamp c.all c.rows k f t there of.rights w is f_lt t_lt refl c.start.there_is fits_page in (
          r.0,
          r.1,
          r.2,
          its_brings k is w.shares (Some k) (record e.0 { place = there }) (inr (g, refl, refl)) (entries_of new.slots)
              (brings_given k there now.slots new.slots w.sets e.0 e.1 (λ o at. no_some o (sym w.free ∙ (target_is o).1 at))),
        )

    came : Enters of (slice_index_or line f None) there f t now.slots new.slots line new_line row new_row → Came
    came enters = elim enters [
      | inl none ↦ passed none.0 none.1 none.2 none.3
      | inr some ↦ elim some.2 [
        | inl m ↦ elim m.2 [
          | inl a ↦ added some.0 some.1 m.0 m.1 a
          | inr w ↦ renewed some.0 some.1 m.0 m.1 w
        ]
        | inr g ↦ granted some.0 some.1 g.0 g.1
      ]
    ]

    pub run_one : Enters of (slice_index_or line f None) there f t now.slots new.slots line new_line row new_row → ((more : ℕ) → HasRoomFor now (more + 1) → HasRoomFor new more)
        → (¬ (Lacks of (slice_index_or line f None) (slice_index_or row t None) now.slots) → (more : ℕ) → HasRoomFor now more → HasRoomFor new more)
        → (later : Tables) × RunsUpTo of page (page + 1) c.high c.other new_line new_row now new c.first c.head c.stamp c.all later
    run_one enters less kept =
        let v = came enters in
        let back = lacking_rest of page (page + 1) of.end c.start.from (omega arith) c.before c.rows.apart s (entries_of new.slots) v.3 (omega arith) in (
          v.0,
          record {
            rows = v.1;
            around = v.2;
            brings = v.3;
            room = λ more within h. elim (at_most_step lt h.1) [
              | inl fewer ↦ (fewer.0, at_most_back back fewer.2, (let fewer_lt = fewer.1 in less (fewer.0 + more) (room_less now (h.0 + more) (fewer.0 + more + 1) (omega (arith, fewer_lt)) h.2)))
              | inr rest ↦ (h.0, at_most_back back rest.1, kept (λ l. rest.0 (lacking_there l)) (h.0 + more) h.2)
            ];
          },
        )

-- before the first entry
pub run_first : (of : Pages) (page f t total : ℕ) (line row : List (Option ℕ)) (store : Store) → BringsRow of page f t total 0 line line row row store store
run_first of page f t total line row store c = (
  c.all,
  grind arith,
)

-- the next entry
module _ (of : Pages) (page f t total n : ℕ) (old_line line old_row row : List (Option ℕ)) (old now : Store) (w : BringsRow of page f t total n old_line line old_row row old now) (some : n < total) where
  abbrev pub can_next : CanRun of page f t total old_line old_row old → CanRun of (page + n) (f + n) (t + n) 1 line row now
  can_next c = record {
    high = c.high;
    other = c.other;
    first = c.first;
    head = c.head;
    stamp = c.stamp;
    all = (w c).0;
    start = record {
      from = (let from = c.start.from in omega (arith, from));
      page_is = (let is = c.start.page_is in omega (arith, is));
      there_is = (let from = c.start.from in let is = c.start.there_is in omega (arith, from, is));
    };
    rows = (w c).1.rows;
    f_in = (let f_in = c.f_in in omega (arith, f_in, some));
    t_in = (let t_in = c.t_in in omega (arith, t_in, some));
    before = (let before = c.before in omega (arith, before, some));
    fits = fits_rest of page (page + n) of.end c.start.from (omega arith) (let before = c.before in omega (arith, before, some)) c.rows.apart (entries_of old.slots) (entries_of now.slots) (w c).1.brings c.fits;
    room = (w c).1.room 0 (let before = c.before in omega (arith, before, some)) c.room;
  }

  pub run_more : (new : Store) (new_line new_row : List (Option ℕ)) → IsPage (place_for of (page + n)).page → Enters of (slice_index_or line (f + n) None) (place_for of (page + n)) (f + n) (t + n) now.slots new.slots line new_line row new_row
      → ((more : ℕ) → HasRoomFor now (more + 1) → HasRoomFor new more) → (¬ (Lacks of (slice_index_or line (f + n) None) (slice_index_or row (t + n) None) now.slots) → (more : ℕ) → HasRoomFor now more → HasRoomFor new more)
      → BringsRow of page f t total (n + 1) old_line new_line old_row new_row old new
  run_more new new_line new_row fits_page enters less kept c =
      let u = run_one of (page + n) (f + n) (t + n) line row now (can_next c) new new_line new_row fits_page enters less kept in
      let e : page + n + 1 ≡ page + (n + 1) = omega arith in
      let before = c.before in (
        u.0,
        subst (λ (p : ℕ). RunsUpTo of page p c.high c.other new_line new_row old new c.first c.head c.stamp c.all u.0) e
            (run_joined of page (page + n) (page + n + 1) c.high c.other line row new_line new_row old now new c.first c.head c.stamp c.all (w c).0 u.0 c.start.from (omega arith) (omega arith) (omega (arith, before, some)) (w c).1 u.1),
      )
