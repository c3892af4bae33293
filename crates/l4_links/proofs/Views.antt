-- What a contract sees of each operation.
use Rattle.std.proofs.Common.{◌≡◌, ◌≢◌, ℕ, Bool, false, ◌+◌, Option, Some, None, refl, sym, ap, ◌∙◌, inl, inr}
use Rattle.std.specs.Option.{option_map, option_and_then}
use Rattle.l4_fpage.specs.Rights.{RightsSet, common}
use Rattle.l4_nodes.specs.declared.Place.{Place}
use Rattle.l4_links.specs.declared.Standing.{Standing}
use Rattle.l4_links.specs.declared.Entry.{Entry}
use Rattle.l4_nodes.specs.declared.nodes.Node.{Node}
use Rattle.l4_nodes.specs.declared.nodes.Slot.{Slot}
use Rattle.l4_links.specs.Leads.{Leads}
use Rattle.l4_links.specs.Inside.Trees.{Limb, parent_at, Rises}
use Rattle.l4_links.specs.Inside.Trees as trees
use Rattle.l4_nodes.specs.Slots.{Slots, Spot, slot_at, node_at, spots}
use Rattle.l4_links.specs.Inside.Nodes.{limbs, values, Worth, Comes, AddsUnder, Meets, NoneMet, IsSame}
use Rattle.l4_links.specs.Inside.Nodes as nodes
use Rattle.l4_nodes.specs.Slots as slots
use Rattle.l4_links.specs.Inside.Orders.{position}
use Rattle.l4_links.specs.Entries.{Entries, entry_at, IsBlank, Descends, IsSource, AddsBlank, Stands, Sprouts, AddsChild, Clears, CutsBelow, CapsBelow, SetsSource, SetsPlain, SetsWanted, TakesOver, capped, cut_off}
use Rattle.l4_links.specs.Inside.Keeping.{standing_of, entry_of, entries_of, IsSound}
use Rattle.l4_links.proofs.Growing.{leads_same, leads_from_new}
use Rattle.l4_links.proofs.Seen.{joined, at_seen, shown_is, entry_same, standing_is, leads_of, descends_of, source_is, stands_joined, capped_joined, source_joined, plain_joined, cut_joined}
use Rattle.l4_links.proofs.Kept.{none_below}
use Rattle.l4_links.proofs.Writes.{no_some, map_over, map_at, limb_of, worth_of}

-- what came stands under its key
pub view_at : (old new : Slots) (key : ℕ) (x : Limb) (w : Worth) → limbs new key ≡ Some x → values new key ≡ Some w → ((o : ℕ) → spots new o ≡ spots old o) → ((o : ℕ) → o ≢ key → limbs new o ≡ limbs old o)
    → ((o : ℕ) → o ≢ key → values new o ≡ values old o) → Stands key (record { frame = w.frame; rights = w.rights; source = w.source; granted = w.granted; parent = x.parent }) (entries_of old) (entries_of new)
view_at old new key x w limb value spots_same limbs_same values_same = record {
  here =
      shown_is new key ∙ (λ i. joined (spots_same key i) (limb i) (value i)) ∙ stands_joined (spots old key) x w (limbs old key) (values old key)
      ∙ sym (ap (option_map (λ (e : Entry). record e { stands = Some (record { frame = w.frame; rights = w.rights; source = w.source; granted = w.granted; parent = x.parent }) })) (shown_is old key));
  others = λ o ne. entry_same old new o (spots_same o) (limbs_same o ne) (values_same o ne);
}

view_stands : (old new : Slots) (key : ℕ) (x : Limb) (w : Worth) → limbs new key ≡ Some x → Comes w key old new → Stands key (record { frame = w.frame; rights = w.rights; source = w.source; granted = w.granted; parent = x.parent }) (entries_of old) (entries_of new)
view_stands old new key x w is c = view_at old new key x w is c.value_is c.spots_same c.limbs_same c.values_same

pub view_root : (old new : Slots) (key frame : ℕ) (rights : RightsSet) → Rises (limbs old) (limbs new) key → Comes (record { frame = frame; rights = rights; source = false; granted = None }) key old new
    → Stands key (record { frame = frame; rights = rights; source = false; granted = None; parent = None }) (entries_of old) (entries_of new)
view_root old new key frame rights r c = view_stands old new key (record { parent = None; depth = 0 }) (record { frame = frame; rights = rights; source = false; granted = None }) r.filled c

pub view_child : (old new : Slots) (first : Option ℕ) (stamp walk parent key : ℕ) (above : Node) (rights : RightsSet) → IsSound old first stamp walk → node_at old parent ≡ Some above → trees.Sprouts (limbs old) (limbs new) parent key
    → Comes (record { frame = above.frame; rights = common above.rights rights; source = false; granted = None }) key old new → Sprouts parent key rights (entries_of old) (entries_of new)
view_child old new first stamp walk parent key above rights s at p c =
    let same = leads_same (limbs old) (limbs new) (position s.keys) parent key s.forest.tree p in
    let from = leads_from_new (limbs old) (limbs new) (position s.keys) parent key s.forest.tree p in
    record {
      above = standing_of above;
      at_parent = standing_is old parent ∙ ap (option_map standing_of) at;
      stands = view_stands old new key (record { parent = Some parent; depth = p.above.depth + 1 }) (record { frame = above.frame; rights = common above.rights rights; source = false; granted = None }) p.filled c;
      leads = λ low high ne. (
        λ d. descends_of old ((same low high ne).0 (leads_of new d)),
        λ d. descends_of new ((same low high ne).1 (leads_of old d)),
      );
      from_new = λ high. (
        λ d. elim ((from high).0 (leads_of new d)) [ inl e ↦ inl e | inr l ↦ inr (descends_of old l) ],
        λ d. descends_of new ((from high).1 (elim d [ inl e ↦ inl e | inr l ↦ inr (leads_of old l) ])),
      );
    }

-- nothing descends from a key where nothing stands
pub nothing_below : (slots : Slots) (first : Option ℕ) (stamp walk top k : ℕ) → IsSound slots first stamp walk → node_at slots top ≡ None → Descends (entries_of slots) k top → ⊥
nothing_below slots first stamp walk top k s none d = none_below slots s.keys s.forest top k none (leads_of slots d)

pub view_caps : (old new : Slots) (top : ℕ) (cap : RightsSet) → nodes.CapsBelow top cap old new → CapsBelow top cap (entries_of old) (entries_of new)
view_caps old new top cap c = record {
  capped = λ k d.
      shown_is new k ∙ (λ i. joined (c.spots_same k i) (c.limbs_same k i) (c.capped k (leads_of old d) i)) ∙ capped_joined cap (spots old k) (limbs old k) (values old k)
      ∙ sym (ap (option_map (capped cap)) (shown_is old k));
  kept = λ k off. entry_same old new k (c.spots_same k) (c.limbs_same k) (c.kept k (λ l. off (descends_of old l)));
}

pub caps_none : (slots : Slots) (first : Option ℕ) (stamp walk top : ℕ) (cap : RightsSet) → IsSound slots first stamp walk → node_at slots top ≡ None → CapsBelow top cap (entries_of slots) (entries_of slots)
caps_none slots first stamp walk top cap s none = record { capped = λ k d. absurd (nothing_below slots first stamp walk top k s none d); kept = λ k off. refl }

pub view_same : (old new : Slots) → IsSame old new → (k : ℕ) → entry_at (entries_of new) k ≡ entry_at (entries_of old) k
view_same old new s k = entry_same old new k (s.spots_same k) (s.limbs_same k) (s.values_same k)

pub view_meets : (slots : Slots) (top : ℕ) → Meets top slots → (low : ℕ) × Descends (entries_of slots) low top × IsSource (entries_of slots) low
view_meets slots top m = (m.0, descends_of slots m.1.0, source_is slots m.0 ∙ m.1.1)

pub view_none : (slots : Slots) (top : ℕ) → NoneMet top slots → (low : ℕ) → Descends (entries_of slots) low top → ¬ (IsSource (entries_of slots) low)
view_none slots top none low d e = none low (leads_of slots d) (sym (source_is slots low) ∙ e)

pub view_source : (old new : Slots) (key : ℕ) (source : Bool) → slots.SetsSource key source old new → SetsSource key source (entries_of old) (entries_of new)
view_source old new key source c = record {
  here =
      shown_is new key ∙ (λ i. joined (c.spots_same key i) (limb_here i) (value_here i)) ∙ source_joined source (spots old key) (limbs old key) (values old key)
      ∙ sym (ap (option_map (λ (e : Entry). record e { stands = option_map (λ (t : Standing). record t { source = source }) e.stands })) (shown_is old key));
  others = λ o ne. entry_same old new o (c.spots_same o) (ap (option_map limb_of) (c.others o ne)) (ap (option_map worth_of) (c.others o ne));
}
  where
    limb_here : limbs new key ≡ limbs old key
    limb_here = map_at limb_of (λ n. record n { source = source }) (λ n. refl) key old new c.here c.others key

    value_here : values new key ≡ option_map (λ (v : Worth). record v { source = source }) (values old key)
    value_here = ap (option_map worth_of) c.here ∙ map_over (λ (n : Node). record n { source = source }) worth_of worth_of (λ (v : Worth). record v { source = source }) (λ n. refl) (node_at old key)

-- a blank came
pub view_blank : (old new : Slots) (key : ℕ) (place : Place) → slot_at old key ≡ None → slot_at new key ≡ Some (record { place = place; wanted = false; node = None }) → ((o : ℕ) → o ≢ key → slot_at new o ≡ slot_at old o) → AddsBlank place (entries_of old) (entries_of new) key
view_blank old new key place vacant filled others = record {
  vacant = at_seen old key ∙ ap (option_map entry_of) vacant;
  filled = at_seen new key ∙ ap (option_map entry_of) filled;
  others = λ o ne. at_seen new o ∙ ap (option_map entry_of) (others o ne) ∙ sym (at_seen old o);
}

-- what came is a blank
pub blank_added : (place : Place) (old new : Entries) (key : ℕ) → AddsBlank place old new key → IsBlank new key
blank_added place old new key a = record {
  there = λ none. no_some (record { place = place; wanted = false; stands = None }) (sym none ∙ a.filled);
  blank = ap (option_and_then (λ (e : Entry). e.stands)) a.filled;
}

-- a child came
pub view_added : (old new : Slots) (parent : ℕ) (place : Place) (above : Node) (rights : RightsSet) (key : ℕ) → node_at old parent ≡ Some above → AddsUnder parent place above rights old new key → AddsChild parent place rights (entries_of old) (entries_of new) key
view_added old new parent place above rights key at a =
    let b = view_blank old a.middle key place a.blanks.vacant a.blanks.filled a.blanks.others in
    let s = view_stands a.middle new key (record { parent = Some parent; depth = a.sprouts.above.depth + 1 }) (record { frame = above.frame; rights = common above.rights rights; source = false; granted = None }) a.sprouts.filled a.comes in
    record {
      above = standing_of above;
      at_parent = standing_is old parent ∙ ap (option_map standing_of) at;
      vacant = b.vacant;
      filled = s.here ∙ ap (option_map (λ (e : Entry). record e { stands = Some (record { frame = above.frame; rights = common above.rights rights; source = false; granted = None; parent = Some parent }) })) b.filled;
      others = λ o ne. s.others o ne ∙ b.others o ne;
    }

pub view_gone : (new : Slots) (key : ℕ) → slot_at new key ≡ None → entry_at (entries_of new) key ≡ None
view_gone new key gone = at_seen new key ∙ ap (option_map entry_of) gone

pub view_others : (old new : Slots) (o : ℕ) → slot_at new o ≡ slot_at old o → entry_at (entries_of new) o ≡ entry_at (entries_of old) o
view_others old new o e = at_seen new o ∙ ap (option_map entry_of) e ∙ sym (at_seen old o)

pub view_clears : (old new : Slots) (first after : Option ℕ) (top : ℕ) → nodes.Clears top first after old new → Clears top (entries_of old) (entries_of new)
view_clears old new first after top p = record {
  gone = λ k d.
      let l = leads_of old d in
      shown_is new k ∙ (λ i. joined (p.spots_gone k l i) (option_map limb_of (p.gone k l i)) (option_map worth_of (p.gone k l i))) ∙ cut_joined (spots old k) (limbs old k) (values old k) ∙ sym (ap cut_off (shown_is old k));
  here =
      shown_is new top ∙ (λ i. joined (p.spot i) (option_map limb_of (p.here i)) (option_map worth_of (p.here i))) ∙ blank_joined (spots old top) (limbs old top) (values old top)
      ∙ sym (ap (option_map (λ (e : Entry). record e { stands = None })) (shown_is old top));
  kept = λ k ne off. (let o : ¬ (Leads (parent_at (limbs old)) k top) = λ l. off (descends_of old l) in entry_same old new k (p.spots_kept k ne o) (p.limbs_kept k ne o) (p.values_kept k ne o));
}
  where
    blank_joined : (o : Option Spot) (x : Option Limb) (w : Option Worth) → joined o None None ≡ option_map (λ (e : Entry). record e { stands = None }) (joined o x w)
    blank_joined None x w = refl
    blank_joined (Some p) x w = refl

-- where nothing stands, nothing is cleared
pub clears_none : (slots : Slots) (first : Option ℕ) (stamp walk top : ℕ) → IsSound slots first stamp walk → node_at slots top ≡ None → Clears top (entries_of slots) (entries_of slots)
clears_none slots first stamp walk top s none = record {
  gone = λ k d. absurd (nothing_below slots first stamp walk top k s none d);
  here = at_seen slots top ∙ blank_entry (slot_at slots top) none ∙ sym (ap (option_map (λ (e : Entry). record e { stands = None })) (at_seen slots top));
  kept = λ k ne off. refl;
}
  where
    blank_entry : (o : Option Slot) → option_and_then (λ (s : Slot). s.node) o ≡ None → option_map entry_of o ≡ option_map (λ (e : Entry). record e { stands = None }) (option_map entry_of o)
    blank_entry None e = refl
    blank_entry (Some s) e = ap (λ (n : Option Node). Some (record { place = s.place; wanted = s.wanted; stands = option_map standing_of n })) e

pub view_cuts : (old new : Slots) (top : ℕ) → nodes.Prunes top old new → CutsBelow top (entries_of old) (entries_of new)
view_cuts old new top p = record {
  gone = λ k d.
      let l = leads_of old d in
      shown_is new k ∙ (λ i. joined (p.spots_gone k l i) (option_map limb_of (p.gone k l i)) (option_map worth_of (p.gone k l i))) ∙ cut_joined (spots old k) (limbs old k) (values old k) ∙ sym (ap cut_off (shown_is old k));
  kept = λ k off. (let o : ¬ (Leads (parent_at (limbs old)) k top) = λ l. off (descends_of old l) in entry_same old new k (p.spots_kept k o) (p.limbs_kept k o) (p.values_kept k o));
}

-- where nothing stands, nothing is cut off
pub cuts_none : (slots : Slots) (first : Option ℕ) (stamp walk top : ℕ) → IsSound slots first stamp walk → node_at slots top ≡ None → CutsBelow top (entries_of slots) (entries_of slots)
cuts_none slots first stamp walk top s none = record { gone = λ k d. absurd (nothing_below slots first stamp walk top k s none d); kept = λ k off. refl }

pub view_wanted : (old new : Slots) (key : ℕ) (wanted : Bool) → slots.SetsWanted key wanted old new → SetsWanted key wanted (entries_of old) (entries_of new)
view_wanted old new key wanted c = record {
  here =
      at_seen new key ∙ ap (option_map entry_of) c.here ∙ map_over (λ (s : Slot). record s { wanted = wanted }) entry_of entry_of (λ (e : Entry). record e { wanted = wanted }) (λ s. refl) (slot_at old key)
      ∙ sym (ap (option_map (λ (e : Entry). record e { wanted = wanted })) (at_seen old key));
  others = λ o ne. view_others old new o (c.others o ne);
}

pub view_plain : (old new : Slots) (key : ℕ) → slots.SetsPlain key old new → SetsPlain key (entries_of old) (entries_of new)
view_plain old new key c = record {
  here =
      shown_is new key ∙ (λ i. joined (c.spots_same key i) (limb_here i) (value_here i)) ∙ plain_joined (spots old key) (limbs old key) (values old key)
      ∙ sym (ap (option_map (λ (e : Entry). record e { stands = option_map (λ (t : Standing). record t { source = false; granted = None }) e.stands })) (shown_is old key));
  others = λ o ne. entry_same old new o (c.spots_same o) (ap (option_map limb_of) (c.others o ne)) (ap (option_map worth_of) (c.others o ne));
}
  where
    limb_here : limbs new key ≡ limbs old key
    limb_here = map_at limb_of (λ n. record n { source = false; granted = None }) (λ n. refl) key old new c.here c.others key

    value_here : values new key ≡ option_map (λ (v : Worth). record v { source = false; granted = None }) (values old key)
    value_here = ap (option_map worth_of) c.here ∙ map_over (λ (n : Node). record n { source = false; granted = None }) worth_of worth_of (λ (v : Worth). record v { source = false; granted = None }) (λ n. refl) (node_at old key)

pub view_takes : (old new : Slots) (key blank : ℕ) (rights : RightsSet) → nodes.TakesOver key blank rights old new → TakesOver key blank rights (entries_of old) (entries_of new)
view_takes old new key blank rights c = record {
  page = entry_of c.page;
  was = at_seen old blank ∙ ap (option_map entry_of) c.was;
  here =
      at_seen new key ∙ ap (option_map entry_of) c.here ∙ over c.page.place (slot_at old key)
      ∙ sym (ap (option_map (λ (e : Entry). record e { place = c.page.place; stands = option_map (λ (t : Standing). record t { granted = Some rights }) e.stands })) (at_seen old key));
  gone = view_gone new blank c.gone;
  others = λ o nk nb. view_others old new o (c.others o nk nb);
}
  where
    over : (p : Place) (o : Option Slot) → option_map entry_of (option_map (λ (s : Slot). record s { place = p; node = option_map (λ (n : Node). record n { granted = Some rights }) s.node }) o)
        ≡ option_map (λ (e : Entry). record e { place = p; stands = option_map (λ (t : Standing). record t { granted = Some rights }) e.stands }) (option_map entry_of o)
    over p None = refl
    over p (Some s) = ap (λ (t : Option Standing). Some (record { place = p; wanted = s.wanted; stands = t })) (map_over (λ (n : Node). record n { granted = Some rights }) standing_of standing_of (λ (t : Standing). record t { granted = Some rights }) (λ n. refl) s.node)
