-- The page tables name the key of each page.
use Rattle.std.proofs.Common.{◌≡◌, ◌≢◌, ◌↔◌, ℕ, ◌==◌, ◌&&◌, ◌||◌, not, [], cond, Bool, Result, Ok, Err, OnOk, OnErr, Option, Some, None, MatchOption, IsTrue, is_some, true, false, refl, sym, ap, ◌∙◌, subst, arith, inl, inr}
use Rattle.std.proofs.lemmas.Bool.{cases_eq}
use Rattle.std.proofs.lemmas.Bool.Decides.{nat_tests}
use Rattle.std.specs.Option.{option_map}
use Rattle.std.specs.Ordering.{eq_by_cmp, nat_cmp}
use Rattle.std.specs.Cmp.{nat_cmp_total}
use Rattle.std.specs.FinMap.{nat_cmp-IsAntisymmetric}
use Rattle.std.specs.FinMap as map
use Rattle.std.specs.FinSet as set
use Rattle.l4_fpage.specs.Rights.{RightsSet}
use Rattle.l4_spaces.specs.Tables as tables
use Rattle.l4_spaces.specs.Tables.{Tables, NonePresentFrom, IsNextPresent, NonePresentIn, IsNextIn, IsPage, key_of}
use Rattle.l4_spaces.proofs.Below.{places_total, tie, apart, decided, is_equal}
use Rattle.l4_nodes.specs.declared.Place.{Place}
use Rattle.l4_links.specs.declared.Entry.{Entry}
use Rattle.l4_nodes.specs.declared.nodes.Node.{Node}
use Rattle.l4_nodes.specs.declared.nodes.Slot.{Slot}
use Rattle.l4_links.specs.Entries.{entry_at, IsAt, HasKey, NoKeyFrom, IsNextKey, NoKeyIn, IsNextKeyIn, IsKeyOf, HavePlaces}
use Rattle.l4_spaces.specs.Keys.{IsKey}
use Rattle.l4_nodes.specs.Slots.{Slots, Spot, slot_at, spots, SetsWanted, SetsPlace, Gives, spot_of}
use Rattle.l4_links.specs.Inside.Nodes.{IsOf, TakesOver}
use Rattle.l4_links.specs.Inside.Keeping.{entry_of, entries_of, IsIndexed}
use Rattle.l4_links.proofs.Seen.{at_seen}
use Rattle.l4_links.proofs.Writes.{no_some, same_some, map_from, map_twice, map_over}

abbrev pub Pages : Type 0
Pages = map.FinMap tables.place_cmp ℕ

abbrev pub key_in : Pages → Place → Option ℕ
key_in pages place = map.get pages (place.space, place.page)

-- the page of each key
abbrev pub places : Slots → ℕ → Option Place
places slots key = option_map {T = Spot} (λ s. s.place) (spots slots key)

-- the pages name the key of each page
abbrev pub Names : (ℕ → Option Place) → Pages → Type 0
Names at pages = (place : Place) (key : ℕ) → (key_in pages place ≡ Some key) ↔ (at key ≡ Some place)

-- a page has one key
pub once_named : (at : ℕ → Option Place) (pages : Pages) → Names at pages → (place : Place) (j k : ℕ) → at j ≡ Some place → at k ≡ Some place → j ≡ k
once_named at pages names place j k a b = same_some (sym ((names place j).1 a) ∙ (names place k).1 b)

-- and a key one page
one_place : (at : ℕ → Option Place) (key : ℕ) (p q : Place) → at key ≡ Some p → at key ≡ Some q → p ≡ q
one_place at key p q a b = same_some (sym a ∙ b)

same_place : {X : Type 0} (a b : Place) → (a ≡ b → X) → (a ≢ b → X) → X
same_place a b f g = grind arith

apart_places : (a b : Place) → a ≢ b → eq_by_cmp tables.place_cmp (a.space, a.page) (b.space, b.page) ≡ false
apart_places a b ne = apart (a.space, a.page) (b.space, b.page) (λ e. ne (ap (λ (p : ℕ × ℕ). record { space = p.0; page = p.1 }) e))

put_here : (pages : Pages) (place q : Place) (key : ℕ) → q ≡ place → key_in (map.insert pages (place.space, place.page) key) q ≡ Some key
put_here pages place q key same =
    map.get-insert places_total pages (place.space, place.page) key (q.space, q.page)
    ∙ ap (λ b. cond b (Some key) (key_in pages q)) (tie (q.space, q.page) (place.space, place.page) (ap (λ (p : Place). (p.space, p.page)) same))

put_other : (pages : Pages) (place q : Place) (key : ℕ) → q ≢ place → key_in (map.insert pages (place.space, place.page) key) q ≡ key_in pages q
put_other pages place q key ne =
    map.get-insert places_total pages (place.space, place.page) key (q.space, q.page)
    ∙ ap (λ b. cond b (Some key) (key_in pages q)) (apart_places q place ne)

drop_here : (pages : Pages) (place q : Place) → q ≡ place → key_in (map.remove pages (place.space, place.page)) q ≡ None
drop_here pages place q same =
    map.get-remove places_total pages (place.space, place.page) (q.space, q.page)
    ∙ ap (λ b. cond b None (key_in pages q)) (tie (q.space, q.page) (place.space, place.page) (ap (λ (p : Place). (p.space, p.page)) same))

drop_other : (pages : Pages) (place q : Place) → q ≢ place → key_in (map.remove pages (place.space, place.page)) q ≡ key_in pages q
drop_other pages place q ne =
    map.get-remove places_total pages (place.space, place.page) (q.space, q.page)
    ∙ ap (λ b. cond b None (key_in pages q)) (apart_places q place ne)

-- a key has come for a page, and the page names it
named_added : (old new : ℕ → Option Place) (before after : Pages) (place : Place) (key : ℕ) → Names old before → ((k : ℕ) → old k ≢ Some place) → old key ≡ None → new key ≡ Some place
    → ((o : ℕ) → o ≢ key → new o ≡ old o) → after ≡ map.insert before (place.space, place.page) key → Names new after
named_added old new before after place key names free vacant stands others is q k = grind (arith, same_place, put_here, same_some, cases_eq, put_other, no_some, one_place)

-- a key has gone, and its page names none
named_removed : (old new : ℕ → Option Place) (before after : Pages) (place : Place) (key : ℕ) → Names old before → old key ≡ Some place → new key ≡ None
    → ((o : ℕ) → o ≢ key → new o ≡ old o) → after ≡ map.remove before (place.space, place.page) → Names new after
named_removed old new before after place key names stood gone others is q k = grind (arith, same_place, drop_here, no_some, cases_eq, once_named, drop_other, one_place)

-- the places without that of this key
abbrev without : (ℕ → Option Place) → ℕ → ℕ → Option Place
without at key k = cond (k == key) None (at k)

without_here : (at : ℕ → Option Place) (key : ℕ) → without at key key ≡ None
without_here at key = grind arith

without_other : (at : ℕ → Option Place) (key k : ℕ) → k ≢ key → without at key k ≡ at k
without_other at key k ne = grind arith

-- a key has got another place, which had no key
named_renamed : (old new : ℕ → Option Place) (before after : Pages) (from to : Place) (key : ℕ) → Names old before → old key ≡ Some from → ((k : ℕ) → old k ≢ Some to) → new key ≡ Some to
    → ((o : ℕ) → o ≢ key → new o ≡ old o) → after ≡ map.insert (map.remove before (from.space, from.page)) (to.space, to.page) key → Names new after
named_renamed old new before after from to key names was free is others put =
    named_added (without old key) new (map.remove before (from.space, from.page)) after to key
    (named_removed old (without old key) before (map.remove before (from.space, from.page)) from key names was (without_here old key) (λ o ne. without_other old key o ne) refl)
    (λ k e. elim (cases_eq k key) [
      | inl same ↦ no_some to (sym (without_here old key) ∙ ap (without old key) (sym same) ∙ e)
      | inr ne ↦ free k (sym (without_other old key k ne) ∙ e)
    ])
    (without_here old key) is (λ o ne. others o ne ∙ sym (without_other old key o ne)) put

-- a key has taken the page of another one, which has gone: as if that one had gone first
named_moved : (old new : ℕ → Option Place) (before between after : Pages) (from to : Place) (key blank : ℕ) → Names old before → key ≢ blank → old key ≡ Some from → old blank ≡ Some to → new key ≡ Some to → new blank ≡ None
    → ((o : ℕ) → o ≢ key → o ≢ blank → new o ≡ old o) → between ≡ map.insert before (to.space, to.page) key → after ≡ map.remove between (from.space, from.page) → Names new after
named_moved old new before between after from to key blank names other was was_to is gone others put drop =
    let freed = map.remove before (to.space, to.page) in
    let differ : from ≢ to = λ e. other (once_named old before names to key blank (was ∙ ap (λ (p : Place). Some p) e) was_to) in
    let renamed = named_renamed (without old blank) new freed (map.insert (map.remove freed (from.space, from.page)) (to.space, to.page) key) from to key
    (named_removed old (without old blank) before freed to blank names was_to (without_here old blank) (λ o ne. without_other old blank o ne) refl)
    (without_other old blank key other ∙ was)
    (λ k e. elim (cases_eq k blank) [
      | inl same ↦ no_some to (sym (without_here old blank) ∙ ap (without old blank) (sym same) ∙ e)
      | inr ne ↦ ne (once_named old before names to k blank (sym (without_other old blank k ne) ∙ e) was_to)
    ])
    is
    (λ o ne. elim (cases_eq o blank) [
      | inl same ↦ ap new same ∙ gone ∙ sym (without_here old blank) ∙ ap (without old blank) (sym same)
      | inr nb ↦ others o ne nb ∙ sym (without_other old blank o nb)
    ]) refl in
    let alike : (q : Place) → key_in after q ≡ key_in (map.insert (map.remove freed (from.space, from.page)) (to.space, to.page) key) q = λ q.
    same_place q to
    (λ same.
    ap (λ (m : Pages). key_in m q) drop ∙ drop_other between from q (λ e. differ (sym e ∙ same)) ∙ ap (λ (m : Pages). key_in m q) put ∙ put_here before to q key same
    ∙ sym (put_here (map.remove freed (from.space, from.page)) to q key same))
    (λ off.
    let rest : key_in (map.remove between (from.space, from.page)) q ≡ key_in (map.remove freed (from.space, from.page)) q =
    same_place q from
    (λ same. drop_here between from q same ∙ sym (drop_here freed from q same))
    (λ left. drop_other between from q left ∙ ap (λ (m : Pages). key_in m q) put ∙ put_other before to q key off ∙ sym (drop_other before to q off) ∙ sym (drop_other freed from q left)) in
    ap (λ (m : Pages). key_in m q) drop ∙ rest ∙ sym (put_other (map.remove freed (from.space, from.page)) to q key off)) in
    λ q k. (λ h. (renamed q k).0 (sym (alike q) ∙ h), λ s. alike q ∙ (renamed q k).1 s)

-- what is known of the spots, known of the places
spot_from : (slots : Slots) (k : ℕ) (s : Spot) → spots slots k ≡ Some s → places slots k ≡ Some s.place
spot_from slots k s is = ap (option_map {T = Spot} (λ s. s.place)) is

-- that pages lie in spaces, by the places
abbrev pub Lies : (ℕ → Option Place) → set.FinSet nat_cmp → Type 0
Lies at spaces = (key : ℕ) (p : Place) → at key ≡ Some p → IsTrue (set.contains spaces p.space) × IsPage p.page

lies_of : (slots : Slots) (t : Tables) → IsIndexed slots t → Lies (places slots) t.spaces
lies_of slots t i key p at = grind (arith, map_from)

-- that a node can keep each key that has a place
abbrev pub Keeps : (ℕ → Option Place) → Type 0
Keeps at = (key : ℕ) (p : Place) → at key ≡ Some p → IsKey key

keeps_of : (slots : Slots) (t : Tables) → IsIndexed slots t → Keeps (places slots)
keeps_of slots t i key p at = let s = map_from (λ (s : Spot). s.place) (spots slots key) p at in i.few key s.0 s.1

indexed_of : (slots : Slots) (t : Tables) → Names (places slots) t.pages → Lies (places slots) t.spaces → Keeps (places slots) → IsIndexed slots t
indexed_of slots t names lies keeps = record {
  names = names;
  housed = λ key s at. (lies key s.place (spot_from slots key s at)).0;
  fits = λ key s at. (lies key s.place (spot_from slots key s at)).1;
  few = λ key s at. keeps key s.place (spot_from slots key s at);
}

-- each key with a place had one before
keeps_left : (old new : ℕ → Option Place) → Keeps old → ((k : ℕ) (p : Place) → new k ≡ Some p → (q : Place) × (old k ≡ Some q)) → Keeps new
keeps_left old new keeps left key p at = let q = left key p at in keeps key q.0 q.1

-- places that are left lie where they did
lies_left : (old new : ℕ → Option Place) (before after : set.FinSet nat_cmp) → Lies old before → after ≡ before → ((k : ℕ) (p : Place) → new k ≡ Some p → (j : ℕ) × (old j ≡ Some p)) → Lies new after
lies_left old new before after lies same left key p at =
    let j = left key p at in
    let l = lies j.0 p j.1 in
    (subst (λ (z : set.FinSet nat_cmp). IsTrue (set.contains z p.space)) (sym same) l.0, l.1)

-- so do all places where one more does
lies_with : (old new : ℕ → Option Place) (before after : set.FinSet nat_cmp) (place : Place) (key : ℕ) → Lies old before → after ≡ before → new key ≡ Some place → ((o : ℕ) → o ≢ key → new o ≡ old o) → IsTrue (set.contains before place.space) → IsPage place.page
    → Lies new after
lies_with old new before after place key lies same here others there fits = subst (Lies new) (sym same) (λ k p at. elim (cases_eq k key) [
  | inl e ↦ subst (λ (z : Place). IsTrue (set.contains before z.space) × IsPage z.page) (sym (one_place new key p place (ap new (sym e) ∙ at) here)) (there, fits)
  | inr ne ↦ lies k p (sym (others k ne) ∙ at)
])

-- and a node can keep each key where it can keep one more
keeps_with : (old new : ℕ → Option Place) (key : ℕ) → Keeps old → IsKey key → ((o : ℕ) → o ≢ key → new o ≡ old o) → Keeps new
keeps_with old new key keeps kept others k p at = grind arith

places_slot : (slots : Slots) (k : ℕ) (o : Option Slot) → slot_at slots k ≡ o → places slots k ≡ option_map {T = Slot} (λ s. s.place) o
places_slot slots k o e = map_twice spot_of (λ (s : Spot). s.place) (slot_at slots k) ∙ ap (option_map {T = Slot} (λ s. s.place)) e

pub indexed_empty : (slots : Slots) (t : Tables) → slots ≡ [] → t.pages ≡ map.empty → IsIndexed slots t
indexed_empty slots t none empty =
    let vacant : (k : ℕ) → places slots k ≡ None = λ k. ap (λ (z : Slots). places z k) none in
    indexed_of slots t
    (λ q k. (
      λ h. no_some k (sym (map.get-empty tables.place_cmp (q.space, q.page)) ∙ ap (λ (m : Pages). key_in m q) (sym empty) ∙ h),
      λ s. no_some q (sym (vacant k) ∙ s),
    ))
    (λ key p at. no_some p (sym (vacant key) ∙ at))
    (λ key p at. no_some p (sym (vacant key) ∙ at))

-- the same pages of the same keys
indexed_places : (old new : Slots) (t u : Tables) → ((k : ℕ) → places new k ≡ places old k) → u.pages ≡ t.pages → u.spaces ≡ t.spaces → IsIndexed old t → IsIndexed new u
indexed_places old new t u same pages spaces i = grind (arith, same, indexed_of, lies_left, lies_of, keeps_left, keeps_of)

pub indexed_same : (old new : Slots) (t u : Tables) → ((k : ℕ) → spots new k ≡ spots old k) → u.pages ≡ t.pages → u.spaces ≡ t.spaces → IsIndexed old t → IsIndexed new u
indexed_same old new t u same = indexed_places old new t u (λ k. ap (option_map {T = Spot} (λ s. s.place)) (same k))

pub indexed_wanted : (old new : Slots) (t : Tables) → ((k : ℕ) → places new k ≡ places old k) → IsIndexed old t → IsIndexed new t
indexed_wanted old new t same = indexed_places old new t t same refl refl

pub places_wanted : (old new : Slots) (key : ℕ) (wanted : Bool) → SetsWanted key wanted old new → (k : ℕ) → places new k ≡ places old k
places_wanted old new key wanted c k = grind arith

pub indexed_added : (old new : Slots) (t u : Tables) (place : Place) (key : ℕ) (slot : Slot) → IsIndexed old t → ((k : ℕ) → ¬ (IsOf old place k)) → IsKey key → slot_at old key ≡ None → slot.place ≡ place → slot_at new key ≡ Some slot
    → ((o : ℕ) → o ≢ key → slot_at new o ≡ slot_at old o) → IsTrue (set.contains t.spaces place.space) → IsPage place.page → u.pages ≡ map.insert t.pages (place.space, place.page) key → u.spaces ≡ t.spaces → IsIndexed new u
indexed_added old new t u place key slot i free kept vacant its filled others there fits pages spaces =
    let here : places new key ≡ Some place = places_slot new key (Some slot) filled ∙ ap (λ (p : Place). Some p) its in
    let other : (o : ℕ) → o ≢ key → places new o ≡ places old o = λ o ne. ap (λ (z : Option Slot). option_map {T = Spot} (λ s. s.place) (option_map spot_of z)) (others o ne) in
    indexed_of new u (named_added (places old) (places new) t.pages u.pages place key i.names free (places_slot old key None vacant) here other pages)
    (lies_with (places old) (places new) t.spaces u.spaces place key (lies_of old t i) spaces here other there fits)
    (keeps_with (places old) (places new) key (keeps_of old t i) kept other)

pub indexed_removed : (old new : Slots) (t u : Tables) (place : Place) (key : ℕ) → option_map {T = Slot} (λ s. s.place) (slot_at old key) ≡ Some place → slot_at new key ≡ None
    → ((o : ℕ) → o ≢ key → slot_at new o ≡ slot_at old o) → u.pages ≡ map.remove t.pages (place.space, place.page) → u.spaces ≡ t.spaces → IsIndexed old t → IsIndexed new u
indexed_removed old new t u place key was gone others pages spaces i =
    let none : places new key ≡ None = places_slot new key None gone in
    let other : (o : ℕ) → o ≢ key → places new o ≡ places old o = λ o ne. ap (λ (z : Option Slot). option_map {T = Spot} (λ s. s.place) (option_map spot_of z)) (others o ne) in
    let stood : (k : ℕ) (p : Place) → places new k ≡ Some p → places old k ≡ Some p = λ k p at. sym (other k (λ e. no_some p (sym none ∙ ap (places new) (sym e) ∙ at))) ∙ at in
    indexed_of new u (named_removed (places old) (places new) t.pages u.pages place key i.names (places_slot old key (slot_at old key) refl ∙ was) none other pages)
    (lies_left (places old) (places new) t.spaces u.spaces (lies_of old t i) spaces
    (λ k p at. (k, stood k p at)))
    (keeps_left (places old) (places new) (keeps_of old t i) (λ k p at. (p, stood k p at)))

pub indexed_moved : (old new : Slots) (t m u : Tables) (from to : Place) (key blank : ℕ) → key ≢ blank → places old key ≡ Some from → places old blank ≡ Some to → places new key ≡ Some to → slot_at new blank ≡ None
    → ((o : ℕ) → o ≢ key → o ≢ blank → slot_at new o ≡ slot_at old o) → m.pages ≡ map.insert t.pages (to.space, to.page) key → u.pages ≡ map.remove m.pages (from.space, from.page) → u.spaces ≡ t.spaces → IsIndexed old t → IsIndexed new u
indexed_moved old new t m u from to key blank other was was_to is gone others put drop spaces i =
    let none : places new blank ≡ None = places_slot new blank None gone in
    let rest : (o : ℕ) → o ≢ key → o ≢ blank → places new o ≡ places old o = λ o nk nb. ap (λ (z : Option Slot). option_map {T = Spot} (λ s. s.place) (option_map spot_of z)) (others o nk nb) in
    let stood : (k : ℕ) (p : Place) → k ≢ key → places new k ≡ Some p → places old k ≡ Some p = λ k p nk at. sym (rest k nk (λ e. no_some p (sym none ∙ ap (places new) (sym e) ∙ at))) ∙ at in
    indexed_of new u (named_moved (places old) (places new) t.pages m.pages u.pages from to key blank i.names other was was_to is none rest put drop)
    (lies_left (places old) (places new) t.spaces u.spaces (lies_of old t i) spaces
    (λ k p at. elim (cases_eq k key) [
      | inl e ↦ (blank, was_to ∙ ap (λ (z : Place). Some z) (one_place (places new) key to p is (ap (places new) (sym e) ∙ at)))
      | inr nk ↦ (k, stood k p nk at)
    ]))
    (keeps_left (places old) (places new) (keeps_of old t i)
    (λ k p at. elim (cases_eq k key) [
      | inl e ↦ (from, ap (places old) e ∙ was)
      | inr nk ↦ (p, stood k p nk at)
    ]))

pub indexed_renamed : (old new : Slots) (t u : Tables) (from to : Place) (key : ℕ) → IsOf old from key → ((k : ℕ) → ¬ (IsOf old to k)) → SetsPlace key to old new → IsTrue (set.contains t.spaces to.space) → IsPage to.page
    → u.pages ≡ map.insert (map.remove t.pages (from.space, from.page)) (to.space, to.page) key → u.spaces ≡ t.spaces → IsIndexed old t → IsIndexed new u
indexed_renamed old new t u from to key was free sets there fits pages spaces i =
    let here : places new key ≡ Some to = places_slot new key (slot_at new key) refl ∙ ap (option_map {T = Slot} (λ s. s.place)) sets.here ∙ placed (slot_at old key) (sym (places_slot old key (slot_at old key) refl) ∙ was) in
    let other : (o : ℕ) → o ≢ key → places new o ≡ places old o = λ o ne. ap (λ (z : Option Slot). option_map {T = Spot} (λ s. s.place) (option_map spot_of z)) (sets.others o ne) in
    indexed_of new u (named_renamed (places old) (places new) t.pages u.pages from to key i.names was free here other pages)
    (lies_with (places old) (places new) t.spaces u.spaces to key (lies_of old t i) spaces here other there fits)
    (keeps_with (places old) (places new) key (keeps_of old t i) (keeps_of old t i key from was) other)
  where
    placed : (o : Option Slot) → option_map {T = Slot} (λ s. s.place) o ≡ Some from → option_map {T = Slot} (λ s. s.place) (option_map {T = Slot} (λ s. record s { place = to }) o) ≡ Some to
    placed None e = no_some from e
    placed (Some s) e = refl

-- a place that is named nowhere is of no key
pub unnamed : (slots : Slots) (t : Tables) → IsIndexed slots t → (place : Place) → key_of t place.space place.page ≡ None → (other : ℕ) → ¬ (IsOf slots place other)
unnamed slots t i place absent other o = no_some other (sym absent ∙ (i.names place other).1 o)

pub at_is : (slots : Slots) (k : ℕ) → option_map {T = Entry} (λ e. e.place) (entry_at (entries_of slots) k) ≡ places slots k
at_is slots k = ap (option_map {T = Entry} (λ e. e.place)) (at_seen slots k) ∙ map_over entry_of (λ (e : Entry). e.place) spot_of (λ (s : Spot). s.place) (λ s. refl) (slot_at slots k)

-- what is known of a page that has a key
pub its_place : (slots : Slots) (k : ℕ) (p : Place) → option_map {T = Slot} (λ s. s.place) (slot_at slots k) ≡ Some p → places slots k ≡ Some p
its_place slots k p e = places_slot slots k (slot_at slots k) refl ∙ e

pub place_there : (slots : Slots) (t : Tables) (k : ℕ) (p : Place) → IsIndexed slots t → option_map {T = Slot} (λ s. s.place) (slot_at slots k) ≡ Some p → IsTrue (set.contains t.spaces p.space)
place_there slots t k p i e = (lies_of slots t i k p (its_place slots k p e)).0

pub place_fits : (slots : Slots) (t : Tables) (k : ℕ) (p : Place) → IsIndexed slots t → option_map {T = Slot} (λ s. s.place) (slot_at slots k) ≡ Some p → IsPage p.page
place_fits slots t k p i e = (lies_of slots t i k p (its_place slots k p e)).1

pub place_present : (slots : Slots) (t : Tables) (k : ℕ) (p : Place) → IsIndexed slots t → option_map {T = Slot} (λ s. s.place) (slot_at slots k) ≡ Some p → tables.IsPresent t p.space p.page
place_present slots t k p i e = ap is_some ((i.names p k).1 (its_place slots k p e))

pub place_key : (slots : Slots) (t : Tables) (k : ℕ) (p : Place) → IsIndexed slots t → option_map {T = Slot} (λ s. s.place) (slot_at slots k) ≡ Some p → IsKey k
place_key slots t k p i e = let s = map_from (λ (s : Slot). s.place) (slot_at slots k) p e in i.few k (spot_of s.0) (ap (option_map spot_of) s.1)

-- a blank's page that was taken over
module _ (old mid new : Slots) (key blank : ℕ) (from to : Place) (rights : RightsSet) (other : key ≢ blank) (was : option_map {T = Slot} (λ s. s.place) (slot_at old key) ≡ Some from)
    (was_to : option_map {T = Slot} (λ s. s.place) (slot_at old blank) ≡ Some to) (gone : slot_at mid blank ≡ None) (others : (o : ℕ) → o ≢ blank → slot_at mid o ≡ slot_at old o) (g : Gives key to rights mid new) where
  abbrev given : Place → Slot → Slot
  given p s = record s { place = p; node = option_map (λ (n : Node). record n { granted = Some rights }) s.node }

  pub taken : TakesOver key blank rights old new
  taken = grind arith

  pub indexed_taken : (t m u : Tables) → m.pages ≡ map.insert t.pages (to.space, to.page) key → u.pages ≡ map.remove m.pages (from.space, from.page) → u.spaces ≡ t.spaces → IsIndexed old t → IsIndexed new u
  indexed_taken t m u put drop spaces i =
      indexed_moved old new t m u from to key blank other (its_place old key from was) (its_place old blank to was_to)
      (its_place new key to (ap (option_map {T = Slot} (λ s. s.place)) (g.here ∙ ap (option_map (given to)) (others key other)) ∙ place_given (slot_at old key) was))
      (g.others blank (λ e. other (sym e)) ∙ gone) (λ o nk nb. g.others o nk ∙ others o nb) put drop spaces i
    where
      place_given : (o : Option Slot) → option_map {T = Slot} (λ s. s.place) o ≡ Some from → option_map {T = Slot} (λ s. s.place) (option_map (given to) o) ≡ Some to
      place_given None e = no_some from e
      place_given (Some s) e = refl

-- a space without keys has no pages
pub indexed_without : (slots : Slots) (t u : Tables) (space : ℕ) → IsIndexed slots t → NoKeyFrom (entries_of slots) space 0 → tables.Empties space t u → u.spaces ≡ set.remove t.spaces space → IsIndexed slots u
indexed_without slots t u space i none empties spaces =
    let lies = lies_of slots t i in
    let kept : (k : ℕ) (p : Place) → places slots k ≡ Some p → p.space ≢ space = λ k p at e.
    none p.page (omega arith) (k, sym_at slots k p space e at) in
    indexed_of slots u
    (λ q k.
    let is : key_in u.pages q ≡ cond (q.space == space) None (key_in t.pages q) = empties q.space q.page in
    decided (q.space == space)
    (λ same.
    let e : q.space ≡ space = grind (arith, nat_tests) in
    let gone : key_in u.pages q ≡ None = is ∙ ap (λ b. cond b None (key_in t.pages q)) same in
    (λ h. no_some k (sym gone ∙ h), λ s. absurd (kept k q s e)))
    (λ off.
    let stays : key_in u.pages q ≡ key_in t.pages q = is ∙ ap (λ b. cond b None (key_in t.pages q)) off in
    (λ h. (i.names q k).0 (sym stays ∙ h), λ s. stays ∙ (i.names q k).1 s)))
    (λ k p at.
    let l = lies k p at in (
      ap (λ v. set.contains v p.space) spaces ∙ set.contains-remove nat_cmp_total t.spaces space p.space ∙ (λ i. not (differs p.space space (kept k p at) i) && l.0 i),
      l.1,
    ))
    (keeps_of slots t i)
  where
    sym_at : (slots : Slots) (k : ℕ) (p : Place) (space : ℕ) → p.space ≡ space → places slots k ≡ Some p → IsAt (entries_of slots) (record { space = space; page = p.page }) k
    sym_at slots k p space e at = at_is slots k ∙ at ∙ (λ i. Some (record { space = e i; page = p.page }))

    differs : (a b : ℕ) → a ≢ b → eq_by_cmp nat_cmp a b ≡ false
    differs a b ne = decided (eq_by_cmp nat_cmp a b) (λ h. absurd (ne (nat_cmp-IsAntisymmetric a b (is_equal (nat_cmp a b) h)))) (λ h. h)

-- one more space
or_right : (a b : Bool) → b ≡ true → (a || b) ≡ true
or_right true b h = refl
or_right false b h = h

pub indexed_begun : (E : Type 0) (result : Result Unit E) (slots : Slots) (t u : Tables) (space : ℕ) → u.pages ≡ t.pages → OnOk result (u.spaces ≡ set.insert t.spaces space) → OnErr result (u ≡ t) → IsIndexed slots t → IsIndexed slots u
indexed_begun E (Ok _) slots t u space pages begun same i =
    let lies = lies_of slots t i in
    indexed_of slots u
    (λ q k. (λ h. (i.names q k).0 (ap (λ (m : Pages). key_in m q) (sym pages) ∙ h), λ s. ap (λ (m : Pages). key_in m q) pages ∙ (i.names q k).1 s))
    (λ k p at.
    let l = lies k p at in
    (ap (λ v. set.contains v p.space) begun ∙ set.contains-insert nat_cmp_total t.spaces space p.space ∙ or_right (eq_by_cmp nat_cmp p.space space) _ l.0, l.1))
    (keeps_of slots t i)
indexed_begun E (Err _) slots t u space pages begun same i = subst (λ (v : Tables). IsIndexed slots v) (sym same) i

-- by key, what a contract sees

pub is_at : (slots : Slots) (p : Place) (k : ℕ) → IsOf slots p k ↔ IsAt (entries_of slots) p k
is_at slots p k = (λ o. at_is slots k ∙ o, λ a. sym (at_is slots k) ∙ a)

pub find_is : (slots : Slots) (t : Tables) (p : Place) (r : Option ℕ) → IsIndexed slots t → r ≡ tables.key_of t p.space p.page → (key : ℕ) → (r ≡ Some key) ↔ IsAt (entries_of slots) p key
find_is slots t p r i is key = (λ e. (is_at slots p key).0 ((i.names p key).0 (sym is ∙ e)), λ a. is ∙ (i.names p key).1 ((is_at slots p key).1 a))

some_key : (r : Option ℕ) → IsTrue (is_some r) → (key : ℕ) × (r ≡ Some key)
some_key None h = absurd (let e : false ≡ true = h in cc)
some_key (Some key) h = (key, refl)

-- a page is present where it has a key
present : (slots : Slots) (t : Tables) → IsIndexed slots t → (space page : ℕ) → HasKey (entries_of slots) space page → tables.IsPresent t space page
present slots t i space page h = ap is_some ((i.names (record { space = space; page = page }) h.0).1 ((is_at slots (record { space = space; page = page }) h.0).1 h.1))

pub has_key : (slots : Slots) (t : Tables) → IsIndexed slots t → (space page : ℕ) → tables.IsPresent t space page → HasKey (entries_of slots) space page
has_key slots t i space page h =
    let k = some_key (tables.key_of t space page) h in
    (k.0, (is_at slots (record { space = space; page = page }) k.0).0 ((i.names (record { space = space; page = page }) k.0).0 k.1))

pub next_is : (slots : Slots) (t : Tables) (space page : ℕ) (r : Option ℕ) → IsIndexed slots t → MatchOption r (NonePresentFrom t space page) (IsNextPresent t space page)
    → MatchOption r (NoKeyFrom (entries_of slots) space page) (IsNextKey (entries_of slots) space page)
next_is slots t space page None i h = λ other le k. h other le (present slots t i space other k)
next_is slots t space page (Some next) i h = record {
  there = has_key slots t i space next h.present;
  from = h.from;
  least = λ other le k. h.least other le (present slots t i space other k);
}

next_found : (slots : Slots) (t : Tables) (space page end next key : ℕ) → IsIndexed slots t → IsNextIn t space page end next → tables.key_of t space next ≡ Some key
    → IsNextKeyIn (entries_of slots) space page end next × IsKeyOf (entries_of slots) (record { space = space; page = next }) key
next_found slots t space page end next key i h is =
    let at = find_is slots t (record { space = space; page = next }) (Some key) i (sym is) in (
      record {
        there = has_key slots t i space next h.present;
        from = h.from;
        before = h.before;
        least = λ other le k. h.least other le (present slots t i space other k);
      },
      λ other. (λ e. (at other).0 (ap (λ (k : ℕ). Some k) (sym e)), λ a. sym (same_some ((at other).1 a))),
    )

pub next_in_is : (slots : Slots) (t : Tables) (space page end : ℕ) (r : Option (ℕ × ℕ)) → IsIndexed slots t → MatchOption r (NonePresentIn t space page end) (λ found. IsNextIn t space page end found.0 × (tables.key_of t space found.0 ≡ Some found.1))
    → MatchOption r (NoKeyIn (entries_of slots) space page end) (λ found. IsNextKeyIn (entries_of slots) space page end found.0 × IsKeyOf (entries_of slots) (record { space = space; page = found.0 }) found.1)
next_in_is slots t space page end None i h = λ other le lt k. h other le lt (present slots t i space other k)
next_in_is slots t space page end (Some found) i h = next_found slots t space page end found.0 found.1 i h.0 h.1

-- what holds of the pages at all times
pub have_places : (slots : Slots) (t : Tables) → IsIndexed slots t → HavePlaces (record { entries = entries_of slots; spaces = t.spaces })
have_places slots t i =
    let lies = lies_of slots t i in
    let of : (k : ℕ) (e : Entry) → entry_at (entries_of slots) k ≡ Some e → places slots k ≡ Some e.place = λ k e at. sym (at_is slots k) ∙ ap (option_map {T = Entry} (λ e. e.place)) at in
    record {
      housed = λ k e at. (lies k e.place (of k e at)).0;
      fits = λ k e at. (lies k e.place (of k e at)).1;
      once = λ p a b at_a at_b. once_named (places slots) t.pages i.names p a b ((is_at slots p a).1 at_a) ((is_at slots p b).1 at_b);
    }
