-- What the pages of an item bring, part by part, and what the items of a message bring, one after another.
use Rattle.std.proofs.Common.{◌≡◌, ◌≢◌, ℕ, ◌+◌, ◌-◌, ◌^◌, ◌<◌, ◌≤◌, ◌⊎◌, Bool, true, false, List, length, Option, Some, None, refl, sym, ap, ◌∙◌, subst, slice_get, inl, inr, arith}
use Rattle.std.proofs.lemmas.Bool.{cases_lt, cases_eq}
use Rattle.std.proofs.lemmas.Option.{slice_get_within}
use Rattle.l4_fpage.specs.Rights.{common, no_rights}
use Rattle.l4_spaces.specs.Rows.{Rows, is_made}
use Rattle.l4_msg.specs.declared.items.ItemMove.{ItemMove}
use Rattle.l4_nodes.specs.declared.Place.{Place}
use Rattle.l4_nodes.specs.Slots.{Store, HasRoomFor}
use Rattle.l4_links.specs.Leads.{Leads, step, steps}
use Rattle.l4_links.specs.declared.Standing.{Standing}
use Rattle.l4_links.specs.declared.Entry.{Entry}
use Rattle.l4_links.specs.declared.blocks.Pages.{Pages}
use Rattle.l4_links.specs.Entries.{Entries, entry_at, parent_of, IsAt, pages_of, place_for, IsShared, child_entry, IsBrought, BroughtBy, IsDue, Brings, AreOverLeaves, AreApart}
use Rattle.l4_links.specs.Inside.Bringing.{Fits, HaveTables, IsLacking, AtMost, none, one, pass}
use Rattle.l4_links.specs.Inside.Growing.{HaveRoom}
use Rattle.l4_links.proofs.Bringing.{Comes, rebound, brings_as, part_back, next_brings, next_fits, next_lacking}
use Rattle.l4_links.proofs.TableEntries.{entry_of_page}
use Rattle.l4_links.proofs.Writes.{same_some}

-- a page that is given was at another place
given_key : (of : Pages) (first end : ℕ) (s : Entries) (key : ℕ) (e : Entry) → (b : IsBrought of first end s (Some key) e) → (of.grant ≡ true) × (key ≡ b.key)
given_key of first end s key e b = grind arith

-- the pages before one of them, and those from it on
module _ (of : Pages) (first mid end : ℕ) (from : of.source.page ≤ first) (more : first ≤ mid) (le : mid ≤ end) (differ : of.source.space ≢ of.target.space) (old now : Entries) (a : Brings (IsBrought of first mid old) old now) where
  comes : (own : Option ℕ) (e : Entry) → IsBrought of first mid old own e → Comes of.source.space of.target.space old own e
  comes own e b = record { of = of; first = first; end = mid; source = refl; target = refl; brought = b }

  apart : (own other : Option ℕ) (e f : Entry) → IsBrought of first mid old own e → IsBrought of mid end old other f → e.place ≢ f.place
  apart own other e f b c same = grind arith

  keys : (key : ℕ) (e : Entry) → IsBrought of first mid old (Some key) e → ¬ (IsShared of mid end old key)
  keys key e b h = grind arith

  last_of : (own : Option ℕ) (e : Entry) → IsBrought of mid end old own e → IsBrought of first end old own e
  last_of own e b = let ge = b.shared.from in rebound of mid end first end old own e b (omega (arith, ge, more)) b.shared.before

  parts_of : (own : Option ℕ) (e : Entry) → IsBrought of first end old own e → IsBrought of first mid old own e ⊎ IsBrought of mid end old own e
  parts_of own e b = elim (cases_lt b.shared.entry.place.page mid) [
    | inl lt ↦ inl (rebound of first end first mid old own e b b.shared.from lt)
    | inr ge ↦ inr (rebound of first end mid end old own e b ge b.shared.before)
  ]

  abbrev back : (own : Option ℕ) (e : Entry) → IsBrought of mid end now own e → IsBrought of mid end old own e
  back = part_back of.source.space of.target.space differ old now (IsBrought of first mid old) a comes of mid end refl refl apart keys

  pub parts_joined : (new : Entries) → Brings (IsBrought of mid end now) now new → Brings (IsBrought of first end old) old new
  parts_joined new b = brings_as (λ own e. IsBrought of first mid old own e ⊎ IsBrought of mid end old own e) (IsBrought of first end old) old new
      (λ own e either. elim either [
        | inl c ↦ let lt = c.shared.before in rebound of first mid first end old own e c c.shared.from (omega (arith, lt, le))
        | inr c ↦ last_of own e c
      ])
      parts_of (next_brings of.source.space of.target.space differ old now (IsBrought of first mid old) a comes of mid end refl refl apart keys new b)

  pub fits_rest : Fits (IsBrought of first end old) old → Fits (IsBrought of mid end now) now
  fits_rest fits = next_fits of.source.space of.target.space differ old now (IsBrought of first mid old) a comes of mid end refl refl apart keys (λ own e b. fits own e (last_of own e b))

  pub tables_rest : (was_rows now_rows : Rows) → ((high : ℕ) → is_made was_rows high ≡ true → is_made now_rows high ≡ true) → HaveTables (IsBrought of first end old) was_rows → HaveTables (IsBrought of mid end now) now_rows
  tables_rest was_rows now_rows kept made own e b high low is lt = kept high (made own e (last_of own e (back own e b)) high low is lt)

  pub lacking_rest : of.end ≤ end → (page : ℕ) → mid ≤ page → IsLacking of now page → IsLacking of old page
  lacking_rest whole page ge l =
      let at = l.page_is in
      let low = l.due.shared.from in
      let lt = l.due.shared.before in
      let part = rebound of of.source.page of.end mid end now None l.entry l.due (omega (arith, at, ge)) (omega (arith, lt, whole)) in
      record {
        entry = l.entry;
        due = rebound of mid end of.source.page of.end old None l.entry (back None l.entry part) low lt;
        page_is = at;
        absent = next_lacking of.source.space of.target.space differ old now (IsBrought of first mid old) a comes of mid end refl refl apart keys None l.entry part l.absent;
      }

-- no more than before, if fewer numbers from there on are of these
pub at_most_back : {P Q : ℕ → Type 0} {next end most : ℕ} → ((n : ℕ) → next ≤ n → Q n → P n) → AtMost P next end most → AtMost Q next end most
at_most_back was none = none
at_most_back was (one fewer lt rest) = one fewer lt (at_most_back (λ n le q. was n (omega (arith, le)) q) rest)
at_most_back {next = next} was (pass other rest) = pass (λ q. other (was next (omega arith) q)) (at_most_back (λ n le q. was n (omega (arith, le)) q) rest)

pub at_most_more : {P : ℕ → Type 0} {next end a b : ℕ} → a ≤ b → AtMost P next end a → AtMost P next end b
at_most_more le none = none
at_most_more le (one fewer lt rest) = one fewer (omega (arith, le, lt)) rest
at_most_more le (pass other rest) = pass other (at_most_more le rest)

-- up to a number, and from it on
pub at_most_joined : {P : ℕ → Type 0} {next mid end a : ℕ} (b : ℕ) → AtMost P next mid a → AtMost P mid end b → AtMost P next end (a + b)
at_most_joined b none more = at_most_more (omega arith) more
at_most_joined b (one fewer lt rest) more = one (fewer + b) (omega (arith, lt)) (at_most_joined b rest more)
at_most_joined b (pass other rest) more = pass other (at_most_joined b rest more)

-- the number at which counting begins is one of these, or not
pub at_most_step : {P : ℕ → Type 0} {next end most : ℕ} → next < end → AtMost P next end most → ((fewer : ℕ) × (fewer < most) × AtMost P (next + 1) end fewer) ⊎ ((¬ (P next)) × AtMost P (next + 1) end most)
at_most_step some none = absurd (omega (arith, some))
at_most_step some (one fewer lt rest) = inl (fewer, lt, rest)
at_most_step some (pass other rest) = inr (other, rest)

at_most_end : {P : ℕ → Type 0} {next end most : ℕ} → end ≡ next → AtMost P next end most
at_most_end {P} {next} {end} {most} same = subst (λ (n : ℕ). AtMost P n end most) same none

-- from a later number on there are no more
pub at_most_drop : {P : ℕ → Type 0} {next end most : ℕ} (mid : ℕ) → next ≤ mid → mid ≤ end → AtMost P next end most → AtMost P mid end most
at_most_drop mid le within none = at_most_end (omega (arith, le, within))
at_most_drop {P} {next} {end} {most} mid le within (one fewer lt rest) = elim (cases_eq next mid) [
  | inl same ↦ subst (λ (n : ℕ). AtMost P n end most) same (one fewer lt rest)
  | inr ne ↦ at_most_more (omega (arith, lt)) (at_most_drop mid (omega (arith, le, ne)) within rest)
]
at_most_drop {P} {next} {end} {most} mid le within (pass other rest) = elim (cases_eq next mid) [
  | inl same ↦ subst (λ (n : ℕ). AtMost P n end most) same (pass other rest)
  | inr ne ↦ at_most_drop mid (omega (arith, le, ne)) within rest
]

-- room for fewer
pub room_less : (store : Store) (a b : ℕ) → b ≤ a → HasRoomFor store a → HasRoomFor store b
room_less store a b le r = (let s = r.slots in record { slots = omega (arith, s, le); notes = r.notes; keys = r.keys })

-- some pages need no room any more
pub room_passed : (of : Pages) (page mid more : ℕ) (store : Store) → page ≤ mid → mid ≤ of.end → HaveRoom of page more store → HaveRoom of mid more store
room_passed of page mid more store le within h = (h.0, at_most_drop mid le within h.1, h.2)

-- no page shares a right
pub nothing_brought : (of : Pages) (page end : ℕ) (s : Entries)
    → ((k : ℕ) (e : Entry) (t : Standing) → entry_at s k ≡ Some e → e.place.space ≡ of.source.space → page ≤ e.place.page → e.place.page < end → e.stands ≡ Some t → common t.rights of.rights ≡ no_rights) → (own : Option ℕ) (e : Entry) → ¬ (IsBrought of page end s own e)
nothing_brought of page end s shares_none own e b = let h = b.shared in h.shares (shares_none b.key h.entry h.standing h.at h.space h.from h.before h.stands)

-- one page, on which something stands that shares a right
module _ (of : Pages) (page : ℕ) (s : Entries) (key : ℕ) (here : Entry) (at : entry_at s key ≡ Some here) (place_is : here.place ≡ record { space = of.source.space; page = page }) (above : Standing) (stands : here.stands ≡ Some above)
    (shares : common above.rights of.rights ≢ no_rights) where
  -- what is under its key comes so, by the kind of the item
  abbrev pub PageBrings : Option ℕ → Entry → Type 0
  PageBrings own e = ((of.grant ≡ false) × (own ≡ None) × (e ≡ child_entry (place_for of page) key above of.rights)) ⊎ ((of.grant ≡ true) × (own ≡ Some key) × (e ≡ record here { place = place_for of page }))

  pub goes_there : (own : Option ℕ) (e : Entry) → PageBrings own e → e.place ≡ place_for of page
  goes_there own e how = elim how [ inl c ↦ ap (λ (x : Entry). x.place) c.2 | inr g ↦ ap (λ (x : Entry). x.place) g.2 ]

  abbrev pub page_due : (end : ℕ) → page < end → (own : Option ℕ) (e : Entry) → PageBrings own e → IsBrought of page end s own e
  page_due end lt own e how =
      let goes = goes_there own e how in
      let at_page : here.place.page ≡ page = ap (λ (q : Place). q.page) place_is in
      record {
        key = key;
        shared = record { entry = here; at = at; space = ap (λ (q : Place). q.space) place_is; from = omega (arith, at_page); before = omega (arith, at_page, lt); standing = above; stands = stands; shares = shares };
        place = goes ∙ sym (ap (λ (q : Place). place_for of q.page) place_is);
        how = elim how [
          | inl c ↦ inl (c.0, c.1, c.2 ∙ (λ i. child_entry (sym goes i) key above of.rights))
          | inr g ↦ inr (g.0, g.1, g.2 ∙ (λ i. record here { place = sym goes i }))
        ];
      }

  page_only : ((k : ℕ) → IsAt s (record { space = of.source.space; page = page }) k → k ≡ key) → (own : Option ℕ) (e : Entry) → PageBrings own e → (other : Option ℕ) (x : Entry) → IsBrought of page (page + 1) s other x → (other ≡ own) × (x ≡ e)
  page_only alone own e how other x b = grind arith

  pub page_brings : ((k : ℕ) → IsAt s (record { space = of.source.space; page = page }) k → k ≡ key) → (own : Option ℕ) (e : Entry) → PageBrings own e → (new : Entries) → Brings (λ o x. (o ≡ own) × (x ≡ e)) s new → Brings (IsBrought of page (page + 1) s) s new
  page_brings alone own e how new = brings_as (λ o x. (o ≡ own) × (x ≡ e)) (IsBrought of page (page + 1) s) s new
      (λ o x due. page_due (page + 1) (omega arith) o x (elim how [ inl c ↦ inl (c.0, due.0 ∙ c.1, due.1 ∙ c.2) | inr g ↦ inr (g.0, due.0 ∙ g.1, due.1 ∙ g.2) ])) (page_only alone own e how)

  -- there is such an entry, whatever the kind
  pub some_brought : (own : Option ℕ) × (e : Entry) × PageBrings own e
  some_brought = elim of.grant as (λ (b : Bool). of.grant ≡ b → (own : Option ℕ) × (e : Entry) × PageBrings own e) [
    | false ↦ λ g. (None, child_entry (place_for of page) key above of.rights, inl (g, refl, refl))
    | true ↦ λ g. (Some key, record here { place = place_for of page }, inr (g, refl, refl))
  ] refl

-- nothing leads to what nothing has as its parent
no_descent : (s : Entries) (key : ℕ) → ((low : ℕ) → parent_of s low ≢ Some key) → (low high : ℕ) → Leads (parent_of s) low high → high ≡ key → ⊥
no_descent s key leaf low high (step {low = l} is) e = leaf l (is ∙ ap (λ (k : ℕ). Some k) e)
no_descent s key leaf low high (steps {middle = m} is rest) e = no_descent s key leaf m high rest e

-- what fits is over leaves
pub fits_leaves : (Due : Option ℕ → Entry → Type 0) (s : Entries) → Fits Due s → AreOverLeaves Due s
fits_leaves Due s fits own e due key at low down = let was = entry_of_page s key e.place at in no_descent s key (fits own e due key was.0 was.1 was.2).1.leaf low key down refl

-- the next item of a message
module _ (from to : ℕ) (differ : from ≢ to) (items : List ItemMove) (apart : AreApart items (length items)) (i : ℕ) (by : ItemMove) (is : slice_get items i ≡ Some by) (old now : Entries) (a : Brings (IsDue from to items i old) old now) where
  abbrev of : Pages
  of = pages_of from to by

  item_comes : (own : Option ℕ) (e : Entry) → IsDue from to items i old own e → Comes from to old own e
  item_comes own e d = record { of = pages_of from to d.by; first = (pages_of from to d.by).source.page; end = (pages_of from to d.by).end; source = refl; target = refl; brought = d.brings }

  -- where an item's page goes
  goes_in : (b : ItemMove) (own : Option ℕ) (e : Entry) → BroughtBy (pages_of from to b) old own e → (b.mv.target.first ≤ e.place.page) × (e.place.page < b.mv.target.first + 2 ^ b.mv.target.log)
  goes_in b own e c = grind arith

  items_apart : (own other : Option ℕ) (e f : Entry) → IsDue from to items i old own e → BroughtBy of old other f → e.place ≢ f.place
  items_apart own other e f d b same = grind (arith, apart, slice_get_within, ap, goes_in, arith)

  item_keys : (key : ℕ) (e : Entry) → IsDue from to items i old (Some key) e → ¬ (IsShared of of.source.page of.end old key)
  item_keys key e d h = search (given_key, apart, slice_get_within, inl, same_some, sym, ap, arith, arith)

  due_more : (own : Option ℕ) (e : Entry) → IsDue from to items i old own e ⊎ BroughtBy of old own e → IsDue from to items (i + 1) old own e
  due_more own e (inl d) = record { item = d.item; by = d.by; before = (let lt = d.before in omega (arith, lt)); item_is = d.item_is; brings = d.brings }
  due_more own e (inr b) = record { item = i; by = by; before = omega arith; item_is = is; brings = b }

  due_less : (own : Option ℕ) (e : Entry) → IsDue from to items (i + 1) old own e → IsDue from to items i old own e ⊎ BroughtBy of old own e
  due_less own e d = elim (cases_lt d.item i) [
    | inl lt ↦ inl (record { item = d.item; by = d.by; before = lt; item_is = d.item_is; brings = d.brings })
    | inr le ↦
        let lt = d.before in
        let same : d.item ≡ i = omega (arith, le, lt) in
        inr (subst (λ (b : ItemMove). BroughtBy (pages_of from to b) old own e) (same_some (sym d.item_is ∙ ap (slice_get items) same ∙ is)) d.brings)
  ]

  whole : (own : Option ℕ) (e : Entry) → BroughtBy of old own e → IsDue from to items (length items) old own e
  whole own e b = record { item = i; by = by; before = slice_get_within items i by is; item_is = is; brings = b }

  abbrev item_back : (own : Option ℕ) (e : Entry) → BroughtBy of now own e → BroughtBy of old own e
  item_back = part_back from to differ old now (IsDue from to items i old) a item_comes of of.source.page of.end refl refl items_apart item_keys

  pub item_brings : (new : Entries) → Brings (BroughtBy of now) now new → Brings (IsDue from to items (i + 1) old) old new
  item_brings new b = brings_as (λ own e. IsDue from to items i old own e ⊎ BroughtBy of old own e) (IsDue from to items (i + 1) old) old new due_more due_less
      (next_brings from to differ old now (IsDue from to items i old) a item_comes of of.source.page of.end refl refl items_apart item_keys new b)

  pub item_fits : Fits (IsDue from to items (length items) old) old → Fits (BroughtBy of now) now
  item_fits fits = next_fits from to differ old now (IsDue from to items i old) a item_comes of of.source.page of.end refl refl items_apart item_keys (λ own e b. fits own e (whole own e b))

  pub item_tables : (targets : Rows) → HaveTables (IsDue from to items (length items) old) targets → HaveTables (BroughtBy of now) targets
  item_tables targets made own e b = made own e (whole own e (item_back own e b))

  pub item_lacking : (page : ℕ) → IsLacking of now page → IsLacking of old page
  item_lacking page l = record {
    entry = l.entry;
    due = item_back None l.entry l.due;
    page_is = l.page_is;
    absent = next_lacking from to differ old now (IsDue from to items i old) a item_comes of of.source.page of.end refl refl items_apart item_keys None l.entry l.due l.absent;
  }
