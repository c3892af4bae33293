-- Marks of what a message moves and fills, and how they are taken away.
use Rattle.std.proofs.Common.{◌≡◌, ◌≢◌, ℕ, ◌+◌, ◌<◌, ◌==◌, Bool, true, List, Option, Some, None, option_and_then, option_map, refl, sym, ap, ◌∙◌, subst, slice_get, inl, inr, arith}
use Rattle.std.proofs.lemmas.Bool.{cases_lt, false≢true}
use Rattle.std.proofs.lemmas.Bool.Decides.{nat_tests}
use Rattle.l4_nodes.specs.declared.Place.{Place as LinkPlace}
use Rattle.l4_links.specs.declared.Standing.{Standing}
use Rattle.l4_links.specs.declared.Entry.{Entry}
use Rattle.l4_links.specs.Entries.{Entries, Linked, entry_at, standing_at, HavePlaces, IsAt, IsSource, SetsSource}
use Rattle.l4_msg.specs.declared.items.ItemMove.{ItemMove}
use Rattle.l4_mapdb.proofs.EntriesLemmas.{decided}
use Rattle.l4_mapdb.proofs.Unique.{same_value}
use Rattle.l4_mapdb.specs.declared.sources.UsedMove.{UsedMove}
use Rattle.l4_mapdb.specs.Delivering.{IsClean}
use Rattle.l4_mapdb.specs.Inside.Messages.{plain, stand_at, StandAlike, IsMoved, turn, turn_of, IsNextMove, IsWaiting, Marks}
use Rattle.l4_mapdb.proofs.Moves.{found_of, with_place, one_by, move_at, move_page}

-- by cases on keys
pub by_key : {A : Type 0} (a b : ℕ) → (a ≡ b → A) → (a ≢ b → A) → A
by_key a b yes_case no_case = decided (a == b)
    (λ t. let e : a ≡ b = grind (arith, nat_tests) in yes_case e)
    (λ f. no_case (λ e. f (let t : (a == b) ≡ true = grind (arith, nat_tests) in t)))

-- a used move is one also where the same stands under its key
pub moved_by_key : (a b : Entries) (from to : ℕ) (items : List ItemMove) (m : UsedMove) → stand_at b m.source ≡ stand_at a m.source → IsMoved b from to items m → IsMoved a from to items m
moved_by_key a b from to items m same used =
    record { by = used.by; item = used.item; grant = used.grant; to_space = used.to_space; pages = used.pages; standing = used.standing; stands = sym same ∙ used.stands; some_right = used.some_right }

pub moved_alike : (old new : Entries) (from to : ℕ) (items : List ItemMove) → StandAlike old new → (m : UsedMove) → IsMoved new from to items m → IsMoved old from to items m
moved_alike old new from to items alike m = moved_by_key old new from to items m (alike m.source)

pub moved_still : (old new : Entries) (from to : ℕ) (items : List ItemMove) → StandAlike old new → (m : UsedMove) → IsMoved old from to items m → IsMoved new from to items m
moved_still old new from to items alike m = moved_by_key new old from to items m (sym (alike m.source))

pub alike_on : (old middle new : Entries) → StandAlike old middle → StandAlike middle new → StandAlike old new
alike_on old middle new a b key = b key ∙ a key

-- the stand of an entry
abbrev pub stand_in : Option Entry → Option (LinkPlace × Standing)
stand_in o = option_and_then (λ (e : Entry). option_map (with_place e.place) e.stands) o

abbrev pub sourced : Bool → Option Entry → Option Entry
sourced source o = option_map {T = Entry} (λ e. record e { stands = option_map (λ (t : Standing). record t { source = source }) e.stands }) o

pub alike_sourced : (key : ℕ) (source : Bool) (old new : Entries) → SetsSource key source old new → StandAlike old new
alike_sourced key source old new sets k = grind arith

-- what is the source after a mark
marked_is : (o : Option Entry) (t : Standing) → option_and_then (λ (e : Entry). e.stands) (sourced true o) ≡ Some t
    → (u : Standing) × (option_and_then (λ (e : Entry). e.stands) o ≡ Some u) × (t ≡ record u { source = true })
marked_is None t h = absurd (let k : ◌≡◌ {A = Option Standing} None (Some t) = h in cc)
marked_is (Some e) t h = elim e.stands as (λ (o : Option Standing). option_map (λ (x : Standing). record x { source = true }) o ≡ Some t → (u : Standing) × (o ≡ Some u) × (t ≡ record u { source = true })) [
  | None ↦ λ is. absurd (let k : ◌≡◌ {A = Option Standing} None (Some t) = is in cc)
  | Some u ↦ λ is. (u, refl, sym (same_value is))
] h

is_marked : (o : Option Entry) (u : Standing) → option_and_then (λ (e : Entry). e.stands) o ≡ Some u
    → option_map (λ (t : Standing). t.source) (option_and_then (λ (e : Entry). e.stands) (sourced true o)) ≡ Some true
is_marked None u h = absurd (let k : ◌≡◌ {A = Option Standing} None (Some u) = h in cc)
is_marked (Some e) u h = ap (option_map (λ (t : Standing). t.source)) (ap (option_map (λ (x : Standing). record x { source = true })) h)

-- an entry that waits waited before its source was marked
waited : (o : Option Entry) (e : Entry) → sourced true o ≡ Some e → IsWaiting e → (f : Entry) × (o ≡ Some f) × IsWaiting f × (f.place ≡ e.place)
waited None e h w = absurd (let k : ◌≡◌ {A = Option Entry} None (Some e) = h in cc)
waited (Some f) e h w =
    let same : record f { stands = option_map (λ (t : Standing). record t { source = true }) f.stands } ≡ e = same_value h in (
      f,
      refl,
      grind arith,
      ap (λ (x : Entry). x.place) same,
    )

-- a key that is of a source
pub source_of : (s : Entries) (key : ℕ) → IsSource s key → (t : Standing) × (standing_at s key ≡ Some t) × (t.source ≡ true)
source_of s key h = grind arith

-- what stands under a key of a stand
pub standing_of : (s : Entries) (key : ℕ) (p : LinkPlace) (t : Standing) → stand_at s key ≡ Some (p, t) → (u : Standing) × (standing_at s key ≡ Some u) × (plain u ≡ t)
standing_of s key p t h = grind arith

module _ (s : Linked) (have : HavePlaces s) (from to : ℕ) (items : List ItemMove) where
  -- there is one used move of an item out of a page
  pub same_move : (m n : UsedMove) → IsMoved s.entries from to items m → IsMoved s.entries from to items n → turn_of m ≡ turn_of n → m ≡ n
  same_move m n a b turns =
      let fa = move_page s.entries from to items m a in
      let fb = move_page s.entries from to items n b in
      let item : m.item ≡ n.item = omega (arith, fa, fb, turns) in
      let page : m.page ≡ n.page = omega (arith, fa, fb, turns) in
      let by : a.by ≡ b.by = one_by items n.item a.by b.by (ap (slice_get items) (sym item) ∙ a.item) b.item in
      let place : ◌≡◌ {A = LinkPlace} (record { space = from; page = m.page }) (record { space = from; page = n.page }) = λ i. record { space = from; page = page i } in
      let source : m.source ≡ n.source = have.once (record { space = from; page = n.page }) m.source n.source (subst (λ (p : LinkPlace). IsAt s.entries p m.source) place (move_at s.entries from to items m a)) (move_at s.entries from to items n b) in
      let first : a.by.mv.source.first ≡ b.by.mv.source.first = ap (λ (x : ItemMove). x.mv.source.first) by in
      let second : a.by.mv.target.first ≡ b.by.mv.target.first = ap (λ (x : ItemMove). x.mv.target.first) by in
      let ai = a.pages.index in
      let bi = b.pages.index in
      let asrc : m.page ≡ a.by.mv.source.first + ai = a.pages.source_is in
      let bsrc : n.page ≡ b.by.mv.source.first + bi = b.pages.source_is in
      let atgt : m.target.page ≡ a.by.mv.target.first + ai = a.pages.target_is in
      let btgt : n.target.page ≡ b.by.mv.target.first + bi = b.pages.target_is in
      let target_page : m.target.page ≡ n.target.page = omega (arith, asrc, bsrc, atgt, btgt, first, second, page) in
      let target_space : m.target.space ≡ n.target.space = a.to_space ∙ sym b.to_space in
      let grant : m.grant ≡ n.grant = a.grant ∙ ap (λ (x : ItemMove). x.grant) by ∙ sym b.grant in
      λ i. record { item = item i; page = page i; source = source i; target = record { space = target_space i; page = target_page i }; grant = grant i }

-- nothing is marked in clean entries
pub clean_marks : (Used : UsedMove → Type 0) (s : Linked) → IsClean s → Marks Used s.entries s.entries
clean_marks Used s clean = record {
  alike = λ key. refl;
  sources = λ key is.
      let t = source_of s.entries key is in
      let f = found_of s.entries key t.0 t.1 in
      let p = clean key f.entry f.at in
      let same : p.standing ≡ t.0 = same_value (sym p.stands ∙ f.stands) in
      absurd (false≢true (sym p.no_source ∙ ap (λ (x : Standing). x.source) same ∙ t.2));
  targets = λ key e at waits. absurd (elim waits [
    | inl wanted ↦ false≢true (sym (clean key e at).unwanted ∙ wanted)
    | inr none ↦ (let k : ◌≡◌ {A = Option Standing} None (Some (clean key e at).standing) = sym none ∙ (clean key e at).stands in cc)
  ]);
  not_granted = λ key t stands.
      let f = found_of s.entries key t stands in
      let p = clean key f.entry f.at in
      let same : p.standing ≡ t = same_value (sym p.stands ∙ f.stands) in
      ap (λ (x : Standing). x.granted) (sym same) ∙ p.not_granted;
}

module _ (old : Linked) (have : HavePlaces old) (from to : ℕ) (items : List ItemMove) where
  abbrev Used : UsedMove → Type 0
  Used = IsMoved old.entries from to items

  -- what was done for the used moves before this one's turn, and for this one, was done for those before the next turn
  pub turn_more : (P : UsedMove → Type 0) (cur : Entries) (start : ℕ) (u : UsedMove) → StandAlike old.entries cur → IsNextMove cur from to items start u → P u
      → ((m : UsedMove) → Used m → turn_of m < start → P m) → (m : UsedMove) → Used m → turn_of m < turn u.item (u.page + 1) → P m
  turn_more P cur start u alike is here before m used lt = elim (cases_lt (turn_of m) start) [
    | inl less ↦ before m used less
    | inr ge ↦
        let first = is.first m (moved_still old.entries cur from to items alike m used) ge in
        let e : turn_of u ≡ turn_of m = omega (arith, first, lt) in
        subst P (same_move old have from to items u m (moved_alike old.entries cur from to items alike u is.moved) used e) here
  ]

  -- all used moves were passed
  pub turn_all : (P : UsedMove → Type 0) (cur : Entries) (start : ℕ) → StandAlike old.entries cur → ((m : UsedMove) → IsMoved cur from to items m → turn_of m < start)
      → ((m : UsedMove) → Used m → turn_of m < start → P m) → (m : UsedMove) → Used m → P m
  turn_all P cur start alike none before m used = before m used (none m (moved_still old.entries cur from to items alike m used))

  -- a source is marked
  pub marks_source : (cur new : Entries) (start : ℕ) (u : UsedMove) → IsNextMove cur from to items start u → SetsSource u.source true cur new → Marks Used old.entries cur → Marks Used old.entries new
  marks_source cur new start u is sets marks =
      let here : Used u = moved_alike old.entries cur from to items marks.alike u is.moved in
      search (alike_on, alike_sourced, true, by_key, sym, ap, Option, option_map, option_and_then, waited, marked_is, arith)

  pub sources_more : (cur new : Entries) (start : ℕ) (u : UsedMove) → IsNextMove cur from to items start u → SetsSource u.source true cur new → StandAlike old.entries cur
      → ((m : UsedMove) → Used m → turn_of m < start → IsSource cur m.source) → (m : UsedMove) → Used m → turn_of m < turn u.item (u.page + 1) → IsSource new m.source
  sources_more cur new start u is sets alike before =
      let stood = standing_of cur u.source (record { space = from; page = u.page }) is.moved.standing is.moved.stands in
      let here : IsSource new u.source = ap (λ (o : Option Entry). option_map (λ (t : Standing). t.source) (option_and_then (λ (x : Entry). x.stands) o)) sets.here ∙ is_marked (entry_at cur u.source) stood.0 stood.1 in
      turn_more (λ m. IsSource new m.source) cur start u alike is here
      (λ m used lt. by_key m.source u.source
      (λ e. subst (λ (k : ℕ). IsSource new k) (sym e) here)
      (λ ne. ap (λ (o : Option Entry). option_map (λ (t : Standing). t.source) (option_and_then (λ (x : Entry). x.stands) o)) (sets.others m.source ne) ∙ before m used lt))
