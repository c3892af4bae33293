-- What a message has made way for.
use Rattle.std.proofs.Common.{◌≡◌, ℕ, Bool, true, false, if◌then◌else◌, List, Option, Some, None, option_and_then, option_map, refl, sym, ap, ◌∙◌, subst, inl, inr, ◌⊎◌, arith}
use Rattle.l4_nodes.specs.declared.Place.{Place as LinkPlace}
use Rattle.l4_links.specs.declared.Standing.{Standing}
use Rattle.l4_links.specs.declared.Entry.{Entry}
use Rattle.l4_links.specs.Leads.{Leads, step, steps}
use Rattle.l4_links.specs.Entries.{Entries, Linked, entry_at, standing_at, IsStanding, parent_of, HavePlaces, AreTrees, HaveRights, IsAt, cut_off}
use Rattle.l4_mapdb.specs.declared.Place.{Place}
use Rattle.l4_msg.specs.declared.items.ItemMove.{ItemMove}
use Rattle.l4_mapdb.specs.declared.Cause.TheVariants.{NoMemory}
use Rattle.l4_mapdb.specs.Causes.{HasCause}
use Rattle.l4_mapdb.specs.Transfer.{PageMove, IsUsed, IsGone}
use Rattle.l4_mapdb.proofs.Unique.{same_value}
use Rattle.l4_mapdb.specs.declared.sources.UsedMove.{UsedMove}
use Rattle.l4_mapdb.specs.View.{link_place, map_place, mappings_of}
use Rattle.l4_mapdb.specs.Delivering.{IsClean}
use Rattle.l4_mapdb.specs.Inside.Messages.{plain, stand_at, StandAlike, IsMoved, IsWaiting, IsWanted, Goes, IsClearedAt, Roomed}
use Rattle.l4_mapdb.specs.Inside.Placing.{Placed, IsDone, IsTarget, IsLeftAt, blank_for, IsBefore, earlier, same as same_item}
use Rattle.l4_mapdb.specs.Inside.Tangles.{HasTangle}
use Rattle.l4_mapdb.proofs.Moves.{with_place, stand_of, stands_as, found_of, is_at, entry_of, move_at}
use Rattle.l4_mapdb.proofs.View.{some_parent}
use Rattle.l4_mapdb.proofs.Marking.{moved_alike, moved_still, source_of}
use Rattle.l4_mapdb.proofs.Restored.{by_bool, alike_at, alike_descends, tangle_alike}
use Rattle.l4_mapdb.proofs.Keyed.{page_move, used_of, key_of, source_is, key_present, present_key, above_place, above_key, entangled_keys}

abbrev opposite : (a b : Entries) → StandAlike a b → StandAlike b a
opposite a b alike key = sym (alike key)

-- something stands at the end of a chain
pub leads_stands : (s : Entries) → AreTrees s → {low high : ℕ} → Leads (parent_of s) low high → IsStanding s high
leads_stands s trees {low} {high} (step is) none =
    let t = some_parent s low high is in
    let p = trees.parents low t.0 high t.1 t.2 in
    let k : ◌≡◌ {A = Option Standing} None (Some p.above) = sym none ∙ p.at in
    cc
leads_stands s trees (steps is rest) none = leads_stands s trees rest none

-- a clean key keeps its page where the same stands
pub clean_at : (old : Linked) → IsClean old → (b : Entries) → StandAlike old.entries b → (place : LinkPlace) (key : ℕ) → IsAt old.entries place key → IsAt b place key
clean_at old clean b alike place key at =
    let e = entry_of old.entries key place at in
    let p = clean key e.0 e.1 in
    (alike_at b old.entries (opposite old.entries b alike) place key at
    (λ none. let k : ◌≡◌ {A = Option Standing} None (Some p.standing) = sym none ∙ ap (option_and_then (λ (x : Entry). x.stands)) e.1 ∙ p.stands in cc)).0

-- nothing stands in an entry that shows nothing
stand_none : (s : Entries) (key : ℕ) (e : Entry) → entry_at s key ≡ Some e → stand_at s key ≡ None → e.stands ≡ None
stand_none s key e at none = grind arith

-- an entry that is cut off and wanted is a blank
wanted_cut : (e : Entry) → e.wanted ≡ true → cut_off (Some e) ≡ Some (record { place = e.place; wanted = true; stands = None })
wanted_cut e wanted = ap (λ (b : Bool). if b then Some (record e { stands = None }) else None) wanted ∙ (λ i. Some (record { place = e.place; wanted = wanted i; stands = None }))

unwanted_cut : (e : Entry) → e.wanted ≡ false → cut_off (Some e) ≡ None
unwanted_cut e unwanted = ap (λ (b : Bool). if b then Some (record e { stands = None }) else None) unwanted

-- a mark is all that differs
marked_is : (t u : Standing) → plain t ≡ plain u → t.granted ≡ None → u.granted ≡ None → t ≡ record u { source = t.source }
marked_is t u same granted was = grind arith

module _ (old : Linked) (clean : IsClean old) (from to : ℕ) (items : List ItemMove) (cur : Entries) (room : Roomed (IsMoved old.entries from to items) old.entries cur) where
  abbrev Moves : UsedMove → Type 0
  Moves = IsMoved old.entries from to items

  -- what stands has rights still
  pub room_rights : HaveRights cur
  room_rights key t stands none =
      let f = found_of cur key t stands in
      let o = stand_of old.entries key f.entry.place (plain t) (sym (room.marked.marks.alike key) ∙ stands_as cur key f.entry t f.at f.stands) in
      let p = clean key o.entry o.at in
      let same : p.standing ≡ o.standing = same_value (sym p.stands ∙ o.stands) in
      p.some_right (ap (λ (x : Standing). x.rights) same ∙ ap (λ (x : Standing). x.rights) o.plain_is ∙ none)

  pub room_wanted : (m : UsedMove) → IsMoved cur from to items m → IsWanted cur m.target
  room_wanted m used = room.targets m (moved_alike old.entries cur from to items room.marked.marks.alike m used)

  -- no source goes
  pub room_stay : AreTrees cur → ¬ (HasTangle Moves old.entries) → (m : UsedMove) → IsMoved cur from to items m → ¬ (Goes (IsMoved cur from to items) cur m.source)
  room_stay trees free m used g =
      let o = stand_of cur m.source (record { space = from; page = m.page }) used.standing used.stands in
      let stands : IsStanding cur g.top = grind (arith, inl, Option, None, Some, sym, ap, option_and_then, inr, leads_stands) in
      free (tangle_alike old.entries cur room.marked.marks.alike from to items (record {
        move = g.move;
        used = g.used;
        tangles = inr (record { key = g.top; at = g.at; stands = stands; other = m; used = used; above = g.below });
      }))

module _ (old : Linked) (clean : IsClean old) (have : HavePlaces old) (trees : AreTrees old.entries) (from to : ℕ) (items : List ItemMove) (cur : Linked) (have_cur : HavePlaces cur) (trees_cur : AreTrees cur.entries)
    (room : Roomed (IsMoved old.entries from to items) old.entries cur.entries) (free : ¬ (HasTangle (IsMoved old.entries from to items) old.entries)) where
  abbrev KeyMoves : UsedMove → Type 0
  KeyMoves = IsMoved old.entries from to items

  abbrev CurMoves : UsedMove → Type 0
  CurMoves = IsMoved cur.entries from to items

  abbrev Used : PageMove → Type 0
  Used = IsUsed (mappings_of old) from to items

  abbrev IsLost : ℕ → Type 0
  IsLost key = Goes CurMoves cur.entries key

  still : (m : UsedMove) → KeyMoves m → CurMoves m
  still = moved_still old.entries cur.entries from to items room.marked.marks.alike

  was : (m : UsedMove) → CurMoves m → KeyMoves m
  was = moved_alike old.entries cur.entries from to items room.marked.marks.alike

  -- what became of an entry
  record Became (key : ℕ) (e : Entry) : Type 0 where
    entry : Entry
    now : Standing
    before : Standing
    at : entry_at cur.entries key ≡ Some entry
    place_is : entry.place ≡ e.place
    stands : entry.stands ≡ Some now
    stood : e.stands ≡ Some before
    unwanted : e.wanted ≡ false
    not_granted : before.granted ≡ None
    is : now ≡ record before { source = now.source }

  became : (key : ℕ) (e : Entry) → entry_at old.entries key ≡ Some e → Became key e
  became key e at =
      let p = clean key e at in
      let o = stand_of cur.entries key e.place (plain p.standing) (room.marked.marks.alike key ∙ stands_as old.entries key e p.standing at p.stands) in
      record {
        entry = o.entry;
        now = o.standing;
        before = p.standing;
        at = o.at;
        place_is = o.place_is;
        stands = o.stands;
        stood = p.stands;
        unwanted = p.unwanted;
        not_granted = p.not_granted;
        is = marked_is o.standing p.standing o.plain_is (room.marked.marks.not_granted key o.standing (ap (option_and_then (λ (x : Entry). x.stands)) o.at ∙ o.stands)) p.not_granted;
      }

  -- the page of a used move's target goes
  target_lost : (m : UsedMove) → KeyMoves m → (key : ℕ) → IsAt cur.entries m.target key → IsLost key
  target_lost m used key at = record { move = m; used = still m used; top = key; at = at; below = inl refl }

  -- what is wanted is the target of a used move
  wanted_target : (key : ℕ) (e : Entry) → entry_at cur.entries key ≡ Some e → e.wanted ≡ true → (m : UsedMove) × KeyMoves m × (m.target ≡ e.place)
  wanted_target key e at wanted = room.marked.marks.targets key e at (inl wanted)

  pub gone_of : (key : ℕ) (e : Entry) → entry_at old.entries key ≡ Some e → IsLost key → IsGone Used (mappings_of old) (map_place e.place)
  gone_of key e at g =
      let b = became key e at in
      let m = was g.move g.used in
      let stands : IsStanding cur.entries g.top = grind (arith, inl, Option, None, Some, sym, ap, option_and_then, inr, leads_stands) in
      let top = alike_at old.entries cur.entries room.marked.marks.alike g.move.target g.top g.at stands in
      record {
        move = page_move old have trees from to items g.move m;
        used = used_of old have trees from to items g.move m;
        present = key_present old have trees from to items g.move.target g.top top.0 top.1;
        below = above_place old have trees from to items key g.top (map_place e.place) (map_place g.move.target) (is_at old.entries key e e.place at refl) top.0
            (elim g.below [ inl same ↦ inl same | inr d ↦ inr (alike_descends old.entries cur.entries room.marked.marks.alike key g.top d) ]);
      }

  pub lost_of : (key : ℕ) (e : Entry) → entry_at old.entries key ≡ Some e → IsGone Used (mappings_of old) (map_place e.place) → IsLost key
  lost_of key e at g =
      let k = key_of old have trees from to items g.move g.used in
      let p = present_key old have trees from to items g.move.target g.present in
      let top = alike_at cur.entries old.entries (opposite old.entries cur.entries room.marked.marks.alike) (link_place g.move.target) p.key p.at p.stands in
      record {
        move = k.move;
        used = still k.move k.moves;
        top = p.key;
        at = subst (λ (q : LinkPlace). IsAt cur.entries q p.key) (sym k.target) top.0;
        below = elim (above_key old have trees from to items key p.key (map_place e.place) g.move.target (is_at old.entries key e e.place at refl) p.at g.below) [
          | inl same ↦ inl same
          | inr d ↦ inr (alike_descends cur.entries old.entries (opposite old.entries cur.entries room.marked.marks.alike) key p.key d)
        ];
      }

  module _ (new : Linked) (spaces : new.spaces ≡ old.spaces) (clears : (key : ℕ) → IsClearedAt (Goes CurMoves cur.entries key) (entry_at cur.entries key) (entry_at new.entries key)) where
    kept : (key : ℕ) → ¬ (IsLost key) → entry_at new.entries key ≡ entry_at cur.entries key
    kept key out = elim (clears key) [ inl g ↦ absurd (out g.0) | inr k ↦ k.1 ]

    -- what doesn't go isn't wanted
    unwanted_kept : (key : ℕ) (e : Entry) → entry_at cur.entries key ≡ Some e → ¬ (IsLost key) → e.wanted ≡ false
    unwanted_kept key e at out = by_bool e.wanted
        (λ wanted.
        let t = wanted_target key e at wanted in
        absurd (out (target_lost t.0 t.1 key (is_at cur.entries key e t.0.target at (sym t.2)))))
        (λ unwanted. unwanted)

    blank_left : (u : PageMove) → Used u → (key : ℕ) × (entry_at new.entries key ≡ Some (blank_for old from to items u))
    blank_left u used =
        let k = key_of old have trees from to items u used in
        let w = room.targets k.move k.moves in
        let lost = target_lost k.move k.moves w.key (is_at cur.entries w.key w.entry k.move.target w.at w.place_is) in
        let cut : entry_at new.entries w.key ≡ cut_off (entry_at cur.entries w.key) = elim (clears w.key) [ inl g ↦ g.1 | inr out ↦ absurd (out.0 lost) ] in
        (w.key, cut ∙ ap cut_off w.at ∙ wanted_cut w.entry w.wanted ∙ ap (λ (p : LinkPlace). Some (record { place = p; wanted = true; stands = None })) (w.place_is ∙ k.target))

    stays : (key : ℕ) (e : Entry) (t : Standing) → entry_at old.entries key ≡ Some e → e.stands ≡ Some t → ¬ (IsGone Used (mappings_of old) (map_place e.place)) → IsLeftAt old from to items new key e t
    stays key e t at stands not_gone =
        let b = became key e at in
        let stay : ¬ (IsLost key) = λ lost. not_gone (gone_of key e at lost) in
        let unwanted = unwanted_kept key b.entry b.at stay in
        let before : b.before ≡ t = same_value (sym b.stood ∙ stands) in
        let now_is : b.now ≡ record t { source = b.now.source } = b.is ∙ (λ i. record (before i) { source = b.now.source }) in
        let now_at : standing_at cur.entries key ≡ Some b.now = ap (option_and_then (λ (x : Entry). x.stands)) b.at ∙ b.stands in
        record {
          marked = b.now.source;
          at = kept key stay ∙ b.at ∙ (λ i. Some (record { place = b.place_is i; wanted = (unwanted ∙ sym b.unwanted) i; stands = (b.stands ∙ ap (λ (x : Standing). Some x) now_is) i }));
          source = λ u used place.
              let k = key_of old have trees from to items u used in
              let same : k.move.source ≡ key =
              have.once (link_place u.source) k.move.source key (subst (λ (p : Place). IsAt old.entries (link_place p) k.move.source) (source_is old have trees from to items u k) (move_at old.entries from to items k.move k.moves))
              (is_at old.entries key e (link_place u.source) at (sym place)) in
              let s = source_of cur.entries k.move.source (room.marked.sources k.move k.moves) in
              ap (λ (x : Standing). x.source) (same_value (sym now_at ∙ ap (standing_at cur.entries) (sym same) ∙ s.1)) ∙ s.2;
          plain = λ none. by_bool b.now.source
              (λ source.
              let m = room.marked.marks.sources key (ap (option_map (λ (x : Standing). x.source)) now_at ∙ ap (λ (v : Bool). Some v) source) in
              let o = stand_of old.entries m.0.source (record { space = from; page = m.0.page }) m.1.standing m.1.stands in
              let one : o.entry ≡ e = same_value (sym o.at ∙ ap (entry_at old.entries) m.2 ∙ at) in
              absurd (none (page_move old have trees from to items m.0 m.1) (used_of old have trees from to items m.0 m.1) (sym o.place_is ∙ ap (λ (x : Entry). x.place) one)))
              (λ unmarked. unmarked);
        }

    target_is : (e f : Entry) (key : ℕ) → entry_at cur.entries key ≡ Some f → IsWaiting f → f.place ≡ e.place → IsTarget old from to items e.place
    target_is e f key at waits place =
        let t = room.marked.marks.targets key f at waits in
        record { move = page_move old have trees from to items t.0 t.1; used = used_of old have trees from to items t.0 t.1; target = t.2 ∙ place }

    -- what has a key then is a target, or was there and has not gone
    abbrev IsLeft : ℕ → Entry → Type 0
    IsLeft key e = IsTarget old from to items e.place ⊎ ((before : Entry) × (entry_at old.entries key ≡ Some before) × (before.place ≡ e.place) × ¬ (IsGone Used (mappings_of old) (map_place e.place)))

    only_left : (key : ℕ) (e : Entry) → entry_at new.entries key ≡ Some e → IsLeft key e
    only_left key e at = elim (clears key) [
      | inl g ↦ elim (entry_at cur.entries key) as (λ (o : Option Entry). entry_at cur.entries key ≡ o → cut_off o ≡ Some e → IsLeft key e) [
        | None ↦ λ _ is. absurd (let k : ◌≡◌ {A = Option Entry} None (Some e) = is in cc)
        | Some f ↦ λ here is. by_bool f.wanted
            (λ wanted. inl (target_is e f key here (inl wanted) (ap (λ (x : Entry). x.place) (same_value (sym (wanted_cut f wanted) ∙ is)))))
            (λ unwanted. absurd (let k : ◌≡◌ {A = Option Entry} None (Some e) = sym (unwanted_cut f unwanted) ∙ is in cc))
      ] refl (sym g.1 ∙ at)
      | inr k ↦ elim (entry_at old.entries key) as (λ (o : Option Entry). entry_at old.entries key ≡ o → IsLeft key e) [
        | None ↦ λ none.
            let here : entry_at cur.entries key ≡ Some e = sym k.1 ∙ at in
            let bare : e.stands ≡ None = stand_none cur.entries key e here (room.marked.marks.alike key ∙ ap (option_and_then (λ (x : Entry). option_map (with_place x.place) x.stands)) none) in
            inl (target_is e e key here (inr bare) refl)
        | Some before ↦ λ was.
            let b = became key before was in
            let place : before.place ≡ e.place = sym b.place_is ∙ ap (λ (x : Entry). x.place) (same_value (sym b.at ∙ sym k.1 ∙ at)) in
            inr (before, was, place, λ gone. k.0 (lost_of key before was (subst (λ (q : LinkPlace). IsGone Used (mappings_of old) (map_place q)) (sym place) gone)))
      ] refl
    ]

    none_before : (m : PageMove) → ¬ (IsBefore old from to items 0 0 m)
    none_before m (earlier lt) = absurd (omega (arith, lt))
    none_before m (same_item is lt) = absurd (omega (arith, lt))

    not_yet : (m : PageMove) → ¬ (IsDone old from to items false 0 0 m)
    not_yet m (inl n) = let z : false ≡ true = n.0 in cc
    not_yet m (inr d) = none_before m d.1

    -- none of the moves is done
    pub begun : Placed old from to items (IsDone old from to items false 0 0) new
    begun = record {
      spaces = spaces;
      blank = λ move used _. blank_left move used;
      mapped = λ move used done map. absurd (not_yet move done);
      granted = λ move by used done grant. absurd (not_yet move done);
      kept = λ key e t at stands not_gone _. stays key e t at stands not_gone;
      only = only_left;
    }

-- why a message isn't delivered where its used moves do not conflict, by keys and by places
pub lacks_place : (old : Linked) (have : HavePlaces old) (trees : AreTrees old.entries) (from to : ℕ) (items : List ItemMove) → ¬ (HasTangle (IsMoved old.entries from to items) old.entries)
    → (m : UsedMove) × IsMoved old.entries from to items m × ((key : ℕ) → ¬ (IsAt old.entries m.target key)) → HasCause (IsUsed (mappings_of old) from to items) (mappings_of old) NoMemory
lacks_place old have trees from to items free lacks = (
  λ e. free (entangled_keys old have trees from to items e),
  record {
    move = page_move old have trees from to items lacks.0 lacks.1;
    used = used_of old have trees from to items lacks.0 lacks.1;
    absent = λ present. let p = present_key old have trees from to items (map_place lacks.0.target) present in lacks.2 p.key p.at;
  },
)
