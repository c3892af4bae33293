-- Targets are cleared one after another.
use Rattle.std.proofs.Common.{◌≡◌, ◌≢◌, ℕ, ◌+◌, ◌<◌, Bool, true, false, if◌then◌else◌, List, Option, Some, None, option_and_then, option_map, refl, sym, ap, ◌∙◌, subst, inl, inr, ◌⊎◌, arith}
use Rattle.std.proofs.lemmas.Bool.{cases_lt}
use Rattle.l4_nodes.specs.declared.Place.{Place as LinkPlace}
use Rattle.l4_links.specs.declared.Standing.{Standing}
use Rattle.l4_links.specs.declared.Entry.{Entry}
use Rattle.l4_links.specs.Leads.{Leads, step, steps}
use Rattle.l4_links.specs.Entries.{Entries, Linked, entry_at, standing_at, parent_of, HavePlaces, AreTrees, HaveRights, IsAt, Descends, cut_off, Clears}
use Rattle.l4_msg.specs.declared.items.ItemMove.{ItemMove}
use Rattle.l4_mapdb.specs.declared.sources.UsedMove.{UsedMove}
use Rattle.l4_mapdb.specs.Inside.Messages.{stand_at, IsMoved, turn, turn_of, IsNextMove, IsWanted, Before, Goes, IsClearedAt}
use Rattle.l4_mapdb.proofs.Leading.{leads_on, leads_within}
use Rattle.l4_mapdb.proofs.Moves.{is_at}
use Rattle.l4_mapdb.proofs.View.{some_parent}
use Rattle.l4_mapdb.proofs.Marking.{by_key, stand_in, moved_by_key, same_move}
use Rattle.l4_mapdb.proofs.Tangling.{no_leads}

abbrev stood : Option Entry → Option Standing
stood o = option_and_then (λ (e : Entry). e.stands) o

-- nothing stands where it was cut off
cut_stands : (o : Option Entry) → stood (cut_off o) ≡ None
cut_stands None = refl
cut_stands (Some e) = elim e.wanted as (λ (b : Bool). stood (if b then Some (record e { stands = None }) else None) ≡ None) [ true ↦ refl | false ↦ refl ]

no_stand : (o : Option Entry) → stood o ≡ None → stand_in o ≡ None
no_stand None h = refl
no_stand (Some e) h = ap (option_map (λ (t : Standing). (let p : LinkPlace × Standing = (e.place, record t { source = false; granted = None }) in p))) h

-- what was cut off and then cleared is cut off
cut_cleared : (o : Option Entry) → option_map {T = Entry} (λ e. record e { stands = None }) (cut_off o) ≡ cut_off o
cut_cleared None = refl
cut_cleared (Some e) =
    elim e.wanted as (λ (b : Bool). option_map {T = Entry} (λ x. record x { stands = None }) (if b then Some (record e { stands = None }) else None) ≡ (if b then Some (record e { stands = None }) else None)) [ true ↦ refl | false ↦ refl ]

-- what is wanted and cleared is cut off
wanted_cleared : (o : Option Entry) (e : Entry) → o ≡ Some e → e.wanted ≡ true → option_map {T = Entry} (λ x. record x { stands = None }) o ≡ cut_off o
wanted_cleared o e at wanted =
    ap (option_map {T = Entry} (λ x. record x { stands = None })) at ∙ ap (λ (b : Bool). if b then Some (record e { stands = None }) else None) (sym wanted) ∙ ap cut_off (sym at)

cut_place : (o : Option Entry) (place : LinkPlace) → option_map {T = Entry} (λ e. e.place) (cut_off o) ≡ Some place → option_map {T = Entry} (λ e. e.place) o ≡ Some place
cut_place None place h = h
cut_place (Some e) place h = elim e.wanted as (λ (b : Bool). option_map {T = Entry} (λ x. x.place) (if b then Some (record e { stands = None }) else None) ≡ Some place → Some e.place ≡ Some place) [
  | true ↦ λ is. is
  | false ↦ λ is. absurd (let k : ◌≡◌ {A = Option LinkPlace} None (Some place) = is in cc)
] h

module _ (old : Linked) (have : HavePlaces old) (trees : AreTrees old.entries) (from to : ℕ) (items : List ItemMove) where
  abbrev Used : UsedMove → Type 0
  Used = IsMoved old.entries from to items

  abbrev pub SoFar : Entries → ℕ → Type 0
  SoFar cur next = (key : ℕ) → IsClearedAt (Goes (Before Used next) old.entries key) (entry_at old.entries key) (entry_at cur key)

  wider : (next : ℕ) (key : ℕ) → Goes (Before Used next) old.entries key → Goes Used old.entries key
  wider next key g = record { move = g.move; used = g.used.0; top = g.top; at = g.at; below = g.below }

  pub so_far_first : SoFar old.entries 0
  so_far_first key = inr ((λ g. let lt = g.used.1 in absurd (omega (arith, lt))), refl)

  module _ (wanted : (m : UsedMove) → Used m → IsWanted old.entries m.target) (stay : (m : UsedMove) → Used m → ¬ (Goes Used old.entries m.source)) where
    -- the used moves stay the same
    pub cleared_still : (cur : Entries) (next : ℕ) → SoFar cur next → (m : UsedMove) → Used m → IsMoved cur from to items m
    cleared_still cur next so_far m used = elim (so_far m.source) [
      | inl g ↦ absurd (stay m used (wider next m.source g.0))
      | inr k ↦ moved_by_key cur old.entries from to items m (sym (ap stand_in k.1)) used
    ]

    pub cleared_was : (cur : Entries) (next : ℕ) → SoFar cur next → (m : UsedMove) → IsMoved cur from to items m → Used m
    cleared_was cur next so_far m used = elim (so_far m.source) [
      | inl g ↦
          let none : stand_at cur m.source ≡ None = ap stand_in g.1 ∙ no_stand (cut_off (entry_at old.entries m.source)) (cut_stands (entry_at old.entries m.source)) in
          absurd (let k : ◌≡◌ {A = Option (LinkPlace × Standing)} None (Some (record { space = from; page = m.page }, used.standing)) = sym none ∙ used.stands in cc)
      | inr k ↦ moved_by_key old.entries cur from to items m (ap stand_in k.1) used
    ]

    pub cleared_at : (cur : Entries) (next : ℕ) → SoFar cur next → (place : LinkPlace) (key : ℕ) → IsAt cur place key → IsAt old.entries place key
    cleared_at cur next so_far place key at = elim (so_far key) [
      | inl g ↦ cut_place (entry_at old.entries key) place (ap (option_map {T = Entry} (λ e. e.place)) (sym g.1) ∙ at)
      | inr k ↦ ap (option_map {T = Entry} (λ e. e.place)) (sym k.1) ∙ at
    ]

    -- a wanted page keeps its key
    pub cleared_keeps : (cur : Entries) (next : ℕ) → SoFar cur next → (m : UsedMove) → Used m → (key : ℕ) × IsAt cur m.target key
    cleared_keeps cur next so_far m used =
        let w = wanted m used in (
          w.key,
          elim (so_far w.key) [
            | inl g ↦
                let left : entry_at cur w.key ≡ Some (record w.entry { stands = None }) =
                g.1 ∙ ap cut_off w.at ∙ ap (λ (b : Bool). if b then Some (record w.entry { stands = None }) else None) w.wanted in
                is_at cur w.key (record w.entry { stands = None }) m.target left w.place_is
            | inr k ↦ is_at cur w.key w.entry m.target (k.1 ∙ w.at) w.place_is
          ],
        )

    cleared_standing : (cur : Entries) (next : ℕ) → SoFar cur next → (key : ℕ) (t : Standing) → standing_at cur key ≡ Some t → standing_at old.entries key ≡ Some t
    cleared_standing cur next so_far key t stands = elim (so_far key) [
      | inl g ↦ absurd (let k : ◌≡◌ {A = Option Standing} None (Some t) = sym (ap stood g.1 ∙ cut_stands (entry_at old.entries key)) ∙ stands in cc)
      | inr k ↦ sym (ap stood k.1) ∙ stands
    ]

    pub cleared_rights : (cur : Entries) (next : ℕ) → SoFar cur next → HaveRights old.entries → HaveRights cur
    cleared_rights cur next so_far rights key t stands = rights key t (cleared_standing cur next so_far key t stands)

    cleared_parent : (cur : Entries) (next : ℕ) → SoFar cur next → (k p : ℕ) → parent_of cur k ≡ Some p → parent_of old.entries k ≡ Some p
    cleared_parent cur next so_far k p is =
        let t = some_parent cur k p is in
        ap (option_and_then (λ (x : Standing). x.parent)) (cleared_standing cur next so_far k t.0 t.1) ∙ t.2

    cleared_descends : (cur : Entries) (next : ℕ) → SoFar cur next → (low high : ℕ) → Descends cur low high → Descends old.entries low high
    cleared_descends cur next so_far low high d = leads_within (parent_of cur) (parent_of old.entries) (cleared_parent cur next so_far) d

    goes_below : (next low high : ℕ) → Descends old.entries low high → Goes (Before Used next) old.entries high → Goes (Before Used next) old.entries low
    goes_below next low high d g = record {
      move = g.move;
      used = g.used;
      top = g.top;
      at = g.at;
      below = inr (elim g.below [ inl e ↦ subst (λ (x : ℕ). Descends old.entries low x) e d | inr more ↦ leads_on (parent_of old.entries) d more ]);
    }

    -- what has not gone descends still from what it descended from
    still_leads : (cur : Entries) (next : ℕ) → SoFar cur next → {low high : ℕ} → Leads (parent_of old.entries) low high → ¬ (Goes (Before Used next) old.entries low) → Leads (parent_of cur) low high
    still_leads cur next so_far {low} (step is) out = elim (so_far low) [
      | inl g ↦ absurd (out g.0)
      | inr k ↦ step (ap (λ (o : Option Entry). option_and_then (λ (t : Standing). t.parent) (stood o)) k.1 ∙ is)
    ]
    still_leads cur next so_far {low} (steps {middle = middle} is rest) out = elim (so_far low) [
      | inl g ↦ absurd (out g.0)
      | inr k ↦ steps (ap (λ (o : Option Entry). option_and_then (λ (t : Standing). t.parent) (stood o)) k.1 ∙ is)
          (still_leads cur next so_far rest (λ g. out (goes_below next low middle (step is) g)))
    ]

    -- a used move before the next turn is before this one, or the one of this turn
    turn_cases : (cur : Entries) (start : ℕ) (u : UsedMove) → SoFar cur start → IsNextMove cur from to items start u → (m : UsedMove) → Used m → turn_of m < turn u.item (u.page + 1) → (turn_of m < start) ⊎ (u ≡ m)
    turn_cases cur start u so_far is m used lt = elim (cases_lt (turn_of m) start) [
      | inl less ↦ inl less
      | inr ge ↦
          let first = is.first m (cleared_still cur start so_far m used) ge in
          let e : turn_of u ≡ turn_of m = omega (arith, first, lt) in
          inr (same_move old have from to items u m (cleared_was cur start so_far u is.moved) used e)
    ]

    module _ (cur new : Entries) (start top : ℕ) (u : UsedMove) (so_far : SoFar cur start) (is : IsNextMove cur from to items start u) (at : IsAt cur u.target top) (clears : Clears top cur new) where
      abbrev later : ℕ
      later = turn u.item (u.page + 1)

      u_used : Used u
      u_used = cleared_was cur start so_far u is.moved

      u_before : Before Used later u
      u_before = (u_used, omega arith)

      u_at : IsAt old.entries u.target top
      u_at = cleared_at cur start so_far u.target top at

      more_before : (key : ℕ) → Goes (Before Used start) old.entries key → Goes (Before Used later) old.entries key
      more_before key g =
          let lt = g.used.1 in
          let after = is.after in
          record { move = g.move; used = (g.used.0, omega (arith, lt, after)); top = g.top; at = g.at; below = g.below }

      -- where nothing stands nothing descends
      gone_before : (key : ℕ) → Goes (Before Used start) old.entries key → entry_at cur key ≡ cut_off (entry_at old.entries key) → entry_at new key ≡ cut_off (entry_at old.entries key)
      gone_before key g cut = by_key key top
          (λ e. subst (λ (k : ℕ). entry_at new k ≡ cut_off (entry_at old.entries k)) (sym e)
          (clears.here ∙ ap (option_map {T = Entry} (λ x. record x { stands = None })) (subst (λ (k : ℕ). entry_at cur k ≡ cut_off (entry_at old.entries k)) e cut) ∙ cut_cleared (entry_at old.entries top)))
          (λ ne.
          let none : parent_of cur key ≡ None = ap (option_and_then (λ (t : Standing). t.parent)) (ap stood cut ∙ cut_stands (entry_at old.entries key)) in
          clears.kept key ne (λ d. no_leads (parent_of cur) none d) ∙ cut)

      top_goes : entry_at cur top ≡ entry_at old.entries top → entry_at new top ≡ cut_off (entry_at old.entries top)
      top_goes same =
          let w = wanted u u_used in
          let key : w.key ≡ top = have.once u.target w.key top (is_at old.entries w.key w.entry u.target w.at w.place_is) u_at in
          clears.here ∙ ap (option_map {T = Entry} (λ x. record x { stands = None })) same
          ∙ wanted_cleared (entry_at old.entries top) w.entry (subst (λ (k : ℕ). entry_at old.entries k ≡ Some w.entry) key w.at) w.wanted

      not_later : (key : ℕ) → ¬ (Goes (Before Used start) old.entries key) → key ≢ top → ¬ (Descends old.entries key top) → ¬ (Goes (Before Used later) old.entries key)
      not_later key out ne apart g = elim (turn_cases cur start u so_far is g.move g.used.0 g.used.1) [
        | inl less ↦ out (record { move = g.move; used = (g.used.0, less); top = g.top; at = g.at; below = g.below })
        | inr same ↦
            let one : g.top ≡ top = have.once u.target g.top top (subst (λ (m : UsedMove). IsAt old.entries m.target g.top) (sym same) g.at) u_at in
            elim g.below [
              | inl e ↦ ne (e ∙ one)
              | inr d ↦ apart (subst (λ (k : ℕ). Descends old.entries key k) one d)
            ]
      ]

      pub so_far_more : SoFar new later
      so_far_more key = elim (so_far key) [
        | inl g ↦ inl (more_before key g.0, gone_before key g.0 g.1)
        | inr k ↦ by_key key top
            (λ e. inl (
              record { move = u; used = u_before; top = top; at = u_at; below = inl e },
              subst (λ (x : ℕ). entry_at new x ≡ cut_off (entry_at old.entries x)) (sym e) (top_goes (subst (λ (x : ℕ). entry_at cur x ≡ entry_at old.entries x) e k.1)),
            ))
            (λ ne. elim (trees.decided key top) [
              | inl d ↦ inl (
                record { move = u; used = u_before; top = top; at = u_at; below = inr d },
                clears.gone key (still_leads cur start so_far d k.0) ∙ ap cut_off k.1,
              )
              | inr apart ↦ inr (not_later key k.0 ne apart, clears.kept key ne (λ d. apart (cleared_descends cur start so_far key top d)) ∙ k.1)
            ])
      ]

    -- all used moves were passed
    pub so_far_all : (cur : Entries) (start : ℕ) → SoFar cur start → ((m : UsedMove) → IsMoved cur from to items m → turn_of m < start) → (key : ℕ)
        → IsClearedAt (Goes Used old.entries key) (entry_at old.entries key) (entry_at cur key)
    so_far_all cur start so_far all key = elim (so_far key) [
      | inl g ↦ inl (wider start key g.0, g.1)
      | inr k ↦ inr ((λ g. k.0 (record { move = g.move; used = (g.used, all g.move (cleared_still cur start so_far g.move g.used)); top = g.top; at = g.at; below = g.below })), k.1)
    ]
