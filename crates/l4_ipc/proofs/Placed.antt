-- The effect of a delegation, place by place: what the moves of a region do to mappings that are a forest.
use Rattle.std.proofs.Common.{◌≡◌, ℕ, ◌⊎◌, false, List, [], ◌∷◌, Some, IsTrue, refl, sym, ap, ◌∙◌, subst, inl, inr}
use Rattle.std.specs.List.{All}
use Rattle.std.proofs.lemmas.Bool.{false≢true}
use Rattle.std.proofs.lemmas.List.Elements.{All-nil, All-cons}
use Rattle.l4_fpage.specs.Rights.{common, no_rights}
use Rattle.l4_msg.specs.Moves.{RegionMoves}
use Rattle.l4_msg.specs.Regions.{part_of_region}
use Rattle.l4_msg.specs.declared.regions.Region.{Region}
use Rattle.l4_mapdb.specs.declared.Place.{Place}
use Rattle.l4_mapdb.specs.declared.Mapping.{Mapping}
use Rattle.l4_mapdb.specs.Mappings.{Mappings, shown, IsPresent, IsOrDescends, IsForest}
use Rattle.l4_mapdb.specs.Losing.{IsLeft}
use Rattle.l4_mapdb.specs.Transfer.{PageMove, IsGone, Becomes, IsCut}
use Rattle.l4_mapdb.proofs.Filled.{BecomesBy, by_kind}
use Rattle.l4_mapdb.proofs.Unique.{same_rights}
use Rattle.l4_ipc.specs.Moving.{IsUsedMove}
use Rattle.l4_ipc.specs.Delegation.{Delegates}
use Rattle.l4_ipc.specs.Events.{Event, Follow}
use Rattle.l4_ipc.specs.Machine.{Machine}
use Rattle.l4_ipc.specs.Placed.{source_at, target_at, IsHandedOn, IsNewPlace, IsReplaced, IsPlaced, PlacesDelegations}
use Rattle.l4_ipc.proofs.Delegating.{delivers_delegations, not_granted, parent_kept, parent_same}
use Rattle.l4_ipc.proofs.Tracing.{AreForests}

module _ (old new : Mappings) (from to : ℕ) (r : Region) (forest : IsForest old) (does : Delegates old from to r new) where
  abbrev Used : PageMove → Type 0
  Used = IsUsedMove old from to (RegionMoves r) false r.rights

  maps : (move : PageMove) → Used move → ¬ (IsTrue move.grant)
  maps move a h = false≢true (sym a.grant_is ∙ h)

  same_place : (p : Place) (space page : ℕ) → p.space ≡ space → p.page ≡ page → p ≡ record { space = space; page = page }
  same_place p space page s g = λ i. record { space = s i; page = g i }

  same_mapping : (a b : Mapping) → a.frame ≡ b.frame → a.rights ≡ b.rights → a.parent ≡ b.parent → a ≡ b
  same_mapping a b f r p = λ i. record { frame = f i; rights = r i; parent = p i }

  source_of : (u : PageMove) (a : Used u) → u.source ≡ source_at from r a.pages.index
  source_of u a = same_place u.source from _ a.from_space a.pages.source_is

  target_of : (u : PageMove) (a : Used u) → u.target ≡ target_at to r a.pages.index
  target_of u a = same_place u.target to _ a.to_space a.pages.target_is

  handed_on : (u : PageMove) (a : Used u) → IsHandedOn old from r a.pages.index u.shows
  handed_on u a = record { within = a.pages.within; at = ap (shown old) (sym (source_of u a)) ∙ a.present; some_right = λ none. a.some_right (a.rights_are ∙ none) }

  abbrev move_at : ℕ → Mapping → PageMove
  move_at index shows = record { item = 0; source = source_at from r index; target = target_at to r index; grant = false; shows = shows; rights = common shows.rights r.rights }

  used_at : (index : ℕ) (shows : Mapping) → IsHandedOn old from r index shows → Used (move_at index shows)
  used_at index shows h = record {
    from_space = refl;
    to_space = refl;
    pages = record { index = index; within = h.within; source_is = refl; target_is = refl };
    grant_is = refl;
    present = h.at;
    rights_are = refl;
    some_right = h.some_right;
  }

  gone_replaced : (place : Place) → IsGone Used old place → IsReplaced old from to r place
  gone_replaced place g = record {
    index = g.used.pages.index;
    shows = g.move.shows;
    handed_on = handed_on g.move g.used;
    present = subst (IsPresent old) (target_of g.move g.used) g.present;
    below = subst (IsOrDescends old place) (target_of g.move g.used) g.below;
  }

  replaced_gone : (place : Place) → IsReplaced old from to r place → IsGone Used old place
  replaced_gone place x = record { move = move_at x.index x.shows; used = used_at x.index x.shows x.handed_on; present = x.present; below = x.below }

  abbrev Then : Place → Mapping → Type 0
  Then place m = IsNewPlace old from to r place m ⊎ ((shown old place ≡ Some m) × ¬ (IsReplaced old from to r place))

  then_by : (place : Place) (m : Mapping) → BecomesBy Used old place m → Then place m
  then_by place m (inl v) = inl (record {
    index = v.used.pages.index;
    shows = v.move.shows;
    handed_on = handed_on v.move v.used;
    place_is = sym v.target ∙ target_of v.move v.used;
    frame = v.frame;
    rights = v.rights ∙ v.used.rights_are;
    parent = v.parent ∙ ap (λ (p : Place). Some p) (source_of v.move v.used);
  })
  then_by place m (inr (inl v)) = absurd (maps v.move v.used v.grant)
  then_by place m (inr (inr v)) =
      let same : m ≡ v.before = same_mapping m v.before v.frame v.rights (parent_kept Used maps v.before.parent m.parent v.parent) in
      inr (v.at ∙ ap (λ (x : Mapping). Some x) (sym same), λ x. v.not_gone (replaced_gone place x))

  then_becomes : (place : Place) (m : Mapping) → Then place m → Becomes Used old place m
  then_becomes place m (inl n) = inl (record {
    move = move_at n.index n.shows;
    used = used_at n.index n.shows n.handed_on;
    target = sym n.place_is;
    frame = n.frame;
    rights = n.rights;
    parent = inl (λ g. false≢true g, n.parent);
  })
  then_becomes place m (inr k) = inr (record {
    before = m;
    at = k.0;
    not_gone = λ g. k.1 (gone_replaced place g);
    not_granted = not_granted Used maps place;
    frame = refl;
    rights = refl;
    parent = parent_same Used maps m.parent;
  })

  some_right_then : (place : Place) (m : Mapping) → Then place m → ¬ (m.rights ≡ no_rights)
  some_right_then place m (inl n) none = n.handed_on.some_right (sym n.rights ∙ none)
  some_right_then place m (inr k) none = forest.some_right place m k.0 none

  all_left : (place : Place) (before m : Mapping) → IsLeft (IsCut Used does.middle place) before m → m ≡ before
  all_left place before m left =
      same_mapping m before left.frame
      (same_rights m.rights before.rights (λ k. (λ h. ((left.rights k).0 h).0, λ h. (left.rights k).1 (h, λ cut. maps cut.move cut.used cut.grant))))
      left.parent

  -- the moves of a region do so
  pub is_placed : IsPlaced old from to r new
  is_placed = record {
    spaces = does.cut.spaces ∙ does.moved.spaces;
    places = λ place m. (
      λ at.
          (let cut = (does.cut.places place m).0 at in
          let same : m ≡ cut.0 = all_left place cut.0 m cut.2 in
          then_by place m (by_kind ((does.moved.places place m).0 (cut.1 ∙ ap (λ (x : Mapping). Some x) (sym same))))),
      λ then.
          (does.cut.places place m).1 (
            m,
            (does.moved.places place m).1 (then_becomes place m then),
            record { frame = refl; parent = refl; rights = λ k. (λ h. (h, λ cut. maps cut.move cut.used cut.grant), λ h. h.0); some_right = some_right_then place m then },
          ),
    );
  }

-- each event of a run places its delegations
pub all_placed : (events : List Event) (old new : Machine) → Follow old events new → AreForests events → All PlacesDelegations events
all_placed [] old new f forests = All-nil PlacesDelegations
all_placed (event ∷ events) old new f forests =
    All-cons PlacesDelegations event events
    (λ r items pages number sender receiver sends takes d. is_placed event.before.mappings event.after.mappings sender.space receiver.space (part_of_region r pages number) forests.0
    (delivers_delegations event f.1 r items pages number sender receiver sends takes d).effect)
    (all_placed events event.after new f.2 forests.2)
