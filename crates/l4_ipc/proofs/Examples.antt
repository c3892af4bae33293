-- Small cases of the definitions over runs: of each main one, one that it holds of, and one that it doesn't.
use Rattle.std.proofs.Common.{◌≡◌, ℕ, zero, suc, ◌<◌, ◌≤◌, true, false, cond, List, [], ◌∷◌, Option, Some, None, Ok, Err, IsTrue, is_some, refl, sym, ap, ◌∙◌, subst, inl, inr, ◌⊎◌, option_and_then, slice_get, slice_index, slice_index_or, lit≤, lit<, arith}
use Rattle.std.specs.Ordering.{eq_by_cmp, is_eq}
use Rattle.std.specs.declared.cmp.Ordering.{Ordering}
use Rattle.std.specs.declared.cmp.Ordering.TheVariants.{Less, Equal, Greater}
use Rattle.std.specs.Cmp.{nat_cmp_total}
use Rattle.std.specs.FinMap as map
use Rattle.std.specs.FinSet as set
use Rattle.std.specs.List.{All, HoldsAt}
use Rattle.std.specs.Option.{option_map, option_map_or}
use Rattle.std.proofs.lemmas.List.Elements.{All-nil, All-cons}
use Rattle.std.proofs.lemmas.Option.{slice_get_within}
use Rattle.std.proofs.lemmas.Bool.{false≢true}
use Rattle.l4_fpage.specs.Rights.{RightsSet, Right, Read, Write, Execute, Within, has, all_rights, no_rights, common}
use Rattle.l4_fpage.specs.Fpages.{rights_of, ReadsAs}
use Rattle.l4_fpage.specs.declared.fpages.Fpage.{Fpage}
use Rattle.l4_fpage.specs.declared.fpages.Fpage.TheVariants.{Nil, Sized, Complete}
use Rattle.l4_msg.specs.Moves.{fpage_of, is_grant, IsMap, ItemMoves, RegionMoves, complete}
use Rattle.l4_msg.specs.declared.items.Item.{Item}
use Rattle.l4_msg.specs.declared.items.Item.TheVariants.{Map}
use Rattle.l4_msg.specs.declared.regions.Region.{Region}
use Rattle.l4_mapdb.specs.declared.Place.{Place}
use Rattle.l4_mapdb.specs.declared.Mapping.{Mapping}
use Rattle.l4_mapdb.specs.Mappings.{place_cmp, Mappings, shown, parent_of, Chain, child, further, Descends, IsPresent, rights_at}
use Rattle.l4_mapdb.specs.Losing.{LosesRights}
use Rattle.l4_mapdb.specs.Transfer.{PageMove, IsEntangled, Becomes, Moved, IsCut, Transfers}
use Rattle.l4_mapdb.proofs.Filled.{BecomesBy, by_kind}
use Rattle.l4_mapdb.proofs.Unique.{same_rights}
use Rattle.l4_mapdb.proofs.Places.{places_total, exact_places}
use Rattle.l4_unmap.specs.Unmap.{with_own}
use Rattle.l4_threads.specs.declared.Thread.{Thread}
use Rattle.l4_threads.specs.declared.Receiving.{Receiving}
use Rattle.l4_threads.specs.declared.Sending.{Sending}
use Rattle.l4_threads.specs.declared.Source.TheVariants.{Anyone}
use Rattle.l4_threads.specs.declared.State.{State}
use Rattle.l4_threads.specs.declared.State.TheVariants.{Running, Sending as IsSender, Receiving as IsReceiver}
use Rattle.l4_threads.specs.Enabled.{CanExpire, expires, offers_to}
use Rattle.l4_threads.specs.Threads.{Threads, pair_cmp, thread_at, state_of, first_threads, nilthread}
use Rattle.l4_ipc.specs.declared.calls.Call.TheVariants.{Unmap}
use Rattle.l4_ipc.specs.declared.calls.UnmapCall.{UnmapCall}
use Rattle.l4_ipc.specs.declared.steps.Step.TheVariants.{Start, Transfer, Expire}
use Rattle.l4_ipc.specs.declared.steps.Outcome.TheVariants.{Started, Done}
use Rattle.l4_ipc.specs.declared.steps.Refused.TheVariants.{NotEnabled}
use Rattle.l4_ipc.specs.Machine.{Machine, machine}
use Rattle.l4_ipc.specs.Moving.{IsUsedMove, IsUsedBy}
use Rattle.l4_ipc.specs.Runs.{Run}
use Rattle.l4_ipc.specs.Steps.{Meets, after_transfer}
use Rattle.l4_ipc.specs.Events.{Event, Follow, IsTrace, IsDelivery}
use Rattle.l4_ipc.proofs.Lasting.{one_delivery}
use Rattle.l4_ipc.specs.Provenance.{Link, Brings, LeavesAlone, HasProvenance, Flushes, NoneThroughFlushed}
use Rattle.l4_ipc.proofs.OneState.{same_value}
use Rattle.l4_ipc.specs.Delegation.{Delegates, IsDelegation}
use Rattle.l4_ipc.proofs.Delegating.{not_granted, parent_kept, parent_same, delivers as delivers_plan}
use Rattle.l4_fpage.specs.declared.sizes.PageSize.TheVariants.{Kib4}

-- MAPPINGS OF FEW PLACES

abbrev nothing : Mappings
nothing = record { places = map.empty; spaces = set.empty }

abbrev with_place : Mappings → Place → Mapping → Mappings
with_place s place m = record s { places = map.insert s.places place m }

abbrev page_of : ℕ → ℕ → Place
page_of space page = record { space = space; page = page }

-- frame 5 with all rights, at the top of its tree
abbrev frame_5 : Mapping
frame_5 = record { frame = 5; rights = all_rights; parent = None }

shown_with : (s : Mappings) (place : Place) (m : Mapping) (q : Place) → shown (with_place s place m) q ≡ cond (eq_by_cmp place_cmp q place) (Some m) (shown s q)
shown_with s place m q = map.get-insert places_total s.places place m q

shows_nothing : (q : Place) → shown nothing q ≡ None
shows_nothing q = map.get-empty place_cmp q

-- A PROVENANCE

-- one step, which is refused, over mappings that show one page
abbrev refused : Mappings → Event
refused s = record { before = machine Kib4 first_threads s; step = Expire 1; answer = Err NotEnabled; after = machine Kib4 first_threads s }

brings_none : (s : Mappings) (link : Link) → ¬ (Brings (refused s) link)
brings_none s link b = let k : Expire 1 ≡ Transfer b.delivery.sender b.delivery.receiver = b.delivery.step in cc

abbrev of_sigma0 : Mappings
of_sigma0 = with_place nothing (page_of 0 5) frame_5

there : shown of_sigma0 (page_of 0 5) ≡ Some frame_5
there = shown_with nothing (page_of 0 5) frame_5 (page_of 0 5)

no_parent : (s : Mappings) (place above : Place) → parent_of s place ≡ None → ¬ (Chain (parent_of s) place above)
no_parent s place above none (child up) = let k : ◌≡◌ {A = Option Place} None (Some above) = sym none ∙ up in cc
no_parent s place above none (further {middle = c} up rest) = let k : ◌≡◌ {A = Option Place} None (Some c) = sym none ∙ up in cc

-- sigma0's page has one, without a transfer
pub sigma0s_page : HasProvenance of_sigma0 (refused of_sigma0 ∷ []) of_sigma0 (page_of 0 5) frame_5
sigma0s_page = record {
  origin = page_of 0 5;
  of_sigma0 = refl;
  first = frame_5;
  at_start = there;
  links = [];
  leads = inl (record { before = ap is_some there; after = ap is_some there; not_written = λ link b. absurd (brings_none of_sigma0 link b) }, (refl, refl));
  only = λ other others l. elim l [
    | inl x ↦ (x.1.1, x.1.0)
    | inr x ↦ absurd (brings_none of_sigma0 x.0 x.3)
  ];
  frame = refl;
  within_sources = All-nil (λ (link : Link). _);
  within_items = All-nil (λ (link : Link). _);
  within_above = λ above chain. absurd (no_parent of_sigma0 (page_of 0 5) above (ap (option_and_then (λ (m : Mapping). m.parent)) there) chain);
}

-- a page of another space, which no transfer brought, has none, whatever is shown there
pub foreign_page : (s : Mappings) (m : Mapping) → ¬ (HasProvenance s (refused s ∷ []) s (page_of 1 5) m)
foreign_page s m p = elim p.leads [
  | inl x ↦ (let k : ◌≡◌ {A = ℕ} 1 0 = ap (λ (q : Place). q.space) (sym x.1.1) ∙ p.of_sigma0 in cc)
  | inr x ↦ brings_none s x.0 x.3
]

-- A FLUSH

-- an Unmap by sigma0 with one register
abbrev unmaps : ℕ → ℕ → Mappings → Mappings → Event
unmaps control word old new = record {
  before = machine Kib4 first_threads old;
  step = Start 1 (Unmap (record { control = control; words = record { items = word ∷ [] } }));
  answer = Ok (record { outcome = Started; ended = record { items = 1 ∷ [] } });
  after = machine Kib4 first_threads new;
}

abbrev page_5 : Fpage
page_5 = Sized (record { base = 0x5000; log = 12; rights = all_rights; large = lit≤ tt; small = lit≤ tt; aligned = refl })

abbrev sigma0 : Thread
sigma0 = record { id = record { 0 = 0x4001 }; space = 0; pager = nilthread; state = Running None }

sigma0_there : thread_at first_threads 1 ≡ Some sigma0
sigma0_there = map.get-from_entries nat_cmp_total ((2, record { id = record { 0 = 0x8001 }; space = 1; pager = record { 0 = 0x4001 }; state = Running None }) ∷ (1, sigma0) ∷ []) 1

one_register : (k : ℕ) → k < 1 → HoldsAt (ReadsAs (slice_index (0x50c7 ∷ []) k)) (page_5 ∷ []) k
one_register zero lt d = (refl, refl, refl)
one_register (suc k) lt d = absurd (omega arith)

each_right : (right : Right) → IsTrue (has all_rights right)
each_right Read = refl
each_right Write = refl
each_right Execute = refl

-- with f and all rights it flushes the page
pub with_f : (old new : Mappings) → Flushes (unmaps 0x40 0x50c7 old new) (page_of 0 5)
with_f old new = record {
  number = 1;
  call = record { control = 0x40; words = record { items = 0x50c7 ∷ [] } };
  step = refl;
  answer = record { outcome = Started; ended = record { items = 1 ∷ [] } };
  ok = refl;
  caller = sigma0;
  caller_at = sigma0_there;
  fpages = page_5 ∷ [];
  reads = record { there = lit≤ tt; count = refl; each = one_register };
  loses = λ right. (page_5, (0, lit< tt, refl), each_right right, (5, record { «from» = lit≤ tt; below = lit≤ tt }, inl (refl, refl)));
}

-- without f it doesn't, because the page descends from no other
pub without_f : (new : Mappings) → ¬ (Flushes (unmaps 0 0x50c7 of_sigma0 new) (page_of 0 5))
without_f new h =
    let call : UnmapCall = record { control = 0; words = record { items = 0x50c7 ∷ [] } } in
    let both : Start 1 (Unmap call) ≡ Start h.number (Unmap h.call) = h.step in
    let one : call ≡ h.call = cc in
    elim (h.loses Read).3.2 [
      | inl own ↦ false≢true (ap (λ (x : UnmapCall). with_own x.control) one ∙ own.0)
      | inr chain ↦ no_parent of_sigma0 (page_of 0 5) _ (ap (option_and_then (λ (m : Mapping). m.parent)) there) chain
    ]

-- if the page is left after the Unmap, then something has a provenance through it
pub spared : ¬ (NoneThroughFlushed (unmaps 0x40 0x50c7 of_sigma0 of_sigma0 ∷ []) of_sigma0)
spared h =
    h [] [] [] (unmaps 0x40 0x50c7 of_sigma0 of_sigma0) refl (page_of 0 5) (with_f of_sigma0 of_sigma0) (page_of 0 5) (ap is_some there) (record {
      stands = All-nil (λ event. LeavesAlone event (page_of 0 5));
      further = [];
      on = inl (
        record {
          before = ap is_some there;
          after = ap is_some there;
          not_written = λ link b. absurd (let k : Start 1 (Unmap (record { control = 0x40; words = record { items = 0x50c7 ∷ [] } })) ≡ Transfer b.delivery.sender b.delivery.receiver = b.delivery.step in cc);
        },
        (refl, refl),
      );
    })

-- if it is gone, nothing has
pub taken : NoneThroughFlushed (unmaps 0x40 0x50c7 of_sigma0 nothing ∷ []) nothing
taken earlier since later event are named flushes place present through = false≢true (ap is_some (sym (shows_nothing place)) ∙ present)

-- A DELEGATION

is_equal : (r : Ordering) → is_eq r ≡ true → r ≡ Equal
is_equal Less e = absurd (false≢true e)
is_equal Equal e = refl
is_equal Greater e = absurd (false≢true e)

same : (place q : Place) → eq_by_cmp place_cmp place q ≡ true → place ≡ q
same place q e = exact_places place q (is_equal (place_cmp place q) e)

-- page 5 of sigma0, to page 6 of space 1, to read
abbrev region : Region
region = record { source = 5; target = 6; count = 1; rights = record { r = true; w = false; x = false } }

abbrev handed : RightsSet → Mapping
handed rights = record { frame = 5; rights = rights; parent = Some (page_of 0 5) }

none_before : (page : ℕ) → shown of_sigma0 (page_of 1 page) ≡ None
none_before page = shown_with nothing (page_of 0 5) frame_5 (page_of 1 page) ∙ shows_nothing (page_of 1 page)

abbrev delegated : RightsSet → Mappings
delegated rights = with_place of_sigma0 (page_of 1 6) (handed rights)

here : (rights : RightsSet) → shown (delegated rights) (page_of 1 6) ≡ Some (handed rights)
here rights = shown_with of_sigma0 (page_of 1 6) (handed rights) (page_of 1 6)

-- without f, an Unmap of the page flushes the page that descends from it
pub below_without_f : (rights : RightsSet) (new : Mappings) → Flushes (unmaps 0 0x50c7 (delegated rights) new) (page_of 1 6)
below_without_f rights new = record {
  number = 1;
  call = record { control = 0; words = record { items = 0x50c7 ∷ [] } };
  step = refl;
  answer = record { outcome = Started; ended = record { items = 1 ∷ [] } };
  ok = refl;
  caller = sigma0;
  caller_at = sigma0_there;
  fpages = page_5 ∷ [];
  reads = record { there = lit≤ tt; count = refl; each = one_register };
  loses = λ right. (
    page_5,
    (0, lit< tt, refl),
    each_right right,
    (5, record { «from» = lit≤ tt; below = lit≤ tt }, inr (child (ap (option_and_then (λ (m : Mapping). m.parent)) (here rights)))),
  );
}

abbrev moves_5_to_6 : PageMove
moves_5_to_6 = record { item = 0; source = page_of 0 5; target = page_of 1 6; grant = false; shows = frame_5; rights = region.rights }

abbrev OfRegion : PageMove → Type 0
OfRegion = IsUsedMove of_sigma0 0 1 (RegionMoves region) false region.rights

-- the move is one of the region
pub of_region : OfRegion moves_5_to_6
of_region = record {
  from_space = refl;
  to_space = refl;
  pages = record { index = 0; within = lit< tt; source_is = refl; target_is = refl };
  grant_is = refl;
  present = there;
  rights_are = refl;
  some_right = λ none. false≢true (sym (ap (λ (a : RightsSet). a.r) none));
}

-- no other is
one_of_region : (move : PageMove) → OfRegion move → move ≡ record moves_5_to_6 { item = move.item }
one_of_region move u =
    let source_page : move.source.page ≡ 5 = omega (arith, u.pages.within, u.pages.source_is) in
    let target_page : move.target.page ≡ 6 = omega (arith, u.pages.within, u.pages.target_is) in
    let source : move.source ≡ page_of 0 5 = λ i. record { space = u.from_space i; page = source_page i } in
    let target : move.target ≡ page_of 1 6 = λ i. record { space = u.to_space i; page = target_page i } in
    let grant : move.grant ≡ false = u.grant_is in
    let shows : move.shows ≡ frame_5 = same_value (sym u.present ∙ ap (shown of_sigma0) source ∙ there) in
    let rights : move.rights ≡ region.rights = u.rights_are ∙ ap (λ (x : Mapping). common x.rights region.rights) shows in
    λ i. record { item = move.item; source = source i; target = target i; grant = grant i; shows = shows i; rights = rights i }

region_maps : (move : PageMove) → OfRegion move → ¬ (IsTrue move.grant)
region_maps move u h = false≢true (sym u.grant_is ∙ h)

same_mapping : (a b : Mapping) → a.frame ≡ b.frame → a.rights ≡ b.rights → a.parent ≡ b.parent → a ≡ b
same_mapping a b f r p = λ i. record { frame = f i; rights = r i; parent = p i }

-- the new place, or one that was there
abbrev ShowsAfter : Place → Mapping → Type 0
ShowsAfter place m = ((place ≡ page_of 1 6) × (m ≡ handed region.rights)) ⊎ (shown of_sigma0 place ≡ Some m)

shows_after : (place : Place) (m : Mapping) → shown (delegated region.rights) place ≡ Some m → ShowsAfter place m
shows_after place m at =
    elim (eq_by_cmp place_cmp place (page_of 1 6)) as (λ b. eq_by_cmp place_cmp place (page_of 1 6) ≡ b → ShowsAfter place m) [
      | true ↦ λ e.
          let at_6 : place ≡ page_of 1 6 = same place (page_of 1 6) e in
          inl (at_6, same_value (sym at ∙ ap (shown (delegated region.rights)) at_6 ∙ here region.rights))
      | false ↦ λ e. inr (sym (shown_with of_sigma0 (page_of 1 6) (handed region.rights) place ∙ ap (λ b. cond b (Some (handed region.rights)) (shown of_sigma0 place)) e) ∙ at)
    ] refl

after_shows : (place : Place) (m : Mapping) → ShowsAfter place m → shown (delegated region.rights) place ≡ Some m
after_shows place m (inl is) = ap (shown (delegated region.rights)) is.0 ∙ here region.rights ∙ ap (λ (x : Mapping). Some x) (sym is.1)
after_shows place m (inr at) = elim (eq_by_cmp place_cmp place (page_of 1 6)) as (λ b. eq_by_cmp place_cmp place (page_of 1 6) ≡ b → shown (delegated region.rights) place ≡ Some m) [
  | true ↦ λ e. absurd (let j : ◌≡◌ {A = Option Mapping} None (Some m) = sym (none_before 6) ∙ ap (shown of_sigma0) (sym (same place (page_of 1 6) e)) ∙ at in cc)
  | false ↦ λ e. shown_with of_sigma0 (page_of 1 6) (handed region.rights) place ∙ ap (λ b. cond b (Some (handed region.rights)) (shown of_sigma0 place)) e ∙ at
] refl

becomes : (place : Place) (m : Mapping) → ShowsAfter place m → Becomes OfRegion of_sigma0 place m
becomes place m (inl is) = inl (record {
  move = moves_5_to_6;
  used = of_region;
  target = sym is.0;
  frame = ap (λ (x : Mapping). x.frame) is.1;
  rights = ap (λ (x : Mapping). x.rights) is.1;
  parent = inl (λ g. false≢true g, ap (λ (x : Mapping). x.parent) is.1);
})
becomes place m (inr at) = inr (record {
  before = m;
  at = at;
  not_gone = λ g. false≢true (ap is_some (sym (none_before 6) ∙ ap (λ (u : PageMove). shown of_sigma0 u.target) (sym (one_of_region g.move g.used))) ∙ g.present);
  not_granted = not_granted OfRegion region_maps place;
  frame = refl;
  rights = refl;
  parent = parent_same OfRegion region_maps m.parent;
})

shows_by : (place : Place) (m : Mapping) → BecomesBy OfRegion of_sigma0 place m → ShowsAfter place m
shows_by place m (inl a) =
    let is : a.move ≡ record moves_5_to_6 { item = a.move.item } = one_of_region a.move a.used in
    let frame : m.frame ≡ 5 = a.frame ∙ ap (λ (u : PageMove). u.shows.frame) is in
    let rights : m.rights ≡ region.rights = a.rights ∙ ap (λ (u : PageMove). u.rights) is in
    let parent : m.parent ≡ Some (page_of 0 5) = a.parent ∙ ap (λ (u : PageMove). Some u.source) is in
    inl (sym a.target ∙ ap (λ (u : PageMove). u.target) is, same_mapping m (handed region.rights) frame rights parent)
shows_by place m (inr (inl h)) = absurd (region_maps h.move h.used h.grant)
shows_by place m (inr (inr s)) =
    let kept : m.parent ≡ s.before.parent = parent_kept OfRegion region_maps s.before.parent m.parent s.parent in
    inr (s.at ∙ ap (λ (x : Mapping). Some x) (same_mapping s.before m (sym s.frame) (sym s.rights) (sym kept)))

shows : (place : Place) (m : Mapping) → Becomes OfRegion of_sigma0 place m → ShowsAfter place m
shows place m b = shows_by place m (by_kind b)

moved : Moved OfRegion of_sigma0 (delegated region.rights)
moved = record {
  spaces = refl;
  places = λ place m. (λ at. becomes place m (shows_after place m at), λ b. after_shows place m (shows place m b));
}

-- of_sigma0 shows one page
one_page_there : (place : Place) (m : Mapping) → shown of_sigma0 place ≡ Some m → frame_5 ≡ m
one_page_there place m at =
    elim (eq_by_cmp place_cmp place (page_of 0 5)) as (λ b. eq_by_cmp place_cmp place (page_of 0 5) ≡ b → frame_5 ≡ m) [
      | true ↦ λ e. same_value (sym (shown_with nothing (page_of 0 5) frame_5 place ∙ ap (λ b. cond b (Some frame_5) (shown nothing place)) e) ∙ at)
      | false ↦ λ e. absurd (let k : ◌≡◌ {A = Option Mapping} None (Some m) = sym (shown_with nothing (page_of 0 5) frame_5 place ∙ ap (λ b. cond b (Some frame_5) (shown nothing place)) e ∙ shows_nothing place) ∙ at in cc)
    ] refl

has_right : (place : Place) (m : Mapping) → ShowsAfter place m → ¬ (m.rights ≡ no_rights)
has_right place m (inl is) none = false≢true (sym (ap (λ (a : RightsSet). a.r) (ap (λ (x : Mapping). x.rights) (sym is.1) ∙ none)))
has_right place m (inr at) none = false≢true (sym (ap (λ (a : RightsSet). a.r) (ap (λ (x : Mapping). x.rights) (one_page_there place m at) ∙ none)))

-- nothing is granted, so nothing is cut
uncut : LosesRights (IsCut OfRegion (delegated region.rights)) (delegated region.rights) (delegated region.rights)
uncut = record {
  spaces = refl;
  places = λ place m. (
    λ at. (
      m,
      at,
      record {
        frame = refl;
        parent = refl;
        rights = λ right. (λ h. (h, λ c. region_maps c.move c.used c.grant), λ h. h.0);
        some_right = has_right place m (shows_after place m at);
      },
    ),
    λ l. l.1 ∙ ap (λ (x : Mapping). Some x) (same_mapping l.0 m (sym l.2.frame)
        (same_rights l.0.rights m.rights (λ right. (λ h. (l.2.rights right).1 (h, λ c. region_maps c.move c.used c.grant), λ h. ((l.2.rights right).0 h).0)))
        (sym l.2.parent)),
  );
}

-- the page with the common rights at its new place, and all else as it was: the region is delegated
pub with_common_rights : Delegates of_sigma0 0 1 region (delegated region.rights)
with_common_rights = record { middle = delegated region.rights; moved = moved; cut = uncut }

-- with the rights of the page, where the region names fewer, it isn't
pub with_all_rights : ¬ (Delegates of_sigma0 0 1 region (delegated all_rights))
with_all_rights d =
    let l = (d.cut.places (page_of 1 6) (handed all_rights)).0 (here all_rights) in
    elim (shows (page_of 1 6) l.0 ((d.moved.places (page_of 1 6) l.0).0 l.1)) [
      | inl is ↦ false≢true (ap (λ (m : Mapping). m.rights.w) (sym is.1) ∙ ((l.2.rights Write).0 refl).0)
      | inr at ↦ (let j : ◌≡◌ {A = Option Mapping} None (Some l.0) = sym (none_before 6) ∙ at in cc)
    ]

-- A RUN

idle_state : state_of first_threads 1 ≡ Some (Running None)
idle_state = ap (option_map (λ (x : Thread). x.state)) sigma0_there

-- sigma0 runs, so its wait can't end
runs_on : ¬ (CanExpire first_threads 1)
runs_on e = false≢true (ap expires (same_value (sym idle_state ∙ e.at)) ∙ e.zero)

-- a step that is not enabled is refused
pub refused_step : (s : Mappings) → IsTrace (machine Kib4 first_threads s) (Expire 1 ∷ []) (Err NotEnabled ∷ []) (refused s ∷ []) (machine Kib4 first_threads s)
refused_step s = record { steps_are = refl; answers_are = refl; follow = (refl, (runs_on, refl, refl), refl) }

-- and changes nothing
pub refused_and_changed : ¬ (Run (machine Kib4 first_threads of_sigma0) (Expire 1 ∷ []) (Err NotEnabled ∷ []) (machine Kib4 first_threads nothing))
refused_and_changed r =
    let same : machine Kib4 first_threads nothing ≡ machine Kib4 first_threads of_sigma0 = r.2 ∙ r.1.2 in
    false≢true (ap is_some (sym (shows_nothing (page_of 0 5)) ∙ ap (λ (m : Machine). shown m.mappings (page_of 0 5)) same ∙ there))

-- A PROVENANCE THROUGH A TRANSFER: sigma0 sends page 5, to read, and root takes it at page 6

abbrev page_to_read : Fpage
page_to_read = Sized (record { base = 0x5000; log = 12; rights = region.rights; large = lit≤ tt; small = lit≤ tt; aligned = refl })

abbrev item : Item
item = Map 0x6000 page_to_read

abbrev sends_page : Sending
sends_page = record { words = record { items = 0x80 ∷ 0x6008 ∷ 0x50c4 ∷ [] }; items = record { items = item ∷ [] }; to = 2; expires = false; «then» = None; fault = false }

abbrev takes_all : Receiving
takes_all = record { «from» = Anyone; window = Complete no_rights; expires = false; fault = false }

abbrev sender : Thread
sender = record { id = record { 0 = 0x4001 }; space = 0; pager = nilthread; state = IsSender sends_page }

abbrev receiver : Thread
receiver = record { id = record { 0 = 0x8001 }; space = 1; pager = record { 0 = 0x4001 }; state = IsReceiver takes_all }

abbrev partners : Threads
partners = record { threads = map.insert (map.insert map.empty 1 sender) 2 receiver; before = set.empty; next_space = 2 }

sender_at : thread_at partners 1 ≡ Some sender
sender_at = map.get-from_entries nat_cmp_total ((2, receiver) ∷ (1, sender) ∷ []) 1

receiver_at : thread_at partners 2 ≡ Some receiver
receiver_at = map.get-from_entries nat_cmp_total ((2, receiver) ∷ (1, sender) ∷ []) 2

offers : IsTrue (offers_to (state_of partners 1) (state_of partners 2) 1 2)
offers =
    ap (λ (o : Option State). offers_to o (state_of partners 2) 1 2) (ap (option_map (λ (x : Thread). x.state)) sender_at)
    ∙ ap (λ (o : Option State). offers_to (Some (IsSender sends_page)) o 1 2) (ap (option_map (λ (x : Thread). x.state)) receiver_at)

meets : Meets partners 1 2 sender receiver sends_page takes_all
meets = record {
  from_at = sender_at;
  to_at = receiver_at;
  from_state = refl;
  to_state = refl;
  enabled = record { offers = offers; first = λ other o b. false≢true (sym (set.contains-empty pair_cmp (other, 1)) ∙ b) };
}

abbrev delivers : Mappings → Event
delivers new = record {
  before = machine Kib4 partners of_sigma0;
  step = Transfer 1 2;
  answer = Ok (record { outcome = Done; ended = record { items = 1 ∷ 2 ∷ [] } });
  after = machine Kib4 (after_transfer true partners 1 2 sender sends_page takes_all) new;
}

delivery : (new : Mappings) → IsDelivery (delivers new) sender receiver sends_page takes_all
delivery new = record { sender = 1; receiver = 2; step = refl; meets = meets; answer = record { outcome = Done; ended = record { items = 1 ∷ 2 ∷ [] } }; ok = refl; done = refl }

-- the move is used
pub used : IsUsedBy Kib4 of_sigma0 0 1 (item ∷ []) (Complete no_rights) moves_5_to_6
used = record {
  by = item;
  item = refl;
  moves = record {
    from_space = refl;
    to_space = refl;
    pages = (lit≤ tt, record { index = 0; within = lit< tt; source_is = refl; target_is = refl });
    grant_is = refl;
    present = there;
    rights_are = refl;
    some_right = λ none. false≢true (sym (ap (λ (a : RightsSet). a.r) none));
  };
}

-- where the sender has no page it isn't
pub absent : (move : PageMove) → ¬ (IsUsedBy Kib4 nothing 0 1 (item ∷ []) (Complete no_rights) move)
absent move u = false≢true (ap is_some (sym (shows_nothing move.source) ∙ u.moves.present))

item_is : (k : ℕ) (by : Item) → slice_get (item ∷ []) k ≡ Some by → (k ≡ 0) × (item ≡ by)
item_is zero by at = (refl, same_value at)
item_is (suc k) by at = absurd (let lt : suc k < 1 = slice_get_within (item ∷ []) (suc k) by at in omega (arith, lt))

-- no other is
one_move : (move : PageMove) → IsUsedBy Kib4 of_sigma0 0 1 (item ∷ []) (Complete no_rights) move → move ≡ moves_5_to_6
one_move move u =
    let by = item_is move.item u.by u.item in
    let pages : ItemMoves Kib4 item (Complete no_rights) move.source.page move.target.page = subst (λ (x : Item). ItemMoves Kib4 x (Complete no_rights) move.source.page move.target.page) (sym by.1) u.moves.pages in
    let source_page : move.source.page ≡ 5 = omega (arith, pages.1.within, pages.1.source_is) in
    let target_page : move.target.page ≡ 6 = omega (arith, pages.1.within, pages.1.target_is) in
    let source : move.source ≡ page_of 0 5 = λ i. record { space = u.moves.from_space i; page = source_page i } in
    let target : move.target ≡ page_of 1 6 = λ i. record { space = u.moves.to_space i; page = target_page i } in
    let grant : move.grant ≡ false = u.moves.grant_is ∙ ap is_grant (sym by.1) in
    let shows : move.shows ≡ frame_5 = same_value (sym u.moves.present ∙ ap (shown of_sigma0) source ∙ there) in
    let rights : move.rights ≡ region.rights = u.moves.rights_are ∙ ap (λ (x : Mapping). common x.rights (rights_of (fpage_of u.by))) shows ∙ ap (λ (x : Item). common all_rights (rights_of (fpage_of x))) (sym by.1) in
    λ i. record { item = by.0 i; source = source i; target = target i; grant = grant i; shows = shows i; rights = rights i }

abbrev through : Link
through = record { move = moves_5_to_6; item = item }

brings : (new : Mappings) → Brings (delivers new) through
brings new = record { «from» = sender; to = receiver; sends = sends_page; takes = takes_all; delivery = delivery new; used = used; item = refl }

one_link : (new : Mappings) (link : Link) → Brings (delivers new) link → link ≡ through
one_link new link b =
    let m = one_delivery (delivers new) b.«from» sender b.to receiver b.sends sends_page b.takes takes_all b.delivery (delivery new) in
    let u : IsUsedBy Kib4 of_sigma0 0 1 (item ∷ []) (Complete no_rights) link.move =
    subst (λ (v : Receiving). IsUsedBy Kib4 of_sigma0 0 1 (item ∷ []) v.window link.move) m.takes
    (subst (λ (v : Sending). IsUsedBy Kib4 of_sigma0 0 1 v.items.items b.takes.window link.move) m.sends
    (subst (λ (v : Thread). IsUsedBy Kib4 of_sigma0 0 v.space b.sends.items.items b.takes.window link.move) m.to
    (subst (λ (v : Thread). IsUsedBy Kib4 of_sigma0 v.space b.to.space b.sends.items.items b.takes.window link.move) m.«from» b.used))) in
    let move : link.move ≡ moves_5_to_6 = one_move link.move u in
    let named : item ≡ link.item = (item_is link.move.item link.item (subst (λ (v : Sending). slice_get v.items.items link.move.item ≡ Some link.item) m.sends b.item)).1 in
    λ i. record { move = move i; item = sym named i }

still_there : (rights : RightsSet) → shown (delegated rights) (page_of 0 5) ≡ Some frame_5
still_there rights = shown_with of_sigma0 (page_of 1 6) (handed rights) (page_of 0 5) ∙ there

above_it : (place above : Place) → place ≡ page_of 1 6 → Descends (delegated region.rights) place above → Within region.rights (rights_at (delegated region.rights) above)
above_it place above is (child up) =
    let parent : page_of 0 5 ≡ above = same_value (sym (ap (option_and_then (λ (m : Mapping). m.parent)) (here region.rights)) ∙ ap (parent_of (delegated region.rights)) (sym is) ∙ up) in
    let rights : rights_at (delegated region.rights) (page_of 0 5) ≡ all_rights = ap (λ (o : Option Mapping). option_map_or (λ (x : Mapping). x.rights) o no_rights) (still_there region.rights) in
    subst (λ (p : Place). Within region.rights (rights_at (delegated region.rights) p)) parent (subst (Within region.rights) (sym rights) (λ right h. each_right right))
above_it place above is (further {middle = c} up rest) =
    let parent : page_of 0 5 ≡ c = same_value (sym (ap (option_and_then (λ (m : Mapping). m.parent)) (here region.rights)) ∙ ap (parent_of (delegated region.rights)) (sym is) ∙ up) in
    let top : parent_of (delegated region.rights) c ≡ None = ap (parent_of (delegated region.rights)) (sym parent) ∙ ap (option_and_then (λ (m : Mapping). m.parent)) (still_there region.rights) in
    absurd (no_parent (delegated region.rights) c above top rest)

-- root's page has a provenance through the one transfer
pub roots_page : HasProvenance of_sigma0 (delivers (delegated region.rights) ∷ []) (delegated region.rights) (page_of 1 6) (handed region.rights)
roots_page = record {
  origin = page_of 0 5;
  of_sigma0 = refl;
  first = frame_5;
  at_start = there;
  links = through ∷ [];
  leads = inr (through, [], refl, brings (delegated region.rights), refl, (refl, refl));
  only = λ other others l. elim l [
    | inl x ↦ absurd (false≢true (ap is_some (sym (none_before 6) ∙ ap (shown of_sigma0) (sym x.1.1)) ∙ x.0.before))
    | inr x ↦
        let same : x.0 ≡ through = one_link (delegated region.rights) x.0 x.3 in
        (sym x.4 ∙ ap (λ (k : Link). k.move.source) same, x.2 ∙ (λ i. same i ∷ x.5.0 i))
  ];
  frame = refl;
  within_sources = All-cons (λ (link : Link). Within region.rights link.move.shows.rights) through [] (λ right h. each_right right) (All-nil (λ (link : Link). Within region.rights link.move.shows.rights));
  within_items = All-cons (λ (link : Link). Within region.rights (rights_of (fpage_of link.item))) through [] (λ right h. h) (All-nil (λ (link : Link). Within region.rights (rights_of (fpage_of link.item))));
  within_above = λ above chain. above_it (page_of 1 6) above refl chain;
}

-- with more rights than the item named it has none
pub more_than_named : ¬ (HasProvenance of_sigma0 (delivers (delegated all_rights) ∷ []) (delegated all_rights) (page_of 1 6) (handed all_rights))
more_than_named p = elim p.leads [
  | inl x ↦ (let k : ◌≡◌ {A = ℕ} 1 0 = ap (λ (q : Place). q.space) (sym x.1.1) ∙ p.of_sigma0 in cc)
  | inr x ↦
      let named : item ≡ x.0.item = ap (λ (k : Link). k.item) (sym (one_link (delegated all_rights) x.0 x.3)) in
      let each : All (λ (link : Link). Within all_rights (rights_of (fpage_of link.item))) (x.0 ∷ x.1) = subst (λ (l : List Link). All (λ (link : Link). Within all_rights (rights_of (fpage_of link.item))) l) x.2 p.within_items in
      let within : Within all_rights (rights_of (fpage_of x.0.item)) = each 0 x.0 (omega arith) in
      false≢true (subst (λ (k : Item). IsTrue (has (rights_of (fpage_of k)) Write)) (sym named) (within Write refl))
]

-- A DELIVERED DELEGATION

moved_alone : (k : ℕ) (by : Item) (source target : ℕ) → k < 1 → slice_index_or (item ∷ []) k by ≡ by → ItemMoves Kib4 by complete source target → RegionMoves region source target
moved_alone zero by source target lt is moves = (subst (λ (x : Item). ItemMoves Kib4 x complete source target) (sym is) moves).1
moved_alone (suc k) by source target lt is moves = absurd (omega (arith, lt))

abbrev IsInside : ℕ → Type 0
IsInside page = (5 ≤ page) × (page < 6)

-- the one item is a plan of its page
pub one_page : (new : Mappings) → IsDelegation (delivers new) region (item ∷ []) (5 ∷ []) 0 sender receiver sends_page takes_all
one_page new = record {
  space = record { source = lit≤ tt; target = lit≤ tt };
  plan = record {
    rival = record {
      maps = All-cons IsMap item [] tt (All-nil IsMap);
      moves = λ source target. (λ any. moved_alone any.0 any.1 source target any.2 any.3 any.4, λ m. (0, item, lit< tt, refl, (lit≤ tt, m)));
    };
    starts = (record { map = tt; rights = refl; base = refl; log = 12; bytes = refl }, tt);
    rising = λ i j d lt less. absurd (omega (arith, lt, less));
    certificate = record { inside = All-cons IsInside 5 [] (lit≤ tt, lit< tt) (All-nil IsInside); apart = λ i j d lt less. absurd (omega (arith, lt, less)) };
  };
  part = refl;
  window_rights = no_rights;
  window = refl;
  delivery = delivery new;
}

-- and of no larger region
pub two_pages : (new : Mappings) (pages : List ℕ) (number : ℕ) → ¬ (IsDelegation (delivers new) (record region { count = 2 }) (item ∷ []) pages number sender receiver sends_page takes_all)
two_pages new pages number d =
    let any = (d.plan.rival.moves 6 7).1 (record { index = 1; within = lit< tt; source_is = refl; target_is = refl }) in
    let m : RegionMoves region 6 7 = moved_alone any.0 any.1 6 7 any.2 any.3 any.4 in
    omega (arith, m.within, m.source_is)

-- THE STEP THAT DELIVERS IT

abbrev Used : PageMove → Type 0
Used = IsUsedBy Kib4 of_sigma0 0 1 (item ∷ []) (Complete no_rights)

target_absent : (u : PageMove) → Used u → ¬ (IsPresent of_sigma0 u.target)
target_absent u is present = false≢true (ap is_some (sym (none_before 6) ∙ ap (λ (m : PageMove). shown of_sigma0 m.target) (sym (one_move u is))) ∙ present)

not_entangled : ¬ (IsEntangled Used of_sigma0)
not_entangled e = elim e.clash [
  | inl c ↦ c.0 (ap (λ (m : PageMove). m.item) (one_move e.one e.one_used ∙ sym (one_move e.other e.other_used)))
  | inr c ↦ target_absent e.one e.one_used c.0
]

transfers : Transfers Used of_sigma0 (delegated region.rights)
transfers = delivers_plan Kib4 of_sigma0 0 1 region (item ∷ []) (5 ∷ []) no_rights (one_page (delegated region.rights)).plan (delegated region.rights) with_common_rights

-- so the event follows from the state in which both wait: with the page's provenance above, a run that leads to it
pub delivered : Follow (machine Kib4 partners of_sigma0) (delivers (delegated region.rights) ∷ []) (machine Kib4 (after_transfer true partners 1 2 sender sends_page takes_all) (delegated region.rights))
delivered = (
  refl,
  (sender, receiver, sends_page, takes_all, meets, ((λ l. let k : Complete no_rights ≡ Nil = l.1 in cc), not_entangled, transfers), refl, refl, refl),
  refl,
)
