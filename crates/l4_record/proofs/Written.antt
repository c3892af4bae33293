-- The links of an item, and the place to which it moves a page.
use Rattle.std.proofs.Common.{◌≡◌, ◌≢◌, ℕ, ◌+◌, ◌-◌, Some, None, List, refl, sym, ap, ◌∙◌, subst, arith}
use Rattle.l4_fpage.specs.Rights.{common, no_rights}
use Rattle.l4_fpage.specs.Fpages.{rights_of}
use Rattle.l4_fpage.specs.declared.fpages.Fpage.{Fpage}
use Rattle.l4_fpage.specs.declared.sizes.PageSize.{PageSize}
use Rattle.l4_msg.specs.Moves.{ItemMoves, MovePairs, fpage_of, is_grant}
use Rattle.l4_msg.specs.declared.items.Item.{Item}
use Rattle.l4_msg.specs.declared.items.Move.{Move}
use Rattle.l4_mapdb.specs.declared.Mapping.{Mapping}
use Rattle.l4_mapdb.specs.declared.Place.{Place}
use Rattle.l4_mapdb.specs.Mappings.{Mappings, shown}
use Rattle.l4_ipc.specs.declared.steps.Step.{Step}
use Rattle.l4_ipc.specs.Machine.{Machine}
use Rattle.l4_ipc.proofs.OneState.{same_value}
use Rattle.l4_record.specs.declared.links.ChainLink.{ChainLink}
use Rattle.l4_record.specs.Inside.Carrying.{AreParties, IsCarriedBy, AnyCarries, IsCarried, IsWritten}
use Rattle.l4_record.proofs.Carried.{same_parties}
use Rattle.l4_record.specs.Inside.Carrying.{AreRights, IsWrittenBy, AnyWrites}

abbrev pub place_at : ℕ → ℕ → Place
place_at space page = record { space = space; page = page }

module _ (size : PageSize) (s : Mappings) (from to : ℕ) (window : Fpage) (item : Item) where
  -- the mapping of the source page
  pub carried_shows : (link : ChainLink) (h : IsCarriedBy size s from to window item link) → shown s (place_at from link.source.page) ≡ Some h.shows
  carried_shows link h = ap (λ (space : ℕ). shown s (place_at space link.source.page)) (sym h.from_space) ∙ h.at

  pub carried_rights : (link : ChainLink) (shows : Mapping) → IsCarriedBy size s from to window item link → shown s (place_at from link.source.page) ≡ Some shows → AreRights item shows.rights link
  carried_rights link shows h at =
      let same : h.shows ≡ shows = same_value (sym (carried_shows link h) ∙ at) in
      record {
        grant = h.grant;
        source_rights = h.source_rights ∙ ap (λ (m : Mapping). m.rights) same;
        item_rights = h.item_rights;
        some_right = λ none. h.some_right (ap (λ (m : Mapping). common m.rights (rights_of (fpage_of item))) same ∙ none);
      }

  pub carried_with : (link : ChainLink) (shows : Mapping) → link.source.space ≡ from → link.target.space ≡ to → ItemMoves size item window link.source.page link.target.page
      → shown s (place_at from link.source.page) ≡ Some shows → AreRights item shows.rights link → IsCarriedBy size s from to window item link
  carried_with link shows source target pages at r = record {
    from_space = source;
    to_space = target;
    pages = pages;
    grant = r.grant;
    shows = shows;
    at = ap (λ (space : ℕ). shown s (place_at space link.source.page)) source ∙ at;
    source_rights = r.source_rights;
    item_rights = r.item_rights;
    some_right = r.some_right;
  }

  -- the link that the item moves to a page
  pub writes_with : (source : ℕ) (place : Place) (shows : Mapping) → place.space ≡ to → ItemMoves size item window source place.page → shown s (place_at from source) ≡ Some shows
      → common shows.rights (rights_of (fpage_of item)) ≢ no_rights → IsWrittenBy size s from to window item place
  writes_with source place shows space pages at some =
      let link : ChainLink = record { entry = 0; source = place_at from source; target = place; grant = is_grant item; source_rights = shows.rights; item_rights = rights_of (fpage_of item) } in
      (link, carried_with link shows refl space pages at (record { grant = refl; source_rights = refl; item_rights = refl; some_right = some }), refl)

  -- it moves no other page there than the one at the same distance
  pub written_from : (m : Move) (place : Place) (shows : Mapping) → ((source target : ℕ) → ItemMoves size item window source target → MovePairs (Some m) source target)
      → shown s (place_at from (m.source.first + (place.page - m.target.first))) ≡ Some shows → IsWrittenBy size s from to window item place
      → common shows.rights (rights_of (fpage_of item)) ≢ no_rights
  written_from m place shows pairs at w =
      let shift : MovePairs (Some m) w.0.source.page w.0.target.page = pairs _ _ w.1.pages in
      let page : w.0.target.page ≡ place.page = ap (λ (p : Place). p.page) w.2 in
      let source : m.source.first + (place.page - m.target.first) ≡ w.0.source.page = omega (arith, page, shift.source_is, shift.target_is) in
      (carried_rights w.0 shows w.1 (ap (λ (p : ℕ). shown s (place_at from p)) (sym source) ∙ at)).some_right

  pub not_written_none : (m : Move) (place : Place) → ((source target : ℕ) → ItemMoves size item window source target → MovePairs (Some m) source target)
      → shown s (place_at from (m.source.first + (place.page - m.target.first))) ≡ None → ¬ (IsWrittenBy size s from to window item place)
  not_written_none m place pairs none w =
      let shift : MovePairs (Some m) w.0.source.page w.0.target.page = pairs _ _ w.1.pages in
      let page : w.0.target.page ≡ place.page = ap (λ (p : Place). p.page) w.2 in
      let source : m.source.first + (place.page - m.target.first) ≡ w.0.source.page = omega (arith, page, shift.source_is, shift.target_is) in
      let k : Some w.1.shows ≡ None = sym (carried_shows w.0 w.1) ∙ ap (λ (p : ℕ). shown s (place_at from p)) (sym source) ∙ none in
      cc

-- over the two sides of the step
module _ (m : Machine) (step : Step) (from to : ℕ) (items : List Item) (window : Fpage) (parties : AreParties m step from to items window) where
  pub any_carried : (link : ChainLink) → IsCarried m step link → AnyCarries m.size m.mappings from to items window link
  any_carried link c =
      let same = same_parties m step c.0 from c.1 to c.2 items c.3 window c.4 parties in
      subst (λ (v : Fpage). AnyCarries m.size m.mappings from to items v link) same.window
      (subst (λ (l : List Item). AnyCarries m.size m.mappings from to l c.3 link) same.items
      (subst (λ (k : ℕ). AnyCarries m.size m.mappings from k c.2 c.3 link) same.to
      (subst (λ (k : ℕ). AnyCarries m.size m.mappings k c.1 c.2 c.3 link) same.«from» c.5)))

  pub carried_any : (link : ChainLink) → AnyCarries m.size m.mappings from to items window link → IsCarried m step link
  carried_any link a = (from, to, items, window, parties, a)

  pub any_written : (place : Place) → IsWritten m step place → AnyWrites m.size m.mappings from to items window place
  any_written place w = let a = any_carried w.0 w.1 in (a.0, a.1, (w.0, a.2, w.2))

  pub written_any : (place : Place) → AnyWrites m.size m.mappings from to items window place → IsWritten m step place
  written_any place a = (a.2.0, carried_any a.2.0 (a.0, a.1, a.2.1), a.2.2)
