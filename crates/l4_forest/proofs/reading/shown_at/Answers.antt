use Rattle.std.proofs.Common.{◌≡◌, ◌∙◌, ℕ, Option, Some, None, refl, sym, ap}
use Rattle.l4_mapdb.specs.declared.Place.{Place}
use Rattle.l4_mapdb.proofs.View.{none_shows}
use Rattle.l4_forest.proofs.Presence.{shows_standing, shows_blank}
use Rattle.l4_forest.proofs.reading.shown_at.Goals as goal

pub returns-in_default : goal.returns-in_default
returns-in_default c = sym (none_shows c.args.links.now c.law_places.ensures c.args.place (λ key at. let k : ◌≡◌ {A = Option ℕ} None (Some key) = (c.in_default.ensures key).1 at in cc))

pub returns-in_default-standing : goal.returns-in_default-standing
returns-in_default-standing c = sym (shows_blank c.args.links.now c.law_places.ensures c.args.place c.in-Some.key ((c.in-Some.ensures c.in-Some.key).0 refl) (sym c.standing.ensures ∙ c.in_default-standing.is))

pub returns : goal.returns
returns c =
    sym (shows_standing c.args.links.now c.law_places.ensures c.args.place c.in-Some.key c.in-Some-standing.standing ((c.in-Some.ensures c.in-Some.key).0 refl) (sym c.standing.ensures ∙ c.in-Some-standing.is)
    ∙ ap (λ (p : Option Place). Some (record { frame = c.in-Some-standing.standing.frame; rights = c.in-Some-standing.standing.rights; parent = p })) (sym c.place_of.ensures))
