use Rattle.std.proofs.Common.{◌≡◌, ◌/◌, Option, ℕ, true, false, sym, ap, ◌∙◌, subst}
use Rattle.std.proofs.lemmas.Bool.{false≢true}
use Rattle.l4_spaces.specs.Tables.{table_pages}
use Rattle.l4_spaces.specs.Rows.{entry, is_made}
use Rattle.l4_nodes.specs.declared.Place.{Place}
use Rattle.l4_links.specs.Inside.Growing.{WantsOne, WantsPages}
use Rattle.l4_links.proofs.Wanting.{not_true, makes_none, one_page}
use Rattle.l4_links.proofs.wants.wants_page.Goals as goal

pub returns-then-not-wants-clause-wants : goal.returns-then-not-wants-clause-wants
returns-then-not-wants-clause-wants c =
    let still = not_true c.in_ok-wants.wants.changes c.if-not-wants.true in
    subst (λ (z : ℕ). WantsPages c.args.of.now c.args.of.now.source.page z c.args.sources.now.items c.args.targets.now.items c.in_ok-wants.wants.slots c.in_ok-wants.wants.changes c.args.nodes.now.slots) (sym c.requires.one)
    (one_page c.args.of.now c.args.of.now.source.page c.args.sources.now.items c.args.targets.now.items c.args.targets.now.items c.args.nodes.now.slots (makes_none c.args.targets.now.items c.requires.whole c.requires.full)
    c.in_ok-wants.wants.slots c.in_ok-wants.wants.changes
    (subst (λ (q : Option ℕ × Option ℕ). WantsOne c.args.of.now q.0 q.1 c.args.nodes.now.slots c.in_ok-wants.wants.slots c.in_ok-wants.wants.changes)
    (λ i. (c.key_in-key.ensures i, (c.key_in-taken.ensures ∙ ap (λ (p : Place). entry c.args.targets.now.items p.page) c.place_for-place.ensures) i)) c.in_ok-wants.ensures)
    (λ yes'. absurd (false≢true (sym still ∙ yes'))))

pub returns-clause-wants : goal.returns-clause-wants
returns-clause-wants c =
    subst (λ (z : ℕ). WantsPages c.args.of.now c.args.of.now.source.page z c.args.sources.now.items c.make_ready.new.targets.items c.in_ok-wants.wants.slots c.in_ok-wants.wants.changes c.args.nodes.now.slots) (sym c.requires.one)
    (one_page c.args.of.now c.args.of.now.source.page c.args.sources.now.items c.args.targets.now.items c.make_ready.new.targets.items c.args.nodes.now.slots c.make_ready.ensures.makes
    c.in_ok-wants.wants.slots c.in_ok-wants.wants.changes
    (subst (λ (q : Option ℕ × Option ℕ). WantsOne c.args.of.now q.0 q.1 c.args.nodes.now.slots c.in_ok-wants.wants.slots c.in_ok-wants.wants.changes)
    (λ i. (c.key_in-key.ensures i, (c.key_in-taken.ensures ∙ ap (λ (p : Place). entry c.args.targets.now.items p.page) c.place_for-place.ensures) i)) c.in_ok-wants.ensures)
    (λ _. subst (λ (p : Place). is_made c.make_ready.new.targets.items (p.page / table_pages) ≡ true) c.place_for-place.ensures (c.make_ready.ensures.made c.if-not-make_ready.false)))
