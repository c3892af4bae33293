use Rattle.std.proofs.Common.{◌≡◌, sym, refl, ap, ◌∙◌}
use Rattle.std.proofs.lemmas.Bool.{false≢true}
use Rattle.std.proofs.lemmas.Bool.Decides.{Decides-eqb}
use Rattle.std.proofs.lemmas.List.{get_or_default}
use Rattle.std.proofs.lemmas.Slice.Eq.{slice_eq-Decides}
use Rattle.l4_merges.specs.declared.graph.Seen.{Seen}
use Rattle.l4_merges.proofs.exploring.has_key.Goals as goal

pub returns-clause-yes : goal.returns-clause-yes
returns-clause-yes c yes_is =
    let same : c.as_slice.result.now ≡ c.args.key.now = (slice_eq-Decides Decides-eqb c.as_slice.result.now c.args.key.now _ refl).0 (sym c.eq.ensures ∙ yes_is) in
    (c.index-seen-place.result, c.requires, sym c.index-seen-place.is, ap (λ (e : Seen). e.key.items) c.index-seen-place.is ∙ sym c.as_slice.ensures.value ∙ same)

pub returns-clause-no : goal.returns-clause-no
returns-clause-no c no_is one is same =
    false≢true (sym no_is ∙ c.eq.ensures ∙ (slice_eq-Decides Decides-eqb c.as_slice.result.now c.args.key.now _ refl).1
    (c.as_slice.ensures.value ∙ ap (λ (e : Seen). e.key.items) (get_or_default c.args.seen.now c.args.place c.index-seen-place.result one c.requires ∙ is) ∙ same))
