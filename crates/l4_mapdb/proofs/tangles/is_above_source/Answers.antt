use Rattle.std.proofs.Common.{◌≡◌, ℕ, Option, Some, None, sym, ◌∙◌, refl}
use Rattle.l4_mapdb.proofs.Unique.{same_value}
use Rattle.l4_mapdb.proofs.Tangling.{so, not_so, above_none, above_blank, above_here, above_below}
use Rattle.l4_mapdb.proofs.tangles.is_above_source.Goals as goal

pub returns-in_default : goal.returns-in_default
returns-in_default c = record {
  same = λ k. refl;
  answer = not_so (above_none c.args.links.now.entries c.args.place (λ key at. let k : ◌≡◌ {A = Option ℕ} None (Some key) = sym c.in_default.is ∙ (c.find.ensures key).1 at in cc));
  spaces = refl;
}

pub returns-in_default-standing : goal.returns-in_default-standing
returns-in_default-standing c = record {
  same = λ k. refl;
  answer = not_so (above_blank c.args.links.now.entries c.args.place c.in-Some.key (λ k h. same_value (sym ((c.find.ensures k).1 h) ∙ c.in-Some.is)) (sym c.standing.ensures ∙ c.in_default-standing.is));
  spaces = refl;
}

pub returns-then-standing : goal.returns-then-standing
returns-then-standing c = record {
  same = λ k. refl;
  answer = so (above_here c.args.links.now.entries c.args.place c.in-Some.key (λ k h. same_value (sym ((c.find.ensures k).1 h) ∙ c.in-Some.is)) c.in-Some-standing.standing
      ((c.find.ensures c.in-Some.key).0 c.in-Some.is) (sym c.standing.ensures ∙ c.in-Some-standing.is) c.if-standing.true);
  spaces = refl;
}

pub returns : goal.returns
returns c = record {
  same = c.has_source_below.ensures.same;
  answer = above_below c.args.links.now.entries c.args.place c.in-Some.key (λ k h. same_value (sym ((c.find.ensures k).1 h) ∙ c.in-Some.is)) c.in-Some-standing.standing c.has_source_below.result
      ((c.find.ensures c.in-Some.key).0 c.in-Some.is) (sym c.standing.ensures ∙ c.in-Some-standing.is) c.if-standing.false c.has_source_below.ensures.yes c.has_source_below.ensures.no;
  spaces = c.has_source_below.ensures.spaces;
}
