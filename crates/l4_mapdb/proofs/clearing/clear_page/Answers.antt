use Rattle.std.proofs.Common.{◌≡◌, ℕ, Option, Some, None, sym, ◌∙◌, refl, subst}
use Rattle.l4_links.specs.Entries.{Clears}
use Rattle.l4_mapdb.proofs.Unique.{same_value}
use Rattle.l4_mapdb.proofs.clearing.clear_page.Goals as goal

pub returns-in_default : goal.returns-in_default
returns-in_default c = record {
  clears = λ key at. absurd (let k : ◌≡◌ {A = Option ℕ} None (Some key) = sym c.in_default.is ∙ (c.find.ensures key).1 at in cc);
  spaces = refl;
}

pub returns : goal.returns
returns c = record {
  clears = λ key at.
      let same : key ≡ c.in-Some.key = same_value (sym ((c.find.ensures key).1 at) ∙ c.in-Some.is) in
      subst (λ (k : ℕ). Clears k c.args.links.now.entries c.clear.new.self.entries) (sym same) c.clear.ensures.clears;
  spaces = c.clear.ensures.spaces;
}
