use Rattle.std.proofs.Common.{◌++◌, ◌∷◌, [], List, length, refl, ap, ◌∙◌, arith}
use Rattle.std.proofs.lemmas.Bool.{false≢true}
use Rattle.l4_pager.specs.declared.regions.Entry.{Entry}
use Rattle.l4_pager.proofs.Tables.{full, can, added, all_largest, good_largest}
use Rattle.l4_pager.proofs.regions.RegionPager.add.Goals as goal
use Rattle.l4_pager.specs.Regions.{Regions}

pub returns-then-len-ge-MAX_REGIONS : goal.returns-then-len-ge-MAX_REGIONS
returns-then-len-ge-MAX_REGIONS c = (
  full c.as_slice.result.now c.args.self.now c.self.inside.size c.args.entry (c.as_slice.ensures.value ∙ ap (λ (t : Regions). t.entries) c.self.view_is) (ap (λ (t : Regions). t.size) c.self.view_is) (λ b. false≢true (c.if-is_bad.ensures.1 b)) (c.if-meets_one.ensures.none refl)
      (omega (arith, ap length c.as_slice.ensures.value, c.len.ensures.value, c.if-len-ge-MAX_REGIONS.true)),
  refl,
)

pub invariant_of-self : goal.invariant_of-self
invariant_of-self c =
    rw c.push.ensures.items (added c.self.inside.size c.self.inside.entries.items c.as_slice.result.now c.as_slice.ensures.value c.args.entry c.self.invariant (λ b. false≢true (c.if-is_bad.ensures.1 b)) (c.if-meets_one.ensures.none refl))

pub returns : goal.returns
returns c = (
  can c.as_slice.result.now c.args.self.now c.self.inside.size c.args.entry (c.as_slice.ensures.value ∙ ap (λ (t : Regions). t.entries) c.self.view_is) (ap (λ (t : Regions). t.size) c.self.view_is) (λ b. false≢true (c.if-is_bad.ensures.1 b)) (c.if-meets_one.ensures.none refl)
      (omega (arith, ap length c.as_slice.ensures.value, c.len.ensures.value, c.if-len-ge-MAX_REGIONS.false)),
  (λ i. record { size = (c.self.view_is i).size; entries = (c.push.ensures.items ∙ ap (λ (t : Regions). t.entries ++ c.args.entry ∷ []) c.self.view_is) i }),
)

pub meets_one-requires : goal.meets_one-requires
meets_one-requires c = record {
  good = all_largest c.self.inside.size c.self.inside.entries.items c.as_slice.result.now c.as_slice.ensures.value c.self.invariant.good;
  entry = good_largest c.self.inside.size c.args.entry (λ b. false≢true (c.if-is_bad.ensures.1 b));
}
