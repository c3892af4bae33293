use Rattle.std.proofs.Common.{◌≡◌, refl, sym, ap, ◌∙◌, arith}
use Rattle.std.proofs.lemmas.Bool.Decides.{nat_tests}
use Rattle.l4_fpage.specs.Fpages.{rights_of}
use Rattle.l4_fpage.specs.Rights.{bits_of}
use Rattle.l4_msg.specs.Moves.{fpage_of}
use Rattle.l4_plan_check.proofs.SameRights.{same_rights}
use Rattle.l4_plan_check.proofs.items.is_good.Goals as goal
use Rattle.l4_plan_check.proofs.Shared.{in_largest}

pub returns-in-None : goal.returns-in-None
returns-in-None c = (
  λ h. record {
    map = rw c.in_default.is tt;
    rights =
        let e : bits_of c.rights.result ≡ bits_of c.args.region.now.rights = grind (arith, nat_tests, c.if-ne.ensures) in
        let f : c.rights.result ≡ rights_of (fpage_of c.args.item.now) = c.rights.ensures ∙ ap rights_of c.fpage.ensures in
        sym f ∙ same_rights _ _ e;
    moves = λ s t m. absurd ((c.in-None.ensures.pages s t).1 m);
  },
  λ h. refl,
)

pub lies_in-requires : goal.lies_in-requires
lies_in-requires c = in_largest c.args.size c.args.region.now c.requires
