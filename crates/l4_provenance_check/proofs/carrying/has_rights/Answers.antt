use Rattle.std.proofs.Common.{◌≡◌, sym, ap, ◌∙◌}
use Rattle.std.proofs.lemmas.Bool.{eq-eqb, eqb-true}
use Rattle.l4_fpage.specs.Fpages.{rights_of}
use Rattle.l4_fpage.specs.Rights.{bits_of, common}
use Rattle.l4_msg.specs.Moves.{fpage_of}
use Rattle.l4_record.proofs.Same.{same_flag, same_rights, some_is}
use Rattle.l4_provenance_check.proofs.carrying.has_rights.Goals as goal

pub returns : goal.returns
returns c =
    let rights : c.rights-rights.result ≡ rights_of (fpage_of c.args.item.now) = c.rights-rights.ensures ∙ ap rights_of c.fpage.ensures in
    let both : c.intersection.result ≡ common c.args.shows (rights_of (fpage_of c.args.item.now)) = c.intersection.ensures ∙ ap (common c.args.shows) rights in (
      λ h. record {
        grant = same_flag _ _ c.if-link-is_grant.false ∙ c.is_grant.ensures;
        source_rights = same_rights _ _ (sym c.bits.ensures ∙ c.if-bits.false ∙ c.bits-2.ensures);
        item_rights = same_rights _ _ (sym c.bits-3.ensures ∙ eqb-true _ _ h ∙ c.bits-4.ensures) ∙ rights;
        some_right = λ none. some_is _ (sym c.is_empty.ensures ∙ c.if-is_empty.false) (both ∙ none);
      },
      λ h. eq-eqb _ _ (c.bits-3.ensures ∙ ap bits_of (h.item_rights ∙ sym rights) ∙ sym c.bits-4.ensures),
    )
