use Rattle.std.proofs.Common.{◌≡◌, ℕ, ◌↔◌, Some, sym, ap, ◌∙◌, subst}
use Rattle.l4_fpage.specs.Rights.{common}
use Rattle.l4_fpage.specs.Fpages.{rights_of}
use Rattle.l4_fpage.specs.declared.sizes.PageSize.{PageSize}
use Rattle.l4_msg.specs.Moves.{ItemMoves, MovePairs, fpage_of}
use Rattle.l4_record.proofs.Same.{none_is}
use Rattle.l4_record.proofs.Written.{written_from}
use Rattle.l4_provenance.proofs.writing.link_by.Goals as goal

pub returns-then-is_empty : goal.returns-then-is_empty
returns-then-is_empty c = λ w.
    let m = c.args.kernel.now in
    let s = c.args.letter.now in
    let move = c.in-Some.pages in
    let pairs : (source target : ℕ) → MovePairs (Some move) source target ↔ ItemMoves m.size c.args.item.now s.window source target =
    subst (λ (z : PageSize). (source target : ℕ) → MovePairs (Some move) source target ↔ ItemMoves z c.args.item.now s.window source target) c.page_size.ensures c.in-Some.ensures.pages in
    let at = sym c.mapping.ensures ∙ c.in-Some-mapping.is in
    let rights : c.rights-rights.result ≡ rights_of (fpage_of c.args.item.now) = c.rights-rights.ensures ∙ ap rights_of c.fpage.ensures in
    let both : c.intersection.result ≡ common c.in-Some-mapping.shows.rights (rights_of (fpage_of c.args.item.now)) =
    c.intersection.ensures ∙ ap (common c.in-Some-mapping.shows.rights) rights in
    written_from m.size m.mappings s.«from» s.to s.window c.args.item.now move c.args.place c.in-Some-mapping.shows (λ source target i. (pairs source target).1 i) at w
    (sym both ∙ none_is c.intersection.result (sym c.is_empty.ensures ∙ c.if-is_empty.true))
