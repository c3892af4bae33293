use Rattle.std.proofs.Common.{◌≡◌, ℕ, ◌+◌, ◌-◌, ◌^◌, ◌<◌, ◌↔◌, Some, refl, sym, ap, ◌∙◌, subst, arith}
use Rattle.l4_fpage.specs.Rights.{common}
use Rattle.l4_fpage.specs.Fpages.{rights_of}
use Rattle.l4_fpage.specs.declared.sizes.PageSize.{PageSize}
use Rattle.l4_msg.specs.Moves.{ItemMoves, MovePairs, fpage_of}
use Rattle.l4_record.proofs.Written.{writes_with, written_from}
use Rattle.l4_record.proofs.Same.{is_some, not_none}
use Rattle.l4_provenance_check.proofs.carrying.is_written_by.Goals as goal

pub returns : goal.returns
returns c =
    let m = c.args.kernel.now in
    let s = c.args.sides.now in
    let block = c.contains.ensures.0 c.if-not-contains.false in
    let move = c.in-Some.pages in
    let pairs : (source target : ℕ) → MovePairs (Some move) source target ↔ ItemMoves m.size c.args.item.now s.window source target =
    subst (λ (z : PageSize). (source target : ℕ) → MovePairs (Some move) source target ↔ ItemMoves z c.args.item.now s.window source target) c.page_size.ensures c.in-Some.ensures.pages in
    let below : c.args.place.page < move.target.first + 2 ^ move.source.log = subst (λ (l : ℕ). c.args.place.page < move.target.first + 2 ^ l) (sym move.same_size) block.below in
    let at = sym c.mapping.ensures ∙ c.in-Some-mapping.is in
    let rights : c.rights.result ≡ rights_of (fpage_of c.args.item.now) = c.rights.ensures ∙ ap rights_of c.fpage.ensures in
    let both : c.intersection.result ≡ common c.in-Some-mapping.shows.rights (rights_of (fpage_of c.args.item.now)) =
    c.intersection.ensures ∙ ap (common c.in-Some-mapping.shows.rights) rights in (
      λ h. writes_with m.size m.mappings s.«from» s.to s.window c.args.item.now (move.source.first + (c.args.place.page - move.target.first)) c.args.place c.in-Some-mapping.shows c.if-place-sides.false
          ((pairs (move.source.first + (c.args.place.page - move.target.first)) c.args.place.page).0 (record {
            index = c.args.place.page - move.target.first;
            within = omega (arith, block.«from», below);
            source_is = refl;
            target_is = omega (arith, block.«from»);
          }))
          at (λ none. not_none c.intersection.result c.is_empty.result c.is_empty.ensures h (both ∙ none)),
      λ h. is_some c.intersection.result c.is_empty.result c.is_empty.ensures
          (λ none. written_from m.size m.mappings s.«from» s.to s.window c.args.item.now move c.args.place c.in-Some-mapping.shows (λ source target i. (pairs source target).1 i) at h (sym both ∙ none)),
    )
