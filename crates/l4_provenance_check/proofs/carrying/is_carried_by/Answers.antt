use Rattle.std.proofs.Common.{ℕ, ◌↔◌, Some, sym, ◌∙◌, subst}
use Rattle.l4_fpage.specs.declared.sizes.PageSize.{PageSize}
use Rattle.l4_msg.specs.Moves.{ItemMoves, MovePairs}
use Rattle.l4_record.proofs.Written.{carried_rights, carried_with}
use Rattle.l4_provenance_check.proofs.carrying.is_carried_by.Goals as goal

pub returns : goal.returns
returns c =
    let m = c.args.kernel.now in
    let s = c.args.sides.now in
    let pairs : (source target : ℕ) → MovePairs (Some c.in-Some.pages) source target ↔ ItemMoves m.size c.args.item.now s.window source target =
    subst (λ (z : PageSize). (source target : ℕ) → MovePairs (Some c.in-Some.pages) source target ↔ ItemMoves z c.args.item.now s.window source target) c.page_size.ensures c.in-Some.ensures.pages in
    let at = sym c.mapping.ensures ∙ c.in-Some-mapping.is in (
      λ h. carried_with m.size m.mappings s.«from» s.to s.window c.args.item.now c.args.link.now c.in-Some-mapping.shows c.if-link-sides.false c.if-link-sides-2.false
          ((pairs c.args.link.now.source.page c.args.link.now.target.page).0 (c.is_pair.ensures.0 c.if-not-is_pair.false)) at (c.has_rights.ensures.0 h),
      λ h. c.has_rights.ensures.1 (carried_rights m.size m.mappings s.«from» s.to s.window c.args.item.now c.args.link.now c.in-Some-mapping.shows h at),
    )
