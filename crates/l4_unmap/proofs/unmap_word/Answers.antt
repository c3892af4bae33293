use Rattle.std.proofs.Common.{subst, ◌∷◌, []}
use Rattle.l4_fpage.specs.declared.fpages.Fpage.{Fpage}
use Rattle.l4_fpage.proofs.Same.{reads_same}
use Rattle.l4_unmap.specs.Unmap.{Unmaps}
use Rattle.l4_unmap.proofs.Pages.{takes_pages}
use Rattle.l4_unmap.proofs.OneByOne.{takes_none, takes_block}
use Rattle.l4_unmap.proofs.unmap_word.Goals as goal

pub returns-in-Some : goal.returns-in-Some
returns-in-Some c = λ fpage reads.
    subst (λ (f : Fpage). Unmaps c.args.size c.args.space c.args.own (f ∷ []) c.args.forest.now c.revoke_block.new.self) (reads_same c.args.word c.in-Ok.fpage fpage c.in-Ok.ensures.ok reads)
    (takes_block c.args.size c.args.space c.args.own c.in-Ok.fpage c.in-Some.block.first c.in-Some.block.log c.rights.result c.args.forest.now c.revoke_block.new.self
    c.in-Some.ensures.pages c.rights.ensures
    (takes_pages c.args.space c.in-Some.block.first c.in-Some.block.log c.rights.result c.args.own c.args.forest.now c.revoke_block.new.self c.revoke_block.ensures))

pub returns-in_default-pages : goal.returns-in_default-pages
returns-in_default-pages c = λ fpage reads.
    subst (λ (f : Fpage). Unmaps c.args.size c.args.space c.args.own (f ∷ []) c.args.forest.now c.args.forest.now) (reads_same c.args.word c.in-Ok.fpage fpage c.in-Ok.ensures.ok reads)
    (takes_none c.args.size c.args.space c.args.own c.in-Ok.fpage c.args.forest.now c.requires (λ page. (c.in_default-pages.ensures.pages page).1))
