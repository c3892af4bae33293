use Rattle.l4_keys.specs.Keys.{has_page, AreOfPage}
use Rattle.l4_keys.proofs.Listing.{begun}
use Rattle.l4_keys.proofs.Writing.{on_ok, page_more, pages_end}
use Rattle.l4_keys.proofs.kernels.put_pages.Goals as goal

pub loop-page-init : goal.loop-page-init
loop-page-init c = begun (has_page c.args.kernel.now.mappings c.args.space) (AreOfPage c.args.kernel.now.mappings c.args.space) c.args.out.now.items

pub loop-page-preserved : goal.loop-page-preserved
loop-page-preserved c =
    page_more c.args.kernel.now.mappings c.args.space c.args.out.now.items c.loop-page.from c.in-Some.page _ c.in-Some-mapping.mapping c.loop-page.out.items c.put.new.out.items _
    c.loop-page.invariant c.in-Some.ensures c.in-Some-mapping.ensures c.in_ok-put.ensures c.in_ok-put_mapping.ensures c.in-Some-checked_add.ensures.1

pub returns : goal.returns
returns c =
    on_ok c.put-2.result (pages_end c.args.kernel.now.mappings c.args.space c.args.out.now.items c.loop-page.out.items c.put-2.new.out.items c.loop-page.from c.loop-page.invariant c.in_default.ensures) c.put-2.ensures
