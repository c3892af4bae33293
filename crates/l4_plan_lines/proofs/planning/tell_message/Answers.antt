use Rattle.std.proofs.Common.{◌≤◌, arith, length}
use Rattle.l4_plan_lines.proofs.TextSteps.{told_head, head_left, told_item, told_all, items_end, rest_length}
use Rattle.l4_plan_lines.proofs.planning.tell_message.Goals as goal

pub loop-page-init : goal.loop-page-init
loop-page-init g c = record {
  told = told_head _ _ _ _ c.args.words.now c.args.pages.now _ (omega arith) c.tag_text.ensures.value c.tell_line.ensures;
  left = head_left c.args.words.now c.args.pages.now c.requires;
}

pub loop-page-preserved : goal.loop-page-preserved
loop-page-preserved g c =
    let two : 2 ≤ length c.loop-page.rest.now = omega (arith, c.loop-page.invariant.left) in
    record {
      told = told_item _ _ _ _ _ _ _ c.loop-page.rest.now c.args.pages.now c.loop-page.page-index _ two (omega arith) c.loop-page.invariant.told c.item_text.ensures.value c.tell_line-in-loop-page.ensures;
      left = omega (arith, rest_length c.loop-page.rest.now two, c.loop-page.invariant.left);
    }

pub returns : goal.returns
returns g c =
    told_all _ _ _ _ _ _ c.loop-page.invariant.told (items_end c.loop-page.rest.now c.args.pages.now c.loop-page.page-index c.loop-page.invariant.left c.loop-page-test.false)
