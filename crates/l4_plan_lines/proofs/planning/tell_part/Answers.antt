use Rattle.std.proofs.Common.{◌≡◌, length, sym, ap, ◌∙◌, arith}
use Rattle.l4_msg.specs.Regions.{part_of_list}
use Rattle.l4_text.proofs.Telling.{tells_is}
use Rattle.l4_plan_lines.specs.Plans.{message_text, sending_words}
use Rattle.l4_plan_lines.proofs.TextSteps.{sending_is, part_lengths}
use Rattle.l4_plan_lines.proofs.planning.tell_part.Goals as goal

pub tell_message-requires : goal.tell_message-requires
tell_message-requires g c =
    let p = c.args.plan.now in
    let s = c.in-Ok.ensures.sends in
    let short = c.law_kept.ensures.2 in
    let e : length (part_of_list p.items c.args.number) ≡ length (part_of_list p.pages c.args.number) = part_lengths p.items p.pages c.args.number (sym short.one_each) in
    omega (arith, ap length c.as_slice.ensures.value, c.write.ensures.len, ap length s.untyped, ap length s.items_are, ap length c.as_slice-2.ensures.value, ap length c.pages_of.ensures)

pub returns : goal.returns
returns g c =
    let p = c.args.plan.now in
    let s = c.in-Ok.ensures.sends in
    let words : c.as_slice.result.now ≡ sending_words (part_of_list p.items c.args.number) = c.as_slice.ensures.value ∙ c.write.ensures.value ∙ sending_is (part_of_list p.items c.args.number) c.in-Ok.message s in
    let pages : c.as_slice-2.result.now ≡ part_of_list p.pages c.args.number = c.as_slice-2.ensures.value ∙ c.pages_of.ensures in
    tells_is _ _ _ _ _ _ (λ i. message_text (words i) (pages i)) c.tell_message.ensures
