use Rattle.l4_msg.specs.Words.{ItemReads}
use Rattle.l4_plan_lines.proofs.SameLines.{same_words}
use Rattle.l4_plan_lines.proofs.reading.item_of_line.Goals as goal

pub returns-in_default : goal.returns-in_default
returns-in_default c item page h =
    let none = c.in_default.ensures.only h.first h.second page h.first_word h.second_word h.page_word h.spelled in
    absurd (cc)

pub returns-in_default-read : goal.returns-in_default-read
returns-in_default-read c item page h =
    let same = same_words c.in-Some.first c.in-Some.second c.in-Some.page h.first h.second page (c.in-Some.ensures.only h.first h.second page h.first_word h.second_word h.page_word h.spelled) in
    let reads : ItemReads c.in-Some.first c.in-Some.second item = rw (same.first, same.second) h.reads in
    let ok = c.in_default-read.ensures.only item reads in
    absurd (cc)
