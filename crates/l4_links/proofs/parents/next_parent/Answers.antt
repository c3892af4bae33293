use Rattle.std.proofs.Common.{◌∙◌, arith}
use Rattle.l4_links.proofs.ParentWalk.{none_from, found_from}
use Rattle.l4_links.proofs.Results.{match_both}
use Rattle.l4_links.proofs.parents.next_parent.Goals as goal

pub returns-in-Some : goal.returns-in-Some
returns-in-Some c = grind arith

pub returns : goal.returns
returns c =
    match_both c.seek_parent.result _ _ _ _
    (none_from c.args.nodes.now.slots c.args.pages.now c.args.space c.args.page c.args.end (λ key is. c.in_default.ensures key (c.get.ensures.value ∙ is)) c.args.end)
    (λ found. found_from c.args.nodes.now.slots c.args.pages.now c.args.space c.args.page c.args.end (λ key is. c.in_default.ensures key (c.get.ensures.value ∙ is)) found.0 found.1)
    c.seek_parent.ensures
