use Rattle.std.proofs.Common.{sym, ◌∙◌, ap}
use Rattle.std.proofs.lemmas.Option.{get_or_from_slice_get}
use Rattle.l4_fpage.specs.Fpages.{rights_of}
use Rattle.l4_fpage.specs.Rights.{common}
use Rattle.l4_msg.specs.Moves.{fpage_of}
use Rattle.l4_record.proofs.Same.{none_is, some_is}
use Rattle.l4_provenance.proofs.Moving.{keeps_page, moves_page}
use Rattle.l4_provenance.proofs.moves.moved_page.Goals as goal

pub returns-then-is_empty : goal.returns-then-is_empty
returns-then-is_empty c =
    let named = c.rights.ensures ∙ ap rights_of (c.fpage.ensures ∙ ap fpage_of (get_or_from_slice_get c.args.letter.now.items.now c.args.item c.requires.pages.by c.index-letter-item.result c.requires.pages.at)) in
    keeps_page _ _ _ _ _ _ _ _ c.requires.pages.by c.in-Some.shows c.requires.pages.at (sym c.mapping.ensures ∙ c.in-Some.is)
    (sym (c.intersection-rights.ensures ∙ ap (common c.in-Some.shows.rights) named) ∙ none_is _ (sym c.is_empty.ensures ∙ c.if-is_empty.true))

pub returns : goal.returns
returns c =
    let named = c.rights.ensures ∙ ap rights_of (c.fpage.ensures ∙ ap fpage_of (get_or_from_slice_get c.args.letter.now.items.now c.args.item c.requires.pages.by c.index-letter-item.result c.requires.pages.at)) in
    moves_page _ _ _ _ _ _ _ _ c.args.pages c.in-Some.shows _ c.requires.pages c.requires.page (sym c.mapping.ensures ∙ c.in-Some.is)
    (c.intersection-rights.ensures ∙ ap (common c.in-Some.shows.rights) named) (some_is _ (sym c.is_empty.ensures ∙ c.if-is_empty.false))
