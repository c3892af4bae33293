use Rattle.std.proofs.Common.{List, [], ◌∷◌, ◌++◌, ap, ◌∙◌}
use Rattle.l4_merges.specs.declared.graph.Seen.{Seen}
use Rattle.l4_merges.specs.Inside.Tables.{digest_of}
use Rattle.l4_merges.proofs.Visiting.{indexed_push}
use Rattle.l4_merges.proofs.exploring.keep.Goals as goal

pub returns-clause-indexed : goal.returns-clause-indexed
returns-clause-indexed c =
    indexed_push c.args.search.now.table c.add.new.self c.args.search.now.seen.items c.push_reserved.new.self.items c.args.one c.digest_of.result c.requires.indexed c.requires.new (c.digest_of.ensures ∙ ap digest_of c.as_slice.ensures.value)
    (c.add.ensures.digests c.if-not-add.false) (c.add.ensures.table c.if-not-add.false) (c.push_reserved.ensures.items ∙ ap (λ (l : List Seen). l ++ c.args.one ∷ []) c.reserve.ensures.items)
