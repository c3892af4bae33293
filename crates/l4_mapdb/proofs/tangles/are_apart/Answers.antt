use Rattle.std.proofs.Common.{sym, ◌∙◌, arith}
use Rattle.std.proofs.lemmas.Bool.{false≢true}
use Rattle.l4_mapdb.proofs.Clashing.{read_there}
use Rattle.l4_mapdb.proofs.Apart.{ends_more, apart_more}
use Rattle.l4_mapdb.proofs.tangles.are_apart.Goals as goal
use Rattle.l4_mapdb.proofs.tangles.are_apart.Goals.{else-grants-via-then-grants+else-by-source, else-grants-via-else-grants}

pub loop-item-preserved : goal.loop-item-preserved
loop-item-preserved c =
    let at = read_there c.args.items.now c.loop-item.item c.index-items-item.result (omega (arith, c.loop-item-test.true)) c.index-items-item.is in
    record {
      ends = ends_more c.args.items.now c.loop-item.item c.loop-item.source c.loop-item.target c.loop-item.grants c.index-items-item.result at (omega (arith, c.if-by-target.false)) c.loop-item.invariant.ends c.end_of.result c.later_page-source.result c.end_of-target.result
          c.later_page-source.ensures.first c.later_page-source.ensures.second c.end_of.ensures.is c.end_of-target.ensures.is;
      apart = apart_more c.args.items.now c.loop-item.item c.loop-item.source c.loop-item.target c.loop-item.grants c.index-items-item.result at (omega (arith, c.if-by-target.false)) c.loop-item.invariant.ends
          (λ g. elim c.else-grants.branch [
            | else-grants-via-then-grants+else-by-source w ↦ (let f = w.if-by-source.false in omega (arith, f))
            | else-grants-via-else-grants w ↦ absurd (false≢true (sym w.if-grants.false ∙ g))
          ])
          c.loop-item.invariant.apart;
    }
