use Rattle.std.proofs.Common.{◌<◌, length, ap, ◌∙◌, rules}
use Rattle.std.proofs.lemmas.List.{length-set}
use Rattle.l4_lock.specs.Books.{forgotten_book}
use Rattle.l4_lock.proofs.Books.{map_one}
use Rattle.l4_lock.proofs.accounts.forget_all.Goals as goal

pub loop-i-preserved : goal.loop-i-preserved
loop-i-preserved c =
    let within : c.loop-i.i < length c.args.accounts.now.items = search rules in (
      length-set c.loop-i.accounts.items c.loop-i.i c.forget.new.self ∙ c.loop-i.invariant.0,
      map_one forgotten_book c.args.accounts.now.items c.loop-i.accounts.items c.loop-i.i c.forget.new.self c.index_mut.result.now within c.loop-i.invariant.1
          (c.forget.ensures ∙ ap forgotten_book c.index_mut.ensures.value),
    )
