use Rattle.std.proofs.Common.{◌<◌, length, slice_set, ap, ◌∙◌, rules}
use Rattle.std.proofs.lemmas.List.{length-set}
use Rattle.std.proofs.lemmas.List.Edits.{map_over_more}
use Rattle.l4_lock.specs.Books.{forgotten_seat}
use Rattle.l4_seated_lock.proofs.seated.forget_all.Goals as goal

pub loop-i-preserved : goal.loop-i-preserved
loop-i-preserved c =
    let within : c.loop-i.i < length c.args.seats.now.items = search rules in (
      length-set c.loop-i.seats.items c.loop-i.i c.forget.new.self ∙ c.loop-i.invariant.0,
      ap (λ p. slice_set c.loop-i.seats.items c.loop-i.i p) c.forget.ensures
          ∙ map_over_more forgotten_seat c.args.seats.now.items c.loop-i.seats.items c.loop-i.i c.index_mut.result.now within c.loop-i.invariant.1 c.index_mut.ensures.value,
    )
