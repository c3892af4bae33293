use Rattle.std.proofs.Common.{refl, arith}
use Rattle.l4_fpage.specs.Fpages.{bytes_of}
use Rattle.l4_msg.proofs.Landing.{smaller_in, larger_in, pages_of}
use Rattle.l4_msg.proofs.Rivals.{bytes_aligned}
use Rattle.l4_msg.proofs.moves.item_moves.Goals as goal

pub returns-then-from-into-clause-pages : goal.returns-then-from-into-clause-pages
returns-then-from-into-clause-pages c s t =
    let f = c.in_ok-from in
    let w = c.in_ok-into in
    let pf = pages_of c.args.size (bytes_of c.fpage.result) f.from.first f.from.log (f.ensures.none.0 refl) f.ensures.exact in
    let pw = pages_of c.args.size (bytes_of c.args.window.now) w.into.first w.into.log (w.ensures.none.0 refl) w.ensures.exact in
    rw (← c.fpage.ensures, ← c.base.ensures) (smaller_in c.args.size c.base.result (bytes_of c.fpage.result) (bytes_of c.args.window.now) f.from.first f.from.log c.place.result.first w.into.first w.into.log pf pw (bytes_aligned c.args.window.now) c.if-from-into.true (rw (← c.page_of-page.ensures.value) c.place.ensures.first) s t)

pub returns-clause-pages : goal.returns-clause-pages
returns-clause-pages c s t =
    let f = c.in_ok-from in
    let w = c.in_ok-into in
    let pf = pages_of c.args.size (bytes_of c.fpage.result) f.from.first f.from.log (f.ensures.none.0 refl) f.ensures.exact in
    let pw = pages_of c.args.size (bytes_of c.args.window.now) w.into.first w.into.log (w.ensures.none.0 refl) w.ensures.exact in
    rw (← c.fpage.ensures, ← c.base.ensures, c.place-2.ensures.log) (larger_in c.args.size c.base.result (bytes_of c.fpage.result) (bytes_of c.args.window.now) f.from.first f.from.log c.place-2.result.first w.into.first w.into.log pf pw (bytes_aligned c.fpage.result) c.if-from-into.false (rw (← c.page_of-page.ensures.value) c.place-2.ensures.first) s t)

pub returns-then-from-into-clause-inside : goal.returns-then-from-into-clause-inside
returns-then-from-into-clause-inside c =
    record { source = c.in_ok-from.ensures.inside; target = rw c.place.ensures.log (omega (arith, c.place.ensures.within, c.in_ok-into.ensures.inside)) }

pub returns-clause-inside : goal.returns-clause-inside
returns-clause-inside c =
    record { source = rw c.place-2.ensures.log (omega (arith, c.place-2.ensures.within, c.in_ok-from.ensures.inside)); target = c.in_ok-into.ensures.inside }
