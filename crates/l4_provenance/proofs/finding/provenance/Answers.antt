use Rattle.std.proofs.Common.{List, sym, subst}
use Rattle.l4_ipc.specs.Machine.{Machine}
use Rattle.l4_record.specs.Chains.{IsProvenance}
use Rattle.l4_record.specs.Replays.{IsBootWith}
use Rattle.l4_record.specs.declared.links.ChainLink.{ChainLink}
use Rattle.l4_provenance.specs.declared.replaying.Arrival.{Arrival}
use Rattle.l4_provenance.proofs.Back.{Back, Came, came_of, back_next, found_all, found_none}
use Rattle.l4_provenance.proofs.finding.provenance.Goals as goal

pub returns-in-Absent : goal.returns-in-Absent
returns-in-Absent g c =
    let h = (g.H.Replayable.entries c.args.history.now) in
    let a = subst (λ (x : Arrival). Came c.args.frames c.args.size h c.loop-came.count c.loop-came.reached x) c.in-Absent.is
    (came_of c.args.frames c.args.size h c.loop-came.count c.loop-came.reached c.in-Ok.came c.in-Ok.ensures) in
    found_none c.args.frames c.args.size h c.args.place c.loop-came.count c.loop-came.reached c.loop-came.links.items c.loop-came.invariant a

pub returns-in-AtBoot : goal.returns-in-AtBoot
returns-in-AtBoot g c =
    let h = (g.H.Replayable.entries c.args.history.now) in
    let a = subst (λ (x : Arrival). Came c.args.frames c.args.size h c.loop-came.count c.loop-came.reached x) c.in-AtBoot.is
    (came_of c.args.frames c.args.size h c.loop-came.count c.loop-came.reached c.in-Ok.came c.in-Ok.ensures) in
    subst (λ (l : List ChainLink). (boot : Machine) × IsBootWith c.args.frames c.args.size boot × IsProvenance boot h c.args.place l) (sym c.reverse.ensures.items)
    (found_all c.args.frames c.args.size h c.args.place c.loop-came.count c.loop-came.reached c.loop-came.links.items c.loop-came.invariant a)

pub loop-came-preserved : goal.loop-came-preserved
loop-came-preserved g c =
    let h = (g.H.Replayable.entries c.args.history.now) in
    let a = subst (λ (x : Arrival). Came c.args.frames c.args.size h c.loop-came.count c.loop-came.reached x) c.in-By.is
    (came_of c.args.frames c.args.size h c.loop-came.count c.loop-came.reached c.in-Ok.came c.in-Ok.ensures) in
    let next = back_next c.args.frames c.args.size h c.args.place c.loop-came.count c.loop-came.reached c.loop-came.links.items c.in-By.link c.loop-came.invariant a in
    subst (λ (l : List ChainLink). Back c.args.frames c.args.size h c.args.place c.in-By.link.entry c.in-By.link.source l) (sym c.in_default.ensures.items) next.1
