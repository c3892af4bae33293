use Rattle.std.proofs.Common.{sym, ◌∙◌}
use Rattle.l4_record.proofs.Choice.{none_is, some_is}
use Rattle.l4_history.proofs.Found.{is_unknown, is_absent, is_found_absent, is_chain}
use Rattle.l4_history.proofs.asking.look.Goals as goal

pub returns-in_default-thread : goal.returns-in_default-thread
returns-in_default-thread g c =
    is_unknown c.args.frames c.args.size (g.H.Replayable.entries c.args.history.now) c.replay.new.kernel c.args.asked
    (record { boot = c.in-Ok.kernel; boots = c.in-Ok.ensures.0; size_is = c.in-Ok.ensures.1; run = c.in_default-replay.ensures.ok }) (sym c.in_default-thread.ensures)

pub returns-in_default-mapping : goal.returns-in_default-mapping
returns-in_default-mapping g c =
    is_absent c.args.frames c.args.size (g.H.Replayable.entries c.args.history.now) c.replay.new.kernel c.args.asked
    (record { boot = c.in-Ok.kernel; boots = c.in-Ok.ensures.0; size_is = c.in-Ok.ensures.1; run = c.in_default-replay.ensures.ok }) c.in-Some.thread.now (sym c.in-Some.ensures)
    (sym c.mapping.ensures ∙ c.in_default-mapping.is) c.look_back.result c.look_back.ensures

pub returns-in-Ok-Some : goal.returns-in-Ok-Some
returns-in-Ok-Some g c =
    let found = c.in-Ok-Some.ensures in
    is_chain c.args.frames c.args.size (g.H.Replayable.entries c.args.history.now) c.replay.new.kernel c.args.asked
    (record { boot = c.in-Ok.kernel; boots = c.in-Ok.ensures.0; size_is = c.in-Ok.ensures.1; run = c.in_default-replay.ensures.ok }) c.in-Some.thread.now (sym c.in-Some.ensures)
    c.in-Ok-Some.links c.in-Some-mapping.shows (found.0, found.1, some_is _ _ _ _ c.in-Ok-Some.field-0-is found.2) (sym c.mapping.ensures ∙ c.in-Some-mapping.is)

pub returns-in-Ok-None : goal.returns-in-Ok-None
returns-in-Ok-None g c =
    let found = c.in-Ok-None.ensures in
    is_found_absent c.args.frames c.args.size (g.H.Replayable.entries c.args.history.now) c.replay.new.kernel c.args.asked
    (record { boot = c.in-Ok.kernel; boots = c.in-Ok.ensures.0; size_is = c.in-Ok.ensures.1; run = c.in_default-replay.ensures.ok }) c.in-Some.thread.now (sym c.in-Some.ensures)
    (found.0, found.1, none_is _ _ _ c.in-Ok-None.field-0-is found.2) c.look_back-in-Ok-None.result c.look_back-in-Ok-None.ensures
