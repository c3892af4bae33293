use Rattle.std.proofs.Common.{◌∙◌, arith, refl}
use Rattle.l4_merges.specs.declared.found.Found.{Found}
use Rattle.l4_merges.proofs.Covering.{end_found, end_one, on_kept, on_one, new_at}
use Rattle.l4_merges.proofs.exploring.note_outcome.Goals as goal

pub returns-in-Some-clause-found : goal.returns-in-Some-clause-found
returns-in-Some-clause-found g c =
    end_found g.M.Machine.HasOutcome c.args.state.now c.args.search.now.found.items c.as_slice.result.now c.in-Ok.outcome.items c.as_slice-2.result.now c.in-Some.place c.as_slice.ensures.value
    c.as_slice-2.ensures.value c.in-Some.ensures.place c.in-Ok.ensures

pub returns-then-is_err-clause-on : goal.returns-then-is_err-clause-on
returns-then-is_err-clause-on g c =
    on_kept g.M.Machine.enabled g.M.Machine.Turns g.M.Machine.HasOutcome c.args.search.now.path.items c.args.state.now c.args.search.now.found.items c.reserve.new.self.items c.reserve.ensures.items

pub returns-clause-found : goal.returns-clause-found
returns-clause-found g c =
    let one : Found = record { outcome = c.in-Ok.outcome; order = c.in-Ok-copied.order } in
    end_one g.M.Machine.HasOutcome c.args.state.now c.reserve.new.self.items c.push_reserved.new.self.items one c.len-place.result c.push_reserved.ensures.items (omega (arith, c.len-place.ensures, c.reserve.new.self.ok.0)) c.in-Ok.ensures

pub returns-clause-on : goal.returns-clause-on
returns-clause-on g c =
    let one : Found = record { outcome = c.in-Ok.outcome; order = c.in-Ok-copied.order } in
    on_one g.M.Machine.enabled g.M.Machine.Turns g.M.Machine.HasOutcome c.args.search.now.path.items c.args.state.now c.args.search.now.found.items
    c.reserve.new.self.items c.push_reserved.new.self.items one c.reserve.ensures.items c.push_reserved.ensures.items (new_at _ _ _ _ c.as_slice.ensures.value c.as_slice-2.ensures.value (c.in_default.ensures.new refl)) c.requires (c.in-Ok-copied.ensures ∙ c.as_slice-3.ensures.value) c.in-Ok.ensures
