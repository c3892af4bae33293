use Rattle.l4_options.proofs.Asking.{steps_asked, steps_shown}
use Rattle.l4_options.proofs.step_commands.requested.Goals as goal

pub returns-in-Err : goal.returns-in-Err
returns-in-Err g c = steps_shown c.in-Ok.command _ c.in-Err.error c.without_matches.result c.in-Ok.ensures c.in-Err.ensures.kinds c.without_matches.ensures

pub returns : goal.returns
returns g c =
    let parsed = c.in-Ok-try_get_matches_from.ensures in
    steps_asked c.in-Ok.command _ c.in-Ok-try_get_matches_from.matches c.step_request.result c.in-Ok.ensures parsed.matches parsed.kinds c.step_request.ensures
