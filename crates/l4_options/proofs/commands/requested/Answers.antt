use Rattle.l4_options.proofs.Asking.{asked, shown}
use Rattle.l4_options.proofs.commands.requested.Goals as goal

pub returns-in-Err : goal.returns-in-Err
returns-in-Err g c = shown c.in-Ok.command _ c.in-Err.error c.without_matches.result c.in-Ok.ensures c.in-Err.ensures.kinds c.without_matches.ensures

pub returns-in-Some : goal.returns-in-Some
returns-in-Some g c =
    let parsed = c.in-Ok-try_get_matches_from.ensures in
    asked c.in-Ok.command _ c.in-Ok-try_get_matches_from.matches c.in-Some.name.now _ c.command_options.result c.in-Ok.ensures parsed.matches parsed.kinds c.in-Some.ensures.name c.in-Some.ensures.rows c.command_options.ensures
