use Rattle.std.proofs.Common.{sym, ◌∙◌}
use Rattle.std.proofs.lemmas.Bool.{false≢true}
use Rattle.l4_text.proofs.Telling.{all_out, some_out}
use Rattle.l4_history.proofs.GoingOut.{all_answered, some_answered, stopped}
use Rattle.l4_history.proofs.telling.answered_history.Goals as goal

pub returns-in-Err : goal.returns-in-Err
returns-in-Err g c =
    let told = c.tell_answered-whole.ensures in
    some_answered _ _ _ _ _ _ _ _ c.in-Ok.kernel c.in-Ok.ensures.0 c.in-Ok.ensures.1 _ told.0 told.1 c.in-Some.ensures told.3
    (some_out _ _ _ _ _ _ c.new-out.ensures told.4 c.in-Err.ensures.err.1)

pub returns-then-not-whole : goal.returns-then-not-whole
returns-then-not-whole g c =
    let told = c.tell_answered-whole.ensures in
    stopped _ _ _ _ _ _ _ _ c.in-Ok.kernel c.in-Ok.ensures.0 c.in-Ok.ensures.1 _ told.0 told.1 c.in-Some.ensures told.3 (λ none. false≢true (sym c.if-not-whole.true ∙ told.2.1 none))
    (all_out _ _ _ _ _ _ c.new-out.ensures told.4 c.in_default-finish.ensures.ok)

pub returns : goal.returns
returns g c =
    let told = c.tell_answered-whole.ensures in
    all_answered _ _ _ _ _ _ _ _ c.in-Ok.kernel c.in-Ok.ensures.0 c.in-Ok.ensures.1 _ told.0 told.1 c.in-Some.ensures told.3 (told.2.0 c.if-not-whole.false)
    (all_out _ _ _ _ _ _ c.new-out.ensures told.4 c.in_default-finish.ensures.ok)
