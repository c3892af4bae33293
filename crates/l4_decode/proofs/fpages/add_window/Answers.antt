use Rattle.std.proofs.Common.{refl, ℕ, List, ◌++◌, ap, sym, ◌∙◌}
use Rattle.l4_decode.specs.Refusals.{refusal_text}
use Rattle.l4_decode.proofs.Fields.{window_is, no_window_is}
use Rattle.l4_decode.proofs.fpages.add_window.Goals as goal

pub returns-in-Ok-clause-value : goal.returns-in-Ok-clause-value
returns-in-Ok-clause-value c =
    c.add_taken.ensures.value ∙ ap (λ (t : List ℕ). c.args.text.now ++ t) (sym (window_is c.args.size c.args.word c.in-Ok.window c.in-Ok.ensures.ok))

pub returns-in-Err-clause-value : goal.returns-in-Err-clause-value
returns-in-Err-clause-value c =
    c.add_refusal.ensures.value
    ∙ ap (λ (t : List ℕ). c.args.text.now ++ t) (ap refusal_text c.in-Err.ensures.err ∙ sym (no_window_is c.args.size c.args.word (c.in-Err.ensures.bad.0 refl)))
