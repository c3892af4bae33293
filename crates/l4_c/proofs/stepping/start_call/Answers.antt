use Rattle.std.proofs.Common.{ℕ, Ok, Err, refl, ap, ◌∙◌}
use Rattle.l4_answers.specs.Refusals.{kernel_refusal}
use Rattle.l4_refusals.specs.Texts.{spelled}
use Rattle.l4_c_values.specs.Told.{refusal_result}
use Rattle.l4_c.proofs.stepping.start_call.Goals as goal

pub returns-in-Ok : goal.returns-in-Ok
returns-in-Ok c = (Ok c.start.new.answer, c.start.new.self, c.in-Ok.ensures.ok, c.answered.ensures, refl)

pub returns-in-Err : goal.returns-in-Err
returns-in-Err c = (
  Err c.in-Err.e,
  c.start.new.self,
  c.in-Err.ensures.err,
  c.refused.ensures
      ∙ ap (λ (code : ℕ). refusal_result code c.kernel_detail.result) c.kernel_number.ensures
      ∙ ap (λ (number : ℕ). refusal_result (spelled (kernel_refusal c.in-Err.e).name) number) c.kernel_detail.ensures,
  refl,
)
