use Rattle.std.proofs.Common.{◌≡◌, length}
use Rattle.l4_text.specs.Tokens.{tokens_of}
use Rattle.l4_rules.specs.Forms.{has_form}
use Rattle.l4_rules.proofs.forms.has_form.Given as goal

abbrev pub invariant-loop-token : goal.invariant-loop-token
invariant-loop-token l = has_form l.names l.words (tokens_of l.form) (tokens_of l.answer) ≡ has_form l.names l.words (tokens_of l.left) (tokens_of l.right)

abbrev pub decreases-loop-token : goal.decreases-loop-token
decreases-loop-token l = length (tokens_of l.left)
