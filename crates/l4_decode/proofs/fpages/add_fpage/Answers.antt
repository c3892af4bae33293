use Rattle.std.proofs.Common.{refl, ℕ, List, ◌++◌, ap, sym, ◌∙◌}
use Rattle.l4_decode.specs.Fpages.{place_text, granted_text}
use Rattle.l4_decode.proofs.Fields.{fpage_is, no_fpage_is}
use Rattle.l4_decode.proofs.Pieces.{text_more}
use Rattle.l4_decode.proofs.fpages.add_fpage.Goals as goal

pub returns-in-Ok-clause-value : goal.returns-in-Ok-clause-value
returns-in-Ok-clause-value c =
    text_more c.args.text.now c.add_place.new.text c.add_granted.new.text (place_text c.args.size c.in-Ok.fpage) (granted_text c.in-Ok.fpage) c.add_place.ensures.value c.add_granted.ensures.value
    ∙ ap (λ (t : List ℕ). c.args.text.now ++ t) (sym (fpage_is c.args.size c.args.word c.in-Ok.fpage c.in-Ok.ensures.ok))

pub returns-in-Err-clause-value : goal.returns-in-Err-clause-value
returns-in-Err-clause-value c =
    c.add_no_fpage.ensures.value ∙ ap (λ (t : List ℕ). c.args.text.now ++ t) (sym (no_fpage_is c.args.size c.args.word (c.in-Err.ensures.err.0 refl)))
