use Rattle.std.proofs.Common.{ap, sym, ◌∙◌, ℕ, ◌++◌, List, drop, subst, inr}
use Rattle.std.proofs.lemmas.Result.{IfOk-weaker, IfErr-weaker}
use Rattle.l4_segments.specs.Faults.{FieldFails}
use Rattle.l4_segments.specs.Files.{bytes_of}
use Rattle.l4_segments.proofs.headings.read_heading.Goals as goal

pub returns : goal.returns
returns c =
    let words : List ℕ = c.read_words.new.out.items in record {
      ok = IfOk-weaker c.heading_of.result _ _ (λ h f. record {
        heading = f.0;
        bytes_are = c.read_words.ensures.items ∙ ap (λ (l : List ℕ). bytes_of l ++ drop 32 c.args.bytes.now) (sym c.as_slice.ensures.words ∙ f.1);
        within = c.if-bytes-lt-HEADING_BYTES.false;
      }) c.heading_of.ensures.ok;
      err = IfErr-weaker c.heading_of.result _ _ (λ fault f. inr (
        words,
        c.read_words.ensures.count,
        c.read_words.ensures.words,
        c.read_words.ensures.items,
        subst (λ (l : List ℕ). FieldFails l fault.kind fault.position) c.as_slice.ensures.words f,
      )) c.heading_of.ensures.err;
    }
