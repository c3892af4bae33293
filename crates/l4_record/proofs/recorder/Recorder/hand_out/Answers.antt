use Rattle.std.proofs.Common.{ap, ◌∙◌, ◌+◌, arith}
use Rattle.l4_record.specs.Lists.{EntryList}
use Rattle.l4_record.proofs.Parting.{now_handed, handed_kept}
use Rattle.l4_record.proofs.recorder.Recorder.hand_out.Goals as goal

pub invariant_of-self : goal.invariant_of-self
invariant_of-self c =
    let a = c.self.inside in
    let empty = ap (λ (h : EntryList). h.entries) c.replace-history.ensures.after ∙ c.new.ensures in
    let end = ap (λ k. a.kept_from + k) c.len.ensures in (
      handed_kept a.frames a.kernel a.past.entries _ a.history.entries _ a.kept_from _ a.publisher.board a.publisher.shown c.with-self-inside.ensures empty end c.self.invariant.1 c.self.invariant.0
          (let no_more = c.if-end-gt-MAX_HANDED_OUT.false in omega (arith, no_more)),
      now_handed a.frames a.kernel a.past.entries _ a.history.entries _ a.kept_from _ a.publisher.board a.publisher.shown c.with-self-inside.ensures empty end c.self.invariant.1,
    )
