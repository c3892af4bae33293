use Rattle.std.proofs.Common.{◌≡◌, ◌↔◌, ℕ, List, IsTrue, MatchResult, ap, ◌∙◌, subst}
use Rattle.l4_fpage.specs.declared.sizes.PageSize.{PageSize}
use Rattle.l4_ipc.specs.Machine.{Machine}
use Rattle.l4_lock.specs.Locked.{Lock}
use Rattle.l4_record.specs.declared.entries.Entry.{Entry}
use Rattle.l4_record.specs.Laws.{IsWholeRun}
use Rattle.l4_record.specs.Segments.{kept}
use Rattle.l4_record.specs.Chains.{IsProvenance}
use Rattle.l4_record.specs.Replays.{IsBootWith, IsReplayed, IsNotReplayed}
use Rattle.l4_seated_lock.proofs.Tracing.{of_lock, not_repeated}
use Rattle.l4_seated_lock.proofs.seated.SeatedLock.check_trace.Goals as goal

pub returns : goal.returns
returns c =
    not_repeated c.args.self.now c.check_provenance.result _ (subst (λ (l : Lock). IsWholeRun l.frames l.history l.kernel) c.self.view_is c.law_history.ensures)
    (of_lock
    (λ (frames : ℕ) (size : PageSize) (history : List Entry). MatchResult c.check_provenance.result
    (λ yes. (boot : Machine) × IsBootWith frames size boot × IsReplayed boot history × (IsTrue yes ↔ IsProvenance boot history c.args.place c.args.links.now))
    (IsNotReplayed frames size history))
    c.self.inside.locked c.args.self.now c.self.view_is c.frames.result c.frames.ensures c.kernel.result.now c.kernel.ensures c.page_size-size.result c.page_size-size.ensures
    c.history.result.now.entries (c.history.ensures ∙ ap (λ (n : ℕ). kept n c.args.self.now.history) c.requires) c.check_provenance.ensures)
