use Rattle.std.proofs.Common.{◌≡◌, ℕ, List, MatchOption, MatchResult, ap, ◌∙◌, subst}
use Rattle.l4_fpage.specs.declared.sizes.PageSize.{PageSize}
use Rattle.l4_ipc.specs.Machine.{Machine}
use Rattle.l4_lock.specs.Locked.{Lock}
use Rattle.l4_record.specs.declared.entries.Entry.{Entry}
use Rattle.l4_record.specs.Laws.{IsWholeRun}
use Rattle.l4_record.specs.Segments.{kept}
use Rattle.l4_record.specs.Chains.{IsProvenance, IsAbsent}
use Rattle.l4_record.specs.Replays.{IsBootWith, IsNotReplayed}
use Rattle.l4_seated_lock.proofs.Tracing.{of_lock, not_repeated}
use Rattle.l4_seated_lock.proofs.seated.SeatedLock.trace.Goals as goal

pub returns : goal.returns
returns c =
    not_repeated c.args.self.now c.provenance.result _ (subst (λ (l : Lock). IsWholeRun l.frames l.history l.kernel) c.self.view_is c.law_history.ensures)
    (of_lock
    (λ (frames : ℕ) (size : PageSize) (history : List Entry). MatchResult c.provenance.result
    (λ found. (boot : Machine) × IsBootWith frames size boot
    × MatchOption found (IsAbsent boot history c.args.place) (λ links. IsProvenance boot history c.args.place links.items))
    (IsNotReplayed frames size history))
    c.self.inside.locked c.args.self.now c.self.view_is c.frames.result c.frames.ensures c.kernel.result.now c.kernel.ensures c.page_size-size.result c.page_size-size.ensures
    c.history.result.now.entries (c.history.ensures ∙ ap (λ (n : ℕ). kept n c.args.self.now.history) c.requires) c.provenance.ensures)
