use Rattle.std.proofs.Common.{◌≡◌, ◌<◌, ◌∙◌, ap, length, Bool, Ok, arith}
use Rattle.std.proofs.lemmas.Result.{err_from_is_err_and}
use Rattle.std.proofs.lemmas.Bool.Decides.{nat_tests}
use Rattle.l4_text.proofs.LineSteps.{takes_line, takes_all, takes_rest, so_far_more, gives_line, empty_list}
use Rattle.l4_text.proofs.lines.next_line.Goals as goal

pub returns-then-found : goal.returns-then-found
returns-then-found g c =
    let s = c.loop-turn.invariant in
    gives_line _ _ _ _ _ _ (takes_line _ _ _ _ _ _ _ _ _ _ s c.pending-pending.ensures c.line_len-count.ensures.value c.if-found.true (c.add.ensures s.bytes s.kept_is) c.take.ensures) c.ending.ensures

pub returns-in_err-fill : goal.returns-in_err-fill
returns-in_err-fill g c =
    let s = c.loop-turn.invariant in
    let all = takes_all _ _ _ _ _ _ _ _ _ _ s c.pending-pending.ensures c.line_len-count.ensures.value c.line_len-count.ensures.within c.if-found.false (c.add.ensures s.bytes s.kept_is) c.take-in-loop-turn.ensures in
    let fault = c.fill.ensures.fault _ c.in_err-fill.was in
    let p = err_from_is_err_and c.from_residual.result c.from_residual.ensures.1 in
    rw (p.1, p.2) (takes_rest _ _ _ _ _ _ _ _ all.0 all.1 fault.1 (fault.2 all.1), fault.0)

pub returns-then-is_empty : goal.returns-then-is_empty
returns-then-is_empty g c =
    let s = c.loop-turn.invariant in
    let all = takes_all _ _ _ _ _ _ _ _ _ _ s c.pending-pending.ensures c.line_len-count.ensures.value c.line_len-count.ensures.within c.if-found.false (c.add.ensures s.bytes s.kept_is) c.take-in-loop-turn.ensures in
    let none = c.fill.ensures.none (c.in_ok-fill.was ∙ ap (λ (b : Bool). Ok b) c.if-not-branch.true) in
    let zero : length c.add.new.self.0 ≡ 0 = grind (arith, nat_tests) in
    (takes_rest _ _ _ _ _ _ _ _ all.0 all.1 none.0 none.2, none.1, empty_list _ zero)

pub returns-else-is_empty : goal.returns-else-is_empty
returns-else-is_empty g c =
    let s = c.loop-turn.invariant in
    let all = takes_all _ _ _ _ _ _ _ _ _ _ s c.pending-pending.ensures c.line_len-count.ensures.value c.line_len-count.ensures.within c.if-found.false (c.add.ensures s.bytes s.kept_is) c.take-in-loop-turn.ensures in
    let none = c.fill.ensures.none (c.in_ok-fill.was ∙ ap (λ (b : Bool). Ok b) c.if-not-branch.true) in
    let some : 0 < length c.add.new.self.0 = grind (arith, nat_tests) in
    (takes_rest _ _ _ _ _ _ _ _ all.0 all.1 none.0 none.2, none.1, some)

pub loop-turn-preserved : goal.loop-turn-preserved
loop-turn-preserved g c =
    let s = c.loop-turn.invariant in
    let all = takes_all _ _ _ _ _ _ _ _ _ _ s c.pending-pending.ensures c.line_len-count.ensures.value c.line_len-count.ensures.within c.if-found.false (c.add.ensures s.bytes s.kept_is) c.take-in-loop-turn.ensures in
    let more = c.fill.ensures.more (c.in_ok-fill.was ∙ ap (λ (b : Bool). Ok b) c.if-not-branch.false) in
    so_far_more _ _ _ _ _ _ _ _ all.0 all.1 more.0 more.2 more.3 more.4
