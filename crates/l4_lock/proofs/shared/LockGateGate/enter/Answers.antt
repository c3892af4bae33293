use Rattle.std.proofs.Common.{◌≡◌, ◌++◌, ◌∷◌, [], refl, ap, ◌∙◌, subst}
use Rattle.l4_lock.specs.Shared.{Declines, GateState, gate_state, pairs_of, IsAnswered, GateAccepts}
use Rattle.l4_lock.proofs.Gates.{gains_pair}
use Rattle.l4_lock.proofs.shared.LockGateGate.enter.Goals as goal

pub returns-in-Err : goal.returns-in-Err
returns-in-Err g c =
    let same : gate_state c.self.inside.first c.call.new.seat ≡ c.args.self.now = ap (gate_state c.self.inside.first) c.in-Err.ensures.err ∙ c.self.view_is in
    let declines : Declines c.args.self.now.seat.number c.args.call c.in-Err.refusal =
    subst (λ (x : GateState). Declines x.seat.number c.args.call c.in-Err.refusal) c.self.view_is c.in-Err.ensures.refuses in
    (ap pairs_of same, (same, (c.in-Err.refusal, declines, c.number.ensures)))

pub returns : goal.returns
returns g c =
    let first = c.self.inside.first in
    let before = c.self.inside.seat in
    let after = c.call.new.seat in
    let answered : IsAnswered before after c.args.call c.in-Ok.reply = c.in-Ok.ensures.ok in
    let accepted : GateAccepts (gate_state first before) c.args.call c.in-Ok.reply (gate_state first after) = (refl, answered) in (
      gains_pair first before after c.args.call c.in-Ok.reply c.self.invariant answered ∙ ap (λ (x : GateState). pairs_of x ++ (c.args.call, c.in-Ok.reply) ∷ []) c.self.view_is,
      subst (λ (x : GateState). GateAccepts x c.args.call c.in-Ok.reply (gate_state first after)) c.self.view_is accepted,
    )
