use Rattle.std.proofs.Common.{◌≡◌, ◌∙◌, ◌++◌, ap, take, true, arith, rules}
use Rattle.l4_text.proofs.LineSteps.{kept_all, kept_part}
use Rattle.l4_text.proofs.lines.Line.add.Goals as goal

pub returns-then-bytes-room : goal.returns-then-bytes-room
returns-then-bytes-room c = λ before h.
    let is = c.self.view_is ∙ h in
    let e : c.extend.new.self ≡ c.self.inside.bytes ++ c.args.bytes.now = search rules in
    (λ i. (e i, c.self.inside.long)) ∙ kept_all before c.args.bytes.now c.self.inside.bytes c.self.inside.long _ (ap (λ p. p.0) is) (ap (λ p. p.1) is) c.room-room.ensures (omega arith)

pub returns-else-bytes-room : goal.returns-else-bytes-room
returns-else-bytes-room c = λ before h.
    let is = c.self.view_is ∙ h in
    let e : c.extend-else-bytes-room.new.self ≡ c.self.inside.bytes ++ take c.room-room.result c.args.bytes.now = search rules in
    (λ i. (e i, true)) ∙ kept_part before c.args.bytes.now c.self.inside.bytes _ (ap (λ p. p.0) is) c.room-room.ensures (omega arith)
