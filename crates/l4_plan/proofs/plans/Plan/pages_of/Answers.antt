use Rattle.std.proofs.Common.{◌≡◌, ℕ, ◌-◌, ◌*◌, ◌≤◌, min, sym, ap, ◌∙◌, arith}
use Rattle.l4_msg.specs.Regions.{part_of_list}
use Rattle.l4_plan.specs.Plan.{Listing}
use Rattle.l4_plan.specs.Inside.Split.{reached, starts_from}
use Rattle.l4_plan.proofs.Listed.{goes_on, pages_part_is, no_pages_part, passed_all}
use Rattle.l4_plan.proofs.plans.Plan.pages_of.Goals as goal

pub returns-then-number : goal.returns-then-number
returns-then-number c =
    let r = c.self.inside.region in
    c.new.ensures ∙ no_pages_part r c.self.inside.items c.args.number (omega (arith, c.self.invariant.few, c.if-number.true)) ∙ ap (λ (p : Listing). part_of_list p.pages c.args.number) c.self.view_is

pub returns-then-before-all : goal.returns-then-before-all
returns-then-before-all c =
    let r = c.self.inside.region in
    c.new-then-before-all.ensures ∙ no_pages_part r c.self.inside.items c.args.number (omega (arith, c.if-before-all.true)) ∙ ap (λ (p : Listing). part_of_list p.pages c.args.number) c.self.view_is

pub starts_of-requires-clause-goes : goal.starts_of-requires-clause-goes
starts_of-requires-clause-goes c =
    let r = c.self.inside.region in
    let n = c.self.inside.items in
    let within : c.args.number * 31 ≤ n = omega arith in
    let p = c.pass-first.ensures in
    let all : c.pass-first.result.blocks ≡ c.args.number * 31 = passed_all c.self.inside.size r n (c.args.number * 31) c.pass-first.result.blocks c.pass-first.result.page c.self.invariant within p.few p.page p.all in
    rw p.page (goes_on c.self.inside.size r n c.pass-first.result.blocks c.min.result c.self.invariant (omega (arith, c.min.ensures)))

pub returns : goal.returns
returns c =
    let r = c.self.inside.region in
    let n = c.self.inside.items in
    let k = c.args.number in
    let within : k * 31 ≤ n = omega arith in
    let p = c.pass-first.ensures in
    let all : c.pass-first.result.blocks ≡ k * 31 = passed_all c.self.inside.size r n (k * 31) c.pass-first.result.blocks c.pass-first.result.page c.self.invariant within p.few p.page p.all in
    let turned : k * 31 ≡ 31 * k = omega arith in
    let blocks : c.min.result ≡ min (n - 31 * k) 31 = c.min.ensures ∙ ap (λ (b : ℕ). min (n - b) 31) turned in
    let page : c.pass-first.result.page ≡ reached r r.source (31 * k) = p.page ∙ ap (λ (b : ℕ). reached r r.source b) (all ∙ turned) in
    c.starts_of.ensures ∙ (λ i. starts_from r (page i) (blocks i)) ∙ sym (pages_part_is r n k) ∙ ap (λ (l : Listing). part_of_list l.pages k) c.self.view_is
