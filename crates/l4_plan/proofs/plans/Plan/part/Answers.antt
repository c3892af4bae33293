use Rattle.std.proofs.Common.{◌≡◌, ℕ, ◌-◌, ◌*◌, ◌≤◌, ◌%◌, length, map, min, refl, sym, ap, ◌∙◌, subst, arith}
use Rattle.std.specs.List.{All}
use Rattle.l4_msg.specs.Moves.{base_of}
use Rattle.l4_msg.specs.Regions.{part_of_list}
use Rattle.l4_plan.specs.Plan.{Listing}
use Rattle.l4_plan.specs.Inside.Split.{reached, starts_from, item_at}
use Rattle.l4_plan.proofs.Listed.{length_items, goes_on, part_is, bases_whole, passed_all}
use Rattle.l4_plan.proofs.plans.Plan.part.Goals as goal

pub overflow_mul-before : goal.overflow_mul-before
overflow_mul-before c =
    let e : c.self.inside.items ≡ length c.args.self.now.items = sym (length_items c.self.inside.size c.self.inside.region c.self.inside.region.source c.self.inside.items) ∙ ap (λ (p : Listing). length p.items) c.self.view_is in
    omega (arith, c.requires, c.self.invariant.few)

pub overflow_sub-all : goal.overflow_sub-all
overflow_sub-all c =
    let e : c.self.inside.items ≡ length c.args.self.now.items = sym (length_items c.self.inside.size c.self.inside.region c.self.inside.region.source c.self.inside.items) ∙ ap (λ (p : Listing). length p.items) c.self.view_is in
    omega (arith, c.requires)

pub items_from-requires-clause-goes : goal.items_from-requires-clause-goes
items_from-requires-clause-goes c =
    let r = c.self.inside.region in
    let n = c.self.inside.items in
    let e : n ≡ length c.args.self.now.items = sym (length_items c.self.inside.size r r.source n) ∙ ap (λ (p : Listing). length p.items) c.self.view_is in
    let within : c.args.number * 31 ≤ n = omega (arith, c.requires) in
    let p = c.pass-first.ensures in
    let all : c.pass-first.result.blocks ≡ c.args.number * 31 = passed_all c.self.inside.size r n (c.args.number * 31) c.pass-first.result.blocks c.pass-first.result.page c.self.invariant within p.few p.page p.all in
    rw p.page (goes_on c.self.inside.size r n c.pass-first.result.blocks c.min-blocks.result c.self.invariant (omega (arith, c.min-blocks.ensures)))

pub returns-clause-sends : goal.returns-clause-sends
returns-clause-sends c =
    let r = c.self.inside.region in
    let n = c.self.inside.items in
    let k = c.args.number in
    let e : n ≡ length c.args.self.now.items = sym (length_items c.self.inside.size r r.source n) ∙ ap (λ (p : Listing). length p.items) c.self.view_is in
    let within : k * 31 ≤ n = omega (arith, c.requires) in
    let p = c.pass-first.ensures in
    let all : c.pass-first.result.blocks ≡ k * 31 = passed_all c.self.inside.size r n (k * 31) c.pass-first.result.blocks c.pass-first.result.page c.self.invariant within p.few p.page p.all in
    let turned : k * 31 ≡ 31 * k = omega arith in
    let blocks : c.min-blocks.result ≡ min (n - 31 * k) 31 = c.min-blocks.ensures ∙ ap (λ (b : ℕ). min (n - b) 31) turned in
    let page : c.pass-first.result.page ≡ reached r r.source (31 * k) = p.page ∙ ap (λ (b : ℕ). reached r r.source b) (all ∙ turned) in
    record {
      label = refl;
      untyped = c.new.ensures;
      items_are = c.items_from.ensures ∙ (λ i. map (item_at c.self.inside.size r) (starts_from r (page i) (blocks i))) ∙ sym (part_is c.self.inside.size r n k) ∙ ap (λ (l : Listing). part_of_list l.items k) c.self.view_is;
    }

pub returns-clause-writable : goal.returns-clause-writable
returns-clause-writable c =
    let r = c.self.inside.region in
    let few : length c.items_from.result.items ≡ c.min-blocks.result = ap length c.items_from.ensures ∙ length_items c.self.inside.size r c.pass-first.result.page c.min-blocks.result in
    record {
      fits = omega (arith, few, c.min-blocks.ensures, ap length c.new.ensures);
      whole = subst (All (λ item. base_of item % 1024 ≡ 0)) (sym c.items_from.ensures) (bases_whole c.self.inside.size r (starts_from r c.pass-first.result.page c.min-blocks.result));
    }
