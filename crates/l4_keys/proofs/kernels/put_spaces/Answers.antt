use Rattle.std.proofs.Common.{◌∙◌, ◌++◌, ◌∷◌, []}
use Rattle.l4_keys.specs.Keys.{has_space, AreOfSpace}
use Rattle.l4_keys.proofs.Listing.{begun}
use Rattle.l4_keys.proofs.Writing.{on_ok, space_more, spaces_end}
use Rattle.l4_keys.proofs.kernels.put_spaces.Goals as goal

pub loop-space-init : goal.loop-space-init
loop-space-init c = begun (has_space c.args.kernel.now.mappings) (AreOfSpace c.args.kernel.now.mappings) c.args.out.now.items

pub loop-space-preserved : goal.loop-space-preserved
loop-space-preserved c =
    space_more c.args.kernel.now.mappings c.args.out.now.items c.loop-space.from c.in-Some.space _ c.loop-space.out.items c.put.new.out.items _
    c.loop-space.invariant c.in-Some.ensures (c.in_ok-put.ensures ∙ (λ i. c.loop-space.out.items ++ 1 ∷ c.low.ensures i ∷ c.high.ensures i ∷ [])) c.in_ok-put_pages.ensures c.in-Some-checked_add.ensures.1

pub returns : goal.returns
returns c =
    on_ok c.put-2.result (spaces_end c.args.kernel.now.mappings c.args.out.now.items c.loop-space.out.items c.put-2.new.out.items c.loop-space.from c.loop-space.invariant c.in_default.ensures) c.put-2.ensures
