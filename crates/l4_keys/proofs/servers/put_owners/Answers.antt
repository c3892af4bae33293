use Rattle.std.proofs.Common.{◌∙◌, ◌++◌, ◌∷◌, []}
use Rattle.l4_keys.specs.Keys.{has_owner, AreOfFrame}
use Rattle.l4_keys.proofs.Listing.{begun}
use Rattle.l4_keys.proofs.Writing.{on_ok, owner_more, owners_end}
use Rattle.l4_keys.proofs.servers.put_owners.Goals as goal

pub loop-frame-init : goal.loop-frame-init
loop-frame-init c = begun (has_owner c.args.owners.now) (AreOfFrame c.args.owners.now) c.args.out.now.items

pub loop-frame-preserved : goal.loop-frame-preserved
loop-frame-preserved c =
    owner_more c.args.owners.now c.args.out.now.items c.loop-frame.from c.in-Some.frame _ c.in-Some.space c.loop-frame.out.items c.put.new.out.items
    c.loop-frame.invariant c.in-Some.ensures (c.in_ok-put.ensures ∙ (λ i. c.loop-frame.out.items ++ 1 ∷ c.in-Some.frame ∷ c.low.ensures i ∷ c.high.ensures i ∷ [])) c.in-Some-checked_add.ensures.1

pub returns : goal.returns
returns c =
    on_ok c.put-2.result (owners_end c.args.owners.now c.args.out.now.items c.loop-frame.out.items c.put-2.new.out.items c.loop-frame.from c.loop-frame.invariant c.in_default.ensures) c.put-2.ensures
