use Rattle.std.proofs.Common.{◌+◌, ◌-◌, length, arith}
use Rattle.l4_merges.proofs.Linking.{looks_first, looks_at, looks_on}
use Rattle.l4_merges.proofs.exploring.known.Goals as goal

pub loop-visited-init : goal.loop-visited-init
loop-visited-init c = looks_first c.args.table.now c.args.seen.now c.args.key.now c.digest_of.result c.last-next.result (length c.args.seen.now - 0) (omega arith) c.requires c.digest_of.ensures c.last-next.ensures

pub has_key-requires : goal.has_key-requires
has_key-requires c = (looks_at c.args.table.now c.args.seen.now c.args.key.now c.loop-visited.next (length c.args.seen.now - c.loop-visited.visited) c.requires (omega arith) c.loop-visited.invariant c.if-next-eq0.false).0

pub returns-then-has_key-clause-place : goal.returns-then-has_key-clause-place
returns-then-has_key-clause-place c = c.has_key.ensures.yes c.if-has_key.true

pub before-next-requires-clause-place : goal.before-next-requires-clause-place
before-next-requires-clause-place c = (looks_at c.args.table.now c.args.seen.now c.args.key.now c.loop-visited.next (length c.args.seen.now - c.loop-visited.visited) c.requires (omega arith) c.loop-visited.invariant c.if-next-eq0.false).1

pub loop-visited-preserved : goal.loop-visited-preserved
loop-visited-preserved c =
    looks_on c.args.table.now c.args.seen.now c.args.key.now c.loop-visited.next c.before-next.result (length c.args.seen.now - c.loop-visited.visited) (length c.args.seen.now - (c.loop-visited.visited + 1)) c.requires c.loop-visited.invariant
    c.if-next-eq0.false (omega arith) (c.has_key.ensures.no c.if-has_key.false) c.before-next.ensures
