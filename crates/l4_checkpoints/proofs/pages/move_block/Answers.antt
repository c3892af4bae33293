use Rattle.std.proofs.Common.{◌≡◌, ℕ, true, ◌||◌, ap, ◌∙◌}
use Rattle.std.proofs.lemmas.Bool.{or_right}
use Rattle.std.specs.Ordering.{nat_cmp, eq_by_cmp, is_eq}
use Rattle.std.specs.Cmp.{nat_cmp_total, tied_itself}
use Rattle.std.specs.FinSet as set
use Rattle.l4_mapdb.specs.Mappings.{Mappings}
use Rattle.l4_checkpoints.proofs.pages.move_block.Goals as goal

-- a space that was added is there
has_new : (s : set.FinSet nat_cmp) (k : ℕ) → set.contains (set.insert s k) k ≡ true
has_new s k = set.contains-insert nat_cmp_total s k k ∙ ap (λ r. is_eq r || set.contains s k) (tied_itself nat_cmp_total k)

-- and so is each one that was there before
has_old : (s : set.FinSet nat_cmp) (k q : ℕ) → set.contains s q ≡ true → set.contains (set.insert s k) q ≡ true
has_old s k q h = set.contains-insert nat_cmp_total s k q ∙ or_right (eq_by_cmp nat_cmp q k) _ h

pub map_all-requires-clause-from_there : goal.map_all-requires-clause-from_there
map_all-requires-clause-from_there c =
    ap (λ (m : Mappings). set.contains m.spaces c.args.from) c.in_ok-add_space-2.ensures
    ∙ has_old c.add_space.new.forest.spaces c.args.to c.args.from
    (ap (λ (m : Mappings). set.contains m.spaces c.args.from) c.in_ok-add_space.ensures ∙ has_new c.args.forest.now.spaces c.args.from)

pub map_all-requires-clause-to_there : goal.map_all-requires-clause-to_there
map_all-requires-clause-to_there c =
    ap (λ (m : Mappings). set.contains m.spaces c.args.to) c.in_ok-add_space-2.ensures ∙ has_new c.add_space.new.forest.spaces c.args.to
