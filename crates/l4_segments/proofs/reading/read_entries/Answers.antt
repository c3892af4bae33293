use Rattle.std.proofs.Common.{ℕ, List, ◌+◌, ◌++◌, length, ap, ◌∙◌}
use Rattle.std.specs.Option.{option_to_list}
use Rattle.l4_segments.specs.Entries.{entry_at}
use Rattle.l4_segments.proofs.Departing.{begun_none, begun_more}
use Rattle.l4_segments.proofs.reading.read_entries.Goals as goal

pub loop-done-init : goal.loop-done-init
loop-done-init c = (begun_none c.args.bytes.now c.args.heading.now c.args.entries.now.items c.requires.none c.requires.begins, ap length c.requires.none)

pub loop-done-preserved : goal.loop-done-preserved
loop-done-preserved c =
    let so_far = c.loop-done.invariant in
    let words : List ℕ = c.next_entry.new.words.items in
    let pushed = c.push.ensures.items ∙ (λ i. c.reserve.ensures.items i ++ option_to_list (entry_at (c.as_slice.ensures.words i))) in
    let more = begun_more c.args.bytes.now c.args.heading.now c.loop-done.entries.items c.push.new.self.items c.loop-done.at c.in-Ok.next words so_far.0 c.in-Ok.ensures.ok pushed in
    (more.1, more.0 ∙ ap (λ (k : ℕ). k + 1) so_far.1)
