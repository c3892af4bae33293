use Rattle.std.proofs.Common.{map, sym, ap, ◌∙◌}
use Rattle.l4_threads.specs.Inside.Entries.{Entries}
use Rattle.l4_threads.proofs.DeleteLemmas.{freed_back, numbers-freed_in}
use Rattle.l4_threads.proofs.roster.Roster.free.Goals as goal

pub invariant_of-self : goal.invariant_of-self
invariant_of-self c =
    record {
      numbered = record {
        listed = c.self.invariant.numbered.listed
            ∙ sym (ap (λ (es : Entries). map (λ e. e.0) es) (freed_back c.self.inside.entries.items c.as_mut_slice.result.now c.free_all.new.entries c.self.inside.entries.len c.args.victim c.self.inside.entries.ok.0 c.as_mut_slice.ensures.value c.free_all.ensures)
            ∙ numbers-freed_in c.self.inside.entries.items c.args.victim);
        once = c.self.invariant.numbered.once;
        counted = c.self.invariant.numbered.counted;
      };
      few = c.self.invariant.few;
      room = c.self.invariant.room;
    }
