use Rattle.std.proofs.Common.{◌≡◌, ℕ, ◌==◌, not, map, sym, ap, ◌∙◌, subst, rules, arith, List, length, ◌≤◌}
use Rattle.std.proofs.lemmas.Fn.{filter_same}
use Rattle.arrayvec.proofs.ArrayVecLemmas.{filter-from_retain}
use Rattle.l4_threads.specs.declared.Thread.{Thread}
use Rattle.l4_threads.specs.Inside.Entries.{Entries, without_in}
use Rattle.l4_threads.proofs.DeleteLemmas.{numbers-without_in}
use Rattle.l4_threads.specs.Queue.{IsOnce}
use Rattle.l4_threads.specs.Sizes.{max_threads}
use Rattle.l4_threads.proofs.QueueLemmas.{left_by, once-left_by}
use Rattle.l4_threads.proofs.roster.Roster.remove.Goals as goal

pub invariant_of-self : goal.invariant_of-self
invariant_of-self c =
    let entries : c.retain.new.self.items ≡ without_in c.self.inside.entries.items c.args.number =
    filter_same _ (λ (e : ℕ × Thread). not (e.0 == c.args.number)) _ (λ x b q h. search rules) _ _ c.retain.ensures.filtered in
    let numbers : c.retain-2.new.self.items ≡ left_by c.args.number c.self.inside.numbers.items =
    filter-from_retain _ (λ (m : ℕ). not (m == c.args.number)) _ (λ x b f' y called. search rules) _ _ c.retain-2.ensures.filtered in
    record {
      numbered = record {
        listed = numbers ∙ ap (left_by c.args.number) c.self.invariant.numbered.listed ∙ sym (ap (λ (es : Entries). map (λ e. e.0) es) entries ∙ numbers-without_in c.self.inside.entries.items c.args.number);
        once = subst IsOnce (sym numbers) (once-left_by c.args.number c.self.inside.numbers.items c.self.invariant.numbered.once);
        counted = c.hint_all.ensures;
      };
      few = subst (λ (l : List ℕ). length l ≤ max_threads) c.as_slice.ensures.value c.as_slice.ensures.fits;
      room = let room = c.self.invariant.room in let same = c.retain.ensures.capacity in omega (arith, room, same);
    }

pub returns : goal.returns
returns c =
    rw (← c.self.view_is) (filter_same _ (λ (e : ℕ × Thread). not (e.0 == c.args.number)) _ (λ x b q h. search rules) _ _ c.retain.ensures.filtered)
