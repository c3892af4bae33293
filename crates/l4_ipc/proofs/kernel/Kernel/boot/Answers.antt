use Rattle.std.proofs.Common.{◌≡◌, ◌≤◌, refl, sym, subst, rules}
use Rattle.std.specs.FinSet as set
use Rattle.l4_mapdb.specs.Mappings.{Mappings}
use Rattle.l4_threads.specs.Threads.{Threads, first_threads}
use Rattle.l4_fpage.specs.Pages.{max_frames}
use Rattle.l4_ipc.specs.Machine.{machine}
use Rattle.l4_ipc.specs.SpacePages.{FitIn}
use Rattle.l4_ipc.specs.Inside.Sound.{IsSound}
use Rattle.l4_ipc.proofs.Fitting.{fits_boot}
use Rattle.l4_ipc.proofs.SoundKept.{sound_boot}
use Rattle.l4_ipc.proofs.kernel.Kernel.boot.Goals as goal

pub invariant_of-result : goal.invariant_of-result
invariant_of-result c =
    let began : c.new_space.new.self ≡ record c.in-Ok.forest { spaces = set.insert c.in-Ok.forest.spaces 1 } = c.in-Ok-new_space.ensures.ok in
    let fit : c.args.frames ≤ max_frames = search rules in
    record {
      sound = subst (λ (t : Threads). IsSound (machine c.args.size t c.new_space.new.self)) (sym c.in-Ok-boot.ensures)
          (subst (λ (s : Mappings). IsSound (machine c.args.size first_threads s)) (sym began) (sound_boot c.args.size c.args.frames c.in-Ok.forest c.in-Ok.ensures));
      fits = subst (FitIn c.args.size) (sym began) (fits_boot c.args.size c.args.frames c.in-Ok.forest fit c.in-Ok.ensures);
    }

pub returns-in-Ok-new_space : goal.returns-in-Ok-new_space
returns-in-Ok-new_space c =
    let some : 1 ≤ c.args.frames = search rules in
    let fit : c.args.frames ≤ max_frames = search rules in
    (record { some = some; few = fit; threads = c.in-Ok-boot.ensures; first = c.in-Ok.forest; first_is = c.in-Ok.ensures; mappings = c.in-Ok-new_space.ensures.ok }, refl)
