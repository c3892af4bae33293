-- The forms of the handles.
use Rattle.std.proofs.Common.{refl}
use Rattle.l4_ipc.specs.contracts.kernel.Kernel as Kernel
use Rattle.l4_pager.specs.contracts.regions.RegionPager as RegionPager
use Rattle.l4_sigma0.specs.contracts.owners.Sigma0 as Sigma0
use Rattle.l4_seated_lock.specs.contracts.seated.SeatedLock as SeatedLock
use Rattle.l4_seated_lock.specs.contracts.handed.HandedSegment as HandedSegment
use Rattle.l4_c_values.specs.contracts.kernels.KernelHandle as KernelHandle
use Rattle.l4_c_values.specs.contracts.pagers.PagerHandle as PagerHandle
use Rattle.l4_c_values.specs.contracts.sigma0s.Sigma0Handle as Sigma0Handle
use Rattle.l4_c_values.specs.contracts.locks.LockHandle as LockHandle
use Rattle.l4_c_values.specs.contracts.segments.SegmentHandle as SegmentHandle
use Rattle.l4_c_values.proofs.Handles.{Form}

abbrev pub kernel : Form
kernel = record {
  Held = Kernel.the_row;
  name = KernelHandle.struct.name;
  Denot = KernelHandle.the_row.Denot;
  hidden = λ d. d.hidden;
  value = λ d. d.value;
  make = λ p x. record { hidden = p; value = x };
  eta = λ d. refl;
  hides = λ p x. refl;
  holds = λ p x. refl;
  codes = KernelHandle.the_codes;
}

abbrev pub pager : Form
pager = record {
  Held = RegionPager.the_row;
  name = PagerHandle.struct.name;
  Denot = PagerHandle.the_row.Denot;
  hidden = λ d. d.hidden;
  value = λ d. d.value;
  make = λ p x. record { hidden = p; value = x };
  eta = λ d. refl;
  hides = λ p x. refl;
  holds = λ p x. refl;
  codes = PagerHandle.the_codes;
}

abbrev pub sigma0 : Form
sigma0 = record {
  Held = Sigma0.the_row;
  name = Sigma0Handle.struct.name;
  Denot = Sigma0Handle.the_row.Denot;
  hidden = λ d. d.hidden;
  value = λ d. d.value;
  make = λ p x. record { hidden = p; value = x };
  eta = λ d. refl;
  hides = λ p x. refl;
  holds = λ p x. refl;
  codes = Sigma0Handle.the_codes;
}

abbrev pub lock : Form
lock = record {
  Held = SeatedLock.the_row;
  name = LockHandle.struct.name;
  Denot = LockHandle.the_row.Denot;
  hidden = λ d. d.hidden;
  value = λ d. d.value;
  make = λ p x. record { hidden = p; value = x };
  eta = λ d. refl;
  hides = λ p x. refl;
  holds = λ p x. refl;
  codes = LockHandle.the_codes;
}

abbrev pub segment : Form
segment = record {
  Held = HandedSegment.the_row;
  name = SegmentHandle.struct.name;
  Denot = SegmentHandle.the_row.Denot;
  hidden = λ d. d.hidden;
  value = λ d. d.value;
  make = λ p x. record { hidden = p; value = x };
  eta = λ d. refl;
  hides = λ p x. refl;
  holds = λ p x. refl;
  codes = SegmentHandle.the_codes;
}
