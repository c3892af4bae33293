use Rattle.std.proofs.Common.{refl}
use Rattle.l4_refusals.proofs.Wording.{both}
use Rattle.l4_refusals.proofs.kernel_texts.Goals as goal

pub returns : goal.returns
returns c = both c.meaning.ensures (both c.meaning-2.ensures (both c.meaning-3.ensures (both c.meaning-4.ensures (both c.meaning-5.ensures (both c.meaning-6.ensures (both c.meaning-7.ensures (both c.meaning-8.ensures (both c.meaning-9.ensures (both c.meaning-10.ensures (both c.meaning-11.ensures (both c.meaning-12.ensures (both c.meaning-13.ensures refl))))))))))))
