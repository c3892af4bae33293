use Rattle.l4_pager.proofs.Tables.{meets, met, true_lt, lt_true}
use Rattle.l4_pager.proofs.regions.Entry.meets.Goals as goal

pub returns-then-self-other : goal.returns-then-self-other
returns-then-self-other c = (
  λ h. meets c.args.self.now c.args.other.now c.requires.good c.requires.other c.if-self-other.true (lt_true _ _ h),
  λ m. true_lt _ _ (met c.args.self.now c.args.other.now m),
)
