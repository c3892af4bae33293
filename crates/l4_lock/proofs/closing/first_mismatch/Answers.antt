use Rattle.l4_lock.specs.Inside.Noting.{started_by}
use Rattle.l4_lock.proofs.Back.{least_missing, least_foreign, least_wrong, are_back}
use Rattle.std.proofs.Common.{Some, None}
use Rattle.l4_lock.proofs.closing.first_mismatch.Goals as goal

pub returns-in-Some : goal.returns-in-Some
returns-in-Some c = least_missing c.args.accounts.now c.args.seats.now (Some c.in-Some.number) c.in-Some.ensures

pub returns-in-Some-first_foreign : goal.returns-in-Some-first_foreign
returns-in-Some-first_foreign c =
    (least_missing c.args.accounts.now c.args.seats.now None c.in_default.ensures, least_foreign c.args.accounts.now c.args.seats.now (Some c.in-Some-first_foreign.number) c.in-Some-first_foreign.ensures)

pub returns-in-Some-first_wrong : goal.returns-in-Some-first_wrong
returns-in-Some-first_wrong c = (
  least_missing c.args.accounts.now c.args.seats.now None c.in_default.ensures,
  least_foreign c.args.accounts.now c.args.seats.now None c.in_default-first_foreign.ensures,
  least_wrong started_by c.args.accounts.now c.args.seats.now (Some c.in-Some-first_wrong.number) c.in-Some-first_wrong.ensures,
)

pub returns : goal.returns
returns c = are_back started_by c.args.accounts.now c.args.seats.now c.in_default.ensures c.in_default-first_foreign.ensures c.in_default-first_wrong.ensures
