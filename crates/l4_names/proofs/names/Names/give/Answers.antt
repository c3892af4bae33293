use Rattle.std.proofs.Common.{◌∙◌, ap, arith, length, [], ◌∷◌, ◌++◌}
use Rattle.l4_names.proofs.Given.{gives_again, gives_new, gives_not}
use Rattle.l4_names.proofs.names.Names.give.Goals as goal

pub returns-in-Some-clause-given : goal.returns-in-Some-clause-given
returns-in-Some-clause-given c =
    (gives_again _ _ _ _ _ c.in-Some.place c.index-as_mut_slice-place.result c.args.number c.self.view_is c.as_mut_slice.ensures.value c.as_slice.ensures c.as_mut_slice.ensures.fits c.in-Some.ensures).0

pub returns-in-Some-clause-names : goal.returns-in-Some-clause-names
returns-in-Some-clause-names c =
    (gives_again _ _ _ _ _ c.in-Some.place c.index-as_mut_slice-place.result c.args.number c.self.view_is c.as_mut_slice.ensures.value c.as_slice.ensures c.as_mut_slice.ensures.fits c.in-Some.ensures).1

pub returns-then-len-ge-MAX_NAMES-clause-given : goal.returns-then-len-ge-MAX_NAMES-clause-given
returns-then-len-ge-MAX_NAMES-clause-given c = (gives_not c.args.self.now _ c.args.name c.args.number (omega (arith, c.if-len-ge-MAX_NAMES.true, c.len.ensures.value, ap length c.self.view_is)) c.as_slice.ensures c.in_default.ensures).0

pub returns-then-len-ge-MAX_NAMES-clause-names : goal.returns-then-len-ge-MAX_NAMES-clause-names
returns-then-len-ge-MAX_NAMES-clause-names c = (gives_not c.args.self.now _ c.args.name c.args.number (omega (arith, c.if-len-ge-MAX_NAMES.true, c.len.ensures.value, ap length c.self.view_is)) c.as_slice.ensures c.in_default.ensures).1

pub returns-clause-given : goal.returns-clause-given
returns-clause-given c =
    (gives_new c.args.self.now _ _ c.args.name c.args.number (omega (arith, c.if-len-ge-MAX_NAMES.false, c.len.ensures.value, ap length c.self.view_is)) c.as_slice.ensures c.in_default.ensures (c.push.ensures.items ∙ ap (λ ns. ns ++ record { name = c.args.name; number = c.args.number } ∷ []) c.self.view_is)).0

pub returns-clause-names : goal.returns-clause-names
returns-clause-names c =
    (gives_new c.args.self.now _ _ c.args.name c.args.number (omega (arith, c.if-len-ge-MAX_NAMES.false, c.len.ensures.value, ap length c.self.view_is)) c.as_slice.ensures c.in_default.ensures (c.push.ensures.items ∙ ap (λ ns. ns ++ record { name = c.args.name; number = c.args.number } ∷ []) c.self.view_is)).1
