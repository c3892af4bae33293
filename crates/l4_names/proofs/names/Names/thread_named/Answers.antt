use Rattle.std.proofs.Common.{◌∙◌, ap, Some, get_or}
use Rattle.l4_names.proofs.Given.{named_there, named_nowhere}
use Rattle.l4_names.proofs.names.Names.thread_named.Goals as goal

pub returns-in-Some : goal.returns-in-Some
returns-in-Some c =
    ap (λ ns. Some (get_or ns c.in-Some.place c.index-as_slice-place.result).number) (c.as_slice.ensures.value ∙ c.self.view_is)
    ∙ named_there c.args.self.now c.args.name.now c.in-Some.place c.index-as_slice-place.result c.in-Some.ensures

pub returns-in-None : goal.returns-in-None
returns-in-None c = named_nowhere c.args.self.now c.args.name.now c.in-None.ensures
