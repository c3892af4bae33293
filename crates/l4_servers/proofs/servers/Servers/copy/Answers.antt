use Rattle.std.proofs.Common.{◌≡◌, ◌∙◌, rules}
use Rattle.std.specs.FinMap as fin
use Rattle.std.proofs.lemmas.Map.Entries.{entries_from_clone}
use Rattle.l4_servers.specs.Servers.{servers}
use Rattle.l4_servers.proofs.servers.Servers.copy.Goals as goal

pub returns : goal.returns
returns c =
    let same : c.in-Ok.tables.entries ≡ c.self.inside.tables.entries =
    entries_from_clone _ _ (λ x y h. search rules) (λ v w h. h) c.self.inside.tables.entries c.in-Ok.tables.entries c.in-Ok.ensures.cases in
    (λ i. servers (c.copy-2.ensures i) (fin.from_entries (same i)) (c.in-Ok-copy.ensures i)) ∙ c.self.view_is
