use Rattle.std.proofs.Common.{ap, ◌∙◌, map}
use Rattle.std.specs.Str.{bytes_eq}
use Rattle.std.specs.String.{string_bytes}
use Rattle.mcv_pools.specs.Table.{with_entry}
use Rattle.mcv_config.proofs.NameSets.{noted}
use Rattle.mcv_config.proofs.name_table.NameTable.insert.Goals as goal

pub returns : goal.returns
returns c =
    ap (map (λ t. string_bytes t)) c.in_ok-insert.ensures.keys
    ∙ noted bytes_eq (λ t. string_bytes t) c.self.inside.names.keys c.in_ok-owned.owned
    ∙ (λ i. with_entry bytes_eq (c.self.view_is i) (c.in_ok-owned.ensures.ok i))
