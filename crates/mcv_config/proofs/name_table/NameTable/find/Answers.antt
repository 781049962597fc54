use Rattle.std.proofs.Common.{sym, ap, ◌∙◌, position}
use Rattle.std.specs.Str.{bytes_eq}
use Rattle.std.specs.String.{string_bytes}
use Rattle.mcv_pools.proofs.Tables.{position-map}
use Rattle.mcv_config.proofs.name_table.NameTable.find.Goals as goal

pub returns : goal.returns
returns c = c.get_index_of.ensures.index ∙ sym (position-map (bytes_eq c.args.name.now) (λ t. string_bytes t) c.self.inside.names.keys) ∙ ap (λ s. position (bytes_eq c.args.name.now) s) c.self.view_is
