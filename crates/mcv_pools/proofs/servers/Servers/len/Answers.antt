use Rattle.std.specs.Str.{bytes_eq}
use Rattle.std.specs.String.{string_bytes}
use Rattle.std.specs.Cmp.Lexicographic.{bytes_decides}
use Rattle.mcv_pools.proofs.Tables.{distinct-map, one_to_one}
use Rattle.mcv_pools.proofs.servers.Servers.len.Goals as goal

pub returns-clause-one_to_one : goal.returns-clause-one_to_one
returns-clause-one_to_one c = rw (← c.self.view_is) (one_to_one bytes_eq bytes_decides _ (distinct-map bytes_eq (λ t. string_bytes t) _ c.len.ensures.unique))
