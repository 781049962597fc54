-- What the reader's tables mean.
use Rattle.std.specs.Prelude.{map}
use Rattle.mcv_config.specs.declared.pools.NamedPools.{NamedPools}
use Rattle.mcv_config.specs.declared.progress.Progress.{Progress}
use Rattle.mcv_config.specs.ConfigValue.{pool_servers}
use Rattle.mcv_config.specs.Pools.{Pools}
use Rattle.mcv_config.specs.Walk.{SoFar}

abbrev pub pools_of : NamedPools → Pools
pools_of p = record { names = p.names; servers = map pool_servers p.pools.items }

abbrev pub so_far_of : Progress → SoFar
so_far_of p = record { room = p.room; pools = pools_of p.pools; table = p.servers }
