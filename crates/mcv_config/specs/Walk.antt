-- How far the reader of routes has come: the room that is left for handles, and the pools and servers so far.
use Rattle.std.specs.Prelude.{ℕ, ◌-◌, List, [], ◌∷◌, ◌++◌}
use Rattle.serde_json.specs.Data.{Data}
use Rattle.serde_json.specs.Find.{get}
use Rattle.mcv_names.specs.Fault.{Read, good, ◌>>=◌}
use Rattle.mcv_names.specs.Lists.{required}
use Rattle.mcv_names.specs.Path.{key_step}
use Rattle.mcv_config.specs.ConfigValue.{Named}
use Rattle.mcv_config.specs.Pools.{Pools, Table}

pub record SoFar : Type 0 where
  -- further handles that the configuration may have
  pub room : ℕ
  pub pools : Pools
  pub table : Table

-- room for n handles is taken
abbrev pub taken : ℕ → SoFar → SoFar
taken n w = record { room = w.room - n; pools = w.pools; table = w.table }

-- a pool goes behind the others, without a name
abbrev pub with_pool : List ℕ → Table → SoFar → SoFar
with_pool pool table w = record { room = w.room; pools = record { names = w.pools.names; servers = w.pools.servers ++ pool ∷ [] }; table = table }

-- what is so far, the path and the value; what is read, and what is so far with it
abbrev pub Reader : Type 0
Reader = SoFar → List ℕ → Data → Read (Named × SoFar)

-- the handles below one: some of them, and what is so far with them
abbrev pub Children : Type 0
Children = Read (List Named × SoFar)

-- the route under a key that has to be there
unfoldable pub route_under : Reader → SoFar → List ℕ → List ℕ → Data → Read (Named × SoFar)
route_under reader w path key d = required (get key d) path >>= reader w (key_step path key)

-- the routes under two keys that have to be there
unfoldable pub two_under : Reader → SoFar → List ℕ → List ℕ → List ℕ → Data → Read ((Named × Named) × SoFar)
two_under reader w path first second d =
    route_under reader w path first d >>= λ (x : Named × SoFar).
    route_under reader x.1 path second d >>= λ (y : Named × SoFar).
    good ((x.0, y.0), y.1)
