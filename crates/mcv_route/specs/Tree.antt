-- The tree of a route: what each handle is, without where it lies in memory.
-- The constructors are in the order of the table of handles (mcrouter wiki, List of Route Handles). Those with children and nothing else share one.
use Rattle.std.specs.Prelude.{ℕ, List, Option}
use Rattle.mcv_base.specs.declared.operation.Op.{Op}
-- the handles with children and nothing else
pub use Rattle.mcv_names.specs.declared.handle.Many.{Many}
pub use Rattle.mcv_names.specs.declared.handle.Many.TheVariants.{AllSync, AllInitial, AllAsync, Failover, MissFailover}
-- the indexes from the first to the last
pub use Rattle.mcv_config.specs.ConfigValue.{Range}

-- a pool under one hash: its symbol, and its servers in order
pub record Pool : Type 0 where
  pub symbol : ℕ
  pub servers : List ℕ

mutual
  pub data Tree : Type 0 where
    -- the ranges of the shadows, and their targets in the same order
    pool : Pool → List Range → Trees → Tree
    null : Tree
    error : Tree
    many : Many → Trees → Tree
    -- cold, warm, and the exptime of the add
    warm_up : Tree → Tree → ℕ → Tree
    -- from, to, the start and the interval
    migrate : Tree → Tree → ℕ → ℕ → Tree
    -- the prefixes, and their routes in the same order with the wildcard after them
    prefix_selector : List (List ℕ) → Trees → Tree
    -- the operations, and their routes in the same order with the default after them; None is a name that no request has
    operation_selector : List (Option Op) → Trees → Tree

  pub data Trees : Type 0 where
    none : Trees
    child : Tree → Trees → Trees
