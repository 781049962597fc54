-- Which WarmUpRoute sends an add (mcrouter wiki, List of Route Handles, WarmUpRoute; own).
use Rattle.std.specs.Prelude.{◌==◌, ℕ, suc, List, [], ◌∷◌, Option, Some, None, option_and_then, option_map, if◌then◌else◌}
use Rattle.std.specs.Option.{option_or}
use Rattle.mcv_route.specs.Places.{child_at, children_of}
use Rattle.mcv_route.specs.Tree.{Tree, pool, null, error, many, warm_up, migrate, prefix_selector, operation_selector}
use Rattle.mcv_route.specs.View.{view}
use Rattle.mcv_asks.specs.declared.warm_up.WarmUp.{WarmUp}

pub record Warming : Type 0 where
  -- how many steps of the add's position lead to the WarmUpRoute
  pub depth : ℕ
  pub warm : Tree
  -- of the add, in seconds
  pub exptime : ℕ

-- the handle is a WarmUpRoute, and its child with this number is the one that it adds to
abbrev pub adding_at : ℕ → ℕ → Tree → Option Warming
adding_at depth k (warm_up cold warm exptime) = if k == 2 then Some (record { depth = depth; warm = warm; exptime = exptime }) else None
adding_at depth k (pool p ranges targets) = None
adding_at depth k null = None
adding_at depth k error = None
adding_at depth k (many kind ts) = None
adding_at depth k (migrate from to start interval) = None
adding_at depth k (prefix_selector prefixes ts) = None
adding_at depth k (operation_selector ops ts) = None

-- the first WarmUpRoute on the way to a position that adds there, where so many steps lead to the handle
abbrev pub warm_up_from : ℕ → Tree → List ℕ → Option Warming
warm_up_from depth t [] = None
warm_up_from depth t (k ∷ p) = option_or (adding_at depth k t) (option_and_then (λ u. warm_up_from (suc depth) u p) (child_at (children_of t) k))

-- the WarmUpRoute whose add is sent from a position: at the position w ++ 2 ∷ p, that which is at w. No other leg has one
abbrev pub warm_up_of : Tree → List ℕ → Option Warming
warm_up_of t p = warm_up_from 0 t p

abbrev pub warming : WarmUp → Warming
warming w = record { depth = w.depth; warm = view w.warm.now; exptime = w.exptime }
