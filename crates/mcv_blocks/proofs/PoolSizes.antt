-- The pools of sound routes have symbols of the table, and as many servers as these have indexes.
use Rattle.std.proofs.Common.{◌≡◌, ℕ, zero, suc, ◌<◌, List, [], ◌∷◌, length, Some, ◌∙◌, subst}
use Rattle.std.specs.Prelude.{option_and_then, slice_get, slice_index}
use Rattle.std.specs.List.{Contains}
use Rattle.std.proofs.lemmas.List.Elements.{All-contains}
use Rattle.std.proofs.lemmas.Option.{get_or_from_slice_get, same_Some, slice_get-map, slice_get_within}
use Rattle.mcv_pools.specs.Symbol.{SymbolValue}
use Rattle.mcv_route.specs.Places.{children_of, child_at, pool_at_position, pool_of, tree_at}
use Rattle.mcv_route.specs.Routes.{AreSoundTrees, IsSoundPool, IsSoundRoutes, IsSoundTree, RouteEntry, RoutesValue}
use Rattle.mcv_route.specs.Tree.{Pool, Tree, Trees, pool, null, error, many, warm_up, migrate, prefix_selector, operation_selector, none, child}
use Rattle.mcv_symbolic.specs.CoveredRoutes.{sizes_of}

module _ (servers : ℕ) (symbols : List SymbolValue) where
  children_sound : (t : Tree) → IsSoundTree servers symbols t → AreSoundTrees servers symbols (children_of t)
  children_sound (pool p ranges targets) h = h.1
  children_sound null h = tt
  children_sound error h = tt
  children_sound (many kind ts) h = h.1
  children_sound (warm_up cold warm exptime) h = (h.0, (h.1, (h.0, tt)))
  children_sound (migrate from to start interval) h = (h.0, (h.1, tt))
  children_sound (prefix_selector prefixes ts) h = h
  children_sound (operation_selector ops ts) h = h

  own_pool : (t : Tree) (m : Pool) → IsSoundTree servers symbols t → pool_of t ≡ Some m → IsSoundPool servers symbols m
  own_pool (pool p ranges targets) m h e = subst (IsSoundPool servers symbols) (same_Some p m e) h.0
  own_pool null m h e = absurd cc
  own_pool error m h e = absurd cc
  own_pool (many kind ts) m h e = absurd cc
  own_pool (warm_up cold warm exptime) m h e = absurd cc
  own_pool (migrate from to start interval) m h e = absurd cc
  own_pool (prefix_selector prefixes ts) m h e = absurd cc
  own_pool (operation_selector ops ts) m h e = absurd cc

  below : (ts : Trees) (k : ℕ) (p : List ℕ) (m : Pool) → AreSoundTrees servers symbols ts → ((u : Tree) → IsSoundTree servers symbols u → pool_at_position u p ≡ Some m → IsSoundPool servers symbols m) →
      option_and_then pool_of (option_and_then (λ u. tree_at u p) (child_at ts k)) ≡ Some m → IsSoundPool servers symbols m
  below none k p m h next e = absurd cc
  below (child t ts) zero p m h next e = next t h.0 e
  below (child t ts) (suc k) p m h next e = below ts k p m h.1 next e

  pub pool_sound : (t : Tree) (p : List ℕ) (m : Pool) → IsSoundTree servers symbols t → pool_at_position t p ≡ Some m → IsSoundPool servers symbols m
  pool_sound t [] m h e = own_pool t m h e
  pool_sound t (k ∷ p) m h e = below (children_of t) k p m (children_sound t h) (λ u s f. pool_sound u p m s f) e

-- the pools of the tree have sizes
abbrev pub AreSized : List ℕ → Tree → Type 0
AreSized sizes t = (p : List ℕ) (m : Pool) → pool_at_position t p ≡ Some m → (m.symbol < length sizes) × (slice_index sizes m.symbol ≡ length m.servers)

pub entry_sized : (r : RoutesValue) (e : RouteEntry) → IsSoundRoutes r → Contains r.entries e → AreSized (sizes_of r) e.tree
entry_sized r e sound at p m is =
    let tree = All-contains (λ x. IsSoundTree (length r.servers) r.symbols x.tree) r.entries e sound at in
    let own = pool_sound (length r.servers) r.symbols e.tree p m tree is in
    let got : slice_get (sizes_of r) m.symbol ≡ Some (length m.servers) = slice_get-map (λ (s : SymbolValue). s.n) r.symbols m.symbol ∙ own.sized in
    (slice_get_within (sizes_of r) m.symbol (length m.servers) got, get_or_from_slice_get (sizes_of r) m.symbol (length m.servers) 0 got)
