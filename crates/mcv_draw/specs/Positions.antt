-- The positions of a tree, each once (own).
use Rattle.std.specs.Prelude.{◌≡◌, ◌≢◌, ℕ, suc, List, [], ◌∷◌, ◌++◌, map}
use Rattle.std.specs.List.{AllPairs}
use Rattle.mcv_route.specs.Tree.{Tree, Trees, pool, null, error, many, warm_up, migrate, prefix_selector, operation_selector, none, child}
use Rattle.mcv_draw.specs.Drawn.{DrawingValue, drawn, top}

abbrev mutual
  -- a handle's position, and then those below it in the order of their numbers
  pub positions : (position : List ℕ) → Tree → List (List ℕ)
  positions p (pool q ranges targets) = p ∷ positions_each p 0 targets
  positions p null = p ∷ []
  positions p error = p ∷ []
  positions p (many kind ts) = p ∷ positions_each p 0 ts
  positions p (warm_up cold warm exptime) = p ∷ (positions (p ++ 0 ∷ []) cold ++ positions (p ++ 1 ∷ []) warm)
  positions p (migrate from to start interval) = p ∷ (positions (p ++ 0 ∷ []) from ++ positions (p ++ 1 ∷ []) to)
  positions p (prefix_selector prefixes ts) = p ∷ positions_each p 0 ts
  positions p (operation_selector ops ts) = p ∷ positions_each p 0 ts

  pub positions_each : (position : List ℕ) → ℕ → Trees → List (List ℕ)
  positions_each p k none = []
  positions_each p k (child t ts) = positions (p ++ k ∷ []) t ++ positions_each p (suc k) ts

-- what is drawn of a route has an element for each position of its tree, and for each one alone
pub record DrawsEachOnce (d : DrawingValue) (row : ℕ) (t : Tree) : Type 0 where
  pub each : map (λ e. e.position) (drawn d top row t) ≡ positions [] t
  pub once : AllPairs (λ (p q : List ℕ). p ≢ q) (positions [] t)

abbrev pub EachIsDrawnOnce : Type 0
EachIsDrawnOnce = (d : DrawingValue) (row : ℕ) (t : Tree) → DrawsEachOnce d row t
