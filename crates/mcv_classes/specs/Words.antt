-- The class words of a route: all that its selectors ask of a rest is with which of these it begins (own).
use Rattle.std.specs.Prelude.{ℕ, List, [], ◌∷◌, ◌++◌}
use Rattle.mcv_route.specs.Tree.{Tree, Trees, pool, null, error, many, warm_up, migrate, prefix_selector, operation_selector, none, child}

abbrev mutual
  -- the policy prefixes of a route's PrefixSelectorRoutes, those under shadows too
  pub prefixes_in : Tree → List (List ℕ)
  prefixes_in (pool p ranges targets) = prefixes_below targets
  prefixes_in null = []
  prefixes_in error = []
  prefixes_in (many kind ts) = prefixes_below ts
  prefixes_in (warm_up cold warm exptime) = prefixes_in cold ++ prefixes_in warm
  prefixes_in (migrate from to start interval) = prefixes_in from ++ prefixes_in to
  prefixes_in (prefix_selector prefixes ts) = prefixes ++ prefixes_below ts
  prefixes_in (operation_selector ops ts) = prefixes_below ts

  pub prefixes_below : Trees → List (List ℕ)
  prefixes_below none = []
  prefixes_below (child t ts) = prefixes_in t ++ prefixes_below ts

-- the empty word, and all of these
abbrev pub class_words : Tree → List (List ℕ)
class_words t = [] ∷ prefixes_in t
