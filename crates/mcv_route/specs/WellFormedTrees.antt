-- Which trees there are.
use Rattle.std.specs.Prelude.{ℕ, ◌<◌, List, length}
use Rattle.mcv_route.specs.Tree.{Tree, Trees, pool, null, error, many, warm_up, migrate, prefix_selector, operation_selector, none, child}

abbrev mutual
  -- each pool's symbol is one of those that have a size
  pub IsWellFormed : List ℕ → Tree → Type 0
  IsWellFormed sizes (pool p ranges targets) = (p.symbol < length sizes) × AreWellFormed sizes targets
  IsWellFormed sizes null = Unit {0}
  IsWellFormed sizes error = Unit {0}
  IsWellFormed sizes (many kind ts) = AreWellFormed sizes ts
  IsWellFormed sizes (warm_up cold warm exptime) = IsWellFormed sizes cold × IsWellFormed sizes warm
  IsWellFormed sizes (migrate from to start interval) = IsWellFormed sizes from × IsWellFormed sizes to
  IsWellFormed sizes (prefix_selector prefixes ts) = AreWellFormed sizes ts
  IsWellFormed sizes (operation_selector ops ts) = AreWellFormed sizes ts

  pub AreWellFormed : List ℕ → Trees → Type 0
  AreWellFormed sizes none = Unit {0}
  AreWellFormed sizes (child t ts) = IsWellFormed sizes t × AreWellFormed sizes ts
