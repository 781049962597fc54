-- Which children of a handle are drawn (own).
use Rattle.std.specs.Prelude.{ℕ, zero, suc, Option, Some, None, Box}
use Rattle.std.specs.declared.alloc.Global.{Global}
use Rattle.mcv_route.specs.declared.tree.Route.{Route}
use Rattle.mcv_route.specs.Tree.{Tree, Trees, pool, null, error, many, warm_up, migrate, prefix_selector, operation_selector, none, child}

-- in the order of their numbers; the cold side of a warm-up is drawn under 0, and not again for the add
abbrev pub drawn_children : Tree → Trees
drawn_children (pool q ranges targets) = targets
drawn_children null = none
drawn_children error = none
drawn_children (many kind ts) = ts
drawn_children (warm_up cold warm exptime) = child cold (child warm none)
drawn_children (migrate from to start interval) = child from (child to none)
drawn_children (prefix_selector prefixes ts) = ts
drawn_children (operation_selector ops ts) = ts

abbrev pub tree_count : Trees → ℕ
tree_count none = 0
tree_count (child t ts) = suc (tree_count ts)

-- the children from number k on
abbrev pub from_child : ℕ → Trees → Trees
from_child zero ts = ts
from_child (suc k) none = none
from_child (suc k) (child t ts) = from_child k ts

-- how many routes there are after all policies: one, if any
abbrev pub last_count : Option (Box Route Global) → ℕ
last_count None = 0
last_count (Some r) = 1
