-- That a tree can be distinguished from another, by which values that hold trees may be in clauses. It says nothing of what a tree means.
use Rattle.std.specs.Prelude.{◌≡◌, ℕ, ◌==◌, List, [], Option, if◌then◌else◌, refl}
use Rattle.std.specs.Coded.{Coded, code_by, coded×, coded_ℕ, coded_list, coded_option}
use Rattle.std.proofs.Common.{ap}
use Rattle.mcv_base.specs.declared.operation.Op.{Op}
use Rattle.mcv_base.specs.contracts.operation.Op.{the_row}
use Rattle.mcv_names.specs.declared.handle.Many.{Many}
use Rattle.mcv_names.specs.declared.handle.Many.TheVariants.{AllSync}
use Rattle.mcv_names.specs.contracts.handle.Many.{the_row as many_row}
use Rattle.mcv_pools.specs.Symbol.{SymbolValue}
use Rattle.mcv_config.specs.Labels.{Node, Nodes, node, no_node, beside, node_code}
use Rattle.mcv_pools.specs.contracts.symbol.Symbol.{the_row as symbol_row}
use Rattle.mcv_route.specs.Routes.{RouteEntry, RoutesValue}
use Rattle.mcv_route.specs.Tree.{Range, Tree, Trees, pool, null, error, many, warm_up, migrate, prefix_selector, operation_selector, none, child}

-- what a handle is, but for its children; what it does not have is filled with anything
pub record Label : Type 0 where
  pub handle : ℕ
  pub kind : Many
  pub first : ℕ
  pub second : ℕ
  pub servers : List ℕ
  pub ranges : List Range
  pub prefixes : List (List ℕ)
  pub operations : List (Option Op)

abbrev pub plain : ℕ → Label
plain handle = record { handle = handle; kind = AllSync; first = 0; second = 0; servers = []; ranges = []; prefixes = []; operations = [] }

abbrev mutual
  pub node_of : Tree → Node Label
  node_of (pool p ranges targets) = node (record { handle = 0; kind = AllSync; first = p.symbol; second = 0; servers = p.servers; ranges = ranges; prefixes = []; operations = [] }) (nodes_of targets)
  node_of null = node (plain 1) no_node
  node_of error = node (plain 2) no_node
  node_of (many kind ts) = node (record { handle = 3; kind = kind; first = 0; second = 0; servers = []; ranges = []; prefixes = []; operations = [] }) (nodes_of ts)
  node_of (warm_up cold warm exptime) =
      node (record { handle = 4; kind = AllSync; first = exptime; second = 0; servers = []; ranges = []; prefixes = []; operations = [] }) (beside (node_of cold) (beside (node_of warm) no_node))
  node_of (migrate from to start interval) =
      node (record { handle = 5; kind = AllSync; first = start; second = interval; servers = []; ranges = []; prefixes = []; operations = [] }) (beside (node_of from) (beside (node_of to) no_node))
  node_of (prefix_selector prefixes ts) =
      node (record { handle = 6; kind = AllSync; first = 0; second = 0; servers = []; ranges = []; prefixes = prefixes; operations = [] }) (nodes_of ts)
  node_of (operation_selector ops ts) =
      node (record { handle = 7; kind = AllSync; first = 0; second = 0; servers = []; ranges = []; prefixes = []; operations = ops }) (nodes_of ts)

  pub nodes_of : Trees → Nodes Label
  nodes_of none = no_node
  nodes_of (child t ts) = beside (node_of t) (nodes_of ts)

abbrev pub first_of : Trees → Tree
first_of none = null
first_of (child t ts) = t

abbrev pub others_of : Trees → Trees
others_of none = none
others_of (child t ts) = ts

abbrev pub tree_by : Label → Trees → Tree
tree_by l ts =
    if l.handle == 0 then pool (record { symbol = l.first; servers = l.servers }) l.ranges ts
    else if l.handle == 1 then null
    else if l.handle == 2 then error
    else if l.handle == 3 then many l.kind ts
    else if l.handle == 4 then warm_up (first_of ts) (first_of (others_of ts)) l.first
    else if l.handle == 5 then migrate (first_of ts) (first_of (others_of ts)) l.first l.second
    else if l.handle == 6 then prefix_selector l.prefixes ts
    else operation_selector l.operations ts

abbrev mutual
  pub tree_of : Node Label → Tree
  tree_of (node l ns) = tree_by l (trees_of ns)

  pub trees_of : Nodes Label → Trees
  trees_of no_node = none
  trees_of (beside n ns) = child (tree_of n) (trees_of ns)

mutual
  pub tree_of-node_of : (t : Tree) → tree_of (node_of t) ≡ t
  tree_of-node_of (pool p ranges targets) = ap (pool p ranges) (trees_of-nodes_of targets)
  tree_of-node_of null = refl
  tree_of-node_of error = refl
  tree_of-node_of (many kind ts) = ap (many kind) (trees_of-nodes_of ts)
  tree_of-node_of (warm_up cold warm exptime) = λ i. warm_up (tree_of-node_of cold i) (tree_of-node_of warm i) exptime
  tree_of-node_of (migrate from to start interval) = λ i. migrate (tree_of-node_of from i) (tree_of-node_of to i) start interval
  tree_of-node_of (prefix_selector prefixes ts) = ap (prefix_selector prefixes) (trees_of-nodes_of ts)
  tree_of-node_of (operation_selector ops ts) = ap (operation_selector ops) (trees_of-nodes_of ts)

  pub trees_of-nodes_of : (ts : Trees) → trees_of (nodes_of ts) ≡ ts
  trees_of-nodes_of none = refl
  trees_of-nodes_of (child t ts) = λ i. child (tree_of-node_of t i) (trees_of-nodes_of ts i)

abbrev pub range_code : Coded Range
range_code = code_by (ℕ × ℕ) (coded× coded_ℕ coded_ℕ) (λ r. (r.first, r.last)) (λ p. record { first = p.0; last = p.1 }) (λ _. refl)

abbrev pub Parts : Type 0
Parts = ((ℕ × Many) × (ℕ × ℕ)) × ((List ℕ × List Range) × (List (List ℕ) × List (Option Op)))

abbrev pub parts_code : Coded Parts
parts_code = coded× (coded× (coded× coded_ℕ many_row.coded) (coded× coded_ℕ coded_ℕ)) (coded× (coded× (coded_list coded_ℕ) (coded_list range_code)) (coded× (coded_list (coded_list coded_ℕ)) (coded_list (coded_option the_row.coded))))

abbrev pub label_code : Coded Label
label_code =
    code_by Parts parts_code (λ l. (((l.handle, l.kind), (l.first, l.second)), ((l.servers, l.ranges), (l.prefixes, l.operations))))
    (λ p. record { handle = p.0.0.0; kind = p.0.0.1; first = p.0.1.0; second = p.0.1.1; servers = p.1.0.0; ranges = p.1.0.1; prefixes = p.1.1.0; operations = p.1.1.1 }) (λ _. refl)

abbrev pub tree_code : Coded Tree
tree_code = code_by (Node Label) (node_code label_code) node_of tree_of tree_of-node_of

abbrev pub entry_code : Coded RouteEntry
entry_code =
    code_by (List (List ℕ) × Tree) (coded× (coded_list (coded_list coded_ℕ)) tree_code) (λ e. (e.aliases, e.tree))
    (λ p. record { aliases = p.0; tree = p.1 }) (λ _. refl)

abbrev pub routes_code : Coded RoutesValue
routes_code =
    code_by (List (List ℕ) × (List SymbolValue × (List RouteEntry × ℕ)))
    (coded× (coded_list (coded_list coded_ℕ)) (coded× (coded_list symbol_row.coded) (coded× (coded_list entry_code) coded_ℕ)))
    (λ r. (r.servers, (r.symbols, (r.entries, r.window)))) (λ p. record { servers = p.0; symbols = p.1.0; entries = p.1.1.0; window = p.1.1.1 }) (λ _. refl)
