-- That a configuration can be distinguished from another, by which values that hold one may be in clauses. It says nothing of what a configuration means.
use Rattle.std.specs.Prelude.{◌≡◌, ℕ, ◌==◌, List, [], Option, if◌then◌else◌, refl}
use Rattle.std.specs.Coded.{Coded, code_by, coded×, coded_ℕ, coded_list, coded_option}
use Rattle.std.proofs.Common.{ap}
use Rattle.mcv_base.specs.declared.operation.Op.{Op}
use Rattle.mcv_base.specs.contracts.operation.Op.{the_row}
use Rattle.mcv_names.specs.declared.handle.Many.{Many}
use Rattle.mcv_names.specs.declared.handle.Many.TheVariants.{AllSync}
use Rattle.mcv_names.specs.contracts.handle.Many.{the_row as many_row}
use Rattle.mcv_pools.specs.declared.symbol.HashFunc.{HashFunc}
use Rattle.mcv_pools.specs.declared.symbol.HashFunc.TheVariants.{Ch3}
use Rattle.mcv_pools.specs.contracts.symbol.HashFunc.{the_row as hash_row}
use Rattle.mcv_config.specs.Labels.{Node, Nodes, node, no_node, beside, node_code}
use Rattle.mcv_config.specs.ConfigValue.{EntryValue, Named, Nameds, ConfigValue, Range, pool, server, null, error, many, warm_up, migrate, prefix_selector, operation_selector, no_named, named}

-- what a handle is, but for its children; what it does not have is filled with anything
pub record Label : Type 0 where
  pub handle : ℕ
  pub kind : Many
  pub first : ℕ
  pub second : ℕ
  pub func : HashFunc
  pub salt : List ℕ
  pub ranges : List Range
  pub prefixes : List (List ℕ)
  pub operations : List (Option Op)

-- a handle with two numbers and nothing else
abbrev pub numbered : ℕ → ℕ → ℕ → Label
numbered handle first second = record { handle = handle; kind = AllSync; first = first; second = second; func = Ch3; salt = []; ranges = []; prefixes = []; operations = [] }

abbrev pub plain : ℕ → Label
plain handle = numbered handle 0 0

abbrev mutual
  pub node_of : Named → Node Label
  node_of (pool i func salt ranges targets) = node (record { handle = 0; kind = AllSync; first = i; second = 0; func = func; salt = salt; ranges = ranges; prefixes = []; operations = [] }) (nodes_of targets)
  node_of null = node (plain 1) no_node
  node_of error = node (plain 2) no_node
  node_of (many kind ts) = node (record { handle = 3; kind = kind; first = 0; second = 0; func = Ch3; salt = []; ranges = []; prefixes = []; operations = [] }) (nodes_of ts)
  node_of (warm_up cold warm exptime) = node (numbered 4 exptime 0) (beside (node_of cold) (beside (node_of warm) no_node))
  node_of (migrate from to start interval) = node (numbered 5 start interval) (beside (node_of from) (beside (node_of to) no_node))
  node_of (prefix_selector prefixes ts) = node (record { handle = 6; kind = AllSync; first = 0; second = 0; func = Ch3; salt = []; ranges = []; prefixes = prefixes; operations = [] }) (nodes_of ts)
  node_of (operation_selector ops ts) = node (record { handle = 7; kind = AllSync; first = 0; second = 0; func = Ch3; salt = []; ranges = []; prefixes = []; operations = ops }) (nodes_of ts)
  node_of (server i k) = node (numbered 8 i k) no_node

  pub nodes_of : Nameds → Nodes Label
  nodes_of no_named = no_node
  nodes_of (named t ts) = beside (node_of t) (nodes_of ts)

abbrev pub first_of : Nameds → Named
first_of no_named = null
first_of (named t ts) = t

abbrev pub others_of : Nameds → Nameds
others_of no_named = no_named
others_of (named t ts) = ts

abbrev pub named_by : Label → Nameds → Named
named_by l ts =
    if l.handle == 0 then pool l.first l.func l.salt l.ranges ts
    else if l.handle == 1 then null
    else if l.handle == 2 then error
    else if l.handle == 3 then many l.kind ts
    else if l.handle == 4 then warm_up (first_of ts) (first_of (others_of ts)) l.first
    else if l.handle == 5 then migrate (first_of ts) (first_of (others_of ts)) l.first l.second
    else if l.handle == 6 then prefix_selector l.prefixes ts
    else if l.handle == 7 then operation_selector l.operations ts
    else server l.first l.second

abbrev mutual
  pub named_at : Node Label → Named
  named_at (node l ns) = named_by l (nameds_at ns)

  pub nameds_at : Nodes Label → Nameds
  nameds_at no_node = no_named
  nameds_at (beside n ns) = named (named_at n) (nameds_at ns)

mutual
  pub named_at-node_of : (t : Named) → named_at (node_of t) ≡ t
  named_at-node_of (pool i func salt ranges targets) = ap (pool i func salt ranges) (nameds_at-nodes_of targets)
  named_at-node_of (server i k) = refl
  named_at-node_of null = refl
  named_at-node_of error = refl
  named_at-node_of (many kind ts) = ap (many kind) (nameds_at-nodes_of ts)
  named_at-node_of (warm_up cold warm exptime) = λ i. warm_up (named_at-node_of cold i) (named_at-node_of warm i) exptime
  named_at-node_of (migrate from to start interval) = λ i. migrate (named_at-node_of from i) (named_at-node_of to i) start interval
  named_at-node_of (prefix_selector prefixes ts) = ap (prefix_selector prefixes) (nameds_at-nodes_of ts)
  named_at-node_of (operation_selector ops ts) = ap (operation_selector ops) (nameds_at-nodes_of ts)

  pub nameds_at-nodes_of : (ts : Nameds) → nameds_at (nodes_of ts) ≡ ts
  nameds_at-nodes_of no_named = refl
  nameds_at-nodes_of (named t ts) = λ i. named (named_at-node_of t i) (nameds_at-nodes_of ts i)

abbrev pub range_code : Coded Range
range_code = code_by (ℕ × ℕ) (coded× coded_ℕ coded_ℕ) (λ r. (r.first, r.last)) (λ p. record { first = p.0; last = p.1 }) (λ _. refl)

abbrev pub Parts : Type 0
Parts = ((ℕ × Many) × (ℕ × ℕ)) × ((HashFunc × (List ℕ × List Range)) × (List (List ℕ) × List (Option Op)))

abbrev pub parts_code : Coded Parts
parts_code =
    coded× (coded× (coded× coded_ℕ many_row.coded) (coded× coded_ℕ coded_ℕ))
    (coded× (coded× hash_row.coded (coded× (coded_list coded_ℕ) (coded_list range_code))) (coded× (coded_list (coded_list coded_ℕ)) (coded_list (coded_option the_row.coded))))

abbrev pub label_code : Coded Label
label_code =
    code_by Parts parts_code (λ l. (((l.handle, l.kind), (l.first, l.second)), ((l.func, (l.salt, l.ranges)), (l.prefixes, l.operations))))
    (λ p. record { handle = p.0.0.0; kind = p.0.0.1; first = p.0.1.0; second = p.0.1.1; func = p.1.0.0; salt = p.1.0.1.0; ranges = p.1.0.1.1; prefixes = p.1.1.0; operations = p.1.1.1 }) (λ _. refl)

abbrev pub named_code : Coded Named
named_code = code_by (Node Label) (node_code label_code) node_of named_at named_at-node_of

abbrev pub entry_code : Coded EntryValue
entry_code =
    code_by (List (List ℕ) × Named) (coded× (coded_list (coded_list coded_ℕ)) named_code) (λ e. (e.aliases, e.route))
    (λ p. record { aliases = p.0; route = p.1 }) (λ _. refl)

abbrev pub config_code : Coded ConfigValue
config_code =
    code_by (List (List ℕ) × (List (List ℕ) × List EntryValue))
    (coded× (coded_list (coded_list coded_ℕ)) (coded× (coded_list (coded_list coded_ℕ)) (coded_list entry_code)))
    (λ p. (p.servers, (p.pools, p.entries))) (λ p. record { servers = p.0; pools = p.1.0; entries = p.1.1 }) (λ _. refl)
