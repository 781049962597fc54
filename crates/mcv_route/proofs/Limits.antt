-- The routes of a configuration that keeps to its limits keep to theirs.
use Rattle.std.proofs.Common.{◌≡◌, ℕ, zero, suc, ◌+◌, ◌<◌, ◌≤◌, ◌⊎◌, inl, inr, List, [], ◌∷◌, length, map, refl, ap, ap₂, sym, subst, ◌∙◌, arith}
use Rattle.std.specs.List.{All, flat_map, sum_by}
use Rattle.std.specs.Prelude.{slice_index_or}
use Rattle.std.proofs.lemmas.Bool.{cases_lt}
use Rattle.std.proofs.lemmas.List.{get_or_past}
use Rattle.std.proofs.lemmas.List.Sums.{sum_by-cons}
use Rattle.std.proofs.lemmas.List.Elements.{All-nil, All-cons, All-head, All-tail, All-append, All-map}
use Rattle.mcv_config.specs.Aliases.{alias_limit}
use Rattle.mcv_config.specs.Config.{node_limit}
use Rattle.mcv_config.specs.Entries.{depth_limit}
use Rattle.mcv_config.specs.Hash.{salt_limit}
use Rattle.mcv_config.specs.Limits as named
use Rattle.mcv_config.specs.ConfigValue.{EntryValue, IsSound, Named, Nameds, ConfigValue, no_named}
use Rattle.mcv_config.specs.ConfigValue as config
use Rattle.mcv_config.specs.Pools.{pool_limit}
use Rattle.mcv_pools.specs.Symbol.{SymbolValue}
use Rattle.mcv_pools.specs.declared.symbol.HashFunc.TheVariants.{Ch3}
use Rattle.mcv_route.specs.NamedRoutes.{pool_at, server_at, symbol_of, symbols_in, symbols_below, tree_named, trees_named, routes_named, symbols_named}
use Rattle.mcv_route.specs.Limits.{handles_in, handles_below, IsWithin, AreWithin, AreWithinLimits}
use Rattle.mcv_route.specs.Routes.{RouteEntry}
use Rattle.mcv_route.proofs.SymbolsHaveServers.{all_numbered}

pool_small : (pools : List (List ℕ)) → All (λ p. length p ≤ pool_limit) pools → (i : ℕ) → length (pool_at pools i) ≤ pool_limit
pool_small pools small i = by (cases_lt i (length pools))
  where
    by : (i < length pools) ⊎ (length pools ≤ i) → length (pool_at pools i) ≤ pool_limit
    by (inl inside) = small i [] inside
    by (inr past) = rw (get_or_past pools i [] past) (omega arith)

module _ (table : List SymbolValue) (pools : List (List ℕ)) (small : All (λ p. length p ≤ pool_limit) pools) where
  mutual
    tree_within : (n : ℕ) (t : Named) → named.IsWithin n t → IsWithin n (tree_named table pools t)
    tree_within zero t h = absurd h
    tree_within (suc n) (config.pool i func salt ranges targets) h = (pool_small pools small i, trees_within n targets h.1)
    tree_within (suc n) (config.server i k) h = (omega arith, tt)
    tree_within (suc n) config.null h = tt
    tree_within (suc n) config.error h = tt
    tree_within (suc n) (config.many kind ts) h = trees_within n ts h
    tree_within (suc n) (config.warm_up cold warm exptime) h = (h.0, tree_within n cold h.1, tree_within n warm h.2)
    tree_within (suc n) (config.migrate from to start interval) h = (h.0, h.1, tree_within n from h.2, tree_within n to h.3)
    tree_within (suc n) (config.prefix_selector prefixes ts) h = (h.0, trees_within n ts h.1)
    tree_within (suc n) (config.operation_selector ops ts) h = trees_within n ts h

    trees_within : (n : ℕ) (ts : Nameds) → named.AreWithin n ts → AreWithin n (trees_named table pools ts)
    trees_within n no_named h = tt
    trees_within n (config.named t ts) h = (tree_within n t h.0, trees_within n ts h.1)

module _ (table : List SymbolValue) (pools : List (List ℕ)) where
  mutual
    tree_handles : (t : Named) → handles_in (tree_named table pools t) ≡ named.handles_in t
    tree_handles (config.pool i func salt ranges targets) = ap suc (trees_handles targets)
    tree_handles (config.server i k) = refl
    tree_handles config.null = refl
    tree_handles config.error = refl
    tree_handles (config.many kind ts) = ap suc (trees_handles ts)
    tree_handles (config.warm_up cold warm exptime) = ap₂ (λ a b. suc (a + b)) (tree_handles cold) (tree_handles warm)
    tree_handles (config.migrate from to start interval) = ap₂ (λ a b. suc (a + b)) (tree_handles from) (tree_handles to)
    tree_handles (config.prefix_selector prefixes ts) = ap suc (trees_handles ts)
    tree_handles (config.operation_selector ops ts) = ap suc (trees_handles ts)

    trees_handles : (ts : Nameds) → handles_below (trees_named table pools ts) ≡ named.handles_below ts
    trees_handles no_named = refl
    trees_handles (config.named t ts) = ap₂ (λ a b. a + b) (tree_handles t) (trees_handles ts)

  abbrev entry_named : EntryValue → RouteEntry
  entry_named e = record { aliases = e.aliases; tree = tree_named table pools e.route }

  abbrev count : RouteEntry → ℕ
  count e = handles_in e.tree

  abbrev count_named : EntryValue → ℕ
  count_named e = named.handles_in e.route

  entries_handles : (es : List EntryValue) → sum_by count (map entry_named es) ≡ sum_by count_named es
  entries_handles [] = refl
  entries_handles (e ∷ es) =
      sum_by-cons count (entry_named e) (map entry_named es) ∙ ap₂ (λ a b. a + b) (tree_handles e.route) (entries_handles es) ∙ sym (sum_by-cons count_named e es)

-- ---- salts

abbrev IsShort : SymbolValue → Type 0
IsShort s = length s.salt ≤ salt_limit

module _ (pools : List (List ℕ)) where
  mutual
    symbols_short : (n : ℕ) (t : Named) → named.IsWithin n t → All IsShort (symbols_in pools t)
    symbols_short zero t h = absurd h
    symbols_short (suc n) (config.pool i func salt ranges targets) h = All-cons IsShort (symbol_of func salt (pool_at pools i)) (symbols_below pools targets) h.0 (below_short n targets h.1)
    symbols_short (suc n) (config.server i k) h = All-cons IsShort (symbol_of Ch3 [] (server_at pools i k)) [] (omega arith) (All-nil IsShort)
    symbols_short (suc n) config.null h = All-nil IsShort
    symbols_short (suc n) config.error h = All-nil IsShort
    symbols_short (suc n) (config.many kind ts) h = below_short n ts h
    symbols_short (suc n) (config.warm_up cold warm exptime) h = All-append IsShort (symbols_in pools cold) (symbols_in pools warm) (symbols_short n cold h.1) (symbols_short n warm h.2)
    symbols_short (suc n) (config.migrate from to start interval) h = All-append IsShort (symbols_in pools from) (symbols_in pools to) (symbols_short n from h.2) (symbols_short n to h.3)
    symbols_short (suc n) (config.prefix_selector prefixes ts) h = below_short n ts h.1
    symbols_short (suc n) (config.operation_selector ops ts) h = below_short n ts h

    below_short : (n : ℕ) (ts : Nameds) → named.AreWithin n ts → All IsShort (symbols_below pools ts)
    below_short n no_named h = All-nil IsShort
    below_short n (config.named t ts) h = All-append IsShort (symbols_in pools t) (symbols_below pools ts) (symbols_short n t h.0) (below_short n ts h.1)

  entries_short : (es : List EntryValue) → All (λ e. named.IsWithin depth_limit e.route) es → All IsShort (flat_map (λ e. symbols_in pools e.route) es)
  entries_short [] h = All-nil IsShort
  entries_short (e ∷ es) h =
      let P : EntryValue → Type 0 = λ e. named.IsWithin depth_limit e.route in
      All-append IsShort (symbols_in pools e.route) (flat_map (λ e. symbols_in pools e.route) es) (symbols_short depth_limit e.route (All-head P e es h)) (entries_short es (All-tail P e es h))

-- ---- the whole

pub within-built : (p : ConfigValue) → IsSound p → named.IsWithinLimits p → AreWithinLimits (routes_named p)
within-built p sound h =
    let table = symbols_named p in
    let built = entry_named table p.pools in
    record {
      levels = All-map (λ e. IsWithin depth_limit e.tree) built p.entries (λ k d inside. tree_within table p.pools h.pools depth_limit (slice_index_or p.entries k d).route (h.levels k d inside));
      handles = subst (λ (n : ℕ). n ≤ node_limit) (sym (entries_handles table p.pools p.entries)) h.handles;
      servers = h.servers;
      salts = all_numbered IsShort [] (flat_map (λ e. symbols_in p.pools e.route) p.entries) (All-nil IsShort) (entries_short p.pools p.entries h.levels);
      aliases = All-map (λ e. All (λ a. length a ≤ alias_limit) e.aliases) built p.entries (λ k d inside j e within. ((sound.aliases k d inside).each j e within).1);
    }
