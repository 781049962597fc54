-- The routes of a sound configuration are sound.
use Rattle.std.proofs.Common.{◌≡◌, ◌≢◌, ℕ, ◌<◌, List, [], ◌∷◌, length, map, get_or, Some, refl, ap, sym, subst, ◌∙◌, arith}
use Rattle.std.specs.List.{All, position_or_len}
use Rattle.std.specs.Prelude.{slice_get, slice_index, slice_index_or, option_map, unwrap_or}
use Rattle.std.proofs.lemmas.List.Elements.{All-nil, All-cons, All-map}
use Rattle.std.proofs.lemmas.List.Sums.{passes_at_first}
use Rattle.std.proofs.lemmas.List.Folds.{flat_map-map}
use Rattle.std.proofs.lemmas.Option.{slice_get-get_or}
use Rattle.mcv_config.specs.ConfigValue.{Named, Nameds, ConfigValue, nameds_of, no_named, named, IsSound, IsSoundRoute, AreSoundRoutes}
use Rattle.mcv_config.specs.ConfigValue as config
use Rattle.mcv_pools.specs.declared.symbol.HashFunc.{HashFunc}
use Rattle.mcv_pools.specs.declared.symbol.HashFunc.TheVariants.{Ch3}
use Rattle.mcv_pools.specs.Symbol.{SymbolValue, same_symbol}
use Rattle.mcv_pools.proofs.Sameness.{same_symbol-Decides}
use Rattle.mcv_route.specs.NamedRoutes.{pool_at, server_at, symbol_of, symbols_in, symbols_below, symbols_named, number_of, pool_named, tree_named, trees_named, routes_named}
use Rattle.mcv_route.specs.Routes.{IsSoundPool, IsSoundTree, AreSoundTrees, IsSoundRoutes}
use Rattle.mcv_route.specs.Tree.{none}
use Rattle.mcv_route.proofs.Building.{All-unmap}
use Rattle.mcv_route.proofs.Numbers.{IsKnown, HasSymbols, HaveSymbols, have-walked, position-occurs, with_all, symbols_below-list}

sound-pool_named : (count : ℕ) (table : List SymbolValue) (func : HashFunc) (salt servers : List ℕ) → 0 < length servers → All (λ s. s < count) servers → IsKnown table (symbol_of func salt servers)
    → IsSoundPool count table (pool_named table func salt servers)
sound-pool_named count table func salt servers some known is =
    let own = symbol_of func salt servers in
    let place = position_or_len (same_symbol own) table in
    let found : slice_get table place ≡ Some (get_or table place own) = slice_get-get_or table place own is in
    let equal : own ≡ get_or table place own = (same_symbol-Decides own (get_or table place own)).0 (passes_at_first (same_symbol own) table own is) in
    let same : (get_or table place own).n ≡ length servers = ap (λ s. s.n) (sym equal) in
    let number : number_of table own ≡ place = ap (λ n. unwrap_or n 0) (position-occurs (same_symbol own) table is) in
    record {
      some = some;
      known = known;
      sized = ap (λ n. option_map (λ s. s.n) (slice_get table n)) number ∙ ap (option_map (λ s. s.n)) found ∙ ap Some same;
    }

some_trees : (table : List SymbolValue) (pools : List (List ℕ)) (ts : Nameds) → ts ≢ no_named → trees_named table pools ts ≢ none
some_trees table pools no_named h = absurd (h refl)
some_trees table pools (named t ts) h = λ e. cc

module _ (count : ℕ) (pools : List (List ℕ)) (table : List SymbolValue) (sound : All (config.IsSoundPool count) pools) where
  mutual
    pub sound-tree : (t : Named) → IsSoundRoute pools t → HasSymbols pools table t → IsSoundTree count table (tree_named table pools t)
    sound-tree (config.pool k func salt ranges targets) inside h =
        let p = sound k [] inside.0 in
        (sound-pool_named count table func salt (pool_at pools k) p.some p.known h.0, sound-trees targets inside.1 h.1)
    sound-tree (config.server k n) inside h =
        let p = sound k [] inside.0 in
        let known : All (λ s. s < count) (server_at pools k n) = All-cons (λ s. s < count) (slice_index (pool_at pools k) n) [] (p.known n 0 inside.1) (All-nil (λ s. s < count)) in
        (sound-pool_named count table Ch3 [] (server_at pools k n) (omega arith) known h, tt)
    sound-tree config.null inside h = tt
    sound-tree config.error inside h = tt
    sound-tree (config.many kind ts) inside h = (some_trees table pools ts inside.0, sound-trees ts inside.1 h)
    sound-tree (config.warm_up cold warm exptime) inside h = (sound-tree cold inside.0 h.0, sound-tree warm inside.1 h.1)
    sound-tree (config.migrate from to start interval) inside h = (sound-tree from inside.0 h.0, sound-tree to inside.1 h.1)
    sound-tree (config.prefix_selector prefixes ts) inside h = sound-trees ts inside h
    sound-tree (config.operation_selector ops ts) inside h = sound-trees ts inside h

    pub sound-trees : (ts : Nameds) → AreSoundRoutes pools ts → HaveSymbols pools table ts → AreSoundTrees count table (trees_named table pools ts)
    sound-trees no_named inside h = tt
    sound-trees (named t ts) inside h = (sound-tree t inside.0 h.0, sound-trees ts inside.1 h.1)

all-have : (pools : List (List ℕ)) (table : List SymbolValue) (ns : List Named) → HaveSymbols pools table (nameds_of ns) → All (HasSymbols pools table) ns
all-have pools table [] h = All-nil (HasSymbols pools table)
all-have pools table (n ∷ ns) h = All-cons (HasSymbols pools table) n ns h.0 (all-have pools table ns h.1)

pub sound-built : (p : ConfigValue) → IsSound p → IsSoundRoutes (routes_named p)
sound-built p sound =
    let count = length p.servers in
    let table = symbols_named p in
    let handles : List Named = map (λ e. e.route) p.entries in
    let is : with_all [] (symbols_below p.pools (nameds_of handles)) ≡ table =
    ap (with_all []) (symbols_below-list p.pools handles ∙ flat_map-map (symbols_in p.pools) (λ e. e.route) p.entries) in
    let have : HaveSymbols p.pools table (nameds_of handles) =
    let P : List SymbolValue → Type 0 = λ t. HaveSymbols p.pools t (nameds_of handles) in
    subst P is (have-walked p.pools [] (nameds_of handles)) in
    let each : All (λ e. HasSymbols p.pools table e.route) p.entries = All-unmap (HasSymbols p.pools table) (λ e. e.route) p.entries (all-have p.pools table handles have) in
    All-map (λ e. IsSoundTree count table e.tree) (λ e. record { aliases = e.aliases; tree = tree_named table p.pools e.route }) p.entries
    (λ k d h. sound-tree count p.pools table sound.pools (slice_index_or p.entries k d).route (sound.routes k d h) (each k d h))
