-- Each symbol of the table is over the servers of a pool, of which there is one or more.
use Rattle.std.proofs.Common.{ℕ, ◌<◌, List, [], ◌∷◌, ◌++◌, length, true, false, fold, arith}
use Rattle.std.specs.List.{All, flat_map}
use Rattle.std.specs.Prelude.{if◌then◌else◌}
use Rattle.std.proofs.lemmas.List.Elements.{All-nil, All-cons, All-head, All-tail, All-append, All-push}
use Rattle.mcv_config.specs.ConfigValue.{AreSoundRoutes, EntryValue, IsSound, IsSoundRoute, Named, Nameds, ConfigValue, no_named, named}
use Rattle.mcv_config.specs.ConfigValue as config
use Rattle.mcv_pools.specs.Symbol.{SymbolValue, same_symbol}
use Rattle.mcv_pools.specs.Table.{is_in, with_entry}
use Rattle.mcv_pools.specs.declared.symbol.HashFunc.TheVariants.{Ch3}
use Rattle.mcv_route.specs.NamedRoutes.{pool_at, server_at, symbol_of, symbols_in, symbols_below, symbols_named}

-- what holds of each symbol holds of each of the table that they make
pub all_numbered : (P : SymbolValue → Type 0) (t xs : List SymbolValue) → All P t → All P xs → All P (fold (with_entry same_symbol) t xs)
all_numbered P t [] h k = h
all_numbered P t (x ∷ xs) h k =
    let own : All P (with_entry same_symbol t x) =
    elim (is_in same_symbol t x) as (λ b. All P (if b then t else t ++ x ∷ [])) [
      | true ↦ h
      | false ↦ All-push P t x h (All-head P x xs k)
    ] in
    all_numbered P (with_entry same_symbol t x) xs own (All-tail P x xs k)

abbrev HasServers : SymbolValue → Type 0
HasServers s = 0 < s.n

module _ (count : ℕ) (pools : List (List ℕ)) (sound : All (config.IsSoundPool count) pools) where
  mutual
    symbols_filled : (t : Named) → IsSoundRoute pools t → All HasServers (symbols_in pools t)
    symbols_filled (config.pool i func salt ranges targets) h =
        let p = sound i [] h.0 in
        All-cons HasServers (symbol_of func salt (pool_at pools i)) (symbols_below pools targets) p.some (below_filled targets h.1)
    symbols_filled (config.server i k) h = All-cons HasServers (symbol_of Ch3 [] (server_at pools i k)) [] (omega arith) (All-nil HasServers)
    symbols_filled config.null h = All-nil HasServers
    symbols_filled config.error h = All-nil HasServers
    symbols_filled (config.many kind ts) h = below_filled ts h.1
    symbols_filled (config.warm_up cold warm exptime) h = All-append HasServers (symbols_in pools cold) (symbols_in pools warm) (symbols_filled cold h.0) (symbols_filled warm h.1)
    symbols_filled (config.migrate from to start interval) h = All-append HasServers (symbols_in pools from) (symbols_in pools to) (symbols_filled from h.0) (symbols_filled to h.1)
    symbols_filled (config.prefix_selector prefixes ts) h = below_filled ts h
    symbols_filled (config.operation_selector ops ts) h = below_filled ts h

    below_filled : (ts : Nameds) → AreSoundRoutes pools ts → All HasServers (symbols_below pools ts)
    below_filled no_named h = All-nil HasServers
    below_filled (named t ts) h = All-append HasServers (symbols_in pools t) (symbols_below pools ts) (symbols_filled t h.0) (below_filled ts h.1)

  entries_filled : (es : List EntryValue) → All (λ e. IsSoundRoute pools e.route) es → All HasServers (flat_map (λ e. symbols_in pools e.route) es)
  entries_filled [] h = All-nil HasServers
  entries_filled (e ∷ es) h =
      let P : EntryValue → Type 0 = λ e. IsSoundRoute pools e.route in
      All-append HasServers (symbols_in pools e.route) (flat_map (λ e. symbols_in pools e.route) es) (symbols_filled e.route (All-head P e es h)) (entries_filled es (All-tail P e es h))

pub symbols_have_servers : (p : ConfigValue) → IsSound p → All (λ s. 0 < s.n) (symbols_named p)
symbols_have_servers p sound =
    all_numbered HasServers [] (flat_map (λ e. symbols_in p.pools e.route) p.entries) (All-nil HasServers) (entries_filled (length p.servers) p.pools sound.pools p.entries sound.routes)
