-- A hash's indexes are below the numbers of servers.
use Rattle.std.proofs.Common.{ℕ, ◌<◌, List, [], map, length, get_or, sym, subst, arith}
use Rattle.std.specs.List.{All}
use Rattle.std.proofs.lemmas.List.{get_or-map, length-map}
use Rattle.std.proofs.lemmas.List.Elements.{All-get_or}
use Rattle.mcv_pools.specs.declared.symbol.HashFunc.TheVariants.{Ch3}
use Rattle.mcv_pools.specs.Choice.{HasIndexEach, chosen_each}
use Rattle.mcv_pools.specs.Symbol.{SymbolValue}

no_symbol : SymbolValue
no_symbol = record { func = Ch3; salt = []; n = 0 }

pub chosen_within : (chosen : SymbolValue → List ℕ → ℕ) (symbols : List SymbolValue) (part : List ℕ) → ((symbol : SymbolValue) (part : List ℕ) → 0 < symbol.n → chosen symbol part < symbol.n)
    → All (λ symbol. 0 < symbol.n) symbols → HasIndexEach symbols (chosen_each chosen symbols part)
chosen_within chosen symbols part within some s lt =
    let inside : s < length symbols = omega (arith, lt, length-map symbols (λ symbol. symbol.n)) in
    let below = within (get_or symbols s no_symbol) part (All-get_or (λ symbol. 0 < symbol.n) symbols s no_symbol inside some) in
    let index = get_or-map (λ symbol. chosen symbol part) symbols s no_symbol 0 inside in
    let count = get_or-map (λ symbol. symbol.n) symbols s no_symbol 0 inside in
    subst (λ (i : ℕ). i < get_or (map (λ symbol. symbol.n) symbols) s 0) (sym index) (subst (λ (n : ℕ). chosen (get_or symbols s no_symbol) part < n) (sym count) below)
