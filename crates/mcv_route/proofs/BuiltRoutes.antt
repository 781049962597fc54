-- The routes that were built, as a whole, are those that the configuration names.
use Rattle.std.proofs.Common.{◌≡◌, ℕ, ◌+◌, List, [], ◌∷◌, ◌++◌, map, fold, refl, ap, sym, subst, ◌∙◌}
use Rattle.std.specs.List.{All, position_or_len}
use Rattle.std.specs.Prelude.{Bool, not, cond, position, nat_lt, Some, None}
use Rattle.std.proofs.lemmas.List.{length-map, map-append}
use Rattle.std.proofs.lemmas.Simd.{map-map}
use Rattle.std.proofs.lemmas.List.Folds.{flat_map-map}
use Rattle.mcv_config.specs.ConfigValue.{IsSound, IsSoundRoute, named_of, config_value, entry_value, pool_servers}
use Rattle.mcv_config.specs.declared.config.ConfigParts.{ConfigParts}
use Rattle.mcv_config.specs.declared.config.Entry.{Entry}
use Rattle.mcv_pools.specs.Symbol.{SymbolValue, same_symbol}
use Rattle.mcv_pools.specs.Table.{with_entry}
use Rattle.mcv_route.specs.NamedRoutes.{routes_named, symbols_in, symbols_named, tree_named}
use Rattle.mcv_route.specs.RoutesView.{entry_view}
use Rattle.mcv_route.specs.View.{view}
use Rattle.mcv_route.specs.Walk.{IsBuilt}
use Rattle.mcv_route.specs.declared.routes.AliasedRoute.{AliasedRoute}
use Rattle.mcv_route.proofs.Building.{All-unmap}
use Rattle.mcv_route.proofs.Numbers.{built-append}

-- one more entry
pub entry-more : (pools : List (List ℕ)) (t u v : List SymbolValue) (entries : List Entry) (built : List AliasedRoute) (e : Entry) (r : AliasedRoute)
    → IsBuilt pools t (map (λ e. named_of e.route) entries) u (map (λ r. view r.route) built) → IsBuilt pools u (named_of e.route ∷ []) v (view r.route ∷ [])
    → IsBuilt pools t (map (λ e. named_of e.route) (entries ++ e ∷ [])) v (map (λ r. view r.route) (built ++ r ∷ []))
entry-more pools t u v entries built e r before one =
    rw (map-append (λ e. named_of e.route) entries (e ∷ []), map-append (λ r. view r.route) built (r ∷ []))
    (built-append pools t u v (map (λ e. named_of e.route) entries) (named_of e.route ∷ []) (map (λ r. view r.route) built) (view r.route ∷ []) before one)

pub aliases-more : (entries : List Entry) (built : List AliasedRoute) (e : Entry) (r : AliasedRoute)
    → map (λ r. r.aliases.items) built ≡ map (λ e. e.aliases.items) entries → r.aliases.items ≡ e.aliases.items
    → map (λ r. r.aliases.items) (built ++ r ∷ []) ≡ map (λ e. e.aliases.items) (entries ++ e ∷ [])
aliases-more entries built e r before one =
    map-append (λ r. r.aliases.items) built (r ∷ []) ∙ ap (λ xs. xs ++ r.aliases.items ∷ []) before ∙ ap (λ a. map (λ e. e.aliases.items) entries ++ a ∷ []) one
    ∙ sym (map-append (λ e. e.aliases.items) entries (e ∷ []))

-- entries with the aliases and the trees of a configuration's entries
entries-are : (symbols : List SymbolValue) (pools : List (List ℕ)) (entries : List Entry) (built : List AliasedRoute)
    → map (λ r. r.aliases.items) built ≡ map (λ e. e.aliases.items) entries → map (λ r. view r.route) built ≡ map (λ e. tree_named symbols pools (named_of e.route)) entries
    → map entry_view built ≡ map (λ e. record { aliases = e.aliases; tree = tree_named symbols pools e.route }) (map entry_value entries)
entries-are symbols pools [] [] a t = refl
entries-are symbols pools [] (r ∷ built) a t = cc
entries-are symbols pools (e ∷ entries) [] a t = cc
entries-are symbols pools (e ∷ entries) (r ∷ built) a t =
    let own : r.aliases.items ≡ e.aliases.items = cc in
    let tree : view r.route ≡ tree_named symbols pools (named_of e.route) = cc in
    let aliases : map (λ r. r.aliases.items) built ≡ map (λ e. e.aliases.items) entries = cc in
    let trees : map (λ r. view r.route) built ≡ map (λ e. tree_named symbols pools (named_of e.route)) entries = cc in
    let others = entries-are symbols pools entries built aliases trees in
    λ i. record { aliases = own i; tree = tree i } ∷ others i

pub sound-entries : (c : ConfigParts) (pools : List (List ℕ)) → pools ≡ map pool_servers c.pools.items → IsSound (config_value c) → All (λ e. IsSoundRoute pools (named_of e.route)) c.entries.items
sound-entries c pools is sound =
    let P : List (List ℕ) → Type 0 = λ ps. All (λ e. IsSoundRoute ps (named_of e.route)) c.entries.items in
    subst P (sym is) (All-unmap (λ e. IsSoundRoute (config_value c).pools e.route) entry_value c.entries.items sound.routes)

pub routes-are : (c : ConfigParts) (pools : List (List ℕ)) (symbols : List SymbolValue) (built : List AliasedRoute) → pools ≡ map pool_servers c.pools.items
    → map (λ r. r.aliases.items) built ≡ map (λ e. e.aliases.items) c.entries.items
    → IsBuilt pools [] (map (λ e. named_of e.route) c.entries.items) symbols (map (λ r. view r.route) built)
    → record { servers = c.servers; symbols = symbols; entries = map entry_view built; window = 0 } ≡ routes_named (config_value c)
routes-are c pools symbols built pools-are a b =
    let entries = c.entries.items in
    let P = (config_value c).pools in
    let S = symbols_named (config_value c) in
    let Q : List (List ℕ) → Type 0 = λ ps. IsBuilt ps [] (map (λ e. named_of e.route) entries) symbols (map (λ r. view r.route) built) in
    let whole : IsBuilt P [] (map (λ e. named_of e.route) entries) symbols (map (λ r. view r.route) built) = subst Q pools-are b in
    let table : symbols ≡ S =
    whole.table ∙ ap (fold (with_entry same_symbol) []) (flat_map-map (symbols_in P) (λ e. named_of e.route) entries ∙ sym (flat_map-map (λ x. symbols_in P x.route) entry_value entries)) in
    let trees : map (λ r. view r.route) built ≡ map (λ e. tree_named S P (named_of e.route)) entries =
    whole.trees_are ∙ map-map (tree_named symbols P) (λ e. named_of e.route) entries ∙ ap (λ s. map (λ e. tree_named s P (named_of e.route)) entries) table in
    let all = entries-are S P entries built a trees in
    λ i. record { servers = c.servers; symbols = table i; entries = all i; window = 0 }

position-map : {A B : Type 0} (p : B → Bool) (f : A → B) (xs : List A) → position_or_len p (map f xs) ≡ position_or_len (λ x. p (f x)) xs
position-map p f [] = refl
position-map p f (x ∷ xs) = ap (λ n. cond (not (p (f x))) (1 + n) 0) (position-map p f xs)

pub position-mapped : {A B : Type 0} (p : B → Bool) (f : A → B) (xs : List A) → position (λ x. p (f x)) xs ≡ position p (map f xs)
position-mapped p f xs =
    let place = position-map p f xs in
    let size = length-map xs f in
    λ i. cond (nat_lt (sym place i) (sym size i)) (Some (sym place i)) None
