-- What a handle of a configuration names, one level at a time.
use Rattle.std.proofs.Common.{◌≡◌, ℕ, List, ◌++◌, map, Vec, Box, Global, Option, Some, None, rules}
use Rattle.mcv_base.specs.declared.operation.Op.{Op}
use Rattle.mcv_names.specs.declared.handle.Many.{Many as Kind}
use Rattle.mcv_pools.specs.declared.symbol.HashFunc.{HashFunc}
use Rattle.mcv_config.specs.ConfigValue.{Range, Named, Nameds, nameds_of, named_of, policy_of, prefix_of, shadow_of, pool, server, null, error, many, warm_up, migrate, prefix_selector, operation_selector}
pub use Rattle.mcv_route.specs.Walk.{last_named}
use Rattle.mcv_config.specs.declared.config.NamedPolicy.{NamedPolicy, out-NamedPolicy}
use Rattle.mcv_config.specs.declared.config.NamedPrefix.{NamedPrefix, out-NamedPrefix}
use Rattle.mcv_config.specs.declared.config.NamedShadow.{NamedShadow, out-NamedShadow}
use Rattle.mcv_config.specs.declared.config.NamedRoute.{NamedRoute, Pool, Server, Null, Error, Many, WarmUp, Migrate, PrefixSelector, OperationSelector, the_lemmas}

abbrev pub children_of : List NamedRoute → Nameds
children_of children = nameds_of (map named_of children)

abbrev pub ranges_of : List NamedShadow → List Range
ranges_of shadows = map (λ s. s.0) (map shadow_of shadows)

-- the targets of shadows
abbrev pub targets_of : List NamedShadow → List Named
targets_of shadows = map (λ s. s.1) (map shadow_of shadows)

abbrev pub prefixes_of : List NamedPrefix → List (List ℕ)
prefixes_of policies = map (λ p. p.0) (map prefix_of policies)

-- the routes of prefixes
abbrev pub prefix_routes_of : List NamedPrefix → List Named
prefix_routes_of policies = map (λ p. p.1) (map prefix_of policies)

-- the routes of policies
abbrev pub policies_of : List NamedPolicy → List Named
policies_of policies = map (λ p. p.1) (map policy_of policies)

abbrev pub names_of : List NamedPolicy → List (Option Op)
names_of policies = map (λ p. p.0) (map policy_of policies)

pub named_of-Pool : (i : ℕ) (func : HashFunc) (salt : Vec ℕ Global) (v : Vec NamedShadow Global) → named_of (Pool i func salt v) ≡ pool i func salt.items (ranges_of v.items) (nameds_of (targets_of v.items))
named_of-Pool i func salt v = search (rules, the_lemmas)

pub named_of-Server : (i k : ℕ) → named_of (Server i k) ≡ server i k
named_of-Server i k = search (rules, the_lemmas)

pub named_of-Null : named_of Null ≡ null
named_of-Null = search (rules, the_lemmas)

pub named_of-Error : named_of Error ≡ error
named_of-Error = search (rules, the_lemmas)

pub named_of-Many : (kind : Kind) (v : Vec NamedRoute Global) → named_of (Many kind v) ≡ many kind (children_of v.items)
named_of-Many kind v = search (rules, the_lemmas)

pub named_of-WarmUp : (cold warm : Box NamedRoute Global) (exptime : ℕ) → named_of (WarmUp cold warm exptime) ≡ warm_up (named_of cold.value) (named_of warm.value) exptime
named_of-WarmUp cold warm exptime = search (rules, the_lemmas)

pub named_of-Migrate : (from to : Box NamedRoute Global) (start interval : ℕ) → named_of (Migrate from to start interval) ≡ migrate (named_of from.value) (named_of to.value) start interval
named_of-Migrate from to start interval = search (rules, the_lemmas)

pub shadow_of-out : (s : NamedShadow) → shadow_of s ≡ (record { first = (out-NamedShadow s).first; last = (out-NamedShadow s).last }, named_of (out-NamedShadow s).target)
shadow_of-out s = search (rules, the_lemmas)

pub prefix_of-out : (p : NamedPrefix) → prefix_of p ≡ ((out-NamedPrefix p).«prefix».items, named_of (out-NamedPrefix p).route)
prefix_of-out p = search (rules, the_lemmas)

pub policy_of-out : (p : NamedPolicy) → policy_of p ≡ ((out-NamedPolicy p).op, named_of (out-NamedPolicy p).route)
policy_of-out p = search (rules, the_lemmas)

pub named_of-PrefixSelector-None : (v : Vec NamedPrefix Global) → named_of (PrefixSelector v None) ≡ prefix_selector (prefixes_of v.items) (nameds_of (prefix_routes_of v.items ++ last_named None))
named_of-PrefixSelector-None v = search (rules, the_lemmas)

pub named_of-PrefixSelector-Some : (v : Vec NamedPrefix Global) (d : Box NamedRoute Global) → named_of (PrefixSelector v (Some d)) ≡ prefix_selector (prefixes_of v.items) (nameds_of (prefix_routes_of v.items ++ last_named (Some d)))
named_of-PrefixSelector-Some v d = search (rules, the_lemmas)

pub named_of-PrefixSelector : (v : Vec NamedPrefix Global) (d : Option (Box NamedRoute Global)) → named_of (PrefixSelector v d) ≡ prefix_selector (prefixes_of v.items) (nameds_of (prefix_routes_of v.items ++ last_named d))
named_of-PrefixSelector v None = named_of-PrefixSelector-None v
named_of-PrefixSelector v (Some d) = named_of-PrefixSelector-Some v d

pub named_of-OperationSelector-None : (v : Vec NamedPolicy Global) → named_of (OperationSelector v None) ≡ operation_selector (names_of v.items) (nameds_of (policies_of v.items ++ last_named None))
named_of-OperationSelector-None v = search (rules, the_lemmas)

pub named_of-OperationSelector-Some : (v : Vec NamedPolicy Global) (d : Box NamedRoute Global) → named_of (OperationSelector v (Some d)) ≡ operation_selector (names_of v.items) (nameds_of (policies_of v.items ++ last_named (Some d)))
named_of-OperationSelector-Some v d = search (rules, the_lemmas)

pub named_of-OperationSelector : (v : Vec NamedPolicy Global) (d : Option (Box NamedRoute Global)) → named_of (OperationSelector v d) ≡ operation_selector (names_of v.items) (nameds_of (policies_of v.items ++ last_named d))
named_of-OperationSelector v None = named_of-OperationSelector-None v
named_of-OperationSelector v (Some d) = named_of-OperationSelector-Some v d
