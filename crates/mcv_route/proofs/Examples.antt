-- The definitions at small trees.
use Rattle.std.proofs.Common.{◌≡◌, ℕ, List, [], ◌∷◌, Option, Some, None, slice_index, refl}
use Rattle.mcv_base.specs.declared.operation.Op.TheVariants.{Get, Set, Add, Delete}
use Rattle.mcv_base.specs.declared.operation.Op.{Op}
use Rattle.mcv_base.specs.declared.operation.Mark.{Mark}
use Rattle.mcv_base.specs.declared.operation.Mark.TheVariants.{Plain, Async, Shadow}
use Rattle.mcv_base.specs.declared.operation.Mark.TheVariants.{Add as Added}
use Rattle.mcv_base.specs.declared.reply.Outcome.{Outcome}
use Rattle.mcv_base.specs.declared.reply.Outcome.TheVariants.{Good, Soft, Error}
use Rattle.mcv_route.specs.Outcomes.{Choice, outcomes}
use Rattle.mcv_config.specs.ConfigValue as config
use Rattle.mcv_pools.specs.declared.symbol.HashFunc.TheVariants.{Ch3, Crc32}
use Rattle.mcv_pools.specs.Symbol.{same_symbol}
use Rattle.mcv_pools.specs.Table.{numbered}
use Rattle.mcv_route.specs.NamedRoutes.{symbols_in, tree_named}
use Rattle.mcv_route.specs.Eras.{breaks, since_at, era_at}
use Rattle.mcv_route.specs.Limits.{handles_in, IsWithin}
use Rattle.mcv_route.specs.Places.{tree_at}
use Rattle.mcv_route.specs.Tree.{Tree, Trees, pool, null, error, many, AllSync, AllInitial, AllAsync, Failover, MissFailover, warm_up, migrate, prefix_selector, operation_selector, none, child}
use Rattle.mcv_route.specs.Situation.{Situation, asked}
use Rattle.mcv_route.specs.Replies.{Answer, leg, fixed, refusal, replies}
use Rattle.mcv_route.specs.declared.launch.Launch.{Launch}
use Rattle.mcv_route.specs.Launched.{launched}
use Rattle.mcv_route.specs.Reply.{reply}

-- a pool of one server
abbrev one : ℕ → Tree
one n = pool (record { symbol = 0; servers = n ∷ [] }) [] none

abbrev two : Tree → Tree → Trees
two t u = child t (child u none)

abbrev first : Choice
first s = 0

abbrev at : List ℕ → ℕ → Op → Mark → Launch
at p x op m = record { position = p; server = record { 0 = x }; op = op; mark = m }

abbrev delete : Situation
delete = asked Delete (97 ∷ []) None

abbrev get : Situation
get = asked Get (97 ∷ []) None

failover_first : launched (many Failover (two (one 7) (one 8))) delete first (outcomes []) ≡ at (0 ∷ []) 7 Delete Plain ∷ []
failover_first = refl

failover_second : launched (many Failover (two (one 7) (one 8))) delete first (outcomes ((0 ∷ [], Error) ∷ [])) ≡ at (0 ∷ []) 7 Delete Plain ∷ at (1 ∷ []) 8 Delete Plain ∷ []
failover_second = refl

failover_soft : launched (many Failover (two (one 7) (one 8))) delete first (outcomes ((0 ∷ [], Soft) ∷ [])) ≡ at (0 ∷ []) 7 Delete Plain ∷ []
failover_soft = refl

initial_marks : launched (many AllInitial (two (one 7) (many AllInitial (two (one 8) (one 9))))) delete first (outcomes []) ≡ at (0 ∷ []) 7 Delete Plain ∷ at (1 ∷ 0 ∷ []) 8 Delete Async ∷ at (1 ∷ 1 ∷ []) 9 Delete Async ∷ []
initial_marks = refl

initial_reply : replies (many AllInitial (two (one 7) (one 8))) delete (outcomes ((1 ∷ [], Good) ∷ [])) ≡ []
initial_reply = refl

async_reply : replies (many AllAsync (two (one 7) (one 8))) delete (outcomes []) ≡ record { outcome = Soft; source = fixed } ∷ []
async_reply = refl

shadow_inside : launched (pool (record { symbol = 0; servers = 7 ∷ 8 ∷ [] }) (record { first = 0; last = 0 } ∷ []) (child (one 9) none)) delete first (outcomes []) ≡ at [] 7 Delete Plain ∷ at (0 ∷ []) 9 Delete Shadow ∷ []
shadow_inside = refl

shadow_outside : launched (pool (record { symbol = 0; servers = 7 ∷ 8 ∷ [] }) (record { first = 0; last = 0 } ∷ []) (child (one 9) none)) delete (λ s. 1) (outcomes []) ≡ at [] 8 Delete Plain ∷ []
shadow_outside = refl

warm_up_all : launched (warm_up (one 7) (one 8) 60) get first (outcomes ((1 ∷ [], Good) ∷ (0 ∷ [], Soft) ∷ [])) ≡ at (0 ∷ []) 7 Get Plain ∷ at (1 ∷ []) 8 Get Plain ∷ at (2 ∷ []) 7 Add Added ∷ []
warm_up_all = refl

warm_up_set : launched (warm_up (one 7) (one 8) 60) (asked Set [] None) first (outcomes []) ≡ at (0 ∷ []) 7 Set Plain ∷ []
warm_up_set = refl

migrate_both : launched (migrate (one 7) (one 8) 100 10) (asked Delete [] (Some 100)) first (outcomes []) ≡ at (0 ∷ []) 7 Delete Plain ∷ at (1 ∷ []) 8 Delete Plain ∷ []
migrate_both = refl

migrate_before : launched (migrate (one 7) (one 8) 100 10) (asked Delete [] (Some 99)) first (outcomes []) ≡ at (0 ∷ []) 7 Delete Plain ∷ []
migrate_before = refl

migrate_get_from : launched (migrate (one 7) (one 8) 100 10) (asked Get [] (Some 109)) first (outcomes []) ≡ at (0 ∷ []) 7 Get Plain ∷ []
migrate_get_from = refl

migrate_get_to : launched (migrate (one 7) (one 8) 100 10) (asked Get [] (Some 110)) first (outcomes []) ≡ at (1 ∷ []) 8 Get Plain ∷ []
migrate_get_to = refl

migrate_all_to : launched (migrate (one 7) (one 8) 100 10) (asked Delete [] (Some 120)) first (outcomes []) ≡ at (1 ∷ []) 8 Delete Plain ∷ []
migrate_all_to = refl

longest_prefix : launched (prefix_selector ((97 ∷ []) ∷ (97 ∷ 98 ∷ []) ∷ []) (child (one 7) (child (one 8) (child (one 9) none)))) (asked Get (97 ∷ 98 ∷ 99 ∷ []) None) first (outcomes []) ≡ at (1 ∷ []) 8 Get Plain ∷ []
longest_prefix = refl

wildcard : launched (prefix_selector ((97 ∷ []) ∷ []) (two (one 7) (one 8))) (asked Get (98 ∷ []) None) first (outcomes []) ≡ at (1 ∷ []) 8 Get Plain ∷ []
wildcard = refl

no_wildcard : replies (prefix_selector ((97 ∷ []) ∷ []) (child (one 7) none)) (asked Get (98 ∷ []) None) (outcomes []) ≡ record { outcome = Error; source = refusal } ∷ []
no_wildcard = refl

operation : launched (operation_selector (Some Delete ∷ []) (two (one 7) (one 8))) delete first (outcomes []) ≡ at (0 ∷ []) 7 Delete Plain ∷ []
operation = refl

-- an inner AllSyncRoute comes when it is complete, though its answer came first of all
inner_is_last : reply (many AllSync (two (many AllSync (two (one 7) (one 8))) (one 9))) delete ((0 ∷ 1 ∷ [], Good) ∷ (1 ∷ [], Soft) ∷ (0 ∷ 0 ∷ [], Soft) ∷ []) ≡ Some (record { outcome = Soft; source = leg (0 ∷ 0 ∷ []) })
inner_is_last = refl

inner_is_first : reply (many AllSync (two (many AllSync (two (one 7) (one 8))) (one 9))) delete ((1 ∷ [], Soft) ∷ (0 ∷ 1 ∷ [], Good) ∷ (0 ∷ 0 ∷ [], Soft) ∷ []) ≡ Some (record { outcome = Soft; source = leg (1 ∷ []) })
inner_is_first = refl

-- of three, the first came last among the worst
three : reply (many AllSync (child (one 7) (two (one 8) (one 9)))) delete ((0 ∷ [], Soft) ∷ (2 ∷ [], Good) ∷ (1 ∷ [], Soft) ∷ []) ≡ Some (record { outcome = Soft; source = leg (0 ∷ []) })
three = refl

not_yet : reply (many AllSync (child (one 7) (two (one 8) (one 9)))) delete ((2 ∷ [], Error) ∷ (1 ∷ [], Soft) ∷ []) ≡ None
not_yet = refl

-- replies at once count as coming in the order of the children
at_once : reply (many AllSync (two (many AllAsync none) null)) delete [] ≡ Some (record { outcome = Soft; source = fixed })
at_once = refl

-- ---- AllSyncRoute: equal answers, and the last of them

sync_ties : replies (many AllSync (two (one 7) (one 8))) delete (outcomes ((1 ∷ [], Soft) ∷ (0 ∷ [], Soft) ∷ [])) ≡ record { outcome = Soft; source = leg (0 ∷ []) } ∷ record { outcome = Soft; source = leg (1 ∷ []) } ∷ []
sync_ties = refl

sync_last : reply (many AllSync (two (one 7) (one 8))) delete ((0 ∷ [], Error) ∷ (1 ∷ [], Error) ∷ []) ≡ Some (record { outcome = Error; source = leg (0 ∷ []) })
sync_last = refl

-- ---- AllInitialRoute, AllAsyncRoute, MissFailoverRoute, ErrorRoute

initial_first : replies (many AllInitial (two (one 7) (one 8))) delete (outcomes ((1 ∷ [], Error) ∷ (0 ∷ [], Good) ∷ [])) ≡ record { outcome = Good; source = leg (0 ∷ []) } ∷ []
initial_first = refl

async_failover : launched (many AllAsync (child (many Failover (two (one 7) (one 8))) none)) delete first (outcomes ((0 ∷ 0 ∷ [], Error) ∷ [])) ≡ at (0 ∷ 0 ∷ []) 7 Delete Async ∷ at (0 ∷ 1 ∷ []) 8 Delete Async ∷ []
async_failover = refl

miss_failover_next : launched (many MissFailover (two (one 7) (one 8))) get first (outcomes ((0 ∷ [], Soft) ∷ [])) ≡ at (0 ∷ []) 7 Get Plain ∷ at (1 ∷ []) 8 Get Plain ∷ []
miss_failover_next = refl

miss_failover_delete : launched (many MissFailover (two (one 7) (one 8))) delete first (outcomes ((0 ∷ [], Soft) ∷ [])) ≡ at (0 ∷ []) 7 Delete Plain ∷ []
miss_failover_delete = refl

error_route : replies error delete (outcomes []) ≡ record { outcome = Error; source = refusal } ∷ []
error_route = refl

-- ---- shadows: all below them is marked so, and no reply waits for them

shadow_marks : launched (pool (record { symbol = 0; servers = 7 ∷ 8 ∷ [] }) (record { first = 0; last = 0 } ∷ []) (child (many AllAsync (child (one 9) none)) none)) delete first (outcomes []) ≡ at [] 7 Delete Plain ∷ at (0 ∷ 0 ∷ []) 9 Delete Shadow ∷ []
shadow_marks = refl

shadow_add : launched (pool (record { symbol = 0; servers = 7 ∷ [] }) (record { first = 0; last = 0 } ∷ []) (child (warm_up (one 8) (one 9) 60) none)) get first (outcomes ((0 ∷ 1 ∷ [], Good) ∷ (0 ∷ 0 ∷ [], Soft) ∷ [])) ≡ at [] 7 Get Plain ∷ at (0 ∷ 0 ∷ []) 8 Get Shadow ∷ at (0 ∷ 1 ∷ []) 9 Get Shadow ∷ at (0 ∷ 2 ∷ []) 8 Add Shadow ∷ []
shadow_add = refl

shadow_reply : replies (pool (record { symbol = 0; servers = 7 ∷ [] }) (record { first = 0; last = 0 } ∷ []) (child (one 9) none)) delete (outcomes ((0 ∷ [], Error) ∷ [])) ≡ []
shadow_reply = refl

-- ---- WarmUpRoute: the add comes after a cold miss and a warm hit

warm_up_hit : launched (warm_up (one 7) (one 8) 60) get first (outcomes ((0 ∷ [], Good) ∷ [])) ≡ at (0 ∷ []) 7 Get Plain ∷ []
warm_up_hit = refl

warm_up_missed : launched (warm_up (one 7) (one 8) 60) get first (outcomes ((1 ∷ [], Soft) ∷ (0 ∷ [], Soft) ∷ [])) ≡ at (0 ∷ []) 7 Get Plain ∷ at (1 ∷ []) 8 Get Plain ∷ []
warm_up_missed = refl

warm_up_reply : replies (warm_up (one 7) (one 8) 60) get (outcomes ((1 ∷ [], Good) ∷ (0 ∷ [], Soft) ∷ [])) ≡ record { outcome = Good; source = leg (1 ∷ []) } ∷ []
warm_up_reply = refl

warm_up_async : launched (many AllAsync (child (warm_up (one 7) (one 8) 60) none)) get first (outcomes ((0 ∷ 1 ∷ [], Good) ∷ (0 ∷ 0 ∷ [], Soft) ∷ [])) ≡ at (0 ∷ 0 ∷ []) 7 Get Async ∷ at (0 ∷ 1 ∷ []) 8 Get Async ∷ at (0 ∷ 2 ∷ []) 7 Add Added ∷ []
warm_up_async = refl

-- ---- MigrateRoute: before its start, and after each break

migrate_first_era : launched (migrate (one 7) (one 8) 100 10) (asked Delete [] None) first (outcomes []) ≡ at (0 ∷ []) 7 Delete Plain ∷ []
migrate_first_era = refl

migrate_set_from : launched (migrate (one 7) (one 8) 100 10) (asked Set [] (Some 100)) first (outcomes []) ≡ at (0 ∷ []) 7 Set Plain ∷ []
migrate_set_from = refl

migrate_set_to : launched (migrate (one 7) (one 8) 100 10) (asked Set [] (Some 110)) first (outcomes []) ≡ at (1 ∷ []) 8 Set Plain ∷ []
migrate_set_to = refl

migrate_still_both : launched (migrate (one 7) (one 8) 100 10) (asked Delete [] (Some 110)) first (outcomes []) ≡ at (0 ∷ []) 7 Delete Plain ∷ at (1 ∷ []) 8 Delete Plain ∷ []
migrate_still_both = refl

migrate_worse : replies (migrate (one 7) (one 8) 100 10) (asked Delete [] (Some 110)) (outcomes ((1 ∷ [], Error) ∷ (0 ∷ [], Soft) ∷ [])) ≡ record { outcome = Error; source = leg (1 ∷ []) } ∷ []
migrate_worse = refl

migrate_reply_to : replies (migrate (one 7) (one 8) 100 10) (asked Delete [] (Some 120)) (outcomes ((1 ∷ [], Good) ∷ [])) ≡ record { outcome = Good; source = leg (1 ∷ []) } ∷ []
migrate_reply_to = refl

-- ---- selectors: the default, and none

default_policy : launched (operation_selector (Some Set ∷ []) (two (one 7) (one 8))) delete first (outcomes []) ≡ at (1 ∷ []) 8 Delete Plain ∷ []
default_policy = refl

unknown_name : launched (operation_selector (None ∷ Some Delete ∷ []) (child (one 7) (two (one 8) (one 9)))) delete first (outcomes []) ≡ at (1 ∷ []) 8 Delete Plain ∷ []
unknown_name = refl

no_policy : launched (operation_selector (Some Set ∷ []) (child (one 7) none)) delete first (outcomes []) ≡ []
no_policy = refl

no_policy_reply : replies (operation_selector (Some Set ∷ []) (child (one 7) none)) delete (outcomes []) ≡ record { outcome = Error; source = refusal } ∷ []
no_policy_reply = refl

-- ---- eras

migration_breaks : breaks (many AllSync (two (migrate (one 7) (one 8) 100 10) (one 9))) ≡ 100 ∷ 110 ∷ 120 ∷ []
migration_breaks = refl

since_before : since_at (100 ∷ 120 ∷ 110 ∷ []) 99 ≡ None
since_before = refl

since_at_a_break : since_at (100 ∷ 120 ∷ 110 ∷ []) 120 ≡ Some 120
since_at_a_break = refl

since_between : since_at (100 ∷ 120 ∷ 110 ∷ []) 119 ≡ Some 110
since_between = refl

era_between : era_at (100 ∷ 120 ∷ 110 ∷ 110 ∷ []) 119 ≡ 2
era_between = refl

-- ---- places

target_of_a_shadow : tree_at (pool (record { symbol = 0; servers = 7 ∷ [] }) (record { first = 0; last = 0 } ∷ []) (child (one 9) none)) (0 ∷ []) ≡ Some (one 9)
target_of_a_shadow = refl

the_new_place : tree_at (migrate (one 7) (one 8) 100 10) (1 ∷ []) ≡ Some (one 8)
the_new_place = refl

the_wildcard : tree_at (prefix_selector ((97 ∷ []) ∷ []) (two (one 7) (one 8))) (1 ∷ []) ≡ Some (one 8)
the_wildcard = refl

cold_again : tree_at (warm_up (one 7) (one 8) 60) (2 ∷ []) ≡ Some (one 7)
cold_again = refl

nothing_there : tree_at (many AllSync (two (one 7) (one 8))) (2 ∷ []) ≡ None
nothing_there = refl

-- ---- what a configuration names: a pool of two servers with a shadow, the second server as a pool of its own, and the pool again, under another hash and under the first

abbrev pools : List (List ℕ)
pools = (7 ∷ 8 ∷ []) ∷ []

abbrev shadowed : config.Named
shadowed = config.pool 0 Ch3 [] (record { first = 0; last = 1 } ∷ []) (config.named (config.server 0 1) config.no_named)

abbrev salted : config.Named
salted = config.pool 0 Crc32 (120 ∷ []) [] config.no_named

abbrev asks : config.Named
asks = config.many AllSync (config.named shadowed (config.named (config.server 0 1) (config.named salted (config.named (config.pool 0 Ch3 [] [] config.no_named) config.no_named))))

abbrev second_server : Tree
second_server = pool (record { symbol = 1; servers = 8 ∷ [] }) [] none

abbrev pool_of_two : ℕ → Tree
pool_of_two symbol = pool (record { symbol = symbol; servers = 7 ∷ 8 ∷ [] }) [] none

abbrev with_shadow : Tree
with_shadow = pool (record { symbol = 0; servers = 7 ∷ 8 ∷ [] }) (record { first = 0; last = 1 } ∷ []) (child second_server none)

named_tree : tree_named (numbered same_symbol (symbols_in pools asks)) pools asks ≡ many AllSync (child with_shadow (child second_server (two (pool_of_two 2) (pool_of_two 0))))
named_tree = refl

warm_up_walk : symbols_in pools (config.warm_up salted (config.server 0 0) 60) ≡ record { func = Crc32; salt = 120 ∷ []; n = 2 } ∷ record { func = Ch3; salt = []; n = 1 } ∷ []
warm_up_walk = refl

named_migration : tree_named [] pools (config.migrate config.null config.error 100 10) ≡ migrate null error 100 10
named_migration = refl

-- the add that goes to the cold side is no handle of its own
warm_up_handles : handles_in (warm_up (one 7) (one 8) 60) ≡ 3
warm_up_handles = refl

not_on_one_level : IsWithin 1 (many Failover (two (one 7) (one 8))) → ⊥
not_on_one_level h = h.0

-- ---- whole routes: the legs sent at first, those that an outcome sends, and the one reply

abbrev replied : Outcome → List ℕ → Option Answer
replied x p = Some (record { outcome = x; source = leg p })

-- the route of a delete, and that of all else
abbrev for_delete : Tree → Tree → Tree
for_delete d g = operation_selector (Some Delete ∷ []) (two d g)

-- the same index for all symbols
abbrev second : Choice
second s = 1

-- ---- a PoolRoute alone

one_server : launched (one 7) delete first (outcomes []) ≡ at [] 7 Delete Plain ∷ []
one_server = refl

one_server_waits : reply (one 7) delete [] ≡ None
one_server_waits = refl

one_server_deleted : reply (one 7) delete (([], Good) ∷ []) ≡ replied Good []
one_server_deleted = refl

one_server_spooled : reply (one 7) delete (([], Soft) ∷ []) ≡ replied Soft []
one_server_spooled = refl

one_server_lost : reply (one 7) delete (([], Error) ∷ []) ≡ replied Error []
one_server_lost = refl

one_server_get : launched (one 7) get first (outcomes []) ≡ at [] 7 Get Plain ∷ []
one_server_get = refl

one_server_hit : reply (one 7) get (([], Good) ∷ []) ≡ replied Good []
one_server_hit = refl

first_of_two : launched (pool_of_two 0) delete first (outcomes []) ≡ at [] 7 Delete Plain ∷ []
first_of_two = refl

second_of_two : launched (pool_of_two 0) delete second (outcomes []) ≡ at [] 8 Delete Plain ∷ []
second_of_two = refl

two_servers_wait : reply (pool_of_two 0) delete [] ≡ None
two_servers_wait = refl

get_first_of_two : launched (pool_of_two 0) get first (outcomes []) ≡ at [] 7 Get Plain ∷ []
get_first_of_two = refl

get_second_of_two : launched (pool_of_two 0) get second (outcomes []) ≡ at [] 8 Get Plain ∷ []
get_second_of_two = refl

-- ---- a delete to each server of the pool from which all else is answered

abbrev all_servers : Tree
all_servers = for_delete (many AllSync (two (one 7) (one 8))) (pool_of_two 1)

abbrev names_all_servers : config.Named
names_all_servers = config.operation_selector (Some Delete ∷ []) (config.named (config.many AllSync (config.named (config.server 0 0) (config.named (config.server 0 1) config.no_named))) (config.named (config.pool 0 Ch3 [] [] config.no_named) config.no_named))

all_servers_named : tree_named (numbered same_symbol (symbols_in pools names_all_servers)) pools names_all_servers ≡ all_servers
all_servers_named = refl

all_servers_delete : launched all_servers delete first (outcomes []) ≡ at (0 ∷ 0 ∷ []) 7 Delete Plain ∷ at (0 ∷ 1 ∷ []) 8 Delete Plain ∷ []
all_servers_delete = refl

all_servers_wait : reply all_servers delete [] ≡ None
all_servers_wait = refl

all_servers_half : reply all_servers delete ((0 ∷ 0 ∷ [], Good) ∷ []) ≡ None
all_servers_half = refl

all_servers_deleted : reply all_servers delete ((0 ∷ 1 ∷ [], Good) ∷ (0 ∷ 0 ∷ [], Good) ∷ []) ≡ replied Good (0 ∷ 1 ∷ [])
all_servers_deleted = refl

all_servers_get_first : launched all_servers get first (outcomes []) ≡ at (1 ∷ []) 7 Get Plain ∷ []
all_servers_get_first = refl

-- the symbol of both servers has the index 1, and that of each one 0

all_servers_get_second : launched all_servers get (λ s. s) (outcomes []) ≡ at (1 ∷ []) 8 Get Plain ∷ []
all_servers_get_second = refl

-- ---- WarmUpRoute: a delete goes to the cold side alone, unless another route takes it

warm_up_delete : launched (warm_up (one 7) (one 8) 60) delete first (outcomes ((0 ∷ [], Good) ∷ [])) ≡ at (0 ∷ []) 7 Delete Plain ∷ []
warm_up_delete = refl

warm_up_deleted : reply (warm_up (one 7) (one 8) 60) delete ((0 ∷ [], Good) ∷ []) ≡ replied Good (0 ∷ [])
warm_up_deleted = refl

abbrev both_sides : Tree
both_sides = for_delete (many AllSync (two (one 7) (one 8))) (warm_up (one 7) (one 8) 60)

both_sides_delete : launched both_sides delete first (outcomes []) ≡ at (0 ∷ 0 ∷ []) 7 Delete Plain ∷ at (0 ∷ 1 ∷ []) 8 Delete Plain ∷ []
both_sides_delete = refl

both_sides_half : reply both_sides delete ((0 ∷ 1 ∷ [], Good) ∷ []) ≡ None
both_sides_half = refl

both_sides_deleted : reply both_sides delete ((0 ∷ 1 ∷ [], Soft) ∷ (0 ∷ 0 ∷ [], Good) ∷ []) ≡ replied Soft (0 ∷ 1 ∷ [])
both_sides_deleted = refl

both_sides_get : launched both_sides get first (outcomes []) ≡ at (1 ∷ 0 ∷ []) 7 Get Plain ∷ []
both_sides_get = refl

both_sides_get_warm : launched both_sides get first (outcomes ((1 ∷ 0 ∷ [], Soft) ∷ [])) ≡ at (1 ∷ 0 ∷ []) 7 Get Plain ∷ at (1 ∷ 1 ∷ []) 8 Get Plain ∷ []
both_sides_get_warm = refl

both_sides_hit : reply both_sides get ((1 ∷ 0 ∷ [], Good) ∷ []) ≡ replied Good (1 ∷ 0 ∷ [])
both_sides_hit = refl

both_sides_missed : reply both_sides get ((1 ∷ 1 ∷ [], Soft) ∷ (1 ∷ 0 ∷ [], Soft) ∷ []) ≡ replied Soft (1 ∷ 1 ∷ [])
both_sides_missed = refl

both_sides_set : launched both_sides (asked Set (107 ∷ []) None) first (outcomes []) ≡ at (1 ∷ 0 ∷ []) 7 Set Plain ∷ []
both_sides_set = refl

-- ---- FailoverRoute

failover_good : launched (many Failover (two (one 7) (one 8))) delete first (outcomes ((0 ∷ [], Good) ∷ [])) ≡ at (0 ∷ []) 7 Delete Plain ∷ []
failover_good = refl

failover_deleted : reply (many Failover (two (one 7) (one 8))) delete ((0 ∷ [], Good) ∷ []) ≡ replied Good (0 ∷ [])
failover_deleted = refl

failover_get : launched (many Failover (two (one 7) (one 8))) get first (outcomes ((0 ∷ [], Error) ∷ [])) ≡ at (0 ∷ []) 7 Get Plain ∷ at (1 ∷ []) 8 Get Plain ∷ []
failover_get = refl

failover_hit : reply (many Failover (two (one 7) (one 8))) get ((1 ∷ [], Good) ∷ (0 ∷ [], Error) ∷ []) ≡ replied Good (1 ∷ [])
failover_hit = refl

-- ---- MissFailoverRoute for gets, and for deletes a failover past an ErrorRoute

abbrev missed_over : Tree
missed_over = many MissFailover (two (one 7) (one 8))

abbrev past_an_error : Tree
past_an_error = many Failover (two (many AllSync (two (one 7) error)) (one 8))

abbrev not_waited_for : Tree
not_waited_for = for_delete (many AllAsync (child past_an_error none)) missed_over

abbrev waited_for : Tree
waited_for = for_delete (many AllSync (child past_an_error none)) missed_over

not_waited_for_delete : launched not_waited_for delete first (outcomes []) ≡ at (0 ∷ 0 ∷ 0 ∷ 0 ∷ []) 7 Delete Async ∷ []
not_waited_for_delete = refl

not_waited_for_reply : reply not_waited_for delete [] ≡ Some (record { outcome = Soft; source = fixed })
not_waited_for_reply = refl

not_waited_for_hit : reply not_waited_for get ((1 ∷ 1 ∷ [], Good) ∷ (1 ∷ 0 ∷ [], Soft) ∷ []) ≡ replied Good (1 ∷ 1 ∷ [])
not_waited_for_hit = refl

waited_for_delete : launched waited_for delete first (outcomes []) ≡ at (0 ∷ 0 ∷ 0 ∷ 0 ∷ []) 7 Delete Plain ∷ []
waited_for_delete = refl

waited_for_moves_on : launched waited_for delete first (outcomes ((0 ∷ 0 ∷ 0 ∷ 0 ∷ [], Good) ∷ [])) ≡ at (0 ∷ 0 ∷ 0 ∷ 0 ∷ []) 7 Delete Plain ∷ at (0 ∷ 0 ∷ 1 ∷ []) 8 Delete Plain ∷ []
waited_for_moves_on = refl

waited_for_waits : reply waited_for delete ((0 ∷ 0 ∷ 0 ∷ 0 ∷ [], Good) ∷ []) ≡ None
waited_for_waits = refl

waited_for_deleted : reply waited_for delete ((0 ∷ 0 ∷ 1 ∷ [], Good) ∷ (0 ∷ 0 ∷ 0 ∷ 0 ∷ [], Good) ∷ []) ≡ replied Good (0 ∷ 0 ∷ 1 ∷ [])
waited_for_deleted = refl

-- ---- a delete that ErrorRoute always fails

abbrev always_fails : Tree
always_fails = for_delete (many AllSync (two (one 7) error)) (one 8)

always_fails_delete : launched always_fails delete first (outcomes []) ≡ at (0 ∷ 0 ∷ []) 7 Delete Plain ∷ []
always_fails_delete = refl

always_fails_waits : reply always_fails delete [] ≡ None
always_fails_waits = refl

always_fails_reply : reply always_fails delete ((0 ∷ 0 ∷ [], Good) ∷ []) ≡ Some (record { outcome = Error; source = refusal })
always_fails_reply = refl

always_fails_get : launched always_fails get first (outcomes []) ≡ at (1 ∷ []) 8 Get Plain ∷ []
always_fails_get = refl

-- ---- a delete that reaches the second server as a shadow

abbrev by_shadow : Tree
by_shadow = for_delete (pool (record { symbol = 0; servers = 7 ∷ [] }) (record { first = 0; last = 0 } ∷ []) (child (one 8) none)) missed_over

by_shadow_delete : launched by_shadow delete first (outcomes []) ≡ at (0 ∷ []) 7 Delete Plain ∷ at (0 ∷ 0 ∷ []) 8 Delete Shadow ∷ []
by_shadow_delete = refl

by_shadow_waits : reply by_shadow delete [] ≡ None
by_shadow_waits = refl

by_shadow_deleted : reply by_shadow delete ((0 ∷ [], Good) ∷ []) ≡ replied Good (0 ∷ [])
by_shadow_deleted = refl

by_shadow_hit : reply by_shadow get ((1 ∷ 1 ∷ [], Good) ∷ (1 ∷ 0 ∷ [], Soft) ∷ []) ≡ replied Good (1 ∷ 1 ∷ [])
by_shadow_hit = refl

-- ---- MigrateRoute over its hours

abbrev hourly : Tree
hourly = migrate (one 7) (one 8) 1000 3600

abbrev at_moment : Op → ℕ → Situation
at_moment op moment = asked op (97 ∷ []) (since_at (breaks hourly) moment)

hourly_breaks : breaks hourly ≡ 1000 ∷ 4600 ∷ 8200 ∷ []
hourly_breaks = refl

hourly_before : launched hourly (at_moment Delete 999) first (outcomes []) ≡ at (0 ∷ []) 7 Delete Plain ∷ []
hourly_before = refl

hourly_start : launched hourly (at_moment Delete 1000) first (outcomes []) ≡ at (0 ∷ []) 7 Delete Plain ∷ at (1 ∷ []) 8 Delete Plain ∷ []
hourly_start = refl

hourly_last_of_both : launched hourly (at_moment Delete 8199) first (outcomes []) ≡ at (0 ∷ []) 7 Delete Plain ∷ at (1 ∷ []) 8 Delete Plain ∷ []
hourly_last_of_both = refl

hourly_after : launched hourly (at_moment Delete 8200) first (outcomes []) ≡ at (1 ∷ []) 8 Delete Plain ∷ []
hourly_after = refl

hourly_era : era_at (breaks hourly) 8199 ≡ 2
hourly_era = refl

hourly_get_from : launched hourly (at_moment Get 4599) first (outcomes []) ≡ at (0 ∷ []) 7 Get Plain ∷ []
hourly_get_from = refl

hourly_get_to : launched hourly (at_moment Get 4600) first (outcomes []) ≡ at (1 ∷ []) 8 Get Plain ∷ []
hourly_get_to = refl

-- ---- two pools of the same two servers, under one symbol and under two

abbrev one_hash : Tree
one_hash = for_delete (pool_of_two 0) (pool_of_two 0)

abbrev two_hashes : Tree
two_hashes = for_delete (pool_of_two 1) (pool_of_two 0)

one_hash_delete : (c : Choice) → launched one_hash delete c (outcomes []) ≡ at (0 ∷ []) (slice_index (7 ∷ 8 ∷ []) (c 0)) Delete Plain ∷ []
one_hash_delete c = refl

one_hash_get : (c : Choice) → launched one_hash get c (outcomes []) ≡ at (1 ∷ []) (slice_index (7 ∷ 8 ∷ []) (c 0)) Get Plain ∷ []
one_hash_get c = refl

two_hashes_delete : launched two_hashes delete (λ s. s) (outcomes []) ≡ at (0 ∷ []) 8 Delete Plain ∷ []
two_hashes_delete = refl

two_hashes_get : launched two_hashes get (λ s. s) (outcomes []) ≡ at (1 ∷ []) 7 Get Plain ∷ []
two_hashes_get = refl

two_hashes_deleted : reply two_hashes delete ((0 ∷ [], Good) ∷ []) ≡ replied Good (0 ∷ [])
two_hashes_deleted = refl

two_hashes_hit : reply two_hashes get ((1 ∷ [], Good) ∷ []) ≡ replied Good (1 ∷ [])
two_hashes_hit = refl

-- ---- NullRoute: a delete that is sent nowhere, and gets that never hit

abbrev never_hits : Tree
never_hits = for_delete null (many AllSync (two (one 7) null))

never_hits_delete : launched never_hits delete first (outcomes []) ≡ []
never_hits_delete = refl

never_hits_deleted : reply never_hits delete [] ≡ Some (record { outcome = Soft; source = fixed })
never_hits_deleted = refl

never_hits_get : launched never_hits get first (outcomes []) ≡ at (1 ∷ 0 ∷ []) 7 Get Plain ∷ []
never_hits_get = refl

never_hits_reply : reply never_hits get ((1 ∷ 0 ∷ [], Good) ∷ []) ≡ Some (record { outcome = Soft; source = fixed })
never_hits_reply = refl

-- ---- AllInitialRoute: the first server is waited for

abbrev initially : Tree
initially = for_delete (many AllInitial (two (one 7) (one 8))) (one 8)

initially_delete : launched initially delete first (outcomes []) ≡ at (0 ∷ 0 ∷ []) 7 Delete Plain ∷ at (0 ∷ 1 ∷ []) 8 Delete Async ∷ []
initially_delete = refl

initially_waits : reply initially delete [] ≡ None
initially_waits = refl

initially_second : reply initially delete ((0 ∷ 1 ∷ [], Good) ∷ []) ≡ None
initially_second = refl

initially_deleted : reply initially delete ((0 ∷ 0 ∷ [], Good) ∷ []) ≡ replied Good (0 ∷ 0 ∷ [])
initially_deleted = refl

initially_get : launched initially get first (outcomes []) ≡ at (1 ∷ []) 8 Get Plain ∷ []
initially_get = refl
