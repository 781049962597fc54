-- The definitions at small values.
use Rattle.std.proofs.Common.{◌≡◌, [], ◌∷◌, false, Some, None, refl, codes}
use Rattle.serde_json.specs.Data.{Data, number, unsigned, string, array, object, no_items, item, no_members, member}
use Rattle.mcv_base.specs.declared.operation.Op.TheVariants.{Delete}
use Rattle.mcv_pools.specs.declared.symbol.HashFunc.TheVariants.{Crc32}
use Rattle.mcv_names.specs.declared.fault.FaultKind.TheVariants.{UnknownKey, WrongKind, UnknownPool, Empty, AliasTwice, LeftOut}
use Rattle.mcv_names.specs.declared.handle.Many.TheVariants.{AllSync}
use Rattle.mcv_names.specs.Fault.{good, bad, refused}
use Rattle.mcv_names.specs.Handles.{handle_named, is_elsewhere, key_fault, keys_read, name_fault, op_named, stray_fault, type_read}
use Rattle.mcv_names.specs.Path.{item_step, key_step}
use Rattle.mcv_config.specs.Aliases.{alias_fault, alias_read, aliases_field, is_alias}
use Rattle.mcv_config.specs.Config.{config_read, root}
use Rattle.mcv_config.specs.Entries.{entries_read, entry_fields, entry_read, routing_read}
use Rattle.mcv_config.specs.Hash.{func_named, func_read, hash_fields}
use Rattle.mcv_config.specs.Limits.{handles_in, IsWithin}
use Rattle.mcv_names.specs.Lists.{each, each_member, some_items}
use Rattle.mcv_config.specs.Numbers.{index_read, seconds_read}
use Rattle.mcv_config.specs.ConfigValue.{Named, ConfigValue, pool, server, null, error, many, migrate, operation_selector, no_named, named}
use Rattle.mcv_config.specs.Pools.{listed_servers, pool_named, pool_read, server_read, servers_read}
use Rattle.mcv_config.specs.Routes.{cut, fields, interval_read, migrate_fields, object_route, plain_pool, pool_field, pool_fields, pool_object, route, servers, start_read, text_children, text_route}
use Rattle.mcv_config.specs.Selectors.{policy_read, selector_fields}
use Rattle.mcv_base.specs.Server.{is_host, is_port, is_server}
use Rattle.mcv_config.specs.Shadows.{range_read, range_value, shadow_fields, shadow_read}
use Rattle.mcv_config.specs.Walk.{route_under, two_under}

abbrev of_pool : Data → Data
of_pool listed = object (member (codes "servers") listed no_members)

-- {"pools": {"A": {"servers": ["b:1", "a:1"]}, "B": {"servers": ["a:1"]}}, "route": ..}
abbrev two_pools : Data → Data
two_pools r =
    object (member (codes "pools")
    (object (member (codes "A") (of_pool (array (item (string (codes "b:1")) (item (string (codes "a:1")) no_items))))
    (member (codes "B") (of_pool (array (item (string (codes "a:1")) no_items))) no_members)))
    (member (codes "route") r no_members))

abbrev config : Named → ConfigValue
config t = record {
  servers = codes "b:1" ∷ codes "a:1" ∷ [];
  pools = (0 ∷ 1 ∷ []) ∷ (1 ∷ []) ∷ [];
  entries = record { aliases = codes "/././" ∷ []; route = t } ∷ [];
}

pool_by_name : root [] (two_pools (string (codes "PoolRoute|B"))) ≡ good (config (plain_pool 1))
unfolding root config_read routing_read pool_read servers_read listed_servers each server_read is_server is_host is_port each_member keys_read key_fault pool_named is_elsewhere route text_route cut handle_named
pool_by_name = refl

servers_of_a_pool : root [] (two_pools (string (codes "AllSyncRoute|Pool|A"))) ≡ good (config (many AllSync (named (server 0 0) (named (server 0 1) no_named))))
unfolding root config_read routing_read pool_read servers_read listed_servers each server_read is_server is_host is_port each_member keys_read key_fault pool_named is_elsewhere route text_route cut handle_named text_children servers
servers_of_a_pool = refl

abbrev selecting : Data
selecting =
    object (member (codes "default_policy") (string (codes "PoolRoute|A"))
    (member (codes "operation_policies") (object (member (codes "delete") (string (codes "PoolRoute|B")) (member (codes "lease-get") (string (codes "NullRoute")) no_members)))
    (member (codes "type") (string (codes "OperationSelectorRoute")) no_members)))

-- the policies in byte order, and then the default
policies_and_default : root [] (two_pools selecting) ≡ good (config (operation_selector (Some Delete ∷ None ∷ []) (named (plain_pool 1) (named null (named (plain_pool 0) no_named)))))
unfolding root config_read routing_read pool_read servers_read listed_servers each server_read is_server is_host is_port each_member keys_read key_fault pool_named is_elsewhere route text_route cut handle_named object_route type_read fields selector_fields policy_read name_fault op_named
policies_and_default = refl

-- a pool by name, with its hash and a shadow of its second server
abbrev shadowing : Data
shadowing =
    object (member (codes "hash") (object (member (codes "hash_func") (string (codes "Crc32")) (member (codes "salt") (string (codes "x")) no_members)))
    (member (codes "pool") (string (codes "A"))
    (member (codes "shadows") (array (item (object
    (member (codes "index_range") (array (item (number (unsigned 1)) (item (number (unsigned 1)) no_items)))
    (member (codes "target") (string (codes "ErrorRoute|x")) no_members))) no_items))
    (member (codes "type") (string (codes "PoolRoute")) no_members))))

hash_and_shadow : root [] (two_pools shadowing) ≡ good (config (pool 0 Crc32 (codes "x") (record { first = 1; last = 1 } ∷ []) (named error no_named)))
unfolding root config_read routing_read pool_read servers_read listed_servers each server_read is_server is_host is_port each_member keys_read key_fault pool_named is_elsewhere route text_route cut handle_named object_route type_read fields pool_fields pool_field func_read func_named hash_fields shadow_read shadow_fields range_read range_value index_read route_under
hash_and_shadow = refl

abbrev migrating : Data
migrating =
    object (member (codes "from") (string (codes "PoolRoute|A"))
    (member (codes "start_time") (number (unsigned 1000))
    (member (codes "to") (string (codes "PoolRoute|B"))
    (member (codes "type") (string (codes "MigrateRoute")) no_members))))

-- an hour, where no interval is named
hour : root [] (two_pools migrating) ≡ good (config (migrate (plain_pool 0) (plain_pool 1) 1000 3600))
unfolding root config_read routing_read pool_read servers_read listed_servers each server_read is_server is_host is_port each_member keys_read key_fault pool_named is_elsewhere route text_route cut handle_named object_route type_read fields migrate_fields two_under route_under start_read interval_read seconds_read
hour = refl

-- a pool object comes behind the pools with names
pool_in_route : root [] (object (member (codes "route") (object (member (codes "pool") (of_pool (array (item (string (codes "a:1")) no_items))) (member (codes "type") (string (codes "PoolRoute")) no_members))) no_members))
    ≡ good (record { servers = codes "a:1" ∷ []; pools = (0 ∷ []) ∷ []; entries = record { aliases = codes "/././" ∷ []; route = plain_pool 0 } ∷ [] })
unfolding root config_read routing_read pool_read servers_read listed_servers each server_read is_server is_host is_port keys_read key_fault is_elsewhere route handle_named object_route type_read fields pool_fields pool_field pool_object
pool_in_route = refl

no_such_pool : root [] (two_pools (string (codes "PoolRoute|Z"))) ≡ refused UnknownPool (codes "/route")
unfolding root config_read routing_read pool_read servers_read listed_servers each server_read is_server is_host is_port each_member keys_read key_fault pool_named is_elsewhere route text_route cut handle_named
no_such_pool = refl

import_for_a_pool : pool_read [] (codes "/pools/A") (codes "A") (string (codes "@import:a.json")) ≡ refused LeftOut (codes "/pools/A")
unfolding pool_read is_elsewhere
import_for_a_pool = refl

text_for_a_pool : pool_read [] (codes "/pools/A") (codes "A") (string (codes "a:1")) ≡ refused WrongKind (codes "/pools/A")
unfolding pool_read is_elsewhere
text_for_a_pool = refl

-- {"name": 7, "servers": []} has two faults
name_of_a_pool : pool_read [] (codes "/pools/A") (codes "A") (object (member (codes "name") (number (unsigned 7)) (member (codes "servers") (array no_items) no_members)))
    ≡ bad (record { kind = WrongKind; path = codes "/pools/A/name" } ∷ record { kind = Empty; path = codes "/pools/A/servers" } ∷ [])
unfolding pool_read servers_read listed_servers keys_read key_fault
name_of_a_pool = refl

-- one value with two faults: of its type, and of a key that no handle has
left_out_type : root [] (two_pools (object (member (codes "pick") (string []) (member (codes "type") (string (codes "RandomRoute")) no_members))))
    ≡ bad (record { kind = UnknownKey; path = codes "/route/pick" } ∷ record { kind = LeftOut; path = codes "/route/type" } ∷ [])
unfolding root config_read routing_read pool_read servers_read listed_servers each server_read is_server is_host is_port each_member keys_read key_fault is_elsewhere route handle_named object_route type_read stray_fault
left_out_type = refl

-- {"route": .., "routes": ..}
two_kinds : root [] (object (member (codes "route") (string (codes "NullRoute")) (member (codes "routes") (array no_items) no_members))) ≡ refused WrongKind []
unfolding root config_read routing_read keys_read key_fault
two_kinds = refl

abbrev of_entry : Data → Data → Data
of_entry aliases r = object (member (codes "aliases") (array (item aliases no_items)) (member (codes "route") r no_members))

abbrev two_routes : Data → Data → Data
two_routes a b =
    object (member (codes "routes")
    (array (item (of_entry a (string (codes "NullRoute"))) (item (of_entry b (string (codes "ErrorRoute"))) no_items))) no_members)

by_aliases : root [] (two_routes (string (codes "/a/b/")) (string (codes "/a/c/")))
    ≡ good (record {
      servers = [];
      pools = [];
      entries = record { aliases = codes "/a/b/" ∷ []; route = null } ∷ record { aliases = codes "/a/c/" ∷ []; route = error } ∷ [];
    })
unfolding root config_read routing_read keys_read key_fault entries_read each entry_read entry_fields aliases_field alias_read alias_fault is_alias is_elsewhere route text_route cut handle_named route_under some_items
by_aliases = refl

alias_twice : root [] (two_routes (string (codes "/a/b/")) (string (codes "/a/b/"))) ≡ refused AliasTwice (item_step (key_step (item_step (codes "/routes") 1) (codes "aliases")) 0)
unfolding root config_read routing_read keys_read key_fault entries_read each entry_read entry_fields aliases_field alias_read alias_fault is_alias is_elsewhere route text_route cut handle_named route_under some_items
alias_twice = refl

no_name : is_alias (codes "//b/") ≡ false
unfolding is_alias
no_name = refl

four_slashes : is_alias (codes "/a/b/c/") ≡ false
unfolding is_alias
four_slashes = refl

with_a_space : is_alias (codes "/a b/c/") ≡ false
unfolding is_alias
with_a_space = refl

a_star_for_a_name : alias_fault [] (codes "/a/*/") ≡ Some LeftOut
unfolding alias_fault is_alias
a_star_for_a_name = refl

a_star_alone : alias_fault [] (codes "*") ≡ Some WrongKind
unfolding alias_fault is_alias
a_star_alone = refl

no_route : root [] (object no_members) ≡ refused WrongKind []
unfolding root config_read routing_read keys_read
no_route = refl

no_servers : servers_read [] (codes "/pools/A") (of_pool (array no_items)) ≡ refused Empty (codes "/pools/A/servers")
unfolding servers_read listed_servers
no_servers = refl

abbrev both_servers : Named
both_servers = many AllSync (named (server 0 0) (named (server 0 1) no_named))

-- the servers of a pool are handles too, one level deeper
three_handles : handles_in both_servers ≡ 3
three_handles = refl

on_two_levels : IsWithin 2 both_servers
on_two_levels = (tt, (tt, tt))

not_on_one_level : IsWithin 1 both_servers → ⊥
not_on_one_level h = h.0
