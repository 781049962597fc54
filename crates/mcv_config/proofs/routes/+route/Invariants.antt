use Rattle.std.proofs.Common.{◌≡◌, ◌+◌, ◌*◌, map, drop}
use Rattle.serde_json.specs.View.{view, members_view}
use Rattle.mcv_names.specs.Lists.{each, each_member}
use Rattle.mcv_names.specs.Path.{path_of}
use Rattle.mcv_config.specs.ConfigValue.{named_of, prefix_of, shadow_of}
use Rattle.mcv_config.specs.Routes.{route}
use Rattle.mcv_config.specs.Selectors.{policy_read}
use Rattle.mcv_config.specs.Shadows.{shadow_read}
use Rattle.mcv_config.specs.View.{so_far_of}
use Rattle.mcv_names.proofs.ReadLists.{after}
use Rattle.mcv_config.proofs.routes.+route.Given as goal

abbrev pub decreases-read_route : goal.decreases-read_route
decreases-read_route l = 9 * l.depth

abbrev pub decreases-read_object : goal.decreases-read_object
decreases-read_object l = 9 * l.depth + 8

abbrev pub decreases-read_handle : goal.decreases-read_handle
decreases-read_handle l = 9 * l.depth + 7

abbrev pub decreases-read_pool_route : goal.decreases-read_pool_route
decreases-read_pool_route l = 9 * l.depth + 6

abbrev pub decreases-read_shadows : goal.decreases-read_shadows
decreases-read_shadows l = 9 * l.depth + 5

abbrev pub decreases-read_shadow : goal.decreases-read_shadow
decreases-read_shadow l = 9 * l.depth + 4

abbrev pub decreases-read_children : goal.decreases-read_children
decreases-read_children l = 9 * l.depth + 6

abbrev pub decreases-read_each : goal.decreases-read_each
decreases-read_each l = 9 * l.depth + 5

abbrev pub decreases-read_warm_up : goal.decreases-read_warm_up
decreases-read_warm_up l = 9 * l.depth + 3

abbrev pub decreases-read_migration : goal.decreases-read_migration
decreases-read_migration l = 9 * l.depth + 3

abbrev pub decreases-read_two : goal.decreases-read_two
decreases-read_two l = 9 * l.depth + 2

abbrev pub decreases-read_selector : goal.decreases-read_selector
decreases-read_selector l = 9 * l.depth + 6

abbrev pub decreases-read_policies : goal.decreases-read_policies
decreases-read_policies l = 9 * l.depth + 5

abbrev pub decreases-read_each_policy : goal.decreases-read_each_policy
decreases-read_each_policy l = 9 * l.depth + 4

abbrev pub decreases-read_policy : goal.decreases-read_policy
decreases-read_policy l = 9 * l.depth + 3

abbrev pub decreases-read_field : goal.decreases-read_field
decreases-read_field l = 9 * l.depth + 1

abbrev pub decreases-read_default : goal.decreases-read_default
decreases-read_default l = 9 * l.depth + 1

abbrev pub invariant-read_each-loop-index : goal.invariant-read_each-loop-index
invariant-read_each-loop-index l =
    each (route l.depth) (so_far_of l.fn.so_far) (path_of l.trail) 0 (map view l.list)
    ≡ after (map named_of l.children.items) (each (route l.depth) (so_far_of l.so_far) (path_of l.trail) l.index (map view (drop l.index l.list)))

abbrev pub invariant-read_shadows-loop-index : goal.invariant-read_shadows-loop-index
invariant-read_shadows-loop-index l =
    each (shadow_read (route l.depth)) (so_far_of l.fn.so_far) (path_of l.trail) 0 (map view l.list)
    ≡ after (map shadow_of l.shadows.items) (each (shadow_read (route l.depth)) (so_far_of l.so_far) (path_of l.trail) l.index (map view (drop l.index l.list)))

abbrev pub invariant-read_each_policy-loop-name : goal.invariant-read_each_policy-loop-name
invariant-read_each_policy-loop-name l =
    each_member (policy_read (route l.depth)) (so_far_of l.fn.so_far) (path_of l.trail) (members_view l.members.entries)
    ≡ after (map prefix_of l.policies.items) (each_member (policy_read (route l.depth)) (so_far_of l.so_far) (path_of l.trail) (members_view l.name-iterator))
