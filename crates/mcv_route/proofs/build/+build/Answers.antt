use Rattle.std.proofs.Common.{None, map, rules, arith, refl}
use Rattle.std.proofs.lemmas.List.{length-map}
use Rattle.mcv_route.specs.View.{view, operation_view, prefix_view, shadow_view}
use Rattle.mcv_route.specs.Walk.{list_view}
use Rattle.mcv_route.proofs.Building.{All-at, child-more, item-more, sound-pool, sound-shadows, sound-server, sound-Many, sound-WarmUp, sound-Migrate, sound-prefixes, sound-wildcard, sound-policies, sound-default, sound-last, sound-shadow, sound-prefix, sound-policy, built-Pool, built-Server, built-Null, built-Error, built-Many, built-WarmUp, built-Migrate, built-PrefixSelector, built-OperationSelector, built-no_last}
use Rattle.mcv_route.proofs.NamedHandles.{shadow_of-out, prefix_of-out, policy_of-out}
use Rattle.mcv_config.specs.ConfigValue.{named_of, shadow_of, prefix_of, policy_of, IsSoundRoute}
use Rattle.mcv_config.specs.declared.config.NamedRoute as asked
use Rattle.mcv_config.specs.declared.config.NamedPolicy.{out-NamedPolicy}
use Rattle.mcv_config.specs.declared.config.NamedPrefix.{out-NamedPrefix}
use Rattle.mcv_config.specs.declared.config.NamedShadow.{out-NamedShadow}
use Rattle.mcv_route.specs.declared.tree.Route as made
use Rattle.mcv_route.proofs.build.+build.Goals as goal

pub build_children-build_route-requires : goal.build_children-build_route-requires
build_children-build_route-requires t c =
    (search (rules, asked.the_lemmas), (c.requires.filled, All-at (IsSoundRoute (map list_view c.args.lists.now)) named_of c.args.children.now c.loop-child.child-index c.child-item.result c.requires.sound c.loop-child-test.true c.child-item.is))

pub build_children-loop-child-preserved : goal.build_children-loop-child-preserved
build_children-loop-child-preserved t c =
    rw c.in_ok-push.ensures.items
    (child-more (map list_view c.args.lists.now) c.args.symbols.now c.loop-child.symbols c.build_route.new.symbols c.args.children.now c.loop-child.child-index c.child-item.result
    c.loop-child.routes.items c.in_ok-build_route.field-0 c.loop-child-test.true c.child-item.is c.loop-child.invariant c.in_ok-build_route.ensures)

pub build_shadows-build_route-requires : goal.build_shadows-build_route-requires
build_shadows-build_route-requires t c =
    (search (rules, asked.the_lemmas), (c.requires.filled, sound-shadow (map list_view c.args.lists.now) c.args.shadows.now c.loop-shadow.shadow-index c.shadow-item.result c.requires.sound c.loop-shadow-test.true c.shadow-item.is))

pub build_shadows-loop-shadow-preserved : goal.build_shadows-loop-shadow-preserved
build_shadows-loop-shadow-preserved t c =
    rw c.in_ok-push.ensures.items
    (item-more (map list_view c.args.lists.now) c.args.symbols.now c.loop-shadow.symbols c.build_route.new.symbols shadow_of shadow_view c.args.shadows.now c.loop-shadow.shadow-index c.shadow-item.result
    c.loop-shadow.built.items _ (record { first = (out-NamedShadow c.shadow-item.result).first; last = (out-NamedShadow c.shadow-item.result).last }) (named_of (out-NamedShadow c.shadow-item.result).target) (view c.in_ok-target.target) c.loop-shadow-test.true c.shadow-item.is
    (shadow_of-out c.shadow-item.result) (search (rules, made.the_lemmas)) c.loop-shadow.invariant c.in_ok-target.ensures)

pub build_prefixes-build_route-requires : goal.build_prefixes-build_route-requires
build_prefixes-build_route-requires t c =
    (search (rules, asked.the_lemmas), (c.requires.filled, sound-prefix (map list_view c.args.lists.now) c.args.policies.now c.loop-policy.policy-index c.policy-item.result c.requires.sound c.loop-policy-test.true c.policy-item.is))

pub build_prefixes-loop-policy-preserved : goal.build_prefixes-loop-policy-preserved
build_prefixes-loop-policy-preserved t c =
    rw c.in_ok-push.ensures.items
    (item-more (map list_view c.args.lists.now) c.args.symbols.now c.loop-policy.symbols c.build_route.new.symbols prefix_of prefix_view c.args.policies.now c.loop-policy.policy-index c.policy-item.result
    c.loop-policy.built.items _ ((out-NamedPrefix c.policy-item.result).«prefix».items) (named_of (out-NamedPrefix c.policy-item.result).route) (view c.in_ok-route.route) c.loop-policy-test.true c.policy-item.is
    (prefix_of-out c.policy-item.result) (search (rules, made.the_lemmas, c.in_ok-prefix.ensures, c.as_slice.ensures)) c.loop-policy.invariant c.in_ok-route.ensures)

pub build_policies-build_route-requires : goal.build_policies-build_route-requires
build_policies-build_route-requires t c =
    (search (rules, asked.the_lemmas), (c.requires.filled, sound-policy (map list_view c.args.lists.now) c.args.policies.now c.loop-policy.policy-index c.policy-item.result c.requires.sound c.loop-policy-test.true c.policy-item.is))

pub build_policies-loop-policy-preserved : goal.build_policies-loop-policy-preserved
build_policies-loop-policy-preserved t c =
    rw c.in_ok-push.ensures.items
    (item-more (map list_view c.args.lists.now) c.args.symbols.now c.loop-policy.symbols c.build_route.new.symbols policy_of operation_view c.args.policies.now c.loop-policy.policy-index c.policy-item.result
    c.loop-policy.built.items _ ((out-NamedPolicy c.policy-item.result).op) (named_of (out-NamedPolicy c.policy-item.result).route) (view c.in_ok-route.route) c.loop-policy-test.true c.policy-item.is
    (policy_of-out c.policy-item.result) (search (rules, made.the_lemmas)) c.loop-policy.invariant c.in_ok-route.ensures)

pub build_last-build_route-requires : goal.build_last-build_route-requires
build_last-build_route-requires t c =
    (search (rules, asked.the_lemmas), (c.requires.filled, rw c.deref.ensures (sound-last (map list_view c.args.lists.now) c.args.last.now c.in-Some.route c.in-Some.is c.requires.sound)))

pub build_boxed-build_route-requires : goal.build_boxed-build_route-requires
build_boxed-build_route-requires t c = (search (rules, asked.the_lemmas), (c.requires.filled, rw c.deref.ensures c.requires.sound))

pub build_last-returns-in-None : goal.build_last-returns-in-None
build_last-returns-in-None t c = built-no_last (map list_view c.args.lists.now) c.args.symbols.now c.args.symbols.now c.args.last.now None c.in-None.is refl refl

pub build_route-pool_leaf-requires : goal.build_route-pool_leaf-requires
build_route-pool_leaf-requires t c = record {
  filled = c.requires.filled;
  inside = omega (arith, sound-pool (map list_view c.args.lists.now) c.args.route.now c.in-Pool.pool c.in-Pool.func c.in-Pool.salt c.in-Pool.shadows c.in-Pool.is c.requires.sound, length-map c.args.lists.now list_view);
}

pub build_route-server_leaf-requires : goal.build_route-server_leaf-requires
build_route-server_leaf-requires t c =
    let sound = sound-server (map list_view c.args.lists.now) c.args.route.now c.in-Server.pool c.in-Server.index c.in-Server.is c.requires.sound in
    record { inside = omega (arith, sound.0, length-map c.args.lists.now list_view); listed = sound.1 }

pub build_route-build_shadows-requires : goal.build_route-build_shadows-requires
build_route-build_shadows-requires t c = (
  search (rules, asked.the_lemmas),
  (
    c.requires.filled,
    rw c.deref-in-Pool.ensures.value
        (sound-shadows (map list_view c.args.lists.now) c.args.route.now c.in-Pool.pool c.in-Pool.func c.in-Pool.salt c.in-Pool.shadows c.in-Pool.is c.requires.sound),
  ),
)

pub build_route-build_children-requires : goal.build_route-build_children-requires
build_route-build_children-requires t c =
    (search (rules, asked.the_lemmas), (c.requires.filled, rw c.deref-in-Many.ensures.value (sound-Many (map list_view c.args.lists.now) c.args.route.now c.in-Many.kind c.in-Many.children c.in-Many.is c.requires.sound)))

pub build_route-build_boxed-requires : goal.build_route-build_boxed-requires
build_route-build_boxed-requires t c =
    (search (rules, asked.the_lemmas), (c.requires.filled, (sound-WarmUp (map list_view c.args.lists.now) c.args.route.now c.in-WarmUp.cold c.in-WarmUp.warm c.in-WarmUp.exptime c.in-WarmUp.is c.requires.sound).0))

pub build_route-build_boxed-requires-in-WarmUp : goal.build_route-build_boxed-requires-in-WarmUp
build_route-build_boxed-requires-in-WarmUp t c =
    (search (rules, asked.the_lemmas), (c.requires.filled, (sound-WarmUp (map list_view c.args.lists.now) c.args.route.now c.in-WarmUp.cold c.in-WarmUp.warm c.in-WarmUp.exptime c.in-WarmUp.is c.requires.sound).1))

pub build_route-build_boxed-requires-in-Migrate : goal.build_route-build_boxed-requires-in-Migrate
build_route-build_boxed-requires-in-Migrate t c = (
  search (rules, asked.the_lemmas),
  (c.requires.filled, (sound-Migrate (map list_view c.args.lists.now) c.args.route.now c.in-Migrate.from c.in-Migrate.to c.in-Migrate.start c.in-Migrate.interval c.in-Migrate.is c.requires.sound).0),
)

pub build_route-build_boxed-requires-in-Migrate-2 : goal.build_route-build_boxed-requires-in-Migrate-2
build_route-build_boxed-requires-in-Migrate-2 t c = (
  search (rules, asked.the_lemmas),
  (c.requires.filled, (sound-Migrate (map list_view c.args.lists.now) c.args.route.now c.in-Migrate.from c.in-Migrate.to c.in-Migrate.start c.in-Migrate.interval c.in-Migrate.is c.requires.sound).1),
)

pub build_route-build_prefixes-requires : goal.build_route-build_prefixes-requires
build_route-build_prefixes-requires t c = (
  search (rules, asked.the_lemmas),
  (
    c.requires.filled,
    rw c.deref-in-PrefixSelector.ensures.value (sound-prefixes (map list_view c.args.lists.now) c.args.route.now c.in-PrefixSelector.policies c.in-PrefixSelector.wildcard c.in-PrefixSelector.is c.requires.sound),
  ),
)

pub build_route-build_last-requires : goal.build_route-build_last-requires
build_route-build_last-requires t c =
    (search (rules, asked.the_lemmas), (c.requires.filled, sound-wildcard (map list_view c.args.lists.now) c.args.route.now c.in-PrefixSelector.policies c.in-PrefixSelector.wildcard c.in-PrefixSelector.is c.requires.sound))

pub build_route-build_policies-requires : goal.build_route-build_policies-requires
build_route-build_policies-requires t c = (
  search (rules, asked.the_lemmas),
  (
    c.requires.filled,
    rw c.deref-in-OperationSelector.ensures.value (sound-policies (map list_view c.args.lists.now) c.args.route.now c.in-OperationSelector.policies c.in-OperationSelector.default_policy c.in-OperationSelector.is c.requires.sound),
  ),
)

pub build_route-build_last-requires-in-OperationSelector : goal.build_route-build_last-requires-in-OperationSelector
build_route-build_last-requires-in-OperationSelector t c =
    (search (rules, asked.the_lemmas), (c.requires.filled, sound-default (map list_view c.args.lists.now) c.args.route.now c.in-OperationSelector.policies c.in-OperationSelector.default_policy c.in-OperationSelector.is c.requires.sound))

pub build_route-returns-in-Null : goal.build_route-returns-in-Null
build_route-returns-in-Null t c = built-Null (map list_view c.args.lists.now) c.args.route.now c.args.symbols.now c.in-Null.is

pub build_route-returns-in-Error : goal.build_route-returns-in-Error
build_route-returns-in-Error t c = built-Error (map list_view c.args.lists.now) c.args.route.now c.args.symbols.now c.in-Error.is

pub build_route-returns-in_ok-shadows-in-Pool : goal.build_route-returns-in_ok-shadows-in-Pool
build_route-returns-in_ok-shadows-in-Pool t c =
    built-Pool (map list_view c.args.lists.now) c.args.route.now c.in-Pool.pool c.in-Pool.func c.in-Pool.salt c.in-Pool.shadows c.deref.result.now c.deref-in-Pool.result.now
    c.args.symbols.now c.pool_leaf.new.symbols c.build_shadows.new.symbols c.in_ok-leaf-in-Pool.leaf c.in_ok-shadows-in-Pool.shadows
    c.in-Pool.is c.deref.ensures.value c.deref-in-Pool.ensures.value c.in_ok-leaf-in-Pool.ensures.table c.in_ok-leaf-in-Pool.ensures.leaf c.in_ok-shadows-in-Pool.ensures.ranges c.in_ok-shadows-in-Pool.ensures.targets

pub build_route-returns-in_ok-leaf-in-Server : goal.build_route-returns-in_ok-leaf-in-Server
build_route-returns-in_ok-leaf-in-Server t c =
    built-Server (map list_view c.args.lists.now) c.args.route.now c.in-Server.pool c.in-Server.index c.args.symbols.now c.server_leaf.new.symbols c.in_ok-leaf-in-Server.leaf c.new-shadows.result
    c.in-Server.is c.new-shadows.ensures.items c.in_ok-leaf-in-Server.ensures.table c.in_ok-leaf-in-Server.ensures.leaf

pub build_route-returns-in_ok-children-in-Many : goal.build_route-returns-in_ok-children-in-Many
build_route-returns-in_ok-children-in-Many t c =
    built-Many (map list_view c.args.lists.now) c.args.route.now c.in-Many.kind c.in-Many.children c.deref-in-Many.result.now c.args.symbols.now c.build_children.new.symbols c.in_ok-children-in-Many.children
    c.in-Many.is c.deref-in-Many.ensures.value c.in_ok-children-in-Many.ensures

pub build_route-returns-in_ok-warm-in-WarmUp : goal.build_route-returns-in_ok-warm-in-WarmUp
build_route-returns-in_ok-warm-in-WarmUp t c =
    built-WarmUp (map list_view c.args.lists.now) c.args.route.now c.in-WarmUp.cold c.in-WarmUp.warm c.in-WarmUp.exptime c.args.symbols.now c.build_boxed.new.symbols c.build_boxed-in-WarmUp.new.symbols
    c.in_ok-cold-in-WarmUp.cold c.in_ok-warm-in-WarmUp.warm c.in-WarmUp.is c.in_ok-cold-in-WarmUp.ensures c.in_ok-warm-in-WarmUp.ensures

pub build_route-returns-in_ok-to-in-Migrate : goal.build_route-returns-in_ok-to-in-Migrate
build_route-returns-in_ok-to-in-Migrate t c =
    built-Migrate (map list_view c.args.lists.now) c.args.route.now c.in-Migrate.from c.in-Migrate.to c.in-Migrate.start c.in-Migrate.interval c.args.symbols.now c.build_boxed-in-Migrate.new.symbols c.build_boxed-in-Migrate-2.new.symbols
    c.in_ok-from-in-Migrate.from c.in_ok-to-in-Migrate.to c.in-Migrate.is c.in_ok-from-in-Migrate.ensures c.in_ok-to-in-Migrate.ensures

pub build_route-returns-in_ok-wildcard-in-PrefixSelector : goal.build_route-returns-in_ok-wildcard-in-PrefixSelector
build_route-returns-in_ok-wildcard-in-PrefixSelector t c =
    let policies = c.in_ok-policies-in-PrefixSelector in
    built-PrefixSelector (map list_view c.args.lists.now) c.args.route.now c.in-PrefixSelector.policies c.in-PrefixSelector.wildcard c.deref-in-PrefixSelector.result.now c.args.symbols.now c.build_prefixes.new.symbols c.build_last.new.symbols
    policies.policies c.in_ok-wildcard-in-PrefixSelector.wildcard c.in-PrefixSelector.is c.deref-in-PrefixSelector.ensures.value policies.ensures.prefixes policies.ensures.routes c.in_ok-wildcard-in-PrefixSelector.ensures

pub build_route-returns-in_ok-default_policy-in-OperationSelector : goal.build_route-returns-in_ok-default_policy-in-OperationSelector
build_route-returns-in_ok-default_policy-in-OperationSelector t c =
    let policies = c.in_ok-policies-in-OperationSelector in
    built-OperationSelector (map list_view c.args.lists.now) c.args.route.now c.in-OperationSelector.policies c.in-OperationSelector.default_policy c.deref-in-OperationSelector.result.now c.args.symbols.now c.build_policies.new.symbols c.build_last-in-OperationSelector.new.symbols
    policies.policies c.in_ok-default_policy-in-OperationSelector.default_policy c.in-OperationSelector.is c.deref-in-OperationSelector.ensures.value policies.ensures.operations policies.ensures.routes c.in_ok-default_policy-in-OperationSelector.ensures
