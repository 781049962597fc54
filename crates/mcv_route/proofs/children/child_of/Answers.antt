use Rattle.std.proofs.Common.{refl}
use Rattle.mcv_route.specs.View.{view}
use Rattle.mcv_route.proofs.HandleChildren.{child_at-Pool, child_at-Null, child_at-Error, child_at-Many, child-of-WarmUp, child-of-Migrate, child_at-PrefixSelector, child_at-OperationSelector, borrowed-at}
use Rattle.mcv_route.proofs.children.child_of.Goals as goal

pub returns-in-Pool : goal.returns-in-Pool
returns-in-Pool c = rw (c.in-Pool.is, child_at-Pool, ← c.deref.ensures.value) c.shadow_target.ensures

pub returns-in-Null : goal.returns-in-Null
returns-in-Null c = rw (c.in-Null.is, child_at-Null) refl

pub returns-in-Error : goal.returns-in-Error
returns-in-Error c = rw (c.in-Error.is, child_at-Error) refl

pub returns-in-Many : goal.returns-in-Many
returns-in-Many c =
    rw (c.in-Many.is, child_at-Many c.in-Many.field-0 c.in-Many.children c.args.number, ← c.deref-in-Many.ensures.value) (borrowed-at view c.deref-in-Many.result.now c.args.number c.get.result c.get.ensures.lookup)

pub returns-in-WarmUp : goal.returns-in-WarmUp
returns-in-WarmUp c =
    child-of-WarmUp c.args.route.now c.in-WarmUp.cold c.in-WarmUp.warm c.in-WarmUp.exptime c.args.number c.deref-in-WarmUp.result.now c.deref-in-WarmUp-2.result.now _
    c.in-WarmUp.is c.deref-in-WarmUp.ensures c.deref-in-WarmUp-2.ensures c.warm_up_side.ensures

pub returns-in-Migrate : goal.returns-in-Migrate
returns-in-Migrate c =
    child-of-Migrate c.args.route.now c.in-Migrate.from c.in-Migrate.to c.in-Migrate.start c.in-Migrate.interval c.args.number c.deref-in-Migrate.result.now c.deref-in-Migrate-2.result.now _
    c.in-Migrate.is c.deref-in-Migrate.ensures c.deref-in-Migrate-2.ensures c.migration_side.ensures

pub returns-in-PrefixSelector : goal.returns-in-PrefixSelector
returns-in-PrefixSelector c =
    rw (c.in-PrefixSelector.is, child_at-PrefixSelector c.in-PrefixSelector.policies c.in-PrefixSelector.wildcard c.args.number, ← c.deref-in-PrefixSelector.ensures.value) c.prefix_route.ensures

pub returns-in-OperationSelector : goal.returns-in-OperationSelector
returns-in-OperationSelector c =
    rw (c.in-OperationSelector.is, child_at-OperationSelector c.in-OperationSelector.policies c.in-OperationSelector.default_policy c.args.number, ← c.deref-in-OperationSelector.ensures.value) c.policy_route.ensures
