use Rattle.std.proofs.Common.{rules, arith, true, false, ◌≡◌, ◌<◌, ◌≤◌, ◌+◌, [], ◌∷◌, ◌++◌, Some, length, map, sym, ap, ◌∙◌}
use Rattle.std.proofs.lemmas.List.{take_all}
use Rattle.mcv_base.specs.Operation.{is_reading}
use Rattle.mcv_route.specs.Children.{policy_of, prefix_policy, to_both, to_from, to_to, way_of}
use Rattle.mcv_route.specs.Situation.{asynchronous, shadowed, under}
use Rattle.mcv_route.specs.Tree.{many, AllSync, AllInitial, Failover, MissFailover, migrate, none, null, pool, warm_up}
use Rattle.mcv_route.specs.View.{pool_view, trees_of, view}
use Rattle.mcv_route.specs.declared.tree.OperationPolicy.{out-OperationPolicy}
use Rattle.mcv_route.specs.declared.tree.PrefixPolicy.{out-PrefixPolicy}
use Rattle.mcv_route.specs.declared.tree.Route.{OperationSelector, PrefixSelector}
use Rattle.mcv_route.proofs.Views.{shadow_view-out, view-Error, view-Migrate, view-Null, view-WarmUp}
use Rattle.mcv_rules.specs.PlanInMemory.{Serves, children_of, operations_of, prefixes_of, situation_at, way_seen}
use Rattle.mcv_rules.specs.declared.arrival.After.TheVariants as after
use Rattle.mcv_rules.specs.declared.plan.Plan.{Reply}
use Rattle.mcv_rules.proofs.BesidePlans.{async_beyond, child-grows, child_legs, first_beyond, first_of, first_served, led_first, no_shadows, serves-beside, shadow-grows, shadows_beyond}
use Rattle.mcv_rules.proofs.ChoosingHandles.{migrates_both, migrates_from, migrates_to, serves-default, serves-first_child, serves-no_child, serves-no_default, serves-no_initial, serves-no_wildcard, serves-operation, serves-prefix, serves-wildcard, warms_not}
use Rattle.mcv_rules.proofs.Searching.{failover_searches, miss_searches, serves-search}
use Rattle.mcv_rules.proofs.Serving.{serve-grows, served, serves-all, serves-does, serves-error, serves-null}
use Rattle.mcv_rules.proofs.layout.+planning.Goals as goal

-- ---- replies at once

pub laid_out-returns-in-Null : goal.laid_out-returns-in-Null
laid_out-returns-in-Null t c =
    rw (c.in-Null.is, view-Null) (serves-null c.default_reply.result (situation_at c.args.asked.now c.args.position.now) c.default_reply.ensures)

pub laid_out-returns-in-Error : goal.laid_out-returns-in-Error
laid_out-returns-in-Error t c = rw (c.in-Error.is, view-Error) (serves-error (situation_at c.args.asked.now c.args.position.now))

-- ---- children one by one, all waited for or one after another

pub many_laid_out-returns-in_ok-each_laid_out-in-AllSync : goal.many_laid_out-returns-in_ok-each_laid_out-in-AllSync
many_laid_out-returns-in_ok-each_laid_out-in-AllSync t c =
    let s = situation_at c.args.asked.now c.args.position.now in
    rw c.in-AllSync.is (serves-all _ (map view c.args.children.now) s c.in_ok-each_laid_out-in-AllSync.ensures)

pub many_laid_out-returns-in_ok-plans-in-Failover : goal.many_laid_out-returns-in_ok-plans-in-Failover
many_laid_out-returns-in_ok-plans-in-Failover t c =
    let s = situation_at c.args.asked.now c.args.position.now in
    let children = c.args.children.now in
    rw c.in-Failover.is
    (serves-search after.Error _ (many Failover (trees_of (map view children))) (map view children) s (failover_searches (trees_of (map view children)) s) c.in_ok-plans-in-Failover.ensures)

-- ---- warm-ups

pub each_laid_out-loop-number-preserved : goal.each_laid_out-loop-number-preserved
each_laid_out-loop-number-preserved t c =
    let s = situation_at c.args.asked.now c.args.position.now in
    rw c.in_ok-push.ensures.items
    (serve-grows c.loop-number.plans.items c.args.children.now c.loop-number.number c.index-children-number.result c.in_ok-child_laid_out.field-0 s c.loop-number-test.true c.index-children-number.is
    c.loop-number.invariant c.in_ok-child_laid_out.ensures)

pub each_laid_out-returns : goal.each_laid_out-returns
each_laid_out-returns t c = rw (take_all c.loop-number.number c.args.children.now c.loop-number-test.false) at c.loop-number.invariant

pub misses_passed_on-returns : goal.misses_passed_on-returns
misses_passed_on-returns t c =
    let s = situation_at c.args.asked.now c.args.position.now in
    let children = c.args.children.now in
    let reads : is_reading s.op ≡ true = search rules in
    serves-search after.Miss _ (many MissFailover (trees_of (map view children))) (map view children) s (miss_searches (trees_of (map view children)) s reads) c.in_ok-plans.ensures

pub none_waited_for-returns : goal.none_waited_for-returns
none_waited_for-returns t c =
    let s = situation_at c.args.asked.now c.args.position.now in
    let children = c.args.children.now in
    serves-beside c.loop-number.plans _ _ s s _ (async_beyond (map view children) s)
    (rw (take_all c.loop-number.number children c.loop-number-test.false) at c.loop-number.invariant)

pub with_shadows-returns : goal.with_shadows-returns
with_shadows-returns t c =
    let s = situation_at c.args.asked.now c.args.position.now in
    let shadows = c.args.shadows.now in
    serves-beside c.loop-number.plans _ _ s s _ (shadows_beyond (pool_view c.args.leaf.now) shadows s)
    (rw (take_all c.loop-number.number shadows c.loop-number-test.false) at c.loop-number.invariant)

-- ---- without children, and for what doesn't read

pub misses_passed_on-returns-in-None : goal.misses_passed_on-returns-in-None
misses_passed_on-returns-in-None t c =
    let s = situation_at c.args.asked.now c.args.position.now in
    let writes : is_reading s.op ≡ false = sym c.fails_over_on_miss.ensures ∙ c.if-not-fails_over_on_miss.true in
    serves-no_child c.args.children.now s writes (search rules)

pub with_shadows-returns-then-is_empty : goal.with_shadows-returns-then-is_empty
with_shadows-returns-then-is_empty t c =
    no_shadows _ (pool_view c.args.leaf.now) c.args.shadows.now (situation_at c.args.asked.now c.args.position.now) (search rules) (rw c.in_ok-copy.ensures at c.in_ok-own.ensures)

-- ---- warm-ups

pub laid_out-returns-else-is_warmed_up : goal.laid_out-returns-else-is_warmed_up
laid_out-returns-else-is_warmed_up t c =
    let s = situation_at c.args.asked.now c.args.position.now in
    let w = c.in-WarmUp in
    let writes : is_reading s.op ≡ false = sym c.is_warmed_up.ensures ∙ c.if-is_warmed_up.false in
    rw (w.is, view-WarmUp w.cold w.warm w.exptime)
    (serves-does c.in_ok-first-in-WarmUp.first (warm_up (view w.cold.value) (view w.warm.value) w.exptime) (view w.cold.value) s (under 0 s) (warms_not (view w.cold.value) (view w.warm.value) w.exptime s writes)
    (rw c.deref-in-WarmUp.ensures at c.in_ok-first-in-WarmUp.ensures))

pub laid_out-returns-in_ok-filling-in-WarmUp : goal.laid_out-returns-in_ok-filling-in-WarmUp
laid_out-returns-in_ok-filling-in-WarmUp t c =
    let s = situation_at c.args.asked.now c.args.position.now in
    let w = c.in-WarmUp in
    let reads : is_reading s.op ≡ true = sym c.is_warmed_up.ensures ∙ c.if-is_warmed_up.true in
    rw (w.is, view-WarmUp w.cold w.warm w.exptime)
    (c.filled.ensures (view w.cold.value) (view w.warm.value) w.exptime s reads
    (rw c.deref-in-WarmUp.ensures at c.in_ok-first-in-WarmUp.ensures)
    (rw c.deref-then-is_warmed_up.ensures at c.in_ok-second-in-WarmUp.ensures)
    (rw (c.deref-then-is_warmed_up-2.ensures, c.adding.ensures) at c.in_ok-filling-in-WarmUp.ensures))

-- ---- migrations

pub laid_out-returns-in-From : goal.laid_out-returns-in-From
laid_out-returns-in-From t c =
    let s = situation_at c.args.asked.now c.args.position.now in
    let m = c.in-Migrate in
    let way : way_of s m.start m.interval ≡ to_from = sym c.way.ensures ∙ ap way_seen c.in-From.is in
    rw (m.is, view-Migrate m.from m.to m.start m.interval)
    (served c.child_laid_out-in-From.result (λ p. Serves p (view m.from.value) (under 0 s)) (λ p. Serves p (migrate (view m.from.value) (view m.to.value) m.start m.interval) s)
    (λ p. serves-does p (migrate (view m.from.value) (view m.to.value) m.start m.interval) (view m.from.value) s (under 0 s) (migrates_from (view m.from.value) (view m.to.value) m.start m.interval s way))
    (rw c.deref-in-From.ensures at c.child_laid_out-in-From.ensures))

pub laid_out-returns-in-To : goal.laid_out-returns-in-To
laid_out-returns-in-To t c =
    let s = situation_at c.args.asked.now c.args.position.now in
    let m = c.in-Migrate in
    let way : way_of s m.start m.interval ≡ to_to = sym c.way.ensures ∙ ap way_seen c.in-To.is in
    rw (m.is, view-Migrate m.from m.to m.start m.interval)
    (served c.child_laid_out-in-To.result (λ p. Serves p (view m.to.value) (under 1 s)) (λ p. Serves p (migrate (view m.from.value) (view m.to.value) m.start m.interval) s)
    (λ p. serves-does p (migrate (view m.from.value) (view m.to.value) m.start m.interval) (view m.to.value) s (under 1 s) (migrates_to (view m.from.value) (view m.to.value) m.start m.interval s way))
    (rw c.deref-in-To.ensures at c.child_laid_out-in-To.ensures))

-- to both
pub laid_out-returns-in_ok-second-in-Both : goal.laid_out-returns-in_ok-second-in-Both
laid_out-returns-in_ok-second-in-Both t c =
    let s = situation_at c.args.asked.now c.args.position.now in
    let m = c.in-Migrate in
    let way : way_of s m.start m.interval ≡ to_both = sym c.way.ensures ∙ ap way_seen c.in-Both.is in
    rw (m.is, view-Migrate m.from m.to m.start m.interval)
    (served c.both.result (λ p. Serves p (many AllSync (trees_of (view m.from.value ∷ view m.to.value ∷ []))) s) (λ p. Serves p (migrate (view m.from.value) (view m.to.value) m.start m.interval) s)
    (λ p. serves-does p (migrate (view m.from.value) (view m.to.value) m.start m.interval) (many AllSync (trees_of (view m.from.value ∷ view m.to.value ∷ []))) s s (migrates_both (view m.from.value) (view m.to.value) m.start m.interval s way))
    (c.both.ensures (view m.from.value) (view m.to.value) s
    (rw c.deref-in-Both.ensures at c.in_ok-first-in-Both.ensures)
    (rw c.deref-in-Both-2.ensures at c.in_ok-second-in-Both.ensures)))

-- ---- prefixes

pub laid_out-returns-then-number-len : goal.laid_out-returns-then-number-len
laid_out-returns-then-number-len t c =
    let policies = c.in-PrefixSelector.policies in
    let wildcard = c.in-PrefixSelector.wildcard in
    let policy = c.index-policy.result.now in
    let s = situation_at c.args.asked.now c.args.position.now in
    let number = c.prefix_number-number.result in
    let chosen : number ≡ prefix_policy s.rest (prefixes_of policies.items) = rw c.deref-in-PrefixSelector.ensures.value at c.prefix_number-number.ensures in
    let within : number < length policies.items = omega (arith, c.if-number-len.true, c.len.ensures, policies.ok.0) in
    rw c.in-PrefixSelector.is
    (served c.child_laid_out-then-number-len.result (λ p. Serves p (view (out-PrefixPolicy policy).route) (under number s)) (λ p. Serves p (view (PrefixSelector policies wildcard)) s)
    (λ p. serves-prefix p policies wildcard number policy s chosen within c.index-policy.ensures)
    c.child_laid_out-then-number-len.ensures)

pub laid_out-returns-in-Some : goal.laid_out-returns-in-Some
laid_out-returns-in-Some t c =
    let policies = c.in-PrefixSelector.policies in
    let route = c.in-Some.route in
    let s = situation_at c.args.asked.now c.args.position.now in
    let number = c.prefix_number-number.result in
    let chosen : number ≡ prefix_policy s.rest (prefixes_of policies.items) = rw c.deref-in-PrefixSelector.ensures.value at c.prefix_number-number.ensures in
    let past : length policies.items ≤ number = omega (arith, c.if-number-len.false, c.len.ensures, policies.ok.0) in
    rw (c.in-PrefixSelector.is, c.in-Some.is)
    (served c.child_laid_out-in-Some.result (λ p. Serves p (view route.value) (under number s)) (λ p. Serves p (view (PrefixSelector policies (Some route))) s)
    (λ p. serves-wildcard p policies route number s chosen past)
    (rw c.deref-in-Some.ensures at c.child_laid_out-in-Some.ensures))

-- no wildcard
pub laid_out-returns-in-None : goal.laid_out-returns-in-None
laid_out-returns-in-None t c =
    let policies = c.in-PrefixSelector.policies in
    let s = situation_at c.args.asked.now c.args.position.now in
    let number = c.prefix_number-number.result in
    let chosen : number ≡ prefix_policy s.rest (prefixes_of policies.items) = rw c.deref-in-PrefixSelector.ensures.value at c.prefix_number-number.ensures in
    let past : length policies.items ≤ number = omega (arith, c.if-number-len.false, c.len.ensures, policies.ok.0) in
    rw (c.in-PrefixSelector.is, c.in-None.is) (serves-no_wildcard policies number s chosen past)

-- ---- operations

pub laid_out-returns-then-number-len-2 : goal.laid_out-returns-then-number-len-2
laid_out-returns-then-number-len-2 t c =
    let policies = c.in-OperationSelector.policies in
    let default = c.in-OperationSelector.default_policy in
    let policy = c.index-policy-then-number-len-2.result.now in
    let s = situation_at c.args.asked.now c.args.position.now in
    let number = c.policy_number-number.result in
    let chosen : number ≡ policy_of s.op (operations_of policies.items) = rw c.deref-in-OperationSelector.ensures.value at c.policy_number-number.ensures in
    let within : number < length policies.items = omega (arith, c.if-number-len-2.true, c.len-in-OperationSelector.ensures, policies.ok.0) in
    rw c.in-OperationSelector.is
    (served c.child_laid_out-then-number-len-2.result (λ p. Serves p (view (out-OperationPolicy policy).route) (under number s)) (λ p. Serves p (view (OperationSelector policies default)) s)
    (λ p. serves-operation p policies default number policy s chosen within c.index-policy-then-number-len-2.ensures)
    c.child_laid_out-then-number-len-2.ensures)

pub laid_out-returns-in-Some-default_policy : goal.laid_out-returns-in-Some-default_policy
laid_out-returns-in-Some-default_policy t c =
    let policies = c.in-OperationSelector.policies in
    let route = c.in-Some-default_policy.route in
    let s = situation_at c.args.asked.now c.args.position.now in
    let number = c.policy_number-number.result in
    let chosen : number ≡ policy_of s.op (operations_of policies.items) = rw c.deref-in-OperationSelector.ensures.value at c.policy_number-number.ensures in
    let past : length policies.items ≤ number = omega (arith, c.if-number-len-2.false, c.len-in-OperationSelector.ensures, policies.ok.0) in
    rw (c.in-OperationSelector.is, c.in-Some-default_policy.is)
    (served c.child_laid_out-in-Some-default_policy.result (λ p. Serves p (view route.value) (under number s)) (λ p. Serves p (view (OperationSelector policies (Some route))) s)
    (λ p. serves-default p policies route number s chosen past)
    (rw c.deref-in-Some-default_policy.ensures at c.child_laid_out-in-Some-default_policy.ensures))

-- no default
pub laid_out-returns-in-None-default_policy : goal.laid_out-returns-in-None-default_policy
laid_out-returns-in-None-default_policy t c =
    let policies = c.in-OperationSelector.policies in
    let s = situation_at c.args.asked.now c.args.position.now in
    let number = c.policy_number-number.result in
    let chosen : number ≡ policy_of s.op (operations_of policies.items) = rw c.deref-in-OperationSelector.ensures.value at c.policy_number-number.ensures in
    let past : length policies.items ≤ number = omega (arith, c.if-number-len-2.false, c.len-in-OperationSelector.ensures, policies.ok.0) in
    rw (c.in-OperationSelector.is, c.in-None-default_policy.is) (serves-no_default policies number s chosen past)

-- ---- the first waited for

pub first_waited_for-loop-number-init : goal.first_waited_for-loop-number-init
first_waited_for-loop-number-init t c =
    let s = situation_at c.args.asked.now c.args.position.now in
    let children = c.args.children.now in
    let first = c.in_ok-child_laid_out.field-0 in
    let shape : children ≡ c.in-Some.first.now ∷ c.in-Some.others.now = search rules in
    led_first (λ p. Serves p (first_of (map view children)) (under 0 s)) c.push.new.self.items first (c.in_ok-push.ensures.items ∙ ap (λ ps. ps ++ first ∷ []) c.in_ok-plans.ensures.items)
    (first_served first children c.in-Some.first.now c.in-Some.others.now (under 0 s) shape c.in_ok-child_laid_out.ensures)

pub first_waited_for-loop-number-preserved : goal.first_waited_for-loop-number-preserved
first_waited_for-loop-number-preserved t c =
    let s = situation_at c.args.asked.now c.args.position.now in
    rw c.in_ok-push-2.ensures.items
    (child-grows (λ p. Serves p (first_of (map view c.args.children.now)) (under 0 s)) 1 (c.loop-number.number + 1) c.loop-number.plans.items c.in-Some.others.now c.loop-number.number c.index-others-number.result c.in_ok-child_laid_out-2.field-0 (asynchronous s) c.loop-number-test.true c.index-others-number.is
    c.loop-number.invariant (omega arith) (rw c.asynchronous-unheard.ensures at c.in_ok-child_laid_out-2.ensures))

pub first_waited_for-returns : goal.first_waited_for-returns
first_waited_for-returns t c =
    let s = situation_at c.args.asked.now c.args.position.now in
    let children = c.args.children.now in
    let others = c.in-Some.others.now in
    let shape : children ≡ c.in-Some.first.now ∷ others = search rules in
    serves-beside c.loop-number.plans (many AllInitial (children_of children)) (first_of (map view children)) s (under 0 s) (child_legs 1 (map view others) (asynchronous s)) (first_beyond children c.in-Some.first.now others s shape)
    (rw (take_all c.loop-number.number others c.loop-number-test.false) at c.loop-number.invariant)

pub first_waited_for-returns-in_default : goal.first_waited_for-returns-in_default
first_waited_for-returns-in_default t c = serves-no_initial c.args.children.now (situation_at c.args.asked.now c.args.position.now) (search rules)

-- ---- none waited for

pub none_waited_for-loop-number-init : goal.none_waited_for-loop-number-init
none_waited_for-loop-number-init t c =
    let s = situation_at c.args.asked.now c.args.position.now in
    let first = Reply c.default_reply.result in
    led_first (λ p. Serves p null s) c.push.new.self.items first (c.in_ok-push.ensures.items ∙ ap (λ ps. ps ++ first ∷ []) c.in_ok-plans.ensures.items) (serves-null c.default_reply.result s c.default_reply.ensures)

pub none_waited_for-loop-number-preserved : goal.none_waited_for-loop-number-preserved
none_waited_for-loop-number-preserved t c =
    let s = situation_at c.args.asked.now c.args.position.now in
    rw c.in_ok-push-2.ensures.items
    (child-grows (λ p. Serves p null s) 0 c.loop-number.number c.loop-number.plans.items c.args.children.now c.loop-number.number c.index-children-number.result c.in_ok-child_laid_out.field-0 (asynchronous s) c.loop-number-test.true c.index-children-number.is
    c.loop-number.invariant (omega arith) (rw c.asynchronous-unheard.ensures at c.in_ok-child_laid_out.ensures))

-- ---- shadows

pub with_shadows-loop-number-preserved : goal.with_shadows-loop-number-preserved
with_shadows-loop-number-preserved t c =
    let s = situation_at c.args.asked.now c.args.position.now in
    let shadow = c.index-shadows-number.result in
    let target = c.in_ok-new.field-0 in
    rw c.in_ok-push-2.ensures.items
    (rw (shadow_view-out shadow) at
    (shadow-grows (λ p. Serves p (pool (pool_view c.args.leaf.now) [] none) s) c.args.leaf.now.symbol c.loop-number.plans.items c.args.shadows.now c.loop-number.number shadow target (shadowed s) c.loop-number-test.true c.index-shadows-number.is
    c.loop-number.invariant (rw (shadow_view-out shadow, c.in_ok-new.ensures.ok) (rw c.shadowed-shadowed.ensures at c.in_ok-target.ensures))))

-- ---- a search for what doesn't read

pub misses_passed_on-returns-in-Some : goal.misses_passed_on-returns-in-Some
misses_passed_on-returns-in-Some t c =
    let s = situation_at c.args.asked.now c.args.position.now in
    let children = c.args.children.now in
    let first = c.in-Some.first.now in
    let writes : is_reading s.op ≡ false = sym c.fails_over_on_miss.ensures ∙ c.if-not-fails_over_on_miss.true in
    served c.child_laid_out.result (λ p. Serves p (view first) (under 0 s)) (λ p. Serves p (many MissFailover (children_of children)) s)
    (λ p. serves-first_child p children first s writes (search rules) (search rules)) c.child_laid_out.ensures
