use Rattle.std.proofs.Common.{rules, arith, true, false, ◌≡◌, ◌<◌, ◌≤◌, ◌+◌, [], ◌∷◌, ◌++◌, length, refl, sym, ap, ◌∙◌}
use Rattle.std.proofs.lemmas.List.{take_all}
use Rattle.mcv_base.specs.Operation.{is_reading}
use Rattle.mcv_route.specs.Children.{policy_of, prefix_policy, to_both, to_from, to_to, way_of}
use Rattle.mcv_route.specs.Situation.{shadowed, under}
use Rattle.mcv_route.specs.Tree.{migrate, warm_up}
use Rattle.mcv_route.specs.View.{pool_view, view}
use Rattle.mcv_route.proofs.Views.{shadow_view-out, view-Error, view-Many, view-Migrate, view-Null, view-Pool, view-WarmUp}
use Rattle.mcv_rules.specs.PlanInMemory.{children_of, operations_of, prefixes_of, situation_at, way_seen}
use Rattle.mcv_rules.proofs.ChoosingHandles.{migrates_from, migrates_to, warms_not}
use Rattle.mcv_plan.specs.Counts.{capped}
use Rattle.mcv_plan.proofs.CountsAdd.{all_async_count, all_sync_count, capped_more, children_more, counts_as, default_count, failover_count, first_child_count, initial_all, initial_first, initial_more, migrate_both_count, miss_count, no_child_count, no_default_count, no_initial, no_wildcard_count, operation_count, pool_count, pool_more, prefix_count, warm_up_count, wildcard_count}
use Rattle.mcv_plan.proofs.counting.+counting.Goals as goal

-- ---- a pool and its shadows

pub count_pool-loop-shadow-init : goal.count_pool-loop-shadow-init
count_pool-loop-shadow-init t c = λ position. refl

pub count_pool-loop-shadow-preserved : goal.count_pool-loop-shadow-preserved
count_pool-loop-shadow-preserved t c = λ position.
    let s = situation_at c.args.asked.now position in
    let i = c.loop-shadow.shadow-index in
    let x = c.shadow-item.result in
    c.saturating_add-total.ensures
    ∙ pool_more c.args.shadows.now i x (shadowed s) c.loop-shadow.total c.count.result c.loop-shadow-test.true c.shadow-item.is
    (rw (shadow_view-out x) (rw c.shadowed-shadowed.ensures at (c.count.ensures (position ++ i ∷ [])))) (c.loop-shadow.invariant position)

pub count_pool-returns : goal.count_pool-returns
count_pool-returns t c = λ q position.
    pool_count q c.args.shadows.now (situation_at c.args.asked.now position) c.loop-shadow.total
    (rw (take_all c.loop-shadow.shadow-index c.args.shadows.now c.loop-shadow-test.false) at (c.loop-shadow.invariant position))

pub count-returns-in-Pool : goal.count-returns-in-Pool
count-returns-in-Pool t c = λ position.
    let p = c.in-Pool in
    rw (p.is, view-Pool p.leaf p.shadows) (rw c.deref.ensures.value at (c.count_pool.ensures (pool_view p.leaf) position))

-- ---- no legs

pub count-returns-in-Null : goal.count-returns-in-Null
count-returns-in-Null t c = λ position. rw (c.in-Null.is, view-Null) refl

pub count-returns-in-Error : goal.count-returns-in-Error
count-returns-in-Error t c = λ position. rw (c.in-Error.is, view-Error) refl

-- ---- children only

pub count-returns-in-Many : goal.count-returns-in-Many
count-returns-in-Many t c = λ position.
    let m = c.in-Many in
    rw (m.is, view-Many m.kind m.children) (rw c.deref-in-Many.ensures.value at (c.count_many.ensures position))

-- ---- children one by one

pub count_each-loop-child-init : goal.count_each-loop-child-init
count_each-loop-child-init t c = λ position. refl

pub count_each-loop-child-preserved : goal.count_each-loop-child-preserved
count_each-loop-child-preserved t c = λ position.
    let i = c.loop-child.child-index in
    c.saturating_add-total.ensures
    ∙ children_more c.args.children.now i c.child-item.result (situation_at c.args.asked.now position) c.loop-child.total c.count.result c.loop-child-test.true c.child-item.is
    (c.count.ensures (position ++ i ∷ [])) (c.loop-child.invariant position)

pub count_each-returns : goal.count_each-returns
count_each-returns t c = λ position. rw (take_all c.loop-child.child-index c.args.children.now c.loop-child-test.false) at (c.loop-child.invariant position)

pub count_many-returns-in-AllSync : goal.count_many-returns-in-AllSync
count_many-returns-in-AllSync t c = λ position.
    let s = situation_at c.args.asked.now position in
    rw c.in-AllSync.is (c.count_each.ensures position ∙ ap capped (sym (all_sync_count (children_of c.args.children.now) s)))

pub count_many-returns-in-AllAsync : goal.count_many-returns-in-AllAsync
count_many-returns-in-AllAsync t c = λ position.
    let s = situation_at c.args.asked.now position in
    rw c.in-AllAsync.is
    ((rw c.asynchronous-unheard.ensures at (c.count_each-in-AllAsync.ensures position)) ∙ ap capped (sym (all_async_count (children_of c.args.children.now) s)))

pub count_many-returns-in-Failover : goal.count_many-returns-in-Failover
count_many-returns-in-Failover t c = λ position.
    let s = situation_at c.args.asked.now position in
    rw c.in-Failover.is (c.count_each-in-Failover.ensures position ∙ ap capped (sym (failover_count (children_of c.args.children.now) s)))

-- ---- the first waited for

pub count_initial-loop-child-init : goal.count_initial-loop-child-init
count_initial-loop-child-init t c = λ position.
    let shape : c.args.children.now ≡ c.in-Some.first.now ∷ c.in-Some.others.now = search rules in
    initial_first c.args.children.now c.in-Some.first.now c.in-Some.others.now (situation_at c.args.asked.now position) c.count-total.result shape (c.count-total.ensures (position ++ 0 ∷ []))

pub count_initial-loop-child-preserved : goal.count_initial-loop-child-preserved
count_initial-loop-child-preserved t c = λ position.
    let i = c.loop-child.child-index in
    c.saturating_add-total.ensures
    ∙ initial_more c.args.children.now c.in-Some.others.now i c.child-item.result (situation_at c.args.asked.now position) c.loop-child.total c.count.result c.loop-child-test.true c.child-item.is
    (rw c.asynchronous-unheard.ensures at (c.count.ensures (position ++ (i + 1) ∷ []))) (c.loop-child.invariant position)

pub count_initial-returns : goal.count_initial-returns
count_initial-returns t c = λ position.
    let others = c.in-Some.others.now in
    let shape : c.args.children.now ≡ c.in-Some.first.now ∷ others = search rules in
    initial_all c.args.children.now c.in-Some.first.now others (situation_at c.args.asked.now position) c.loop-child.total shape
    (rw (take_all c.loop-child.child-index others c.loop-child-test.false) at (c.loop-child.invariant position))

pub count_initial-returns-in_default : goal.count_initial-returns-in_default
count_initial-returns-in_default t c = λ position. no_initial c.args.children.now (situation_at c.args.asked.now position) (search rules)

-- ---- a search for a hit

pub count_misses-returns-in-Some : goal.count_misses-returns-in-Some
count_misses-returns-in-Some t c = λ position.
    let s = situation_at c.args.asked.now position in
    let writes : is_reading s.op ≡ false = sym c.fails_over_on_miss.ensures ∙ c.if-not-fails_over_on_miss.true in
    first_child_count c.args.children.now c.in-Some.first.now s c.count.result writes (search rules) (search rules) (c.count.ensures (position ++ 0 ∷ []))

pub count_misses-returns-in-None : goal.count_misses-returns-in-None
count_misses-returns-in-None t c = λ position.
    let s = situation_at c.args.asked.now position in
    let writes : is_reading s.op ≡ false = sym c.fails_over_on_miss.ensures ∙ c.if-not-fails_over_on_miss.true in
    no_child_count c.args.children.now s writes (search rules)

pub count_misses-returns : goal.count_misses-returns
count_misses-returns t c = λ position.
    let s = situation_at c.args.asked.now position in
    let reads : is_reading s.op ≡ true = sym c.fails_over_on_miss.ensures ∙ c.if-not-fails_over_on_miss.false in
    c.count_each.ensures position ∙ ap capped (sym (miss_count (children_of c.args.children.now) s reads))

-- ---- warm-ups

pub count-returns-then-is_warmed_up : goal.count-returns-then-is_warmed_up
count-returns-then-is_warmed_up t c = λ position.
    let s = situation_at c.args.asked.now position in
    let w = c.in-WarmUp in
    let reads : is_reading s.op ≡ true = sym c.is_warmed_up.ensures ∙ c.if-is_warmed_up.true in
    let first = rw c.deref-in-WarmUp.ensures at (c.count-first.ensures (position ++ 0 ∷ [])) in
    let second = rw c.deref-then-is_warmed_up.ensures at (c.count-second.ensures (position ++ 1 ∷ [])) in
    let filling = rw (c.deref-then-is_warmed_up-2.ensures, c.adding-adding.ensures) at (c.count-filling.ensures (position ++ 2 ∷ [])) in
    rw (w.is, view-WarmUp w.cold w.warm w.exptime)
    (c.saturating_add.ensures
    ∙ capped_more c.saturating_add-both.result c.count-filling.result _ _ (c.saturating_add-both.ensures ∙ capped_more c.count-first.result c.count-second.result _ _ first second) filling
    ∙ ap capped (sym (warm_up_count (view w.cold.value) (view w.warm.value) w.exptime s reads)))

pub count-returns-else-is_warmed_up : goal.count-returns-else-is_warmed_up
count-returns-else-is_warmed_up t c = λ position.
    let s = situation_at c.args.asked.now position in
    let w = c.in-WarmUp in
    let writes : is_reading s.op ≡ false = sym c.is_warmed_up.ensures ∙ c.if-is_warmed_up.false in
    rw (w.is, view-WarmUp w.cold w.warm w.exptime)
    (counts_as (warm_up (view w.cold.value) (view w.warm.value) w.exptime) (view w.cold.value) s (under 0 s) c.count-first.result (warms_not (view w.cold.value) (view w.warm.value) w.exptime s writes)
    (rw c.deref-in-WarmUp.ensures at (c.count-first.ensures (position ++ 0 ∷ []))))

-- ---- migrations

pub count-returns-in-From : goal.count-returns-in-From
count-returns-in-From t c = λ position.
    let s = situation_at c.args.asked.now position in
    let m = c.in-Migrate in
    let way : way_of s m.start m.interval ≡ to_from = sym c.way.ensures ∙ ap way_seen c.in-From.is in
    rw (m.is, view-Migrate m.from m.to m.start m.interval)
    (counts_as (migrate (view m.from.value) (view m.to.value) m.start m.interval) (view m.from.value) s (under 0 s) c.count.result (migrates_from (view m.from.value) (view m.to.value) m.start m.interval s way)
    (rw c.deref-in-From.ensures at (c.count.ensures (position ++ 0 ∷ []))))

pub count-returns-in-To : goal.count-returns-in-To
count-returns-in-To t c = λ position.
    let s = situation_at c.args.asked.now position in
    let m = c.in-Migrate in
    let way : way_of s m.start m.interval ≡ to_to = sym c.way.ensures ∙ ap way_seen c.in-To.is in
    rw (m.is, view-Migrate m.from m.to m.start m.interval)
    (counts_as (migrate (view m.from.value) (view m.to.value) m.start m.interval) (view m.to.value) s (under 1 s) c.count-in-To.result (migrates_to (view m.from.value) (view m.to.value) m.start m.interval s way)
    (rw c.deref-in-To.ensures at (c.count-in-To.ensures (position ++ 1 ∷ []))))

pub count-returns-in-Both : goal.count-returns-in-Both
count-returns-in-Both t c = λ position.
    let s = situation_at c.args.asked.now position in
    let m = c.in-Migrate in
    let way : way_of s m.start m.interval ≡ to_both = sym c.way.ensures ∙ ap way_seen c.in-Both.is in
    let first = rw c.deref-in-Both.ensures at (c.count-source.ensures (position ++ 0 ∷ [])) in
    let second = rw c.deref-in-Both-2.ensures at (c.count-target.ensures (position ++ 1 ∷ [])) in
    rw (m.is, view-Migrate m.from m.to m.start m.interval)
    (c.saturating_add-in-Both.ensures ∙ capped_more c.count-source.result c.count-target.result _ _ first second
    ∙ ap capped (sym (migrate_both_count (view m.from.value) (view m.to.value) m.start m.interval s way)))

-- ---- prefixes

pub count-returns-then-number-len : goal.count-returns-then-number-len
count-returns-then-number-len t c = λ position.
    let policies = c.in-PrefixSelector.policies in
    let policy = c.index-policy.result.now in
    let s = situation_at c.args.asked.now position in
    let number = c.prefix_number-number.result in
    let chosen : number ≡ prefix_policy s.rest (prefixes_of policies.items) = rw c.deref-in-PrefixSelector.ensures.value at c.prefix_number-number.ensures in
    let within : number < length policies.items = omega (arith, c.if-number-len.true, c.len.ensures, policies.ok.0) in
    rw c.in-PrefixSelector.is
    (prefix_count policies c.in-PrefixSelector.wildcard number policy s c.count-then-number-len.result chosen within c.index-policy.ensures (c.count-then-number-len.ensures (position ++ number ∷ [])))

pub count-returns-in-Some : goal.count-returns-in-Some
count-returns-in-Some t c = λ position.
    let policies = c.in-PrefixSelector.policies in
    let route = c.in-Some.route in
    let s = situation_at c.args.asked.now position in
    let number = c.prefix_number-number.result in
    let chosen : number ≡ prefix_policy s.rest (prefixes_of policies.items) = rw c.deref-in-PrefixSelector.ensures.value at c.prefix_number-number.ensures in
    let past : length policies.items ≤ number = omega (arith, c.if-number-len.false, c.len.ensures, policies.ok.0) in
    rw (c.in-PrefixSelector.is, c.in-Some.is)
    (wildcard_count policies route number s c.count-in-Some.result chosen past (rw c.deref-in-Some.ensures at (c.count-in-Some.ensures (position ++ number ∷ []))))

-- no wildcard
pub count-returns-in-None : goal.count-returns-in-None
count-returns-in-None t c = λ position.
    let policies = c.in-PrefixSelector.policies in
    let s = situation_at c.args.asked.now position in
    let number = c.prefix_number-number.result in
    let chosen : number ≡ prefix_policy s.rest (prefixes_of policies.items) = rw c.deref-in-PrefixSelector.ensures.value at c.prefix_number-number.ensures in
    let past : length policies.items ≤ number = omega (arith, c.if-number-len.false, c.len.ensures, policies.ok.0) in
    rw (c.in-PrefixSelector.is, c.in-None.is) (no_wildcard_count policies number s chosen past)

-- ---- operations

pub count-returns-then-number-len-2 : goal.count-returns-then-number-len-2
count-returns-then-number-len-2 t c = λ position.
    let policies = c.in-OperationSelector.policies in
    let policy = c.index-policy-then-number-len-2.result.now in
    let s = situation_at c.args.asked.now position in
    let number = c.policy_number-number.result in
    let chosen : number ≡ policy_of s.op (operations_of policies.items) = rw c.deref-in-OperationSelector.ensures.value at c.policy_number-number.ensures in
    let within : number < length policies.items = omega (arith, c.if-number-len-2.true, c.len-in-OperationSelector.ensures, policies.ok.0) in
    rw c.in-OperationSelector.is
    (operation_count policies c.in-OperationSelector.default_policy number policy s c.count-then-number-len-2.result chosen within c.index-policy-then-number-len-2.ensures
    (c.count-then-number-len-2.ensures (position ++ number ∷ [])))

pub count-returns-in-Some-default_policy : goal.count-returns-in-Some-default_policy
count-returns-in-Some-default_policy t c = λ position.
    let policies = c.in-OperationSelector.policies in
    let route = c.in-Some-default_policy.route in
    let s = situation_at c.args.asked.now position in
    let number = c.policy_number-number.result in
    let chosen : number ≡ policy_of s.op (operations_of policies.items) = rw c.deref-in-OperationSelector.ensures.value at c.policy_number-number.ensures in
    let past : length policies.items ≤ number = omega (arith, c.if-number-len-2.false, c.len-in-OperationSelector.ensures, policies.ok.0) in
    rw (c.in-OperationSelector.is, c.in-Some-default_policy.is)
    (default_count policies route number s c.count-in-Some-default_policy.result chosen past (rw c.deref-in-Some-default_policy.ensures at (c.count-in-Some-default_policy.ensures (position ++ number ∷ []))))

-- no default
pub count-returns-in-None-default_policy : goal.count-returns-in-None-default_policy
count-returns-in-None-default_policy t c = λ position.
    let policies = c.in-OperationSelector.policies in
    let s = situation_at c.args.asked.now position in
    let number = c.policy_number-number.result in
    let chosen : number ≡ policy_of s.op (operations_of policies.items) = rw c.deref-in-OperationSelector.ensures.value at c.policy_number-number.ensures in
    let past : length policies.items ≤ number = omega (arith, c.if-number-len-2.false, c.len-in-OperationSelector.ensures, policies.ok.0) in
    rw (c.in-OperationSelector.is, c.in-None-default_policy.is) (no_default_count policies number s chosen past)
