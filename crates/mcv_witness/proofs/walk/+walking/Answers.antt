use Rattle.std.proofs.Common.{arith, ◌≡◌, ◌<◌, ◌≤◌, length, [], ◌∙◌}
use Rattle.std.specs.Prelude.{slice_index}
use Rattle.mcv_route.specs.Children.{policy_of, prefix_policy}
use Rattle.mcv_rules.specs.PlanInMemory.{operations_of, prefixes_of, ranges_of, situation_at, targets_of}
use Rattle.mcv_witness.specs.Walk.{known_of, shade, walked_each}
use Rattle.mcv_witness.proofs.SelectorWalk.{default-pass, no_default-pass, no_wildcard-pass, operation-pass, prefix-pass, wildcard-pass}
use Rattle.mcv_witness.proofs.Shades.{shade-goes, shade-skips, shade-stops}
use Rattle.mcv_witness.proofs.walk.+walking.Goals as goal

-- ---- prefixes

pub walk-returns-then-number-len : goal.walk-returns-then-number-len
walk-returns-then-number-len t c =
    let policies = c.in-PrefixSelector.policies in
    let wildcard = c.in-PrefixSelector.wildcard in
    let policy = c.index-policy.result.now in
    let s = situation_at c.args.asked.now [] in
    let q = c.args.sought.now in
    let number = c.prefix_number-number.result in
    let chosen : number ≡ prefix_policy s.rest (prefixes_of policies.items) = rw c.deref-in-PrefixSelector.ensures.value at c.prefix_number-number.ensures in
    let within : number < length policies.items = omega (arith, c.if-number-len.true, c.len.ensures, policies.ok.0) in
    rw c.in-PrefixSelector.is
    (c.walk_only-then-number-len.ensures
    ∙ prefix-pass q.leaf.now q.server.0 (slice_index q.choice.now) s (known_of c.args.known) policies wildcard number policy chosen within c.index-policy.ensures)

pub walk-returns-in-Some : goal.walk-returns-in-Some
walk-returns-in-Some t c =
    let policies = c.in-PrefixSelector.policies in
    let route = c.in-Some.route in
    let s = situation_at c.args.asked.now [] in
    let q = c.args.sought.now in
    let number = c.prefix_number-number.result in
    let chosen : number ≡ prefix_policy s.rest (prefixes_of policies.items) = rw c.deref-in-PrefixSelector.ensures.value at c.prefix_number-number.ensures in
    let past : length policies.items ≤ number = omega (arith, c.if-number-len.false, c.len.ensures, policies.ok.0) in
    rw (c.in-PrefixSelector.is, c.in-Some.is)
    (rw c.deref-in-Some.ensures at c.walk_only-in-Some.ensures
    ∙ wildcard-pass q.leaf.now q.server.0 (slice_index q.choice.now) s (known_of c.args.known) policies route number chosen past)

-- no wildcard
pub walk-returns-in-None : goal.walk-returns-in-None
walk-returns-in-None t c =
    let policies = c.in-PrefixSelector.policies in
    let s = situation_at c.args.asked.now [] in
    let q = c.args.sought.now in
    let number = c.prefix_number-number.result in
    let chosen : number ≡ prefix_policy s.rest (prefixes_of policies.items) = rw c.deref-in-PrefixSelector.ensures.value at c.prefix_number-number.ensures in
    let past : length policies.items ≤ number = omega (arith, c.if-number-len.false, c.len.ensures, policies.ok.0) in
    rw (c.in-PrefixSelector.is, c.in-None.is)
    (rw c.at_once-in-None.ensures at c.finish-in-None.ensures
    ∙ no_wildcard-pass q.leaf.now q.server.0 (slice_index q.choice.now) s (known_of c.args.known) policies number chosen past)

-- ---- operations

pub walk-returns-then-number-len-2 : goal.walk-returns-then-number-len-2
walk-returns-then-number-len-2 t c =
    let policies = c.in-OperationSelector.policies in
    let default = c.in-OperationSelector.default_policy in
    let policy = c.index-policy-then-number-len-2.result.now in
    let s = situation_at c.args.asked.now [] in
    let q = c.args.sought.now in
    let number = c.policy_number-number.result in
    let chosen : number ≡ policy_of s.op (operations_of policies.items) = rw c.deref-in-OperationSelector.ensures.value at c.policy_number-number.ensures in
    let within : number < length policies.items = omega (arith, c.if-number-len-2.true, c.len-in-OperationSelector.ensures, policies.ok.0) in
    rw c.in-OperationSelector.is
    (c.walk_only-then-number-len-2.ensures
    ∙ operation-pass q.leaf.now q.server.0 (slice_index q.choice.now) s (known_of c.args.known) policies default number policy chosen within c.index-policy-then-number-len-2.ensures)

pub walk-returns-in-Some-default_policy : goal.walk-returns-in-Some-default_policy
walk-returns-in-Some-default_policy t c =
    let policies = c.in-OperationSelector.policies in
    let route = c.in-Some-default_policy.route in
    let s = situation_at c.args.asked.now [] in
    let q = c.args.sought.now in
    let number = c.policy_number-number.result in
    let chosen : number ≡ policy_of s.op (operations_of policies.items) = rw c.deref-in-OperationSelector.ensures.value at c.policy_number-number.ensures in
    let past : length policies.items ≤ number = omega (arith, c.if-number-len-2.false, c.len-in-OperationSelector.ensures, policies.ok.0) in
    rw (c.in-OperationSelector.is, c.in-Some-default_policy.is)
    (rw c.deref-in-Some-default_policy.ensures at c.walk_only-in-Some-default_policy.ensures
    ∙ default-pass q.leaf.now q.server.0 (slice_index q.choice.now) s (known_of c.args.known) policies route number chosen past)

-- no default
pub walk-returns-in-None-default_policy : goal.walk-returns-in-None-default_policy
walk-returns-in-None-default_policy t c =
    let policies = c.in-OperationSelector.policies in
    let s = situation_at c.args.asked.now [] in
    let q = c.args.sought.now in
    let number = c.policy_number-number.result in
    let chosen : number ≡ policy_of s.op (operations_of policies.items) = rw c.deref-in-OperationSelector.ensures.value at c.policy_number-number.ensures in
    let past : length policies.items ≤ number = omega (arith, c.if-number-len-2.false, c.len-in-OperationSelector.ensures, policies.ok.0) in
    rw (c.in-OperationSelector.is, c.in-None-default_policy.is)
    (rw c.at_once-in-None-default_policy.ensures at c.finish-in-None-default_policy.ensures
    ∙ no_default-pass q.leaf.now q.server.0 (slice_index q.choice.now) s (known_of c.args.known) policies number chosen past)

-- ---- shadows

pub walk_shadows-loop-number-preserved-then-not-holds : goal.walk_shadows-loop-number-preserved-then-not-holds
walk_shadows-loop-number-preserved-then-not-holds t c =
    let s = situation_at c.args.asked.now [] in
    let q = c.args.sought.now in
    shade-skips q.leaf.now q.server.0 (slice_index q.choice.now) s c.args.index c.args.shadows.now c.loop-number.number c.index-shadows-number.result c.loop-number.seen (known_of c.loop-number.rest)
    c.loop-number-test.true c.index-shadows-number.is c.holds.result c.holds.ensures (shade c.args.index 0 (ranges_of c.args.shadows.now) (walked_each q (targets_of c.args.shadows.now) s) c.args.before (known_of c.args.known)) c.loop-number.invariant c.if-not-holds.true

pub walk_shadows-returns-in_err-next : goal.walk_shadows-returns-in_err-next
walk_shadows-returns-in_err-next t c =
    let s = situation_at c.args.asked.now [] in
    let q = c.args.sought.now in
    shade-stops q.leaf.now q.server.0 (slice_index q.choice.now) s c.args.index c.args.shadows.now c.loop-number.number c.index-shadows-number.result c.loop-number.seen (known_of c.loop-number.rest)
    c.loop-number-test.true c.index-shadows-number.is c.holds.result c.holds.ensures (shade c.args.index 0 (ranges_of c.args.shadows.now) (walked_each q (targets_of c.args.shadows.now) s) c.args.before (known_of c.args.known)) c.loop-number.invariant c.if-not-holds.false
    c.walk.result (known_of c.split.result.0) c.split.ensures.below c.walk.ensures c.from_residual.result c.from_residual.ensures c.in_err-next.was

pub walk_shadows-loop-number-preserved : goal.walk_shadows-loop-number-preserved
walk_shadows-loop-number-preserved t c =
    let s = situation_at c.args.asked.now [] in
    let q = c.args.sought.now in
    shade-goes q.leaf.now q.server.0 (slice_index q.choice.now) s c.args.index c.args.shadows.now c.loop-number.number c.index-shadows-number.result c.loop-number.seen (known_of c.loop-number.rest)
    c.loop-number-test.true c.index-shadows-number.is c.holds.result c.holds.ensures (shade c.args.index 0 (ranges_of c.args.shadows.now) (walked_each q (targets_of c.args.shadows.now) s) c.args.before (known_of c.args.known)) c.loop-number.invariant c.if-not-holds.false
    c.walk.result (known_of c.split.result.0) c.split.ensures.below c.walk.ensures c.in_ok-next.next c.joined-seen.result (known_of c.split.result.1) c.in_ok-next.was c.joined-seen.ensures c.split.ensures.past
