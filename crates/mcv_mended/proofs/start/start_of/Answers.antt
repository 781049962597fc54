use Rattle.std.proofs.Common.{◌≡◌, ◌<◌, ◌≤◌, [], ◌∷◌, arith, length, subst, List, ℕ, Option}
use Rattle.std.proofs.lemmas.Result.{IfOk-weaker}
use Rattle.mcv_base.specs.declared.operation.Op.{Op}
use Rattle.mcv_route.specs.Children.{prefix_policy}
use Rattle.mcv_route.specs.Situation.{Situation, asked}
use Rattle.mcv_route.specs.Tree.{Tree}
use Rattle.mcv_route.specs.View.{view}
use Rattle.mcv_route.specs.declared.tree.PrefixPolicy.{out-PrefixPolicy}
use Rattle.mcv_route.specs.declared.tree.Route.{Route}
use Rattle.mcv_rules.specs.PlanInMemory.{Serves, prefixes_of}
use Rattle.mcv_rules.specs.declared.plan.Plan.{Plan}
use Rattle.mcv_rules.proofs.ChoosingHandles.{serves-prefix, serves-wildcard}
use Rattle.mcv_mended.specs.Starts.{StartsAt}
use Rattle.mcv_mended.specs.declared.start.Start.{Start}
use Rattle.mcv_mended.proofs.start.start_of.Goals as goal

-- what serves this child, serves the child that the start is
at_child : (s : Start) (child : Route) (number : ℕ) → (s.route.now ≡ child) × (s.position ≡ number ∷ []) → (t : Tree) (rest : List ℕ)
    → ((p : Plan) (op : Op) (since : Option ℕ) → Serves p (view child) (record (asked op rest since) { position = number ∷ [] }) → Serves p t (asked op rest since))
    → StartsAt t rest s
at_child s child number is t rest all = λ p op since serves.
    all p op since
    (subst (λ (r : Route). Serves p (view r) (record (asked op rest since) { position = number ∷ [] })) is.0
    (subst (λ (q : List ℕ). Serves p (view s.route.now) (record (asked op rest since) { position = q })) is.1 serves))

pub returns-then-number-len : goal.returns-then-number-len
returns-then-number-len c =
    let policies = c.in-PrefixSelector.policies in
    let wildcard = c.in-PrefixSelector.wildcard in
    let policy = c.index-policy.result.now in
    let number = c.prefix_number-number.result in
    let rest = c.args.rest.now in
    let chosen : number ≡ prefix_policy rest (prefixes_of policies.items) = rw c.deref.ensures.value at c.prefix_number-number.ensures in
    let within : number < length policies.items = omega (arith, c.if-number-len.true, c.len.ensures, policies.ok.0) in
    rw c.in-PrefixSelector.is
    (IfOk-weaker c.child_start.result _ _
    (λ s is. at_child s (out-PrefixPolicy policy).route number is _ rest
    (λ p op since serves. serves-prefix p policies wildcard number policy (asked op rest since) chosen within c.index-policy.ensures serves))
    c.child_start.ensures)

pub returns-in-Some : goal.returns-in-Some
returns-in-Some c =
    let policies = c.in-PrefixSelector.policies in
    let child = c.in-Some.child in
    let number = c.prefix_number-number.result in
    let rest = c.args.rest.now in
    let chosen : number ≡ prefix_policy rest (prefixes_of policies.items) = rw c.deref.ensures.value at c.prefix_number-number.ensures in
    let past : length policies.items ≤ number = omega (arith, c.if-number-len.false, c.len.ensures, policies.ok.0) in
    rw (c.in-PrefixSelector.is, c.in-Some.is)
    (IfOk-weaker c.child_start-in-Some.result _ _
    (λ s is. at_child s child.value number (rw c.deref-in-Some.ensures at is) _ rest
    (λ p op since serves. serves-wildcard p policies child number (asked op rest since) chosen past serves))
    c.child_start-in-Some.ensures)

pub returns : goal.returns
returns c = λ p op since serves. subst (λ (q : List ℕ). Serves p (view c.args.route.now) (record (asked op c.args.rest.now since) { position = q })) c.root.ensures serves
