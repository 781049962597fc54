use Rattle.std.proofs.Common.{◌≡◌, ◌∷◌, ◌∙◌, arith, false, length, rules, subst, sym, true}
use Rattle.std.proofs.lemmas.Result.{IfOk-weaker}
use Rattle.mcv_base.specs.declared.reply.Outcome.TheVariants.{Error}
use Rattle.mcv_route.specs.Outcomes.{History}
use Rattle.mcv_rules.specs.Plan as whole
use Rattle.mcv_rules.specs.Plan.{Plan}
use Rattle.mcv_rules.specs.NormalForm.{in_turn, whole_of}
use Rattle.mcv_rules.proofs.NormalForms.{part-All, part-Beside, part-OnHit}
use Rattle.mcv_symbolic.specs.ShownAnswers.{answers, first_hit, history_of, leaf_hit}
use Rattle.mcv_symbolic.specs.Structure.{if_all}
use Rattle.mcv_symbolic.specs.HitSearch.{IsLead, goes_on_after, passed_on}
use Rattle.mcv_symbolic.proofs.TriedHits.{IsAddedIn, added-led, added-none, added-unled, both-fail, both-hit, both-led, history-length, lead-none, leaf_hit-in_turn, led-alone, turn-ended, turn-next}
use Rattle.mcv_symbolic.proofs.ChildrenWalk.{answers_beside, begun, ended, first_hit_beside, if_all_beside, leaf_hit_beside, led_first, led_none, one_more, so_far, tree-All, tree-InTurn, stopped}
use Rattle.mcv_symbolic.proofs.shown.+leads.Goals as goal

-- ---- the leg, or any

pub push_lead-returns-in-All : goal.push_lead-returns-in-All
push_lead-returns-in-All t c =
    rw (c.in-All.is, part-All c.in-All.children) (rw c.deref.ensures.value at c.push_all_leads.ensures)

pub push_lead-returns-in-Beside : goal.push_lead-returns-in-Beside
push_lead-returns-in-Beside t c =
    rw (c.in-Beside.is, part-Beside c.in-Beside.children) (rw c.deref-in-Beside.ensures.value at c.push_lead_of_first.ensures)

pub push_lead-returns-in-OnHit : goal.push_lead-returns-in-OnHit
push_lead-returns-in-OnHit t c =
    rw (c.in-OnHit.is, part-OnHit c.in-OnHit.first c.in-OnHit.field-1) (rw c.deref-in-OnHit.ensures at c.push_lead.ensures)

pub push_lead-returns-in_ok-added-in-InTurn : goal.push_lead-returns-in_ok-added-in-InTurn
push_lead-returns-in_ok-added-in-InTurn t c =
    let p = whole_of c.args.plan.now in
    let w = c.in-InTurn.after in
    let start : c.len-start.result ≡ length c.args.legs.now.items = omega (arith, c.len-start.ensures, c.args.legs.now.ok.0) in
    c.led.ensures (leaf_hit c.args.leaf.now p) (answers (passed_on w) p) (if_all (passed_on w) p) (history_of c.args.legs.now.items) (history-length c.len-start.result c.args.legs.now.items start)
    (rw (tree-InTurn c.args.plan.now c.in-InTurn.after c.in-InTurn.children c.deref-in-InTurn.result.now c.in-InTurn.is c.deref-in-InTurn.ensures.value) c.in_ok-added-in-InTurn.ensures)

pub push_lead_of_first-returns-in-Some : goal.push_lead_of_first-returns-in-Some
push_lead_of_first-returns-in-Some t c =
    let first = c.in-Some.first.now in
    let one = led_first (leaf_hit c.args.leaf.now) (leaf_hit_beside c.args.leaf.now) c.args.children.now first (search rules) (search rules) in
    let hit = led_first first_hit first_hit_beside c.args.children.now first (search rules) (search rules) in
    rw (one, hit) c.push_lead.ensures

pub push_lead_of_first-returns-in-None : goal.push_lead_of_first-returns-in-None
push_lead_of_first-returns-in-None t c =
    rw (led_none c.args.children.now (search rules)) (lead-none (history_of c.args.legs.now.items))

-- ---- all at once

pub push_all_leads-loop-child-init : goal.push_all_leads-loop-child-init
push_all_leads-loop-child-init t c =
    let shape : c.args.children.now ≡ c.in-Some.first.now ∷ c.in-Some.others.now = search rules in
    subst (λ t. IsLead (leaf_hit c.args.leaf.now t) (first_hit t) c.in_ok-lead.lead (history_of c.args.legs.now.items) (history_of c.push_lead.new.legs.items)) (sym (begun c.args.children.now c.in-Some.first.now c.in-Some.others.now shape whole.Both)) c.in_ok-lead.ensures

pub push_all_leads-loop-child-preserved : goal.push_all_leads-loop-child-preserved
push_all_leads-loop-child-preserved t c =
    let shape : c.args.children.now ≡ c.in-Some.first.now ∷ c.in-Some.others.now = search rules in
    let t = so_far c.args.children.now c.in-Some.first.now c.in-Some.others.now shape whole.Both c.loop-child.child-index in
    subst (λ t. IsLead (leaf_hit c.args.leaf.now t) (first_hit t) c.in_ok-lead-2.lead (history_of c.args.legs.now.items) (history_of c.push_next_lead.new.legs.items)) (sym (one_more c.args.children.now c.in-Some.first.now c.in-Some.others.now shape whole.Both c.loop-child.child-index c.child-item.result c.loop-child-test.true c.child-item.is))
    (c.in_ok-lead-2.ensures t (history_of c.args.legs.now.items) c.loop-child.invariant)

pub push_all_leads-returns : goal.push_all_leads-returns
push_all_leads-returns t c =
    let shape : c.args.children.now ≡ c.in-Some.first.now ∷ c.in-Some.others.now = search rules in
    subst (λ t. IsLead (leaf_hit c.args.leaf.now t) (first_hit t) c.loop-child.lead (history_of c.args.legs.now.items) (history_of c.loop-child.legs.items)) (ended c.args.children.now c.in-Some.first.now c.in-Some.others.now shape whole.Both c.loop-child.child-index c.loop-child-test.false) c.loop-child.invariant

pub push_next_lead-returns-then-branch : goal.push_next_lead-returns-then-branch
push_next_lead-returns-then-branch t c =
    λ t before h.
    both-led c.args.leaf.now t (whole_of c.args.next.now) before (history_of c.args.legs.now.items) (history_of c.push_first_hit.new.legs.items) c.in_ok-push_first_hit-in-Led.field-0
    (rw c.in-Led.is at h) c.in_ok-push_first_hit-in-Led.ensures c.if-branch.true

pub push_next_lead-returns-else-branch : goal.push_next_lead-returns-else-branch
push_next_lead-returns-else-branch t c =
    λ t before h.
    led-alone c.args.leaf.now t (whole_of c.args.next.now) before (history_of c.args.legs.now.items) (history_of c.push_first_hit.new.legs.items) c.in_ok-push_first_hit-in-Led.field-0
    (rw c.in-Led.is at h) c.in_ok-push_first_hit-in-Led.ensures c.if-branch.false

pub push_next_lead-returns-in-Hit : goal.push_next_lead-returns-in-Hit
push_next_lead-returns-in-Hit t c =
    let p = c.args.leaf.now in
    let u = whole_of c.args.next.now in
    let mid = (history_of c.args.legs.now.items) in
    let new = history_of c.push_lead.new.legs.items in
    IfOk-weaker c.push_lead.result (λ x. IsLead (leaf_hit p u) (first_hit u) x mid new)
    (λ x. (t : Plan) (before : History) → IsLead (leaf_hit p t) (first_hit t) c.args.lead before mid → IsLead (leaf_hit p (whole.Both t u)) (first_hit (whole.Both t u)) x before new)
    (λ x v. λ t before h. both-hit p t u before mid (rw c.in-Hit.is at h) x new v) c.push_lead.ensures

pub push_next_lead-returns-in-Neither : goal.push_next_lead-returns-in-Neither
push_next_lead-returns-in-Neither t c =
    λ t before h. both-fail c.args.leaf.now t (whole_of c.args.next.now) before (history_of c.args.legs.now.items) (rw c.in-Neither.is at h)

-- ---- the leg, or answers that are alike

pub push_leaf_hit-returns-in-Beside : goal.push_leaf_hit-returns-in-Beside
push_leaf_hit-returns-in-Beside t c =
    rw (c.in-Beside.is, part-Beside c.in-Beside.children) (rw c.deref-in-Beside.ensures.value at c.push_leaf_hit_of_first.ensures)

pub push_leaf_hit-returns-in-OnHit : goal.push_leaf_hit-returns-in-OnHit
push_leaf_hit-returns-in-OnHit t c =
    rw (c.in-OnHit.is, part-OnHit c.in-OnHit.first c.in-OnHit.field-1) (rw c.deref-in-OnHit.ensures at c.push_leaf_hit.ensures)

pub push_leaf_hit-returns-in-Led : goal.push_leaf_hit-returns-in-Led
push_leaf_hit-returns-in-Led t c =
    let p = whole_of c.args.plan.now in
    added-led (leaf_hit c.args.leaf.now p) (first_hit p) (answers c.args.answer p) (if_all c.args.answer p) (history_of c.args.legs.now.items) (history_of c.push_all_leads.new.legs.items)
    (rw (tree-All c.args.plan.now c.in-All.children c.deref.result.now c.in-All.is c.deref.ensures.value) (rw c.in-Led.is at c.in_ok-push_all_leads-in-All.ensures))

pub push_leaf_hit-returns-in_ok-push_instead-in-Hit : goal.push_leaf_hit-returns-in_ok-push_instead-in-Hit
push_leaf_hit-returns-in_ok-push_instead-in-Hit t c =
    let p = whole_of c.args.plan.now in
    let start : c.len-start.result ≡ length c.args.legs.now.items = omega (arith, c.len-start.ensures, c.args.legs.now.ok.0) in
    added-unled (leaf_hit c.args.leaf.now p) (first_hit p) c.in_ok-push_all_leads-in-All.field-0 (history_of c.args.legs.now.items) (history_of c.push_all_leads.new.legs.items) (answers c.args.answer p) (history_of c.push_instead.new.legs.items) c.len-start.result
    (if_all c.args.answer p) c.in_ok-push_instead-in-Hit.field-0 (rw (tree-All c.args.plan.now c.in-All.children c.deref.result.now c.in-All.is c.deref.ensures.value) c.in_ok-push_all_leads-in-All.ensures) c.in-Hit.is (history-length c.len-start.result c.args.legs.now.items start) c.in_ok-push_instead-in-Hit.ensures.legs c.in_ok-push_instead-in-Hit.ensures.reply

pub push_leaf_hit-returns-in_ok-added-in-InTurn : goal.push_leaf_hit-returns-in_ok-added-in-InTurn
push_leaf_hit-returns-in_ok-added-in-InTurn t c =
    let p = whole_of c.args.plan.now in
    let start : c.len-start.result ≡ length c.args.legs.now.items = omega (arith, c.len-start.ensures, c.args.legs.now.ok.0) in
    c.settled.ensures (leaf_hit c.args.leaf.now p) (history_of c.args.legs.now.items) (history-length c.len-start.result c.args.legs.now.items start)
    (rw (tree-InTurn c.args.plan.now c.in-InTurn.after c.in-InTurn.children c.deref-in-InTurn.result.now c.in-InTurn.is c.deref-in-InTurn.ensures.value) c.in_ok-added-in-InTurn.ensures)

pub push_leaf_hit_of_first-returns-in-Some : goal.push_leaf_hit_of_first-returns-in-Some
push_leaf_hit_of_first-returns-in-Some t c =
    let first = c.in-Some.first.now in
    let one = led_first (leaf_hit c.args.leaf.now) (leaf_hit_beside c.args.leaf.now) c.args.children.now first (search rules) (search rules) in
    let others = led_first (answers c.args.answer) (answers_beside c.args.answer) c.args.children.now first (search rules) (search rules) in
    let reply = led_first (if_all c.args.answer) (if_all_beside c.args.answer) c.args.children.now first (search rules) (search rules) in
    rw (one, others, reply) c.push_leaf_hit.ensures

pub push_leaf_hit_of_first-returns-in-None : goal.push_leaf_hit_of_first-returns-in-None
push_leaf_hit_of_first-returns-in-None t c =
    rw (led_none c.args.children.now (search rules)) (added-none Error (history_of c.args.legs.now.items))

-- ---- a search

pub push_leaf_hit_in_turn-loop-child-init : goal.push_leaf_hit_in_turn-loop-child-init
push_leaf_hit_in_turn-loop-child-init t c =
    let shape : c.args.children.now ≡ c.in-Some.first.now ∷ c.in-Some.others.now = search rules in
    subst (λ t. IsAddedIn (leaf_hit c.args.leaf.now) c.args.after t c.in_ok-added.added (history_of c.args.legs.now.items) (history_of c.push_leaf_hit.new.legs.items)) (sym (begun c.args.children.now c.in-Some.first.now c.in-Some.others.now shape (in_turn c.args.after))) (rw c.passed_on-answer.ensures at c.in_ok-added.ensures)

pub push_leaf_hit_in_turn-loop-child-preserved : goal.push_leaf_hit_in_turn-loop-child-preserved
push_leaf_hit_in_turn-loop-child-preserved t c =
    let shape : c.args.children.now ≡ c.in-Some.first.now ∷ c.in-Some.others.now = search rules in
    let t = so_far c.args.children.now c.in-Some.first.now c.in-Some.others.now shape (in_turn c.args.after) c.loop-child.child-index in
    let u = whole_of c.child-item.result in
    let mid = history_of c.loop-child.legs.items in
    let new = history_of c.push_leaf_hit-in-loop-child.new.legs.items in
    let on : goes_on_after c.args.after c.loop-child.added ≡ true = sym c.goes_on_after.ensures ∙ c.if-not-goes_on_after.false in
    subst (λ t. IsAddedIn (leaf_hit c.args.leaf.now) c.args.after t c.in_ok-added-2.added (history_of c.args.legs.now.items) new) (sym (one_more c.args.children.now c.in-Some.first.now c.in-Some.others.now shape (in_turn c.args.after) c.loop-child.child-index c.child-item.result c.loop-child-test.true c.child-item.is))
    (turn-next (leaf_hit c.args.leaf.now) (leaf_hit-in_turn c.args.leaf.now) c.args.after t u (history_of c.args.legs.now.items) mid c.loop-child.added on c.loop-child.invariant c.in_ok-added-2.added new (rw c.passed_on-answer.ensures at c.in_ok-added-2.ensures))

pub push_leaf_hit_in_turn-returns-then-not-goes_on_after : goal.push_leaf_hit_in_turn-returns-then-not-goes_on_after
push_leaf_hit_in_turn-returns-then-not-goes_on_after t c =
    let shape : c.args.children.now ≡ c.in-Some.first.now ∷ c.in-Some.others.now = search rules in
    let mid = history_of c.loop-child.legs.items in
    let off : goes_on_after c.args.after c.loop-child.added ≡ false = sym c.goes_on_after.ensures ∙ c.if-not-goes_on_after.true in
    stopped c.args.children.now c.in-Some.first.now c.in-Some.others.now shape (in_turn c.args.after) (λ t. IsAddedIn (leaf_hit c.args.leaf.now) c.args.after t c.loop-child.added (history_of c.args.legs.now.items) mid) (λ t u h. turn-ended (leaf_hit c.args.leaf.now) (leaf_hit-in_turn c.args.leaf.now) c.args.after t u (history_of c.args.legs.now.items) mid c.loop-child.added off h) c.loop-child.child-index c.loop-child.invariant

pub push_leaf_hit_in_turn-returns : goal.push_leaf_hit_in_turn-returns
push_leaf_hit_in_turn-returns t c =
    let shape : c.args.children.now ≡ c.in-Some.first.now ∷ c.in-Some.others.now = search rules in
    subst (λ t. IsAddedIn (leaf_hit c.args.leaf.now) c.args.after t c.loop-child.added (history_of c.args.legs.now.items) (history_of c.loop-child.legs.items)) (ended c.args.children.now c.in-Some.first.now c.in-Some.others.now shape (in_turn c.args.after) c.loop-child.child-index c.loop-child-test.false) c.loop-child.invariant
