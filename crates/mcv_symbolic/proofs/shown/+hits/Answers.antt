use Rattle.std.proofs.Common.{◌≡◌, [], ◌∷◌, ◌∙◌, append-nil, arith, false, length, refl, rules, subst, sym, true}
use Rattle.mcv_base.specs.declared.reply.Outcome.TheVariants.{Error}
use Rattle.mcv_rules.specs.Plan as whole
use Rattle.mcv_rules.specs.NormalForm.{in_turn, whole_of}
use Rattle.mcv_rules.proofs.NormalForms.{part-Beside, part-All, part-OnHit}
use Rattle.mcv_symbolic.specs.ShownAnswers.{answers, first_hit, history_of}
use Rattle.mcv_symbolic.specs.Structure.{if_all}
use Rattle.mcv_symbolic.specs.HitSearch.{IsTried, goes_on_after, passed_on}
use Rattle.mcv_symbolic.proofs.TriedHits.{IsAddedIn, added-hit, added-instead, added-none, history-length, hit-in_turn, tried-added, tried-both, tried-neither, turn-ended, turn-next}
use Rattle.mcv_symbolic.proofs.ChildrenWalk.{answers_beside, begun, ended, first_hit_beside, if_all_beside, led_first, led_none, one_more, so_far, stopped, tree-All, tree-InTurn}
use Rattle.mcv_symbolic.proofs.shown.+hits.Goals as goal

-- ---- the first hit

pub push_first_hit-returns-in-All : goal.push_first_hit-returns-in-All
push_first_hit-returns-in-All t c =
    rw (c.in-All.is, part-All c.in-All.children) (rw c.deref.ensures.value at c.push_all_hits.ensures)

pub push_first_hit-returns-in-Beside : goal.push_first_hit-returns-in-Beside
push_first_hit-returns-in-Beside t c =
    rw (c.in-Beside.is, part-Beside c.in-Beside.children) (rw c.deref-in-Beside.ensures.value at c.push_hit_of_first.ensures)

pub push_first_hit-returns-in-OnHit : goal.push_first_hit-returns-in-OnHit
push_first_hit-returns-in-OnHit t c =
    rw (c.in-OnHit.is, part-OnHit c.in-OnHit.first c.in-OnHit.field-1) (rw c.deref-in-OnHit.ensures at c.push_first_hit.ensures)

pub push_first_hit-returns-in_ok-push_hit_in_turn-in-InTurn : goal.push_first_hit-returns-in_ok-push_hit_in_turn-in-InTurn
push_first_hit-returns-in_ok-push_hit_in_turn-in-InTurn t c =
    let p = whole_of c.args.plan.now in
    let w = c.in-InTurn.after in
    tried-added (first_hit p) (answers (passed_on w) p) (if_all (passed_on w) p) c.in_ok-push_hit_in_turn-in-InTurn.field-0 c.is_hit.result (history_of c.args.legs.now.items) (history_of c.push_hit_in_turn.new.legs.items)
    (rw (tree-InTurn c.args.plan.now c.in-InTurn.after c.in-InTurn.children c.deref-in-InTurn.result.now c.in-InTurn.is c.deref-in-InTurn.ensures.value) c.in_ok-push_hit_in_turn-in-InTurn.ensures)
    c.is_hit.ensures

pub push_all_hits-loop-child-init : goal.push_all_hits-loop-child-init
push_all_hits-loop-child-init t c =
    let shape : c.args.children.now ≡ c.in-Some.first.now ∷ c.in-Some.others.now = search rules in
    subst (λ t. IsTried (first_hit t) c.in_ok-found.found (history_of c.args.legs.now.items) (history_of c.push_first_hit.new.legs.items)) (sym (begun c.args.children.now c.in-Some.first.now c.in-Some.others.now shape whole.Both)) c.in_ok-found.ensures

pub push_all_hits-loop-child-preserved : goal.push_all_hits-loop-child-preserved
push_all_hits-loop-child-preserved t c =
    let shape : c.args.children.now ≡ c.in-Some.first.now ∷ c.in-Some.others.now = search rules in
    let t = so_far c.args.children.now c.in-Some.first.now c.in-Some.others.now shape whole.Both c.loop-child.child-index in
    let u = whole_of c.child-item.result in
    let mid = history_of c.loop-child.legs.items in
    let new = history_of c.push_first_hit-in-loop-child.new.legs.items in
    subst (λ t. IsTried (first_hit t) c.in_ok-found-2.found (history_of c.args.legs.now.items) new) (sym (one_more c.args.children.now c.in-Some.first.now c.in-Some.others.now shape whole.Both c.loop-child.child-index c.child-item.result c.loop-child-test.true c.child-item.is))
    (tried-both (first_hit t) (first_hit u) c.loop-child.found c.in_ok-found-2.found (history_of c.args.legs.now.items) mid new c.loop-child.invariant c.if-not-found.false c.in_ok-found-2.ensures)

pub push_all_hits-returns-then-not-found : goal.push_all_hits-returns-then-not-found
push_all_hits-returns-then-not-found t c =
    let shape : c.args.children.now ≡ c.in-Some.first.now ∷ c.in-Some.others.now = search rules in
    let mid = history_of c.loop-child.legs.items in
    let t = so_far c.args.children.now c.in-Some.first.now c.in-Some.others.now shape whole.Both c.loop-child.child-index in
    stopped c.args.children.now c.in-Some.first.now c.in-Some.others.now shape whole.Both (λ t. IsTried (first_hit t) false (history_of c.args.legs.now.items) mid) (λ t u h. tried-neither (first_hit t) (first_hit u) false (history_of c.args.legs.now.items) mid h refl) c.loop-child.child-index
    (subst (λ b. IsTried (first_hit t) b (history_of c.args.legs.now.items) mid) c.if-not-found.true c.loop-child.invariant)

pub push_all_hits-returns : goal.push_all_hits-returns
push_all_hits-returns t c =
    let shape : c.args.children.now ≡ c.in-Some.first.now ∷ c.in-Some.others.now = search rules in
    subst (λ t. IsTried (first_hit t) c.loop-child.found (history_of c.args.legs.now.items) (history_of c.loop-child.legs.items)) (ended c.args.children.now c.in-Some.first.now c.in-Some.others.now shape whole.Both c.loop-child.child-index c.loop-child-test.false) c.loop-child.invariant

pub push_hit_of_first-returns-in-Some : goal.push_hit_of_first-returns-in-Some
push_hit_of_first-returns-in-Some t c =
    rw (led_first first_hit first_hit_beside c.args.children.now c.in-Some.first.now (search rules) (search rules)) c.push_first_hit.ensures

pub push_hit_of_first-returns-in-None : goal.push_hit_of_first-returns-in-None
push_hit_of_first-returns-in-None t c =
    rw (led_none c.args.children.now (search rules)) (refl, ([], sym (append-nil (history_of c.args.legs.now.items))))

-- ---- or answers that are alike

pub push_hit_or_answers-returns-in-Beside : goal.push_hit_or_answers-returns-in-Beside
push_hit_or_answers-returns-in-Beside t c =
    rw (c.in-Beside.is, part-Beside c.in-Beside.children) (rw c.deref-in-Beside.ensures.value at c.push_hit_or_answers_of_first.ensures)

pub push_hit_or_answers-returns-in-OnHit : goal.push_hit_or_answers-returns-in-OnHit
push_hit_or_answers-returns-in-OnHit t c =
    rw (c.in-OnHit.is, part-OnHit c.in-OnHit.first c.in-OnHit.field-1) (rw c.deref-in-OnHit.ensures at c.push_hit_or_answers.ensures)

pub push_hit_or_answers-returns-then-branch : goal.push_hit_or_answers-returns-then-branch
push_hit_or_answers-returns-then-branch t c =
    let p = whole_of c.args.plan.now in
    added-hit (first_hit p) (answers c.args.answer p) (if_all c.args.answer p) c.in_ok-push_all_hits-in-All.field-0 (history_of c.args.legs.now.items) (history_of c.push_all_hits.new.legs.items)
    (rw (tree-All c.args.plan.now c.in-All.children c.deref.result.now c.in-All.is c.deref.ensures.value) c.in_ok-push_all_hits-in-All.ensures)
    c.if-branch.true

pub push_hit_or_answers-returns-in_ok-push_instead-in-All : goal.push_hit_or_answers-returns-in_ok-push_instead-in-All
push_hit_or_answers-returns-in_ok-push_instead-in-All t c =
    let p = whole_of c.args.plan.now in
    let start : c.len-start.result ≡ length c.args.legs.now.items = omega (arith, c.len-start.ensures, c.args.legs.now.ok.0) in
    added-instead (first_hit p) c.in_ok-push_all_hits-in-All.field-0 (history_of c.args.legs.now.items) (history_of c.push_all_hits.new.legs.items) (answers c.args.answer p) (history_of c.push_instead.new.legs.items) c.len-start.result (if_all c.args.answer p) c.in_ok-push_instead-in-All.field-0
    (rw (tree-All c.args.plan.now c.in-All.children c.deref.result.now c.in-All.is c.deref.ensures.value) c.in_ok-push_all_hits-in-All.ensures)
    c.if-branch.false (history-length c.len-start.result c.args.legs.now.items start) c.in_ok-push_instead-in-All.ensures.legs c.in_ok-push_instead-in-All.ensures.reply

pub push_hit_or_answers-returns-in_ok-added-in-InTurn : goal.push_hit_or_answers-returns-in_ok-added-in-InTurn
push_hit_or_answers-returns-in_ok-added-in-InTurn t c =
    let p = whole_of c.args.plan.now in
    let start : c.len-start.result ≡ length c.args.legs.now.items = omega (arith, c.len-start.ensures, c.args.legs.now.ok.0) in
    c.settled.ensures (first_hit p) (history_of c.args.legs.now.items) (history-length c.len-start.result c.args.legs.now.items start)
    (rw (tree-InTurn c.args.plan.now c.in-InTurn.after c.in-InTurn.children c.deref-in-InTurn.result.now c.in-InTurn.is c.deref-in-InTurn.ensures.value) c.in_ok-added-in-InTurn.ensures)

pub push_hit_or_answers_of_first-returns-in-Some : goal.push_hit_or_answers_of_first-returns-in-Some
push_hit_or_answers_of_first-returns-in-Some t c =
    let first = c.in-Some.first.now in
    let one = led_first (first_hit) (first_hit_beside) c.args.children.now first (search rules) (search rules) in
    let others = led_first (answers c.args.answer) (answers_beside c.args.answer) c.args.children.now first (search rules) (search rules) in
    let reply = led_first (if_all c.args.answer) (if_all_beside c.args.answer) c.args.children.now first (search rules) (search rules) in
    rw (one, others, reply) c.push_hit_or_answers.ensures

pub push_hit_or_answers_of_first-returns-in-None : goal.push_hit_or_answers_of_first-returns-in-None
push_hit_or_answers_of_first-returns-in-None t c =
    rw (led_none c.args.children.now (search rules)) (added-none Error (history_of c.args.legs.now.items))

-- ---- a search

pub push_hit_in_turn-loop-child-init : goal.push_hit_in_turn-loop-child-init
push_hit_in_turn-loop-child-init t c =
    let shape : c.args.children.now ≡ c.in-Some.first.now ∷ c.in-Some.others.now = search rules in
    subst (λ t. IsAddedIn first_hit c.args.after t c.in_ok-added.added (history_of c.args.legs.now.items) (history_of c.push_hit_or_answers.new.legs.items)) (sym (begun c.args.children.now c.in-Some.first.now c.in-Some.others.now shape (in_turn c.args.after))) (rw c.passed_on-answer.ensures at c.in_ok-added.ensures)

pub push_hit_in_turn-loop-child-preserved : goal.push_hit_in_turn-loop-child-preserved
push_hit_in_turn-loop-child-preserved t c =
    let shape : c.args.children.now ≡ c.in-Some.first.now ∷ c.in-Some.others.now = search rules in
    let t = so_far c.args.children.now c.in-Some.first.now c.in-Some.others.now shape (in_turn c.args.after) c.loop-child.child-index in
    let u = whole_of c.child-item.result in
    let mid = history_of c.loop-child.legs.items in
    let new = history_of c.push_hit_or_answers-in-loop-child.new.legs.items in
    let on : goes_on_after c.args.after c.loop-child.added ≡ true = sym c.goes_on_after.ensures ∙ c.if-not-goes_on_after.false in
    subst (λ t. IsAddedIn first_hit c.args.after t c.in_ok-added-2.added (history_of c.args.legs.now.items) new) (sym (one_more c.args.children.now c.in-Some.first.now c.in-Some.others.now shape (in_turn c.args.after) c.loop-child.child-index c.child-item.result c.loop-child-test.true c.child-item.is))
    (turn-next first_hit hit-in_turn c.args.after t u (history_of c.args.legs.now.items) mid c.loop-child.added on c.loop-child.invariant c.in_ok-added-2.added new (rw c.passed_on-answer.ensures at c.in_ok-added-2.ensures))

pub push_hit_in_turn-returns-then-not-goes_on_after : goal.push_hit_in_turn-returns-then-not-goes_on_after
push_hit_in_turn-returns-then-not-goes_on_after t c =
    let shape : c.args.children.now ≡ c.in-Some.first.now ∷ c.in-Some.others.now = search rules in
    let mid = history_of c.loop-child.legs.items in
    let off : goes_on_after c.args.after c.loop-child.added ≡ false = sym c.goes_on_after.ensures ∙ c.if-not-goes_on_after.true in
    stopped c.args.children.now c.in-Some.first.now c.in-Some.others.now shape (in_turn c.args.after) (λ t. IsAddedIn first_hit c.args.after t c.loop-child.added (history_of c.args.legs.now.items) mid) (λ t u h. turn-ended first_hit hit-in_turn c.args.after t u (history_of c.args.legs.now.items) mid c.loop-child.added off h) c.loop-child.child-index c.loop-child.invariant

pub push_hit_in_turn-returns : goal.push_hit_in_turn-returns
push_hit_in_turn-returns t c =
    let shape : c.args.children.now ≡ c.in-Some.first.now ∷ c.in-Some.others.now = search rules in
    subst (λ t. IsAddedIn first_hit c.args.after t c.loop-child.added (history_of c.args.legs.now.items) (history_of c.loop-child.legs.items)) (ended c.args.children.now c.in-Some.first.now c.in-Some.others.now shape (in_turn c.args.after) c.loop-child.child-index c.loop-child-test.false) c.loop-child.invariant
