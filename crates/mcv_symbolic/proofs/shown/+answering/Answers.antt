use Rattle.std.proofs.Common.{◌≡◌, ◌++◌, ◌∷◌, ◌∙◌, ap, ap₂, false, refl, rules, sym, true}
use Rattle.mcv_base.specs.Reply.{worse}
use Rattle.mcv_rules.specs.Arrivals.{goes_on}
use Rattle.mcv_rules.specs.Plan as whole
use Rattle.mcv_rules.specs.Plan.{Plan}
use Rattle.mcv_rules.specs.NormalForm.{in_turn, whole_of}
use Rattle.mcv_rules.proofs.NormalForms.{part-All, part-Beside, part-InTurn, part-OnHit}
use Rattle.mcv_symbolic.specs.ShownAnswers.{answers, history_of}
use Rattle.mcv_symbolic.specs.Structure.{if_all}
use Rattle.mcv_symbolic.proofs.ChildrenWalk.{answers_beside, answers_off, answers_on, begun, ended, grown, if_all_beside, led_first, led_none, none_grown, one_more, reply_off, reply_on, so_far, stopped, ungrown}
use Rattle.mcv_symbolic.proofs.shown.+answering.Goals as goal

-- ---- one part

pub push_answers-returns-in-All : goal.push_answers-returns-in-All
push_answers-returns-in-All t c =
    rw (c.in-All.is, part-All c.in-All.children) (rw c.deref.ensures.value at c.push_answers_of_all.ensures)

pub push_answers-returns-in-Beside : goal.push_answers-returns-in-Beside
push_answers-returns-in-Beside t c =
    rw (c.in-Beside.is, part-Beside c.in-Beside.children) (rw c.deref-in-Beside.ensures.value at c.push_answers_of_first.ensures)

pub push_answers-returns-in-InTurn : goal.push_answers-returns-in-InTurn
push_answers-returns-in-InTurn t c =
    rw (c.in-InTurn.is, part-InTurn c.in-InTurn.after c.in-InTurn.children) (rw c.deref-in-InTurn.ensures.value at c.push_answers_in_turn.ensures)

pub push_answers-returns-in-OnHit : goal.push_answers-returns-in-OnHit
push_answers-returns-in-OnHit t c =
    rw (c.in-OnHit.is, part-OnHit c.in-OnHit.first c.in-OnHit.field-1) (rw c.deref-in-OnHit.ensures at c.push_answers.ensures)

-- ---- all at once

pub push_answers_of_all-loop-child-init : goal.push_answers_of_all-loop-child-init
push_answers_of_all-loop-child-init t c =
    let shape : c.args.children.now ≡ c.in-Some.first.now ∷ c.in-Some.others.now = search rules in
    let is = sym (begun c.args.children.now c.in-Some.first.now c.in-Some.others.now shape whole.Both) in
    record { legs = c.in_ok-reply.ensures.legs ∙ ap (λ t. history_of c.args.legs.now.items ++ answers c.args.answer t) is; reply = c.in_ok-reply.ensures.reply ∙ ap (λ t. if_all c.args.answer t) is }

pub push_answers_of_all-loop-child-preserved : goal.push_answers_of_all-loop-child-preserved
push_answers_of_all-loop-child-preserved t c =
    let shape : c.args.children.now ≡ c.in-Some.first.now ∷ c.in-Some.others.now = search rules in
    let t = so_far c.args.children.now c.in-Some.first.now c.in-Some.others.now shape whole.Both c.loop-child.child-index in
    let u = whole_of c.child-item.result in
    let here = c.loop-child.invariant in
    let next = c.in_ok-next.ensures in
    let is = sym (one_more c.args.children.now c.in-Some.first.now c.in-Some.others.now shape whole.Both c.loop-child.child-index c.child-item.result c.loop-child-test.true c.child-item.is) in
    record {
      legs = grown (history_of c.args.legs.now.items) (history_of c.loop-child.legs.items) (history_of c.push_answers-in-loop-child.new.legs.items) (answers c.args.answer t) (answers c.args.answer u) (answers c.args.answer (whole.Both t u)) here.legs next.legs refl ∙ ap (λ t. history_of c.args.legs.now.items ++ answers c.args.answer t) is;
      reply = c.worse-reply.ensures ∙ ap₂ worse here.reply next.reply ∙ ap (λ t. if_all c.args.answer t) is;
    }

pub push_answers_of_all-returns : goal.push_answers_of_all-returns
push_answers_of_all-returns t c =
    let shape : c.args.children.now ≡ c.in-Some.first.now ∷ c.in-Some.others.now = search rules in
    let is = ended c.args.children.now c.in-Some.first.now c.in-Some.others.now shape whole.Both c.loop-child.child-index c.loop-child-test.false in
    let here = c.loop-child.invariant in
    record { legs = here.legs ∙ ap (λ t. history_of c.args.legs.now.items ++ answers c.args.answer t) is; reply = here.reply ∙ ap (λ t. if_all c.args.answer t) is }

-- ---- beside

pub push_answers_of_first-returns-in-Some : goal.push_answers_of_first-returns-in-Some
push_answers_of_first-returns-in-Some t c =
    let legs = led_first (answers c.args.answer) (answers_beside c.args.answer) c.args.children.now c.in-Some.first.now (search rules) (search rules) in
    let reply = led_first (if_all c.args.answer) (if_all_beside c.args.answer) c.args.children.now c.in-Some.first.now (search rules) (search rules) in
    rw (legs, reply) c.push_answers.ensures

pub push_answers_of_first-returns-in-None : goal.push_answers_of_first-returns-in-None
push_answers_of_first-returns-in-None t c =
    let none = led_none c.args.children.now (search rules) in
    record { legs = none_grown (history_of c.args.legs.now.items) _ (ap (answers c.args.answer) none); reply = ap (if_all c.args.answer) (sym none) }

-- ---- one after another

pub push_answers_in_turn-loop-child-init : goal.push_answers_in_turn-loop-child-init
push_answers_in_turn-loop-child-init t c =
    let shape : c.args.children.now ≡ c.in-Some.first.now ∷ c.in-Some.others.now = search rules in
    let is = sym (begun c.args.children.now c.in-Some.first.now c.in-Some.others.now shape (in_turn c.args.after)) in
    record { legs = c.in_ok-reply.ensures.legs ∙ ap (λ t. history_of c.args.legs.now.items ++ answers c.args.answer t) is; reply = c.in_ok-reply.ensures.reply ∙ ap (λ t. if_all c.args.answer t) is }

pub push_answers_in_turn-loop-child-preserved : goal.push_answers_in_turn-loop-child-preserved
push_answers_in_turn-loop-child-preserved t c =
    let shape : c.args.children.now ≡ c.in-Some.first.now ∷ c.in-Some.others.now = search rules in
    let t = so_far c.args.children.now c.in-Some.first.now c.in-Some.others.now shape (in_turn c.args.after) c.loop-child.child-index in
    let u = whole_of c.child-item.result in
    let y = c.loop-child.reply in
    let here = c.loop-child.invariant in
    let next = c.in_ok-reply-2.ensures in
    let on : goes_on c.args.after y ≡ true = sym c.goes_on.ensures ∙ c.if-not-goes_on.false in
    let is = sym (one_more c.args.children.now c.in-Some.first.now c.in-Some.others.now shape (in_turn c.args.after) c.loop-child.child-index c.child-item.result c.loop-child-test.true c.child-item.is) in
    record {
      legs = grown (history_of c.args.legs.now.items) (history_of c.loop-child.legs.items) (history_of c.push_answers-in-loop-child.new.legs.items) (answers c.args.answer t) (answers c.args.answer u) (answers c.args.answer ((in_turn c.args.after) t u)) here.legs next.legs (answers_on c.args.after t u c.args.answer y here.reply on) ∙ ap (λ t. history_of c.args.legs.now.items ++ answers c.args.answer t) is;
      reply = next.reply ∙ sym (reply_on c.args.after t u c.args.answer y here.reply on) ∙ ap (λ t. if_all c.args.answer t) is;
    }

pub push_answers_in_turn-returns-then-not-goes_on : goal.push_answers_in_turn-returns-then-not-goes_on
push_answers_in_turn-returns-then-not-goes_on t c =
    let shape : c.args.children.now ≡ c.in-Some.first.now ∷ c.in-Some.others.now = search rules in
    let y = c.loop-child.reply in
    let here = c.loop-child.invariant in
    let off : goes_on c.args.after y ≡ false = sym c.goes_on.ensures ∙ c.if-not-goes_on.true in
    let all = stopped c.args.children.now c.in-Some.first.now c.in-Some.others.now shape (in_turn c.args.after) (λ t. (history_of c.loop-child.legs.items ≡ history_of c.args.legs.now.items ++ answers c.args.answer t) × (y ≡ if_all c.args.answer t)) (λ t u h. (ungrown (history_of c.args.legs.now.items) (history_of c.loop-child.legs.items) (answers c.args.answer t) (answers c.args.answer ((in_turn c.args.after) t u)) h.0 (answers_off c.args.after t u c.args.answer y h.1 off), h.1 ∙ sym (reply_off c.args.after t u c.args.answer y h.1 off))) c.loop-child.child-index (here.legs, here.reply) in
    record { legs = all.0; reply = all.1 }

pub push_answers_in_turn-returns : goal.push_answers_in_turn-returns
push_answers_in_turn-returns t c =
    let shape : c.args.children.now ≡ c.in-Some.first.now ∷ c.in-Some.others.now = search rules in
    let is = ended c.args.children.now c.in-Some.first.now c.in-Some.others.now shape (in_turn c.args.after) c.loop-child.child-index c.loop-child-test.false in
    let here = c.loop-child.invariant in
    record { legs = here.legs ∙ ap (λ t. history_of c.args.legs.now.items ++ answers c.args.answer t) is; reply = here.reply ∙ ap (λ t. if_all c.args.answer t) is }
