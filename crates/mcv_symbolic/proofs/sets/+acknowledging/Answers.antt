use Rattle.std.proofs.Common.{◌≡◌, ◌++◌, ◌∷◌, ◌∙◌, ap, ap₂, Bor, false, List, map, refl, rules, sym, true}
use Rattle.mcv_base.specs.Reply.{worse}
use Rattle.mcv_base.specs.declared.reply.Outcome.TheVariants.{Good}
use Rattle.mcv_rules.specs.Arrivals.{goes_on}
use Rattle.mcv_rules.specs.Plan as whole
use Rattle.mcv_rules.specs.Plan.{Leg, Plan}
use Rattle.mcv_rules.specs.NormalForm.{alone, beside, in_turn, leg_of, part_of, whole_of}
use Rattle.mcv_rules.specs.declared.arrival.After.TheVariants as after
use Rattle.mcv_rules.specs.declared.plan.PlannedLeg.{PlannedLeg}
use Rattle.mcv_rules.proofs.NormalForms.{part-All, part-Beside, part-InTurn}
use Rattle.mcv_symbolic.specs.SetLists.{acknowledged, counted}
use Rattle.mcv_symbolic.specs.Structure.{if_all, nothing}
use Rattle.mcv_symbolic.proofs.ChildrenWalk.{acknowledged_beside, acknowledged_off, acknowledged_on, begun, ended, first_is, first_there, grown, if_all_beside, led_begun, led_ended, led_first, led_more, led_so_far, none_acknowledged, none_grown, one_child, one_more, reply_off, reply_on, so_far, stopped, ungrown}
use Rattle.mcv_symbolic.proofs.sets.+acknowledging.Goals as goal

abbrev shown : List (Bor PlannedLeg) → List Leg
shown legs = map (λ l. leg_of l.now) legs

-- ---- one part

pub push_acknowledged-returns-in-All : goal.push_acknowledged-returns-in-All
push_acknowledged-returns-in-All t c =
    rw (c.in-All.is, part-All c.in-All.children) (rw c.deref.ensures.value at c.push_acknowledged_of_all.ensures)

pub push_acknowledged-returns-in-Beside : goal.push_acknowledged-returns-in-Beside
push_acknowledged-returns-in-Beside t c =
    rw (c.in-Beside.is, part-Beside c.in-Beside.children) (rw c.deref-in-Beside.ensures.value at c.push_acknowledged_beside.ensures)

pub push_acknowledged-returns-in-Error : goal.push_acknowledged-returns-in-Error
push_acknowledged-returns-in-Error t c =
    rw (c.in-InTurn.is, c.in-Error.is, part-InTurn after.Error c.in-InTurn.children) (rw c.deref-in-Error.ensures.value at c.push_acknowledged_on_error.ensures)

pub push_acknowledged-returns-in-Miss : goal.push_acknowledged-returns-in-Miss
push_acknowledged-returns-in-Miss t c =
    rw (c.in-InTurn.is, c.in-Miss.is, part-InTurn after.Miss c.in-InTurn.children) (rw c.deref-in-Miss.ensures.value at c.push_acknowledged_on_miss.ensures)

-- ---- all at once

pub push_acknowledged_of_all-loop-child-init : goal.push_acknowledged_of_all-loop-child-init
push_acknowledged_of_all-loop-child-init t c =
    let shape : c.args.children.now ≡ c.in-Some.first.now ∷ c.in-Some.others.now = search rules in
    let is = sym (begun c.args.children.now c.in-Some.first.now c.in-Some.others.now shape whole.Both) in
    record { legs = c.in_ok-reply.ensures.legs ∙ ap (λ t. shown c.args.legs.now.items ++ acknowledged t) is; reply = c.in_ok-reply.ensures.reply ∙ ap (λ t. if_all Good t) is }

pub push_acknowledged_of_all-loop-child-preserved : goal.push_acknowledged_of_all-loop-child-preserved
push_acknowledged_of_all-loop-child-preserved t c =
    let shape : c.args.children.now ≡ c.in-Some.first.now ∷ c.in-Some.others.now = search rules in
    let t = so_far c.args.children.now c.in-Some.first.now c.in-Some.others.now shape whole.Both c.loop-child.child-index in
    let u = whole_of c.child-item.result in
    let here = c.loop-child.invariant in
    let next = c.in_ok-next.ensures in
    let is = sym (one_more c.args.children.now c.in-Some.first.now c.in-Some.others.now shape whole.Both c.loop-child.child-index c.child-item.result c.loop-child-test.true c.child-item.is) in
    record {
      legs = grown (shown c.args.legs.now.items) (shown c.loop-child.legs.items) (shown c.push_acknowledged-in-loop-child.new.legs.items) (acknowledged t) (acknowledged u) (acknowledged (whole.Both t u)) here.legs next.legs refl ∙ ap (λ t. shown c.args.legs.now.items ++ acknowledged t) is;
      reply = c.worse-reply.ensures ∙ ap₂ worse here.reply next.reply ∙ ap (λ t. if_all Good t) is;
    }

pub push_acknowledged_of_all-returns : goal.push_acknowledged_of_all-returns
push_acknowledged_of_all-returns t c =
    let shape : c.args.children.now ≡ c.in-Some.first.now ∷ c.in-Some.others.now = search rules in
    let is = ended c.args.children.now c.in-Some.first.now c.in-Some.others.now shape whole.Both c.loop-child.child-index c.loop-child-test.false in
    let here = c.loop-child.invariant in
    record { legs = here.legs ∙ ap (λ t. shown c.args.legs.now.items ++ acknowledged t) is; reply = here.reply ∙ ap (λ t. if_all Good t) is }

-- ---- beside

pub push_acknowledged_beside-loop-other-init : goal.push_acknowledged_beside-loop-other-init
push_acknowledged_beside-loop-other-init t c =
    let shape : c.args.children.now ≡ c.in-Some.first.now ∷ c.in-Some.others.now = search rules in
    c.in_ok-reply.ensures.legs ∙ ap (λ t. shown c.args.legs.now.items ++ acknowledged t) (sym (led_begun c.args.children.now c.in-Some.first.now c.in-Some.others.now shape))

pub push_acknowledged_beside-loop-other-preserved : goal.push_acknowledged_beside-loop-other-preserved
push_acknowledged_beside-loop-other-preserved t c =
    let shape : c.args.children.now ≡ c.in-Some.first.now ∷ c.in-Some.others.now = search rules in
    let t = led_so_far c.args.children.now c.in-Some.first.now c.in-Some.others.now shape c.loop-other.other-index in
    let y = part_of c.other-item.result in
    grown (shown c.args.legs.now.items) (shown c.loop-other.legs.items) (shown c.push_first_wave.new.legs.items) (acknowledged t) (counted (alone y) nothing) (acknowledged (beside t y)) c.loop-other.invariant c.in_ok-push_first_wave.ensures.legs (acknowledged_beside t y)
    ∙ ap (λ t. shown c.args.legs.now.items ++ acknowledged t) (sym (led_more c.args.children.now c.in-Some.first.now c.in-Some.others.now shape c.loop-other.other-index c.other-item.result c.loop-other-test.true c.other-item.is))

pub push_acknowledged_beside-returns : goal.push_acknowledged_beside-returns
push_acknowledged_beside-returns t c =
    let shape : c.args.children.now ≡ c.in-Some.first.now ∷ c.in-Some.others.now = search rules in
    record {
      legs = c.loop-other.invariant ∙ ap (λ t. shown c.args.legs.now.items ++ acknowledged t) (led_ended c.args.children.now c.in-Some.first.now c.in-Some.others.now shape c.loop-other.other-index c.loop-other-test.false);
      reply = c.in_ok-reply.ensures.reply ∙ sym (led_first (λ t. if_all Good t) (if_all_beside Good) c.args.children.now c.in-Some.first.now (first_is shape) (first_there shape));
    }

-- ---- after errors

pub push_acknowledged_on_error-loop-child-init : goal.push_acknowledged_on_error-loop-child-init
push_acknowledged_on_error-loop-child-init t c =
    let shape : c.args.children.now ≡ c.in-Some.first.now ∷ c.in-Some.others.now = search rules in
    let is = sym (begun c.args.children.now c.in-Some.first.now c.in-Some.others.now shape (in_turn after.Error)) in
    record { legs = c.in_ok-last.ensures.legs ∙ ap (λ t. shown c.args.legs.now.items ++ acknowledged t) is; reply = c.in_ok-last.ensures.reply ∙ ap (λ t. if_all Good t) is }

pub push_acknowledged_on_error-loop-child-preserved : goal.push_acknowledged_on_error-loop-child-preserved
push_acknowledged_on_error-loop-child-preserved t c =
    let shape : c.args.children.now ≡ c.in-Some.first.now ∷ c.in-Some.others.now = search rules in
    let t = so_far c.args.children.now c.in-Some.first.now c.in-Some.others.now shape (in_turn after.Error) c.loop-child.child-index in
    let u = whole_of c.child-item.result in
    let y = c.loop-child.last in
    let here = c.loop-child.invariant in
    let next = c.in_ok-last-2.ensures in
    let on : goes_on after.Error y ≡ true = sym c.goes_on.ensures ∙ c.if-not-goes_on.false in
    let is = sym (one_more c.args.children.now c.in-Some.first.now c.in-Some.others.now shape (in_turn after.Error) c.loop-child.child-index c.child-item.result c.loop-child-test.true c.child-item.is) in
    record {
      legs = grown (shown c.args.legs.now.items) (shown c.loop-child.legs.items) (shown c.push_acknowledged-in-loop-child.new.legs.items) (acknowledged t) (acknowledged u) (acknowledged ((in_turn after.Error) t u)) here.legs next.legs (acknowledged_on t u y here.reply on) ∙ ap (λ t. shown c.args.legs.now.items ++ acknowledged t) is;
      reply = next.reply ∙ sym (reply_on after.Error t u Good y here.reply on) ∙ ap (λ t. if_all Good t) is;
    }

pub push_acknowledged_on_error-returns-then-not-goes_on : goal.push_acknowledged_on_error-returns-then-not-goes_on
push_acknowledged_on_error-returns-then-not-goes_on t c =
    let shape : c.args.children.now ≡ c.in-Some.first.now ∷ c.in-Some.others.now = search rules in
    let y = c.loop-child.last in
    let here = c.loop-child.invariant in
    let off : goes_on after.Error y ≡ false = sym c.goes_on.ensures ∙ c.if-not-goes_on.true in
    let all = stopped c.args.children.now c.in-Some.first.now c.in-Some.others.now shape (in_turn after.Error) (λ t. (shown c.loop-child.legs.items ≡ shown c.args.legs.now.items ++ acknowledged t) × (y ≡ if_all Good t)) (λ t u h. (ungrown (shown c.args.legs.now.items) (shown c.loop-child.legs.items) (acknowledged t) (acknowledged ((in_turn after.Error) t u)) h.0 (acknowledged_off t u y h.1 off), h.1 ∙ sym (reply_off after.Error t u Good y h.1 off))) c.loop-child.child-index (here.legs, here.reply) in
    record { legs = all.0; reply = all.1 }

pub push_acknowledged_on_error-returns : goal.push_acknowledged_on_error-returns
push_acknowledged_on_error-returns t c =
    let shape : c.args.children.now ≡ c.in-Some.first.now ∷ c.in-Some.others.now = search rules in
    let is = ended c.args.children.now c.in-Some.first.now c.in-Some.others.now shape (in_turn after.Error) c.loop-child.child-index c.loop-child-test.false in
    let here = c.loop-child.invariant in
    record { legs = here.legs ∙ ap (λ t. shown c.args.legs.now.items ++ acknowledged t) is; reply = here.reply ∙ ap (λ t. if_all Good t) is }

-- ---- after misses

pub push_acknowledged_on_miss-returns-then-is_empty : goal.push_acknowledged_on_miss-returns-then-is_empty
push_acknowledged_on_miss-returns-then-is_empty t c =
    let shape : c.args.children.now ≡ c.in-Some.first.now ∷ c.in-Some.others.now = search rules in
    rw (one_child c.args.children.now c.in-Some.first.now c.in-Some.others.now shape after.Miss (search rules)) c.push_acknowledged.ensures

pub push_acknowledged_on_miss-returns-else-is_empty-clause-legs : goal.push_acknowledged_on_miss-returns-else-is_empty-clause-legs
push_acknowledged_on_miss-returns-else-is_empty-clause-legs t c =
    let shape : c.args.children.now ≡ c.in-Some.first.now ∷ c.in-Some.others.now = search rules in
    none_grown (shown c.args.legs.now.items) _ (none_acknowledged c.args.children.now c.in-Some.first.now c.in-Some.others.now shape (search rules))
