use Rattle.std.proofs.Common.{◌≡◌, ◌++◌, ◌∷◌, ◌∙◌, ap, ap₂, Bor, false, List, map, refl, rules, sym, true}
use Rattle.mcv_rules.specs.Arrivals.{goes_on_after}
use Rattle.mcv_rules.specs.Plan as whole
use Rattle.mcv_rules.specs.Plan.{Leg, Plan, both, reply}
use Rattle.mcv_rules.specs.NormalForm.{alone, beside, in_turn, leg_of, part_of, whole_of}
use Rattle.mcv_rules.specs.declared.plan.PlannedLeg.{PlannedLeg}
use Rattle.mcv_rules.proofs.NormalForms.{part-All, part-Beside, part-InTurn}
use Rattle.mcv_symbolic.specs.SetLists.{counted}
use Rattle.mcv_symbolic.specs.Structure.{nothing}
use Rattle.mcv_symbolic.proofs.ChildrenWalk.{begun, counted_beside, counted_off, counted_on, ended, first_is, first_there, grown, led_begun, led_ended, led_first, led_more, led_so_far, one_more, reply_beside, so_far, stopped, ungrown, wave_off, wave_on}
use Rattle.mcv_symbolic.proofs.sets.+wave.Goals as goal

abbrev shown : List (Bor PlannedLeg) → List Leg
shown legs = map (λ l. leg_of l.now) legs

-- ---- one part

pub push_first_wave-returns-in-All : goal.push_first_wave-returns-in-All
push_first_wave-returns-in-All t c =
    rw (c.in-All.is, part-All c.in-All.children) (rw c.deref.ensures.value at c.push_wave_of_all.ensures)

pub push_first_wave-returns-in-Beside : goal.push_first_wave-returns-in-Beside
push_first_wave-returns-in-Beside t c =
    rw (c.in-Beside.is, part-Beside c.in-Beside.children) (rw c.deref-in-Beside.ensures.value at c.push_wave_beside.ensures)

pub push_first_wave-returns-in-InTurn : goal.push_first_wave-returns-in-InTurn
push_first_wave-returns-in-InTurn t c =
    rw (c.in-InTurn.is, part-InTurn c.in-InTurn.after c.in-InTurn.children) (rw c.deref-in-InTurn.ensures.value at c.push_wave_in_turn.ensures)

-- ---- all at once

pub push_wave_of_all-loop-child-init : goal.push_wave_of_all-loop-child-init
push_wave_of_all-loop-child-init t c =
    let shape : c.args.children.now ≡ c.in-Some.first.now ∷ c.in-Some.others.now = search rules in
    let is = sym (begun c.args.children.now c.in-Some.first.now c.in-Some.others.now shape whole.Both) in
    record { legs = c.in_ok-reply.ensures.legs ∙ ap (λ t. shown c.args.legs.now.items ++ counted t nothing) is; reply = c.in_ok-reply.ensures.reply ∙ ap (λ t. reply t nothing) is }

pub push_wave_of_all-loop-child-preserved : goal.push_wave_of_all-loop-child-preserved
push_wave_of_all-loop-child-preserved t c =
    let shape : c.args.children.now ≡ c.in-Some.first.now ∷ c.in-Some.others.now = search rules in
    let t = so_far c.args.children.now c.in-Some.first.now c.in-Some.others.now shape whole.Both c.loop-child.child-index in
    let u = whole_of c.child-item.result in
    let here = c.loop-child.invariant in
    let next = c.in_ok-next.ensures in
    let is = sym (one_more c.args.children.now c.in-Some.first.now c.in-Some.others.now shape whole.Both c.loop-child.child-index c.child-item.result c.loop-child-test.true c.child-item.is) in
    record {
      legs = grown (shown c.args.legs.now.items) (shown c.loop-child.legs.items) (shown c.push_first_wave-in-loop-child.new.legs.items) (counted t nothing) (counted u nothing) (counted (whole.Both t u) nothing) here.legs next.legs refl ∙ ap (λ t. shown c.args.legs.now.items ++ counted t nothing) is;
      reply = c.both-reply.ensures ∙ ap₂ both here.reply next.reply ∙ ap (λ t. reply t nothing) is;
    }

pub push_wave_of_all-returns : goal.push_wave_of_all-returns
push_wave_of_all-returns t c =
    let shape : c.args.children.now ≡ c.in-Some.first.now ∷ c.in-Some.others.now = search rules in
    let is = ended c.args.children.now c.in-Some.first.now c.in-Some.others.now shape whole.Both c.loop-child.child-index c.loop-child-test.false in
    let here = c.loop-child.invariant in
    record { legs = here.legs ∙ ap (λ t. shown c.args.legs.now.items ++ counted t nothing) is; reply = here.reply ∙ ap (λ t. reply t nothing) is }

-- ---- beside

pub push_wave_beside-loop-child-init : goal.push_wave_beside-loop-child-init
push_wave_beside-loop-child-init t c =
    let shape : c.args.children.now ≡ c.in-Some.first.now ∷ c.in-Some.others.now = search rules in
    c.in_ok-reply.ensures.legs ∙ ap (λ t. shown c.args.legs.now.items ++ counted t nothing) (sym (led_begun c.args.children.now c.in-Some.first.now c.in-Some.others.now shape))

pub push_wave_beside-loop-child-preserved : goal.push_wave_beside-loop-child-preserved
push_wave_beside-loop-child-preserved t c =
    let shape : c.args.children.now ≡ c.in-Some.first.now ∷ c.in-Some.others.now = search rules in
    let t = led_so_far c.args.children.now c.in-Some.first.now c.in-Some.others.now shape c.loop-child.child-index in
    let y = part_of c.child-item.result in
    grown (shown c.args.legs.now.items) (shown c.loop-child.legs.items) (shown c.push_first_wave-in-loop-child.new.legs.items) (counted t nothing) (counted (alone y) nothing) (counted (beside t y) nothing) c.loop-child.invariant c.in_ok-push_first_wave.ensures.legs (counted_beside t y)
    ∙ ap (λ t. shown c.args.legs.now.items ++ counted t nothing) (sym (led_more c.args.children.now c.in-Some.first.now c.in-Some.others.now shape c.loop-child.child-index c.child-item.result c.loop-child-test.true c.child-item.is))

pub push_wave_beside-returns : goal.push_wave_beside-returns
push_wave_beside-returns t c =
    let shape : c.args.children.now ≡ c.in-Some.first.now ∷ c.in-Some.others.now = search rules in
    record {
      legs = c.loop-child.invariant ∙ ap (λ t. shown c.args.legs.now.items ++ counted t nothing) (led_ended c.args.children.now c.in-Some.first.now c.in-Some.others.now shape c.loop-child.child-index c.loop-child-test.false);
      reply = c.in_ok-reply.ensures.reply ∙ sym (led_first (λ t. reply t nothing) (reply_beside nothing) c.args.children.now c.in-Some.first.now (first_is shape) (first_there shape));
    }

-- ---- one after another

pub push_wave_in_turn-loop-child-init : goal.push_wave_in_turn-loop-child-init
push_wave_in_turn-loop-child-init t c =
    let shape : c.args.children.now ≡ c.in-Some.first.now ∷ c.in-Some.others.now = search rules in
    let is = sym (begun c.args.children.now c.in-Some.first.now c.in-Some.others.now shape (in_turn c.args.after)) in
    record { legs = c.in_ok-reply.ensures.legs ∙ ap (λ t. shown c.args.legs.now.items ++ counted t nothing) is; reply = c.in_ok-reply.ensures.reply ∙ ap (λ t. reply t nothing) is }

pub push_wave_in_turn-loop-child-preserved : goal.push_wave_in_turn-loop-child-preserved
push_wave_in_turn-loop-child-preserved t c =
    let shape : c.args.children.now ≡ c.in-Some.first.now ∷ c.in-Some.others.now = search rules in
    let t = so_far c.args.children.now c.in-Some.first.now c.in-Some.others.now shape (in_turn c.args.after) c.loop-child.child-index in
    let u = whole_of c.child-item.result in
    let y = c.loop-child.reply in
    let here = c.loop-child.invariant in
    let next = c.in_ok-reply-2.ensures in
    let on : goes_on_after c.args.after y ≡ true = sym c.goes_on_after.ensures ∙ c.if-not-goes_on_after.false in
    let is = sym (one_more c.args.children.now c.in-Some.first.now c.in-Some.others.now shape (in_turn c.args.after) c.loop-child.child-index c.child-item.result c.loop-child-test.true c.child-item.is) in
    record {
      legs = grown (shown c.args.legs.now.items) (shown c.loop-child.legs.items) (shown c.push_first_wave-in-loop-child.new.legs.items) (counted t nothing) (counted u nothing) (counted ((in_turn c.args.after) t u) nothing) here.legs next.legs (counted_on t u c.args.after y here.reply on) ∙ ap (λ t. shown c.args.legs.now.items ++ counted t nothing) is;
      reply = next.reply ∙ sym (wave_on t u c.args.after y here.reply on) ∙ ap (λ t. reply t nothing) is;
    }

pub push_wave_in_turn-returns-then-not-goes_on_after : goal.push_wave_in_turn-returns-then-not-goes_on_after
push_wave_in_turn-returns-then-not-goes_on_after t c =
    let shape : c.args.children.now ≡ c.in-Some.first.now ∷ c.in-Some.others.now = search rules in
    let y = c.loop-child.reply in
    let here = c.loop-child.invariant in
    let off : goes_on_after c.args.after y ≡ false = sym c.goes_on_after.ensures ∙ c.if-not-goes_on_after.true in
    let all = stopped c.args.children.now c.in-Some.first.now c.in-Some.others.now shape (in_turn c.args.after) (λ t. (shown c.loop-child.legs.items ≡ shown c.args.legs.now.items ++ counted t nothing) × (y ≡ reply t nothing)) (λ t u h. (ungrown (shown c.args.legs.now.items) (shown c.loop-child.legs.items) (counted t nothing) (counted ((in_turn c.args.after) t u) nothing) h.0 (counted_off t u c.args.after y h.1 off), h.1 ∙ sym (wave_off t u c.args.after y h.1 off))) c.loop-child.child-index (here.legs, here.reply) in
    record { legs = all.0; reply = all.1 }

pub push_wave_in_turn-returns : goal.push_wave_in_turn-returns
push_wave_in_turn-returns t c =
    let shape : c.args.children.now ≡ c.in-Some.first.now ∷ c.in-Some.others.now = search rules in
    let is = ended c.args.children.now c.in-Some.first.now c.in-Some.others.now shape (in_turn c.args.after) c.loop-child.child-index c.loop-child-test.false in
    let here = c.loop-child.invariant in
    record { legs = here.legs ∙ ap (λ t. shown c.args.legs.now.items ++ counted t nothing) is; reply = here.reply ∙ ap (λ t. reply t nothing) is }
