use Rattle.std.proofs.Common.{◌≡◌, ◌++◌, ◌∷◌, ◌∙◌, ap, ap₂, arith, Bor, false, length, List, map, refl, rules, sym, true}
use Rattle.std.proofs.lemmas.List.{length-map, take-map}
use Rattle.mcv_base.specs.Reply.{worse}
use Rattle.mcv_base.specs.declared.reply.Outcome.TheVariants.{Error}
use Rattle.mcv_rules.specs.Arrivals.{goes_on}
use Rattle.mcv_rules.specs.Plan as whole
use Rattle.mcv_rules.specs.Plan.{Leg, Plan}
use Rattle.mcv_rules.specs.NormalForm.{in_turn, leg_of, whole_of}
use Rattle.mcv_rules.specs.declared.arrival.After.TheVariants as after
use Rattle.mcv_rules.specs.declared.plan.PlannedLeg.{PlannedLeg}
use Rattle.mcv_rules.proofs.NormalForms.{part-All, part-Beside, part-InTurn, part-OnHit}
use Rattle.mcv_symbolic.specs.SetLists.{hits}
use Rattle.mcv_symbolic.specs.Structure.{after_miss, if_all}
use Rattle.mcv_symbolic.proofs.ChildrenWalk.{begun, ended, grown, hits_beside, hits_off, hits_on, if_all_beside, kept_of_both, led_first, led_none, none_grown, one_more, reply_off, reply_on, so_far, stopped, ungrown}
use Rattle.mcv_symbolic.proofs.sets.+hitting.Goals as goal

abbrev shown : List (Bor PlannedLeg) → List Leg
shown legs = map (λ l. leg_of l.now) legs

-- ---- one part

pub push_hits-returns-in-All : goal.push_hits-returns-in-All
push_hits-returns-in-All t c =
    rw (c.in-All.is, part-All c.in-All.children) (rw c.deref.ensures.value at c.push_hits_of_all.ensures)

pub push_hits-returns-in-Beside : goal.push_hits-returns-in-Beside
push_hits-returns-in-Beside t c =
    rw (c.in-Beside.is, part-Beside c.in-Beside.children) (rw c.deref-in-Beside.ensures.value at c.push_hits_of_first.ensures)

pub push_hits-returns-in-Error : goal.push_hits-returns-in-Error
push_hits-returns-in-Error t c =
    rw (c.in-InTurn.is, c.in-Error.is, part-InTurn after.Error c.in-InTurn.children) (rw c.deref-in-Error.ensures.value at c.push_hits_on_error.ensures)

pub push_hits-returns-in-Miss : goal.push_hits-returns-in-Miss
push_hits-returns-in-Miss t c =
    rw (c.in-InTurn.is, c.in-Miss.is, part-InTurn after.Miss c.in-InTurn.children) (rw c.deref-in-Miss.ensures.value at c.push_hits_on_miss.ensures)

pub push_hits-returns-in-OnHit : goal.push_hits-returns-in-OnHit
push_hits-returns-in-OnHit t c =
    rw (c.in-OnHit.is, part-OnHit c.in-OnHit.first c.in-OnHit.field-1) (rw c.deref-in-OnHit.ensures at c.push_hits.ensures)

-- ---- all at once

pub push_hits_of_all-loop-child-init : goal.push_hits_of_all-loop-child-init
push_hits_of_all-loop-child-init t c =
    let shape : c.args.children.now ≡ c.in-Some.first.now ∷ c.in-Some.others.now = search rules in
    let is = sym (begun c.args.children.now c.in-Some.first.now c.in-Some.others.now shape whole.Both) in
    record {
      legs = c.in_ok-reply.ensures.legs ∙ ap (λ t. shown c.args.legs.now.items ++ hits t) is;
      reply = c.in_ok-reply.ensures.reply ∙ ap (if_all Error) is;
      start = omega (arith, c.len-start.ensures, c.args.legs.now.ok.0);
    }

pub push_hits_of_all-loop-child-preserved : goal.push_hits_of_all-loop-child-preserved
push_hits_of_all-loop-child-preserved t c =
    let shape : c.args.children.now ≡ c.in-Some.first.now ∷ c.in-Some.others.now = search rules in
    let t = so_far c.args.children.now c.in-Some.first.now c.in-Some.others.now shape whole.Both c.loop-child.child-index in
    let here = c.loop-child.invariant in
    let next = c.in_ok-next.ensures in
    let is = sym (one_more c.args.children.now c.in-Some.first.now c.in-Some.others.now shape whole.Both c.loop-child.child-index c.child-item.result c.loop-child-test.true c.child-item.is) in
    record {
      legs = next.legs (shown c.args.legs.now.items) (hits t) (here.start ∙ sym (length-map c.args.legs.now.items (λ (l : Bor PlannedLeg). leg_of l.now))) here.legs ∙ ap (λ t. shown c.args.legs.now.items ++ hits t) is;
      reply = c.worse-reply.ensures ∙ ap₂ worse here.reply next.reply ∙ ap (if_all Error) is;
      start = here.start;
    }

pub push_hits_of_all-returns : goal.push_hits_of_all-returns
push_hits_of_all-returns t c =
    let shape : c.args.children.now ≡ c.in-Some.first.now ∷ c.in-Some.others.now = search rules in
    let is = ended c.args.children.now c.in-Some.first.now c.in-Some.others.now shape whole.Both c.loop-child.child-index c.loop-child-test.false in
    let here = c.loop-child.invariant in
    record { legs = here.legs ∙ ap (λ t. shown c.args.legs.now.items ++ hits t) is; reply = here.reply ∙ ap (if_all Error) is }

pub push_next_hits-returns-clause-legs : goal.push_next_hits-returns-clause-legs
push_next_hits-returns-clause-legs t c = λ before ones size first.
    let show = λ (l : Bor PlannedLeg). leg_of l.now in
    let old = c.args.legs.now.items in
    let now = c.push_hits.new.legs.items in
    let middle : c.len-middle.result ≡ length (shown old) = omega (arith, c.len-middle.ensures, c.args.legs.now.ok.0, length-map old show) in
    let end : c.len.result ≡ length (shown now) = omega (arith, c.len.ensures, c.push_hits.new.legs.ok.0, length-map now show) in
    ap shown c.truncate.ensures.items
    ∙ sym (take-map show c.end_of_both-end.result now)
    ∙ kept_of_both before ones (hits (whole_of c.args.plan.now)) (shown old) (shown now) c.end_of_both-end.result first c.in_ok-reply.ensures.legs
    (λ e. c.end_of_both-end.ensures.first (middle ∙ e ∙ sym size) ∙ size)
    (λ e. c.end_of_both-end.ensures.second (end ∙ e ∙ sym middle) ∙ size)
    (λ below beyond. c.end_of_both-end.ensures.both (omega (arith, below, size, middle)) (omega (arith, beyond, middle, end)) ∙ end)

-- ---- beside

pub push_hits_of_first-returns-in-Some : goal.push_hits_of_first-returns-in-Some
push_hits_of_first-returns-in-Some t c =
    let legs = led_first hits hits_beside c.args.children.now c.in-Some.first.now (search rules) (search rules) in
    let reply = led_first (if_all Error) (if_all_beside Error) c.args.children.now c.in-Some.first.now (search rules) (search rules) in
    rw (legs, reply) c.push_hits.ensures

pub push_hits_of_first-returns-in-None : goal.push_hits_of_first-returns-in-None
push_hits_of_first-returns-in-None t c =
    let none = led_none c.args.children.now (search rules) in
    record { legs = none_grown (shown c.args.legs.now.items) _ (ap hits none); reply = ap (if_all Error) (sym none) }

-- ---- after errors

pub push_hits_on_error-loop-child-init : goal.push_hits_on_error-loop-child-init
push_hits_on_error-loop-child-init t c =
    let shape : c.args.children.now ≡ c.in-Some.first.now ∷ c.in-Some.others.now = search rules in
    let is = sym (begun c.args.children.now c.in-Some.first.now c.in-Some.others.now shape (in_turn after.Error)) in
    record { legs = c.in_ok-reply.ensures.legs ∙ ap (λ t. shown c.args.legs.now.items ++ hits t) is; reply = c.in_ok-reply.ensures.reply ∙ ap (λ t. if_all Error t) is }

pub push_hits_on_error-loop-child-preserved : goal.push_hits_on_error-loop-child-preserved
push_hits_on_error-loop-child-preserved t c =
    let shape : c.args.children.now ≡ c.in-Some.first.now ∷ c.in-Some.others.now = search rules in
    let t = so_far c.args.children.now c.in-Some.first.now c.in-Some.others.now shape (in_turn after.Error) c.loop-child.child-index in
    let u = whole_of c.child-item.result in
    let y = c.loop-child.reply in
    let here = c.loop-child.invariant in
    let next = c.in_ok-reply-2.ensures in
    let on : goes_on after.Error y ≡ true = sym c.goes_on.ensures ∙ c.if-not-goes_on.false in
    let is = sym (one_more c.args.children.now c.in-Some.first.now c.in-Some.others.now shape (in_turn after.Error) c.loop-child.child-index c.child-item.result c.loop-child-test.true c.child-item.is) in
    record {
      legs = grown (shown c.args.legs.now.items) (shown c.loop-child.legs.items) (shown c.push_hits-in-loop-child.new.legs.items) (hits t) (hits u) (hits ((in_turn after.Error) t u)) here.legs next.legs (hits_on t u y here.reply on) ∙ ap (λ t. shown c.args.legs.now.items ++ hits t) is;
      reply = next.reply ∙ sym (reply_on after.Error t u Error y here.reply on) ∙ ap (λ t. if_all Error t) is;
    }

pub push_hits_on_error-returns-then-not-goes_on : goal.push_hits_on_error-returns-then-not-goes_on
push_hits_on_error-returns-then-not-goes_on t c =
    let shape : c.args.children.now ≡ c.in-Some.first.now ∷ c.in-Some.others.now = search rules in
    let y = c.loop-child.reply in
    let here = c.loop-child.invariant in
    let off : goes_on after.Error y ≡ false = sym c.goes_on.ensures ∙ c.if-not-goes_on.true in
    let all = stopped c.args.children.now c.in-Some.first.now c.in-Some.others.now shape (in_turn after.Error) (λ t. (shown c.loop-child.legs.items ≡ shown c.args.legs.now.items ++ hits t) × (y ≡ if_all Error t)) (λ t u h. (ungrown (shown c.args.legs.now.items) (shown c.loop-child.legs.items) (hits t) (hits ((in_turn after.Error) t u)) h.0 (hits_off t u y h.1 off), h.1 ∙ sym (reply_off after.Error t u Error y h.1 off))) c.loop-child.child-index (here.legs, here.reply) in
    record { legs = all.0; reply = all.1 }

pub push_hits_on_error-returns : goal.push_hits_on_error-returns
push_hits_on_error-returns t c =
    let shape : c.args.children.now ≡ c.in-Some.first.now ∷ c.in-Some.others.now = search rules in
    let is = ended c.args.children.now c.in-Some.first.now c.in-Some.others.now shape (in_turn after.Error) c.loop-child.child-index c.loop-child-test.false in
    let here = c.loop-child.invariant in
    record { legs = here.legs ∙ ap (λ t. shown c.args.legs.now.items ++ hits t) is; reply = here.reply ∙ ap (λ t. if_all Error t) is }

-- ---- after misses

pub push_hits_on_miss-loop-child-init : goal.push_hits_on_miss-loop-child-init
push_hits_on_miss-loop-child-init t c =
    let shape : c.args.children.now ≡ c.in-Some.first.now ∷ c.in-Some.others.now = search rules in
    let is = sym (begun c.args.children.now c.in-Some.first.now c.in-Some.others.now shape (in_turn after.Miss)) in
    record { legs = c.in_ok-reply.ensures.legs ∙ ap (λ t. shown c.args.legs.now.items ++ hits t) is; reply = c.in_ok-reply.ensures.reply ∙ ap (λ t. if_all Error t) is }

pub push_hits_on_miss-loop-child-preserved : goal.push_hits_on_miss-loop-child-preserved
push_hits_on_miss-loop-child-preserved t c =
    let shape : c.args.children.now ≡ c.in-Some.first.now ∷ c.in-Some.others.now = search rules in
    let t = so_far c.args.children.now c.in-Some.first.now c.in-Some.others.now shape (in_turn after.Miss) c.loop-child.child-index in
    let u = whole_of c.child-item.result in
    let here = c.loop-child.invariant in
    let next = c.in_ok-next.ensures in
    let is = sym (one_more c.args.children.now c.in-Some.first.now c.in-Some.others.now shape (in_turn after.Miss) c.loop-child.child-index c.child-item.result c.loop-child-test.true c.child-item.is) in
    record {
      legs = grown (shown c.args.legs.now.items) (shown c.loop-child.legs.items) (shown c.push_hits-in-loop-child.new.legs.items) (hits t) (hits u) (hits ((in_turn after.Miss) t u)) here.legs next.legs refl ∙ ap (λ t. shown c.args.legs.now.items ++ hits t) is;
      reply = c.after_miss-reply.ensures ∙ ap₂ after_miss here.reply next.reply ∙ ap (λ t. if_all Error t) is;
    }

pub push_hits_on_miss-returns : goal.push_hits_on_miss-returns
push_hits_on_miss-returns t c =
    let shape : c.args.children.now ≡ c.in-Some.first.now ∷ c.in-Some.others.now = search rules in
    let is = ended c.args.children.now c.in-Some.first.now c.in-Some.others.now shape (in_turn after.Miss) c.loop-child.child-index c.loop-child-test.false in
    let here = c.loop-child.invariant in
    record { legs = here.legs ∙ ap (λ t. shown c.args.legs.now.items ++ hits t) is; reply = here.reply ∙ ap (λ t. if_all Error t) is }
