use Rattle.std.proofs.Common.{◌≡◌, ◌∷◌, ◌∙◌, ap, ap₂, false, rules, sym, true}
use Rattle.mcv_base.specs.Reply.{worse}
use Rattle.mcv_rules.specs.Arrivals.{goes_on}
use Rattle.mcv_rules.specs.Plan as whole
use Rattle.mcv_rules.specs.NormalForm.{in_turn, whole_of}
use Rattle.mcv_rules.proofs.NormalForms.{part-All, part-Beside, part-InTurn, part-OnHit}
use Rattle.mcv_symbolic.specs.Structure.{if_all}
use Rattle.mcv_symbolic.proofs.ChildrenWalk.{begun, ended, if_all_beside, led_first, led_none, one_more, reply_off, reply_on, so_far, stopped}
use Rattle.mcv_symbolic.proofs.sets.+replies.Goals as goal

-- ---- one part

pub reply_if_all-returns-in-All : goal.reply_if_all-returns-in-All
reply_if_all-returns-in-All t c = rw (c.in-All.is, part-All c.in-All.children) (rw c.deref.ensures.value at c.worst_if_all.ensures)

pub reply_if_all-returns-in-Beside : goal.reply_if_all-returns-in-Beside
reply_if_all-returns-in-Beside t c = rw (c.in-Beside.is, part-Beside c.in-Beside.children) (rw c.deref-in-Beside.ensures.value at c.first_if_all.ensures)

pub reply_if_all-returns-in-InTurn : goal.reply_if_all-returns-in-InTurn
reply_if_all-returns-in-InTurn t c =
    rw (c.in-InTurn.is, part-InTurn c.in-InTurn.after c.in-InTurn.children) (rw c.deref-in-InTurn.ensures.value at c.last_if_all.ensures)

pub reply_if_all-returns-in-OnHit : goal.reply_if_all-returns-in-OnHit
reply_if_all-returns-in-OnHit t c = rw (c.in-OnHit.is, part-OnHit c.in-OnHit.first c.in-OnHit.field-1) (rw c.deref-in-OnHit.ensures at c.reply_if_all.ensures)

-- ---- all at once

pub worst_if_all-loop-child-init : goal.worst_if_all-loop-child-init
worst_if_all-loop-child-init t c =
    let shape : c.args.children.now ≡ c.in-Some.first.now ∷ c.in-Some.others.now = search rules in
    c.reply_if_all-reply.ensures ∙ ap (if_all c.args.answer) (sym (begun c.args.children.now c.in-Some.first.now c.in-Some.others.now shape whole.Both))

pub worst_if_all-loop-child-preserved : goal.worst_if_all-loop-child-preserved
worst_if_all-loop-child-preserved t c =
    let shape : c.args.children.now ≡ c.in-Some.first.now ∷ c.in-Some.others.now = search rules in
    c.worse-reply.ensures ∙ ap₂ worse c.loop-child.invariant c.reply_if_all.ensures
    ∙ ap (if_all c.args.answer)
    (sym (one_more c.args.children.now c.in-Some.first.now c.in-Some.others.now shape whole.Both c.loop-child.child-index c.child-item.result c.loop-child-test.true c.child-item.is))

pub worst_if_all-returns : goal.worst_if_all-returns
worst_if_all-returns t c =
    let shape : c.args.children.now ≡ c.in-Some.first.now ∷ c.in-Some.others.now = search rules in
    c.loop-child.invariant
    ∙ ap (if_all c.args.answer) (ended c.args.children.now c.in-Some.first.now c.in-Some.others.now shape whole.Both c.loop-child.child-index c.loop-child-test.false)

-- ---- beside

pub first_if_all-returns-in-Some : goal.first_if_all-returns-in-Some
first_if_all-returns-in-Some t c =
    c.reply_if_all.ensures ∙ sym (led_first (if_all c.args.answer) (if_all_beside c.args.answer) c.args.children.now c.in-Some.first.now (search rules) (search rules))

pub first_if_all-returns-in-None : goal.first_if_all-returns-in-None
first_if_all-returns-in-None t c = ap (if_all c.args.answer) (sym (led_none c.args.children.now (search rules)))

-- ---- one after another

pub last_if_all-loop-child-init : goal.last_if_all-loop-child-init
last_if_all-loop-child-init t c =
    let shape : c.args.children.now ≡ c.in-Some.first.now ∷ c.in-Some.others.now = search rules in
    c.reply_if_all-reply.ensures ∙ ap (if_all c.args.answer) (sym (begun c.args.children.now c.in-Some.first.now c.in-Some.others.now shape (in_turn c.args.after)))

pub last_if_all-loop-child-preserved : goal.last_if_all-loop-child-preserved
last_if_all-loop-child-preserved t c =
    let w = c.args.after in
    let x = c.args.answer in
    let shape : c.args.children.now ≡ c.in-Some.first.now ∷ c.in-Some.others.now = search rules in
    let here = so_far c.args.children.now c.in-Some.first.now c.in-Some.others.now shape (in_turn w) c.loop-child.child-index in
    let on : goes_on w c.loop-child.reply ≡ true = sym c.goes_on.ensures ∙ c.if-not-goes_on.false in
    c.reply_if_all-reply-in-loop-child.ensures
    ∙ sym (reply_on w here (whole_of c.child-item.result) x c.loop-child.reply c.loop-child.invariant on)
    ∙ ap (if_all x)
    (sym (one_more c.args.children.now c.in-Some.first.now c.in-Some.others.now shape (in_turn w) c.loop-child.child-index c.child-item.result c.loop-child-test.true c.child-item.is))

pub last_if_all-returns-then-not-goes_on : goal.last_if_all-returns-then-not-goes_on
last_if_all-returns-then-not-goes_on t c =
    let w = c.args.after in
    let x = c.args.answer in
    let y = c.loop-child.reply in
    let shape : c.args.children.now ≡ c.in-Some.first.now ∷ c.in-Some.others.now = search rules in
    let off : goes_on w y ≡ false = sym c.goes_on.ensures ∙ c.if-not-goes_on.true in
    stopped c.args.children.now c.in-Some.first.now c.in-Some.others.now shape (in_turn w) (λ t. y ≡ if_all x t) (λ t u is. is ∙ sym (reply_off w t u x y is off)) c.loop-child.child-index c.loop-child.invariant

pub last_if_all-returns : goal.last_if_all-returns
last_if_all-returns t c =
    let shape : c.args.children.now ≡ c.in-Some.first.now ∷ c.in-Some.others.now = search rules in
    c.loop-child.invariant
    ∙ ap (if_all c.args.answer) (ended c.args.children.now c.in-Some.first.now c.in-Some.others.now shape (in_turn c.args.after) c.loop-child.child-index c.loop-child-test.false)
