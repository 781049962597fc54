use Rattle.std.proofs.Common.{rules, ◌≡◌, ◌∷◌, ◌∙◌, sym, true, arith}
use Rattle.mcv_plan.specs.ReachedAnswers.{goes_on_after}
use Rattle.mcv_plan.specs.State.{entries}
use Rattle.mcv_plan.specs.View.{seen, view}
use Rattle.mcv_plan.proofs.Views.{view-InTurn}
use Rattle.mcv_plan.proofs.PartsAreLocal.{turn_reflects}
use Rattle.mcv_plan.specs.declared.course.Course.{the_lemmas}
use Rattle.mcv_plan.proofs.Waves.{all_on, answer_on, count_on, room_behind, room_left, search_answers, searched_on, reflects_next, steps_on}
use Rattle.mcv_plan.specs.ReachedAnswers.{nothing}
use Rattle.mcv_plan.proofs.opening.+opening.Goals as goal

-- one child more has been opened
pub go_on-loop-child-preserved : goal.go_on-loop-child-preserved
go_on-loop-child-preserved t c =
    let here = c.loop-child.invariant in
    let others = c.args.others.now in
    let i = c.loop-child.child-index in
    let p = c.child-item.result in
    let next = c.open-answered.ensures in
    let on : goes_on_after c.args.after c.loop-child.answered ≡ true = sym c.goes_on_after.ensures ∙ c.if-not-goes_on_after.false in
    record {
      fresh = λ s. searched_on c.args.after others i p c.loop-child.fresh.items c.open-answered.new.fresh.items _ c.loop-child.answered c.open-answered.result c.loop-child-test.true c.child-item.is on
          (next.fresh (reflects_next nothing others i p c.loop-child-test.true c.child-item.is s)) (next.reply (reflects_next nothing others i p c.loop-child-test.true c.child-item.is s)) (here.fresh s);
      reply = λ s. answer_on c.args.after others i p c.loop-child.answered c.open-answered.result _ c.loop-child-test.true c.child-item.is on
          (next.reply (reflects_next nothing others i p c.loop-child-test.true c.child-item.is s)) (here.reply s);
      steps = λ s. steps_on c.args.after others i p c.loop-child.answered c.open-answered.result c.loop-child.steps _ c.loop-child-test.true c.child-item.is on
          (next.reply (reflects_next nothing others i p c.loop-child-test.true c.child-item.is s)) (here.steps s);
      passed = omega (arith, here.passed);
      count = count_on others i p _ _ _ c.loop-child-test.true c.child-item.is next.count here.count;
      capacity = next.capacity ∙ here.capacity;
    }

pub open_all-loop-child-preserved : goal.open_all-loop-child-preserved
open_all-loop-child-preserved t c =
    let here = c.loop-child.invariant in
    let others = c.in_ok-first.others.now in
    let i = c.loop-child.child-index in
    let p = c.child-item.result in
    let next = c.open.ensures in
    record {
      fresh = λ s. all_on others i p c.loop-child.fresh.items c.open.new.fresh.items _ c.loop-child-test.true c.child-item.is (next.fresh (reflects_next nothing others i p c.loop-child-test.true c.child-item.is s)) (here.fresh s);
      count = count_on others i p _ _ _ c.loop-child-test.true c.child-item.is next.count here.count;
      capacity = next.capacity ∙ here.capacity;
    }

pub open_in_turn-go_on-answered-requires : goal.open_in_turn-go_on-answered-requires
open_in_turn-go_on-answered-requires t c =
    let shape : c.args.children.now ≡ c.in_ok-first.first.now ∷ c.in_ok-first.others.now = search rules in
    (search (rules, the_lemmas), room_behind c.in_ok-first.first.now c.in_ok-first.others.now c.args.children.now _ _ _ shape c.open-answered.ensures.count (rw c.open-answered.ensures.capacity c.requires))

pub open_in_turn-returns-clause-reply : goal.open_in_turn-returns-clause-reply
open_in_turn-returns-clause-reply t c = λ s.
    let shape : c.args.children.now ≡ c.in_ok-first.first.now ∷ c.in_ok-first.others.now = search rules in
    search_answers c.args.after c.in_ok-first.first.now c.in_ok-first.others.now c.args.children.now c.open-answered.result _ shape
    (c.open-answered.ensures.reply (rw shape at s).0) (c.go_on-answered.ensures.reply (rw shape at s).1)

pub open_on_hit-open-requires : goal.open_on_hit-open-requires
open_on_hit-open-requires t c = (search (rules, the_lemmas), room_left _ _ _ (entries (view c.args.first.now)) _ c.open-answered.ensures.count (rw c.open-answered.ensures.capacity c.requires))

pub open-returns-in-InTurn-clause-fresh : goal.open-returns-in-InTurn-clause-fresh
open-returns-in-InTurn-clause-fresh t c =
    let m = c.in-InTurn in
    rw (m.is, view-InTurn m.after m.ends m.children m.current)
    (λ s. (rw c.deref-in-InTurn.ensures.value at c.open_in_turn.ensures.fresh) (turn_reflects m.after (seen m.children.items) s.1))

pub open-returns-in-InTurn-clause-reply : goal.open-returns-in-InTurn-clause-reply
open-returns-in-InTurn-clause-reply t c =
    let m = c.in-InTurn in
    rw (m.is, view-InTurn m.after m.ends m.children m.current)
    (λ s. (rw c.deref-in-InTurn.ensures.value at c.open_in_turn.ensures.reply) (turn_reflects m.after (seen m.children.items) s.1))
