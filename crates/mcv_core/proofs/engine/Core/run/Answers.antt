use Rattle.std.proofs.Common.{◌≡◌, ◌∙◌, ◌≤◌, [], ◌∷◌, ◌++◌, length, refl, sym, ap, subst, rules, arith}
use Rattle.std.proofs.lemmas.List.{length-append}
use Rattle.std.specs.Prelude.{vec_capacity}
use Rattle.mcv_core.specs.Steps.{AreAnswered, IsAnswered, none}
use Rattle.mcv_core.specs.View.{core_view}
use Rattle.mcv_core.proofs.DeletesStayKept
use Rattle.mcv_core.proofs.engine.Core.run.Goals as goal

pub loop-event-init : goal.loop-event-init
loop-event-init g c =
    let v = core_view c.args.self.now.dispatcher in
    let h = g.H.KeyHash.chosen c.args.self.now.hash in
    let items : c.in_ok-answers.answers.items ≡ [] = search rules in
    let rest : c.into_iter-event-iterator.result.rest.items ≡ c.args.events.items = search rules in
    let count : c.len.result ≡ length c.args.events.items = search rules in
    let room : c.len.result ≤ vec_capacity c.in_ok-answers.answers = c.in_ok-answers.ensures.capacity in
    let none_yet : length c.in_ok-answers.answers.items ≡ 0 = ap length items in
    let left : length c.into_iter-event-iterator.result.rest.items ≡ length c.args.events.items = ap length rest in
    record {
      can = tt;
      finite = tt;
      room = omega (arith, none_yet, left, count, room);
      answered = subst (λ xs. AreAnswered h v [] xs v) (sym items) (record { moves = []; steps = none });
      hash = refl;
    }

pub loop-event-preserved : goal.loop-event-preserved
loop-event-preserved g c =
    let v = core_view c.args.self.now.dispatcher in
    let h = g.H.KeyHash.chosen c.args.self.now.hash in
    let before = c.loop-event.invariant in
    let same : c.loop-event.self.hash ≡ c.args.self.now.hash = before.hash in
    let u = core_view c.loop-event.self.dispatcher in
    let w = core_view c.answer.new.self.dispatcher in
    let step = subst (λ k. IsAnswered (g.H.KeyHash.chosen k) u c.in-Some.event c.answer.result w) same c.answer.ensures.answered in
    let left = ap length c.in-Some.ensures.steps.0 in
    let items = ap length c.push_reserved.ensures.items in
    let capacity = c.push_reserved.ensures.capacity in
    let more = length-append c.loop-event.answers.items (c.answer.result ∷ []) in
    let room = before.room in
    record {
      can = tt;
      finite = tt;
      room = omega (arith, room, left, items, more, capacity);
      answered = subst (λ xs. AreAnswered h v (c.loop-event.yielded ++ c.in-Some.event ∷ []) xs w) (sym c.push_reserved.ensures.items)
          (DeletesStayKept.answer_more h v u w c.loop-event.yielded c.loop-event.answers.items c.in-Some.event c.answer.result before.answered step);
      hash = c.answer.ensures.hash ∙ same;
    }
