use Rattle.slab.specs.Slab.{Slab}
use Rattle.std.proofs.Common.{◌≡◌, ◌∙◌, ℕ, ap, refl, subst, sym}
use Rattle.std.specs.Arc.{arc_value}
use Rattle.std.specs.Prelude.{option_map}
use Rattle.mcv_text.specs.Request.{request_value}
use Rattle.mcv_turn.proofs.OpenRequests.{in_any_case}
use Rattle.mcv_turn.specs.declared.answer.Answer.{Answer}
use Rattle.mcv_turn.specs.declared.answer.Asker.TheVariants.{Session}
use Rattle.mcv_desks.specs.Asked.{desks_view, mixed_at, questions_at}
use Rattle.mcv_desks.specs.Mixed.{MixedView}
use Rattle.mcv_desks.specs.Open.{AreInPlace, AreSameRequests, DesksView, IsOneMore, IsTakenAway}
use Rattle.mcv_desks.proofs.AskedAtHubs.{one_more, some_left}
use Rattle.mcv_desks.proofs.MixedRequests.{all_left, is_there, one_came, slots_same}
use Rattle.mcv_desks.proofs.OpenDesks.{all_same, in_place_on, in_place_open, none_there, one_there, same_open, several_come, several_gone}
use Rattle.mcv_desks.proofs.desks.LoopDesks.ask_mixed.Goals as goal

-- there is no memory for it
pub invariant_of-self : goal.invariant_of-self
invariant_of-self g c =
    let d = c.self.inside in
    let same = slots_same d.mixed c.insert.new.self (ap (λ (s : Slab MixedView). s.slots) c.in_err-place.ensures.err) in
    some_left d.choice.now d.next (mixed_at d.mixed) (mixed_at c.insert.new.self) (all_left d.mixed c.insert.new.self same) (questions_at d.desks) c.self.invariant

pub invariant_of-self-2 : goal.invariant_of-self-2
invariant_of-self-2 g c =
    let d = c.self.inside in
    let mixed = c.in_ok-mixed.mixed in
    let number = c.in_ok-place.place in
    let is = c.in_ok-mixed.ensures in
    let updates = c.in_ok-place.ensures.updates in
    one_more d.choice.now d.next c.in-Some.next (mixed_at d.mixed) (mixed_at c.insert.new.self) mixed.request number c.in-Some.ensures.1 (ap (λ (m : MixedView). m.request.serial) is)
    (ap (λ (m : MixedView). m.request.hubs) is ∙ c.hubs-hubs.ensures.hubs) (is_there c.insert.new.self number mixed updates.changed) (one_came d.mixed c.insert.new.self number mixed updates) (questions_at d.desks) c.self.invariant

pub returns-in_default-clause-err : goal.returns-in_default-clause-err
returns-in_default-clause-err g c = same_open c.args.self.now

pub returns-in_err-mixed-clause-err : goal.returns-in_err-mixed-clause-err
returns-in_err-mixed-clause-err g c = in_any_case c.from_residual.result (same_open c.args.self.now)

pub returns-in_err-place-clause-err : goal.returns-in_err-place-clause-err
returns-in_err-place-clause-err g c =
    let d = c.self.inside in
    let old = desks_view d.choice.now d.most d.mixed d.desks in
    let new = desks_view d.choice.now d.most c.insert.new.self d.desks in
    let same = slots_same d.mixed c.insert.new.self (ap (λ (s : Slab MixedView). s.slots) c.in_err-place.ensures.err) in
    in_any_case c.from_residual-in_err-place.result (subst (λ (v : DesksView). AreSameRequests v new) c.self.view_is (in_place_open old new (all_same old new refl refl same (λ hub number. refl))))

pub returns-clause-asked : goal.returns-clause-asked
returns-clause-asked g c =
    let d = c.self.inside in
    let old = desks_view d.choice.now d.most d.mixed d.desks in
    let mid = desks_view d.choice.now d.most c.insert.new.self d.desks in
    let mixed = c.in_ok-mixed.mixed in
    let place = c.in_ok-place.place in
    let is = c.in_ok-mixed.ensures in
    let updates = c.in_ok-place.ensures.updates in
    let request = request_value (arc_value c.args.request) in
    let new = c.take_done.new.self in
    let none = none_there (AreInPlace c.ask_keys.new.self new) c.take_done.result (sym c.is_some.ensures ∙ c.if-is_some.false) c.take_done.ensures.none in
    let now = in_place_on mid c.ask_keys.new.self new c.ask_keys.ensures none in
    subst (λ (v : DesksView). IsOneMore v new c.args.number request) c.self.view_is
    (several_come old mid refl refl place c.args.number mixed.request (ap (option_map (λ (m : MixedView). m.request)) c.in_ok-place.ensures.was_vacant) (is_there c.insert.new.self place mixed updates.changed) (one_came d.mixed c.insert.new.self place mixed updates) refl new request (ap (λ (m : MixedView). m.request.number) is) (ap (λ (m : MixedView). request_value m.request.asked) is) now)

pub returns-then-is_some-clause-err : goal.returns-then-is_some-clause-err
returns-then-is_some-clause-err g c =
    let d = c.self.inside in
    let old = desks_view d.choice.now d.most d.mixed d.desks in
    let mid = desks_view d.choice.now d.most c.insert.new.self d.desks in
    let mixed = c.in_ok-mixed.mixed in
    let place = c.in_ok-place.place in
    let updates = c.in_ok-place.ensures.updates in
    let now = c.ask_keys.new.self in
    let new = c.take_done.new.self in
    let P : Answer → Type 0 = λ a. (number : ℕ) × (a.asker ≡ Session number) × IsTakenAway now new place number (request_value (arc_value a.request)) in
    one_there P (AreSameRequests c.args.self.now new) c.take_done.result (sym c.is_some.ensures ∙ c.if-is_some.true) c.take_done.ensures.taken (λ a taken.
    subst (λ (v : DesksView). AreSameRequests v new) c.self.view_is
    (several_gone old mid refl refl place c.args.number mixed.request (ap (option_map (λ (m : MixedView). m.request)) c.in_ok-place.ensures.was_vacant) (is_there c.insert.new.self place mixed updates.changed) (one_came d.mixed c.insert.new.self place mixed updates) refl now new taken.0 (request_value (arc_value a.request)) c.ask_keys.ensures taken.2))
