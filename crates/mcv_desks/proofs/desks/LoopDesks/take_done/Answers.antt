use Rattle.std.proofs.Common.{◌≡◌, ℕ, ap, refl, subst}
use Rattle.std.specs.Prelude.{IfNone, IfSome}
use Rattle.std.specs.Arc.{arc_value}
use Rattle.mcv_session.specs.Desk.{answer_value}
use Rattle.mcv_text.specs.Request.{request_value}
use Rattle.mcv_turn.specs.declared.answer.Answer.{Answer}
use Rattle.mcv_turn.specs.declared.answer.Asker.TheVariants.{Session}
use Rattle.mcv_desks.specs.Asked.{AreSameMixed, IsAnswerOf, desks_view, mixed_at, questions_at}
use Rattle.mcv_desks.specs.Desks.{AsksHubs}
use Rattle.mcv_desks.specs.Open.{AreInPlace, DesksView, IsTakenAway}
use Rattle.mcv_desks.proofs.AskedAtHubs.{if_some, keys_are_answered, some_left}
use Rattle.mcv_desks.proofs.OpenDesks.{all_same, if_none, taken_away}
use Rattle.mcv_desks.proofs.desks.LoopDesks.take_done.Goals as goal

pub invariant_of-self : goal.invariant_of-self
invariant_of-self g c = let d = c.self.inside in some_left d.choice.now d.next (mixed_at d.mixed) (mixed_at c.take_done.new.mixed) c.take_done.ensures.left (questions_at d.desks) c.self.invariant

pub returns-clause-taken : goal.returns-clause-taken
returns-clause-taken g c =
    let d = c.self.inside in
    let old = desks_view d.choice.now d.most d.mixed d.desks in
    let new = desks_view d.choice.now d.most c.take_done.new.mixed d.desks in
    let place = c.args.place in
    subst (λ (v : DesksView). IfSome c.take_done.result (λ a. (number : ℕ) × (a.asker ≡ Session number) × IsTakenAway v new place number (request_value (arc_value a.request)))) c.self.view_is
    (taken_away g.F.HubNames.opened_of old new place refl refl refl c.take_done.result c.take_done.ensures.answer c.take_done.ensures.gone c.take_done.ensures.others)

pub returns-clause-none : goal.returns-clause-none
returns-clause-none g c =
    let d = c.self.inside in
    let old = desks_view d.choice.now d.most d.mixed d.desks in
    let new = desks_view d.choice.now d.most c.take_done.new.mixed d.desks in
    subst (λ (v : DesksView). IfNone c.take_done.result (AreInPlace v new)) c.self.view_is (if_none (AreSameMixed d.mixed c.take_done.new.mixed) (AreInPlace old new) c.take_done.result (λ same. all_same old new refl refl same (λ hub number. refl)) c.take_done.ensures.none)

pub returns-clause-answer : goal.returns-clause-answer
returns-clause-answer g c =
    let opened_of = g.F.HubNames.opened_of in
    let d = c.self.inside in
    let P : Answer → Type 0 = λ a. IsAnswerOf opened_of (mixed_at d.mixed c.args.place) a.asker (request_value (arc_value a.request)) (answer_value a.outcome) in
    let Q : ℕ → Answer → Type 0 = λ hubs a. AsksHubs opened_of hubs (request_value (arc_value a.request)) (answer_value a.outcome) in
    if_some P (Q c.args.self.now.hubs) c.take_done.result
    (λ a h. subst (λ (hubs : ℕ). Q hubs a) (ap (λ (v : DesksView). v.hubs) c.self.view_is) (keys_are_answered opened_of d.choice.now 0 d.next (mixed_at d.mixed) c.args.place a.asker (request_value (arc_value a.request)) (answer_value a.outcome) c.self.invariant.known h)) c.take_done.ensures.answer
