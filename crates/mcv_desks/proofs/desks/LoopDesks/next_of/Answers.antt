use Rattle.slab.specs.Slab.{Slab}
use Rattle.std.proofs.Common.{◌≡◌, ◌∙◌, ℕ, ap, refl, subst}
use Rattle.std.specs.Arc.{arc_value}
use Rattle.std.specs.Prelude.{IfSome}
use Rattle.mcv_session.specs.Desk.{answer_value}
use Rattle.mcv_text.specs.Request.{request_value}
use Rattle.mcv_turn.specs.declared.answer.Answer.{Answer}
use Rattle.mcv_turn.specs.OpenRequests.{Closes}
use Rattle.mcv_turn.specs.Question.{QuestionView}
use Rattle.mcv_turn.specs.declared.answer.Asker.{Asker}
use Rattle.mcv_turn.specs.declared.answer.Asker.TheVariants.{Key, Session}
use Rattle.mcv_desks.specs.Asked.{AtOne, IsAskedOf, desks_view, mixed_at, questions_at}
use Rattle.mcv_desks.specs.Desks.{AsksHubs}
use Rattle.mcv_desks.specs.Open.{AreInPlace, AreSameRequests, DesksView, IsOneLess}
use Rattle.mcv_desks.proofs.AskedAtHubs.{desks_answered, if_some, if_whole, key_is_answered, some_left, was_asked, whole_is_answered}
use Rattle.mcv_desks.proofs.MixedRequests.{all_left}
use Rattle.mcv_desks.proofs.OpenDesks.{if_none, if_not_whole, in_place_on, in_place_open, key_answered, less_behind, one_goes, one_same, taken_is_less}
use Rattle.mcv_desks.proofs.desks.LoopDesks.next_of.Goals as goal

-- there is none
pub invariant_of-self : goal.invariant_of-self
invariant_of-self g c =
    let d = c.self.inside in
    desks_answered d.choice.now d.next (mixed_at d.mixed) (questions_at d.desks) (questions_at c.answer_at.new.self) c.args.hub c.requires (λ (a : Answer). a.asker) (λ (a : Answer). request_value (arc_value a.request)) c.answer_at.result c.answer_at.ensures.closed c.self.invariant

pub invariant_of-self-in-Session : goal.invariant_of-self-in-Session
invariant_of-self-in-Session g c =
    let d = c.self.inside in
    desks_answered d.choice.now d.next (mixed_at d.mixed) (questions_at d.desks) (questions_at c.answer_at.new.self) c.args.hub c.requires (λ (a : Answer). a.asker) (λ (a : Answer). request_value (arc_value a.request)) c.answer_at.result c.answer_at.ensures.closed c.self.invariant

pub returns-in_default-clause-none : goal.returns-in_default-clause-none
returns-in_default-clause-none g c =
    let d = c.self.inside in
    let old = desks_view d.choice.now d.most d.mixed d.desks in
    let new = desks_view d.choice.now d.most d.mixed c.answer_at.new.self in
    let closed = c.in_default.ensures.closed in
    subst (λ (v : DesksView). AreSameRequests v new) c.self.view_is (in_place_open old new (one_same old new refl refl (λ place. refl) c.args.hub (record { here = closed.here.1; others = closed.others })))

pub returns-in-Session-clause-answered : goal.returns-in-Session-clause-answered
returns-in-Session-clause-answered g c =
    let d = c.self.inside in
    let number = c.in-Session.field-0 in
    let request = request_value (arc_value c.in-Some.answer.request) in
    let old = desks_view d.choice.now d.most d.mixed d.desks in
    let new = desks_view d.choice.now d.most d.mixed c.answer_at.new.self in
    let closed = c.in-Some.ensures.closed in
    let its : AtOne (λ (o n : Slab QuestionView). Closes o n (Session number) request) c.args.hub (questions_at d.desks) (questions_at c.answer_at.new.self) =
    record { here = subst (λ (a : Asker). Closes (questions_at d.desks c.args.hub) (questions_at c.answer_at.new.self c.args.hub) a request) c.in-Session.is closed.here.0; others = closed.others } in
    (number, c.in-Session.is, subst (λ (v : DesksView). IsOneLess v new number request) c.self.view_is (one_goes old new refl refl (λ place. refl) c.args.hub c.requires number request its))

pub returns-in-Session-clause-answer : goal.returns-in-Session-clause-answer
returns-in-Session-clause-answer g c =
    let d = c.self.inside in
    let answer = c.in-Some.answer in
    let request = request_value (arc_value answer.request) in
    let asked = was_asked d.choice.now d.next (mixed_at d.mixed) (questions_at d.desks) (questions_at c.answer_at.new.self) c.self.invariant.asked c.args.hub c.requires answer.asker request c.in-Some.ensures.closed.here.0 in
    let its = subst (λ (a : Asker). IsAskedOf d.choice.now c.args.hub d.next (mixed_at d.mixed) a request) c.in-Session.is asked in
    let is = whole_is_answered g.F.HubNames.opened_of d.choice.now c.args.hub d.next (mixed_at d.mixed) c.in-Session.field-0 request (answer_value answer.outcome) its c.in-Some.ensures.answer in
    subst (λ (hubs : ℕ). AsksHubs g.F.HubNames.opened_of hubs request (answer_value answer.outcome)) (ap (λ (v : DesksView). v.hubs) c.self.view_is) is

pub put_at-requires : goal.put_at-requires
put_at-requires g c =
    let d = c.self.inside in
    let answer = c.in-Some.answer in
    let request = request_value (arc_value answer.request) in
    let asked = was_asked d.choice.now d.next (mixed_at d.mixed) (questions_at d.desks) (questions_at c.answer_at.new.self) c.self.invariant.asked c.args.hub c.requires answer.asker request c.in-Some.ensures.closed.here.0 in
    let its = subst (λ (a : Asker). IsAskedOf d.choice.now c.args.hub d.next (mixed_at d.mixed) a request) c.in-Key.is asked in
    key_is_answered g.F.HubNames.opened_of d.choice.now c.args.hub d.next (mixed_at d.mixed) c.in-Key.request c.in-Key.serial c.in-Key.key request (answer_value answer.outcome) c.self.invariant.known its c.in-Some.ensures.answer

pub invariant_of-self-in-Key : goal.invariant_of-self-in-Key
invariant_of-self-in-Key g c =
    let d = c.self.inside in
    let answered =
    desks_answered d.choice.now d.next (mixed_at d.mixed) (questions_at d.desks) (questions_at c.answer_at.new.self) c.args.hub c.requires (λ (a : Answer). a.asker) (λ (a : Answer). request_value (arc_value a.request)) c.answer_at.result c.answer_at.ensures.closed c.self.invariant in
    some_left d.choice.now d.next (mixed_at d.mixed) (mixed_at c.put_at.new.mixed) (all_left d.mixed c.put_at.new.mixed c.put_at.ensures) (questions_at c.answer_at.new.self) answered

pub returns-in-Key-clause-answered : goal.returns-in-Key-clause-answered
returns-in-Key-clause-answered g c =
    let d = c.self.inside in
    let request = request_value (arc_value c.in-Some.answer.request) in
    let old = desks_view d.choice.now d.most d.mixed d.desks in
    let mid = desks_view d.choice.now d.most c.put_at.new.mixed c.answer_at.new.self in
    let now = c.ask_keys.new.self in
    let new = c.take_done.new.self in
    let closed = c.in-Some.ensures.closed in
    let its : AtOne (λ (o n : Slab QuestionView). Closes o n (Key c.in-Key.request c.in-Key.serial c.in-Key.key) request) c.args.hub (questions_at d.desks) (questions_at c.answer_at.new.self) =
    record { here = subst (λ (a : Asker). Closes (questions_at d.desks c.args.hub) (questions_at c.answer_at.new.self c.args.hub) a request) c.in-Key.is closed.here.0; others = closed.others } in
    let same = in_place_on old mid now (key_answered old mid refl refl c.put_at.ensures c.args.hub c.in-Key.request c.in-Key.serial c.in-Key.key request its) c.ask_keys.ensures in
    let Q : DesksView → Answer → Type 0 = λ v a. (number : ℕ) × (a.asker ≡ Session number) × IsOneLess v new number (request_value (arc_value a.request)) in
    let less = if_some _ (Q old) c.take_done.result (λ a h. (h.0, h.1, less_behind old now new h.0 (request_value (arc_value a.request)) (in_place_open old now same) (taken_is_less now new c.in-Key.request h.0 (request_value (arc_value a.request)) h.2))) c.take_done.ensures.taken in
    if_whole (Q c.args.self.now) c.take_done.result c.joined_of.result c.joined_of.ensures (subst (λ (v : DesksView). IfSome c.take_done.result (Q v)) c.self.view_is less)

pub returns-in-Key-clause-none : goal.returns-in-Key-clause-none
returns-in-Key-clause-none g c =
    let d = c.self.inside in
    let request = request_value (arc_value c.in-Some.answer.request) in
    let old = desks_view d.choice.now d.most d.mixed d.desks in
    let mid = desks_view d.choice.now d.most c.put_at.new.mixed c.answer_at.new.self in
    let now = c.ask_keys.new.self in
    let new = c.take_done.new.self in
    let closed = c.in-Some.ensures.closed in
    let its : AtOne (λ (o n : Slab QuestionView). Closes o n (Key c.in-Key.request c.in-Key.serial c.in-Key.key) request) c.args.hub (questions_at d.desks) (questions_at c.answer_at.new.self) =
    record { here = subst (λ (a : Asker). Closes (questions_at d.desks c.args.hub) (questions_at c.answer_at.new.self c.args.hub) a request) c.in-Key.is closed.here.0; others = closed.others } in
    let same = in_place_on old mid now (key_answered old mid refl refl c.put_at.ensures c.args.hub c.in-Key.request c.in-Key.serial c.in-Key.key request its) c.ask_keys.ensures in
    let none = if_none (AreInPlace now new) (AreSameRequests c.args.self.now new) c.take_done.result (λ h. subst (λ (v : DesksView). AreSameRequests v new) c.self.view_is (in_place_open old new (in_place_on old now new same h))) c.take_done.ensures.none in
    if_not_whole (AreSameRequests c.args.self.now new) c.take_done.result c.joined_of.result c.joined_of.ensures none

pub returns-in-Key-clause-answer : goal.returns-in-Key-clause-answer
returns-in-Key-clause-answer g c =
    let P : ℕ → Answer → Type 0 = λ hubs a. AsksHubs g.F.HubNames.opened_of hubs (request_value (arc_value a.request)) (answer_value a.outcome) in
    if_whole (P c.args.self.now.hubs) c.take_done.result c.joined_of.result c.joined_of.ensures (subst (λ (hubs : ℕ). IfSome c.take_done.result (P hubs)) (c.ask_keys.ensures.hubs ∙ ap (λ (v : DesksView). v.hubs) c.self.view_is) c.take_done.ensures.answer)
