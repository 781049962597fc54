use Rattle.std.proofs.Common.{◌∙◌, refl, subst}
use Rattle.std.specs.Arc.{arc_value}
use Rattle.mcv_text.specs.Request.{request_value}
use Rattle.mcv_desks.specs.Asked.{desks_view, mixed_at, questions_at}
use Rattle.mcv_desks.specs.Open.{AreInPlace, DesksView}
use Rattle.mcv_desks.proofs.AskedAtHubs.{desks_asked, key_is_asked, some_left}
use Rattle.mcv_desks.proofs.MixedRequests.{all_left}
use Rattle.mcv_desks.proofs.OpenDesks.{all_same, key_asked}
use Rattle.mcv_desks.proofs.desks.LoopDesks.ask_key.Goals as goal

-- there is no further key
pub invariant_of-self : goal.invariant_of-self
invariant_of-self g c =
    let d = c.self.inside in
    some_left d.choice.now d.next (mixed_at d.mixed) (mixed_at c.next_key.new.mixed) (all_left d.mixed c.next_key.new.mixed c.next_key.ensures.same) (questions_at d.desks) c.self.invariant

pub ask_at-requires : goal.ask_at-requires
ask_at-requires g c = c.in-Some.ensures.there

pub invariant_of-self-in-Ok : goal.invariant_of-self-in-Ok
invariant_of-self-in-Ok g c =
    let d = c.self.inside in
    let hubs = d.choice.now in
    let next = c.in-Some.next in
    let its = key_is_asked hubs d.next (mixed_at d.mixed) c.args.place next c.self.invariant.known c.in-Some.ensures.key in
    let asked = desks_asked hubs d.next (mixed_at d.mixed) (questions_at d.desks) (questions_at c.ask_at.new.self) next.hub c.in-Some.ensures.there c.ask_at.result _ _ its c.ask_at.ensures c.self.invariant in
    some_left hubs d.next (mixed_at d.mixed) (mixed_at c.next_key.new.mixed) (all_left d.mixed c.next_key.new.mixed c.next_key.ensures.same) (questions_at c.ask_at.new.self) asked

-- there is no memory to ask it
pub invariant_of-self-in-Err : goal.invariant_of-self-in-Err
invariant_of-self-in-Err g c =
    let d = c.self.inside in
    let hubs = d.choice.now in
    let next = c.in-Some.next in
    let its = key_is_asked hubs d.next (mixed_at d.mixed) c.args.place next c.self.invariant.known c.in-Some.ensures.key in
    let asked = desks_asked hubs d.next (mixed_at d.mixed) (questions_at d.desks) (questions_at c.ask_at.new.self) next.hub c.in-Some.ensures.there c.ask_at.result _ _ its c.ask_at.ensures c.self.invariant in
    some_left hubs d.next (mixed_at d.mixed) (mixed_at c.refuse_at.new.mixed) (all_left d.mixed c.refuse_at.new.mixed (λ number. c.refuse_at.ensures number ∙ c.next_key.ensures.same number)) (questions_at c.ask_at.new.self) asked

pub returns-in_default : goal.returns-in_default
returns-in_default g c =
    let d = c.self.inside in
    let old = desks_view d.choice.now d.most d.mixed d.desks in
    let new = desks_view d.choice.now d.most c.next_key.new.mixed d.desks in
    subst (λ (v : DesksView). AreInPlace v new) c.self.view_is (all_same old new refl refl c.next_key.ensures.same (λ hub number. refl))

pub returns-in-Ok : goal.returns-in-Ok
returns-in-Ok g c =
    let d = c.self.inside in
    let next = c.in-Some.next in
    let old = desks_view d.choice.now d.most d.mixed d.desks in
    let new = desks_view d.choice.now d.most c.next_key.new.mixed c.ask_at.new.self in
    subst (λ (v : DesksView). AreInPlace v new) c.self.view_is (key_asked old new refl refl c.next_key.ensures.same next.hub c.ask_at.result c.args.place next.serial next.key (request_value (arc_value next.alone)) c.ask_at.ensures)

pub returns-in-Err : goal.returns-in-Err
returns-in-Err g c =
    let d = c.self.inside in
    let next = c.in-Some.next in
    let old = desks_view d.choice.now d.most d.mixed d.desks in
    let new = desks_view d.choice.now d.most c.refuse_at.new.mixed c.ask_at.new.self in
    subst (λ (v : DesksView). AreInPlace v new) c.self.view_is (key_asked old new refl refl (λ slot. c.refuse_at.ensures slot ∙ c.next_key.ensures.same slot) next.hub c.ask_at.result c.args.place next.serial next.key (request_value (arc_value next.alone)) c.ask_at.ensures)
