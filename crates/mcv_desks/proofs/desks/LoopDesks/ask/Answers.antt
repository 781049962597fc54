use Rattle.std.proofs.Common.{OnErr, OnOk, arith, refl, subst}
use Rattle.std.specs.Arc.{arc_value}
use Rattle.mcv_base.specs.declared.request.Request.{Request}
use Rattle.mcv_text.specs.Request.{request_value}
use Rattle.mcv_desks.specs.Asked.{desks_view, mixed_at, questions_at}
use Rattle.mcv_desks.specs.Desks.{HaveHub}
use Rattle.mcv_desks.specs.Open.{AreSameRequests, DesksView, IsOneMore}
use Rattle.mcv_desks.proofs.AskedAtHubs.{desks_asked}
use Rattle.mcv_desks.proofs.OpenDesks.{asked_err, asked_ok}
use Rattle.mcv_desks.proofs.desks.LoopDesks.ask.Goals as goal

pub ask_at-requires : goal.ask_at-requires
ask_at-requires g c = let lower = c.in-Some.ensures.there in let most = c.one_hub.ensures.most in omega (arith, lower, most)

pub invariant_of-self : goal.invariant_of-self
invariant_of-self g c =
    let d = c.self.inside in
    let lower = c.in-Some.ensures.there in
    let most = c.one_hub.ensures.most in
    let have = subst (λ (r : Request). HaveHub d.choice.now (request_value r) c.in-Some.hub) c.deref.ensures c.in-Some.ensures.some in
    desks_asked d.choice.now d.next (mixed_at d.mixed) (questions_at d.desks) (questions_at c.ask_at.new.self) c.in-Some.hub (omega (arith, lower, most)) c.ask_at.result _ _ (lower, have) c.ask_at.ensures c.self.invariant

pub returns-in-Some-clause-asked : goal.returns-in-Some-clause-asked
returns-in-Some-clause-asked g c =
    let d = c.self.inside in
    let lower = c.in-Some.ensures.there in
    let most = c.one_hub.ensures.most in
    let request = request_value (arc_value c.args.request) in
    let old = desks_view d.choice.now d.most d.mixed d.desks in
    let new = desks_view d.choice.now d.most d.mixed c.ask_at.new.self in
    subst (λ (v : DesksView). OnOk c.ask_at.result (IsOneMore v new c.args.number request)) c.self.view_is (asked_ok old new refl refl (λ place. refl) c.in-Some.hub (omega (arith, lower, most)) c.args.number request c.ask_at.result c.ask_at.ensures)

pub returns-in-Some-clause-err : goal.returns-in-Some-clause-err
returns-in-Some-clause-err g c =
    let d = c.self.inside in
    let lower = c.in-Some.ensures.there in
    let most = c.one_hub.ensures.most in
    let request = request_value (arc_value c.args.request) in
    let old = desks_view d.choice.now d.most d.mixed d.desks in
    let new = desks_view d.choice.now d.most d.mixed c.ask_at.new.self in
    subst (λ (v : DesksView). OnErr c.ask_at.result (AreSameRequests v new)) c.self.view_is (asked_err old new refl refl (λ place. refl) c.in-Some.hub (omega (arith, lower, most)) c.args.number request c.ask_at.result c.ask_at.ensures)
