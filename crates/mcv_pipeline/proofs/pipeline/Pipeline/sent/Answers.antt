use Rattle.std.proofs.Common.{◌∙◌, ◌++◌, ◌∷◌, [], List, Ok, Err, sym, ap, subst}
use Rattle.std.specs.Arc.{arc_value}
use Rattle.mcv_base.specs.declared.request.LegId.{LegId}
use Rattle.mcv_pipeline.specs.Pipeline.{HasNumbers, PipelineValue}
use Rattle.mcv_reply.specs.Replies.{Leg, Sends}
use Rattle.mcv_pipeline.proofs.Numbers.{numbers_more, numbers_same}
use Rattle.mcv_pipeline.proofs.pipeline.Pipeline.sent.Goals as goal

pub invariant_of-self-in-Ok : goal.invariant_of-self-in-Ok
invariant_of-self-in-Ok c =
    let leg : Leg = record { op = c.args.op; key = arc_value c.args.rest } in
    let is = c.push_back_reserved.ensures.items ∙ ap (λ (t : List LegId). t ++ c.args.leg ∷ []) c.reserve.ensures.items in
    subst (λ (t : List LegId). HasNumbers t c.sent.new.self) (sym is) (numbers_more c.self.inside.replies c.sent.new.self c.self.inside.legs.items c.args.leg leg c.self.invariant c.in-Ok.ensures)

pub invariant_of-self-in-Err : goal.invariant_of-self-in-Err
invariant_of-self-in-Err c =
    let leg : Leg = record { op = c.args.op; key = arc_value c.args.rest } in
    subst (λ (t : List LegId). HasNumbers t c.sent.new.self) (sym c.reserve.ensures.items) (numbers_same c.self.inside.replies c.sent.new.self c.self.inside.legs.items leg c.in-Err.fault c.self.invariant c.in-Err.ensures)

pub returns-in-Ok : goal.returns-in-Ok
returns-in-Ok c =
    let leg : Leg = record { op = c.args.op; key = arc_value c.args.rest } in
    let is = c.push_back_reserved.ensures.items ∙ ap (λ (t : List LegId). t ++ c.args.leg ∷ []) c.reserve.ensures.items in record {
      sends = subst (λ (v : PipelineValue). Sends v.connection leg (Ok tt) c.sent.new.self) c.self.view_is c.in-Ok.ensures;
      legs = is ∙ ap (λ (v : PipelineValue). v.legs ++ c.args.leg ∷ []) c.self.view_is;
    }

pub returns-in-Err : goal.returns-in-Err
returns-in-Err c =
    let leg : Leg = record { op = c.args.op; key = arc_value c.args.rest } in record {
      sends = subst (λ (v : PipelineValue). Sends v.connection leg (Err c.in-Err.fault) c.sent.new.self) c.self.view_is c.in-Err.ensures;
      legs = c.reserve.ensures.items ∙ ap (λ (v : PipelineValue). v.legs) c.self.view_is;
    }
