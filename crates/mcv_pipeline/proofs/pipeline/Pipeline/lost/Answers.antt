use Rattle.std.proofs.Common.{◌≡◌, ◌∙◌, false, sym, ap, subst}
use Rattle.mcv_pipeline.specs.Pipeline.{LosesFrom, PipelineValue}
use Rattle.mcv_reply.specs.Replies.{is_open}
use Rattle.mcv_pipeline.proofs.Numbers.{loses_closed, numbers_shut}
use Rattle.mcv_pipeline.proofs.pipeline.Pipeline.lost.Goals as goal

pub invariant_of-self : goal.invariant_of-self
invariant_of-self c = numbers_shut c.self.inside.replies c.pop_front.new.self.items (sym c.is_open.ensures ∙ c.if-is_open.false)

pub returns : goal.returns
returns c =
    let left = c.pop_front.new.self.items in
    let now : is_open c.self.inside.replies ≡ false = sym c.is_open.ensures ∙ c.if-is_open.false in record {
      loses = subst (λ (v : PipelineValue). LosesFrom v.connection v.legs c.pop_front.result left) c.self.view_is (loses_closed c.self.inside.replies c.self.inside.legs.items left c.pop_front.result now c.pop_front.ensures.items c.pop_front.ensures.rest);
      connection = ap (λ (v : PipelineValue). v.connection) c.self.view_is;
    }
