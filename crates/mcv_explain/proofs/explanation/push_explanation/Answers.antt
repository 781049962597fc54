use Rattle.std.proofs.Common.{map}
use Rattle.std.proofs.lemmas.Result.{on_ok_weaker}
use Rattle.mcv_base.specs.declared.request.Moment.{Moment}
use Rattle.mcv_explain.proofs.explanation.push_explanation.Goals as goal

pub returns : goal.returns
returns c =
    on_ok_weaker c.push_sentences.result (λ is. (map (λ (m : Moment). m.0) c.breaks-table.result.now, c.breaks-table.ensures, is)) c.push_sentences.ensures
