use Rattle.std.specs.Arc.{arc_value}
use Rattle.mcv_core.specs.View.{core_view}
use Rattle.mcv_core.proofs.AnswersOfCalls
use Rattle.mcv_core.proofs.engine.Core.begin.Goals as goal

pub returns-in-Ok-clause-begun : goal.returns-in-Ok-clause-begun
returns-in-Ok-clause-begun g c =
    let core = c.args.self.now in
    AnswersOfCalls.begun_for (core_view core.dispatcher) (g.H.KeyHash.chosen core.hash) (arc_value c.args.request) c.args.key c.in-Ok.asked c.in-Ok.ensures.asked c.in-Ok.ensures.request (core_view c.begin.new.self) c.begin.result c.begin.ensures.moves
    c.begin.ensures.call c.begin.ensures.view c.begin.ensures.refused c.begin.ensures.err

pub returns-in-Err-clause-begun : goal.returns-in-Err-clause-begun
returns-in-Err-clause-begun g c =
    let core = c.args.self.now in
    AnswersOfCalls.unasked_for (core_view core.dispatcher) (g.H.KeyHash.chosen core.hash) (arc_value c.args.request) c.args.key c.in-Err.fault c.in-Err.ensures.refused
