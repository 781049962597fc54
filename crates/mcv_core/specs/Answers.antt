-- What the core answers, by the result of the call that takes the event in (own).
use Rattle.std.specs.Prelude.{Option, Result, Ok, Err}
use Rattle.mcv_base.specs.declared.reply.Part.{Part}
use Rattle.mcv_base.specs.declared.request.CallId.{CallId}
use Rattle.mcv_base.specs.declared.request.LegId.{LegId}
use Rattle.mcv_core.specs.declared.fault.CoreFault.{CoreFault}
use Rattle.mcv_core.specs.declared.run.Answer.{Answer}
use Rattle.mcv_core.specs.declared.run.Answer.TheVariants.{Call, Leg, State, Reply, Done, Refused}
use Rattle.mcv_core.specs.declared.step.Step.{Step}

abbrev pub call_answer : Result CallId CoreFault → Answer
call_answer (Ok call) = Call call
call_answer (Err fault) = Refused fault

abbrev pub leg_answer : Result LegId CoreFault → Answer
leg_answer (Ok leg) = Leg leg
leg_answer (Err fault) = Refused fault

abbrev pub state_answer : Result Step CoreFault → Answer
state_answer (Ok step) = State step.state
state_answer (Err fault) = Refused fault

abbrev pub reply_answer : Result (Option Part) CoreFault → Answer
reply_answer (Ok part) = Reply part
reply_answer (Err fault) = Refused fault

abbrev pub done_answer : {T : Type 0} → Result T CoreFault → Answer
done_answer (Ok done) = Done
done_answer (Err fault) = Refused fault
