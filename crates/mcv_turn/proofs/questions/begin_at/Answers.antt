use Rattle.std.proofs.Common.{refl, sym}
use Rattle.mcv_turn.specs.Runs.{nothing}
use Rattle.mcv_turn.proofs.OpenRequests.{goes_on, none_changes}
use Rattle.mcv_turn.proofs.questions.begin_at.Goals as goal

pub returns-in_default-clause-run : goal.returns-in_default-clause-run
returns-in_default-clause-run g c = nothing c.args.guard.now

pub returns-in_default-clause-same : goal.returns-in_default-clause-same
returns-in_default-clause-same g c = none_changes c.args.questions.now c.args.questions.now refl

pub returns-clause-same : goal.returns-clause-same
returns-clause-same g c = goes_on c.args.questions.now c.args.number c.in-Some.question.now c.begin.new.self (sym c.in-Some.ensures.value) c.begin.ensures.asked
