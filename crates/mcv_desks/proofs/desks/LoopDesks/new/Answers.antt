use Rattle.mcv_desks.specs.Asked.{desks_view, mixed_at, questions_at}
use Rattle.mcv_desks.proofs.AskedAtHubs.{none_asked}
use Rattle.mcv_desks.proofs.MixedRequests.{no_slots}
use Rattle.mcv_desks.proofs.OpenDesks.{none_is_open}
use Rattle.mcv_desks.proofs.desks.LoopDesks.new.Goals as goal

pub invariant_of-result : goal.invariant_of-result
invariant_of-result g c = none_asked c.args.hubs.now.choice (mixed_at c.new-mixed.result) (questions_at c.in_ok-desks.desks) (no_slots c.new-mixed.result c.new-mixed.ensures.empty) c.in_ok-desks.ensures

pub returns-clause-none : goal.returns-clause-none
returns-clause-none g c = none_is_open (desks_view c.args.hubs.now.choice c.args.most c.new-mixed.result c.in_ok-desks.desks) (no_slots c.new-mixed.result c.new-mixed.ensures.empty) c.in_ok-desks.ensures
