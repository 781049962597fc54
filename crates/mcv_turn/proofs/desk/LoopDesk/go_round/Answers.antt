use Rattle.std.proofs.Common.{◌∙◌, refl}
use Rattle.mcv_turn.proofs.OpenRequests.{none_changes, still_open}
use Rattle.mcv_turn.proofs.Runs.{none_sent, sent_on}
use Rattle.mcv_turn.proofs.desk.LoopDesk.go_round.Goals as goal

pub loop-round-init : goal.loop-round-init
loop-round-init g c = record { sends = none_sent c.args.guard.now c.args.gives.now.flights.items; same = none_changes c.args.self.now.questions c.args.self.now.questions refl; others = (refl, refl) }

pub loop-round-preserved : goal.loop-round-preserved
loop-round-preserved g c = record {
  sends = sent_on c.args.guard.now c.loop-round.guard c.go_on.new.guard c.args.gives.now.flights.items c.loop-round.gives.flights.items c.go_on.new.gives.flights.items c.loop-round.invariant.sends c.go_on.ensures.sends;
  same = still_open c.args.self.now.questions c.loop-round.self.questions c.go_on.new.self.questions c.loop-round.invariant.same c.go_on.ensures.same;
  others = (c.go_on.ensures.others.0 ∙ c.loop-round.invariant.others.0, c.go_on.ensures.others.1 ∙ c.loop-round.invariant.others.1);
}

pub returns-then-go_on-clause-sends : goal.returns-then-go_on-clause-sends
returns-then-go_on-clause-sends g c = sent_on c.args.guard.now c.loop-round.guard c.go_on.new.guard c.args.gives.now.flights.items c.loop-round.gives.flights.items c.go_on.new.gives.flights.items c.loop-round.invariant.sends c.go_on.ensures.sends

pub returns-then-go_on-clause-same : goal.returns-then-go_on-clause-same
returns-then-go_on-clause-same g c = still_open c.args.self.now.questions c.loop-round.self.questions c.go_on.new.self.questions c.loop-round.invariant.same c.go_on.ensures.same

pub returns-then-go_on-clause-others : goal.returns-then-go_on-clause-others
returns-then-go_on-clause-others g c = (c.go_on.ensures.others.0 ∙ c.loop-round.invariant.others.0, c.go_on.ensures.others.1 ∙ c.loop-round.invariant.others.1)
