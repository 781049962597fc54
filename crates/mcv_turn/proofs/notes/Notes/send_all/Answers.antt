use Rattle.mcv_turn.proofs.Runs.{none_sent, sent_on}
use Rattle.mcv_turn.proofs.notes.Notes.send_all.Goals as goal

pub loop-round-init : goal.loop-round-init
loop-round-init g c = none_sent c.args.guard.now c.args.flights.now.items

pub loop-round-preserved : goal.loop-round-preserved
loop-round-preserved g c = sent_on c.args.guard.now c.loop-round.guard _ c.args.flights.now.items c.loop-round.flights.items _ c.loop-round.invariant c.send_round.ensures

pub returns-then-not-send_round : goal.returns-then-not-send_round
returns-then-not-send_round g c = sent_on c.args.guard.now c.loop-round.guard _ c.args.flights.now.items c.loop-round.flights.items _ c.loop-round.invariant c.send_round.ensures
