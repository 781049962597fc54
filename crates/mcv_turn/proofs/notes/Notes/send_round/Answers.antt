use Rattle.mcv_turn.proofs.Runs.{none_sent, sent_on}
use Rattle.mcv_turn.proofs.notes.Notes.send_round.Goals as goal

pub loop-number-init : goal.loop-number-init
loop-number-init g c = none_sent c.args.guard.now c.args.flights.now.items

pub loop-number-preserved : goal.loop-number-preserved
loop-number-preserved g c = sent_on c.args.guard.now c.loop-number.guard _ c.args.flights.now.items c.loop-number.flights.items _ c.loop-number.invariant c.send_where_due-is_due.ensures
