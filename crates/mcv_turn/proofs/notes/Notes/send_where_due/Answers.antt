use Rattle.mcv_turn.proofs.Runs.{none_sent, sent_on}
use Rattle.mcv_turn.proofs.notes.Notes.send_where_due.Goals as goal

pub returns-then-not-take_due : goal.returns-then-not-take_due
returns-then-not-take_due g c = none_sent c.args.guard.now c.args.flights.now.items

pub returns-in_default : goal.returns-in_default
returns-in_default g c = none_sent c.args.guard.now c.args.flights.now.items

pub returns : goal.returns
returns g c = sent_on c.args.guard.now c.send_again.new.guard c.send_to.new.guard c.args.flights.now.items c.send_again.new.flights.items c.send_to.new.flights.items c.send_again.ensures c.send_to.ensures
