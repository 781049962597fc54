use Rattle.std.proofs.Common.{subst, sym}
use Rattle.mcv_turn.specs.Runs.{SendsMore}
use Rattle.mcv_turn.proofs.Runs.{none_sent, sent_on}
use Rattle.mcv_turn.proofs.notes.Notes.send_to.Goals as goal

pub loop-leg-init : goal.loop-leg-init
loop-leg-init g c = none_sent c.args.guard.now c.args.flights.now.items

pub loop-leg-preserved : goal.loop-leg-preserved
loop-leg-preserved g c = sent_on c.args.guard.now c.loop-leg.guard c.send_one.new.guard c.args.flights.now.items c.loop-leg.flights.items c.send_one.new.flights.items c.loop-leg.invariant (rw c.reserve.ensures.items at c.send_one.ensures)

pub returns-then-not-send_one : goal.returns-then-not-send_one
returns-then-not-send_one g c = sent_on c.args.guard.now c.loop-leg.guard c.send_one.new.guard c.args.flights.now.items c.loop-leg.flights.items c.send_one.new.flights.items c.loop-leg.invariant (rw c.reserve.ensures.items at c.send_one.ensures)

pub returns-then-is_err : goal.returns-then-is_err
returns-then-is_err g c = subst (SendsMore c.args.guard.now c.loop-leg.guard c.args.flights.now.items) (sym c.reserve.ensures.items) c.loop-leg.invariant
