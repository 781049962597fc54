use Rattle.std.proofs.Common.{refl}
use Rattle.mcv_turn.specs.Runs.{given_up, unsent}
use Rattle.mcv_turn.proofs.Runs.{none_sent, one_sent, sent_none}
use Rattle.mcv_turn.proofs.notes.Notes.send_one.Goals as goal

pub returns-in-Ok-Sent : goal.returns-in-Ok-Sent
returns-in-Ok-Sent g c = one_sent c.args.guard.now c.args.guard.now c.take_next.new.guard c.args.flights.now.items c.args.flights.now.items c.push_reserved.new.self.items c.args.server c.in-Ok-Sent.flight (none_sent c.args.guard.now c.args.flights.now.items) (rw c.in-Ok-Sent.field-0-is at c.in-Ok-Sent.ensures.departs) c.push_reserved.ensures.items

pub returns-in-Ok-Lost : goal.returns-in-Ok-Lost
returns-in-Ok-Lost g c = sent_none c.args.guard.now c.take_next.new.guard c.args.flights.now.items c.args.flights.now.items (given_up c.args.guard.now c.take_next.new.guard c.args.server _ (rw c.in-Ok-Lost.field-0-is at c.in-Ok-Lost.ensures.departs)) refl

pub returns-in-Err : goal.returns-in-Err
returns-in-Err g c = sent_none c.args.guard.now c.take_next.new.guard c.args.flights.now.items c.args.flights.now.items (unsent c.args.guard.now c.take_next.new.guard c.args.server _ c.in-Err.ensures.refused) refl
