use Rattle.std.proofs.Common.{◌≡◌, ◌∙◌, ◌++◌, ◌∷◌, [], List, ap}
use Rattle.mcv_turn.specs.Runs.{given_back, nothing, unspooled}
use Rattle.mcv_turn.specs.declared.flight.Flight.{Flight}
use Rattle.mcv_turn.proofs.Runs.{none_sent, sent_none, sent_one_again}
use Rattle.mcv_turn.proofs.notes.Notes.send_again.Goals as goal

pub returns-then-not-take_replay : goal.returns-then-not-take_replay
returns-then-not-take_replay g c = none_sent c.args.guard.now c.args.flights.now.items

pub returns-then-is_err : goal.returns-then-is_err
returns-then-is_err g c = sent_none c.args.guard.now c.args.guard.now c.args.flights.now.items c.reserve.new.self.items (nothing c.args.guard.now) c.reserve.ensures.items

pub returns-in-Ok-Sent : goal.returns-in-Ok-Sent
returns-in-Ok-Sent g c = sent_one_again c.args.guard.now c.take_again.new.guard c.args.flights.now.items c.push_reserved.new.self.items c.args.server c.in-Ok-Sent.again (rw c.in-Ok-Sent.field-0-is at c.in-Ok-Sent.ensures.comes) (c.push_reserved.ensures.items ∙ ap (λ (t : List Flight). t ++ c.in-Ok-Sent.again ∷ []) c.reserve.ensures.items)

pub returns-in-Ok-Lost : goal.returns-in-Ok-Lost
returns-in-Ok-Lost g c = sent_none c.args.guard.now c.take_again.new.guard c.args.flights.now.items c.reserve.new.self.items (given_back c.args.guard.now c.take_again.new.guard c.args.server _ (rw c.in-Ok-Lost.field-0-is at c.in-Ok-Lost.ensures.comes)) c.reserve.ensures.items

pub returns-in-Err : goal.returns-in-Err
returns-in-Err g c = sent_none c.args.guard.now c.take_again.new.guard c.args.flights.now.items c.reserve.new.self.items (unspooled c.args.guard.now c.take_again.new.guard c.args.server _ c.in-Err.ensures.refused) c.reserve.ensures.items
