use Rattle.mcv_turn.proofs.OpenRequests.{none_changes, still_open}
use Rattle.mcv_turn.specs.Runs.{entered}
use Rattle.mcv_turn.proofs.Runs.{quiet, quiet_then_sent, sent_then_quiet}
use Rattle.mcv_turn.proofs.desk.LoopDesk.go_on.Goals as goal

pub returns-clause-sends : goal.returns-clause-sends
returns-clause-sends g c =
    let start = c.args.guard.now in
    let before = c.args.gives.now.flights.items in
    let gate = c.open_gate-is_open.ensures.gate in
    let first = quiet start c.open_gate-is_open.new.guard c.enter.new.guard (entered start c.open_gate-is_open.new.guard gate.0 gate.1) c.enter.ensures.run in
    let sent = quiet_then_sent start c.enter.new.guard c.send_all.new.guard before _ first c.send_all.ensures in
    let held = sent_then_quiet start c.send_all.new.guard c.hold.new.guard before _ sent c.hold.ensures in
    sent_then_quiet start c.hold.new.guard c.take_all.new.guard before _ held c.take_all.ensures.run

pub returns-clause-same : goal.returns-clause-same
returns-clause-same g c =
    let gate = none_changes c.args.self.now.questions c.open_gate-is_open.new.self.questions c.open_gate-is_open.ensures.same in
    let entered = still_open c.args.self.now.questions c.open_gate-is_open.new.self.questions c.enter.new.self.questions gate c.enter.ensures.same in
    still_open c.args.self.now.questions c.enter.new.self.questions c.take_all.new.self.questions entered c.take_all.ensures.same
