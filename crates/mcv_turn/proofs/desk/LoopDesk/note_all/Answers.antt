use Rattle.mcv_turn.specs.Runs.{clocked}
use Rattle.mcv_turn.proofs.Runs.{quiet, quiet_then, then_quiet}
use Rattle.mcv_turn.proofs.Told.{told_behind}
use Rattle.mcv_turn.proofs.desk.LoopDesk.note_all.Goals as goal

pub returns-clause-run : goal.returns-clause-run
returns-clause-run g c =
    let start = c.args.guard.now in
    let first = quiet start c.clock.new.self c.unmark_all.new.guard (clocked start c.clock.new.self _ c.clock.result c.clock.ensures) c.unmark_all.ensures in
    let came = quiet_then start c.unmark_all.new.guard c.report_all.new.guard c.args.came.arrivals.items _ first c.report_all.ensures.run in
    let after = then_quiet start c.report_all.new.guard c.settle.new.guard c.args.came.arrivals.items _ came c.settle.ensures in
    then_quiet start c.settle.new.guard c.take_all.new.guard c.args.came.arrivals.items _ after c.take_all.ensures.run

pub returns-clause-same : goal.returns-clause-same
returns-clause-same g c = c.take_all.ensures.same

pub returns-clause-performed : goal.returns-clause-performed
returns-clause-performed g c =
    let start = c.args.guard.now in
    let first = quiet start c.clock.new.self c.unmark_all.new.guard (clocked start c.clock.new.self _ c.clock.result c.clock.ensures) c.unmark_all.ensures in
    told_behind start c.unmark_all.new.guard c.args.came.arrivals.items c.args.performed.now.items c.report_all.new.performed.items first c.report_all.ensures.performed
