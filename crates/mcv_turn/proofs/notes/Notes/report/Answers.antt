use Rattle.mcv_turn.specs.Runs.{reported}
use Rattle.mcv_turn.proofs.Told.{told_or_not}
use Rattle.mcv_turn.proofs.notes.Notes.report.Goals as goal

pub returns-clause-run : goal.returns-clause-run
returns-clause-run g c = reported c.args.guard.now c.report-landed.new.guard c.args.arrival c.report-landed.ensures.reported

pub returns-clause-performed : goal.returns-clause-performed
returns-clause-performed g c = told_or_not c.args.guard.now c.report-landed.new.guard c.args.arrival c.report-landed.result c.args.performed.now.items c.note_landed.new.performed.items c.report-landed.ensures.performed c.note_landed.ensures.told c.note_landed.ensures.none
