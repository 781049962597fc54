use Rattle.std.proofs.Common.{◌∙◌, List, ap, subst, sym}
use Rattle.std.specs.Prelude.{Vec}
use Rattle.std.specs.declared.alloc.Global.{Global}
use Rattle.mcv_turn.specs.Runs.{IsTurn}
use Rattle.mcv_turn.specs.Shown.{TellsMarks, TellsPerformed}
use Rattle.mcv_turn.specs.declared.came.Marked.{Marked}
use Rattle.mcv_turn.specs.declared.came.Performed.{Performed}
use Rattle.mcv_turn.specs.declared.flight.Flight.{Flight}
use Rattle.mcv_turn.proofs.OpenRequests.{none_changes, still_open}
use Rattle.mcv_turn.proofs.Runs.{turned}
use Rattle.mcv_turn.proofs.desk.LoopDesk.turn.Goals as goal

pub returns-clause-turn : goal.returns-clause-turn
returns-clause-turn g c =
    let P : List Flight → Type 0 = λ after. IsTurn c.args.guard.now c.go_round.new.guard c.args.came.arrivals.items c.args.gives.now.flights.items after in
    subst P (sym (ap (λ (v : Vec Flight Global). v.items) c.show.ensures.flights)) (turned c.args.guard.now c.note_all.new.guard c.go_round.new.guard c.args.came.arrivals.items c.args.gives.now.flights.items _ c.note_all.ensures.run c.go_round.ensures.sends)

pub returns-clause-same : goal.returns-clause-same
returns-clause-same g c =
    let later = still_open c.note_all.new.self.questions c.go_round.new.self.questions c.show.new.self.questions c.go_round.ensures.same (none_changes c.go_round.new.self.questions c.show.new.self.questions c.show.ensures.same) in
    still_open c.args.self.now.questions c.note_all.new.self.questions c.show.new.self.questions c.note_all.ensures.same later

pub returns-clause-performed : goal.returns-clause-performed
returns-clause-performed g c =
    let P : List Performed → Type 0 = λ after. TellsPerformed c.args.guard.now c.args.came.arrivals.items c.args.gives.now.performed.items after in
    subst P (sym (ap (λ (v : Vec Performed Global). v.items) (c.show.ensures.performed ∙ c.go_round.ensures.others.0))) c.note_all.ensures.performed

pub returns-clause-marks : goal.returns-clause-marks
returns-clause-marks g c =
    let P : List Marked → Type 0 = λ before. TellsMarks c.go_round.new.guard before c.show.new.gives.marks.items in
    subst P (ap (λ (v : Vec Marked Global). v.items) c.go_round.ensures.others.1) c.show.ensures.marks
