use Rattle.std.proofs.Common.{◌∷◌, [], refl}
use Rattle.mcv_turn.specs.Runs.{nothing}
use Rattle.mcv_turn.proofs.Runs.{one_arrival_more}
use Rattle.mcv_turn.proofs.Told.{none_told, told_on}
use Rattle.mcv_turn.proofs.notes.Notes.report_all.Goals as goal

pub loop-arrival-init : goal.loop-arrival-init
loop-arrival-init g c = record { can = tt; finite = tt; run = nothing c.args.guard.now; performed = none_told c.args.guard.now [] c.args.performed.now.items c.args.performed.now.items refl }

pub loop-arrival-preserved : goal.loop-arrival-preserved
loop-arrival-preserved g c = record {
  can = tt;
  finite = tt;
  run = one_arrival_more c.args.guard.now c.loop-arrival.guard c.report.new.guard c.loop-arrival.yielded c.in-Some.arrival c.loop-arrival.invariant.run c.report.ensures.run;
  performed = told_on c.args.guard.now c.loop-arrival.guard c.loop-arrival.yielded (c.in-Some.arrival ∷ []) c.loop-arrival.invariant.run c.args.performed.now.items c.loop-arrival.performed.items c.report.new.performed.items c.loop-arrival.invariant.performed c.report.ensures.performed;
}
