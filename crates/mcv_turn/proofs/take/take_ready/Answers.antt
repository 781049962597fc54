use Rattle.std.proofs.Common.{◌≡◌, ◌∙◌, ◌+◌, ◌++◌, [], ◌∷◌, Some, sym, ap, subst, arith, rules}
use Rattle.std.proofs.lemmas.Grind.{common_steps}
use Rattle.mcv_turn.specs.Answers.{AreTaken, KeepsMore}
use Rattle.mcv_turn.specs.Runs.{Runs, nothing}
use Rattle.mcv_turn.proofs.Runs.{quiet}
use Rattle.mcv_turn.proofs.Receipts.{keeps_none, keeps_one}
use Rattle.mcv_turn.proofs.Taken.{one_missed, one_more_taken}
use Rattle.mcv_turn.proofs.take.take_ready.Goals as goal
use Rattle.mcv_turn.proofs.take.take_ready.Goals.{in-Ok-Some, in-Err}

pub loop-done-init : goal.loop-done-init
loop-done-init g c = record {
  run = nothing c.args.guard.now;
  so_far = c.requires.so_far;
  kept = keeps_none c.args.kept.now.receipts.items c.args.taken.now.items;
  room = search rules;
  counted = search rules;
  begun = search rules;
}

pub loop-done-preserved : goal.loop-done-preserved
loop-done-preserved g c =
    let start = g.B.HubLedger.opened in
    let calls = c.args.calls.now in
    let n = c.loop-done.done in
    let before = c.loop-done.taken.items in
    let after = c.match-take_one.taken.items in
    let run : Runs c.args.guard.now [] [] c.take_one.new.guard = quiet c.args.guard.now c.loop-done.guard c.take_one.new.guard c.loop-done.invariant.run c.take_one.ensures.runs in
    elim c.match-take_one.branch [
      | in-Ok-Some w ↦
          let items : after ≡ before ++ w.in-Ok-Some.reply ∷ [] = ap (λ v. v.items) w.taken-is ∙ w.push_reserved.ensures.items in
          record {
            run = run;
            so_far = subst (λ m. AreTaken start calls (n + 1) m after) (sym w.missed-is) (one_more_taken start calls n c.loop-done.missed _ before after w.in-Ok-Some.reply c.loop-done-test.true (rw w.in-Ok-Some.field-0-is at w.in-Ok-Some.ensures.call) items (rw w.in-Ok-Some.field-0-is at w.in-Ok-Some.ensures.taken) c.loop-done.invariant.so_far);
            kept = keeps_one _ _ _ _ before after w.in-Ok-Some.reply c.loop-done.invariant.kept items (cc);
            room = search rules;
            counted = grind (arith, common_steps);
            begun = search rules;
          }
      | in-Err w ↦
          let one = one_missed start calls n c.loop-done.missed _ w.in-Err.fault before c.loop-done-test.true w.in-Err.ensures.err w.in-Err.ensures.missing c.loop-done.invariant.so_far in
          record {
            run = run;
            so_far = subst (λ m. AreTaken start calls (n + 1) m after) (sym w.missed-is) (subst (λ v. AreTaken start calls (n + 1) (Some w.in-Err.fault) v.items) (sym w.taken-is) one);
            kept = search rules;
            room = search rules;
            counted = grind (arith, common_steps);
            begun = search rules;
          }
    ]

pub returns-in-Ok-None-clause-runs : goal.returns-in-Ok-None-clause-runs
returns-in-Ok-None-clause-runs g c = quiet c.args.guard.now c.loop-done.guard c.take_one.new.guard c.loop-done.invariant.run c.take_one.ensures.runs
