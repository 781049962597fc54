use Rattle.std.proofs.Common.{◌≡◌, ◌∙◌, ◌++◌, ◌∷◌, [], List, append-nil, append_assoc, ap, length, sym, arith, rules}
use Rattle.std.proofs.lemmas.Grind.{common_steps}
use Rattle.std.specs.Arc.{arc_value}
use Rattle.mcv_base.specs.declared.request.CallId.{CallId}
use Rattle.mcv_text.specs.Request.{request_value}
use Rattle.mcv_turn.specs.Answers.{WasBegun}
use Rattle.mcv_turn.specs.Runs.{Runs, begun, nothing}
use Rattle.mcv_turn.proofs.Books.{one_more_begun}
use Rattle.mcv_turn.proofs.Runs.{quiet}
use Rattle.mcv_turn.proofs.begin.begin_each.Goals as goal

pub loop-key-init : goal.loop-key-init
loop-key-init g c = record {
  began = c.requires.began;
  run = nothing c.args.guard.now;
  on = ([], sym (append-nil c.args.calls.now.items));
  each = search rules;
  room = search rules;
  begun = grind (arith, common_steps);
  taken = search rules;
}

pub loop-key-preserved : goal.loop-key-preserved
loop-key-preserved g c =
    let request = request_value (arc_value c.args.request.now) in
    let old = c.loop-key.invariant.on in
    let len : length c.loop-key.calls.items ≡ c.loop-key.key = search rules in
    let was : WasBegun g.B.HubLedger.opened request c.loop-key.key c.in-Ok.call = c.in-Ok.ensures.began in
    let one : Runs c.loop-key.guard [] [] c.begin_shared.new.guard = begun c.loop-key.guard c.begin_shared.new.guard (arc_value c.args.request.now) c.loop-key.key c.begin_shared.result c.begin_shared.ensures.event in
    record {
      began = one_more_begun g.B.HubLedger.opened request c.loop-key.calls.items c.push_reserved.new.self.items c.loop-key.key c.in-Ok.call len c.push_reserved.ensures.items c.loop-key.invariant.began was;
      run = quiet c.args.guard.now c.loop-key.guard c.begin_shared.new.guard c.loop-key.invariant.run one;
      on = (old.0 ++ c.in-Ok.call ∷ [], c.push_reserved.ensures.items ∙ ap (λ (t : List CallId). t ++ c.in-Ok.call ∷ []) old.1 ∙ append_assoc c.args.calls.now.items old.0 (c.in-Ok.call ∷ []));
      each = grind (arith, common_steps);
      room = search rules;
      begun = grind (arith, common_steps);
      taken = search rules;
    }

pub returns-in-Err-clause-runs : goal.returns-in-Err-clause-runs
returns-in-Err-clause-runs g c =
    let one : Runs c.loop-key.guard [] [] c.begin_shared.new.guard = begun c.loop-key.guard c.begin_shared.new.guard (arc_value c.args.request.now) c.loop-key.key c.begin_shared.result c.begin_shared.ensures.event in
    quiet c.args.guard.now c.loop-key.guard c.begin_shared.new.guard c.loop-key.invariant.run one
