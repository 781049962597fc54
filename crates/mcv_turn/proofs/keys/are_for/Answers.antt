use Rattle.std.proofs.Common.{◌<◌, length, refl, arith, rules}
use Rattle.std.proofs.lemmas.Option.{slice_get_within}
use Rattle.mcv_text.specs.Request.{request_value}
use Rattle.mcv_turn.specs.Answers.{IsFor}
use Rattle.mcv_turn.proofs.Routed.{one_more}
use Rattle.mcv_turn.proofs.keys.are_for.Goals as goal

pub loop-key-preserved : goal.loop-key-preserved
loop-key-preserved c =
    let within : c.loop-key.key < length c.args.taken.now = search rules in
    one_more (IsFor c.args.routes.now (request_value c.args.request.now)) c.args.taken.now c.loop-key.key c.index-taken-key.result within c.index-taken-key.is c.loop-key.invariant (c.if-not-is_for.ensures.0 refl)

pub returns : goal.returns
returns c = (λ _ key t e. c.loop-key.invariant key t (omega (arith, slice_get_within c.args.taken.now key t e)) e, λ _. refl)
