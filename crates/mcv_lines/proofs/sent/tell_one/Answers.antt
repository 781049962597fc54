use Rattle.std.proofs.Common.{◌∙◌, ◌++◌, ◌∷◌, [], List, ap, sym}
use Rattle.mcv_turn.specs.declared.arrival.Arrival.{Arrival}
use Rattle.mcv_turn.specs.declared.flight.Flight.{Flight}
use Rattle.mcv_lines.specs.Lost.{lost_leg}
use Rattle.mcv_lines.proofs.LegsAreLost.{adds_none, goes, is_lost, not_lost, oldest_no_more, stays, still_oldest}
use Rattle.mcv_lines.proofs.sent.tell_one.Goals as goal

pub returns-then-goes-clause-again : goal.returns-then-goes-clause-again
returns-then-goes-clause-again c = c.push_reserved.ensures.items ∙ ap (λ (xs : List Flight). c.args.again.now.items ++ xs) (sym (goes c.args.goes c.args.one.flight c.if-goes.true))

pub returns-then-goes-clause-lost : goal.returns-then-goes-clause-lost
returns-then-goes-clause-lost c = adds_none c.args.arrivals.now.items _ (not_lost c.args.goes (lost_leg c.args.server c.args.is_oldest c.args.one.flight.leg) c.if-goes.true)

pub returns-then-goes-clause-oldest : goal.returns-then-goes-clause-oldest
returns-then-goes-clause-oldest c = still_oldest c.args.is_oldest c.args.goes c.if-goes.true

pub returns-clause-again : goal.returns-clause-again
returns-clause-again c = adds_none c.args.again.now.items _ (stays c.args.goes c.args.one.flight c.if-goes.false)

pub returns-clause-lost : goal.returns-clause-lost
returns-clause-lost c =
    c.push_reserved-2.ensures.items ∙ ap (λ (a : Arrival). c.args.arrivals.now.items ++ a ∷ []) c.lost_leg.ensures
    ∙ ap (λ (xs : List Arrival). c.args.arrivals.now.items ++ xs) (sym (is_lost c.args.goes (lost_leg c.args.server c.args.is_oldest c.args.one.flight.leg) c.if-goes.false))

pub returns-clause-oldest : goal.returns-clause-oldest
returns-clause-oldest c = oldest_no_more c.args.is_oldest c.args.goes c.if-goes.false
