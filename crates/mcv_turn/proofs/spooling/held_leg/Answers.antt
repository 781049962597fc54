use Rattle.std.proofs.Common.{Some, subst}
use Rattle.mcv_core.specs.Readers.{IsFirstHeld}
use Rattle.mcv_core.specs.View.{core_view}
use Rattle.mcv_core.specs.declared.dispatcher.Dispatcher.{Dispatcher}
use Rattle.mcv_turn.proofs.spooling.held_leg.Goals as goal

pub invariant_of-held : goal.invariant_of-held
invariant_of-held g c =
    let P : Dispatcher → Type 0 = λ d. IsFirstHeld (core_view d).rows (Some c.in_ok-leg.leg.0) in
    record {
      is_held = ∣ record {
        state = c.args.guard.now;
        keeps = c.deletes_are_kept.ensures;
        first = subst P c.core.ensures c.in_ok-leg.ensures;
        row = c.in-Some.ensures.row;
        there = c.in-Some.ensures.there;
        rest = c.in-Some.ensures.rest;
      } ∣₁;
    }
