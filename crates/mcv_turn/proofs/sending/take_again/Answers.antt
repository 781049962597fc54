use Rattle.std.proofs.Common.{◌≡◌, Some, inr, sym, subst}
use Rattle.std.proofs.lemmas.Result.{err_from_is_err_and}
use Rattle.mcv_base.specs.declared.request.LegId.{LegId}
use Rattle.mcv_core.specs.Requests.{asked_at, asked_by}
use Rattle.mcv_turn.specs.Flights.{IsReplayed}
use Rattle.mcv_turn.proofs.sending.take_again.Goals as goal

pub flight_of-requires : goal.flight_of-requires
flight_of-requires g c = record { before = c.args.guard.now; keeps = c.deletes_are_kept.ensures; event = inr c.in_ok-leg.ensures }

pub returns-in_err-leg-clause-refused : goal.returns-in_err-leg-clause-refused
returns-in_err-leg-clause-refused g c =
    let p = err_from_is_err_and c.from_residual.result c.from_residual.ensures.1 in
    rw (p.1, p.2) c.in_err-leg.ensures

pub returns-in-Some-clause-comes : goal.returns-in-Some-clause-comes
returns-in-Some-clause-comes g c =
    let P : LegId → Type 0 = λ n. IsReplayed c.args.server n c.args.guard.now c.replay.new.self in
    let Q : LegId → Type 0 = λ n. asked_at c.replay.new.self.core n.0 ≡ Some (asked_by c.in-Some.flight.request) in
    record {
      server_is = c.in-Some.ensures.its.0;
      replay = subst P (sym c.in-Some.ensures.its.1) c.in_ok-leg.ensures;
      unmarked = c.in-Some.ensures.unmarked;
      asks = subst Q (sym c.in-Some.ensures.its.1) c.in-Some.ensures.asks;
    }

pub returns-in-None-clause-comes : goal.returns-in-None-clause-comes
returns-in-None-clause-comes g c = record { mid = c.replay.new.self; replay = c.in_ok-leg.ensures; result = c.lose.result; loss = c.lose.ensures }
