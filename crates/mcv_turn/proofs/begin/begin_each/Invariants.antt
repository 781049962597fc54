use Rattle.std.proofs.Common.{◌≡◌, ◌+◌, ◌++◌, List, []}
use Rattle.std.specs.Arc.{arc_value}
use Rattle.std.specs.Prelude.{vec_len, vec_capacity}
use Rattle.mcv_base.specs.declared.request.CallId.{CallId}
use Rattle.mcv_text.specs.Request.{request_value}
use Rattle.mcv_turn.specs.Answers.{AreBegun}
use Rattle.mcv_turn.specs.Runs.{Runs}
use Rattle.mcv_turn.proofs.begin.begin_each.Given as goal

-- a call for each key so far
abbrev pub invariant-loop-key : goal.invariant-loop-key
invariant-loop-key g l = record {
  began : AreBegun g.B.HubLedger.opened (request_value (arc_value l.request)) l.calls.items;
  run : Runs l.fn.guard [] [] l.guard;
  on : (more : List CallId) × (l.calls.items ≡ l.fn.calls.items ++ more);
  each : vec_len l.calls ≡ l.key;
  room : vec_capacity l.calls ≡ vec_capacity l.fn.calls;
  begun : l.seat.begun.amount + vec_len l.fn.calls ≡ l.fn.seat.begun.amount + l.key;
  taken : l.seat.taken.amount ≡ l.fn.seat.taken.amount;
}
