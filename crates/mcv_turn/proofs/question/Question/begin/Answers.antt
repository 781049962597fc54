use Rattle.std.proofs.Common.{◌≡◌, List, Option, Some, arith, length, rules, subst, sym}
use Rattle.std.specs.Prelude.{IfSome}
use Rattle.std.specs.Arc.{arc_value}
use Rattle.mcv_base.specs.declared.request.CallId.{CallId}
use Rattle.mcv_core.specs.declared.fault.CoreFault.{CoreFault}
use Rattle.mcv_text.specs.Request.{request_value}
use Rattle.mcv_turn.specs.Answers.{AreTaken, WasRefused}
use Rattle.mcv_turn.specs.Runs.{nothing}
use Rattle.mcv_turn.proofs.Taken.{taken_before}
use Rattle.mcv_turn.proofs.question.Question.begin.Goals as goal

pub begin_each-begun-requires : goal.begin_each-begun-requires
begin_each-begun-requires g c = record {
  began = c.self.invariant.begun;
  room = omega (arith, c.next_limit-to.ensures, c.self.invariant.calls_room);
  more = omega arith;
}

pub returns-in-Some-clause-run : goal.returns-in-Some-clause-run
returns-in-Some-clause-run g c = nothing c.args.guard.now

pub returns-then-to-len-clause-run : goal.returns-then-to-len-clause-run
returns-then-to-len-clause-run g c = nothing c.args.guard.now

pub returns-then-not-is_room_left-clause-run : goal.returns-then-not-is_room_left-clause-run
returns-then-not-is_room_left-clause-run g c = nothing c.args.guard.now

pub invariant_of-self : goal.invariant_of-self
invariant_of-self g c =
    let start = g.B.HubLedger.opened in
    let q = c.self.inside in
    let request = request_value (arc_value q.request) in
    let before = c.self.invariant in
    let did = c.begin_each-begun.ensures in
    let P : List CallId → Type 0 = λ xs. AreTaken start xs q.progress.done q.progress.missed q.taken.items in
    let Q : Option CoreFault → Type 0 = λ o. IfSome o (WasRefused start request (length c.begin_each-begun.new.calls.items)) in
    record {
      count_is = before.count_is;
      begun = did.began;
      most = search rules;
      so_far = subst P (sym did.on.1) (taken_before start q.calls.items did.on.0 q.progress.done q.progress.missed q.taken.items before.so_far);
      refusal = subst Q (sym c.in-None.is) tt;
      calls_room = search rules;
      taken_room = before.taken_room;
      parts_room = before.parts_room;
      no_parts = before.no_parts;
    }

pub invariant_of-self-in-Err : goal.invariant_of-self-in-Err
invariant_of-self-in-Err g c =
    let start = g.B.HubLedger.opened in
    let q = c.self.inside in
    let before = c.self.invariant in
    let did = c.begin_each-begun.ensures in
    let P : List CallId → Type 0 = λ xs. AreTaken start xs q.progress.done q.progress.missed q.taken.items in
    record {
      count_is = before.count_is;
      begun = did.began;
      most = search rules;
      so_far = subst P (sym did.on.1) (taken_before start q.calls.items did.on.0 q.progress.done q.progress.missed q.taken.items before.so_far);
      refusal = search rules;
      calls_room = search rules;
      taken_room = before.taken_room;
      parts_room = before.parts_room;
      no_parts = before.no_parts;
    }
