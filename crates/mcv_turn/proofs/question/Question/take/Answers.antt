use Rattle.std.proofs.Common.{List, arith, rules, subst, sym}
use Rattle.mcv_base.specs.declared.request.CallId.{CallId}
use Rattle.mcv_turn.specs.Answers.{AreTaken}
use Rattle.mcv_turn.proofs.question.Question.take.Goals as goal

pub take_ready-came-requires : goal.take_ready-came-requires
take_ready-came-requires g c =
    let q = c.self.inside in
    let P : List CallId → Type 0 = λ xs. AreTaken g.B.HubLedger.opened xs q.progress.done q.progress.missed q.taken.items in
    record { so_far = subst P (sym c.as_slice-calls.ensures.value) c.self.invariant.so_far; room = search rules }

pub invariant_of-self : goal.invariant_of-self
invariant_of-self g c =
    let q = c.self.inside in
    let before = c.self.invariant in
    let came = c.take_ready-came.result.progress in
    let P : List CallId → Type 0 = λ xs. AreTaken g.B.HubLedger.opened xs came.done came.missed c.take_ready-came.new.taken.items in
    record {
      count_is = before.count_is;
      begun = before.begun;
      most = before.most;
      so_far = subst P c.as_slice-calls.ensures.value c.take_ready-came.ensures.so_far;
      refusal = before.refusal;
      calls_room = before.calls_room;
      taken_room = search rules;
      parts_room = before.parts_room;
      no_parts = before.no_parts;
    }
