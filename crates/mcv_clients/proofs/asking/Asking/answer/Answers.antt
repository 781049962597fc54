use Rattle.std.proofs.Common.{arith}
use Rattle.mcv_clients.proofs.Serials.{asked_before}
use Rattle.mcv_clients.proofs.asking.Asking.answer.Goals as goal

pub invariant_of-self : goal.invariant_of-self
invariant_of-self g c =
    let i = c.self.inside in
    asked_before i.desks c.answer.new.self i.next i.next c.in_default.ensures.none.none_opens (omega arith) c.self.invariant

pub invariant_of-self-in-Session : goal.invariant_of-self-in-Session
invariant_of-self-in-Session g c =
    let i = c.self.inside in
    asked_before i.desks c.answer.new.self i.next i.next c.in-Some.ensures.answered.2.none_opens (omega arith) c.self.invariant
