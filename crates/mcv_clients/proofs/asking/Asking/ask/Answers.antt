use Rattle.std.proofs.Common.{arith}
use Rattle.mcv_clients.proofs.Serials.{asked_before, asked_next, is_fresh, none_asked}
use Rattle.mcv_clients.proofs.asking.Asking.ask.Goals as goal

pub returns-then-is_err-clause-none : goal.returns-then-is_err-clause-none
returns-then-is_err-clause-none g c = none_asked (record { desks = c.self.inside.desks; next = c.self.inside.next }) c.args.self.now c.self.view_is

pub invariant_of-self-in-Ok-ask : goal.invariant_of-self-in-Ok-ask
invariant_of-self-in-Ok-ask g c =
    let i = c.self.inside in
    asked_next i.desks c.ask.new.self i.next c.in-Some.next _ c.in-Ok-ask.ensures.asked c.in-Some.ensures.1 c.self.invariant

pub invariant_of-self-in-Err : goal.invariant_of-self-in-Err
invariant_of-self-in-Err g c =
    let i = c.self.inside in
    let later = c.in-Some.ensures.1 in
    asked_before i.desks c.ask.new.self i.next c.in-Some.next c.in-Err.ensures.err.none_opens (omega (arith, later)) c.self.invariant

pub returns-in-Ok-ask-clause-fresh : goal.returns-in-Ok-ask-clause-fresh
returns-in-Ok-ask-clause-fresh g c =
    let i = c.self.inside in
    is_fresh (record { desks = i.desks; next = i.next }) c.args.self.now i.next c.self.view_is c.self.invariant
