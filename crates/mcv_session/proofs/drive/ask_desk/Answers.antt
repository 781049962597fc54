use Rattle.std.proofs.Common.{◌≡◌, ◌↔◌, refl, map, Option, Some, None, Result, Ok, Err, OnErr}
use Rattle.std.specs.Result.{IsErrOf}
use Rattle.std.proofs.lemmas.Result.{on_ok_weaker}
use Rattle.mcv_base.specs.Reply.{part_value}
use Rattle.mcv_session.specs.declared.session.SessionFault.{SessionFault}
use Rattle.mcv_session.specs.declared.session.SessionFault.TheVariants.{Ended, Memory}
use Rattle.mcv_session.proofs.Driving.{answered_desk, asks_desk}
use Rattle.mcv_session.proofs.drive.ask_desk.Goals as goal

failed : {T R A F : Type 0} (result : Result T SessionFault) (before : Option R) (request : R) → before ≡ Some request → (IsErrOf result Ended ↔ (before ≡ None)) → (IsErrOf result Memory → F) → A → OnErr result (A × F)
failed (Ok x) before request was ended memory a = tt
failed (Err Ended) before request was ended memory a = let none = ended.0 refl in absurd (cc)
failed (Err Memory) before request was ended memory a = (a, memory refl)

pub returns-in-Ok-clause-ok : goal.returns-in-Ok-clause-ok
returns-in-Ok-clause-ok g c =
    on_ok_weaker c.answer.result
    (λ k. answered_desk g.D.Desk.asks _ _ c.args.session.now _ _ c.requires.is.0 (Ok (map part_value c.in-Ok.parts.items)) c.requires.was c.requires.is.1 (rw c.in-Ok.is at c.ask.ensures.asks) (rw c.in-Ok.is at c.ask.ensures.each)
    (λ was. rw c.as_slice.ensures.value at k c.requires.is.0 was))
    c.answer.ensures.ok

pub returns-in-Ok-clause-err : goal.returns-in-Ok-clause-err
returns-in-Ok-clause-err g c =
    failed c.answer.result c.args.session.now.request _ c.requires.was c.answer.ensures.ended c.answer.ensures.memory
    (asks_desk g.D.Desk.asks _ _ c.args.session.now _ c.requires.is.0 (Ok (map part_value c.in-Ok.parts.items)) c.requires.was c.requires.is.1 (rw c.in-Ok.is at c.ask.ensures.asks) (rw c.in-Ok.is at c.ask.ensures.each))

pub returns-in-Err-clause-ok : goal.returns-in-Err-clause-ok
returns-in-Err-clause-ok g c =
    on_ok_weaker c.refuse.result
    (λ k. answered_desk g.D.Desk.asks _ _ c.args.session.now _ _ c.requires.is.0 (Err c.in-Err.fault) c.requires.was c.requires.is.1 (rw c.in-Err.is at c.ask.ensures.asks) (rw c.in-Err.is at c.ask.ensures.each)
    (λ was. k c.requires.is.0 was))
    c.refuse.ensures.ok

pub returns-in-Err-clause-err : goal.returns-in-Err-clause-err
returns-in-Err-clause-err g c =
    failed c.refuse.result c.args.session.now.request _ c.requires.was c.refuse.ensures.ended c.refuse.ensures.memory
    (asks_desk g.D.Desk.asks _ _ c.args.session.now _ c.requires.is.0 (Err c.in-Err.fault) c.requires.was c.requires.is.1 (rw c.in-Err.is at c.ask.ensures.asks) (rw c.in-Err.is at c.ask.ensures.each))
