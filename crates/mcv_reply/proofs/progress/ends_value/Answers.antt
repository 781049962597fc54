use Rattle.std.proofs.Common.{◌≡◌, ◌-◌, ◌∙◌, length, drop, Option, Some, None, IfSome, is_some, true, sym, arith}
use Rattle.std.proofs.lemmas.List.{length-drop, take_all}
use Rattle.mcv_reply.proofs.PlainSteps.{value_ended}
use Rattle.mcv_reply.proofs.progress.ends_value.Goals as goal

where_some : {X : Type 0} (o : Option X) (P : X → Type 0) (Q : Type 0) → ((x : X) → P x → Q) → IfSome o P → is_some o ≡ true → Q
where_some None P Q to h e = absurd (cc)
where_some (Some x) P Q to h e = to x h

pub returns : goal.returns
returns c = λ is.
    let piece = c.args.piece.now in
    let missing = c.args.missing in
    where_some c.behind.result _ _ (λ left h. value_ended missing piece left.now (omega arith) (sym (take_all (length piece - missing) (drop missing piece) (omega (arith, length-drop missing piece))) ∙ h)) c.behind.ensures (sym c.is_some.ensures ∙ is)
