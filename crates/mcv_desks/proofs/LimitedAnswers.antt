-- An answer whose values have too many bytes is none.
use Rattle.std.proofs.Common.{◌≡◌, ◌⊎◌, ℕ, Err, List, Ok, Result, Vec, inl, inr, subst, sym}
use Rattle.std.specs.Prelude.{IfErr, IfOk}
use Rattle.std.specs.declared.alloc.Global.{Global}
use Rattle.mcv_base.specs.Reply.{ReplyValue}
use Rattle.mcv_base.specs.declared.reply.Part.{Part}
use Rattle.mcv_core.specs.CoreView.{CoreView}
use Rattle.mcv_session.specs.Desk.{answer_value}
use Rattle.mcv_session.specs.declared.desk.DeskFault.{DeskFault}
use Rattle.mcv_session.specs.declared.desk.DeskFault.TheVariants.{Memory}
use Rattle.mcv_text.specs.Request.{RequestValue}
use Rattle.mcv_desks.specs.Desks.{AsksHubs}

-- what the hubs answer, limited, is what they answer, or that memory ran out
pub limited_asks : (opened_of : ℕ → CoreView) (hubs : ℕ) (request : RequestValue) (X : Type 0) (outcome limited : Result (Vec Part Global) DeskFault) → IfOk limited (λ parts. outcome ≡ Ok parts) → IfErr limited (λ fault. (outcome ≡ Err fault) ⊎ ((fault ≡ Memory) × X))
    → AsksHubs opened_of hubs request (answer_value outcome) → AsksHubs opened_of hubs request (answer_value limited)
limited_asks opened_of hubs request X outcome (Ok parts) same other asks = subst (λ (r : Result (Vec Part Global) DeskFault). AsksHubs opened_of hubs request (answer_value r)) same asks
limited_asks opened_of hubs request X outcome (Err fault) same (inl is) asks = subst (λ (r : Result (Vec Part Global) DeskFault). AsksHubs opened_of hubs request (answer_value r)) is asks
limited_asks opened_of hubs request X outcome (Err fault) same (inr is) asks = inl is.0
