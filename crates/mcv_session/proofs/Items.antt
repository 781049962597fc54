-- Items in a row: those that a session takes, and their answers.
use Rattle.std.proofs.Common.{◌≡◌, List, [], ◌∷◌, ◌++◌, Bool, false, refl, ap, subst, Result, Ok, Err, if◌then◌else◌, OnErr}
use Rattle.std.specs.List.{list_any}
use Rattle.mcv_base.specs.Reply.{ReplyValue}
use Rattle.mcv_text.specs.Request.{RequestValue, ItemValue}
use Rattle.mcv_session.specs.declared.desk.DeskFault.{DeskFault}
use Rattle.mcv_session.specs.declared.session.Flow.TheVariants.{GoesOn, Ends}
use Rattle.mcv_session.specs.Exchange.{Exchange, ends}
use Rattle.mcv_session.specs.Session.{Chain, Goes, taken, flow_after}

pub taken_on : (item : ItemValue) (items : List ItemValue) → ends item ≡ false → taken (item ∷ items) ≡ item ∷ taken items
taken_on item items e = ap (λ b. item ∷ (if b then [] else taken items)) e

pub flow_is : (items : List ItemValue) (b : Bool) → list_any ends items ≡ b → flow_after items ≡ (if b then Ends else GoesOn)
flow_is items b e = ap (λ a. if a then Ends else GoesOn) e

module _ {D : Type 0} (asks : D → RequestValue → Result (List ReplyValue) DeskFault → D → Type 0) where
  pub chain_join : (old mid new : D) (log more : List Exchange) → Chain asks old log mid → Chain asks mid more new → Chain asks old (log ++ more) new
  chain_join old mid new [] more c d = subst (λ o. Chain asks o more new) c d
  chain_join old mid new (x ∷ log) more c d = (c.0, c.1, chain_join c.0 mid new log more c.2 d)

  pub chain_push : (old mid new : D) (log : List Exchange) (x : Exchange) → Chain asks old log mid → Goes asks x mid new → Chain asks old (log ++ x ∷ []) new
  chain_push old mid new log x c g = chain_join old mid new log (x ∷ []) c (new, g, refl)

pub on_err_always : {T E P : Type 0} (r : Result T E) → P → OnErr r P
on_err_always (Ok x) p = tt
on_err_always (Err e) p = p
