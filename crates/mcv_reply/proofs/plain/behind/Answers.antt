use Rattle.std.proofs.Common.{Option, Some, None, MatchOption, IfSome}
use Rattle.mcv_reply.proofs.PlainLines.{prefix_parts}
use Rattle.mcv_reply.proofs.plain.behind.Goals as goal

found : {X : Type 0} (o : Option X) (Missing : Type 0) (Found To : X → Type 0) → ((x : X) → Found x → To x) → MatchOption o Missing Found → IfSome o To
found None Missing Found To to h = tt
found (Some x) Missing Found To to h = to x h

pub returns : goal.returns
returns c = found c.strip_prefix.result _ _ _ (λ left h. prefix_parts c.args.bytes.now c.args.text.now left.now h.0 h.1) c.strip_prefix.ensures.cases
