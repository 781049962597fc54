use Rattle.std.proofs.Common.{◌∙◌, List, ℕ, Option, ap, option_map}
use Rattle.std.proofs.lemmas.Result.{IfOk-weaker}
use Rattle.mcv_faults.specs.FaultLine.{fault_line}
use Rattle.mcv_faults.specs.declared.place.TextPlace.{TextPlace}
use Rattle.mcv_faults.proofs.detail.standing_line.Goals as goal

pub returns : goal.returns
returns c =
    let place = option_map (λ (p : TextPlace). (p.line, p.column)) c.args.standing.now.place in
    IfOk-weaker c.fault_line.result _ _ (λ line is. is ∙ ap (λ (said : Option (List ℕ)). fault_line c.args.kind said place) c.text_of.ensures) c.fault_line.ensures
