use Rattle.std.proofs.Common.{option_map}
use Rattle.std.proofs.lemmas.Result.{IfOk-weaker}
use Rattle.mcv_faults.specs.declared.place.TextPlace.{TextPlace}
use Rattle.mcv_show.proofs.fault.config_fault_text.Goals as goal

pub returns : goal.returns
returns c = IfOk-weaker c.refused_text.result _ _ (λ text is. (option_map (λ (p : TextPlace). (p.line, p.column)) c.in_ok-place.place, c.in_ok-place.ensures, is)) c.refused_text.ensures
