use Rattle.std.proofs.Common.{None, Option, Some, ap, refl, subst}
use Rattle.std.specs.Prelude.{string_bytes}
use Rattle.mcv_names.specs.declared.fault.ConfigFault.{ConfigFault}
use Rattle.mcv_command.specs.Detail.{IsSecondLine}
use Rattle.mcv_command.proofs.detail.second_line.Goals as goal

pub returns-in_ok-detail_of-in-Some : goal.returns-in_ok-detail_of-in-Some
returns-in_ok-detail_of-in-Some c =
    let detail = c.in_ok-detail_of-in-Some.ensures in
    subst (λ (found : Option ConfigFault). IsSecondLine c.args.input.now found (Some (string_bytes c.in_ok-detail_of-in-Some.field-0))) c.in-Some.ensures (detail.0, detail.1, ap Some detail.2)

pub returns-in-None : goal.returns-in-None
returns-in-None c = subst (λ (found : Option ConfigFault). IsSecondLine c.args.input.now found None) c.in-None.ensures refl
