-- What is reported of a gap says more.
use Rattle.std.specs.Prelude.{OnOk}
use Rattle.std.specs.declared.result.Result.{Result}
use Rattle.std.specs.declared.result.Result.TheVariants.{Ok, Err}
use Rattle.mcv_certify.specs.Gap.{IfLost}
use Rattle.mcv_certify.specs.declared.gap.Gap.{Gap}
use Rattle.mcv_certify.specs.declared.gap.CertifyFault.{CertifyFault}
use Rattle.mcv_certify.specs.declared.gap.CertifyFault.TheVariants.{Lost, Memory}

pub if_lost : (e : CertifyFault) (P Q : Gap → Type 0) → ((f : Gap) → P f → Q f) → IfLost e P → IfLost e Q
if_lost (Lost f) P Q more h = more f h
if_lost Memory P Q more h = h

pub on_ok_both : {T E : Type 0} (r : Result T E) (P Q : Type 0) → OnOk r P → OnOk r Q → OnOk r (P × Q)
on_ok_both (Ok x) P Q p q = (p, q)
on_ok_both (Err e) P Q p q = tt
