use Rattle.std.proofs.Common.{subst}
use Rattle.mcv_config.specs.Config.{Faulty}
use Rattle.mcv_names.specs.Fault.{Refuses}
use Rattle.mcv_names.specs.declared.fault.ReadFault.{ReadFault}
use Rattle.mcv_mend.proofs.run.read_again.Goals as goal

pub returns-in-Err-Config-clause-fault : goal.returns-in-Err-Config-clause-fault
returns-in-Err-Config-clause-fault c = subst (λ (f : ReadFault). Refuses f (Faulty c.args.text.now)) c.in-Err-Config.field-0-is c.in-Err-Config.ensures.fault
