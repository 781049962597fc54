use Rattle.mcv_witness.proofs.Losses.{findings_are_losses}
use Rattle.mcv_witness.proofs.laws.findings_are_losses.Goals as goal

pub returns : goal.returns
returns c = findings_are_losses
