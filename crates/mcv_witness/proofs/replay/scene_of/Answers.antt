use Rattle.std.proofs.Common.{List, ℕ, subst}
use Rattle.mcv_base.specs.Key.{IsKeyFault}
use Rattle.mcv_witness.specs.Finding.{finding_of}
use Rattle.mcv_witness.proofs.BreakDecision.{faulty_key}
use Rattle.mcv_witness.proofs.replay.scene_of.Goals as goal

pub returns-in-Err : goal.returns-in-Err
returns-in-Err c =
    faulty_key c.args.routes.now (finding_of c.args.finding.now) c.in-Err.field-0 (subst (λ (w : List ℕ). IsKeyFault w c.in-Err.field-0) c.as_slice.ensures.value c.in-Err.ensures.fault)
