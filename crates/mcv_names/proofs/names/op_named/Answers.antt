use Rattle.std.proofs.Common.{refl}
use Rattle.mcv_names.proofs.Operations.{found-op_named}
use Rattle.mcv_names.proofs.names.op_named.Goals as goal

pub returns : goal.returns
returns c = found-op_named c.args.name.now c.args.name.now c.named.result refl c.named.ensures
