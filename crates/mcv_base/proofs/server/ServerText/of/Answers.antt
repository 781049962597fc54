use Rattle.std.proofs.Common.{sym, ◌∙◌}
use Rattle.mcv_base.proofs.Colon.{server_short}
use Rattle.mcv_base.proofs.server.ServerText.of.Goals as goal

pub held-requires : goal.held-requires
held-requires c = server_short c.args.bytes.now (sym c.is_server.ensures.exact ∙ c.if-is_server.true)
