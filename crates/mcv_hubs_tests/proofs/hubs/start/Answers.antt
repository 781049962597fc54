use denote.Param.Send.{sendable}
use Rattle.std.proofs.Crossing.{crosses}
use Rattle.mcv_hub.proofs.pass.Pass.TheSendSync as pass
use Rattle.mcv_hubs.proofs.Crossing.{seats_send, shared_hubs}
use Rattle.mcv_hubs_tests.proofs.hubs.start.Goals as goal

pub spawn-requires-send-F : goal.spawn-requires-send-F
spawn-requires-send-F g c κs within = search (shared_hubs, seats_send, pass.the_send, sendable, crosses) depth 24
