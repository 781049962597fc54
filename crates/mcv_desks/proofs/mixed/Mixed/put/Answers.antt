use Rattle.std.proofs.Common.{Result, subst}
use Rattle.std.specs.Prelude.{Vec}
use Rattle.std.specs.declared.alloc.Global.{Global}
use Rattle.mcv_base.specs.declared.reply.Part.{Part}
use Rattle.mcv_session.specs.Desk.{answer_value}
use Rattle.mcv_session.specs.declared.desk.DeskFault.{DeskFault}
use Rattle.mcv_desks.specs.Mixed.{IsKeyAnswer}
use Rattle.mcv_desks.proofs.MixedReplies.{key_refused}
use Rattle.mcv_desks.proofs.mixed.Mixed.put.Goals as goal

pub keep-requires : goal.keep-requires
keep-requires g c = subst (λ (o : Result (Vec Part Global) DeskFault). IsKeyAnswer g.F.HubNames.opened_of c.args.self.now.request c.args.key (answer_value o)) c.in-Ok.is c.requires

pub refuse-requires : goal.refuse-requires
refuse-requires g c = key_refused g.F.HubNames.opened_of c.args.self.now.request c.args.key c.in-Err.fault (subst (λ (o : Result (Vec Part Global) DeskFault). IsKeyAnswer g.F.HubNames.opened_of c.args.self.now.request c.args.key (answer_value o)) c.in-Err.is c.requires)
