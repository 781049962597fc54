use Rattle.std.proofs.Common.{ap}
use Rattle.mcv_reply.proofs.Stages.{last_wrong}
use Rattle.mcv_reply.proofs.Steps.{last_made}
use Rattle.mcv_reply.proofs.progress.last_ended.Goals as goal

pub returns-in-None : goal.returns-in-None
returns-in-None c =
    let p = c.args.progress.now in
    last_wrong c.args.op c.args.key.now c.requires.clean p.head p.first.items p.body.items c.requires.at.0 p.text.items c.requires.at.1 c.requires.at.2.no_end (c.in-None.ensures c.args.key.now p.text.items c.requires.clean c.requires.at.2)

pub returns-in-Some : goal.returns-in-Some
returns-in-Some c =
    let p = c.args.progress.now in
    last_made c.args.op c.args.key.now c.requires.clean p.head p.first.items p.body.items c.requires.at.0 c.requires.at.1 p.text.items c.replace-body.result.items c.has_cas.result c.in-Some._said.first c.in-Some._said.head c.hit.result
    (c.in-Some.ensures c.args.key.now p.text.items c.requires.clean c.requires.at.2) c.has_cas.ensures (ap (λ t. t.items) c.replace-body.ensures.value) c.hit.ensures
