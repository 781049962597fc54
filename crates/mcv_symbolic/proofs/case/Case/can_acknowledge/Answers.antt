use Rattle.std.proofs.Common.{option_map}
use Rattle.mcv_route.specs.View.{view}
use Rattle.mcv_rules.specs.NormalForm.{whole_of}
use Rattle.mcv_symbolic.proofs.CaseSets.{done_of}
use Rattle.mcv_symbolic.proofs.case.Case.can_acknowledge.Goals as goal

pub returns : goal.returns
returns c =
    let e = c.self.inside in
    done_of c.args.self.now (view e.route.now) e.asked.op e.asked.rest.now (option_map (λ m. m.0) e.asked.since) (whole_of e.plan) c.self.view_is c.self.invariant c.requires c.reply_if_all.result c.is_done.result
    c.reply_if_all.ensures c.is_done.ensures
