use Rattle.std.proofs.Common.{subst}
use Rattle.std.specs.Str.{bytes_eq}
use Rattle.mcv_pools.specs.Table.{number_in}
use Rattle.mcv_queues.specs.Queues.{legs}
use Rattle.mcv_core.specs.Opening.{IsOpenedErrand}
use Rattle.mcv_core.proofs.OpenedCores.{stored}
use Rattle.mcv_core.proofs.opening.Opened.store.Goals as goal

pub returns-clause-opened : goal.returns-clause-opened
returns-clause-opened c = λ before numbers are.
    let server = c.in-Some.server in
    let errand = c.in_ok-errand.errand in
    let delete = c.args.delete.now in
    let is = subst (λ v. IsOpenedErrand server v errand) c.copied.ensures c.in_ok-errand.ensures in
    stored before numbers (legs c.args.self.now.queues) c.args.self.now.count are c.args.seq server delete.rest errand is (number_in bytes_eq c.args.servers.now delete.server) c.in-Some.ensures (legs c.add.new.self.queues) c.add.ensures.legs c.add.new.self.count c.add.ensures.count
