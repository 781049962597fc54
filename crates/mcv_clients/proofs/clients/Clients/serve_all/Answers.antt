use Rattle.slab.specs.Slab.{Slab}
use Rattle.std.proofs.Common.{ap, subst, sym}
use Rattle.mcv_clients.specs.Clients.{AreStill, ClientsView}
use Rattle.mcv_clients.specs.Life.{ClientView}
use Rattle.mcv_clients.proofs.clients.Clients.serve_all.Goals as goal

pub returns-clause-still : goal.returns-clause-still
returns-clause-still g c =
    let served = c.serve_each.new.self.clients in
    let still = subst (λ (s : Slab ClientView). AreStill s served) c.take_touched-served.ensures.clients c.serve_each.ensures.still in
    subst (λ (s : Slab ClientView). AreStill c.args.self.now.clients s) (sym (ap (λ (v : ClientsView). v.clients) c.self.view_is)) still
