use Rattle.mcv_route.proofs.Building.{length-pool, list-at}
use Rattle.mcv_route.proofs.build.pool_leaf.Goals as goal

pub leaf_of-requires : goal.leaf_of-requires
leaf_of-requires c =
    length-pool c.args.lists.now c.args.number c.index-lists-number.result c.in_ok-servers.servers c.requires.filled c.requires.inside c.index-lists-number.is c.in_ok-servers.ensures

pub returns : goal.returns
returns c =
    let shown = list-at c.args.lists.now c.args.number c.index-lists-number.result c.in_ok-servers.servers c.requires.inside c.index-lists-number.is c.in_ok-servers.ensures in
    record { leaf = rw (← shown, ← c.in_ok-salt.ensures.items) c.leaf_of.ensures.leaf; table = rw (← shown, ← c.in_ok-salt.ensures.items) c.leaf_of.ensures.table }
