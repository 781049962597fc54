use Rattle.std.proofs.Common.{◌+◌}
use Rattle.mcv_hubs.proofs.Counting.{same_tally}
use Rattle.mcv_hubs.proofs.seats.merge.Goals as goal

pub returns : goal.returns
returns g c =
    let a = c.args.all.now in
    let o = c.args.one in
    let n = c.merge.new.self in
    same_tally (a.begun.amount + o.begun.amount) n.begun.amount (a.taken.amount + o.taken.amount) n.taken.amount (a.begun.parts + o.begun.parts) n.begun.parts (a.taken.parts + o.taken.parts) n.taken.parts c.merge.ensures.begun.0 c.merge.ensures.taken.0 c.merge.ensures.begun.1 c.merge.ensures.taken.1
