use Rattle.std.proofs.Common.{◌+◌}
use Rattle.mcv_hubs.proofs.Opening.{first_four, last_four}
use Rattle.mcv_hubs.proofs.hubs.Hubs.new.Goals as goal

pub open_first-requires-clause-begun : goal.open_first-requires-clause-begun
open_first-requires-clause-begun g c = first_four g.F.Names.name_of g.F.Names.parts_of (c.args.capacity.seats + 1) c.args.begun c.requires.begun

pub open_first-requires-clause-taken : goal.open_first-requires-clause-taken
open_first-requires-clause-taken g c = first_four g.G.Names.name_of g.G.Names.parts_of (c.args.capacity.seats + 1) c.args.taken c.requires.taken

pub open_last-requires-clause-begun : goal.open_last-requires-clause-begun
open_last-requires-clause-begun g c = last_four g.F.Names.name_of g.F.Names.parts_of (c.args.capacity.seats + 1) c.args.begun c.requires.begun

pub open_last-requires-clause-taken : goal.open_last-requires-clause-taken
open_last-requires-clause-taken g c = last_four g.G.Names.name_of g.G.Names.parts_of (c.args.capacity.seats + 1) c.args.taken c.requires.taken
