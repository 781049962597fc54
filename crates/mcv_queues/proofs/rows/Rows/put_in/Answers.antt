use Rattle.mcv_queues.specs.Rows.{links}
use Rattle.mcv_queues.proofs.EnteredNumbers
use Rattle.mcv_queues.proofs.rows.Rows.put_in.Goals as goal

pub put_in_new-requires : goal.put_in_new-requires
put_in_new-requires g c = EnteredNumbers.freed_here (links c.args.self.now) (links c.free.new.self) c.args.number c.requires c.free.ensures.links

pub returns-clause-in_it : goal.returns-clause-in_it
returns-clause-in_it g c = λ w i out. EnteredNumbers.entered_freed w (links c.args.self.now) (links c.free.new.self) (links c.put_in_new.new.self) c.args.root c.args.number c.put_in_new.result i out c.free.ensures.links (c.put_in_new.ensures.in_it w)
