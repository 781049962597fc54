use Rattle.std.proofs.Common.{None}
use Rattle.mcv_queues.specs.Rows.{links}
use Rattle.mcv_queues.specs.Heap.{with_one}
use Rattle.mcv_queues.proofs.EnteredNumbers
use Rattle.mcv_queues.proofs.rows.Rows.put_in_new.Goals as goal

pub returns-clause-in_it : goal.returns-clause-in_it
returns-clause-in_it g c = λ w i out. EnteredNumbers.entered_new w (links c.args.self.now) (links c.join.new.self) c.args.root c.args.number c.join.result i out c.requires (c.join.ensures.joined (with_one w c.args.number) None)
