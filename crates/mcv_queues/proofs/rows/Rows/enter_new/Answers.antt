use Rattle.std.proofs.lemmas.Bool.{lt-ltb}
use Rattle.mcv_queues.specs.declared.roots.Group.TheVariants.{WaitingFor}
use Rattle.mcv_queues.specs.Groups.{is_in}
use Rattle.mcv_queues.specs.Rows.{links, legs}
use Rattle.mcv_queues.specs.Roots.{root_of, known}
use Rattle.mcv_queues.specs.Heap.{without}
use Rattle.mcv_queues.proofs.GroupsAreHeaps
use Rattle.mcv_queues.proofs.rows.Rows.enter_new.Goals as goal

pub set-requires : goal.set-requires
set-requires g c = lt-ltb c.args.server (known c.args.roots.now) c.requires.known

pub returns-clause-trees : goal.returns-clause-trees
returns-clause-trees g c = λ t.
    GroupsAreHeaps.entered_group (legs c.args.self.now) (links c.args.self.now) (links c.put_in_new-root.new.self) (root_of c.args.roots.now) (root_of c.set.new.self) c.args.number (WaitingFor c.args.server) c.put_in_new-root.result t c.requires.group
    c.get.result c.get.ensures (c.put_in_new-root.ensures.in_it (without (is_in (legs c.args.self.now) (WaitingFor c.args.server)) c.args.number)) c.set.ensures.roots
