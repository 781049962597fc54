use Rattle.std.proofs.Common.{Some, None}
use Rattle.mcv_queues.specs.Rows.{links, legs}
use Rattle.mcv_queues.specs.Roots.{root_of}
use Rattle.mcv_queues.specs.declared.roots.Group.TheVariants.{LegsInReplay}
use Rattle.mcv_queues.proofs.QueuesStaySound
use Rattle.mcv_queues.proofs.queues.Queues.in_replay.Goals as goal

pub returns-in-Some : goal.returns-in-Some
returns-in-Some g c = let q = c.args.self.now in QueuesStaySound.first_of_group (legs q.rows) (links q.rows) (root_of q.roots) LegsInReplay (Some c.in-Some.number) q.sound.trees c.in-Some.is

pub returns-in-None : goal.returns-in-None
returns-in-None g c = let q = c.args.self.now in QueuesStaySound.first_of_group (legs q.rows) (links q.rows) (root_of q.roots) LegsInReplay None q.sound.trees c.in-None.is
