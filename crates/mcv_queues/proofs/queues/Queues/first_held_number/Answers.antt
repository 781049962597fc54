use Rattle.std.proofs.Common.{inl, inr, Some, None}
use Rattle.mcv_queues.specs.Groups.{IsFirstHeld}
use Rattle.mcv_queues.specs.Rows.{links, legs}
use Rattle.mcv_queues.specs.Roots.{root_of}
use Rattle.mcv_queues.specs.declared.roots.Group.TheVariants.{HeldLegs, RefusedLegs}
use Rattle.mcv_queues.proofs.QueuesStaySound
use Rattle.mcv_queues.proofs.queues.Queues.first_held_number.Goals as goal

pub returns-in-Some-clause-some : goal.returns-in-Some-clause-some
returns-in-Some-clause-some g c = let q = c.args.self.now in inl (QueuesStaySound.first_of_group (legs q.rows) (links q.rows) (root_of q.roots) HeldLegs (Some c.in-Some.number) q.sound.trees c.in-Some.is)

pub returns-in-None-clause-some : goal.returns-in-None-clause-some
returns-in-None-clause-some g c = let q = c.args.self.now in
    QueuesStaySound.if_some {P = λ n. IsFirstHeld (legs q.rows) n} q.roots.refused (λ n e. inr (QueuesStaySound.first_of_group (legs q.rows) (links q.rows) (root_of q.roots) HeldLegs None q.sound.trees c.in-None.is, QueuesStaySound.first_of_group (legs q.rows) (links q.rows) (root_of q.roots) RefusedLegs (Some n) q.sound.trees e))

pub returns-in-None-clause-none : goal.returns-in-None-clause-none
returns-in-None-clause-none g c = let q = c.args.self.now in λ e. (QueuesStaySound.first_of_group (legs q.rows) (links q.rows) (root_of q.roots) HeldLegs None q.sound.trees c.in-None.is, QueuesStaySound.first_of_group (legs q.rows) (links q.rows) (root_of q.roots) RefusedLegs None q.sound.trees e)
