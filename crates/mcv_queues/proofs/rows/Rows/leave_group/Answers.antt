use Rattle.std.proofs.Common.{rules, ◌≡◌, ◌∙◌, None}
use Rattle.mcv_queues.specs.Groups.{is_in}
use Rattle.mcv_queues.specs.Rows.{links}
use Rattle.mcv_queues.specs.Roots.{root_of}
use Rattle.mcv_queues.proofs.GroupsAreHeaps
use Rattle.mcv_queues.proofs.rows.Rows.leave_group.Goals as goal

pub set-requires : goal.set-requires
set-requires g c = c.requires.known c.in-Some.group c.in-Some.is

pub returns-in-Some-clause-trees : goal.returns-in-Some-clause-trees
returns-in-Some-clause-trees g c = λ all is t.
    GroupsAreHeaps.left_group all (links c.args.self.now) (links c.take_out-root.new.self) (root_of c.args.roots.now) (root_of c.set.new.self) c.args.number c.in-Some.group c.take_out-root.result t (is ∙ c.in-Some.is)
    c.get.result c.get.ensures (c.take_out-root.ensures.out (is_in all c.in-Some.group)) c.set.ensures.roots

pub returns-in_default-clause-trees : goal.returns-in_default-clause-trees
returns-in_default-clause-trees g c = λ all is t.
    let none : c.args.group ≡ None = search rules in
    GroupsAreHeaps.left_none all (links c.args.self.now) (root_of c.args.roots.now) c.args.number t (is ∙ none)
