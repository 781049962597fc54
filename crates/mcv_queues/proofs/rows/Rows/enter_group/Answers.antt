use Rattle.std.proofs.Common.{rules, ◌≡◌, ◌∙◌, None}
use Rattle.mcv_queues.specs.Groups.{is_in}
use Rattle.mcv_queues.specs.Rows.{at, links}
use Rattle.mcv_queues.specs.Roots.{root_of}
use Rattle.mcv_queues.specs.Heap.{without}
use Rattle.mcv_queues.proofs.GroupsAreHeaps
use Rattle.mcv_queues.proofs.SeenRows
use Rattle.mcv_queues.proofs.rows.Rows.enter_group.Goals as goal

pub put_in-root-requires : goal.put_in-root-requires
put_in-root-requires g c = SeenRows.link_there (at c.args.self.now c.args.number) c.requires.there

pub set-requires : goal.set-requires
set-requires g c = c.requires.known c.in-Some.group c.in-Some.is

pub returns-in-Some-clause-trees : goal.returns-in-Some-clause-trees
returns-in-Some-clause-trees g c = λ all is t.
    GroupsAreHeaps.entered_group all (links c.args.self.now) (links c.put_in-root.new.self) (root_of c.args.roots.now) (root_of c.set.new.self) c.args.number c.in-Some.group c.put_in-root.result t (is ∙ c.in-Some.is)
    c.get.result c.get.ensures (c.put_in-root.ensures.in_it (without (is_in all c.in-Some.group) c.args.number)) c.set.ensures.roots

pub returns-in_default-clause-trees : goal.returns-in_default-clause-trees
returns-in_default-clause-trees g c = λ all is t.
    let none : c.args.group ≡ None = search rules in
    GroupsAreHeaps.entered_none all (links c.args.self.now) (root_of c.args.roots.now) c.args.number t (is ∙ none)
