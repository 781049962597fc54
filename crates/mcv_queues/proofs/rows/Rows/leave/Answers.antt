use Rattle.std.proofs.Common.{rules, ◌≡◌, ◌∙◌, ap, sym, None}
use Rattle.mcv_queues.specs.Groups.{group_of}
use Rattle.mcv_queues.specs.Rows.{at, links, legs}
use Rattle.mcv_queues.specs.Roots.{root_of, known}
use Rattle.mcv_queues.proofs.GroupsAreHeaps
use Rattle.mcv_queues.proofs.SeenRows
use Rattle.mcv_queues.proofs.rows.Rows.leave.Goals as goal

pub leave_group-requires : goal.leave_group-requires
leave_group-requires g c =
    let row = at c.args.self.now c.args.number in
    let is = sym c.seen.ensures ∙ c.in-Some.is in
    record {
      known = λ h e. GroupsAreHeaps.known_group (legs c.args.self.now c.args.number) h (known c.args.roots.now) (c.requires.range c.args.number) (SeenRows.seen_group row c.in-Some.seen is ∙ sym c.group_at.ensures ∙ e);
      link = SeenRows.seen_link row c.in-Some.seen is;
    }

pub returns-clause-trees : goal.returns-clause-trees
returns-clause-trees g c = λ t.
    c.leave_group.ensures.trees (legs c.args.self.now) (SeenRows.seen_group (at c.args.self.now c.args.number) c.in-Some.seen (sym c.seen.ensures ∙ c.in-Some.is) ∙ sym c.group_at.ensures) t

pub returns-clause-server : goal.returns-clause-server
returns-clause-server g c = SeenRows.seen_server (at c.args.self.now c.args.number) c.in-Some.seen (sym c.seen.ensures ∙ c.in-Some.is)

pub returns-in_default-clause-trees : goal.returns-in_default-clause-trees
returns-in_default-clause-trees g c = λ t.
    let none : c.seen.result ≡ None = search rules in
    GroupsAreHeaps.left_none (legs c.args.self.now) (links c.args.self.now) (root_of c.args.roots.now) c.args.number t (ap group_of (SeenRows.seen_none (at c.args.self.now c.args.number) (sym c.seen.ensures ∙ none)))
