use Rattle.std.proofs.Common.{rules, ◌≡◌, ◌<◌, ◌∙◌, is_some, None, ap, refl, sym, subst}
use Rattle.std.specs.Prelude.{option_map}
use Rattle.mcv_queues.specs.Groups.{group_of}
use Rattle.mcv_queues.specs.Legs.{in_state}
use Rattle.mcv_queues.specs.Soundness.{AreTrees}
use Rattle.mcv_queues.specs.Rows.{at, links, legs}
use Rattle.mcv_queues.specs.Roots.{root_of, known}
use Rattle.mcv_queues.proofs.GroupsAreHeaps
use Rattle.mcv_queues.proofs.Places.{put_here}
use Rattle.mcv_queues.proofs.SeenRows
use Rattle.mcv_queues.proofs.rows.Rows.change_state.Goals as goal

pub leave_group-requires : goal.leave_group-requires
leave_group-requires g c =
    let row = at c.args.self.now c.args.number in
    let is = sym c.restate.ensures.seen ∙ c.in-Some.is in
    record {
      known = λ h e. GroupsAreHeaps.known_group (legs c.args.self.now c.args.number) h (known c.args.roots.now) (c.requires.range c.args.number) (SeenRows.seen_group row c.in-Some.seen is ∙ sym c.group_at.ensures ∙ e);
      link = ap (λ u. u c.args.number) c.restate.ensures.links ∙ SeenRows.seen_link row c.in-Some.seen is;
    }

pub enter_group-requires : goal.enter_group-requires
enter_group-requires g c =
    let row = at c.args.self.now c.args.number in
    let is = sym c.restate.ensures.seen ∙ c.in-Some.is in
    record {
      known = λ h e. GroupsAreHeaps.known_state c.in-Some.seen.server c.args.state h (known c.leave_group.new.roots) (SeenRows.seen_known row c.in-Some.seen (known c.leave_group.new.roots) (λ l q. subst (λ k. l.server.0 < k) (sym c.leave_group.ensures.known) (c.requires.range c.args.number l q)) is) (sym c.group_at-2.ensures ∙ e);
      there = ap (λ u. is_some (u c.args.number)) c.leave_group.ensures.legs ∙ SeenRows.there_in_state (at c.args.self.now) (legs c.restate.new.self) c.args.number c.in-Some.seen c.args.state is c.restate.ensures.legs;
    }

pub returns-clause-legs : goal.returns-clause-legs
returns-clause-legs g c = c.enter_group.ensures.legs ∙ c.leave_group.ensures.legs ∙ c.restate.ensures.legs

pub returns-clause-trees : goal.returns-clause-trees
returns-clause-trees g c = λ t.
    let row = at c.args.self.now c.args.number in
    let is = sym c.restate.ensures.seen ∙ c.in-Some.is in
    let out = c.leave_group.ensures.trees (legs c.args.self.now) (SeenRows.seen_group row c.in-Some.seen is ∙ sym c.group_at.ensures) (subst (λ f. AreTrees (legs c.args.self.now) f (root_of c.args.roots.now)) (sym c.restate.ensures.links) t) in
    let changed = GroupsAreHeaps.beside_with_state (legs c.args.self.now) (legs c.restate.new.self) (links c.leave_group.new.self) (links c.leave_group.new.self) (root_of c.leave_group.new.roots) c.args.number c.args.state out c.restate.ensures.legs refl in
    let in_it = c.enter_group.ensures.trees (legs c.restate.new.self) (SeenRows.group_in_state (at c.args.self.now) (legs c.restate.new.self) c.args.number c.in-Some.seen c.args.state is c.restate.ensures.legs ∙ sym c.group_at-2.ensures) changed in
    subst (λ l. AreTrees l (links c.enter_group.new.self) (root_of c.enter_group.new.roots)) (sym (c.enter_group.ensures.legs ∙ c.leave_group.ensures.legs)) in_it

pub returns-clause-server : goal.returns-clause-server
returns-clause-server g c = SeenRows.seen_server (at c.args.self.now c.args.number) c.in-Some.seen (sym c.restate.ensures.seen ∙ c.in-Some.is)

pub returns-in_default-clause-trees : goal.returns-in_default-clause-trees
returns-in_default-clause-trees g c = λ t.
    let none : c.restate.result ≡ None = search rules in
    let gone = SeenRows.seen_none (at c.args.self.now c.args.number) (sym c.restate.ensures.seen ∙ none) in
    let out = GroupsAreHeaps.left_none (legs c.args.self.now) (links c.args.self.now) (root_of c.args.roots.now) c.args.number t (ap group_of gone) in
    let changed = GroupsAreHeaps.beside_with_state (legs c.args.self.now) (legs c.restate.new.self) (links c.args.self.now) (links c.restate.new.self) (root_of c.args.roots.now) c.args.number c.args.state out c.restate.ensures.legs c.restate.ensures.links in
    GroupsAreHeaps.entered_none (legs c.restate.new.self) (links c.restate.new.self) (root_of c.args.roots.now) c.args.number changed
    (ap (λ u. group_of (u c.args.number)) c.restate.ensures.legs ∙ ap group_of (put_here (legs c.args.self.now) c.args.number _) ∙ ap (λ o. group_of (option_map (in_state c.args.state) o)) gone)
