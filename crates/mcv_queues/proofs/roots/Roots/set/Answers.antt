use Rattle.std.proofs.Common.{rules, ◌<◌, ◌∙◌, ap, sym, refl, length}
use Rattle.std.specs.Vec.{with_item}
use Rattle.std.proofs.lemmas.Bool.{ltb-true}
use Rattle.mcv_queues.specs.declared.roots.Server.{Server}
use Rattle.mcv_queues.specs.declared.roots.Roots.{Roots}
use Rattle.mcv_queues.specs.Roots.{put_root}
use Rattle.mcv_queues.specs.Roots.{root_of, known, is_known}
use Rattle.mcv_queues.proofs.RootsAreSet
use Rattle.mcv_queues.proofs.roots.Roots.set.Goals as goal

pub index_mut-requires : goal.index_mut-requires
index_mut-requires c =
    let low : c.in-WaitingFor.server < length c.args.self.now.servers.items = ltb-true _ _ (ap (is_known (known c.args.self.now)) (sym c.in-WaitingFor.is) ∙ c.requires) in
    search rules

pub index_mut-requires-in-SpooledFor : goal.index_mut-requires-in-SpooledFor
index_mut-requires-in-SpooledFor c =
    let low : c.in-SpooledFor.server < length c.args.self.now.servers.items = ltb-true _ _ (ap (is_known (known c.args.self.now)) (sym c.in-SpooledFor.is) ∙ c.requires) in
    search rules

pub returns-in-WaitingFor-clause-roots : goal.returns-in-WaitingFor-clause-roots
returns-in-WaitingFor-clause-roots c = λ other.
    let low : c.in-WaitingFor.server < length c.args.self.now.servers.items = ltb-true _ _ (ap (is_known (known c.args.self.now)) (sym c.in-WaitingFor.is) ∙ c.requires) in
    let v : Server = record { waiting = c.args.root; spooled = c.server-old.result.spooled; flying = c.server-old.result.flying } in
    let after : Roots = record { servers = with_item c.args.self.now.servers c.in-WaitingFor.server v; held = c.args.self.now.held; refused = c.args.self.now.refused; in_replay = c.args.self.now.in_replay } in
    RootsAreSet.set_waiting c.args.self.now after c.in-WaitingFor.server c.args.root v other refl refl refl refl refl (ap (λ v. v.spooled) c.server-old.ensures) low
    ∙ ap (λ g. put_root (root_of c.args.self.now) g c.args.root other) (sym c.in-WaitingFor.is)

pub returns-in-SpooledFor-clause-roots : goal.returns-in-SpooledFor-clause-roots
returns-in-SpooledFor-clause-roots c = λ other.
    let low : c.in-SpooledFor.server < length c.args.self.now.servers.items = ltb-true _ _ (ap (is_known (known c.args.self.now)) (sym c.in-SpooledFor.is) ∙ c.requires) in
    let v : Server = record { waiting = c.server-old-in-SpooledFor.result.waiting; spooled = c.args.root; flying = c.server-old-in-SpooledFor.result.flying } in
    let after : Roots = record { servers = with_item c.args.self.now.servers c.in-SpooledFor.server v; held = c.args.self.now.held; refused = c.args.self.now.refused; in_replay = c.args.self.now.in_replay } in
    RootsAreSet.set_spooled c.args.self.now after c.in-SpooledFor.server c.args.root v other refl refl refl refl refl (ap (λ v. v.waiting) c.server-old-in-SpooledFor.ensures) low
    ∙ ap (λ g. put_root (root_of c.args.self.now) g c.args.root other) (sym c.in-SpooledFor.is)
