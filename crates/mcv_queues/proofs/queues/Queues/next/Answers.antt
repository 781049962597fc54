use Rattle.std.proofs.Common.{rules, ◌≡◌, ◌<◌, ◌∙◌, ap, sym, subst, Some, None}
use Rattle.mcv_queues.specs.Rows.{links, legs}
use Rattle.mcv_queues.specs.Roots.{root_of}
use Rattle.mcv_queues.specs.declared.roots.Group.TheVariants.{WaitingFor}
use Rattle.mcv_queues.proofs.QueuesStaySound
use Rattle.mcv_queues.proofs.queues.Queues.next.Goals as goal

pub send_out-requires-clause-there : goal.send_out-requires-clause-there
send_out-requires-clause-there g c =
    let q = c.args.self.now in
    let e = ap (λ v. v.waiting) (sym c.server-state.ensures) ∙ c.in-Some.is in
    QueuesStaySound.waiting_rests c.args.server.0 (legs q.rows c.in-Some.number) ((q.sound.trees (WaitingFor c.args.server.0)).first c.in-Some.number e).0

pub returns-clause-first : goal.returns-clause-first
returns-clause-first g c =
    let q = c.args.self.now in
    let e = ap (λ v. v.waiting) (sym c.server-state.ensures) ∙ c.in-Some.is in
    QueuesStaySound.first_of_group (legs q.rows) (links q.rows) (root_of q.roots) (WaitingFor c.args.server.0) (Some c.in-Some.number) q.sound.trees e

pub returns-in_default-clause-nothing : goal.returns-in_default-clause-nothing
returns-in_default-clause-nothing g c = λ f.
    let q = c.args.self.now in
    let none : c.server-state.result.waiting ≡ None = search rules in
    let free : c.server-state.result.flying < c.args.limit = search rules in
    (subst (λ v. v.flying < c.args.limit) c.server-state.ensures free, QueuesStaySound.first_of_group (legs q.rows) (links q.rows) (root_of q.roots) (WaitingFor c.args.server.0) None q.sound.trees (ap (λ v. v.waiting) (sym c.server-state.ensures) ∙ none))
