use Rattle.std.proofs.Common.{rules, ◌≡◌, ◌∙◌, false, nat_eq, cond, ap, sym, Some, None}
use Rattle.mcv_queues.specs.Forest.{raised}
use Rattle.mcv_queues.specs.Rows.{links}
use Rattle.mcv_queues.proofs.rows.Rows.hang.Goals as goal

pub returns-then-step-lower-clause-links : goal.returns-then-step-lower-clause-links
returns-then-step-lower-clause-links g c =
    let f = links c.args.self.now in
    let s = c.args.step in
    let elsewhere : nat_eq s.rest c.args.lower ≡ false = search rules in
    c.raise-then-step-lower.ensures.links ∙ ap (λ h. raised h s.rest None) c.raise.ensures.links ∙ sym (ap (λ b. cond b f (raised (raised f s.next (Some c.args.upper)) s.rest None)) elsewhere)
